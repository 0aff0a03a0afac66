-- The numbers that callers are shown for refusals.
use Rattle.std.specs.Prelude.{ℕ}
use Rattle.tariff.specs.declared.call.SeasonRefusal.{SeasonRefusal}
use Rattle.tariff.specs.declared.call.SeasonRefusal.TheVariants.{YearOutside, SeasonClosed, MomentPastEnd, MomentBeforeClock, EnrolmentTooLate, NoSuchKind, SitesFull, NoSuchSite, NoSuchWeek, NominationTooLate, FigureOutside, FigureAboveHighest, NoBusinessDay, HoursOutside, NoticeOutside, DayAnnounced, WeekFull, SeasonFull, NoEventStands, RevocationTooLate}
use Rattle.tariff.specs.Gaps.{baseline_fault_number}
use Rattle.tariff.specs.declared.statement.StatementRefusal.{StatementRefusal}
use Rattle.tariff.specs.declared.statement.StatementRefusal.TheVariants.{SeasonNotClosed, NoSuchSite as NoSuchSiteToSettle, EventWithoutBaseline}

-- of a call of a season
abbrev pub season_refusal_number : SeasonRefusal → ℕ
season_refusal_number YearOutside = 1
season_refusal_number SeasonClosed = 2
season_refusal_number MomentPastEnd = 4
season_refusal_number MomentBeforeClock = 5
season_refusal_number EnrolmentTooLate = 6
season_refusal_number NoSuchKind = 7
season_refusal_number SitesFull = 8
season_refusal_number NoSuchSite = 9
season_refusal_number NoSuchWeek = 10
season_refusal_number NominationTooLate = 11
season_refusal_number FigureOutside = 12
season_refusal_number FigureAboveHighest = 13
season_refusal_number NoBusinessDay = 14
season_refusal_number HoursOutside = 15
season_refusal_number NoticeOutside = 16
season_refusal_number DayAnnounced = 17
season_refusal_number WeekFull = 18
season_refusal_number SeasonFull = 19
season_refusal_number NoEventStands = 20
season_refusal_number RevocationTooLate = 21

-- of a request for a statement
abbrev pub statement_refusal_number : StatementRefusal → ℕ
statement_refusal_number SeasonNotClosed = 3
statement_refusal_number NoSuchSiteToSettle = 9
statement_refusal_number (EventWithoutBaseline x) = baseline_fault_number x.fault
