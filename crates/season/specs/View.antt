-- The season that a record stands for.
use Rattle.std.specs.Prelude.{◌≡◌, ℕ, Bool}
use Rattle.tariff.specs.Season as model
use Rattle.season.specs.Tables.{listed}
use Rattle.season.specs.declared.events.EventTable.{EventTable}
use Rattle.season.specs.declared.season.Season.{Season}
use Rattle.season.specs.declared.sites.SiteTable.{SiteTable}

abbrev pub view_of : ℕ → Bool → ℕ → SiteTable → EventTable → model.Season
view_of year closed clock sites events = record { year = year; closed = closed; clock = clock; sites = listed sites; days = events.days }

abbrev pub view : Season → model.Season
view s = view_of s.year s.closed s.clock s.sites s.events

-- two records hold the same in every cell, used or not
pub record SameCells (s t : Season) : Type 0 where
  pub year : s.year ≡ t.year
  pub closed : s.closed ≡ t.closed
  pub clock : s.clock ≡ t.clock
  pub sites : s.sites ≡ t.sites
  pub events : s.events ≡ t.events
