use Rattle.tariff.proofs.TenDays.{ten_comparison_days, comparison_days_are_latest}
use Rattle.tariff.proofs.laws.ten_latest_comparison_days.Goals as goal

pub returns : goal.returns
returns c = record { ten = ten_comparison_days; latest = comparison_days_are_latest }
