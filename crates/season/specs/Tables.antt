-- What a table of sites stands for: its first cells, in the order of enrolment.
use Rattle.std.specs.Prelude.{List, take}
use Rattle.tariff.specs.declared.season.Site.{Site}
use Rattle.season.specs.declared.sites.SiteTable.{SiteTable}

abbrev pub listed : SiteTable → List Site
listed t = take t.count t.sites
