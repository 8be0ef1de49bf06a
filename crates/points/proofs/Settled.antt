-- Each marked point reads what it must, by working the definitions out. Assumes nothing.
use mathlib.Core.Path.{◌≡◌, refl}
use mathlib.Core.List.{map}
use lib.Ieee.{round, of_int, lt, le, add, mul}
use Rattle.arith.specs.Printed.{printed}
use Rattle.arith.specs.Bits.{finite}
use Rattle.subregions.specs.H2ab.{h2ab}
use Rattle.subregions.specs.Subregions.{by_hs}
use Rattle.versions.specs.Versions.{version_for}
use Rattle.sheet_writer.specs.Write.{sheet_of}
use Rattle.saturation_line.specs.Pressure.{ps_of}
use Rattle.places.specs.Places.{place_pt, table_of, above_of}
use Rattle.sums.specs.Queries.{answer_pt}
use Rattle.points.specs.Marked.{MarkedPoint, marked, reading_of}

pub settled : map (λ (x : MarkedPoint). reading_of x.asked) marked ≡ map (λ (x : MarkedPoint). x.reading) marked
unfolding marked reading_of sheet_of version_for answer_pt place_pt table_of above_of ps_of by_hs h2ab finite printed round of_int lt le add mul
settled = refl
