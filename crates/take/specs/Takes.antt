-- What Take shows of the rows below it.
use Rattle.cursor.specs.Rows.{Row, first}
use Rattle.take.specs.declared.Take.{Take}

abbrev pub take_row : {C X : Type 0} → (C → Row X) → Take C → Row X
take_row below s = first s.n (below s.iter)

abbrev pub take_home : {C X : Type 0} → (C → Row X) → Take C → Row X
take_home below s = first s.home (below s.iter)
