-- What Skip shows of the rows below it.
use Rattle.cursor.specs.Rows.{Row, after}
use Rattle.skip.specs.declared.Skip.{Skip}

abbrev pub skip_row : {C X : Type 0} → (C → Row X) → Skip C → Row X
skip_row below s = after s.n (below s.iter)

abbrev pub skip_home : {C X : Type 0} → (C → Row X) → Skip C → Row X
skip_home below s = after s.home (below s.iter)
