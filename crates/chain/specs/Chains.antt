-- What Chain shows of the rows below it.
use Rattle.cursor.specs.Rows.{Row, first, join}
use Rattle.chain.specs.declared.Chain.{Chain}

abbrev pub chain_row : {C D X : Type 0} → (C → Row X) → (D → Row X) → Chain C D → Row X
chain_row r t s = first s.left (join (r s.a) (t s.b))

abbrev pub chain_home : {C D X : Type 0} → (C → Row X) → (D → Row X) → Chain C D → Row X
chain_home r t s = first s.home (join (r s.a) (t s.b))
