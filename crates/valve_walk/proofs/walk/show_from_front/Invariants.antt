use Rattle.cursor.specs.Rows.{Length, size}
use Rattle.valve_walk.proofs.walk.show_from_front.Given as goal

-- the row has an end, as `len` says
abbrev pub invariant-loop-stroke : goal.invariant-loop-stroke
invariant-loop-stroke g l = Length (g.C.Cursor.row l.pile) (size (g.C.Cursor.row l.pile))

abbrev pub decreases-loop-stroke : goal.decreases-loop-stroke
decreases-loop-stroke g l = size (g.C.Cursor.row l.pile)
