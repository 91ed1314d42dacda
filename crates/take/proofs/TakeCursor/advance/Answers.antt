use Rattle.std.proofs.Common.{arith}
use Rattle.cursor.specs.Closing.{taken_le}
use Rattle.take.proofs.Takes.{take_ahead}
use Rattle.take.proofs.TakeCursor.advance.Goals as goal

pub returns-clause-rest : goal.returns-clause-rest
returns-clause-rest g c =
    let l = taken_le (g.C.Cursor.row c.args.self.now.iter) c.min-most.result in
    take_ahead _ _ _ _ _ _ (g.met.C.Cursor.closed c.args.self.now.iter) c.min-most.ensures (omega arith) c.advance.ensures.rest
