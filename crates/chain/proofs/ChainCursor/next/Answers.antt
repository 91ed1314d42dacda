use Rattle.std.proofs.Common.{refl, arith}
use Rattle.chain.proofs.Chains.{next_here, next_there}
use Rattle.chain.proofs.ChainCursor.next.Goals as goal

pub returns-in-Some-clause-value : goal.returns-in-Some-clause-value
returns-in-Some-clause-value g c =
    (next_here _ _ _ _ _ (g.met.L.Cursor.closed c.args.self.now.a) (omega arith) (omega arith) refl c.next.ensures.rest _ c.in-Some.ensures.value).0

pub returns-in-Some-clause-rest : goal.returns-in-Some-clause-rest
returns-in-Some-clause-rest g c =
    (next_here _ _ _ _ _ (g.met.L.Cursor.closed c.args.self.now.a) (omega arith) (omega arith) refl c.next.ensures.rest _ c.in-Some.ensures.value).1

pub returns-in-None-clause-value : goal.returns-in-None-clause-value
returns-in-None-clause-value g c =
    (next_there _ _ _ _ _ (g.met.L.Cursor.closed c.args.self.now.a) (omega arith) (omega arith) refl c.next.ensures.rest _ _ c.in-None.ensures.value c.next-in-None.ensures.value c.next-in-None.ensures.rest).0

pub returns-in-None-clause-rest : goal.returns-in-None-clause-rest
returns-in-None-clause-rest g c =
    (next_there _ _ _ _ _ (g.met.L.Cursor.closed c.args.self.now.a) (omega arith) (omega arith) refl c.next.ensures.rest _ _ c.in-None.ensures.value c.next-in-None.ensures.value c.next-in-None.ensures.rest).1
