use Rattle.std.proofs.Common.{sym, refl, arith}
use Rattle.cursor.proofs.Laws.{length_is}
use Rattle.chain.proofs.Chains.{chain_past}
use Rattle.chain.proofs.ChainCursor.advance.Goals as goal

pub returns-else-most-len-clause-rest : goal.returns-else-most-len-clause-rest
returns-else-most-len-clause-rest g c =
    let s = c.len-len.ensures.value in
    chain_past _ _ (length_is _ _ _ c.len-len.ensures.whole (sym s)) _ _ c.args.n c.min-most.result c.min-here.result _ _ _ (omega arith) c.min-most.ensures refl (omega arith) (omega arith) (omega arith) c.advance.ensures.rest c.advance-else-most-len.ensures.rest
