use Rattle.std.proofs.Common.{◌+◌, sym, refl, arith}
use Rattle.cursor.proofs.Laws.{length_is}
use Rattle.chain.proofs.Chains.{chain_past}
use Rattle.chain.proofs.ChainCursor.nth.Goals as goal

pub returns-else-n-len-clause-rest : goal.returns-else-n-len-clause-rest
returns-else-n-len-clause-rest g c =
    let s = c.len-len.ensures.value in
    chain_past _ _ (length_is _ _ _ c.len-len.ensures.whole (sym s)) _ _ (c.args.n + 1) (c.args.n + 1) _ _ _ _ (omega arith) (omega arith) refl (omega arith) s (omega arith) c.advance.ensures.rest c.nth-else-n-len.ensures.rest
