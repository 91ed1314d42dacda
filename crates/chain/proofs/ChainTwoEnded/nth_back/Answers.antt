use Rattle.std.proofs.Common.{◌+◌, sym, refl, inl, inr, arith}
use Rattle.cursor.proofs.Laws.{first_all, length_is}
use Rattle.chain.proofs.Chains.{chain_back}
use Rattle.chain.proofs.ChainTwoEnded.nth_back.Goals as goal

pub returns-then-n-b_shown-clause-rest : goal.returns-then-n-b_shown-clause-rest
returns-then-n-b_shown-clause-rest g c =
    let u = c.len-a_len.ensures in
    let v = c.len-b_len.ensures in
    chain_back _ _ (length_is _ _ _ u.whole (sym u.value)) _ _ _ (length_is _ _ _ v.whole (sym v.value)) (omega (arith, u.value)) (omega (arith, v.value)) (omega arith)
    (c.args.n + 1) _ _ _ c.len-a_len.result _ refl (sym (first_all _ _ _ u.whole (omega arith))) c.nth_back.ensures.rest (inr (omega (arith, u.value))) (omega (arith, u.value, v.value))

pub returns-else-n-b_shown-clause-rest : goal.returns-else-n-b_shown-clause-rest
returns-else-n-b_shown-clause-rest g c =
    let u = c.len-a_len.ensures in
    let v = c.len-b_len.ensures in
    chain_back _ _ (length_is _ _ _ u.whole (sym u.value)) _ _ _ (length_is _ _ _ v.whole (sym v.value)) (omega (arith, u.value)) (omega (arith, v.value)) (omega arith)
    (c.args.n + 1) _ _ _ _ c.len-b_len.result refl c.nth_back-else-n-b_shown.ensures.rest (sym (first_all _ _ _ v.whole (omega arith))) (inl (omega (arith, u.value))) (omega (arith, u.value, v.value))
