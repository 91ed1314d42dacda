-- A frame's bytes: two, and a body behind them.
use Rattle.std.proofs.Common.{◌≡◌, ℕ, suc, ◌-◌, ◌≤◌, List, [], ◌∷◌, ◌++◌, length, take, drop, set, ap, ◌∙◌, ap₂, append-nil, arith}
use lib.Seq.{take-length, drop-length}
use borrow.Rule.Slice.PartMut.{put_mid}
use Rattle.frame.specs.Bytes.{over}

pub two_then : (a b : ℕ) (xs bs w : List ℕ) → 2 ≤ length xs →
    w ≡ over bs (take (length (set (set xs 1 b) 0 a) - 2) (drop 2 (set (set xs 1 b) 0 a))) →
    put_mid 2 (length (set (set xs 1 b) 0 a) - 2) (set (set xs 1 b) 0 a) w ≡ over (a ∷ b ∷ bs) xs
two_then a b [] bs w h e = absurd (omega arith)
two_then a b (x ∷ []) bs w h e = absurd (omega arith)
two_then a b (x ∷ (y ∷ zs)) bs w h e =
    let k : suc (suc (length zs)) - 2 ≡ length zs = omega arith in
    ap (λ l. a ∷ (b ∷ l))
    (ap₂ (λ u v. u ++ v)
    (e ∙ ap (λ m. bs ++ drop (length bs) (take m zs)) k ∙ ap (λ l. bs ++ drop (length bs) l) (take-length zs))
    (ap (λ m. drop m zs) k ∙ drop-length zs)
    ∙ append-nil _)
