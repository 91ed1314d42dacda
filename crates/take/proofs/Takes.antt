-- Take's rows.
use Rattle.std.proofs.Common.{◌≡◌, ℕ, ◌+◌, ◌-◌, ◌^◌, ◌<◌, ◌≤◌, min, None, Option, sym, ap, ◌∙◌, ⊎_elim, arith}
use mathlib.Core.Path.{fun_ext}
use Rattle.std.proofs.lemmas.Bool.{cases_lt}
use Rattle.std.proofs.lemmas.Bool.Decides.{nat_tests}
use Rattle.cursor.specs.Rows.{Row, Closed, Length, after, first, taken, size, back, back_at}
use Rattle.cursor.specs.Closing.{closed_on, taken_le}
use Rattle.cursor.proofs.Laws.{size_fits, back_out, first_first, taken_first, taken_short, size_first, size_none}

-- the front: k of the m places asked for are within the n, and a of those have an item
pub take_ahead : {A : Type 0} (n n' m k : ℕ) (r r' : Row A) → Closed r → k ≡ min n m → n' ≡ n - taken r k → r' ≡ after k r → first n' r' ≡ after m (first n r)
unfolding first after
take_ahead n n' m k r r' c ek ea er =
    ap (first n') er ∙ fun_ext (λ i. ⊎_elim
    (λ b. let z = taken_short r c k b in let x = closed_on r c k i z in let y = closed_on r c k ((m - k) + i) z in grind (arith, nat_tests))
    (λ b. let l = taken_le r k in grind (arith, nat_tests))
    (cases_lt (taken r k) k))

-- the numbers of an advance from the back: o items below lie over the end, k are asked for below, a of them are shown
take_trim : (n m l o k a : ℕ) → l < 2 ^ 64 → o ≡ l - n → k ≡ min (o + m) (2 ^ 64 - 1) → a ≡ min k l - o →
    (m - a ≡ m - min n l) × (min (n - a) (l - k) ≡ min n l - m)
take_trim n m l o k a f eo ek ea =
    ⊎_elim
    (λ b. let z : o ≡ 0 = omega arith in ⊎_elim (λ u. (omega arith, omega arith)) (λ u. (omega arith, omega arith)) (cases_lt m l))
    (λ b. let z : o + n ≡ l = omega arith in ⊎_elim (λ u. let w : k ≡ o + m = omega arith in (omega arith, omega arith)) (λ u. let w : l ≤ k = omega arith in (omega arith, omega arith)) (cases_lt m n))
    (cases_lt l n)

-- the back
module _ {A : Type 0} (n : ℕ) (r : Row A) (h : Length r (size r)) where
  pub take_item : (m k : ℕ) (o : Option A) → m < n → k ≡ size r - n + m → o ≡ back r k → o ≡ back (first n r) m
  unfolding first back_at
  take_item m k o b e i = let s = size_first n r h in grind (arith, nat_tests)

  pub take_last : (k : ℕ) (o : Option A) → 0 < n → k ≡ size r - n → o ≡ back r k → o ≡ back (first n r) 0
  take_last k o b e i = take_item 0 k o b (omega arith) i

  pub take_gone : (m : ℕ) → n ≤ m → None ≡ back (first n r) m
  take_gone m b = let s = size_first n r h in sym (back_out (first n r) m (omega arith))

  pub take_left : (n' x m : ℕ) (r' : Row A) → r' ≡ first (size r - x) r → min n' (size r - x) ≡ min n (size r) - m → first n' r' ≡ first (size (first n r) - m) (first n r)
  unfolding first
  take_left n' x m r' e i = let s = size_first n r h in ap (first n') e ∙ fun_ext (λ k. grind (arith, nat_tests))

  -- an advance by m: o items below lie over the end, k are asked for below, a of them are shown
  module _ (m o k a : ℕ) (eo : o ≡ size r - n) (ek : k ≡ min (o + m) (2 ^ 64 - 1)) (ea : a ≡ min k (size r) - o) where
    pub take_lack : m - a ≡ m - size (first n r)
    take_lack = let s = size_first n r h in let t = take_trim n m (size r) o k a (size_fits r) eo ek ea in omega arith

    pub take_behind : (n' : ℕ) (r' : Row A) → n' ≡ n - a → r' ≡ first (size r - k) r → first n' r' ≡ first (size (first n r) - m) (first n r)
    take_behind n' r' e er = let t = take_trim n m (size r) o k a (size_fits r) eo ek ea in take_left n' k m r' er (omega arith)

  pub take_still : size r ≡ 0 → (m : ℕ) → first n r ≡ first (size (first n r) - m) (first n r)
  unfolding first
  take_still e m = fun_ext (λ k. grind (arith, nat_tests, h.outside))

-- with nothing to take
pub take_none : {A : Type 0} (n : ℕ) (r : Row A) (m k : ℕ) → n ≡ 0 → (None ≡ back (first n r) m) × (first n r ≡ first (size (first n r) - k) (first n r))
take_none n r m k e =
    let z = size_none n r e in
    (sym (back_out (first n r) m (omega arith)), sym (first_first (size (first n r) - k) n n r (omega arith)))

-- what the calls come to
pub ruleset takes = (size_fits, taken_le, taken_first, take_ahead, size_first, take_item, take_last, take_gone, take_left, take_still, take_none)
