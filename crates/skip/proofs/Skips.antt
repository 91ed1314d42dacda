-- Skip's rows.
use Rattle.std.proofs.Common.{◌≡◌, ℕ, ◌+◌, ◌-◌, ◌^◌, ◌<◌, ◌≤◌, min, ◌⊎◌, None, Option, sym, ap, ◌∙◌, ⊎_elim, arith}
use mathlib.Core.Path.{fun_ext}
use Rattle.std.proofs.lemmas.Bool.{cases_lt}
use Rattle.std.proofs.lemmas.Bool.Decides.{nat_tests}
use Rattle.cursor.specs.Rows.{Row, Closed, Length, after, first, taken, size, back, back_at}
use Rattle.cursor.specs.Closing.{closed_on, taken_le}
use Rattle.cursor.proofs.Laws.{after_zero, back_out, taken_length, taken_after, taken_short, size_after}

none_taken : {A : Type 0} (r : Row A) → Closed r → (k m : ℕ) → r k ≡ None → taken (after k r) m ≡ 0
unfolding after
none_taken r c k m e =
    let l : Length (after k r) 0 = record { inside = λ i b. absurd (omega arith); outside = λ i b. closed_on r c k i e } in
    let t = taken_length 0 (after k r) m l in omega arith

module _ {A : Type 0} (r : Row A) (c : Closed r) (n m b a : ℕ) (eb : b ≡ min (n + m) (2 ^ 64 - 1)) (ea : a ≡ taken r b) where
  -- an advance by m behind a skip of n: b places are asked for below, and a of them have an item
  short_value : a < b → m - (a - n) ≡ m - taken (after n r) m
  short_value h =
      let z = taken_short r c b (let y = ea in omega arith) in
      let e : b + ((n + m) - b) ≡ n + m = omega arith in
      let u = taken_after r b ((n + m) - b) in
      let v = none_taken r c b ((n + m) - b) z in
      let w : taken r (n + m) ≡ a = sym (ap (taken r) e) ∙ (let y : taken r (b + ((n + m) - b)) ≡ a = omega arith in y) in
      let x = taken_after r n m in
      let y = taken_le r n in
      let o = taken_le (after n r) m in
      ⊎_elim (λ s. let i = none_taken r c n m (taken_short r c n s) in omega arith) (λ s. omega arith) (cases_lt (taken r n) n)

  short_rest : a < b → (r' : Row A) → r' ≡ after b r → after (n - a) r' ≡ after m (after n r)
  unfolding after
  short_rest h r' e =
      let z = taken_short r c b (let y = ea in omega arith) in
      ap (after (n - a)) e ∙ fun_ext (λ k.
      let x = closed_on r c b ((n - a) + k) z in
      let i : b + (((n + m) - b) + k) ≡ n + (m + k) = omega arith in
      x ∙ sym (sym (ap r i) ∙ closed_on r c b (((n + m) - b) + k) z))

  module _ (f : n < 2 ^ 64) (h : a ≡ b) (x : ℕ) (ex : x ≡ m - (a - n)) where
    -- all b places have an item; x are left to ask for
    full_value : x - taken (after b r) x ≡ m - taken (after n r) m
    full_value =
        let e : b + x ≡ n + m = omega arith in
        let u = taken_after r b x in
        let v : taken r (b + x) ≡ taken r (n + m) = ap (taken r) e in
        let w = taken_after r n m in
        let i : n + (b - n) ≡ b = omega arith in
        let y = taken_after r n (b - n) in
        let o : taken r (n + (b - n)) ≡ taken r b = ap (taken r) i in
        let p = taken_le r n in
        let q = taken_le (after n r) (b - n) in
        omega arith

    full_rest : (r' r'' : Row A) → r' ≡ after b r → r'' ≡ after x r' → after (n - a) r'' ≡ after m (after n r)
    unfolding after
    full_rest r' r'' e i = ap (after (n - a)) (i ∙ ap (after x) e) ∙ fun_ext (λ k. let j : b + (x + ((n - a) + k)) ≡ n + (m + k) = omega arith in ap r j)

  -- the advance with no second call below: some place has no item, or nothing is left to ask for
  pub skip_once : n < 2 ^ 64 → (x : ℕ) (r' : Row A) → x ≡ m - (a - n) → r' ≡ after b r → (a < b) ⊎ (x ≡ 0) →
      (x ≡ m - taken (after n r) m) × (after (n - a) r' ≡ after m (after n r))
  skip_once f x r' ex e d =
      let l = taken_le r b in
      ⊎_elim
      (λ s. (ex ∙ short_value s, short_rest s r' e))
      (λ s. let z : x ≡ 0 = ⊎_elim (λ y. omega arith) (λ y. y) d in let v = full_value f (omega arith) x ex in
      (omega arith, full_rest f (omega arith) x ex r' r' e (sym (after_zero x r' z))))
      (cases_lt a b)

  -- with a second call: all places had an item, and x are left to ask for
  pub skip_twice : n < 2 ^ 64 → (x : ℕ) (r' r'' : Row A) → x ≡ m - (a - n) → r' ≡ after b r → a ≡ b → r'' ≡ after x r' →
      (x - taken r' x ≡ m - taken (after n r) m) × (after (n - a) r'' ≡ after m (after n r))
  skip_twice f x r' r'' ex e h i = (ap (λ y. x - taken y x) e ∙ full_value f h x ex, full_rest f h x ex r' r'' e i)

-- the back
module _ {A : Type 0} (n : ℕ) (r : Row A) (h : Length r (size r)) where
  pub skip_item : (m : ℕ) (o : Option A) → m < size r - n → o ≡ back r m → o ≡ back (after n r) m
  unfolding after back_at
  skip_item m o b i =
      let s = size_after n r h in
      let e : n + ((size r - n) - (m + 1)) ≡ size r - (m + 1) = omega arith in grind (arith, nat_tests)

  pub skip_gone : (m : ℕ) → size r - n ≤ m → None ≡ back (after n r) m
  skip_gone m b = let s = size_after n r h in sym (back_out (after n r) m (omega arith))

  pub skip_left : (x m : ℕ) (r' : Row A) → r' ≡ first (size r - x) r → x ≡ min (size r - n) m → after n r' ≡ first (size (after n r) - m) (after n r)
  unfolding after first
  skip_left x m r' e i =
      let s = size_after n r h in
      ap (after n) e ∙ fun_ext (λ k. grind (arith, nat_tests, h.outside (n + k)))

  pub skip_still : size r ≤ n → (m : ℕ) → after n r ≡ first (size (after n r) - m) (after n r)
  unfolding after first
  skip_still b m = fun_ext (λ k. grind (arith, nat_tests, h.outside (n + k)))

-- what the calls from the back come to
pub ruleset skips = (size_after, skip_item, skip_gone, skip_left, skip_still)
