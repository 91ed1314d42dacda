-- Laws of rows, and the named sets of them that adapters hand to `search`.
use Rattle.std.proofs.Common.{◌≡◌, ℕ, zero, suc, ◌+◌, ◌-◌, ◌^◌, ◌<◌, ◌≤◌, min, true, is_some, Some, None, Option, sym, refl, ap, ◌∙◌, subst, ⊎_elim, arith}
use mathlib.Core.Path.{fun_ext}
use Rattle.std.proofs.lemmas.Bool.{cases_lt}
use Rattle.std.proofs.lemmas.Bool.Decides.{nat_tests}
use Rattle.cursor.specs.Rows.{Row, Closed, Length, bare, after, first, one, taken, size, back, back_at}
use Rattle.cursor.specs.Closing.{first_in, first_out, closed_on, taken_le, size_inside}

-- at one place
pub at_after : {A : Type 0} (n k m : ℕ) (r : Row A) → m ≡ n + k → r m ≡ after n r k
unfolding after
at_after n k m r e = ap r e

pub back_in : {A : Type 0} (r : Row A) (n : ℕ) → n < size r → back r n ≡ r (size r - (n + 1))
unfolding back_at
back_in r n h = grind (arith, nat_tests)

pub back_out : {A : Type 0} (r : Row A) (n : ℕ) → size r ≤ n → back r n ≡ None
unfolding back_at
back_out r n h = grind (arith, nat_tests)

-- whole rows
pub after_zero : {A : Type 0} (n : ℕ) (r : Row A) → n ≡ 0 → after n r ≡ r
unfolding after
after_zero n r e = fun_ext (λ k. grind arith)

pub after_after : {A : Type 0} (a b c : ℕ) (r : Row A) → b + a ≡ c → after a (after b r) ≡ after c r
unfolding after
after_after a b c r e = fun_ext (λ k. let p : b + (a + k) ≡ c + k = omega arith in ap r p)

pub after_first : {A : Type 0} (m n : ℕ) (r : Row A) → after m (first n r) ≡ first (n - m) (after m r)
unfolding after first
after_first m n r = fun_ext (λ k. grind (arith, nat_tests))

pub first_first : {A : Type 0} (a b c : ℕ) (r : Row A) → min a b ≡ c → first a (first b r) ≡ first c r
unfolding first
first_first a b c r e = fun_ext (λ k. grind (arith, nat_tests))

pub first_zero : {A : Type 0} (n : ℕ) (r : Row A) → n ≡ 0 → first n r ≡ bare
unfolding first bare
first_zero n r e = fun_ext (λ k. grind (arith, nat_tests))

pub first_gone : {A : Type 0} (m n : ℕ) (r : Row A) → n ≤ m → after m (first n r) ≡ bare
unfolding after first bare
first_gone m n r h = fun_ext (λ k. grind (arith, nat_tests))

-- a row of l items, cut
pub length_first : {A : Type 0} (n l m : ℕ) (r : Row A) → Length r l → m ≡ min n l → Length (first n r) m
unfolding first
length_first n l m r h e = record { inside = λ k b. grind (arith, nat_tests, h.inside); outside = λ k b. grind (arith, nat_tests, h.outside) }

pub length_after : {A : Type 0} (n l m : ℕ) (r : Row A) → Length r l → m ≡ l - n → Length (after n r) m
unfolding after
length_after n l m r h e = record { inside = λ k b. h.inside (n + k) (omega arith); outside = λ k b. h.outside (n + k) (omega arith) }

pub after_end : {A : Type 0} (n l : ℕ) (r : Row A) → Length r l → l ≤ n → after n r ≡ bare
unfolding after bare
after_end n l r h b = fun_ext (λ k. h.outside (n + k) (omega arith))

pub first_all : {A : Type 0} (n l : ℕ) (r : Row A) → Length r l → l ≤ n → first n r ≡ r
unfolding first
first_all n l r h b = fun_ext (λ k. grind (arith, nat_tests, h.outside))

-- how many items there are
pub one_some : {A : Type 0} (o : Option A) → is_some o ≡ true → one o ≡ 1
one_some None e = absurd (let z : ◌≡◌ {A = ℕ} 0 1 = cc in omega arith)
one_some (Some x) e = refl

pub taken_length : {A : Type 0} (l : ℕ) (r : Row A) (n : ℕ) → Length r l → taken r n ≡ min n l
unfolding taken
taken_length l r zero h = omega arith
taken_length l r (suc n) h =
    let i = taken_length l r n h in
    ⊎_elim (λ b. let o = one_some (r n) (h.inside n b) in omega arith) (λ b. let o : one (r n) ≡ 0 = ap one (h.outside n b) in omega arith) (cases_lt n l)

pub size_fits : {A : Type 0} (r : Row A) → size r < 2 ^ 64
unfolding size
size_fits r = let t = taken_le r (2 ^ 64 - 1) in omega arith

pub size_length : {A : Type 0} (l : ℕ) (r : Row A) → Length r l → l < 2 ^ 64 → size r ≡ l
unfolding size
size_length l r h f = let t = taken_length l r (2 ^ 64 - 1) h in omega arith

pub size_after : {A : Type 0} (m : ℕ) (r : Row A) → Length r (size r) → size (after m r) ≡ size r - m
size_after m r h = let f = size_fits r in size_length (size r - m) (after m r) (length_after m (size r) (size r - m) r h refl) (omega arith)

pub size_first : {A : Type 0} (m : ℕ) (r : Row A) → Length r (size r) → size (first m r) ≡ min m (size r)
size_first m r h = let f = size_fits r in size_length (min m (size r)) (first m r) (length_first m (size r) (min m (size r)) r h refl) (omega arith)

-- how many items of a cut row there are
pub taken_first : {A : Type 0} (n : ℕ) (r : Row A) (m : ℕ) → taken (first n r) m ≡ taken r (min n m)
unfolding taken
taken_first n r zero = let e : min n 0 ≡ 0 = omega arith in sym (ap (taken r) e)
taken_first n r (suc m) =
    let h = taken_first n r m in
    ⊎_elim
    (λ b. let e : min n (suc m) ≡ suc m = omega arith in let f : min n m ≡ m = omega arith in
    let o : one (first n r m) ≡ one (r m) = ap one (first_in n r m b) in
    let t : taken r (min n m) ≡ taken r m = ap (taken r) f in
    sym (ap (taken r) e ∙ (let z : taken r m + one (r m) ≡ taken (first n r) m + one (first n r m) = omega arith in z)))
    (λ b. let e : min n (suc m) ≡ min n m = omega arith in
    let o : one (first n r m) ≡ 0 = ap one (first_out n r m b) in
    let z : taken (first n r) m + one (first n r m) ≡ taken r (min n m) = omega arith in z ∙ sym (ap (taken r) e))
    (cases_lt m n)

-- where not all of the first k places have an item, nothing stands at place k
none_of : {A : Type 0} (o : Option A) → one o ≡ 0 → o ≡ None
none_of None e = refl
none_of (Some x) e = absurd (omega arith)

pub taken_short : {A : Type 0} (r : Row A) → Closed r → (k : ℕ) → taken r k < k → r k ≡ None
unfolding taken
taken_short r c zero h = absurd (omega arith)
taken_short r c (suc k) h =
    let e : suc k ≡ k + 1 = omega arith in
    let l = taken_le r k in
    ap r e ∙ c.shut k (⊎_elim (λ b. taken_short r c k b) (λ b. none_of (r k) (omega arith)) (cases_lt (taken r k) k))

pub size_none : {A : Type 0} (n : ℕ) (r : Row A) → n ≡ 0 → size (first n r) ≡ 0
unfolding size taken
size_none n r e = let z : min n (2 ^ 64 - 1) ≡ 0 = omega arith in taken_first n r (2 ^ 64 - 1) ∙ ap (taken r) z

pub taken_nil : {A : Type 0} (r : Row A) → taken r 0 ≡ 0
unfolding taken
taken_nil r = refl

-- items in two parts
pub taken_after : {A : Type 0} (r : Row A) (n m : ℕ) → taken r (n + m) ≡ taken r n + taken (after n r) m
unfolding taken after
taken_after r n zero = let e : n + 0 ≡ n = omega arith in let z : taken r n ≡ taken r n + 0 = omega arith in ap (taken r) e ∙ z
taken_after r n (suc m) =
    let e : n + suc m ≡ suc (n + m) = omega arith in
    let h = taken_after r n m in
    let z : taken r (n + m) + one (r (n + m)) ≡ taken r n + (taken (after n r) m + one (r (n + m))) = omega arith in
    ap (taken r) e ∙ z

taken_tells : {A : Type 0} (r : Row A) → Closed r → (k n : ℕ) → k < n → taken r n ≤ k → r k ≡ None
unfolding taken
taken_tells r c k n b h =
    let e : suc k + (n - suc k) ≡ n = omega arith in
    let t = taken_after r (suc k) (n - suc k) in
    let u : taken r (suc k + (n - suc k)) ≡ taken r n = ap (taken r) e in
    ⊎_elim (λ s. taken_short r c k s) (λ s. none_of (r k) (omega arith)) (cases_lt (taken r k) k)

-- below the largest count the size tells where items stand, and a row with fewer items has that length
pub size_tells : {A : Type 0} (r : Row A) → Closed r → (k : ℕ) → size r ≤ k → k < 2 ^ 64 - 1 → r k ≡ None
unfolding size
size_tells r c k h b = taken_tells r c k (2 ^ 64 - 1) b h

pub length_short : {A : Type 0} (r : Row A) → Closed r → size r < 2 ^ 64 - 1 → Length r (size r)
length_short r c h = record {
  inside = size_inside r c;
  outside = λ k b. let e : size r + (k - size r) ≡ k = omega arith in sym (ap r e) ∙ closed_on r c (size r) (k - size r) (size_tells r c (size r) (omega arith) h);
}

pub length_is : {A : Type 0} (l m : ℕ) (r : Row A) → Length r l → m ≡ l → Length r m
length_is l m r h e = subst (Length r) (sym e) h

pub length_closed : {A : Type 0} (l : ℕ) (r : Row A) → Length r l → Closed r
length_closed l r h = record { shut = λ k e. ⊎_elim (λ b. let i = h.inside k b in absurd (let z : ◌≡◌ {A = ℕ} 0 1 = cc in omega arith)) (λ b. h.outside (k + 1) (omega arith)) (cases_lt k l) }

-- items at single places; cuts of cuts; lengths of what a cut leaves
pub ruleset places = (first_in, first_out, at_after, back_in, back_out)

pub ruleset cuts = (after_zero, after_after, after_first, first_first, first_zero, first_gone, after_end, first_all)

pub ruleset sizes = (length_first, length_after, size_length, size_after, size_first, taken_length, length_is)
