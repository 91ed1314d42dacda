-- After the first nothing only nothing: the ghost members of cursors cite these.
use Rattle.std.specs.Prelude.{◌≡◌, ℕ, zero, suc, ◌+◌, ◌-◌, ◌^◌, ◌<◌, ◌≤◌, true, List, [], ◌∷◌, is_some, Some, None, Option, ◌≢◌, nat_lt, refl}
use Rattle.std.proofs.Common.{sym, ◌∙◌, ap, ⊎_elim, arith}
use Rattle.std.specs.List.{slice_get}
use Rattle.std.proofs.lemmas.Bool.{true≢false, cases_lt, cond-true, cond-false, lt-ltb, le-ltb}
use Rattle.cursor.specs.Rows.{Row, Closed, bare, after, first, one, taken, size, join, join_at, numbers}

pub first_in : {A : Type 0} (n : ℕ) (r : Row A) (k : ℕ) → k < n → first n r k ≡ r k
unfolding first
first_in n r k h = cond-true (nat_lt k n) (r k) None (lt-ltb k n h)

pub first_out : {A : Type 0} (n : ℕ) (r : Row A) (k : ℕ) → n ≤ k → first n r k ≡ None
unfolding first
first_out n r k h = cond-false (nat_lt k n) (r k) None (le-ltb k n h)

-- so a cursor with no home of its own keeps the law of homes
pub closed_bare : {A : Type 0} → Closed (bare {A = A})
unfolding bare
closed_bare = record { shut = λ k e. refl }

pub closed_first : {A : Type 0} (n : ℕ) (r : Row A) → Closed r → Closed (first n r)
closed_first n r h = record {
  shut = λ k e. ⊎_elim (λ b. first_in n r (k + 1) b ∙ h.shut k (sym (first_in n r k (omega arith)) ∙ e)) (λ b. first_out n r (k + 1) b) (cases_lt (k + 1) n);
}

pub closed_after : {A : Type 0} (n : ℕ) (r : Row A) → Closed r → Closed (after n r)
unfolding after
closed_after n r h = record { shut = λ k e. let p : n + (k + 1) ≡ n + k + 1 = omega arith in ap r p ∙ h.shut (n + k) e }

pub closed_numbers : Closed numbers
unfolding numbers
closed_numbers = record { shut = λ k e. absurd (true≢false (ap is_some e)) }

nth_shut : {A : Type 0} (xs : List A) (k : ℕ) → slice_get xs k ≡ None → slice_get xs (suc k) ≡ None
nth_shut [] k e = refl
nth_shut (x ∷ xs) zero e = absurd (true≢false (ap is_some e))
nth_shut (x ∷ xs) (suc k) e = nth_shut xs k e

pub closed_nth : {A : Type 0} (xs : List A) → Closed (slice_get xs)
closed_nth xs = record { shut = λ k e. let p : k + 1 ≡ suc k = omega arith in ap (slice_get xs) p ∙ nth_shut xs k e }

-- nothing behind nothing
pub closed_on : {A : Type 0} (r : Row A) → Closed r → (i d : ℕ) → r i ≡ None → r (i + d) ≡ None
closed_on r h i zero e = let p : i + 0 ≡ i = omega arith in ap r p ∙ e
closed_on r h i (suc d) e = let p : i + suc d ≡ i + d + 1 = omega arith in ap r p ∙ h.shut (i + d) (closed_on r h i d e)

-- how many of some places have an item
one_le : {A : Type 0} (o : Option A) → one o ≤ 1
one_le None = omega arith
one_le (Some x) = omega arith

pub taken_le : {A : Type 0} (r : Row A) (n : ℕ) → taken r n ≤ n
unfolding taken
taken_le r zero = omega arith
taken_le r (suc n) = let h = taken_le r n in let o = one_le (r n) in omega arith

taken_none : {A : Type 0} (r : Row A) → Closed r → (k n : ℕ) → r k ≡ None → taken r n ≤ k
unfolding taken
taken_none r h k zero e = omega arith
taken_none r h k (suc n) e =
    let i = taken_none r h k n e in
    let u = taken_le r n in
    let v = one_le (r n) in
    ⊎_elim (λ b. omega arith) (λ b. let p : k + (n - k) ≡ n = omega arith in let o : one (r n) ≡ 0 = ap one (sym (ap r p) ∙ closed_on r h k (n - k) e) in omega arith) (cases_lt n k)

some_or : {A : Type 0} (o : Option A) → (o ≢ None) → is_some o ≡ true
some_or None h = absurd (h refl)
some_or (Some x) h = refl

-- an item at each place below the size
pub size_inside : {A : Type 0} (r : Row A) → Closed r → (k : ℕ) → k < size r → is_some (r k) ≡ true
unfolding size
size_inside r h k b = some_or (r k) (λ e. let t = taken_none r h k (2 ^ 64 - 1) e in omega arith)

-- one row behind another
pub join_in : {A : Type 0} (r t : Row A) (k : ℕ) → k < size r → join r t k ≡ r k
unfolding join_at
join_in r t k h = cond-true (nat_lt k (size r)) (r k) (t (k - size r)) (lt-ltb k (size r) h)

pub join_out : {A : Type 0} (r t : Row A) (k : ℕ) → size r ≤ k → join r t k ≡ t (k - size r)
unfolding join_at
join_out r t k h = cond-false (nat_lt k (size r)) (r k) (t (k - size r)) (le-ltb k (size r) h)

pub closed_join : {A : Type 0} (r t : Row A) → Closed r → Closed t → Closed (join r t)
closed_join r t h i = record {
  shut = λ k e. ⊎_elim
      (λ b. absurd (true≢false (sym (size_inside r h k b) ∙ ap is_some (sym (join_in r t k b) ∙ e))))
      (λ b. let p : k + 1 - size r ≡ k - size r + 1 = omega arith in join_out r t (k + 1) (omega arith) ∙ (ap t p ∙ i.shut (k - size r) (sym (join_out r t k b) ∙ e)))
      (cases_lt k (size r));
}
