-- What the bounds of a leaf show of a row, and what each call of a leaf leaves of it.
use Rattle.std.proofs.Common.{◌≡◌, ℕ, zero, suc, ◌+◌, ◌-◌, ◌^◌, ◌<◌, ◌≤◌, min, Bool, true, false, cond, ltb, List, [], ◌∷◌, length, get_or, is_some, Some, None, Option, sym, refl, ap, ◌∙◌, arith}
use mathlib.Core.Path.{fun_ext}
use Rattle.std.specs.List.{slice_get}
use Rattle.std.proofs.lemmas.Option.{slice_get-get_or, slice_get_past}
use Rattle.std.proofs.lemmas.Bool.Decides.{nat_tests}
use Rattle.cursor.specs.declared.span.Span.{Span}
use Rattle.cursor.specs.Rows.{Row, Length, after, first, size, taken, back, back_at, window, numbers}
use Rattle.cursor.specs.Calls.{Spent, Touched, capped}
use Rattle.cursor.specs.Spans.{shown, cut_front, cut_back}
use Rattle.cursor.proofs.Laws.{taken_length, size_length}

-- a leaf's tally after a touch
pub touching : {A : Type 0} (t t' : ℕ) (h : Row A) → t < 2 ^ 64 → t' ≡ capped (t + 1) → Spent 1 Touched t t' h h
touching t t' h f e = record { more = omega arith; few = omega arith; touched = e; kept = refl }

module _ {A : Type 0} (b : Row A) (s : Span) where
  abbrev pub left : ℕ
  left = s.hi - s.lo

  pub shown_at : (n : ℕ) → shown b s n ≡ cond (ltb n left) (b (s.lo + n)) None
  unfolding first after
  shown_at n = refl

  -- the row that a front call leaves
  pub front_rest : (m : ℕ) (s' : Span) → s' ≡ cut_front m s → shown b s' ≡ after m (shown b s)
  unfolding first after
  front_rest m s' e = ap (shown b) e ∙ fun_ext (λ k. grind (arith, nat_tests))

  -- an item at each place within the bounds
  pub full : ((k : ℕ) → k < s.hi → is_some (b k) ≡ true) → Length (shown b s) left
  unfolding first after
  full h = record { inside = λ k i. let g = h (s.lo + k) (omega arith) in grind (arith, nat_tests); outside = λ k i. grind (arith, nat_tests) }

  module _ (h : Length (shown b s) left) where
    pub front_lack : (n x : ℕ) → x ≡ n - left → x ≡ n - taken (shown b s) n
    front_lack n x e = let t = taken_length left (shown b s) n h in omega arith

    module _ (f : left < 2 ^ 64) where
      pub size_is : size (shown b s) ≡ left
      size_is = size_length left (shown b s) h f

      pub back_lack : (n x : ℕ) → x ≡ n - left → x ≡ n - size (shown b s)
      back_lack n x e = let t = size_is in omega arith

      -- the row that a back call leaves
      pub back_rest : (m : ℕ) (s' : Span) → s' ≡ cut_back m s → shown b s' ≡ first (size (shown b s) - m) (shown b s)
      unfolding first after
      back_rest m s' e = ap (shown b) e ∙ (fun_ext (λ k. grind (arith, nat_tests)) ∙ ap (λ (l : ℕ). first (l - m) (shown b s)) (sym size_is))

      -- the item that a back call answers
      pub back_is : (n : ℕ) → back (shown b s) n ≡ cond (ltb n left) (b (s.hi - (n + 1))) None
      unfolding first after back_at
      back_is n = ap (λ (l : ℕ). back_at l (shown b s) n) size_is ∙ grind (arith, nat_tests)

pub numbers_full : (s : Span) → Length (shown numbers s) (left numbers s)
unfolding numbers
numbers_full s = full numbers s (λ k i. refl)

nth_some : {A : Type 0} (xs : List A) (k : ℕ) → k < length xs → is_some (slice_get xs k) ≡ true
nth_some [] k h = absurd (omega arith)
nth_some (x ∷ xs) zero h = refl
nth_some (x ∷ xs) (suc k) h = nth_some xs k (omega arith)

pub items_full : {A : Type 0} (xs : List A) (s : Span) → s.hi ≤ length xs → Length (shown (slice_get xs) s) (left (slice_get xs) s)
items_full xs s h = full (slice_get xs) s (λ k i. nth_some xs k (omega arith))

-- the item that a place gives, and none where there is no place
pub picked : {A : Type 0} (xs : List A) (t : Bool) (i at : ℕ) (d : A) → (t ≡ true → i < length xs) → Some at ≡ cond t (Some i) None → Some (get_or xs at d) ≡ cond t (slice_get xs i) None
picked xs true i at d h e = let p : at ≡ i = cc in ap (λ (j : ℕ). Some (get_or xs j d)) p ∙ sym (slice_get-get_or xs i d (h refl))
picked xs false i at d h e = absurd (let z : ◌≡◌ {A = ℕ} 0 1 = cc in omega arith)

abbrev place : ℕ → Option ℕ
place i = Some i

pub missed : {A : Type 0} (b : Row A) (t : Bool) (i : ℕ) → None ≡ cond t (place i) None → None ≡ cond t (b i) None
missed b true i e = absurd (let z : ◌≡◌ {A = ℕ} 0 1 = cc in omega arith)
missed b false i e = refl

-- what a fresh slice leaf shows
pub items_part : {A : Type 0} (xs : List A) (lo hi m : ℕ) → m ≡ min hi (length xs) → window lo m (slice_get xs) ≡ window lo hi (slice_get xs)
unfolding first after
items_part xs lo hi m e = fun_ext (λ k. let p = slice_get_past xs (lo + k) in grind (arith, nat_tests))

pub items_all : {A : Type 0} (xs : List A) → window 0 (length xs) (slice_get xs) ≡ slice_get xs
unfolding first after
items_all xs = fun_ext (λ k. let p = slice_get_past xs k in grind (arith, nat_tests))

-- what the calls of a leaf come to
pub ruleset calls = (touching, shown_at, front_lack, front_rest, back_lack, back_rest, back_is, size_is, numbers_full, items_full, picked, missed, items_part, items_all)
