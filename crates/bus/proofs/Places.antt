-- Places still to come: what a call leaves of them, and what it takes.
use Rattle.std.proofs.Common.{◌≡◌, ℕ, ◌+◌, ◌-◌, ◌^◌, ◌<◌, ◌≤◌, Bool, true, false, cond, not, ◌&&◌, ltb, is_some, Some, None, Option, sym, refl, ap, ◌∙◌, arith}
use mathlib.Core.Path.{fun_ext}
use Rattle.std.proofs.lemmas.Bool.Decides.{nat_tests}
use Rattle.cursor.specs.Rows.{Row, Closed, Length, after, first, size}
use Rattle.cursor.specs.Closing.{closed_on}
use Rattle.cursor.proofs.Laws.{size_length, size_fits}
use Rattle.bus.specs.declared.request.Call.{Call}
use Rattle.bus.specs.declared.request.Request.{Request}
use Rattle.bus.specs.Numbers.{is_back}
use Rattle.bus.specs.Frames.{reach, leaves}
use Rattle.bus.specs.Plain.{Places, to_come, coming, less, at_front, at_back, takes, times}

module _ {A : Type 0} (r : Row A) (p : Places) where
  -- at first all places with an item are still to come
  pub coming_all : p.front ≡ 0 → p.back ≡ 0 → coming r p ≡ r
  coming_all e f = fun_ext (λ i. grind (arith, nat_tests, e, f))

  front_left : (m : ℕ) → after m (coming r p) ≡ coming r (record { front = p.front + m; back = p.back })
  unfolding after
  front_left m = fun_ext (λ i. let e : p.front + (m + i) ≡ (p.front + m) + i = omega arith in ap (λ j. cond (is_some (r (j + p.back))) (r j) None) e)

  module _ (z : ℕ) (h : Length r z) (f : z < 2 ^ 64) where
    -- how many are still to come
    pub coming_length : Length (coming r p) (z - (p.front + p.back))
    coming_length = record {
      inside = λ i l. grind (arith, nat_tests, h.inside (p.front + i), h.inside ((p.front + i) + p.back));
      outside = λ i l. grind (arith, nat_tests, h.outside ((p.front + i) + p.back));
    }

    pub coming_size : size (coming r p) ≡ z - (p.front + p.back)
    coming_size = size_length _ _ coming_length (omega arith)

    back_left : (m : ℕ) → first (size (coming r p) - m) (coming r p) ≡ coming r (record { front = p.front; back = p.back + m })
    unfolding first
    back_left m = let s = coming_size in fun_ext (λ i. grind (arith, nat_tests, h.inside (p.front + i), h.inside ((p.front + i) + p.back), h.inside ((p.front + i) + (p.back + m)), h.outside ((p.front + i) + (p.back + m))))

  -- the row that a call leaves of the items at the places still to come
  pub coming_leaves : (q : Request Call) → (is_back q.call ≡ true → Length r (size r)) → leaves q (coming r p) ≡ coming r (less (Some q) p)
  coming_leaves q h = go (is_back q.call) refl
    where
      go : (b : Bool) → is_back q.call ≡ b →
          cond b (first (size (coming r p) - reach q) (coming r p)) (after (reach q) (coming r p))
          ≡ coming r (cond b (record { front = p.front; back = p.back + reach q }) (record { front = p.front + reach q; back = p.back }))
      go true e = back_left (size r) (h e) (size_fits r) (reach q)
      go false e = front_left (reach q)

-- an item behind an item
some_or : {A : Type 0} (x y : Option A) → (x ≡ None → y ≡ None) → is_some y ≡ true → is_some x ≡ true
some_or None y h e = sym (ap is_some (h refl)) ∙ e
some_or (Some x) y h e = refl

pub some_before : {A : Type 0} (r : Row A) → Closed r → (i j : ℕ) → i ≤ j → is_some (r j) ≡ true → is_some (r i) ≡ true
some_before r c i j h = let z : i + (j - i) ≡ j = omega arith in some_or (r i) (r j) (λ n. sym (ap r z) ∙ closed_on r c i (j - i) n)

-- a place still to come is so after a call too, or the call takes it, at one end
pub takes_one : {A : Type 0} (r : Row A) → Closed r → (o : Option (Request Call)) (p : Places) (i : ℕ) →
    times (to_come r p i) ≡ times (to_come r (less o p) i) + (times (takes at_front o r p i) + times (takes at_back o r p i))
takes_one r c None p i = omega arith
takes_one r c (Some q) p i = go (is_back q.call)
  where
    go : (b : Bool) → times (to_come r p i)
        ≡ times (to_come r (cond b (record { front = p.front; back = p.back + reach q }) (record { front = p.front + reach q; back = p.back })) i)
        + (times (not b && (to_come r p i && ltb i (p.front + reach q))) + times (b && (to_come r p i && not (is_some (r (i + (p.back + reach q)))))))
    go true = let s = some_before r c (i + p.back) (i + (p.back + reach q)) (omega arith) in grind (arith, nat_tests, s)
    go false = grind (arith, nat_tests)
