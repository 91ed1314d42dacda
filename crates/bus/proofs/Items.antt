-- Which items the frames show.
use Rattle.std.proofs.Common.{◌≡◌, ℕ, ◌+◌, ◌-◌, true, not, ◌&&◌, eqb, ltb, [], ◌∷◌, is_some, Some, None, Ok, Err, Result, refl, ap, arith}
use Rattle.std.proofs.lemmas.Bool.Decides.{nat_tests}
use Rattle.cursor.specs.Rows.{Row, Length, back, back_at, size}
use Rattle.cursor.proofs.Laws.{size_fits}
use Rattle.frame.specs.Kinds.{Free}
use Rattle.frame.specs.declared.framed.Framed as Framed
use Rattle.bus.specs.declared.answer.Answer.{Answer}
use Rattle.bus.specs.declared.answer.Answer.TheVariants.{Item, Advanced}
use Rattle.bus.specs.declared.request.Call.{Call}
use Rattle.bus.specs.declared.request.Call.TheVariants.{Next, Nth, Advance, NextBack, NthBack, AdvanceBack}
use Rattle.bus.specs.declared.request.Request.{Request}
use Rattle.bus.specs.Numbers.{is_back}
use Rattle.bus.specs.Frames.{answer, answer_of, frame}
use Rattle.bus.specs.Plain.{Heard, accepted, refused, answered, said, shown, Places, to_come, coming}
use Rattle.bus.specs.Law.{Handed, ShowsJust}
use Rattle.bus.proofs.Places.{coming_size}

module _ {A : Type 0} (r : Row A) (p : Places) (x : A) (n m : ℕ) (e : m ≡ n + 1) where
  abbrev FrontHands : ℕ → Type 0
  FrontHands i = ((to_come r p i && ltb i (p.front + m)) && eqb (i + 1) (p.front + m)) ≡ true

  front_hands : coming r p n ≡ Some x → (i : ℕ) × FrontHands i × (r i ≡ Some x)
  front_hands h = (p.front + n, grind (arith, nat_tests), grind (arith, nat_tests))

  front_shows : (i : ℕ) → FrontHands i → r i ≡ Some x → coming r p n ≡ Some x
  front_shows i h j = grind (arith, nat_tests)

  abbrev BackHands : ℕ → Type 0
  BackHands i = ((to_come r p i && not (is_some (r (i + (p.back + m))))) && is_some (r (i + (p.back + (m - 1))))) ≡ true

  module _ (h : Length r (size r)) where
    abbrev left : ℕ
    left = size r - (p.front + p.back)

    back_hands : back (coming r p) n ≡ Some x → (i : ℕ) × BackHands i × (r i ≡ Some x)
    unfolding back_at
    back_hands j = let s = coming_size r p (size r) h (size_fits r) in (p.front + (left - (n + 1)), grind (arith, nat_tests, h.inside, h.outside), grind (arith, nat_tests))

    back_shows : (i : ℕ) → BackHands i → r i ≡ Some x → back (coming r p) n ≡ Some x
    unfolding back_at
    back_shows i j k = let s = coming_size r p (size r) h (size_fits r) in grind (arith, nat_tests, h.inside, h.outside)

abbrev request : Call → ℕ → Request Call
request c n = record { call = c; n = n }

-- a call's answer is an item exactly where it hands out a place that holds it
module _ {A : Type 0} (r : Row A) (p : Places) (x : A) where
  call_hands : (c : Call) (n : ℕ) → (is_back c ≡ true → Length r (size r)) → answer_of c n (coming r p) ≡ Item (Some x) → Handed (Some (request c n)) r p x
  call_hands Next n h e = front_hands r p x 0 1 (omega arith) (cc)
  call_hands Nth n h e = front_hands r p x n (n + 1) refl (cc)
  call_hands Advance n h e = absurd (cc)
  call_hands NextBack n h e = back_hands r p x 0 1 (omega arith) (h refl) (cc)
  call_hands NthBack n h e = back_hands r p x n (n + 1) refl (h refl) (cc)
  call_hands AdvanceBack n h e = absurd (cc)

  call_shows : (c : Call) (n : ℕ) → (is_back c ≡ true → Length r (size r)) → Handed (Some (request c n)) r p x → answer_of c n (coming r p) ≡ Item (Some x)
  call_shows Next n h (i, t, j) = ap Item (front_shows r p x 0 1 (omega arith) i t j)
  call_shows Nth n h (i, t, j) = ap Item (front_shows r p x n (n + 1) refl i t j)
  call_shows Advance n h (i, t, j) = absurd (cc)
  call_shows NextBack n h (i, t, j) = ap Item (back_shows r p x 0 1 (omega arith) (h refl) i t j)
  call_shows NthBack n h (i, t, j) = ap Item (back_shows r p x n (n + 1) refl (h refl) i t j)
  call_shows AdvanceBack n h (i, t, j) = absurd (cc)

-- what each kind of item shows of its frames
pub record Apt {A : Type 0} (g : Framed.Ghosts A) : Type 0 where
  pub free : Free g.KIND
  pub told : (x y : A) → g.body x ≡ g.body y → x ≡ y

-- the frame tells the item
framed_item : {A : Type 0} (g : Framed.Ghosts A) → Apt g → (d : ℕ) (a : Answer A) (x : A) → frame g d a ≡ g.KIND ∷ (d ∷ g.body x) → a ≡ Item (Some x)
framed_item g t d (Item None) x e = absurd (t.free.none (cc))
framed_item g t d (Item (Some y)) x e = ap (λ z. Item (Some z)) (t.told y x (cc))
framed_item g t d (Advanced s) x e = absurd (t.free.advance (cc))

-- a call of the pile shows just what it hands out
pub shows_call : {A : Type 0} (g : Framed.Ghosts A) → Apt g → (d : ℕ) (q : Request Call) (r : Row A) (p : Places) → (is_back q.call ≡ true → Length r (size r)) →
    ShowsJust g d (Some q) r p (shown (frame g d (answer q (coming r p))))
shows_call g t d q r p h x = (
  λ a. ap (λ y. shown (frame g d y)) (call_shows r p x q.call q.n h a),
  λ e. call_hands r p x q.call q.n h (framed_item g t d _ x (cc e)),
)

-- the line byte of what is heard; 0 where there is none
abbrev pub line_byte : Heard → ℕ
line_byte (accepted p) = 0
line_byte (refused e) = 0
line_byte (answered n []) = 0
line_byte (answered n (a ∷ [])) = 0
line_byte (answered n (a ∷ (b ∷ l))) = b

pub said_line : (r : Result ℕ ℕ) → line_byte (said r) ≡ 0
said_line (Ok p) = refl
said_line (Err e) = refl

pub frame_line : {A : Type 0} (g : Framed.Ghosts A) (d : ℕ) (a : Answer A) → line_byte (shown (frame g d a)) ≡ d
frame_line g d (Item None) = refl
frame_line g d (Item (Some x)) = refl
frame_line g d (Advanced s) = refl

-- what has another line byte shows nothing
pub shows_none : {A : Type 0} (g : Framed.Ghosts A) (d : ℕ) (r : Row A) (p : Places) (h : Heard) → (line_byte h ≡ d → ⊥) → ShowsJust g d None r p h
shows_none g d r p h n x = (λ (i, t, j). absurd (cc), λ e. absurd (n (ap line_byte e)))
