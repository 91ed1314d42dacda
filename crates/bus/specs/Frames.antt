-- What a call of a pile answers and leaves, by the cursors' own definitions, and the frame that shows the answer.
use Rattle.std.specs.Prelude.{ℕ, ◌+◌, ◌-◌, if◌then◌else◌, List, [], ◌∷◌, Some, None}
use Rattle.cursor.specs.Rows.{Row, after, first, taken, size, back}
use Rattle.frame.specs.Bytes.{be}
use Rattle.frame.specs.declared.framed.Framed as Framed
use Rattle.bus.specs.declared.answer.Answer.{Answer}
use Rattle.bus.specs.declared.answer.Answer.TheVariants.{Item, Advanced}
use Rattle.bus.specs.declared.request.Call.{Call}
use Rattle.bus.specs.declared.request.Call.TheVariants.{Next, Nth, Advance, NextBack, NthBack, AdvanceBack}
use Rattle.bus.specs.declared.request.Request.{Request}
use Rattle.bus.specs.Numbers.{is_back}

-- what a call answers, at a row
abbrev pub answer_of : {A : Type 0} → Call → ℕ → Row A → Answer A
answer_of Next n r = Item (r 0)
answer_of Nth n r = Item (r n)
answer_of Advance n r = Advanced (n - taken r n)
answer_of NextBack n r = Item (back r 0)
answer_of NthBack n r = Item (back r n)
answer_of AdvanceBack n r = Advanced (n - size r)

abbrev pub answer : {A : Type 0} → Request Call → Row A → Answer A
answer q r = answer_of q.call q.n r

-- how many places a call takes, as far as there are so many
abbrev pub reach_of : Call → ℕ → ℕ
reach_of Next n = 1
reach_of Nth n = n + 1
reach_of Advance n = n
reach_of NextBack n = 1
reach_of NthBack n = n + 1
reach_of AdvanceBack n = n

abbrev pub reach : Request Call → ℕ
reach q = reach_of q.call q.n

-- the row that a call leaves
abbrev pub leaves : {A : Type 0} → Request Call → Row A → Row A
leaves q r = if is_back q.call then first (size r - reach q) r else after (reach q) r

-- the frame of an item, of none and of an advance, with the line byte d
abbrev pub frame : {A : Type 0} → Framed.Ghosts A → ℕ → Answer A → List ℕ
frame f d (Item (Some x)) = f.KIND ∷ d ∷ f.body x
frame f d (Item None) = 0x25 ∷ d ∷ []
frame f d (Advanced s) = 0x26 ∷ d ∷ be 8 s
