-- The plain run: what puts and exchanges answer, by the first rows alone and with no pile.
use Rattle.std.specs.Prelude.{ℕ, ◌+◌, ◌-◌, Bool, true, false, if◌then◌else◌, not, ◌&&◌, List, [], ◌∷◌, length, is_some, Some, None, Ok, Err, Option, Result, ◌==◌, nat_le, nat_lt}
use Rattle.cursor.specs.Rows.{Row}
use Rattle.bus.specs.declared.party.Party.{Party}
use Rattle.bus.specs.declared.request.Call.{Call}
use Rattle.bus.specs.declared.request.Call.TheVariants.{Next, Nth, Advance, NextBack, NthBack, AdvanceBack}
use Rattle.bus.specs.declared.request.Request.{Request}
use Rattle.bus.specs.Numbers.{is_back}
use Rattle.bus.specs.Waiting.{Waiting, Served, nobody, admit, kept, verdict, turn, freed, asks_of}
use Rattle.bus.specs.Frames.{reach}
use Rattle.bus.specs.State.{Kinds, Rows, framed}

-- what is asked of a bus: a put with its party, call and n; an exchange with the length of `out`
pub data Asked : Type 0 where
  put : ℕ → ℕ → ℕ → Asked
  exchange : ℕ → Asked

-- what comes back: a party's acceptance, a refusal by its number, or a length and the frame
pub data Heard : Type 0 where
  accepted : ℕ → Heard
  refused : ℕ → Heard
  answered : ℕ → List ℕ → Heard

abbrev pub said : Result ℕ ℕ → Heard
said (Ok p) = accepted p
said (Err e) = refused e

abbrev pub shown : List ℕ → Heard
shown b = answered (length b) b

-- The places of a row that are still to come: how many were asked for at the front, and how many at the back.
pub record Places : Type 0 where
  pub front : ℕ
  pub back : ℕ

-- place i is still to come: it is not among the first `front`, and an item stands `back` places behind it
abbrev pub to_come : {A : Type 0} → Row A → Places → ℕ → Bool
to_come r p i = nat_le p.front i && is_some (r (i + p.back))

-- the items at the places still to come, in order
abbrev pub coming : {A : Type 0} → Row A → Places → Row A
coming r p = λ i. if is_some (r ((p.front + i) + p.back)) then r (p.front + i) else None

-- the places that a call leaves
abbrev pub less : Option (Request Call) → Places → Places
less None p = p
less (Some q) p = if is_back q.call then record { front = p.front; back = p.back + reach q } else record { front = p.front + reach q; back = p.back }

pub data End : Type 0 where
  at_front : End
  at_back : End

-- a call takes place i at an end: it is among the first, or the last, so many places still to come
abbrev pub takes : {A : Type 0} → End → Option (Request Call) → Row A → Places → ℕ → Bool
takes e None r p i = false
takes at_front (Some q) r p i = not (is_back q.call) && (to_come r p i && nat_lt i (p.front + reach q))
takes at_back (Some q) r p i = is_back q.call && (to_come r p i && not (is_some (r (i + (p.back + reach q)))))

abbrev pub hands_out : Call → Bool
hands_out Next = true
hands_out Nth = true
hands_out Advance = false
hands_out NextBack = true
hands_out NthBack = true
hands_out AdvanceBack = false

-- a call hands out place i: it is no advance, and of the places that it takes this is the last, as many as it asked for
abbrev pub hands : {A : Type 0} → Option (Request Call) → Row A → Places → ℕ → Bool
hands None r p i = false
hands (Some q) r p i = hands_out q.call && (if is_back q.call
    then takes at_back (Some q) r p i && is_some (r (i + (p.back + (reach q - 1))))
    else takes at_front (Some q) r p i && i + 1 == p.front + reach q)

pub record Plain : Type 0 where
  pub waits : Waiting
  pub places : Party → Places

-- whom a call serves
abbrev pub serves : Asked → Plain → Option Served
serves (put p c n) q = None
serves (exchange room) q = if nat_lt room 10 then None else turn q.waits

abbrev pub served : Option Served → Plain → Plain
served u q = record { waits = freed u q.waits; places = λ p. less (asks_of p u) (q.places p) }

abbrev pub step : Asked → Plain → Plain
step (put p c n) q = record { waits = kept (admit p c n q.waits) q.waits; places = q.places }
step (exchange room) q = served (serves (exchange room) q) q

-- the run of what was asked, the newest first
abbrev pub run : List Asked → Plain
run [] = record { waits = nobody; places = λ p. record { front = 0; back = 0 } }
run (a ∷ older) = step a (run older)

module _ {I : Party → Type 0} (k : Kinds I) (f : Rows I) where
  -- what the plain run answers: an exchange's call works on the items at the places still to come
  abbrev pub reply : Asked → Plain → Heard
  reply (put p c n) q = said (verdict p (admit p c n q.waits))
  reply (exchange room) q = if nat_lt room 10 then refused 25 else shown (framed k (turn q.waits) (λ p. coming (f p) (q.places p)))

  abbrev pub replies : List Asked → List Heard
  replies [] = []
  replies (a ∷ older) = reply a (run older) ∷ replies older

abbrev pub times : Bool → ℕ
times true = 1
times false = 0

-- how many exchanges took place i of a party's first row at an end
abbrev pub takings : {I : Party → Type 0} → Rows I → End → (p : Party) → ℕ → List Asked → ℕ
takings f e p i [] = 0
takings f e p i (a ∷ older) = times (takes e (asks_of p (serves a (run older))) (f p) ((run older).places p) i) + takings f e p i older
