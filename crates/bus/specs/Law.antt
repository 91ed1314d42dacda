-- The law over a bus's whole past.
use Rattle.std.specs.Prelude.{◌≡◌, ℕ, ◌+◌, ◌-◌, ◌≤◌, true, false, List, [], ◌∷◌, ◌++◌, length, take, is_some, Some, None, Ok, Err, Option, Result, ⊤}
use Rattle.cursor.specs.Rows.{Row}
use Rattle.frame.specs.declared.framed.Framed as Framed
use Rattle.bus.specs.declared.fault.Fault.{Fault}
use Rattle.bus.specs.declared.party.Party.{Party}
use Rattle.bus.specs.declared.party.Party.TheVariants.{Valve, Label, Stir}
use Rattle.bus.specs.declared.request.Call.{Call}
use Rattle.bus.specs.declared.request.Request.{Request}
use Rattle.bus.specs.Numbers.{number, fault_number}
use Rattle.bus.specs.Waiting.{Served, told, asks_of}
use Rattle.bus.specs.State.{State, Kinds, Rows, rows, PutDone, ExchangeDone, New}
use Rattle.bus.specs.Plain.{Asked, put, exchange, Heard, accepted, refused, answered, said, shown, Places, to_come, coming, hands, at_front, at_back, serves, run, replies, times, takings}

-- a call of a bus, what came back, and how often it touched the leaves
pub record Event : Type 0 where
  pub asked : Asked
  pub heard : Heard
  pub touches : ℕ

abbrev pub asks : List Event → List Asked
asks [] = []
asks (e ∷ es) = e.asked ∷ asks es

abbrev pub hears : List Event → List Heard
hears [] = []
hears (e ∷ es) = e.heard ∷ hears es

abbrev pub total : List Event → ℕ
total [] = 0
total (e ∷ es) = e.touches + total es

-- the three tallies together
abbrev pub tallies : {I : Party → Type 0} → State I → ℕ
tallies s = (s.pile Valve).tally + (s.pile Label).tally + (s.pile Stir).tally

-- what an exchange's caller finds: the answer, and so many bytes of `out`
abbrev pub found : Result ℕ Fault → List ℕ → Heard
found (Ok n) out = answered n (take n out)
found (Err e) out = refused (fault_number e)

abbrev pub put_event : {I : Party → Type 0} → ℕ → ℕ → ℕ → Result Party Fault → State I → State I → Event
put_event p c n r s t = record { asked = put p c n; heard = said (told r); touches = tallies t - tallies s }

abbrev pub exchange_event : {I : Party → Type 0} → List ℕ → Result ℕ Fault → List ℕ → State I → State I → Event
exchange_event out r out' s t = record { asked = exchange (length out); heard = found r out'; touches = tallies t - tallies s }

-- a bus that was new at `f`, and of which the puts and exchanges `es`, the newest first, are the entire past
pub data Past {I : Party → Type 0} (k : Kinds I) (f : State I) : List Event → State I → Type 0 where
  born : New f → Past k f [] f
  did_put : {es : List Event} {s t : State I} (p c n : ℕ) (r : Result Party Fault) →
      Past k f es s → PutDone s p c n r t → Past k f (put_event p c n r s t ∷ es) t
  did_exchange : {es : List Event} {s t : State I} (out : List ℕ) (r : Result ℕ Fault) (out' : List ℕ) →
      Past k f es s → ExchangeDone k s out r out' t → Past k f (exchange_event out r out' s t ∷ es) t

-- whom a call served that was made after the calls `older`
abbrev pub whom : Event → List Event → Option Served
whom e older = serves e.asked (run (asks older))

-- what is heard where an item is shown, with the line byte d
abbrev pub item_shown : {A : Type 0} → Framed.Ghosts A → ℕ → A → Heard
item_shown g d x = shown (g.KIND ∷ (d ∷ g.body x))

-- a call hands out the item x: it hands out a place of the first row at which x stands
abbrev pub Handed : {A : Type 0} → Option (Request Call) → Row A → Places → A → Type 0
Handed o r p x = (i : ℕ) × (hands o r p i ≡ true) × (r i ≡ Some x)

-- what is heard shows an item exactly where the call hands it out
abbrev pub ShowsJust : {A : Type 0} → Framed.Ghosts A → ℕ → Option (Request Call) → Row A → Places → Heard → Type 0
ShowsJust {A} g d o r p h = (x : A) → (Handed o r p x → h ≡ item_shown g d x) × (h ≡ item_shown g d x → Handed o r p x)

-- so it is of each call and each party
abbrev pub Shows : {I : Party → Type 0} → Kinds I → Rows I → List Event → Type 0
Shows k f [] = ⊤
Shows k f (e ∷ older) =
    ((p : Party) → ShowsJust (k.framing p) (number p) (asks_of p (whom e older)) (f p) ((run (asks older)).places p) e.heard) × Shows k f older

-- the weight of whom a call served; 0 if it served nobody
abbrev pub load : (Party → ℕ) → Option Served → ℕ
load w None = 0
load w (Some u) = w u.party

-- each call touches the leaves no more often than the weight of the pile that it serves, and not at all if it serves none
abbrev pub Light : (Party → ℕ) → List Event → Type 0
Light w [] = ⊤
Light w (e ∷ older) = (e.touches ≤ load w (whom e older)) × Light w older

-- none of the calls `es`, made after `older`, served the valve
abbrev pub Unserved : List Event → List Event → Type 0
Unserved [] older = ⊤
Unserved (e ∷ es) older = (is_some (asks_of Valve (whom e (es ++ older))) ≡ false) × Unserved es older

-- A valve's request that the call `a` accepted: the calls `between` did not serve it, and `e` is the call after them, which
-- may. From `a` to the end of `e` the leaves are touched no more than w times. `newer` are the calls since then.
abbrev pub Prompt : ℕ → List Event → Type 0
Prompt w es = (newer : List Event) (e : Event) (between : List Event) (a : Event) (older : List Event) (c n : ℕ) →
    es ≡ newer ++ (e ∷ (between ++ (a ∷ older))) → a.asked ≡ put (number Valve) c n → a.heard ≡ accepted (number Valve) →
    Unserved between (a ∷ older) → e.touches + (total between + a.touches) ≤ w

-- the law: a bus that was new at `f`, is now at `s`, and was called so in between
pub record Lawful {I : Party → Type 0} (k : Kinds I) (f : State I) (es : List Event) (s : State I) : Type 0 where
  -- every answer and frame is the plain run's
  pub plain : hears es ≡ replies k (rows f) (asks es)
  -- each place with an item is still to come, or was taken by exactly one exchange at one end
  pub once : (p : Party) (i : ℕ) → times (is_some (rows f p i))
      ≡ times (to_come (rows f p) ((run (asks es)).places p) i) + (takings (rows f) at_front p i (asks es) + takings (rows f) at_back p i (asks es))
  -- each row now is the items at its places still to come, in order
  pub rest : (p : Party) → rows s p ≡ coming (rows f p) ((run (asks es)).places p)
  -- the frames show exactly the items that are handed out
  pub shows : Shows k (rows f) es
  -- the touches are the whole rise of the tallies
  pub counted : tallies s ≡ tallies f + total es
  -- no call touches the leaves more often than its pile's weight; one that serves nobody never does
  pub light : Light k.weight es
  -- a valve waits for no more touches than its own pile's weight
  pub prompt : Prompt (k.weight Valve) es

-- a call, from `s` to `t`, of a bus with any past: it is the newest of the past, and the law holds
abbrev pub Goes : {I : Party → Type 0} → Kinds I → State I → Event → State I → Type 0
Goes {I} k s e t = (f : State I) (es : List Event) → Past k f es s → Past k f (e ∷ es) t × Lawful k f (e ∷ es) t

-- a new bus has no past, and the law holds
abbrev pub Starts : {I : Party → Type 0} → Kinds I → State I → Type 0
Starts k s = Past k s [] s × Lawful k s [] s
