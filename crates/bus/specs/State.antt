-- What a bus means, and what one call of it promises.
use Rattle.std.specs.Prelude.{◌≡◌, ℕ, ◌+◌, ◌<◌, ◌≤◌, true, List, [], ◌∷◌, length, Some, None, Ok, Err, Option, Result}
use Rattle.cursor.specs.Rows.{Row, Closed, Length, size}
use Rattle.cursor.specs.declared.Cursor as Cursor
use Rattle.frame.specs.Bytes.{over}
use Rattle.frame.specs.declared.framed.Framed as Framed
use Rattle.bus.specs.declared.Bus.{Bus}
use Rattle.bus.specs.declared.fault.Fault.{Fault}
use Rattle.bus.specs.declared.fault.Fault.TheVariants.{Short}
use Rattle.bus.specs.declared.party.Party.{Party}
use Rattle.bus.specs.declared.party.Party.TheVariants.{Valve, Label, Stir}
use Rattle.bus.specs.declared.request.Call.{Call}
use Rattle.bus.specs.declared.request.Request.{Request}
use Rattle.bus.specs.Numbers.{number, has_back}
use Rattle.bus.specs.Waiting.{Waiting, Served, nobody, waiting, admit, kept, told, verdict, turn, freed, asks_of}
use Rattle.bus.specs.Frames.{answer, leaves}
use Rattle.bus.specs.Frames as Frames

-- a pile: its row, and how often its leaves have been touched
pub record Pile (A : Type 0) : Type 0 where
  pub row : Row A
  pub tally : ℕ

-- a bus, where I gives each party's items
pub record State (I : Party → Type 0) : Type 0 where
  pub waits : Waiting
  pub pile : (p : Party) → Pile (I p)

-- how each party's items are framed, and the weight of its pile
pub record Kinds (I : Party → Type 0) : Type 1 where
  pub framing : (p : Party) → Framed.Ghosts (I p)
  pub weight : Party → ℕ

abbrev pub Rows : (Party → Type 0) → Type 0
Rows I = (p : Party) → Row (I p)

abbrev pub rows : {I : Party → Type 0} → State I → Rows I
rows s = λ p. (s.pile p).row

-- the frame of a turn, at the rows that the piles then have; 22 if nobody waits
abbrev pub framed : {I : Party → Type 0} → Kinds I → Option Served → Rows I → List ℕ
framed k None r = 0x22 ∷ []
framed k (Some u) r = Frames.frame (k.framing u.party) (number u.party) (answer u.request (r u.party))

-- a pile of weight w before and after a call of it
pub record Called {A : Type 0} (w : ℕ) (q : Request Call) (s t : Pile A) : Type 0 where
  pub rest : t.row ≡ leaves q s.row
  pub more : s.tally ≤ t.tally
  pub few : t.tally ≤ s.tally + w

abbrev pub CalledIf : {A : Type 0} → ℕ → Option (Request Call) → Pile A → Pile A → Type 0
CalledIf w None s t = t ≡ s
CalledIf w (Some q) s t = Called w q s t

-- a put: the request, its answer, and the bus before and after
pub record PutDone {I : Party → Type 0} (s : State I) (p c n : ℕ) (r : Result Party Fault) (t : State I) : Type 0 where
  pub answer : told r ≡ verdict p (admit p c n s.waits)
  pub waits : t.waits ≡ kept (admit p c n s.waits) s.waits
  pub piles : (p : Party) → t.pile p ≡ s.pile p

-- bytes written at the start of `out`, with their number as the answer; or the refusal, with `out` as it was
pub record Written (frame out : List ℕ) (r : Result ℕ Fault) (out' : List ℕ) : Type 0 where
  pub answer : r ≡ Ok (length frame)
  pub bytes : out' ≡ over frame out

pub record Denied (out : List ℕ) (r : Result ℕ Fault) (out' : List ℕ) : Type 0 where
  pub answer : r ≡ Err Short
  pub bytes : out' ≡ out

-- an exchange with room for a frame
pub record Exchanged {I : Party → Type 0} (k : Kinds I) (s : State I) (out : List ℕ) (r : Result ℕ Fault) (out' : List ℕ) (t : State I) : Type 0 where
  pub written : Written (framed k (turn s.waits) (rows s)) out r out'
  pub waits : t.waits ≡ freed (turn s.waits) s.waits
  pub piles : (p : Party) → CalledIf (k.weight p) (asks_of p (turn s.waits)) (s.pile p) (t.pile p)

-- an exchange: what `out` held, the answer, what `out` holds, and the bus before and after
pub record ExchangeDone {I : Party → Type 0} (k : Kinds I) (s : State I) (out : List ℕ) (r : Result ℕ Fault) (out' : List ℕ) (t : State I) : Type 0 where
  pub denied : length out < 10 → Denied out r out' × (t ≡ s)
  pub served : 10 ≤ length out → Exchanged k s out r out' t

-- a new bus: nobody waits; each row is closed, and finite where it has a back
pub record New {I : Party → Type 0} (s : State I) : Type 0 where
  pub waits : s.waits ≡ nobody
  pub closed : (p : Party) → Closed (rows s p)
  pub finite : (p : Party) → has_back p ≡ true → Length (rows s p) (size (rows s p))

abbrev pub pile_of : {C A : Type 0} → Cursor.Ghosts C A → C → Pile A
pile_of g c = record { row = g.row c; tally = g.tally c }

-- three things, by party
abbrev pub Items : Type 0 → Type 0 → Type 0 → Party → Type 0
Items A B C Valve = A
Items A B C Label = B
Items A B C Stir = C

abbrev pub framings : {A B C : Type 0} → Framed.Ghosts A → Framed.Ghosts B → Framed.Ghosts C → (p : Party) → Framed.Ghosts (Items A B C p)
framings f g h Valve = f
framings f g h Label = g
framings f g h Stir = h

module _ {V L S A B C : Type 0} (v : Cursor.Ghosts V A) (l : Cursor.Ghosts L B) (s : Cursor.Ghosts S C) where
  abbrev pub piles : Bus V L S → (p : Party) → Pile (Items A B C p)
  piles b Valve = pile_of v b.valve
  piles b Label = pile_of l b.label
  piles b Stir = pile_of s b.stir

  -- what a bus means, by what its piles mean
  abbrev pub meant : Bus V L S → State (Items A B C)
  meant b = record { waits = waiting b.waits; pile = piles b }

  abbrev pub weights : Party → ℕ
  weights Valve = v.weight
  weights Label = l.weight
  weights Stir = s.weight
