-- Many calls, one after the other.
use Rattle.std.specs.Prelude.{◌≡◌, ℕ, List, [], ◌∷◌, length}
use Rattle.cursor.specs.declared.Cursor as Cursor
use Rattle.frame.specs.Bytes.{over}
use Rattle.frame.specs.declared.framed.Framed as Framed
use Rattle.bus.specs.declared.Bus.{Bus}
use Rattle.bus.specs.declared.party.Party.{Party}
use Rattle.bus.specs.declared.script.Step.{Step}
use Rattle.bus.specs.declared.script.Step.TheVariants.{Put, Exchange}
use Rattle.bus.specs.State.{State, Kinds, meant}
use Rattle.bus.specs.Plain.{Asked, put, exchange, Heard, accepted, refused, answered}
use Rattle.bus.specs.Law.{Event, asks, Past, Lawful, Goes}
use Rattle.bus.specs.Promises.{kinds}

-- what a step asks, with so much room for a frame
abbrev pub asking : ℕ → Step → Asked
asking room (Put p c n) = put p c n
asking room Exchange = exchange room

-- what a list of steps asks after what was asked before, the newest first
abbrev pub asking_all : ℕ → List Step → List Asked → List Asked
asking_all room [] older = older
asking_all room (s ∷ l) older = asking_all room l (asking room s ∷ older)

-- what a buffer holds once a frame was written to it; other answers leave it
abbrev pub laid : Heard → List ℕ → List ℕ
laid (accepted p) out = out
laid (refused e) out = out
laid (answered n frame) out = over frame out

-- the same for many calls, the newest first
abbrev pub laid_all : List Event → List ℕ → List ℕ
laid_all [] out = out
laid_all (e ∷ older) out = laid e.heard (laid_all older out)

-- one step of a bus with any past: it is the newest of the past, and the law holds
pub record Stepped {I : Party → Type 0} (k : Kinds I) (s : State I) (out : List ℕ) (x : Step) (t : State I) (out' : List ℕ) : Type 0 where
  pub event : Event
  pub asked : event.asked ≡ asking (length out) x
  pub goes : Goes k s event t
  pub left : out' ≡ laid event.heard out

-- a bus that was new at f, and of which these steps are the entire past: the law holds
pub record Ran {I : Party → Type 0} (k : Kinds I) (f : State I) (out : List ℕ) (steps : List Step) (s : State I) (out' : List ℕ) : Type 0 where
  pub events : List Event
  pub asked : asks events ≡ asking_all (length out) steps []
  pub past : Past k f events s
  pub law : Lawful k f events s
  pub left : out' ≡ laid_all events out

module _ {V L S A B C : Type 0}
    (v : Cursor.Ghosts V A) (l : Cursor.Ghosts L B) (s : Cursor.Ghosts S C)
    (vf : Framed.Ghosts A) (lf : Framed.Ghosts B) (sf : Framed.Ghosts C) where
  abbrev pub StepSays : Bus V L S → List ℕ → Step → Bus V L S → List ℕ → Type 0
  StepSays b out x d out' = Stepped (kinds v l s vf lf sf) (meant v l s b) out x (meant v l s d) out'

  abbrev pub RunSays : Bus V L S → List ℕ → List Step → Bus V L S → List ℕ → Type 0
  RunSays b out steps d out' = Ran (kinds v l s vf lf sf) (meant v l s b) out steps (meant v l s d) out'
