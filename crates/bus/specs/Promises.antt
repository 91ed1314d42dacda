-- What the calls of a bus promise, over any piles and any kinds of items.
use Rattle.std.specs.Prelude.{ℕ, List, None, Result}
use Rattle.cursor.specs.declared.Cursor as Cursor
use Rattle.frame.specs.declared.framed.Framed as Framed
use Rattle.bus.specs.declared.Bus.{Bus}
use Rattle.bus.specs.declared.fault.Fault.{Fault}
use Rattle.bus.specs.declared.party.Party.{Party}
use Rattle.bus.specs.State.{Kinds, Items, framings, weights, meant, PutDone, ExchangeDone}
use Rattle.bus.specs.Law.{Starts, Goes, put_event, exchange_event}

-- a new bus of three piles
abbrev pub fresh : {V L S : Type 0} → V → L → S → Bus V L S
fresh v l s = record { waits = record { valve = None; label = None; stir = None }; valve = v; label = l; stir = s }

module _ {V L S A B C : Type 0} (v : Cursor.Ghosts V A) (l : Cursor.Ghosts L B) (s : Cursor.Ghosts S C) where
  abbrev pub PutSays : Bus V L S → ℕ → ℕ → ℕ → Result Party Fault → Bus V L S → Type 0
  PutSays b p c n r d = PutDone (meant v l s b) p c n r (meant v l s d)

module _ {V L S A B C : Type 0}
    (v : Cursor.Ghosts V A) (l : Cursor.Ghosts L B) (s : Cursor.Ghosts S C)
    (vf : Framed.Ghosts A) (lf : Framed.Ghosts B) (sf : Framed.Ghosts C) where
  abbrev pub kinds : Kinds (Items A B C)
  kinds = record { framing = framings vf lf sf; weight = weights v l s }

  abbrev pub NewLaw : Bus V L S → Type 0
  NewLaw b = Starts kinds (meant v l s b)

  abbrev pub PutLaw : Bus V L S → ℕ → ℕ → ℕ → Result Party Fault → Bus V L S → Type 0
  PutLaw b p c n r d = Goes kinds (meant v l s b) (put_event p c n r (meant v l s b) (meant v l s d)) (meant v l s d)

  abbrev pub ExchangeSays : Bus V L S → List ℕ → Result ℕ Fault → List ℕ → Bus V L S → Type 0
  ExchangeSays b out r out' d = ExchangeDone kinds (meant v l s b) out r out' (meant v l s d)

  abbrev pub ExchangeLaw : Bus V L S → List ℕ → Result ℕ Fault → List ℕ → Bus V L S → Type 0
  ExchangeLaw b out r out' d = Goes kinds (meant v l s b) (exchange_event out r out' (meant v l s b) (meant v l s d)) (meant v l s d)
