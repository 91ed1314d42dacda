-- One call of a bus: its promise from what the code's own calls promise.
use Rattle.std.proofs.Common.{◌≡◌, ℕ, ◌≤◌, true, List, length, Some, None, Ok, Option, Result, ok_or, sym, refl, ap, ◌∙◌, subst, ap₂, arith}
use mathlib.Core.Path.{fun_ext}
use Rattle.std.specs.Option.{option_map}
use Rattle.std.proofs.lemmas.Bool.Decides.{nat_tests}
use Rattle.cursor.specs.Rows.{Closed, Length, size}
use Rattle.cursor.specs.declared.Cursor as Cursor
use Rattle.frame.specs.Bytes.{over}
use Rattle.bus.specs.declared.Bus.{Bus}
use Rattle.bus.specs.declared.fault.Fault.{Fault}
use Rattle.bus.specs.declared.fault.Fault.TheVariants.{UnknownParty, UnknownCall}
use Rattle.bus.specs.declared.party.Party.{Party}
use Rattle.bus.specs.declared.party.Party.TheVariants.{Valve, Label, Stir}
use Rattle.bus.specs.declared.request.Call.{Call}
use Rattle.bus.specs.declared.request.Request.{Request}
use Rattle.bus.specs.declared.waits.Waits.{Waits}
use Rattle.bus.specs.Numbers.{number, party_of, has_back, call_of}
use Rattle.bus.specs.Waiting.{Served, widened, waiting, seat, admit_read, kept, told, verdict, turn, freed, asks_of}
use Rattle.bus.specs.State.{State, Kinds, rows, framed, Called, CalledIf, PutDone, ExchangeDone, New, pile_of, piles, meant, weights}

-- a new bus: its rows are closed, and those of the valve and the label have an end, since `len` says so
module _ {V L S A B C : Type 0} (v : Cursor.Ghosts V A) (l : Cursor.Ghosts L B) (s : Cursor.Ghosts S C) (w : Waits) (x : V) (y : L) (z : S) where
  abbrev made : Bus V L S
  made = record { waits = w; valve = x; label = y; stir = z }

  rows_closed : Closed (v.row x) → Closed (l.row y) → Closed (s.row z) → (p : Party) → Closed (rows (meant v l s made) p)
  rows_closed a b c Valve = a
  rows_closed a b c Label = b
  rows_closed a b c Stir = c

  nobody_waits : w.valve ≡ None → w.label ≡ None → w.stir ≡ None → (p : Party) → waiting w p ≡ None
  nobody_waits a b c Valve = a
  nobody_waits a b c Label = b
  nobody_waits a b c Stir = ap (option_map widened) c

  rows_end : (m n : ℕ) → m ≡ size (v.row x) → Length (v.row x) m → n ≡ size (l.row y) → Length (l.row y) n →
      (p : Party) → has_back p ≡ true → Length (rows (meant v l s made) p) (size (rows (meant v l s made) p))
  rows_end m n a b c d Valve e = subst (Length (v.row x)) a b
  rows_end m n a b c d Label e = subst (Length (l.row y)) c d
  rows_end m n a b c d Stir e = absurd (cc)

  pub new_bus : w.valve ≡ None → w.label ≡ None → w.stir ≡ None → Closed (v.row x) → Closed (l.row y) → Closed (s.row z) →
      (m n : ℕ) → m ≡ size (v.row x) → Length (v.row x) m → n ≡ size (l.row y) → Length (l.row y) n → New (meant v l s made)
  new_bus e f g h i j m n a b c d = record { waits = fun_ext (nobody_waits e f g); closed = rows_closed h i j; finite = rows_end m n a b c d }

-- a party and a call as they are read from their numbers
party_number : (b : ℕ) (p : Party) → Some p ≡ party_of b → number p ≡ b
party_number b Valve e = grind (arith, nat_tests)
party_number b Label e = grind (arith, nat_tests)
party_number b Stir e = grind (arith, nat_tests)

read : {A : Type 0} (o : Option A) (x : A) (f : Fault) → Ok x ≡ ok_or o f → Some x ≡ o
read None x f e = cc
read (Some y) x f e = cc

-- a put of a party that there is, and of a call that there is, is that of its request
pub put_done : {I : Party → Type 0} (s t : State I) (p c n : ℕ) (q : Party) (d : Call) (r : Result Party Fault) →
    Ok q ≡ ok_or (party_of p) UnknownParty → Ok d ≡ ok_or (call_of c) UnknownCall →
    told r ≡ verdict (number q) (seat q (record { call = d; n = n }) s.waits) → t.waits ≡ kept (seat q (record { call = d; n = n }) s.waits) s.waits →
    ((x : Party) → t.pile x ≡ s.pile x) → PutDone s p c n r t
put_done s t p c n q d r e f a w m =
    let x = read _ q _ e in
    let y = ap₂ (λ o u. admit_read o u n s.waits) x (read _ d _ f) in
    record { answer = a ∙ ap₂ verdict (party_number p q x) y; waits = w ∙ ap (λ v. kept v s.waits) y; piles = m }

-- an exchange with room that serves u
pub exchanged : {I : Party → Type 0} (k : Kinds I) (s t : State I) (u v : Option Served) (out out' : List ℕ) (n : ℕ) → 10 ≤ length out →
    v ≡ u → v ≡ turn s.waits → t.waits ≡ freed v s.waits →
    n ≡ length (framed k u (rows s)) → out' ≡ over (framed k u (rows s)) out →
    ((p : Party) → CalledIf (k.weight p) (asks_of p u) (s.pile p) (t.pile p)) →
    ExchangeDone k s out (Ok n) out' t
exchanged k s t u v out out' n h i j w a b m =
    let e = sym i ∙ j in
    record {
      denied = λ l. absurd (omega arith);
      served = λ l. record {
        written = record { answer = ap Ok a ∙ ap (λ x. Ok (length (framed k x (rows s)))) e; bytes = b ∙ ap (λ x. over (framed k x (rows s)) out) e };
        waits = w ∙ ap (λ x. freed x s.waits) j;
        piles = λ p. subst (λ x. CalledIf (k.weight p) (asks_of p x) (s.pile p) (t.pile p)) e (m p);
      };
    }

-- a bus before and after: no pile was called, or one, and the others stay
module _ {V L S A B C : Type 0} (v : Cursor.Ghosts V A) (l : Cursor.Ghosts L B) (s : Cursor.Ghosts S C) (b : Bus V L S) (w : Waits) where
  pub none_called : (p : Party) → piles v l s (record { waits = w; valve = b.valve; label = b.label; stir = b.stir }) p ≡ piles v l s b p
  none_called Valve = refl
  none_called Label = refl
  none_called Stir = refl

  pub valve_called : (x : V) (q : Request Call) → Called v.weight q (pile_of v b.valve) (pile_of v x) → (p : Party) →
      CalledIf (weights v l s p) (asks_of p (Some (record { party = Valve; request = q }))) (piles v l s b p) (piles v l s (record { waits = w; valve = x; label = b.label; stir = b.stir }) p)
  valve_called x q h Valve = h
  valve_called x q h Label = refl
  valve_called x q h Stir = refl

  pub label_called : (x : L) (q : Request Call) → Called l.weight q (pile_of l b.label) (pile_of l x) → (p : Party) →
      CalledIf (weights v l s p) (asks_of p (Some (record { party = Label; request = q }))) (piles v l s b p) (piles v l s (record { waits = w; valve = b.valve; label = x; stir = b.stir }) p)
  label_called x q h Valve = refl
  label_called x q h Label = h
  label_called x q h Stir = refl

  pub stir_called : (x : S) (q : Request Call) → Called s.weight q (pile_of s b.stir) (pile_of s x) → (p : Party) →
      CalledIf (weights v l s p) (asks_of p (Some (record { party = Stir; request = q }))) (piles v l s b p) (piles v l s (record { waits = w; valve = b.valve; label = b.label; stir = x }) p)
  stir_called x q h Valve = refl
  stir_called x q h Label = refl
  stir_called x q h Stir = h
