-- Many calls, one after the other.
use Rattle.std.proofs.Common.{◌≡◌, ℕ, ◌+◌, ◌<◌, ◌≤◌, Bool, true, false, ltb, List, [], ◌∷◌, ◌++◌, length, get_or, take, drop, Ok, Err, Result, sym, refl, ap, ◌∙◌, subst, ap₂, take_all, ltb-false, ltb-true}
use lib.Seq.{take-append_seam}
use Rattle.std.proofs.lemmas.List.{take_more}
use Rattle.frame.specs.Bytes.{over}
use Rattle.bus.specs.declared.fault.Fault.{Fault}
use Rattle.bus.specs.declared.party.Party.{Party}
use Rattle.bus.specs.declared.script.Step.{Step}
use Rattle.bus.specs.Waiting.{turn}
use Rattle.bus.specs.State.{State, Kinds, rows, framed, ExchangeDone}
use Rattle.bus.specs.Plain.{Asked, said}
use Rattle.bus.specs.Law.{Past, Lawful, found}
use Rattle.bus.specs.Scripts.{asking, asking_all, laid, Stepped, Ran}

asking_more : (room : ℕ) (l : List Step) (s : Step) (older : List Asked) → asking_all room (l ++ (s ∷ [])) older ≡ asking room s ∷ asking_all room l older
asking_more room [] s older = refl
asking_more room (x ∷ l) s older = asking_more room l s (asking room x ∷ older)

pub put_laid : (r : Result ℕ ℕ) (out : List ℕ) → out ≡ laid (said r) out
put_laid (Ok p) out = refl
put_laid (Err e) out = refl

module _ {I : Party → Type 0} (k : Kinds I) where
  -- what is found in the buffer is what was laid there
  room_laid : (s t : State I) (out : List ℕ) (r : Result ℕ Fault) (out' : List ℕ) → ExchangeDone k s out r out' t → (b : Bool) → ltb (length out) 10 ≡ b → out' ≡ laid (found r out') out
  room_laid s t out r out' d true e =
      let x = (d.denied (ltb-true _ _ e)).0 in
      x.bytes ∙ sym (ap (λ y. laid (found y out') out) x.answer)
  room_laid s t out r out' d false e =
      let x = (d.served (ltb-false _ _ e)).written in
      let b = framed k (turn s.waits) (rows s) in
      x.bytes ∙ sym (ap₂ (λ y z. laid (found y z) out) x.answer x.bytes ∙ ap (λ z. over z out) (take-append_seam b (drop (length b) out)))

  pub exchange_laid : (s t : State I) (out : List ℕ) (r : Result ℕ Fault) (out' : List ℕ) → ExchangeDone k s out r out' t → out' ≡ laid (found r out') out
  exchange_laid s t out r out' d = room_laid s t out r out' d (ltb (length out) 10) refl

  pub ran_more : (f s t : State I) (out now' out' : List ℕ) (steps : List Step) (i : ℕ) (d : Step) → length now' ≡ length out → i < length steps →
      Ran k f out (take i steps) s now' → Stepped k s now' (get_or steps i d) t out' → Ran k f out (take (i + 1) steps) t out'
  ran_more f s t out now' out' steps i d e h a b =
      let z = b.goes f a.events a.past in
      record {
        events = b.event ∷ a.events;
        asked = ap₂ (λ u w. u ∷ w) (b.asked ∙ ap (λ m. asking m (get_or steps i d)) e) a.asked
            ∙ sym (ap (λ l. asking_all (length out) l []) (take_more steps i d h) ∙ asking_more (length out) (take i steps) (get_or steps i d) []);
        past = z.0;
        law = z.1;
        left = b.left ∙ ap (laid b.event.heard) a.left;
      }

  pub ran_all : (f g s : State I) (out out' : List ℕ) (steps : List Step) (i : ℕ) → f ≡ g → length steps ≤ i → Ran k f out (take i steps) s out' → Ran k g out steps s out'
  ran_all f g s out out' steps i e h a = record {
    events = a.events;
    asked = a.asked ∙ ap (λ l. asking_all (length out) l []) (take_all i steps h);
    past = subst (λ x. Past k x a.events s) e a.past;
    law = subst (λ x. Lawful k x a.events s) e a.law;
    left = a.left;
  }
