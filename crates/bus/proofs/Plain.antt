-- A bus agrees with the plain run, over its whole past.
use Rattle.std.proofs.Common.{◌≡◌, ℕ, ◌+◌, Bool, true, false, cond, ltb, List, [], ◌∷◌, length, drop, is_some, Some, None, Option, Result, sym, refl, ap, ◌∙◌, subst, ap₂, arith, ltb-false, ltb-true}
use mathlib.Core.Path.{fun_ext}
use lib.Seq.{take-append_seam}
use Rattle.std.proofs.lemmas.Bool.Decides.{nat_tests}
use Rattle.cursor.specs.Rows.{Row, Length, size}
use Rattle.bus.specs.declared.fault.Fault.{Fault}
use Rattle.bus.specs.declared.party.Party.{Party}
use Rattle.bus.specs.declared.request.Call.{Call}
use Rattle.bus.specs.declared.request.Request.{Request}
use Rattle.bus.specs.Numbers.{is_back}
use Rattle.bus.specs.Waiting.{admit, kept, verdict, turn, freed, asks_of}
use Rattle.bus.specs.Frames.{leaves}
use Rattle.bus.specs.State.{State, Pile, Kinds, Rows, rows, framed, CalledIf, ExchangeDone, New}
use Rattle.bus.specs.Plain.{Asked, put, exchange, refused, answered, said, shown, Places, to_come, coming, less, at_front, at_back, Plain, serves, served, run, replies, times, takings}
use Rattle.bus.specs.Law.{Event, asks, hears, found, Past, born, did_put, did_exchange}
use Rattle.bus.proofs.Places.{coming_all, coming_leaves, takes_one}
use Rattle.bus.proofs.Turns.{Sound, admit_sound, freed_sound, turn_waits}

-- a pile's row after a call of it
called_row : {A : Type 0} (r : Row A) (p : Places) (w : ℕ) (o : Option (Request Call)) (s t : Pile A) → CalledIf w o s t → s.row ≡ coming r p →
    ((q : Request Call) → o ≡ Some q → is_back q.call ≡ true → Length r (size r)) → t.row ≡ coming r (less o p)
called_row r p w None s t d e h = ap (λ x. x.row) d ∙ e
called_row r p w (Some q) s t d e h = d.rest ∙ ap (leaves q) e ∙ coming_leaves r p q (h q refl)

module _ {I : Party → Type 0} (k : Kinds I) (f : State I) where
  -- the rows that the plain run has
  abbrev plain_rows : Plain → Rows I
  plain_rows q = λ p. coming (rows f p) (q.places p)

  -- a bus agrees with the plain run
  pub record Tied (q : Plain) (s : State I) : Type 0 where
    pub waits : s.waits ≡ q.waits
    pub sound : Sound q.waits
    pub row : (p : Party) → rows s p ≡ plain_rows q p

  pub new_of : {es : List Event} {s : State I} → Past k f es s → New f
  new_of (born n) = n
  new_of (did_put p c n r past d) = new_of past
  new_of (did_exchange out r out' past d) = new_of past

  exchange_tied : New f → (q : Plain) (s t : State I) (out : List ℕ) (r : Result ℕ Fault) (out' : List ℕ) → ExchangeDone k s out r out' t → Tied q s →
      (b : Bool) → ltb (length out) 10 ≡ b → Tied (served (cond b None (turn q.waits)) q) t
  exchange_tied n q s t out r out' d h true e = subst (λ x. Tied q x) (sym (d.denied (ltb-true _ _ e)).1) h
  exchange_tied n q s t out r out' d h false e =
      let x = d.served (ltb-false _ _ e) in
      record {
        waits = x.waits ∙ ap (λ w. freed (turn w) w) h.waits;
        sound = freed_sound (turn q.waits) q.waits h.sound;
        row = λ p. called_row (rows f p) (q.places p) (k.weight p) (asks_of p (turn q.waits)) (s.pile p) (t.pile p)
            (subst (λ w. CalledIf (k.weight p) (asks_of p (turn w)) (s.pile p) (t.pile p)) h.waits (x.piles p)) (h.row p)
            (λ o i b. n.finite p (h.sound p o (turn_waits q.waits p o i) b));
      }

  pub tied : {es : List Event} {s : State I} → Past k f es s → Tied (run (asks es)) s
  tied (born n) = record {
    waits = n.waits;
    sound = λ p q e. absurd (cc);
    row = λ p. sym (coming_all (rows f p) (record { front = 0; back = 0 }) refl refl);
  }
  tied (did_put {es} {s} {t} p c n r past d) =
      let h = tied past in
      record {
        waits = d.waits ∙ ap (λ w. kept (admit p c n w) w) h.waits;
        sound = admit_sound p c n (run (asks es)).waits h.sound;
        row = λ x. ap (λ y. y.row) (d.piles x) ∙ h.row x;
      }
  tied (did_exchange {es} {s} {t} out r out' past d) = exchange_tied (new_of past) (run (asks es)) s t out r out' d (tied past) (ltb (length out) 10) refl

  -- every answer and frame is the plain run's
  exchange_heard : (q : Plain) (s t : State I) (out : List ℕ) (r : Result ℕ Fault) (out' : List ℕ) → ExchangeDone k s out r out' t → Tied q s →
      (b : Bool) → ltb (length out) 10 ≡ b → found r out' ≡ cond b (refused 25) (shown (framed k (turn q.waits) (plain_rows q)))
  exchange_heard q s t out r out' d h true e = ap (λ x. found x out') (d.denied (ltb-true _ _ e)).0.answer
  exchange_heard q s t out r out' d h false e =
      let x = (d.served (ltb-false _ _ e)).written in
      let b = framed k (turn s.waits) (rows s) in
      ap₂ found x.answer x.bytes
      ∙ ap (λ l. answered (length b) l) (take-append_seam b (drop (length b) out))
      ∙ ap₂ (λ w l. shown (framed k (turn w) l)) h.waits (fun_ext h.row)

  pub heard_plain : {es : List Event} {s : State I} → Past k f es s → hears es ≡ replies k (rows f) (asks es)
  heard_plain (born n) = refl
  heard_plain (did_put {es} {s} {t} p c n r past d) =
      ap₂ (λ a l. a ∷ l) (ap said d.answer ∙ ap (λ w. said (verdict p (admit p c n w))) (tied past).waits) (heard_plain past)
  heard_plain (did_exchange {es} {s} {t} out r out' past d) =
      ap₂ (λ a l. a ∷ l) (exchange_heard (run (asks es)) s t out r out' d (tied past) (ltb (length out) 10) refl) (heard_plain past)

  -- each place is still to come, or was taken once
  pub taken_once : New f → (p : Party) (i : ℕ) (l : List Asked) →
      times (is_some (rows f p i)) ≡ times (to_come (rows f p) ((run l).places p) i) + (takings (rows f) at_front p i l + takings (rows f) at_back p i l)
  taken_once n p i [] = grind (arith, nat_tests)
  taken_once n p i (put x c m ∷ l) = omega (arith, taken_once n p i l)
  taken_once n p i (exchange m ∷ l) = omega (arith, taken_once n p i l, takes_one (rows f p) (n.closed p) (asks_of p (serves (exchange m) (run l))) ((run l).places p) i)
