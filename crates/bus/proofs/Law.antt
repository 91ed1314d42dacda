-- The law over a bus's whole past.
use Rattle.std.proofs.Common.{◌≡◌, ℕ, Bool, true, false, cond, ltb, List, length, Some, None, Option, Result, sym, refl, ap, ◌∙◌, subst, arith}
use Rattle.std.proofs.lemmas.Bool.Decides.{nat_tests}
use Rattle.cursor.specs.Rows.{Length, size}
use Rattle.frame.specs.Kinds.{Free}
use Rattle.frame.specs.declared.framed.Framed as Framed
use Rattle.bus.specs.declared.fault.Fault.{Fault}
use Rattle.bus.specs.declared.party.Party.{Party}
use Rattle.bus.specs.declared.party.Party.TheVariants.{Valve, Label, Stir}
use Rattle.bus.specs.declared.request.Call.{Call}
use Rattle.bus.specs.declared.request.Request.{Request}
use Rattle.bus.specs.Numbers.{number, same, is_back}
use Rattle.bus.specs.Waiting.{Served, told, turn, asks_of}
use Rattle.bus.specs.Frames.{answer, frame}
use Rattle.bus.specs.State.{State, Kinds, rows, framed, framings, PutDone, ExchangeDone, New}
use Rattle.bus.specs.Plain.{exchange, Heard, refused, shown, coming, Plain, run, reply}
use Rattle.bus.specs.Law.{Event, asks, found, Past, born, did_put, did_exchange, ShowsJust, Shows, Lawful, Goes, Starts, put_event, exchange_event}
use Rattle.bus.proofs.Items.{Apt, shows_call, shows_none, line_byte, said_line, frame_line}
use Rattle.bus.proofs.Plain.{new_of, tied, heard_plain, taken_once}
use Rattle.bus.proofs.Touches.{light, prompt}
use Rattle.bus.proofs.Turns.{Sound, same_party, turn_waits}

nonzero : (p : Party) → 0 ≡ number p → ⊥
nonzero Valve e = omega arith
nonzero Label e = omega arith
nonzero Stir e = omega arith

same_self : (p : Party) → same p p ≡ true
same_self Valve = refl
same_self Label = refl
same_self Stir = refl

module _ {I : Party → Type 0} (k : Kinds I) (f : State I) (apt : (p : Party) → Apt (k.framing p)) where
  -- what is heard shows just the items that a turn hands out, to each party
  abbrev ShowsTurn : Plain → Option Served → Heard → Type 0
  ShowsTurn q u h = (p : Party) → ShowsJust (k.framing p) (number p) (asks_of p u) (rows f p) (q.places p) h

  nobody_shown : (q : Plain) (h : Heard) → line_byte h ≡ 0 → ShowsTurn q None h
  nobody_shown q h e p = shows_none (k.framing p) (number p) (rows f p) (q.places p) h (λ i. nonzero p (sym e ∙ i))

  abbrev heard_of : Plain → Party → Request Call → Heard
  heard_of q x o = shown (frame (k.framing x) (number x) (answer o (coming (rows f x) (q.places x))))

  one_shown : (q : Plain) (x : Party) (o : Request Call) → (is_back o.call ≡ true → Length (rows f x) (size (rows f x))) →
      ShowsTurn q (Some (record { party = x; request = o })) (heard_of q x o)
  one_shown q x o h p = go (same p x) refl
    where
      go : (b : Bool) → same p x ≡ b → ShowsJust (k.framing p) (number p) (cond b (Some o) None) (rows f p) (q.places p) (heard_of q x o)
      go true s =
          subst (λ y. ShowsJust (k.framing y) (number y) (Some o) (rows f y) (q.places y) (heard_of q x o)) (sym (same_party p x s))
          (shows_call (k.framing x) (apt x) (number x) o (rows f x) (q.places x) h)
      go false s =
          shows_none (k.framing p) (number p) (rows f p) (q.places p) (heard_of q x o)
          (λ e. let z : number x ≡ number p = sym (frame_line (k.framing x) (number x) (answer o (coming (rows f x) (q.places x)))) ∙ e in
          absurd (let y : ◌≡◌ {A = ℕ} 0 1 = grind (arith, nat_tests) in omega arith))

  turn_shown : New f → (q : Plain) → Sound q.waits → (u : Option Served) → turn q.waits ≡ u → ShowsTurn q u (shown (framed k u (λ p. coming (rows f p) (q.places p))))
  turn_shown n q s None e = nobody_shown q _ refl
  turn_shown n q s (Some u) e =
      one_shown q u.party u.request
      (λ b. n.finite u.party (s u.party u.request (turn_waits q.waits u.party u.request (ap (asks_of u.party) e ∙ ap (λ t. cond t (Some u.request) None) (same_self u.party))) b))

  exchange_shown : New f → (q : Plain) → Sound q.waits → (b : Bool) →
      ShowsTurn q (cond b None (turn q.waits)) (cond b (refused 25) (shown (framed k (turn q.waits) (λ p. coming (rows f p) (q.places p)))))
  exchange_shown n q s true = nobody_shown q _ refl
  exchange_shown n q s false = turn_shown n q s (turn q.waits) refl

  shows : {es : List Event} {s : State I} → Past k f es s → Shows k (rows f) es
  shows (born n) = tt
  shows (did_put {es} p c n r past d) = (nobody_shown (run (asks es)) _ (said_line (told r)), shows past)
  shows (did_exchange {es} out r out' past d) =
      let q = run (asks es) in
      let b = ltb (length out) 10 in
      let h : found r out' ≡ reply k (rows f) (exchange (length out)) q = cc (heard_plain k f (did_exchange out r out' past d)) in
      (subst (ShowsTurn q (cond b None (turn q.waits))) (sym h) (exchange_shown (new_of k f past) q (tied k f past).sound b), shows past)

  pub lawful : {es : List Event} {s : State I} → Past k f es s → Lawful k f es s
  lawful {es} past =
      let t = light k f past in
      let h = heard_plain k f past in
      record {
        plain = h;
        once = λ p i. taken_once k f (new_of k f past) p i (asks es);
        rest = (tied k f past).row;
        shows = shows past;
        counted = t.1;
        light = t.0;
        prompt = prompt k (rows f) es h t.0;
      }

-- three kinds of items, by party
pub apts : {A B C : Type 0} (f : Framed.Ghosts A) (g : Framed.Ghosts B) (h : Framed.Ghosts C) →
    Free f.KIND → ((x y : A) → f.body x ≡ f.body y → x ≡ y) →
    Free g.KIND → ((x y : B) → g.body x ≡ g.body y → x ≡ y) →
    Free h.KIND → ((x y : C) → h.body x ≡ h.body y → x ≡ y) → (p : Party) → Apt (framings f g h p)
apts f g h a b c d i j Valve = record { free = a; told = b }
apts f g h a b c d i j Label = record { free = c; told = d }
apts f g h a b c d i j Stir = record { free = i; told = j }

module _ {I : Party → Type 0} (k : Kinds I) (apt : (p : Party) → Apt (k.framing p)) where
  pub starts : (s : State I) → New s → Starts k s
  starts s n = (born n, lawful k s apt (born n))

  pub put_goes : (s t : State I) (p c n : ℕ) (r : Result Party Fault) → PutDone s p c n r t → Goes k s (put_event p c n r s t) t
  put_goes s t p c n r d f es past = let q = did_put p c n r past d in (q, lawful k f apt q)

  pub exchange_goes : (s t : State I) (out : List ℕ) (r : Result ℕ Fault) (out' : List ℕ) → ExchangeDone k s out r out' t → Goes k s (exchange_event out r out' s t) t
  exchange_goes s t out r out' d f es past = let q = did_exchange out r out' past d in (q, lawful k f apt q)
