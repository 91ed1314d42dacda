-- How often the leaves are touched, over a bus's whole past.
use Rattle.std.proofs.Common.{◌≡◌, ℕ, ◌+◌, ◌-◌, ◌≤◌, Bool, true, false, cond, ltb, List, [], ◌∷◌, ◌++◌, length, is_some, Some, None, Ok, Err, Option, Result, sym, refl, ap, ◌∙◌, subst, arith, ltb-false, ltb-true}
use Rattle.bus.specs.declared.fault.Fault.{Fault}
use Rattle.bus.specs.declared.party.Party.{Party}
use Rattle.bus.specs.declared.party.Party.TheVariants.{Valve, Label, Stir}
use Rattle.bus.specs.declared.request.Call.{Call}
use Rattle.bus.specs.declared.request.Request.{Request}
use Rattle.bus.specs.Waiting.{Served, admit, verdict, turn, asks_of}
use Rattle.bus.specs.State.{State, Pile, Kinds, Rows, CalledIf, ExchangeDone}
use Rattle.bus.specs.Plain.{Asked, put, exchange, accepted, said, Plain, serves, served, step, run, reply, replies}
use Rattle.bus.specs.Law.{Event, asks, hears, total, tallies, Past, born, did_put, did_exchange, load, Light, Unserved, Prompt}
use Rattle.bus.proofs.Turns.{admit_valve, accepted_valve, turn_valve}
use Rattle.bus.proofs.Plain.{tied}

-- between two states the tallies rise by at most n
abbrev Rises : {I : Party → Type 0} → ℕ → State I → State I → Type 0
Rises n s t = (tallies s ≤ tallies t) × (tallies t - tallies s ≤ n)

tally_is : {A : Type 0} (s t : Pile A) → t ≡ s → t.tally ≡ s.tally
tally_is s t e = ap (λ x. x.tally) e

module _ {I : Party → Type 0} (w : Party → ℕ) (s t : State I) where
  none_rises : ((p : Party) → t.pile p ≡ s.pile p) → Rises 0 s t
  none_rises m =
      let a = tally_is _ _ (m Valve) in let b = tally_is _ _ (m Label) in let c = tally_is _ _ (m Stir) in (omega arith, omega arith)

  one_rises : (x : Party) (q : Request Call) → ((p : Party) → CalledIf (w p) (asks_of p (Some (record { party = x; request = q }))) (s.pile p) (t.pile p)) → Rises (w x) s t
  one_rises Valve q m = let a = m Valve in let b = tally_is _ _ (m Label) in let c = tally_is _ _ (m Stir) in (omega arith, omega arith)
  one_rises Label q m = let a = tally_is _ _ (m Valve) in let b = m Label in let c = tally_is _ _ (m Stir) in (omega arith, omega arith)
  one_rises Stir q m = let a = tally_is _ _ (m Valve) in let b = tally_is _ _ (m Label) in let c = m Stir in (omega arith, omega arith)

  turn_rises : (u : Option Served) → ((p : Party) → CalledIf (w p) (asks_of p u) (s.pile p) (t.pile p)) → Rises (load w u) s t
  turn_rises None m = none_rises m
  turn_rises (Some u) m = one_rises u.party u.request m

module _ {I : Party → Type 0} (k : Kinds I) (f : State I) where
  exchange_rises : (q : Plain) (s t : State I) (out : List ℕ) (r : Result ℕ Fault) (out' : List ℕ) → ExchangeDone k s out r out' t → s.waits ≡ q.waits →
      (b : Bool) → ltb (length out) 10 ≡ b → Rises (load k.weight (cond b None (turn q.waits))) s t
  exchange_rises q s t out r out' d h true e = none_rises k.weight s t (λ p. ap (λ x. x.pile p) (d.denied (ltb-true _ _ e)).1)
  exchange_rises q s t out r out' d h false e =
      turn_rises k.weight s t (turn q.waits) (λ p. subst (λ x. CalledIf (k.weight p) (asks_of p (turn x)) (s.pile p) (t.pile p)) h ((d.served (ltb-false _ _ e)).piles p))

  pub light : {es : List Event} {s : State I} → Past k f es s → Light k.weight es × (tallies s ≡ tallies f + total es)
  light (born n) = (tt, omega arith)
  light (did_put {es} {s} {t} p c n r past d) = let h = light past in let z = none_rises k.weight s t d.piles in ((z.1, h.0), omega arith)
  light (did_exchange {es} {s} {t} out r out' past d) =
      let h = light past in
      let z = exchange_rises (run (asks es)) s t out r out' d (tied k f past).waits (ltb (length out) 10) refl in
      ((z.1, h.0), omega arith)

-- while a valve's request waits: a call that does not serve it touches nothing and lets it wait on; any other touches no
-- more than the valve pile's weight
module _ (w : Party → ℕ) where
  quiet : (x : Asked) (q : Plain) (t : ℕ) → t ≤ load w (serves x q) → is_some (asks_of Valve (serves x q)) ≡ false → is_some (q.waits Valve) ≡ true →
      (is_some ((step x q).waits Valve) ≡ true) × (t ≡ 0)
  quiet (put p c n) q t l v h = (admit_valve p c n q.waits h, omega arith)
  quiet (exchange room) q t l v h = go (ltb room 10) l v
    where
      go : (b : Bool) → t ≤ load w (cond b None (turn q.waits)) → is_some (asks_of Valve (cond b None (turn q.waits))) ≡ false →
          (is_some ((served (cond b None (turn q.waits)) q).waits Valve) ≡ true) × (t ≡ 0)
      go true l v = (h, omega arith)
      go false l v = absurd (let u = (turn_valve (q.waits Valve) (q.waits Label) (q.waits Stir) h).0 in cc)

  brief : (x : Asked) (q : Plain) (t : ℕ) → t ≤ load w (serves x q) → is_some (q.waits Valve) ≡ true → t ≤ w Valve
  brief (put p c n) q t l h = omega arith
  brief (exchange room) q t l h = go (ltb room 10) l
    where
      go : (b : Bool) → t ≤ load w (cond b None (turn q.waits)) → t ≤ w Valve
      go true y = omega arith
      go false y = omega (arith, (turn_valve (q.waits Valve) (q.waits Label) (q.waits Stir) h).1 w)

accepted_ok : (r : Result ℕ ℕ) (p : ℕ) → said r ≡ accepted p → r ≡ Ok p
accepted_ok (Ok x) p e = ap Ok (cc)
accepted_ok (Err x) p e = absurd (cc)

module _ {I : Party → Type 0} (k : Kinds I) (f : Rows I) where
  -- what is plain and light is so up to each earlier call
  record Good (es : List Event) : Type 0 where
    plain : hears es ≡ replies k f (asks es)
    light : Light k.weight es

  older_good : (newer es : List Event) → Good (newer ++ es) → Good es
  older_good [] es g = g
  older_good (e ∷ newer) es g = older_good newer es (record { plain = cc g.plain; light = g.light.1 })

  waits_on : (between : List Event) (a : Event) (older : List Event) (c n : ℕ) → Good (between ++ (a ∷ older)) →
      a.asked ≡ put 1 c n → a.heard ≡ accepted 1 → Unserved between (a ∷ older) →
      (is_some ((run (asks (between ++ (a ∷ older)))).waits Valve) ≡ true) × (total between + a.touches ≡ 0)
  waits_on [] a older c n g e h u =
      let q = run (asks older) in
      let r : a.heard ≡ reply k f a.asked q = cc g.plain in
      let s : verdict 1 (admit 1 c n q.waits) ≡ Ok 1 = accepted_ok _ 1 (sym (ap (λ x. reply k f x q) e) ∙ sym r ∙ h) in
      let t : a.touches ≤ 0 = subst (λ x. a.touches ≤ load k.weight (serves x q)) e g.light.0 in
      (ap (λ x. is_some ((step x q).waits Valve)) e ∙ accepted_valve c n q.waits s, omega arith)
  waits_on (b ∷ between) a older c n g e h u =
      let r = waits_on between a older c n (older_good (b ∷ []) _ g) e h u.1 in
      let y = quiet k.weight b.asked (run (asks (between ++ (a ∷ older)))) b.touches g.light.0 u.0 r.0 in
      (y.0, omega (arith, y.1, r.1))

  pub prompt : (es : List Event) → hears es ≡ replies k f (asks es) → Light k.weight es → Prompt (k.weight Valve) es
  prompt es p l newer e between a older c n s i h u =
      let g = older_good newer _ (subst Good s (record { plain = p; light = l })) in
      let r = waits_on between a older c n (older_good (e ∷ []) _ g) i h u in
      let y = brief k.weight e.asked (run (asks (between ++ (a ∷ older)))) e.touches g.light.0 r.0 in
      omega (arith, y, r.1)
