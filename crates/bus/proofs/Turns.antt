-- The waiting places: no back call waits for a pile without a back, and a valve that waits is served next.
use Rattle.std.proofs.Common.{◌≡◌, ℕ, Bool, true, false, cond, not, ◌&&◌, is_some, Some, None, Ok, Err, Option, refl, ap, ◌∙◌, arith}
use Rattle.std.proofs.lemmas.Bool.Decides.{nat_tests}
use Rattle.bus.specs.declared.party.Party.{Party}
use Rattle.bus.specs.declared.party.Party.TheVariants.{Valve, Label, Stir}
use Rattle.bus.specs.declared.request.Call.{Call}
use Rattle.bus.specs.declared.request.Request.{Request}
use Rattle.bus.specs.Numbers.{same, party_of, has_back, call_of, is_back}
use Rattle.bus.specs.Law.{load}
use Rattle.bus.specs.Waiting.{Waiting, Served, placed, seat, admit_read, admit, kept, verdict, lowest, turn, freed, asks_of}

pub same_party : (p q : Party) → same p q ≡ true → p ≡ q
same_party Valve Valve e = refl
same_party Valve Label e = cc
same_party Valve Stir e = cc
same_party Label Valve e = cc
same_party Label Label e = refl
same_party Label Stir e = cc
same_party Stir Valve e = cc
same_party Stir Label e = cc
same_party Stir Stir e = refl

-- a request that waits from the back waits for a pile that has one
abbrev pub Sound : Waiting → Type 0
Sound w = (p : Party) (q : Request Call) → w p ≡ Some q → is_back q.call ≡ true → has_back p ≡ true

placed_sound : (x : Party) (o : Option (Request Call)) (w : Waiting) → Sound w → ((q : Request Call) → o ≡ Some q → is_back q.call ≡ true → has_back x ≡ true) → Sound (placed x o w)
placed_sound x o w h n p q = go (same p x) refl
  where
    go : (b : Bool) → same p x ≡ b → cond b o (w p) ≡ Some q → is_back q.call ≡ true → has_back p ≡ true
    go true s e t = ap has_back (same_party p x s) ∙ n q e t
    go false s e t = h p q e t

seat_sound : (x : Party) (o : Request Call) (w : Waiting) → Sound w → Sound (kept (seat x o w) w)
seat_sound x o w h = go (is_back o.call && not (has_back x)) refl (is_some (w x))
  where
    fits : (is_back o.call && not (has_back x)) ≡ false → (q : Request Call) → Some o ≡ Some q → is_back q.call ≡ true → has_back x ≡ true
    fits e q s t = let u : o ≡ q = cc in grind (arith, nat_tests)

    go : (b : Bool) → (is_back o.call && not (has_back x)) ≡ b → (d : Bool) → Sound (kept (cond b (Err 23) (cond d (Err 24) (Ok (placed x (Some o) w)))) w)
    go true e d = h
    go false e true = h
    go false e false = placed_sound x (Some o) w h (fits e)

pub admit_sound : (p c n : ℕ) (w : Waiting) → Sound w → Sound (kept (admit p c n w) w)
admit_sound p c n w h = go (party_of p) (call_of c)
  where
    go : (o : Option Party) (m : Option Call) → Sound (kept (admit_read o m n w) w)
    go None m = h
    go (Some x) None = h
    go (Some x) (Some y) = seat_sound x (record { call = y; n = n }) w h

pub freed_sound : (u : Option Served) (w : Waiting) → Sound w → Sound (freed u w)
freed_sound None w h = h
freed_sound (Some u) w h = placed_sound u.party None w h (λ q e. absurd (cc))

-- whoever is served has waited
abbrev three : Option (Request Call) → Option (Request Call) → Option (Request Call) → Party → Option (Request Call)
three a b c Valve = a
three a b c Label = b
three a b c Stir = c

lowest_waits : (a b c : Option (Request Call)) (p : Party) (q : Request Call) → asks_of p (lowest a b c) ≡ Some q → three a b c p ≡ Some q
lowest_waits (Some x) b c Valve q e = e
lowest_waits (Some x) b c Label q e = cc
lowest_waits (Some x) b c Stir q e = cc
lowest_waits None (Some x) c Valve q e = cc
lowest_waits None (Some x) c Label q e = e
lowest_waits None (Some x) c Stir q e = cc
lowest_waits None None (Some x) Valve q e = cc
lowest_waits None None (Some x) Label q e = cc
lowest_waits None None (Some x) Stir q e = e
lowest_waits None None None p q e = cc

pub turn_waits : (w : Waiting) (p : Party) (q : Request Call) → asks_of p (turn w) ≡ Some q → w p ≡ Some q
turn_waits w Valve q e = lowest_waits (w Valve) (w Label) (w Stir) Valve q e
turn_waits w Label q e = lowest_waits (w Valve) (w Label) (w Stir) Label q e
turn_waits w Stir q e = lowest_waits (w Valve) (w Label) (w Stir) Stir q e

-- a valve's request that is accepted waits, at a put it goes on waiting, and a turn is then its own
seat_valve : (x : Party) (o : Request Call) (w : Waiting) → is_some (w Valve) ≡ true → is_some (kept (seat x o w) w Valve) ≡ true
seat_valve x o w h = go (is_back o.call && not (has_back x)) (is_some (w x))
  where
    here : (s : Bool) → is_some (cond s (Some o) (w Valve)) ≡ true
    here true = refl
    here false = h

    go : (b d : Bool) → is_some (kept (cond b (Err 23) (cond d (Err 24) (Ok (placed x (Some o) w)))) w Valve) ≡ true
    go true d = h
    go false true = h
    go false false = here (same Valve x)

pub admit_valve : (p c n : ℕ) (w : Waiting) → is_some (w Valve) ≡ true → is_some (kept (admit p c n w) w Valve) ≡ true
admit_valve p c n w h = go (party_of p) (call_of c)
  where
    go : (o : Option Party) (m : Option Call) → is_some (kept (admit_read o m n w) w Valve) ≡ true
    go None m = h
    go (Some x) None = h
    go (Some x) (Some y) = seat_valve x (record { call = y; n = n }) w h

pub accepted_valve : (c n : ℕ) (w : Waiting) → verdict 1 (admit 1 c n w) ≡ Ok 1 → is_some (kept (admit 1 c n w) w Valve) ≡ true
accepted_valve c n w = go (call_of c)
  where
    free : (y : Call) (b d : Bool) → verdict 1 (cond b (Err 23) (cond d (Err 24) (Ok (placed Valve (Some (record { call = y; n = n })) w)))) ≡ Ok 1 →
        is_some (kept (cond b (Err 23) (cond d (Err 24) (Ok (placed Valve (Some (record { call = y; n = n })) w)))) w Valve) ≡ true
    free y true d e = absurd (cc)
    free y false true e = absurd (cc)
    free y false false e = refl

    go : (m : Option Call) → verdict 1 (admit_read (Some Valve) m n w) ≡ Ok 1 → is_some (kept (admit_read (Some Valve) m n w) w Valve) ≡ true
    go None e = absurd (cc)
    go (Some y) e = free y (is_back y && not (has_back Valve)) (is_some (w Valve)) e

pub turn_valve : (a b c : Option (Request Call)) → is_some a ≡ true → (is_some (asks_of Valve (lowest a b c)) ≡ true) × ((w : Party → ℕ) → load w (lowest a b c) ≡ w Valve)
turn_valve None b c e = absurd (cc)
turn_valve (Some x) b c e = (refl, λ w. refl)
