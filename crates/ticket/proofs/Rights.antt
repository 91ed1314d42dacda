-- Right records, one after another: what may stand behind them, and what is wrong where nothing may.
use Rattle.std.proofs.Common.{◌≡◌, ℕ, ◌+◌, ◌^◌, ◌<◌, Bool, false, cond, not, eqb, ◌≢◌, List, [], ◌∷◌, ◌++◌, length, Some, None, refl, ap, ◌∙◌, arith, length-append, take_at}
use Rattle.std.specs.List.{All, AllByRecursion}
use Rattle.std.specs.Int.Digits.{number_from_digits}
use Rattle.std.proofs.lemmas.List.Elements.{All-nil, All-head, All-tail, All-push}
use Rattle.std.proofs.lemmas.Bool.{eq-eqb, ne_eqb, le-ltb, eqb-true, not-false}
use Rattle.std.proofs.lemmas.Bool.Decides.{nat_tests}
use Rattle.ticket.specs.declared.faults.CanFault.{CanFault}
use Rattle.ticket.specs.declared.record.Record.{Record}
use Rattle.ticket.specs.declared.record.Record.TheVariants.{Head, Tint, Purge, Resume, Limit, Every, First, End}
use Rattle.ticket.specs.declared.seen.Room.{Room}
use Rattle.ticket.specs.Kinds.{body_in}
use Rattle.ticket.specs.Records.{big, kind, body, Fits}
use Rattle.ticket.specs.Lists.{count, Allowed, Headed, Right}
use Rattle.ticket.specs.Refusals.{misplaced, twice, high, still, full, followed, faults, after, first_of, wrong}
use Rattle.ticket.proofs.Bytes.{number_big}
use Rattle.ticket.proofs.Codes.{bodies, body_length, body_some}
use Rattle.ticket.proofs.Steps.{Off, skip}

pub count_append : (k : ℕ) (rs ss : List Record) → count k (rs ++ ss) ≡ count k rs + count k ss
count_append k [] ss = omega arith
count_append k (r ∷ rs) ss = omega (arith, count_append k rs ss)

all_mid : (P : Record → Type 0) (rs : List Record) (r : Record) (ss : List Record) → All P (rs ++ (r ∷ ss)) → P r
all_mid P [] r ss h = All-head P r ss h
all_mid P (x ∷ rs) r ss h = all_mid P rs r ss (All-tail P x (rs ++ (r ∷ ss)) h)

-- r may stand behind the records that c counts
pub record Stands (room : Room) (c : ℕ → ℕ) (r : Record) : Type 0 where
  pub place : misplaced c (kind r) ≡ false
  pub fresh : twice c (kind r) ≡ false
  pub fits : Fits r
  pub allowed : Allowed r
  pub free : full room c (kind r) ≡ false

place_mid : (rs : List Record) (r : Record) (ss : List Record) → Headed (rs ++ (r ∷ ss)) → misplaced (λ k. count k rs) (kind r) ≡ false
place_mid [] r ss h = ap not (eq-eqb (kind r) 1 h.0)
place_mid (x ∷ rs) r ss h = let e = h.0 in let n = h.1 in let a = count_append 1 rs (r ∷ ss) in grind (arith, nat_tests)

-- each of right records stands behind those before it
pub stands_mid : (room : Room) (rs : List Record) (r : Record) (ss : List Record) → Right room (rs ++ (r ∷ ss)) → Stands room (λ k. count k rs) r
stands_mid room rs r ss h =
    let one = h.once (kind r) in
    let a = count_append (kind r) rs (r ∷ ss) in
    let b = count_append 2 rs (r ∷ ss) in
    let d = count_append 3 rs (r ∷ ss) in
    let t = h.tints in
    let p = h.purges in
    record {
      place = place_mid rs r ss h.headed;
      fresh = grind (arith, nat_tests);
      fits = all_mid Fits rs r ss h.fits;
      allowed = all_mid Allowed rs r ss h.allowed;
      free = grind (arith, nat_tests);
    }

pub right_none : (room : Room) → Right room []
right_none room = record { headed = tt; unended = refl; fits = All-nil Fits; allowed = All-nil Allowed; once = λ k lo hi. omega arith; purges = omega arith; tints = omega arith }

headed_push : (rs : List Record) (r : Record) → Headed rs → misplaced (λ k. count k rs) (kind r) ≡ false → Headed (rs ++ (r ∷ []))
headed_push [] r h m = (eqb-true (kind r) 1 (not-false (eqb (kind r) 1) m), refl)
headed_push (x ∷ rs) r h m = let e = h.0 in let n = h.1 in let a = count_append 1 rs (r ∷ []) in (e, grind (arith, nat_tests))

-- right records and one more that may stand behind them, but no end, are right
pub right_push : (room : Room) (rs : List Record) (r : Record) → Right room rs → Stands room (λ k. count k rs) r → kind r ≢ 15 → Right room (rs ++ (r ∷ []))
right_push room rs r h s n =
    let f = s.fresh in
    let g = s.free in
    let t = h.tints in
    let p = h.purges in
    let b = count_append 2 rs (r ∷ []) in
    let d = count_append 3 rs (r ∷ []) in
    let e = count_append 15 rs (r ∷ []) in
    let u = h.unended in
    record {
      headed = headed_push rs r h.headed s.place;
      unended = grind (arith, nat_tests);
      fits = All-push Fits rs r h.fits s.fits;
      allowed = All-push Allowed rs r h.allowed s.allowed;
      once = λ k lo hi. let o = h.once k lo hi in let a = count_append k rs (r ∷ []) in grind (arith, nat_tests);
      purges = grind (arith, nat_tests);
      tints = grind (arith, nat_tests);
    }

place_end : (rs : List Record) → Headed rs → rs ≢ [] → misplaced (λ k. count k rs) 15 ≡ false
place_end [] h s = absurd (s refl)
place_end (x ∷ rs) h s = let e = h.0 in grind (arith, nat_tests)

-- an end may stand behind right records, if there are any
pub stands_end : (room : Room) (rs : List Record) (n : ℕ) → Right room rs → rs ≢ [] → n < 2 ^ 16 → Stands room (λ k. count k rs) (End n)
stands_end room rs n h s f = record { place = place_end rs h.headed s; fresh = refl; fits = f; allowed = tt; free = refl }

fields_off : (r : Record) → Fits r → Allowed r → (high (kind r) (body r) ≡ false) × (still (kind r) (body r) ≡ false)
fields_off (Head c n) f a = (refl, refl)
fields_off (Tint x) f a = (le-ltb 15 x.valve a, refl)
fields_off (Purge x) f a = (le-ltb 15 x.valve a, refl)
fields_off (Resume n) f a = (refl, refl)
fields_off (Limit n) f a = (refl, refl)
fields_off (Every s) f a = (refl, ne_eqb (number_from_digits 256 (big 8 s.steps)) 0 (λ e. omega (arith, e, number_big 8 s.steps f, s.some)))
fields_off (First n) f a = (le-ltb 15 n a, refl)
fields_off (End n) f a = (refl, refl)

-- nothing is wrong where a record stands that may stand there; an end has the right number and is the last
pub fine : (room : Room) (c : ℕ → ℕ) (p : ℕ) (r : Record) (zs : List ℕ) → Stands room c r
    → (kind r ≡ 15 → (number_from_digits 256 (body r) ≡ c 2 + c 3) × (length zs ≡ 0)) → wrong bodies room c p (kind r ∷ (body r ++ zs)) ≡ None
fine room c p r zs s e =
    let o = fields_off r s.fits s.allowed in
    let l = body_length r in
    let some = (body_some r).0 in
    let long = length-append (body r) zs in
    let off : AllByRecursion Off (faults bodies room c p (kind r) (body r ++ zs) (body r)) = (
      ne_eqb (body_in bodies (kind r)) 0 (λ z. omega arith),
      (
        le-ltb (length (body r ++ zs)) (body_in bodies (kind r)) (omega arith),
        (s.place, (s.fresh, (o.0, (o.1, (s.free, (grind (arith, nat_tests), tt)))))),
      ),
    ) in
    let last : followed bodies (kind r) (body r ++ zs) ≡ false = grind (arith, nat_tests) in
    let z = after bodies p (kind r) (body r ++ zs) in
    let F : List ℕ → List (Bool × CanFault) = faults bodies room c p (kind r) (body r ++ zs) in
    ap (λ (xs : List ℕ). first_of (F xs ++ (z ∷ []))) (take_at (body r) zs (body_in bodies (kind r)) l)
    ∙ (skip (F (body r)) (z ∷ []) off ∙ ap (λ (b : Bool). cond b (Some z.1) None) last)
