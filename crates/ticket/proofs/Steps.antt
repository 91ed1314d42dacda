-- The checks of one record, one after another, give the first fault of the list.
use Rattle.std.proofs.Common.{◌≡◌, ℕ, Bool, true, false, cond, ◌⊎◌, List, [], ◌∷◌, ◌++◌, length, take, Some, Ok, Err, Result, sym, refl, ap, ◌∙◌, subst, inl, inr, arith, length-take-le}
use Rattle.std.specs.List.{AllByRecursion}
use Rattle.std.specs.Int.Digits.{AllBelowBase}
use Rattle.std.proofs.lemmas.List.Elements.{All-from_recursion, recursion_from_All, All-append}
use Rattle.std.proofs.lemmas.Bool.{ltb-false, eqb-false}
use Rattle.ticket.specs.declared.faults.FieldFault.{FieldFault}
use Rattle.ticket.specs.declared.faults.RecordFault.{RecordFault}
use Rattle.ticket.specs.declared.faults.RecordFault.TheVariants.{Field}
use Rattle.ticket.specs.declared.faults.CanFault.{CanFault}
use Rattle.ticket.specs.declared.faults.CanFault.TheVariants.{Record}
use Rattle.ticket.specs.declared.record.Record.{Record as Entry}
use Rattle.ticket.specs.declared.seen.Room.{Room}
use Rattle.ticket.specs.Kinds.{body_in}
use Rattle.ticket.specs.Numbers.{can_fault, map_err}
use Rattle.ticket.specs.Refusals.{faults, first_of, unknown, cut, misplaced, twice, high, still, full, miscounted}
use Rattle.ticket.proofs.Bytes.{under_take}
use Rattle.ticket.proofs.Codes.{bodies, Known, Known.k1, known, Coded, encode}
use Rattle.ticket.specs.Reading.{and_then, record_of, ordered, fielded, admitted, stepped}

module _ (table : List ℕ) (room : Room) (c : ℕ → ℕ) (p k : ℕ) (zs : List ℕ) where
  abbrev pub fielding : ℕ → Result Entry CanFault
  fielding n = and_then (map_err (λ f. Record f p) (map_err Field (fielded k (take n zs)))) (λ r. admitted room c p r)

  abbrev pub ordering : ℕ → Result Entry CanFault
  ordering n = and_then (ordered c p k) (λ _. fielding n)

-- a check that found nothing
abbrev pub Off : Bool × CanFault → Type 0
Off x = x.0 ≡ false

-- checks one after another, and then v
abbrev ladder : List (Bool × CanFault) → Result Entry CanFault → Result Entry CanFault
ladder [] v = v
ladder (x ∷ xs) v = cond x.0 (Err x.1) (ladder xs v)

abbrev err_e : CanFault → Result Entry CanFault
err_e e = Err e

-- the ladder ends at e, which is the first fault, whatever is looked for later; or nothing was found
abbrev Ends : List (Bool × CanFault) → Result Entry CanFault → Type 0
Ends xs v =
    ((e : CanFault) × (ladder xs v ≡ err_e e) × ((ws : List (Bool × CanFault)) → first_of (xs ++ ws) ≡ Some e))
    ⊎ ((ladder xs v ≡ v) × AllByRecursion Off xs)

climb_on : (b : Bool) (e : CanFault) (xs : List (Bool × CanFault)) (v : Result Entry CanFault) → Ends xs v → Ends ((b, e) ∷ xs) v
climb_on true e xs v q = inl (e, refl, λ ws. refl)
climb_on false e xs v (inl q) = inl (q.0, q.1, q.2)
climb_on false e xs v (inr q) = inr (q.0, (refl, q.1))

climb : (xs : List (Bool × CanFault)) (v : Result Entry CanFault) → Ends xs v
climb [] v = inr (refl, tt)
climb (x ∷ xs) v = climb_on x.0 x.1 xs v (climb xs v)

pub skip : (xs ws : List (Bool × CanFault)) → AllByRecursion Off xs → first_of (xs ++ ws) ≡ first_of ws
skip [] ws h = refl
skip (x ∷ xs) ws h = ap (λ (b : Bool). cond b (Some x.1) (first_of (xs ++ ws))) h.0 ∙ skip xs ws h.1

-- a function of what two checks answer
both : {A B : Type 0} (h : A → B) (a b : Bool) (x y z : A) → h (cond a x (cond b y z)) ≡ cond a (h x) (cond b (h y) (h z))
both h true b x y z = refl
both h false true x y z = refl
both h false false x y z = refl

abbrev last_of : Room → (ℕ → ℕ) → ℕ → ℕ → List ℕ → List (Bool × CanFault)
last_of room c p k xs = (full room c k, can_fault 8 p) ∷ (miscounted c k xs, can_fault 9 p) ∷ []

-- what the last two checks ask of the record is what they ask of its bytes
admits : (room : Room) (c : ℕ → ℕ) (p k : ℕ) → Known k → (xs : List ℕ) → admitted room c p (record_of k xs) ≡ ladder (last_of room c p k xs) (Ok (record_of k xs))
admits room c p k k1 xs = refl
admits room c p k _ xs = refl

module _ (room : Room) (c : ℕ → ℕ) (p k : ℕ) (zs : List ℕ) where
  abbrev xs : List ℕ
  xs = take (body_in bodies k) zs

  abbrev six : List (Bool × CanFault)
  six =
      (unknown bodies k, can_fault 3 p) ∷ (cut bodies k zs, can_fault 4 p) ∷ (misplaced c k, can_fault 5 p)
      ∷ (twice c k, can_fault 6 p) ∷ (high k xs, can_fault 7 p) ∷ (still k xs, can_fault 1 p) ∷ []

  abbrev last : List (Bool × CanFault)
  last = last_of room c p k xs

  abbrev after_six : Result Entry CanFault
  after_six = admitted room c p (record_of k xs)

  laddered : stepped bodies room c p k zs ≡ ladder six after_six
  laddered =
      both (λ (x : Result ℕ RecordFault). and_then (map_err (λ f. Record f p) x) (ordering bodies room c p k zs)) (unknown bodies k) (cut bodies k zs) _ _ _
      ∙ ap (λ (x : Result Entry CanFault). cond (unknown bodies k) (err_e (can_fault 3 p)) (cond (cut bodies k zs) (err_e (can_fault 4 p)) x))
      (both (λ (x : Result (Unit {0}) CanFault). and_then x (λ _. fielding bodies room c p k zs (body_in bodies k))) (misplaced c k) (twice c k) _ _ _
      ∙ ap (λ (x : Result Entry CanFault). cond (misplaced c k) (err_e (can_fault 5 p)) (cond (twice c k) (err_e (can_fault 6 p)) x))
      (both (λ (x : Result Entry FieldFault). and_then (map_err (λ f. Record f p) (map_err Field x)) (λ r. admitted room c p r)) (high k xs) (still k xs) _ _ _))

  -- a record without a fault
  pub record Passed (r : Entry) : Type 0 where
    pub off : AllByRecursion Off (faults bodies room c p k zs xs)
    pub place : misplaced c k ≡ false
    pub fresh : twice c k ≡ false
    pub free : full room c k ≡ false
    pub total : miscounted c k xs ≡ false
    pub coded : Coded k xs r

  -- what the checks' answer tells: the record has no fault, or this is its first, whatever is looked for later
  abbrev pub Tells : Result Entry CanFault → Type 0
  Tells (Ok r) = Passed r
  Tells (Err e) = (ws : List (Bool × CanFault)) → first_of (faults bodies room c p k zs xs ++ ws) ≡ Some e

  outcome : AllBelowBase 256 zs → Tells (stepped bodies room c p k zs)
  outcome u = elim (climb six after_six) [
    | inl q ↦ subst Tells (sym (laddered ∙ q.1)) (λ ws. q.2 (last ++ ws))
    | inr q ↦
        (let o = q.1 in
        let n : Known k = known k (omega (arith, eqb-false (body_in bodies k) 0 o.0)) in
        let l : length xs ≡ body_in bodies k = length-take-le (body_in bodies k) zs (ltb-false (length zs) (body_in bodies k) o.1.0) in
        let d = encode k n xs l (under_take (body_in bodies k) zs u) o.1.1.1.1.0 o.1.1.1.1.1.0 in
        let on = laddered ∙ (q.0 ∙ admits room c p k n xs) in
        elim (climb last (Ok (record_of k xs))) [
          | inl t ↦ subst Tells (sym (on ∙ t.1)) (λ ws. skip six (last ++ ws) o ∙ t.2 ws)
          | inr t ↦ subst Tells (sym (on ∙ t.0)) (record {
            off = recursion_from_All Off (six ++ last) (All-append Off six last (All-from_recursion Off six o) (All-from_recursion Off last t.1));
            place = o.1.1.0;
            fresh = o.1.1.1.0;
            free = t.1.0;
            total = t.1.1.0;
            coded = d;
          })
        ])
  ]

  pub told : AllBelowBase 256 zs → (v : Result Entry CanFault) → stepped bodies room c p k zs ≡ v → Tells v
  told u v e = subst Tells e (outcome u)
