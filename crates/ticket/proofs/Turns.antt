-- One turn of the reader: a record more, or the ticket's answer.
use Rattle.std.proofs.Common.{◌≡◌, ℕ, ◌+◌, ◌<◌, ◌≤◌, Bool, true, cond, ◌≢◌, List, [], ◌∷◌, ◌++◌, length, take, drop, Some, None, Ok, Err, Result, sym, refl, ap, ◌∙◌, subst, ap₂, append_assoc, append-nil, arith, length-append, length-drop, take-append-drop, drop_at}
use mathlib.Core.Path.{fun_ext}
use Rattle.std.specs.Int.Digits.{AllBelowBase, number_from_digits}
use Rattle.std.proofs.lemmas.List.{nil_from_length}
use Rattle.std.proofs.lemmas.Bool.{lt-ltb, ltb-false}
use Rattle.std.proofs.lemmas.Bool.Decides.{nat_tests}
use Rattle.ticket.specs.declared.faults.CanFault.{CanFault}
use Rattle.ticket.specs.declared.record.Record.{Record}
use Rattle.ticket.specs.declared.record.Record.TheVariants.{End}
use Rattle.ticket.specs.declared.seen.Room.{Room}
use Rattle.ticket.specs.declared.seen.Seen.{Seen}
use Rattle.ticket.specs.Kinds.{body_in}
use Rattle.ticket.specs.Numbers.{can_fault}
use Rattle.ticket.specs.Records.{kind, body, written, Fits}
use Rattle.ticket.specs.Lists.{count, Right, Lawful, Says}
use Rattle.ticket.specs.Refusals.{misplaced, twice, full, followed, faults, after, wrong, Broken}
use Rattle.ticket.specs.Reading.{tally, stepped, nothing, noted, answered}
use Rattle.ticket.proofs.Bytes.{under_drop, number_big}
use Rattle.ticket.proofs.Codes.{bodies, body_length}
use Rattle.ticket.proofs.Steps.{skip, Passed, Tells, told}
use Rattle.ticket.proofs.Rights.{Stands, right_none, right_push}
use Rattle.ticket.proofs.Verdicts.{written_append, count_le}
use Rattle.ticket.proofs.Seens.{Holds, holds_none, holds_push, holds_says}

-- behind right records, with what they say; the bytes ys are left
pub record Sofar (room : Room) (bs ys : List ℕ) (s : Seen) : Type 0 where
  pub rs : List Record
  pub right : Right room rs
  pub bytes : bs ≡ written rs ++ ys
  pub place : s.place ≡ length (written rs)
  pub tables : s.room ≡ room
  pub holds : Holds s rs
  pub short : length bs ≤ 32768
  pub under : AllBelowBase 256 bs

pub sofar_none : (room : Room) (bs : List ℕ) → length bs ≤ 32768 → AllBelowBase 256 bs → Sofar room bs bs (nothing room)
sofar_none room bs l u = record { rs = []; right = right_none room; bytes = refl; place = refl; tables = refl; holds = holds_none room; short = l; under = u }

module _ (room : Room) (bs ys : List ℕ) (s : Seen) (f : Sofar room bs ys s) where
  pub lengths : s.place + length ys ≡ length bs
  lengths = omega (arith, f.place, ap length f.bytes, length-append (written f.rs) ys)

  pub small : (k : ℕ) → tally s k ≤ 32768
  small k = omega (arith, f.holds.counts k, count_le k f.rs, f.place, f.short, lengths)

  counting : tally s ≡ (λ k. count k f.rs)
  counting = fun_ext f.holds.counts

  broken : (e : CanFault) → wrong bodies room (tally s) s.place ys ≡ Some e → Broken bodies room bs e
  broken e w = record {
    short = f.short;
    rs = f.rs;
    ys = ys;
    right = f.right;
    bytes = f.bytes;
    wrong = sym (ap₂ (λ (c : ℕ → ℕ) (p : ℕ). wrong bodies room c p ys) counting f.place) ∙ w;
  }

  module _ (k : ℕ) (zs : List ℕ) (here : ys ≡ k ∷ zs) where
    bytes_here : AllBelowBase 256 ys
    bytes_here =
        subst (AllBelowBase 256) (ap (drop (length (written f.rs))) f.bytes ∙ drop_at (written f.rs) ys (length (written f.rs)) refl)
        (under_drop (length (written f.rs)) bs f.under)

    -- what is left behind the record here
    abbrev pub rest : List ℕ
    rest = drop (body_in bodies k) zs

    -- what the checks answer of the record here
    abbrev Answers : Result Record CanFault → Type 0
    Answers v = v ≡ stepped bodies s.room (tally s) s.place k zs

    abbrev here_faults : List (Bool × CanFault)
    here_faults = faults bodies room (tally s) s.place k zs (take (body_in bodies k) zs)

    abbrev behind : Bool × CanFault
    behind = after bodies s.place k zs

    told_here : (v : Result Record CanFault) → Answers v → Tells room (tally s) s.place k zs v
    told_here v q = told room (tally s) s.place k zs (subst (AllBelowBase 256) here bytes_here).1 v (sym (q ∙ ap (λ (t : Room). stepped bodies t (tally s) s.place k zs) f.tables))

    -- a fault of the record here
    pub stops : (e : CanFault) → Answers (Err e) → Broken bodies room bs e
    stops e q = broken e (ap (wrong bodies room (tally s) s.place) here ∙ told_here (Err e) q (behind ∷ []))

    module _ (r : Record) (q : Answers (Ok r)) where
      abbrev pub on : Seen
      on = noted bodies s r

      -- the record here has no fault, and is written here
      passed : Passed room (tally s) s.place k zs r
      passed = told_here (Ok r) q

      pub whole : body_in bodies k ≤ length zs
      whole = ltb-false (length zs) (body_in bodies k) passed.off.1.0

      kind_here : k ≡ kind r
      kind_here = sym passed.coded.kind_is

      stands : Stands room (λ j. count j f.rs) r
      stands =
          subst (λ (c : ℕ → ℕ). Stands room c r) counting (record {
            place = ap (misplaced (tally s)) (sym kind_here) ∙ passed.place;
            fresh = ap (twice (tally s)) (sym kind_here) ∙ passed.fresh;
            fits = passed.coded.fits;
            allowed = passed.coded.allowed;
            free = ap (full room (tally s)) (sym kind_here) ∙ passed.free;
          })

      next_is : s.place + 1 + body_in bodies k ≡ on.place
      next_is = ap (λ (j : ℕ). s.place + 1 + body_in bodies j) kind_here ∙ omega arith

      left : ys ≡ kind r ∷ (body r ++ rest)
      left = here ∙ ap₂ ◌∷◌ kind_here (sym (take-append-drop (body_in bodies k) zs) ∙ ap (λ (xs : List ℕ). xs ++ rest) (sym passed.coded.body_is))

      bytes_on : bs ≡ written (f.rs ++ (r ∷ [])) ++ rest
      bytes_on =
          f.bytes ∙ (ap (λ (xs : List ℕ). written f.rs ++ xs) left
          ∙ sym (ap (λ (xs : List ℕ). xs ++ rest) (written_append f.rs (r ∷ []))
          ∙ (append_assoc (written f.rs) (written (r ∷ [])) rest ∙ ap (λ (xs : List ℕ). written f.rs ++ (kind r ∷ xs)) (append_assoc (body r) [] rest))))

      place_on : on.place ≡ length (written (f.rs ++ (r ∷ [])))
      place_on = omega (arith, f.place, ap length (written_append f.rs (r ∷ [])), length-append (written f.rs) (written (r ∷ [])), length-append (body r) [], body_length r)

      -- one record more
      pub goes : kind r ≢ 15 → Sofar room bs rest on
      goes n = record { rs = f.rs ++ (r ∷ []); right = right_push room f.rs r f.right stands n; bytes = bytes_on; place = place_on; tables = f.tables; holds = holds_push s f.rs r f.holds; short = f.short; under = f.under }

      -- bytes after the end
      pub spills : kind r ≡ 15 → 0 < length rest → Broken bodies room bs (can_fault 10 on.place)
      spills e n =
          let t : followed bodies k zs ≡ true =
          ap (λ (j : ℕ). followed bodies j zs) (kind_here ∙ e) ∙ lt-ltb 2 (length zs) (omega (arith, n, length-drop (body_in bodies k) zs, ap (body_in bodies) (kind_here ∙ e))) in
          broken (can_fault 10 on.place)
          (ap (wrong bodies room (tally s) s.place) here ∙ (skip here_faults (behind ∷ []) passed.off
          ∙ (ap (λ (b : Bool). cond b (Some behind.1) None) t ∙ ap (λ (p : ℕ). Some (can_fault 10 p)) next_is)))

      -- the end, and its number
      some : kind r ≡ 15 → f.rs ≢ []
      some e z = let p = stands.place in let c = ap (count 1) z in grind (arith, nat_tests)

      total : (m : ℕ) → r ≡ End m → m ≡ count 2 f.rs + count 3 f.rs
      total m e =
          let k15 : k ≡ 15 = kind_here ∙ ap kind e in
          let n : number_from_digits 256 (take (body_in bodies k) zs) ≡ m = ap (number_from_digits 256) (sym passed.coded.body_is ∙ ap body e) ∙ number_big 2 m (subst Fits e passed.coded.fits) in
          let o = passed.total in
          let two = f.holds.counts 2 in
          let three = f.holds.counts 3 in
          grind (arith, nat_tests)

      pub ends : (m : ℕ) → r ≡ End m → length rest ≡ 0 → (rs : List Record) × Lawful room rs × (written rs ≡ bs) × Says rs (answered on)
      ends m e n =
          let rs : List Record = f.rs ++ (r ∷ []) in
          let w : written rs ≡ bs = sym (bytes_on ∙ (ap (λ (xs : List ℕ). written rs ++ xs) (nil_from_length rest n) ∙ append-nil (written rs))) in (
            rs,
            record {
              inner = f.rs;
              right = f.right;
              some = some (ap kind e);
              ends = ap (λ (x : Record). f.rs ++ (x ∷ [])) (e ∙ ap (λ (x : ℕ). End x) (total m e));
              short = omega (arith, ap length w);
            },
            w,
            holds_says on rs (holds_push s f.rs r f.holds),
          )
