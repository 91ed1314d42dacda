-- For every byte string the answer is fixed.
use Rattle.std.proofs.Common.{◌≡◌, ℕ, ◌+◌, ◌^◌, ◌<◌, ◌≤◌, List, [], ◌∷◌, ◌++◌, length, get_or, None, Option, sym, refl, ap, ◌∙◌, subst, ap₂, inl, inr, append_assoc, arith, length-append}
use Rattle.std.proofs.lemmas.Bool.Decides.{nat_tests}
use Rattle.ticket.specs.declared.faults.CanFault.{CanFault}
use Rattle.ticket.specs.declared.record.Record.{Record}
use Rattle.ticket.specs.declared.record.Record.TheVariants.{End}
use Rattle.ticket.specs.declared.seen.Room.{Room}
use Rattle.ticket.specs.Records.{big, kind, body, written}
use Rattle.ticket.specs.Lists.{count, Right, Lawful}
use Rattle.ticket.specs.Refusals.{wrong, Refuses}
use Rattle.ticket.proofs.Bytes.{number_big}
use Rattle.ticket.proofs.Codes.{bodies, Longer, fork}
use Rattle.ticket.proofs.Rights.{count_append, stands_mid, stands_end, fine}

pub written_append : (rs ss : List Record) → written (rs ++ ss) ≡ written rs ++ written ss
written_append [] ss = refl
written_append (r ∷ rs) ss = ap (λ (xs : List ℕ). kind r ∷ xs) (ap (λ (xs : List ℕ). body r ++ xs) (written_append rs ss) ∙ sym (append_assoc (body r) (written rs) (written ss)))

-- a record of one byte or more is counted once
pub count_le : (k : ℕ) (rs : List Record) → count k rs ≤ length (written rs)
count_le k [] = omega arith
count_le k (r ∷ rs) = let h = count_le k rs in let l = length-append (body r) (written rs) in grind (arith, nat_tests)

-- what is wrong behind the records rs, where the bytes ys are left
abbrev wrong_at : Room → List Record → List ℕ → Option CanFault
wrong_at room rs ys = wrong bodies room (λ k. count k rs) (length (written rs)) ys

no_end : (rs : List Record) (r : Record) (ss : List Record) → count 15 (rs ++ (r ∷ ss)) ≡ 0 → kind r ≡ 15 → ⊥
no_end rs r ss h e = let a = count_append 15 rs (r ∷ ss) in grind (arith, nat_tests)

-- nothing is wrong where right records go on
goes_on : (room : Room) (rs ss : List Record) (ys zs : List ℕ) → Longer rs ss ys zs → Right room ss → wrong_at room rs ys ≡ None
goes_on room rs ss ys zs l h =
    let h' : Right room (rs ++ (l.next ∷ l.rest)) = subst (Right room) l.list h in
    ap (wrong_at room rs) l.left
    ∙ fine room (λ k. count k rs) (length (written rs)) l.next (written l.rest ++ zs) (stands_mid room rs l.next l.rest h')
    (λ e. absurd (no_end rs l.next l.rest h'.unended e))

-- the number of an end in a ticket that is not too long fits its two bytes
pub end_fits : (room : Room) (ss : List Record) (l : Lawful room ss) → count 2 l.inner + count 3 l.inner < 2 ^ 16
end_fits room ss l =
    let n : ℕ = count 2 l.inner + count 3 l.inner in
    let s : length (written l.inner) < 32768 =
    omega (arith, l.short, ap (λ (zs : List Record). length (written zs)) l.ends, ap length (written_append l.inner (End n ∷ [])), length-append (written l.inner) (written (End n ∷ []))) in
    omega (arith, count_le 2 l.inner, count_le 3 l.inner)

-- nor where the last record is the right end
at_end : (room : Room) (ss : List Record) (l : Lawful room ss) → wrong_at room l.inner (15 ∷ (big 2 (count 2 l.inner + count 3 l.inner) ++ [])) ≡ None
at_end room ss l =
    let n : ℕ = count 2 l.inner + count 3 l.inner in
    let f = end_fits room ss l in
    fine room (λ k. count k l.inner) (length (written l.inner)) (End n) [] (stands_end room l.inner n l.right l.some f) (λ _. (number_big 2 n f, refl))

-- a ticket that is refused is not lawful
pub never : (room : Room) (bs : List ℕ) (e : CanFault) (ss : List Record) → Refuses bodies room bs e → Lawful room ss → written ss ≡ bs → ⊥
never room bs e ss (inl q) l w = omega (arith, q.0, l.short, ap length w)
never room bs e ss (inr b) l w =
    let n : ℕ = count 2 l.inner + count 3 l.inner in
    let same : written b.rs ++ b.ys ≡ written l.inner ++ (15 ∷ (big 2 n ++ [])) = sym b.bytes ∙ (sym w ∙ (ap written l.ends ∙ written_append l.inner (End n ∷ []))) in
    elim (fork b.rs l.inner b.ys (15 ∷ (big 2 n ++ [])) b.right.fits l.right.fits same) [
      | inl q ↦ cc (ap₂ (wrong_at room) q.0 q.1 ∙ at_end room ss l, b.wrong)
      | inr (inl q) ↦ cc (goes_on room b.rs l.inner b.ys (15 ∷ (big 2 n ++ [])) q l.right, b.wrong)
      | inr (inr q) ↦ no_end l.inner q.next q.rest (ap (count 15) (sym q.list) ∙ b.right.unended) (ap (λ (xs : List ℕ). get_or xs 0 0) (sym q.left))
    ]

-- and it is refused for one reason at one place
pub only : (room : Room) (bs : List ℕ) (e f : CanFault) → Refuses bodies room bs e → Refuses bodies room bs f → e ≡ f
only room bs e f (inl q) (inl r) = q.1 ∙ sym r.1
only room bs e f (inl q) (inr d) = absurd (omega (arith, q.0, d.short))
only room bs e f (inr b) (inl r) = absurd (omega (arith, r.0, b.short))
only room bs e f (inr b) (inr d) =
    elim (fork b.rs d.rs b.ys d.ys b.right.fits d.right.fits (sym b.bytes ∙ d.bytes)) [
      | inl q ↦ cc (ap₂ (wrong_at room) q.0 q.1, b.wrong, d.wrong)
      | inr (inl q) ↦ cc (goes_on room b.rs d.rs b.ys d.ys q d.right, b.wrong)
      | inr (inr q) ↦ cc (goes_on room d.rs b.rs d.ys b.ys q b.right, d.wrong)
    ]
