-- The strokes of a lawful ticket, as they are read and written to the tables.
use Rattle.std.proofs.Common.{◌≡◌, ℕ, zero, suc, ◌+◌, ◌<◌, ◌≤◌, Bool, true, false, cond, eqb, ◌≢◌, slice_index, List, [], ◌∷◌, ◌++◌, length, take, drop, sym, refl, ap, ◌∙◌, subst, ap₂, zero-add, add-one, arith, set, length-append, length-drop, length-set, take_at, drop_at}
use lib.Seq.{sets, sets-eq}
use Rattle.std.specs.List.{All, filter}
use mathlib.Core.List.{map}
use Rattle.std.proofs.lemmas.List.Elements.{All-head, All-tail, All-push}
use Rattle.std.proofs.lemmas.Bool.{ne_eqb}
use Rattle.frame.specs.declared.stroke.Stroke.{Stroke}
use Rattle.ticket.specs.declared.record.Record.{Record}
use Rattle.ticket.specs.declared.record.Record.TheVariants.{Tint, Purge, End}
use Rattle.ticket.specs.declared.seen.Room.{Room}
use Rattle.ticket.specs.Kinds.{body_in}
use Rattle.ticket.specs.Records.{kind, body, written, Fits}
use Rattle.ticket.specs.Lists.{stroke, is, count, strokes, Lawful}
use Rattle.frame.specs.Bytes.{over}
use Rattle.ticket.specs.Loading.{filled}
use Rattle.ticket.specs.Reading.{stroke_in, poured, strokes_within, strokes_in, Whole}
use Rattle.ticket.proofs.Codes.{bodies, body_length, decode}
use Rattle.ticket.proofs.Rights.{count_append}
use Rattle.ticket.proofs.Verdicts.{end_fits}

-- a stroke before others, or only those
abbrev keep : Bool → Stroke → List Stroke → List Stroke
keep b x xs = cond b (x ∷ xs) xs

keep_length : (b : Bool) (x : Stroke) (xs : List Stroke) → length (keep b x xs) ≡ cond b 1 0 + length xs
keep_length true x xs = omega arith
keep_length false x xs = omega arith

keep_map : (b : Bool) (r : Record) (rs : List Record) → map stroke (cond b (r ∷ rs) rs) ≡ keep b (stroke r) (map stroke rs)
keep_map true r rs = refl
keep_map false r rs = refl

strokes-cons : (k : ℕ) (r : Record) (rs : List Record) → strokes k (r ∷ rs) ≡ keep (eqb (kind r) k) (stroke r) (strokes k rs)
strokes-cons k r rs = keep_map (eqb (kind r) k) r (filter (λ q. eqb (kind q) k) rs)

pub strokes_length : (k : ℕ) (rs : List Record) → length (strokes k rs) ≡ count k rs
strokes_length k [] = refl
strokes_length k (r ∷ rs) = omega (arith, ap length (strokes-cons k r rs), keep_length (eqb (kind r) k) (stroke r) (strokes k rs), strokes_length k rs)

is_by : (k : ℕ) (r : Record) (b : Bool) → eqb (kind r) k ≡ b → is k r ≡ cond b 1 0
is_by k r b e = ap (λ (v : Bool). cond {A = ℕ} v 1 0) e

-- each record of a lawful ticket fits its bytes
pub lawful_fits : (room : Room) (rs : List Record) → Lawful room rs → All Fits rs
lawful_fits room rs l = subst (All Fits) (sym l.ends) (All-push Fits l.inner (End (count 2 l.inner + count 3 l.inner)) l.right.fits (end_fits room rs l))

-- and its tables have room for its strokes
pub lawful_room : (room : Room) (rs : List Record) → Lawful room rs → (count 3 rs ≤ room.purges) × (count 2 rs ≤ room.tints)
lawful_room room rs l =
    let n : ℕ = count 2 l.inner + count 3 l.inner in
    let counted : (k : ℕ) → eqb 15 k ≡ false → count k rs ≡ count k l.inner =
    λ k h. ap (count k) l.ends ∙ (count_append k l.inner (End n ∷ []) ∙ omega (arith, is_by k (End n) false h)) in
    (omega (arith, counted 3 refl, l.right.purges), omega (arith, counted 2 refl, l.right.tints))

-- how many records may be read is of no matter, where it is enough
within_more : (n m : ℕ) (bs : List ℕ) → length bs ≤ n → length bs ≤ m → strokes_within bodies n bs ≡ strokes_within bodies m bs
within_more zero zero bs a b = refl
within_more zero (suc m) [] a b = refl
within_more zero (suc m) (x ∷ bs) a b = absurd (omega arith)
within_more (suc n) zero [] a b = refl
within_more (suc n) zero (x ∷ bs) a b = absurd (omega arith)
within_more (suc n) (suc m) [] a b = refl
within_more (suc n) (suc m) (x ∷ bs) a b =
    let l = length-drop (body_in bodies x) bs in
    ap (poured x (take (body_in bodies x) bs)) (within_more n m (drop (body_in bodies x) bs) (omega arith) (omega arith))

-- the strokes in bytes are that of the first record, if it is one, and then those behind it
strokes_in-cons : (x : ℕ) (bs : List ℕ) → strokes_in bodies (x ∷ bs) ≡ poured x (take (body_in bodies x) bs) (strokes_in bodies (drop (body_in bodies x) bs))
unfolding strokes_in
strokes_in-cons x bs =
    let l = length-drop (body_in bodies x) bs in
    ap (poured x (take (body_in bodies x) bs)) (within_more (length bs) (length (drop (body_in bodies x) bs)) (drop (body_in bodies x) bs) (omega arith) (omega arith))

pub strokes_in-nil : strokes_in bodies [] ≡ []
unfolding strokes_in
strokes_in-nil = refl

-- they are those of the records that the bytes are of
first_written : (r : Record) (rs : List Record) → strokes_in bodies (written (r ∷ rs)) ≡ poured (kind r) (body r) (strokes_in bodies (written rs))
first_written r rs =
    let n : ℕ = body_in bodies (kind r) in
    strokes_in-cons (kind r) (body r ++ written rs)
    ∙ ap₂ (λ (xs ys : List ℕ). poured (kind r) xs (strokes_in bodies ys)) (take_at (body r) (written rs) n (body_length r)) (drop_at (body r) (written rs) n (body_length r))

-- a record before others adds the stroke that it says, if it is of that kind
abbrev pub Adds : ℕ → Record → List Record → Type 0
Adds k r later = strokes k (poured (kind r) (body r) later) ≡ keep (eqb (kind r) k) (stroke r) (strokes k later)

pub adds_tint : (r : Record) → Fits r → (later : List Record) → Adds 2 r later
adds_tint (Tint x) f later = ap (λ (y : Stroke). y ∷ strokes 2 later) (ap stroke (decode (Tint x) f))
adds_tint _ f later = refl

pub adds_purge : (r : Record) → Fits r → (later : List Record) → Adds 3 r later
adds_purge (Purge x) f later = ap (λ (y : Stroke). y ∷ strokes 3 later) (ap stroke (decode (Purge x) f))
adds_purge _ f later = refl

module _ (k : ℕ) (adds : (r : Record) → Fits r → (later : List Record) → Adds k r later) where
  strokes_written : (rs : List Record) → All Fits rs → strokes k (strokes_in bodies (written rs)) ≡ strokes k rs
  strokes_written [] f = ap (strokes k) strokes_in-nil
  strokes_written (r ∷ rs) f =
      ap (strokes k) (first_written r rs)
      ∙ (adds r (All-head Fits r rs f) (strokes_in bodies (written rs))
      ∙ (ap (keep (eqb (kind r) k) (stroke r)) (strokes_written rs (All-tail Fits r rs f)) ∙ sym (strokes-cons k r rs)))

-- whole records begin with a whole record, and behind it are whole records
whole_by : (x : ℕ) (bs : List ℕ) (rs : List Record) → All Fits rs → written rs ≡ x ∷ bs
    → (body_in bodies x ≤ length bs) × Whole (drop (body_in bodies x) bs)
whole_by x bs [] f w = absurd (omega (arith, ap length w))
whole_by x bs (r ∷ rs) f w =
    let q : kind r ≡ x = ap (λ (xs : List ℕ). slice_index xs 0) w in
    let b : body r ++ written rs ≡ bs = ap (drop 1) w in
    let l : length (body r) ≡ body_in bodies x = body_length r ∙ ap (body_in bodies) q in (
      omega (arith, ap length b, length-append (body r) (written rs)),
      record { rs = rs; fits = All-tail Fits r rs f; bytes = sym (drop_at (body r) (written rs) (body_in bodies x) l) ∙ ap (drop (body_in bodies x)) b },
    )

module _ (x n : ℕ) (bs ys : List ℕ) (w : Whole ys) (e : ys ≡ x ∷ bs) (m : n ≡ body_in bodies x) where
  split : (body_in bodies x ≤ length bs) × Whole (drop (body_in bodies x) bs)
  split = whole_by x bs w.rs w.fits (w.bytes ∙ e)

  pub whole_body : n ≤ length bs
  whole_body = omega (arith, split.0, m)

  pub whole_behind : Whole (drop n bs)
  whole_behind = subst (λ (i : ℕ). Whole (drop i bs)) (sym m) split.1

  first_poured : strokes_in bodies ys ≡ poured x (take n bs) (strokes_in bodies (drop n bs))
  first_poured = rw m (ap (strokes_in bodies) e ∙ strokes_in-cons x bs)

  pub tint_here : x ≡ 2 → strokes_in bodies ys ≡ Tint (stroke_in (take n bs)) ∷ strokes_in bodies (drop n bs)
  tint_here q = first_poured ∙ ap (λ (k : ℕ). poured k (take n bs) (strokes_in bodies (drop n bs))) q

  pub purge_here : x ≡ 3 → strokes_in bodies ys ≡ Purge (stroke_in (take n bs)) ∷ strokes_in bodies (drop n bs)
  purge_here q = first_poured ∙ ap (λ (k : ℕ). poured k (take n bs) (strokes_in bodies (drop n bs))) q

  pub none_here : x ≢ 2 → x ≢ 3 → strokes_in bodies ys ≡ strokes_in bodies (drop n bs)
  none_here p q = first_poured ∙ rw (ne_eqb x 2 p, ne_eqb x 3 q) refl

-- a table that was old and is now as it is, with its first i entries written, while the strokes xs of all are still to come
pub record Filling (all xs old now : List Stroke) (i : ℕ) : Type 0 where
  pub fills : sets now i xs ≡ over all old
  pub room : i + length xs ≤ length now

pub filling_none : (all old : List Stroke) → length all ≤ length old → Filling all all old old 0
filling_none all old h = record { fills = sets-eq all old 0 (omega arith) ∙ ap (λ (n : ℕ). all ++ drop n old) (zero-add (length all)); room = omega arith }

filling_one : (all xs old now : List Stroke) (i : ℕ) (x : Stroke) → Filling all (x ∷ xs) old now i → Filling all xs old (set now i x) (i + 1)
filling_one all xs old now i x f = record { fills = rw (add-one i) f.fills; room = omega (arith, f.room, length-set now i x) }

-- both tables, while of all records of strokes the left ones are still to come
pub record Pouring (all left : List Record) (ps ts ps' ts' : List Stroke) (p t : ℕ) : Type 0 where
  pub purges : Filling (strokes 3 all) (strokes 3 left) ps ps' p
  pub tints : Filling (strokes 2 all) (strokes 2 left) ts ts' t

module _ (all left : List Record) (ps ts ps' ts' : List Stroke) (p t : ℕ) (h : Pouring all left ps ts ps' ts' p t) where
  after : (xs : List Record) → left ≡ xs → Pouring all xs ps ts ps' ts' p t
  after xs e = subst (λ (ys : List Record). Pouring all ys ps ts ps' ts' p t) e h

  module _ (r : Record) (rs : List Record) (e : left ≡ r ∷ rs) where
    first : (s : Record) → r ≡ s → Pouring all (s ∷ rs) ps ts ps' ts' p t
    first s i = after (s ∷ rs) (e ∙ ap (λ (q : Record). q ∷ rs) i)

    pub purge_fits : (x : Stroke) → r ≡ Purge x → p < length ps'
    purge_fits x i = let g = first (Purge x) i in omega (arith, g.purges.room)

    pub tint_fits : (x : Stroke) → r ≡ Tint x → t < length ts'
    tint_fits x i = let g = first (Tint x) i in omega (arith, g.tints.room)

    pub purge_poured : (x : Stroke) → r ≡ Purge x → Pouring all rs ps ts (set ps' p x) ts' (p + 1) t
    purge_poured x i = let g = first (Purge x) i in record { purges = filling_one _ _ _ _ _ _ g.purges; tints = g.tints }

    pub tint_poured : (x : Stroke) → r ≡ Tint x → Pouring all rs ps ts ps' (set ts' t x) p (t + 1)
    tint_poured x i = let g = first (Tint x) i in record { purges = g.purges; tints = filling_one _ _ _ _ _ _ g.tints }

    none_of : (s : Record) → r ≡ s → ((x : Stroke) → s ≢ Tint x) → ((x : Stroke) → s ≢ Purge x) → Pouring all rs ps ts ps' ts' p t
    none_of (Tint x) i a b = absurd (a x refl)
    none_of (Purge x) i a b = absurd (b x refl)
    none_of s i a b = let g = first s i in record { purges = g.purges; tints = g.tints }

    pub none_poured : ((x : Stroke) → r ≢ Tint x) → ((x : Stroke) → r ≢ Purge x) → Pouring all rs ps ts ps' ts' p t
    none_poured = none_of r refl

  pub all_poured : left ≡ [] → (ps' ≡ over (strokes 3 all) ps) × (ts' ≡ over (strokes 2 all) ts)
  all_poured e = let g = after [] e in (g.purges.fills, g.tints.fills)

-- for a kind of strokes in the bytes of a lawful ticket
module _ (k : ℕ) (adds : (r : Record) → Fits r → (later : List Record) → Adds k r later) (room : Room) (rs : List Record) (l : Lawful room rs) (bs : List ℕ) (w : written rs ≡ bs) where
  strokes_are : strokes k (strokes_in bodies bs) ≡ strokes k rs
  strokes_are = ap (λ (xs : List ℕ). strokes k (strokes_in bodies xs)) (sym w) ∙ strokes_written k adds rs (lawful_fits room rs l)

  pub strokes_count : length (strokes k (strokes_in bodies bs)) ≡ count k rs
  strokes_count = ap length strokes_are ∙ strokes_length k rs

  pub over_is : (old : List Stroke) → over (strokes k (strokes_in bodies bs)) old ≡ filled k rs old
  over_is old = ap₂ (λ (xs : List Stroke) (n : ℕ). xs ++ drop n old) strokes_are strokes_count

pub whole_lawful : (room : Room) (rs : List Record) → Lawful room rs → (bs : List ℕ) → written rs ≡ bs → Whole bs
whole_lawful room rs l bs w = record { rs = rs; fits = lawful_fits room rs l; bytes = w }
