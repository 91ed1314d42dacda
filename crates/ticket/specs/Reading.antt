-- The reader's own steps: what its private functions answer. No public promise names them.
use Rattle.std.specs.Prelude.{All, ◌≡◌, ℕ, zero, suc, ◌+◌, not, ◌&&◌, List, [], ◌∷◌, length, take, drop, replicate, Ok, Err, Result, ◌==◌, slice_index, slice_set, if◌then◌else◌, ⊤}
use Rattle.std.proofs.Common.{suc-le-suc, zero-le}
use Rattle.std.specs.Int.Digits.{number_from_digits}
use Rattle.cursor.specs.declared.stride.Stride.{Stride}
use Rattle.cursor.specs.NonZero.{one_stride}
use Rattle.frame.specs.declared.stroke.Stroke.{Stroke}
use Rattle.ticket.specs.declared.faults.FieldFault.{FieldFault}
use Rattle.ticket.specs.declared.faults.RecordFault.{RecordFault}
use Rattle.ticket.specs.declared.faults.RecordFault.TheVariants.{Field}
use Rattle.ticket.specs.declared.faults.CanFault.{CanFault}
use Rattle.ticket.specs.declared.faults.CanFault.TheVariants.{Record}
use Rattle.ticket.specs.declared.record.Record.{Record as Entry}
use Rattle.ticket.specs.declared.record.Record.TheVariants.{Head, Tint, Purge, Resume, Limit, Every, First, End}
use Rattle.ticket.specs.declared.loaded.Loaded.{Loaded}
use Rattle.ticket.specs.declared.seen.Room.{Room}
use Rattle.ticket.specs.declared.seen.Seen.{Seen}
use Rattle.ticket.specs.Kinds.{body_in}
use Rattle.ticket.specs.Numbers.{field_fault, record_fault, can_fault, map_err}
use Rattle.ticket.specs.Records.{kind, written, Fits}
use Rattle.ticket.specs.Lists.{can_of, says}
use Rattle.ticket.specs.Refusals.{unknown, cut, misplaced, twice, high, still, full}

abbrev pub tally : Seen → ℕ → ℕ
tally s k = slice_index s.counts k

-- a check, and then the next
abbrev pub and_then : {A B E : Type 0} → Result A E → (A → Result B E) → Result B E
and_then (Ok x) f = f x
and_then (Err e) f = Err e

-- the number in the w bytes from place i on
abbrev pub number_in : ℕ → ℕ → List ℕ → ℕ
number_in i w xs = number_from_digits 256 (take w (drop i xs))

abbrev pub stroke_in : List ℕ → Stroke
stroke_in xs = record { valve = slice_index xs 0; volume = number_in 1 2 xs }

-- the later records, behind that of kind k and body xs where k is a stroke's kind
abbrev pub poured : ℕ → List ℕ → List Entry → List Entry
poured k xs later = if k == 2 then Tint (stroke_in xs) ∷ later else if k == 3 then Purge (stroke_in xs) ∷ later else later

-- the records of strokes in the bytes of whole records, of which n are read at most
abbrev pub strokes_within : List ℕ → ℕ → List ℕ → List Entry
strokes_within table zero bs = []
strokes_within table (suc n) [] = []
strokes_within table (suc n) (b ∷ bs) = poured b (take (body_in table b) bs) (strokes_within table n (drop (body_in table b) bs))

unfoldable pub strokes_in : List ℕ → List ℕ → List Entry
strokes_in table bs = strokes_within table (length bs) bs

-- the bytes are those of whole records
pub record Whole (bs : List ℕ) : Type 0 where
  pub rs : List Entry
  pub fits : All Fits rs
  pub bytes : written rs ≡ bs

-- a stride in a body that does not hold 0
abbrev pub stride_in : ℕ → Stride
stride_in zero = one_stride
stride_in (suc n) = record { steps = suc n; some = suc-le-suc zero-le }

-- the record of a kind and a body
abbrev pub record_of : ℕ → List ℕ → Entry
record_of k xs =
    if k == 1 then Head (number_in 0 4 xs) (number_in 4 2 xs)
    else if k == 2 then Tint (stroke_in xs)
    else if k == 3 then Purge (stroke_in xs)
    else if k == 4 then Resume (number_from_digits 256 xs)
    else if k == 5 then Limit (number_from_digits 256 xs)
    else if k == 6 then Every (stride_in (number_from_digits 256 xs))
    else if k == 7 then First (slice_index xs 0)
    else End (number_from_digits 256 xs)

abbrev pub framed : List ℕ → ℕ → List ℕ → Result ℕ RecordFault
framed table k zs = if unknown table k then Err (record_fault 3) else if cut table k zs then Err (record_fault 4) else Ok (body_in table k)

abbrev pub ordered : (ℕ → ℕ) → ℕ → ℕ → Result ⊤ CanFault
ordered c p k = if misplaced c k then Err (can_fault 5 p) else if twice c k then Err (can_fault 6 p) else Ok tt

abbrev pub fielded : ℕ → List ℕ → Result Entry FieldFault
fielded k xs = if high k xs then Err (field_fault 7) else if still k xs then Err (field_fault 1) else Ok (record_of k xs)

abbrev pub admitted : Room → (ℕ → ℕ) → ℕ → Entry → Result Entry CanFault
admitted room c p r =
    if full room c (kind r) then Err (can_fault 8 p)
    else if kind r == 15 && not (says r == c 2 + c 3) then Err (can_fault 9 p)
    else Ok r

abbrev pub stepped : List ℕ → Room → (ℕ → ℕ) → ℕ → ℕ → List ℕ → Result Entry CanFault
stepped table room c p k zs =
    and_then (map_err (λ f. Record f p) (framed table k zs)) (λ n.
    and_then (ordered c p k) (λ _.
    and_then (map_err (λ f. Record f p) (map_err Field (fielded k (take n zs)))) (λ r. admitted room c p r)))

-- before the first record
abbrev pub nothing : Room → Seen
nothing room = record {
  room = room;
  place = 0;
  counts = replicate 16 0;
  said = record { purges = 0; tints = 0; can = 0; size = 0; resume = 0; limit = 18446744073709551615; stride = one_stride; first = 0 };
}

abbrev pub stride_or : Entry → Stride → Stride
stride_or (Every s) d = s
stride_or _ d = d

-- what records say, the last of them r
abbrev pub saying : Loaded → Entry → Loaded
saying l r = record {
  purges = l.purges;
  tints = l.tints;
  can = if kind r == 1 then can_of r else l.can;
  size = if kind r == 1 then says r else l.size;
  resume = if kind r == 4 then says r else l.resume;
  limit = if kind r == 5 then says r else l.limit;
  stride = stride_or r l.stride;
  first = if kind r == 7 then says r else l.first;
}

-- what has been seen after one record more
abbrev pub noted : List ℕ → Seen → Entry → Seen
noted table s r = record {
  room = s.room;
  place = s.place + (1 + body_in table (kind r));
  counts = slice_set s.counts (kind r) (tally s (kind r) + 1);
  said = saying s.said r;
}

abbrev pub answered : Seen → Loaded
answered s = record s.said { purges = tally s 3; tints = tally s 2 }
