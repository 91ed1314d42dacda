-- Why a ticket is refused, and where, in its author's words.
use Rattle.std.specs.Prelude.{◌≡◌, ℕ, ◌+◌, ◌<◌, ◌≤◌, Bool, not, ◌&&◌, ◌||◌, ◌⊎◌, List, [], ◌∷◌, ◌++◌, length, take, Some, None, Option, ◌==◌, nat_le, nat_lt, slice_index, if◌then◌else◌}
use Rattle.std.specs.Int.Digits.{number_from_digits}
use Rattle.ticket.specs.declared.faults.CanFault.{CanFault}
use Rattle.ticket.specs.declared.record.Record.{Record}
use Rattle.ticket.specs.declared.seen.Room.{Room}
use Rattle.ticket.specs.Kinds.{body_in}
use Rattle.ticket.specs.Numbers.{can_fault}
use Rattle.ticket.specs.Records.{written}
use Rattle.ticket.specs.Lists.{count, Right}

-- What may be wrong with a record: k is its kind byte, zs all bytes behind that, xs its body as far as it is there,
-- and c n says how many records of kind n stand before it.

abbrev pub unknown : List ℕ → ℕ → Bool
unknown table k = body_in table k == 0

abbrev pub cut : List ℕ → ℕ → List ℕ → Bool
cut table k zs = nat_lt (length zs) (body_in table k)

-- no head stands before it and it is none, so it is the first and no head; or one does, and it is another
abbrev pub misplaced : (ℕ → ℕ) → ℕ → Bool
misplaced c k = if c 1 == 0 then not (k == 1) else k == 1

-- it is a setting that has been made
abbrev pub twice : (ℕ → ℕ) → ℕ → Bool
twice c k = (nat_le 4 k && nat_le k 7) && nat_lt 0 (c k)

-- its valve or canister, the body's first byte, is above 15
abbrev pub high : ℕ → List ℕ → Bool
high k xs = ((nat_le 2 k && nat_le k 3) || k == 7) && nat_lt 15 (slice_index xs 0)

-- its label stride is 0
abbrev pub still : ℕ → List ℕ → Bool
still k xs = k == 6 && number_from_digits 256 xs == 0

-- its table has as many strokes as it has entries
abbrev pub full : Room → (ℕ → ℕ) → ℕ → Bool
full room c k = (k == 2 && nat_le room.tints (c 2)) || (k == 3 && nat_le room.purges (c 3))

-- it is an end with another number than that of the strokes
abbrev pub miscounted : (ℕ → ℕ) → ℕ → List ℕ → Bool
miscounted c k xs = k == 15 && not (number_from_digits 256 xs == c 2 + c 3)

-- it is an end, and bytes stand behind its body
abbrev pub followed : List ℕ → ℕ → List ℕ → Bool
followed table k zs = k == 15 && nat_lt (body_in table k) (length zs)

-- the faults of the record at place p, in the order in which they are looked for
abbrev pub faults : List ℕ → Room → (ℕ → ℕ) → ℕ → ℕ → List ℕ → List ℕ → List (Bool × CanFault)
faults table room c p k zs xs =
    (unknown table k, can_fault 3 p) ∷ (cut table k zs, can_fault 4 p)
    ∷ (misplaced c k, can_fault 5 p) ∷ (twice c k, can_fault 6 p)
    ∷ (high k xs, can_fault 7 p) ∷ (still k xs, can_fault 1 p)
    ∷ (full room c k, can_fault 8 p) ∷ (miscounted c k xs, can_fault 9 p) ∷ []

-- and last of all, with the place of the byte after the end
abbrev pub after : List ℕ → ℕ → ℕ → List ℕ → Bool × CanFault
after table p k zs = (followed table k zs, can_fault 10 (p + 1 + body_in table k))

abbrev pub first_of : List (Bool × CanFault) → Option CanFault
first_of [] = None
first_of (x ∷ xs) = if x.0 then Some x.1 else first_of xs

-- what is wrong at place p, where the bytes ys are left: the first fault of the record that they begin with, or that no end came
abbrev pub wrong : List ℕ → Room → (ℕ → ℕ) → ℕ → List ℕ → Option CanFault
wrong table room c p [] = Some (can_fault 11 p)
wrong table room c p (k ∷ zs) = first_of (faults table room c p k zs (take (body_in table k) zs) ++ (after table p k zs ∷ []))

-- behind right records that the bytes bs begin with, e is wrong
pub record Broken (table : List ℕ) (room : Room) (bs : List ℕ) (e : CanFault) : Type 0 where
  pub short : length bs ≤ 32768
  pub rs : List Record
  pub ys : List ℕ
  pub right : Right room rs
  pub bytes : bs ≡ written rs ++ ys
  pub wrong : wrong table room (λ k. count k rs) (length (written rs)) ys ≡ Some e

-- the bytes are too many, or something is wrong behind right records
abbrev pub Refuses : List ℕ → Room → List ℕ → CanFault → Type 0
Refuses table room bs e = ((32768 < length bs) × (e ≡ can_fault 2 32768)) ⊎ Broken table room bs e
