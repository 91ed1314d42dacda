-- The number of each refusal, its place, and the refusal of a number and a place.
use Rattle.std.specs.Prelude.{◌≡◌, ℕ, Ok, Err, Result, ◌==◌, if◌then◌else◌}
use Rattle.ticket.specs.declared.faults.FieldFault.{FieldFault}
use Rattle.ticket.specs.declared.faults.FieldFault.TheVariants.{ZeroStride, High}
use Rattle.ticket.specs.declared.faults.RecordFault.{RecordFault}
use Rattle.ticket.specs.declared.faults.RecordFault.TheVariants.{Unknown, Cut, Field}
use Rattle.ticket.specs.declared.faults.CanFault.{CanFault}
use Rattle.ticket.specs.declared.faults.CanFault.TheVariants.{TooLong, Misplaced, Twice, Full, Count, After, NoEnd, Record}

-- numbers, layer by layer
abbrev pub field_number : FieldFault → ℕ
field_number ZeroStride = 1
field_number High = 7

abbrev pub record_number : RecordFault → ℕ
record_number Unknown = 3
record_number Cut = 4
record_number (Field f) = field_number f

abbrev pub can_number : CanFault → ℕ
can_number (TooLong p) = 2
can_number (Misplaced p) = 5
can_number (Twice p) = 6
can_number (Full p) = 8
can_number (Count p) = 9
can_number (After p) = 10
can_number (NoEnd p) = 11
can_number (Record f p) = record_number f

-- where in the ticket
abbrev pub can_place : CanFault → ℕ
can_place (TooLong p) = p
can_place (Misplaced p) = p
can_place (Twice p) = p
can_place (Full p) = p
can_place (Count p) = p
can_place (After p) = p
can_place (NoEnd p) = p
can_place (Record f p) = p

-- the fault of a number, in its layer: 1 and 7 are a field's, 3 and 4 a record's, the others a can's
abbrev pub field_fault : ℕ → FieldFault
field_fault n = if n == 1 then ZeroStride else High

abbrev pub record_fault : ℕ → RecordFault
record_fault n = if n == 3 then Unknown else if n == 4 then Cut else Field (field_fault n)

abbrev pub can_fault : ℕ → ℕ → CanFault
can_fault n p =
    if n == 2 then TooLong p
    else if n == 5 then Misplaced p
    else if n == 6 then Twice p
    else if n == 8 then Full p
    else if n == 9 then Count p
    else if n == 10 then After p
    else if n == 11 then NoEnd p
    else Record (record_fault n) p

-- a fault is the one of its number at its place
abbrev pub Numbered : Type 0
Numbered = (e : CanFault) → can_fault (can_number e) (can_place e) ≡ e

-- a fault of one layer as one of the next
abbrev pub map_err : {A E F : Type 0} → (E → F) → Result A E → Result A F
map_err f (Ok x) = Ok x
map_err f (Err e) = Err (f e)
