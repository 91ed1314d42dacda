-- What loading promises.
use Rattle.std.specs.Prelude.{◌≡◌, ℕ, true, false, List, ◌++◌, length, drop, is_ok, Ok, Err, Result}
use Rattle.frame.specs.declared.stroke.Stroke.{Stroke}
use Rattle.ticket.specs.declared.faults.CanFault.{CanFault}
use Rattle.ticket.specs.declared.record.Record.{Record}
use Rattle.ticket.specs.declared.loaded.Loaded.{Loaded}
use Rattle.ticket.specs.declared.seen.Room.{Room}
use Rattle.ticket.specs.Records.{written}
use Rattle.ticket.specs.Lists.{count, strokes, Lawful, Says}
use Rattle.ticket.specs.Refusals.{Refuses}

abbrev pub room_of : List Stroke → List Stroke → Room
room_of ps ts = record { purges = length ps; tints = length ts }

-- the bytes are the writing of a lawful list of records
abbrev pub Spells : Room → List ℕ → Type 0
Spells room bs = (rs : List Record) × Lawful room rs × (written rs ≡ bs)

-- a table with the strokes of kind k at its start, and its later entries as they were
abbrev pub filled : ℕ → List Record → List Stroke → List Stroke
filled k rs old = strokes k rs ++ drop (count k rs) old

-- a list of records is loaded: r answers what it says, and the tables ps and ts become ps' and ts', which hold its strokes
pub record Loads (rs : List Record) (ps ps' ts ts' : List Stroke) (r : Result Loaded CanFault) : Type 0 where
  pub loaded : Loaded
  pub answers : r ≡ Ok loaded
  pub says : Says rs loaded
  pub purges : ps' ≡ filled 3 rs ps
  pub tints : ts' ≡ filled 2 rs ts

-- the bytes bs are loaded into the tables ps and ts, which become ps' and ts', with the answer r; the table gives the bodies' lengths
pub record Loading (table bs : List ℕ) (ps ps' ts ts' : List Stroke) (r : Result Loaded CanFault) : Type 0 where
  -- what is accepted is the writing of a lawful list of records
  pub lawful : is_ok r ≡ true → Spells (room_of ps ts) bs
  -- and each such writing is accepted, with what its records say
  pub loads : (rs : List Record) → Lawful (room_of ps ts) rs → written rs ≡ bs → Loads rs ps ps' ts ts' r
  -- a refusal says what is wrong and where, and what is wrong is refused so
  pub why : (e : CanFault) → r ≡ Err e → Refuses table (room_of ps ts) bs e
  pub when : (e : CanFault) → Refuses table (room_of ps ts) bs e → r ≡ Err e
  -- and leaves both tables
  pub kept : is_ok r ≡ false → (ps' ≡ ps) × (ts' ≡ ts)

-- the half of it that reading shows by itself: what is answered is true
abbrev pub Judged : List ℕ → Room → List ℕ → Result Loaded CanFault → Type 0
Judged table room bs (Ok l) = (rs : List Record) × Lawful room rs × (written rs ≡ bs) × Says rs l
Judged table room bs (Err e) = Refuses table room bs e
