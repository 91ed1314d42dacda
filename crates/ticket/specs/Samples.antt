-- Worked examples: a lawful ticket with its bytes and what it says, and two that are refused.
use Rattle.std.specs.Prelude.{◌≡◌, ℕ, ◌≤◌, List, [], ◌∷◌}
use Rattle.std.proofs.Common.{suc-le-suc, zero-le}
use Rattle.cursor.specs.declared.stride.Stride.{Stride}
use Rattle.frame.specs.declared.stroke.Stroke.{Stroke}
use Rattle.ticket.specs.declared.record.Record.{Record}
use Rattle.ticket.specs.declared.record.Record.TheVariants.{Head, Tint, Purge, Every, End}
use Rattle.ticket.specs.declared.loaded.Loaded.{Loaded}
use Rattle.ticket.specs.declared.seen.Room.{Room}
use Rattle.ticket.specs.Numbers.{can_fault}
use Rattle.ticket.specs.Records.{written}
use Rattle.ticket.specs.Lists.{strokes, Lawful, Says}
use Rattle.ticket.specs.Refusals.{Refuses}

abbrev pub pour : ℕ → ℕ → Stroke
pour v n = record { valve = v; volume = n }

abbrev pub every_two : Stride
every_two = record { steps = 2; some = suc-le-suc zero-le }

-- can 7 of 1000 ml, a purge, two tints, every second tint on the label
abbrev pub sample : List Record
sample = Head 7 1000 ∷ Purge (pour 5 10) ∷ Tint (pour 1 100) ∷ Tint (pour 2 200) ∷ Every every_two ∷ End 3 ∷ []

abbrev pub sample_bytes : List ℕ
sample_bytes =
    1 ∷ 0 ∷ 0 ∷ 0 ∷ 7 ∷ 3 ∷ 232 ∷ 3 ∷ 5 ∷ 0 ∷ 10 ∷ 2 ∷ 1 ∷ 0 ∷ 100 ∷ 2 ∷ 2 ∷ 0 ∷ 200
    ∷ 6 ∷ 0 ∷ 0 ∷ 0 ∷ 0 ∷ 0 ∷ 0 ∷ 0 ∷ 2 ∷ 15 ∷ 0 ∷ 3 ∷ []

abbrev pub sample_says : Loaded
sample_says = record { purges = 1; tints = 2; can = 7; size = 1000; resume = 0; limit = 18446744073709551615; stride = every_two; first = 0 }

pub record Samples (table : List ℕ) : Type 0 where
  pub bytes : written sample ≡ sample_bytes
  pub lawful : (room : Room) → 1 ≤ room.purges → 2 ≤ room.tints → Lawful room sample
  pub says : Says sample sample_says
  pub purges : strokes 3 sample ≡ pour 5 10 ∷ []
  pub tints : strokes 2 sample ≡ pour 1 100 ∷ pour 2 200 ∷ []
  -- no bytes at all get 11 at place 0, and an end alone gets 5 there
  pub empty : (room : Room) → Refuses table room [] (can_fault 11 0)
  pub end_alone : (room : Room) → Refuses table room (15 ∷ 0 ∷ 0 ∷ []) (can_fault 5 0)
