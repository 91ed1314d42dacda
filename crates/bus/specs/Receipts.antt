-- What a put's sender is told, and what is promised of its writing.
use Rattle.std.specs.Prelude.{ℕ, ◌<◌, ◌≤◌, List, [], ◌∷◌, length, Ok, Err, Result}
use Rattle.bus.specs.declared.fault.Fault.{Fault}
use Rattle.bus.specs.declared.party.Party.{Party}
use Rattle.bus.specs.Numbers.{number}
use Rattle.bus.specs.State.{Written, Denied}

-- the frame of a put's answer, where `number_of` gives a refusal's number
abbrev pub notice : {E : Type 0} → (E → ℕ) → Result Party E → List ℕ
notice number_of (Ok p) = 0x20 ∷ number p ∷ []
notice number_of (Err e) = 0x21 ∷ number_of e ∷ []

-- the frame is written, or, if `out` is too short, nothing is
pub record Told (frame out : List ℕ) (r : Result ℕ Fault) (out' : List ℕ) : Type 0 where
  pub denied : length out < 10 → Denied out r out'
  pub written : 10 ≤ length out → Written frame out r out'
