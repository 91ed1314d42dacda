-- Frame kinds.
use Rattle.std.specs.Prelude.{◌≡◌, ℕ}

-- a frame kind that the bus does not use itself
pub record Free (k : ℕ) : Type 0 where
  pub accepted : k ≡ 0x20 → ⊥
  pub refused : k ≡ 0x21 → ⊥
  pub idle : k ≡ 0x22 → ⊥
  pub none : k ≡ 0x25 → ⊥
  pub advance : k ≡ 0x26 → ⊥
