-- What a call may cost, what it keeps, and how an advance answers.
use Rattle.std.specs.Prelude.{◌≡◌, ℕ, ◌+◌, ◌-◌, ◌^◌, ◌≤◌, min, Ok, Err, Result, ⊤}
use Rattle.cursor.specs.declared.shortfall.Shortfall.{Shortfall}
use Rattle.cursor.specs.Rows.{Row}

-- what a question answers for a number that may pass the largest count
abbrev pub capped : ℕ → ℕ
capped n = min n (2 ^ 64 - 1)

-- a leaf's touch: its tally goes up by one, and stops at the largest count
abbrev pub Touched : ℕ → ℕ → Type 0
Touched t t' = t' ≡ capped (t + 1)

-- an adapter's tally is that of the leaves below
abbrev pub Free : ℕ → ℕ → Type 0
Free _ _ = ⊤

-- a call of a cursor of weight w: the tally t is not lowered and rises to at most t + w, by a touch, and the home h' is now h
pub record Spent {A : Type 0} (w : ℕ) (touch : ℕ → ℕ → Type 0) (t t' : ℕ) (h h' : Row A) : Type 0 where
  pub more : t ≤ t'
  pub few : t' ≤ t + w
  pub touched : touch t t'
  pub kept : h' ≡ h

-- the same of a cursor before and after a call that keeps the home
abbrev pub Spends : {C A : Type 0} → ℕ → (ℕ → ℕ → Type 0) → (C → ℕ) → (C → Row A) → C → C → Type 0
Spends w touch tally home c d = Spent w touch (tally c) (tally d) (home c) (home d)

-- by how many places an advance fell short; 0 if it is done
abbrev pub lack : Result ⊤ Shortfall → ℕ
lack (Ok _) = 0
lack (Err s) = s.places
