-- Numbers in bytes, and bytes at the start of others.
use Rattle.std.specs.Prelude.{zero, suc, List, [], ◌∷◌, ◌++◌, ℕ, ◌/◌, ◌%◌, ◌^◌, length, drop}

-- A number in w bytes, the most significant first. The first byte takes all that is left, so that equal bytes mean equal
-- numbers, however large; of a number that fits it is a byte like the others.
abbrev pub be : ℕ → ℕ → List ℕ
be zero n = []
be (suc zero) n = n ∷ []
be (suc (suc w)) n = be (suc w) (n / 2 ^ 8) ++ (n % 2 ^ 8 ∷ [])

-- new bytes, or other items, at the start of the old ones, whose rest stays
abbrev pub over : {A : Type 0} → List A → List A → List A
over new old = new ++ drop (length new) old
