-- How long a record's body is.
use Rattle.std.specs.Prelude.{ℕ, zero, suc, List, slice_index}

-- the length of the body of a record of kind k, by a table that begins with kind 1; 0 of a kind that is unknown
abbrev pub body_in : List ℕ → ℕ → ℕ
body_in table zero = 0
body_in table (suc k) = slice_index table k
