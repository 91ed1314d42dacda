-- A ticket as a list of records, and how it is written in bytes.
use Rattle.std.specs.Prelude.{All, ◌≡◌, ℕ, zero, suc, ◌/◌, ◌%◌, ◌^◌, ◌<◌, List, [], ◌∷◌, ◌++◌}
use Rattle.ticket.specs.declared.record.Record.{Record}
use Rattle.ticket.specs.declared.record.Record.TheVariants.{Head, Tint, Purge, Resume, Limit, Every, First, End}

-- a number in w bytes, the most significant first
unfoldable pub big : ℕ → ℕ → List ℕ
big zero n = []
big (suc w) n = big w (n / 256) ++ (n % 256 ∷ [])

-- the byte that a record begins with
abbrev pub kind : Record → ℕ
kind (Head c n) = 1
kind (Tint x) = 2
kind (Purge x) = 3
kind (Resume n) = 4
kind (Limit n) = 5
kind (Every s) = 6
kind (First n) = 7
kind (End n) = 15

-- the bytes behind it
abbrev pub body : Record → List ℕ
body (Head c n) = big 4 c ++ big 2 n
body (Tint x) = x.valve ∷ big 2 x.volume
body (Purge x) = x.valve ∷ big 2 x.volume
body (Resume n) = big 8 n
body (Limit n) = big 8 n
body (Every s) = big 8 s.steps
body (First n) = n ∷ []
body (End n) = big 2 n

-- a ticket's bytes: of each record the kind and then the body
abbrev pub written : List Record → List ℕ
written [] = []
written (r ∷ rs) = kind r ∷ (body r ++ written rs)

-- each number can be written in the bytes that its field has
abbrev pub Fits : Record → Type 0
Fits (Head c n) = (c < 2 ^ 32) × (n < 2 ^ 16)
Fits (Tint x) = (x.valve < 2 ^ 8) × (x.volume < 2 ^ 16)
Fits (Purge x) = (x.valve < 2 ^ 8) × (x.volume < 2 ^ 16)
Fits (Resume n) = n < 2 ^ 64
Fits (Limit n) = n < 2 ^ 64
Fits (Every s) = s.steps < 2 ^ 64
Fits (First n) = n < 2 ^ 8
Fits (End n) = n < 2 ^ 16

-- the records can be told from their bytes
abbrev pub Unambiguous : Type 0
Unambiguous = (rs ss : List Record) → All Fits rs → All Fits ss → written rs ≡ written ss → rs ≡ ss
