-- The bounds of a leaf, and what they show of a row.
use Rattle.std.specs.Prelude.{ℕ, ◌+◌, ◌-◌, min, if◌then◌else◌, Some, None, Option, nat_lt}
use Rattle.cursor.specs.declared.span.Span.{Span}
use Rattle.cursor.specs.Rows.{Row, window}

-- the places of a row that the bounds leave to come
abbrev pub shown : {A : Type 0} → Row A → Span → Row A
shown r s = window s.lo s.hi r

abbrev pub place_at : Span → ℕ → Option ℕ
place_at s n = if nat_lt n (s.hi - s.lo) then Some (s.lo + n) else None

abbrev pub place_back : Span → ℕ → Option ℕ
place_back s n = if nat_lt n (s.hi - s.lo) then Some (s.hi - (n + 1)) else None

-- without the first n places, or with none left; and from the back
abbrev pub cut_front : ℕ → Span → Span
cut_front n s = record { lo = s.lo + min n (s.hi - s.lo); hi = s.hi }

abbrev pub cut_back : ℕ → Span → Span
cut_back n s = record { lo = s.lo; hi = s.hi - min n (s.hi - s.lo) }
