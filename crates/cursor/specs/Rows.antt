-- Rows: at each place 0, 1, 2 and on an item or nothing.
use Rattle.std.specs.Prelude.{◌≡◌, ℕ, zero, suc, ◌+◌, ◌-◌, ◌^◌, ◌<◌, ◌≤◌, true, if◌then◌else◌, is_some, Some, None, Option, nat_lt}

abbrev pub Row : Type 0 → Type 0
Row A = ℕ → Option A

-- after the first nothing only nothing
pub record Closed {A : Type 0} (r : Row A) : Type 0 where
  pub shut : (k : ℕ) → r k ≡ None → r (k + 1) ≡ None

-- the row has n items: one at each place below n, and nothing from there on
pub record Length {A : Type 0} (r : Row A) (n : ℕ) : Type 0 where
  pub inside : (k : ℕ) → k < n → is_some (r k) ≡ true
  pub outside : (k : ℕ) → n ≤ k → r k ≡ None

-- the row that has nothing
unfoldable pub bare : {A : Type 0} → Row A
bare k = None

-- what is left of a row behind its first n places; of a shorter row nothing, with no case for it
unfoldable pub after : {A : Type 0} → ℕ → Row A → Row A
after n r k = r (n + k)

-- the first n places of a row
unfoldable pub first : {A : Type 0} → ℕ → Row A → Row A
first n r k = if nat_lt k n then r k else None

abbrev pub one : {A : Type 0} → Option A → ℕ
one None = 0
one (Some _) = 1

-- how many of the first n places have an item
unfoldable pub taken : {A : Type 0} → Row A → ℕ → ℕ
taken r zero = 0
taken r (suc n) = taken r n + one (r n)

-- the number of items of a row that has at most 2 ^ 64 - 1
unfoldable pub size : {A : Type 0} → Row A → ℕ
size r = taken r (2 ^ 64 - 1)

-- the item at place n from the back, in a row of l items
unfoldable pub back_at : {A : Type 0} → ℕ → Row A → ℕ → Option A
back_at l r n = if nat_lt n l then r (l - (n + 1)) else None

abbrev pub back : {A : Type 0} → Row A → ℕ → Option A
back r n = back_at (size r) r n

-- the places from lo up to hi - 1 of a row
abbrev pub window : {A : Type 0} → ℕ → ℕ → Row A → Row A
window lo hi r = first (hi - lo) (after lo r)

-- one row behind another: the first l places of r, then t
unfoldable pub join_at : {A : Type 0} → ℕ → Row A → Row A → Row A
join_at l r t k = if nat_lt k l then r k else t (k - l)

abbrev pub join : {A : Type 0} → Row A → Row A → Row A
join r t = join_at (size r) r t

-- all numbers
unfoldable pub numbers : Row ℕ
numbers k = Some k
