-- What a ticket says, and what makes it lawful, in its author's words.
-- Kinds go by their numbers: 1 head, 2 tint, 3 purge, 4 resume, 5 limit, 6 stride, 7 first canister, 15 end.
use Rattle.std.specs.Prelude.{All, ◌≡◌, ℕ, ◌+◌, ◌≤◌, ◌≢◌, List, [], ◌∷◌, ◌++◌, length, map, filter, ◌==◌, if◌then◌else◌, ⊤}
use Rattle.frame.specs.declared.stroke.Stroke.{Stroke}
use Rattle.ticket.specs.declared.record.Record.{Record}
use Rattle.ticket.specs.declared.record.Record.TheVariants.{Head, Tint, Purge, Resume, Limit, Every, First, End}
use Rattle.ticket.specs.declared.loaded.Loaded.{Loaded}
use Rattle.ticket.specs.declared.seen.Room.{Room}
use Rattle.ticket.specs.Records.{kind, written, Fits}

-- the number that a record says: of a head the can's size, and none of a stroke
abbrev pub says : Record → ℕ
says (Head c n) = n
says (Tint x) = 0
says (Purge x) = 0
says (Resume n) = n
says (Limit n) = n
says (Every s) = s.steps
says (First n) = n
says (End n) = n

-- the can's number that a head says
abbrev pub can_of : Record → ℕ
can_of (Head c n) = c
can_of _ = 0

-- the stroke that a tint or a purge says
abbrev pub stroke : Record → Stroke
stroke (Tint x) = x
stroke (Purge x) = x
stroke _ = record { valve = 0; volume = 0 }

-- how many records of kind k there are
abbrev pub is : ℕ → Record → ℕ
is k r = if kind r == k then 1 else 0

abbrev pub count : ℕ → List Record → ℕ
count k [] = 0
count k (r ∷ rs) = is k r + count k rs

-- what the record of kind k says by f, d if there is none; of several the last, though a lawful ticket has but one
abbrev pub said : (Record → ℕ) → ℕ → ℕ → List Record → ℕ
said f k d [] = d
said f k d (r ∷ rs) = said f k (if kind r == k then f r else d) rs

-- the strokes of kind k, in ticket order
abbrev pub strokes : ℕ → List Record → List Stroke
strokes k rs = map stroke (filter (λ r. kind r == k) rs)

-- the machine has canisters 0 to 15, with a valve each; a stride is never 0 by its type
abbrev pub Allowed : Record → Type 0
Allowed (Head c n) = ⊤
Allowed (Tint x) = x.valve ≤ 15
Allowed (Purge x) = x.valve ≤ 15
Allowed (Resume n) = ⊤
Allowed (Limit n) = ⊤
Allowed (Every s) = ⊤
Allowed (First n) = n ≤ 15
Allowed (End n) = ⊤

-- a head first and only there
abbrev pub Headed : List Record → Type 0
Headed [] = ⊤
Headed (r ∷ rs) = (kind r ≡ 1) × (count 1 rs ≡ 0)

-- records that are right so far: a ticket may begin with them, and its end has not come
pub record Right (room : Room) (rs : List Record) : Type 0 where
  pub headed : Headed rs
  pub unended : count 15 rs ≡ 0
  pub fits : All Fits rs
  pub allowed : All Allowed rs
  -- each setting at most once
  pub once : (k : ℕ) → 4 ≤ k → k ≤ 7 → count k rs ≤ 1
  -- the tables have an entry for each stroke
  pub purges : count 3 rs ≤ room.purges
  pub tints : count 2 rs ≤ room.tints

-- a lawful ticket: right records, a head among them, then an end with the number of the strokes, in at most 32768 bytes
pub record Lawful (room : Room) (rs : List Record) : Type 0 where
  pub inner : List Record
  pub right : Right room inner
  pub some : inner ≢ []
  pub ends : rs ≡ inner ++ (End (count 2 inner + count 3 inner) ∷ [])
  pub short : length (written rs) ≤ 32768

-- what a ticket says: without a setting's record resume is 0, limit the largest number, stride 1 and canister 0
pub record Says (rs : List Record) (l : Loaded) : Type 0 where
  pub purges : l.purges ≡ count 3 rs
  pub tints : l.tints ≡ count 2 rs
  pub can : l.can ≡ said can_of 1 0 rs
  pub size : l.size ≡ said says 1 0 rs
  pub resume : l.resume ≡ said says 4 0 rs
  pub limit : l.limit ≡ said says 5 18446744073709551615 rs
  pub stride : l.stride.steps ≡ said says 6 1 rs
  pub first : l.first ≡ said says 7 0 rs
