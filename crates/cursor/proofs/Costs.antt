-- What a call costs an adapter, by what the calls below cost.
use Rattle.std.proofs.Common.{ℕ, ◌*◌, refl, ap, ◌∙◌, arith}
use Rattle.cursor.specs.Rows.{Row}
use Rattle.cursor.specs.Calls.{Spent, Free}

-- no call below
pub unspent : {A : Type 0} (w t : ℕ) (h : Row A) → Spent w Free t t h h
unspent w t h = record { more = omega arith; few = omega arith; touched = tt; kept = refl }

module _ {A B : Type 0} {touch : ℕ → ℕ → Type 0} {w t t' : ℕ} {h h' : Row A} (f : Row A → Row B) (s : Spent w touch t t' h h') where
  -- one call below, within the same weight or twice that
  pub passed : Spent w Free t t' (f h) (f h')
  passed = record { more = s.more; few = s.few; touched = tt; kept = ap f s.kept }

  pub widely : Spent (2 * w) Free t t' (f h) (f h')
  widely = let a = s.more in let b = s.few in record { more = a; few = omega arith; touched = tt; kept = ap f s.kept }

  -- two calls below
  pub twice : {t'' : ℕ} {h'' : Row A} → Spent w touch t' t'' h' h'' → Spent (2 * w) Free t t'' (f h) (f h'')
  twice u =
      let a = s.more in let b = s.few in let c = u.more in let d = u.few in
      record { more = omega arith; few = omega arith; touched = tt; kept = ap f (u.kept ∙ s.kept) }

-- what calls below cost
pub ruleset costs = (unspent, passed, widely, twice)
