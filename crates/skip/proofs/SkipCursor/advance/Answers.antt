use Rattle.std.proofs.Common.{◌≡◌, ℕ, ◌-◌, ◌<◌, ◌⊎◌, ap, ◌∙◌, inl, inr, arith}
use Rattle.cursor.specs.Rows.{after}
use Rattle.cursor.specs.Closing.{taken_le}
use Rattle.cursor.proofs.Costs.{widely}
use Rattle.skip.proofs.Skips.{skip_once, skip_twice}
use Rattle.skip.proofs.SkipCursor.advance.Goals as goal
use Rattle.skip.proofs.SkipCursor.advance.Goals.{else-lack-eq0-via-then-lack-eq0+else-left-gt0, else-lack-eq0-via-else-lack-eq0}

pub returns-then-left-gt0-clause-value : goal.returns-then-left-gt0-clause-value
returns-then-left-gt0-clause-value g c =
    let r = g.C.Cursor.row c.args.self.now.iter in
    let b = c.saturating_add-both.result in
    let l = taken_le r b in
    let t = skip_twice r (g.met.C.Cursor.closed c.args.self.now.iter) c.args.self.now.n c.args.n b (b - c.lacking-lack.result) c.saturating_add-both.ensures (omega arith) (omega arith) _ _ _ (omega arith) c.advance.ensures.rest (omega arith) c.advance-then-left-gt0.ensures.rest in
    c.advance-then-left-gt0.ensures.value ∙ t.0

pub returns-else-lack-eq0 : goal.returns-else-lack-eq0
returns-else-lack-eq0 g c =
    let r = g.C.Cursor.row c.args.self.now.iter in
    let b = c.saturating_add-both.result in
    let a = b - c.lacking-lack.result in
    let x = c.args.n - c.saturating_sub.result in
    let l = taken_le r b in
    let d : (a < b) ⊎ (x ≡ 0) = elim c.else-lack-eq0.branch [
      | else-lack-eq0-via-then-lack-eq0+else-left-gt0 w ↦ inr (omega (arith, w.if-left-gt0.false))
      | else-lack-eq0-via-else-lack-eq0 w ↦ inl (omega (arith, w.if-lack-eq0.false))
    ] in
    let t = skip_once r (g.met.C.Cursor.closed c.args.self.now.iter) c.args.self.now.n c.args.n b a c.saturating_add-both.ensures (omega arith) (omega arith) x _ (omega arith) c.advance.ensures.rest d in
    record {
      value = c.short_by.ensures ∙ t.0;
      rest = ap (λ (k : ℕ). after k (g.C.Cursor.row c.advance.new.self)) c.saturating_sub-self.ensures ∙ t.1;
      spent = widely (after c.args.self.now.home) c.advance.ensures.spent;
    }
