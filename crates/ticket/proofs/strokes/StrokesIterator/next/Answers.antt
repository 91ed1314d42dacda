use Rattle.std.proofs.Common.{rules, ◌<◌, length, sym, ap, ◌∙◌, arith}
use Rattle.std.proofs.lemmas.List.{nil_from_length}
use Rattle.ticket.specs.Reading.{strokes_in, Whole}
use Rattle.ticket.proofs.Codes.{bodies}
use Rattle.ticket.proofs.Fills.{whole_body, whole_behind, tint_here, purge_here, none_here, strokes_in-nil}
use Rattle.ticket.proofs.strokes.StrokesIterator.next.Goals as goal

pub split_at-requires : goal.split_at-requires
split_at-requires c = whole_body _ _ _ _ c.loop-kind.invariant.whole c.in-Some.ensures.cases.0 c.body_len.ensures

pub returns-in-2-clause-steps : goal.returns-in-2-clause-steps
returns-in-2-clause-steps c =
    rw (c.stroke.ensures, c.split_at.ensures.front, c.split_at.ensures.back)
    (sym c.loop-kind.invariant.left ∙ tint_here _ _ _ _ c.loop-kind.invariant.whole c.in-Some.ensures.cases.0 c.body_len.ensures c.in-2.is)

pub returns-in-2-clause-goes : goal.returns-in-2-clause-goes
returns-in-2-clause-goes c =
    let w = whole_behind _ _ _ _ c.loop-kind.invariant.whole c.in-Some.ensures.cases.0 c.body_len.ensures in
    let s = sym c.loop-kind.invariant.left ∙ tint_here _ _ _ _ c.loop-kind.invariant.whole c.in-Some.ensures.cases.0 c.body_len.ensures c.in-2.is in
    let v : Whole c.split_at.result.1.now = rw c.split_at.ensures.back w in
    let l : length (strokes_in bodies c.split_at.result.1.now) < length (strokes_in bodies c.args.self.now.rest.now) = rw (c.split_at.ensures.back, s) (omega arith) in
    record { on = λ _. (v, tt, l); keeps = v; rests = λ _. tt }

pub returns-in-3-clause-steps : goal.returns-in-3-clause-steps
returns-in-3-clause-steps c =
    rw (c.stroke-in-3.ensures, c.split_at.ensures.front, c.split_at.ensures.back)
    (sym c.loop-kind.invariant.left ∙ purge_here _ _ _ _ c.loop-kind.invariant.whole c.in-Some.ensures.cases.0 c.body_len.ensures c.in-3.is)

pub returns-in-3-clause-goes : goal.returns-in-3-clause-goes
returns-in-3-clause-goes c =
    let w = whole_behind _ _ _ _ c.loop-kind.invariant.whole c.in-Some.ensures.cases.0 c.body_len.ensures in
    let s = sym c.loop-kind.invariant.left ∙ purge_here _ _ _ _ c.loop-kind.invariant.whole c.in-Some.ensures.cases.0 c.body_len.ensures c.in-3.is in
    let v : Whole c.split_at.result.1.now = rw c.split_at.ensures.back w in
    let l : length (strokes_in bodies c.split_at.result.1.now) < length (strokes_in bodies c.args.self.now.rest.now) = rw (c.split_at.ensures.back, s) (omega arith) in
    record { on = λ _. (v, tt, l); keeps = v; rests = λ _. tt }

pub loop-kind-preserved : goal.loop-kind-preserved
loop-kind-preserved c =
    record {
      whole = rw c.split_at.ensures.back (whole_behind _ _ _ _ c.loop-kind.invariant.whole c.in-Some.ensures.cases.0 c.body_len.ensures);
      left = rw c.split_at.ensures.back (sym (none_here _ _ _ _ c.loop-kind.invariant.whole c.in-Some.ensures.cases.0 c.body_len.ensures (search rules) (search rules)) ∙ c.loop-kind.invariant.left);
    }

pub returns-clause-steps : goal.returns-clause-steps
returns-clause-steps c =
    let e = ap (strokes_in bodies) (nil_from_length c.loop-kind.self.rest.now (search rules)) ∙ strokes_in-nil in
    (sym c.loop-kind.invariant.left ∙ e, e)
