use Rattle.std.proofs.Common.{sym, ap, subst, inr, arith}
use Rattle.std.proofs.lemmas.List.{take_rest}
use Rattle.std.proofs.lemmas.Bool.Decides.{nat_tests}
use Rattle.std.proofs.lemmas.Result.{err_from_is_err_and}
use Rattle.ticket.specs.declared.seen.Seen.{Seen}
use Rattle.ticket.specs.Numbers.{can_fault}
use Rattle.ticket.specs.Records.{kind}
use Rattle.ticket.specs.Refusals.{Broken}
use Rattle.ticket.proofs.Bytes.{bytes_under}
use Rattle.ticket.proofs.Codes.{bodies, end_of}
use Rattle.ticket.proofs.Turns.{Sofar, sofar_none, small, stops, goes, spills, ends}
use Rattle.ticket.proofs.loading.judge.Goals as goal

pub loop-kind-init : goal.loop-kind-init
loop-kind-init c = subst (Sofar c.args.room c.args.bytes.now c.args.bytes.now) (sym c.new-seen.ensures) (sofar_none _ _ (omega arith) (bytes_under _ c.type_inv.bytes))

pub next-requires : goal.next-requires
next-requires c =
    let f = small _ _ _ _ c.loop-kind.invariant in
    omega (arith, f 2, f 3)

pub note-requires-clause-few : goal.note-requires-clause-few
note-requires-clause-few c =
    let f = small _ _ _ _ c.loop-kind.invariant in
    omega (arith, f (kind c.in_ok-record.record))

pub returns-in_err-record : goal.returns-in_err-record
returns-in_err-record c =
    let p = err_from_is_err_and c.from_residual.result c.from_residual.ensures.1 in
    rw (p.1, p.2)
    (inr (stops _ _ _ _ c.loop-kind.invariant _ _ c.in-Some.ensures.cases.0
    _ c.in_err-record.ensures))

pub returns-then-not-is_empty : goal.returns-then-not-is_empty
returns-then-not-is_empty c =
    let r = take_rest c.in-Some.tail.now c.body_len.result in
    let e = rw (r, c.body_len.ensures) at c.if-not-is_empty.ensures in
    let b = spills _ _ _ _ c.loop-kind.invariant _ _ c.in-Some.ensures.cases.0
    c.in_ok-record.record c.in_ok-record.ensures (ap kind c.in-End.is) (grind (arith, nat_tests)) in
    inr (subst (λ (s : Seen). Broken bodies c.args.room c.args.bytes.now (can_fault 10 s.place)) (sym c.note.ensures) b)

pub returns-in-End : goal.returns-in-End
returns-in-End c =
    let r = take_rest c.in-Some.tail.now c.body_len.result in
    let e = rw (r, c.body_len.ensures) at c.if-not-is_empty.ensures in
    rw (c.loaded.ensures, c.note.ensures)
    (ends _ _ _ _ c.loop-kind.invariant _ _ c.in-Some.ensures.cases.0
    c.in_ok-record.record c.in_ok-record.ensures _ c.in-End.is (grind (arith, nat_tests)))

pub loop-kind-preserved : goal.loop-kind-preserved
loop-kind-preserved c =
    let r = take_rest c.in-Some.tail.now c.body_len.result in
    rw (r, c.body_len.ensures, c.note.ensures)
    (goes _ _ _ _ c.loop-kind.invariant _ _ c.in-Some.ensures.cases.0
    c.in_ok-record.record c.in_ok-record.ensures (λ e. let n = end_of c.in_ok-record.record e in c.in_default-record.not-End n.0 n.1))
