use Rattle.std.proofs.Common.{length}
use Rattle.ticket.proofs.Turns.{Sofar}
use Rattle.ticket.proofs.loading.judge.Given as goal

abbrev pub invariant-loop-kind : goal.invariant-loop-kind
invariant-loop-kind l = Sofar l.fn.room l.bytes l.rest l.seen

abbrev pub decreases-loop-kind : goal.decreases-loop-kind
decreases-loop-kind l = length l.rest
