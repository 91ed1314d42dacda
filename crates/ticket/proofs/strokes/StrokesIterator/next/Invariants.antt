use Rattle.std.proofs.Common.{◌≡◌, length}
use Rattle.ticket.specs.Reading.{strokes_in, Whole}
use Rattle.ticket.proofs.Codes.{bodies}
use Rattle.ticket.proofs.strokes.StrokesIterator.next.Given as goal

abbrev pub invariant-loop-kind : goal.invariant-loop-kind
invariant-loop-kind l = record {
  whole : Whole l.self.rest.now;
  left : strokes_in bodies l.self.rest.now ≡ strokes_in bodies l.fn.self.rest.now;
}

abbrev pub decreases-loop-kind : goal.decreases-loop-kind
decreases-loop-kind l = length l.self.rest.now
