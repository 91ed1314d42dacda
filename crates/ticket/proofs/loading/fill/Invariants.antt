use Rattle.ticket.specs.Reading.{strokes_in}
use Rattle.ticket.proofs.Codes.{bodies}
use Rattle.ticket.proofs.Fills.{Pouring}
use Rattle.ticket.proofs.loading.fill.Given as goal

abbrev pub invariant-loop-record : goal.invariant-loop-record
invariant-loop-record l = Pouring (strokes_in bodies l.bytes) (strokes_in bodies l.record-iterator.rest.now) l.fn.purges l.fn.tints l.purges l.tints l.p l.t
