use Rattle.ticket.proofs.Codes.{unique}
use Rattle.ticket.proofs.loading.unambiguous.Goals as goal

pub returns : goal.returns
returns c = unique
