use Rattle.std.proofs.Common.{◌∙◌}
use Rattle.ticket.proofs.Bytes.{number_in_4}
use Rattle.ticket.proofs.checks.be32.Goals as goal

pub returns : goal.returns
returns c = c.from_be_bytes.ensures ∙ number_in_4 _ c.requires
