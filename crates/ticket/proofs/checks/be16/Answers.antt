use Rattle.std.proofs.Common.{◌∙◌}
use Rattle.ticket.proofs.Bytes.{number_in_2}
use Rattle.ticket.proofs.checks.be16.Goals as goal

pub returns : goal.returns
returns c = c.from_be_bytes.ensures ∙ number_in_2 _ c.requires
