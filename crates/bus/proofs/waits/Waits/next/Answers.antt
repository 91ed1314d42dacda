use Rattle.bus.proofs.waits.Waits.next.Goals as goal

pub returns-in_err-request-clause-rest : goal.returns-in_err-request-clause-rest
returns-in_err-request-clause-rest c = cc (c.from_residual.ensures, c.in_err-request.ensures.value)
