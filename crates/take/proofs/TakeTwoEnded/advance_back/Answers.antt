use Rattle.std.proofs.Common.{◌∙◌, refl, arith}
use Rattle.take.proofs.Takes.{take_lack, take_behind}
use Rattle.take.proofs.TakeTwoEnded.advance_back.Goals as goal

pub returns-clause-value : goal.returns-clause-value
returns-clause-value g c =
    c.short_by.ensures ∙ take_lack _ _ c.over-over.ensures.whole c.args.n _ _ _ c.over-over.ensures.value c.saturating_add-most.ensures (omega arith)

pub returns-clause-rest : goal.returns-clause-rest
returns-clause-rest g c =
    take_behind _ _ c.over-over.ensures.whole c.args.n _ _ _ c.over-over.ensures.value c.saturating_add-most.ensures (omega arith) _ _ refl c.advance_back.ensures.rest
