use Rattle.std.proofs.Common.{[], refl, ap, ◌∙◌}
use Rattle.bus.specs.State.{meant}
use Rattle.bus.proofs.Scripts.{ran_more, ran_all}
use Rattle.bus.proofs.script.run.Goals as goal

pub loop-step-init : goal.loop-step-init
loop-step-init g c = record {
  line = refl;
  ran = record { events = []; asked = refl; past = c.new-bus.ensures.law.0; law = c.new-bus.ensures.law.1; left = refl };
}

pub loop-step-preserved : goal.loop-step-preserved
loop-step-preserved g c = record {
  line = c.make.ensures.line ∙ c.loop-step.invariant.line;
  ran = ran_more _ _ _ _ _ _ _ c.args.steps.now c.loop-step.step-index _ c.loop-step.auto.out c.loop-step-test.true c.loop-step.invariant.ran c.make.ensures.done;
}

pub returns-clause-law : goal.returns-clause-law
returns-clause-law g c =
    ran_all _ _ _ _ _ _ c.args.steps.now c.loop-step.step-index (ap (meant g.V.Cursor g.L.Cursor g.S.Cursor) c.new-bus.ensures.made) c.loop-step-test.false c.loop-step.invariant.ran
