use Rattle.std.proofs.Common.{◌≡◌, take}
use Rattle.bus.specs.Scripts.{RunSays}
use Rattle.bus.proofs.script.run.Given as goal

-- so far the first steps are the past of the bus that was new
abbrev pub invariant-loop-step : goal.invariant-loop-step
invariant-loop-step g l = record {
  line : l.line ≡ l.initial.line;
  ran : RunSays g.V.Cursor g.L.Cursor g.S.Cursor g.V.Item.Framed g.L.Item.Framed g.S.Item.Framed
      l.initial.bus l.initial.out (take l.step-index l.steps) l.bus l.out;
}
