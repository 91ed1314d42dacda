use Rattle.std.proofs.Common.{Some, ap, arith, rules}
use Rattle.bus.specs.Waiting.{turn_of, widened}
use Rattle.bus.proofs.Steps.{exchanged, none_called, valve_called, label_called, stir_called}
use Rattle.bus.proofs.Bus.serve.Goals as goal

pub returns-in-Valve-clause-done : goal.returns-in-Valve-clause-done
returns-in-Valve-clause-done g c =
    exchanged _ _ _ _ _ _ _ _ (omega arith) (ap (λ t. turn_of (Some t)) c.in-Valve.is) c.in-Some.ensures.value c.in-Some.ensures.rest (search rules) (search rules)
    (valve_called g.V.Cursor g.L.Cursor g.S.Cursor c.args.self.now c.next.new.self c.ask.new.pile c.in-Valve.request c.ask.ensures.called)

pub returns-in-Label-clause-done : goal.returns-in-Label-clause-done
returns-in-Label-clause-done g c =
    exchanged _ _ _ _ _ _ _ _ (omega arith) (ap (λ t. turn_of (Some t)) c.in-Label.is) c.in-Some.ensures.value c.in-Some.ensures.rest (search rules) (search rules)
    (label_called g.V.Cursor g.L.Cursor g.S.Cursor c.args.self.now c.next.new.self c.ask-in-Label.new.pile c.in-Label.request c.ask-in-Label.ensures.called)

pub returns-in-Stir-clause-done : goal.returns-in-Stir-clause-done
returns-in-Stir-clause-done g c =
    exchanged _ _ _ _ _ _ _ _ (omega arith) (ap (λ t. turn_of (Some t)) c.in-Stir.is) c.in-Some.ensures.value c.in-Some.ensures.rest (search rules) (search rules)
    (stir_called g.V.Cursor g.L.Cursor g.S.Cursor c.args.self.now c.next.new.self c.ask_front.new.pile (widened c.in-Stir.request) c.ask_front.ensures.called)

pub returns-in_default-clause-done : goal.returns-in_default-clause-done
returns-in_default-clause-done g c =
    exchanged _ _ _ _ _ _ _ _ (omega arith) (ap turn_of c.in_default.is) c.next.ensures.value c.next.ensures.rest (search rules) (search rules)
    (none_called g.V.Cursor g.L.Cursor g.S.Cursor c.args.self.now c.next.new.self)
