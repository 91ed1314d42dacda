use Rattle.std.proofs.Common.{rules}
use Rattle.bus.proofs.Law.{starts, apts}
use Rattle.bus.proofs.Steps.{new_bus}
use Rattle.bus.proofs.Bus.new.Goals as goal

pub returns-clause-law : goal.returns-clause-law
returns-clause-law g c =
    starts _ (apts _ _ _ g.met.V.Item.Framed.free g.met.V.Item.Framed.told g.met.L.Item.Framed.free g.met.L.Item.Framed.told g.met.S.Item.Framed.free g.met.S.Item.Framed.told)
    _ (new_bus g.V.Cursor g.L.Cursor g.S.Cursor _ c.args.valve c.args.label c.args.stir (search rules) (search rules) (search rules)
    (g.met.V.Cursor.closed c.args.valve) (g.met.L.Cursor.closed c.args.label) (g.met.S.Cursor.closed c.args.stir) c.len.result c.len-2.result
    c.len.ensures.value c.len.ensures.whole c.len-2.ensures.value c.len-2.ensures.whole)
