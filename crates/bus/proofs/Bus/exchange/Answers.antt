use Rattle.bus.proofs.Law.{exchange_goes, apts}
use Rattle.bus.proofs.Bus.exchange.Goals as goal

pub returns-clause-law : goal.returns-clause-law
returns-clause-law g c =
    exchange_goes _ (apts _ _ _ g.met.V.Item.Framed.free g.met.V.Item.Framed.told g.met.L.Item.Framed.free g.met.L.Item.Framed.told g.met.S.Item.Framed.free g.met.S.Item.Framed.told)
    _ _ _ _ _ c.serve.ensures.done
