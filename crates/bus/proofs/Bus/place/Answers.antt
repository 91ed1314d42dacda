use Rattle.bus.proofs.Steps.{put_done, none_called}
use Rattle.bus.proofs.Bus.place.Goals as goal

pub returns : goal.returns
returns g c =
    put_done _ _ _ _ _ c.in_ok-party.party c.in_ok-call.call _ c.in_ok-party.ensures c.in_ok-call.ensures
    c.seat.ensures.answer c.seat.ensures.rest (none_called g.V.Cursor g.L.Cursor g.S.Cursor c.args.self.now c.seat.new.self)
