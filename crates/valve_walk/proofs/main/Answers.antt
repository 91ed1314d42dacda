use Rattle.std.proofs.Common.{sym, arith, length-take-le}
use Rattle.ticket.proofs.Meanings.{within}
use Rattle.valve_walk.proofs.main.Goals as goal

pub slice_bounds-purges-end : goal.slice_bounds-purges-end
slice_bounds-purges-end c = let w = within _ _ _ _ _ _ _ c.in-Ok.ensures in omega (arith, w.0)

pub slice_bounds-purges-end-in-Ok : goal.slice_bounds-purges-end-in-Ok
slice_bounds-purges-end-in-Ok c = let w = within _ _ _ _ _ _ _ c.in-Ok.ensures in sym (length-take-le _ c.load.new.purges (omega (arith, w.0)))

pub slice_bounds-tints-end : goal.slice_bounds-tints-end
slice_bounds-tints-end c = let w = within _ _ _ _ _ _ _ c.in-Ok.ensures in omega (arith, w.1)

pub slice_bounds-tints-end-in-Ok : goal.slice_bounds-tints-end-in-Ok
slice_bounds-tints-end-in-Ok c = let w = within _ _ _ _ _ _ _ c.in-Ok.ensures in sym (length-take-le _ c.load.new.tints (omega (arith, w.1)))
