use Rattle.std.proofs.Common.{arith}
use Rattle.std.proofs.lemmas.Result.{err_from_is_err_and}
use Rattle.ticket.proofs.Fills.{lawful_room, whole_lawful, adds_tint, adds_purge, strokes_count}
use Rattle.ticket.proofs.Meanings.{accepts, refuses}
use Rattle.ticket.proofs.loading.load.Goals as goal

pub fill-requires-clause-whole : goal.fill-requires-clause-whole
fill-requires-clause-whole c = let e = c.in_ok-loaded.ensures in whole_lawful _ e.0 e.1 _ e.2

pub fill-requires-clause-purges : goal.fill-requires-clause-purges
fill-requires-clause-purges c = let e = c.in_ok-loaded.ensures in omega (arith, strokes_count 3 adds_purge _ e.0 e.1 _ e.2, lawful_room _ e.0 e.1)

pub fill-requires-clause-tints : goal.fill-requires-clause-tints
fill-requires-clause-tints c = let e = c.in_ok-loaded.ensures in omega (arith, strokes_count 2 adds_tint _ e.0 e.1 _ e.2, lawful_room _ e.0 e.1)

pub returns : goal.returns
returns c = accepts _ _ _ _ _ _ c.in_ok-loaded.ensures c.fill.ensures.purges c.fill.ensures.tints

pub returns-in_err-loaded : goal.returns-in_err-loaded
returns-in_err-loaded c =
    let p = err_from_is_err_and c.from_residual.result c.from_residual.ensures.1 in
    rw (p.1, p.2) (refuses _ _ _ _ c.in_err-loaded.ensures)
