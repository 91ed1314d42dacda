use Rattle.ticket.proofs.Fills.{filling_none, purge_fits, tint_fits, purge_poured, tint_poured, none_poured, all_poured}
use Rattle.ticket.proofs.loading.fill.Goals as goal

pub loop-record-init : goal.loop-record-init
loop-record-init c = rw c.into_iter-record-iterator.ensures.into_iter_gives (record { purges = filling_none _ _ c.requires.purges; tints = filling_none _ _ c.requires.tints })

pub bounds-purges-p : goal.bounds-purges-p
bounds-purges-p c = purge_fits _ _ _ _ _ _ _ _ c.loop-record.invariant _ _ c.in-Some.ensures.steps _ c.in-Purge.is

pub loop-record-preserved-in-Purge : goal.loop-record-preserved-in-Purge
loop-record-preserved-in-Purge c = purge_poured _ _ _ _ _ _ _ _ c.loop-record.invariant _ _ c.in-Some.ensures.steps _ c.in-Purge.is

pub bounds-tints-t : goal.bounds-tints-t
bounds-tints-t c = tint_fits _ _ _ _ _ _ _ _ c.loop-record.invariant _ _ c.in-Some.ensures.steps _ c.in-Tint.is

pub loop-record-preserved-in-Tint : goal.loop-record-preserved-in-Tint
loop-record-preserved-in-Tint c = tint_poured _ _ _ _ _ _ _ _ c.loop-record.invariant _ _ c.in-Some.ensures.steps _ c.in-Tint.is

pub loop-record-preserved : goal.loop-record-preserved
loop-record-preserved c = none_poured _ _ _ _ _ _ _ _ c.loop-record.invariant _ _ c.in-Some.ensures.steps c.in_default.not-Tint c.in_default.not-Purge

pub returns-clause-purges : goal.returns-clause-purges
returns-clause-purges c = (all_poured _ _ _ _ _ _ _ _ c.loop-record.invariant c.in-None.ensures.steps.0).0

pub returns-clause-tints : goal.returns-clause-tints
returns-clause-tints c = (all_poured _ _ _ _ _ _ _ _ c.loop-record.invariant c.in-None.ensures.steps.0).1
