use Rattle.std.proofs.Common.{◌-◌, sym, arith}
use Rattle.cursor.specs.Rows.{first, join, size}
use Rattle.cursor.proofs.Laws.{first_first}
use Rattle.chain.proofs.Chains.{cut_fits}
use Rattle.chain.proofs.ChainTwoEnded.advance_back.Goals as goal

pub returns-clause-rest : goal.returns-clause-rest
returns-clause-rest g c =
    let r = g.L.Cursor.row c.args.self.now.a in
    let t = g.R.Cursor.row c.args.self.now.b in
    let left = c.args.self.now.left in
    let f = cut_fits left c.len-len.result (join r t) c.len-len.ensures.whole in
    let s = c.len-len.ensures.value in
    sym (first_first (size (first left (join r t)) - c.args.n) left (c.len-len.result - c.min-most.result) (join r t) (omega arith))
