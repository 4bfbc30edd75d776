use Rattle.std.proofs.Common.{map, arith}
use Rattle.std.proofs.lemmas.List.{length-map, length-set}
use Rattle.factor.proofs.Elimination.{row_ends}
use Rattle.factor.proofs.eliminate.eliminate_row.Goals as goal

pub returns : goal.returns
returns g c =
    let real = g.R.Real in
    let ps = map real.val c.args.pivot_row.now in
    let rs = map real.val c.loop-j.row in
    row_ends real.format (real.val c.args.l) ps c.loop-j.j rs _ (omega (arith, length-map c.loop-j.row real.val)) (omega (arith, length-map c.args.pivot_row.now real.val, length-set c.args.row.now c.args.k c.args.l)) c.loop-j.invariant
