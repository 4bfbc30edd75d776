use Rattle.std.proofs.Common.{◌<◌, ◌≤◌, map, sym, ap, ◌∙◌, arith}
use Rattle.exact.specs.Value.{is_zero}
use Rattle.triangular.proofs.Flat.{entry_value}
use Rattle.triangular.proofs.Sound.{pivots-next, pivots_fail, pivots_end}
use Rattle.triangular.proofs.checks.no_zero_pivot.Goals as goal

pub returns-then-is_zero : goal.returns-then-is_zero
returns-then-is_zero g c =
    let v = g.R.Real.val in
    let a = c.args.a.now in
    let i = c.loop-i.i in
    let h : i < a.size = omega arith in
    let e = entry_value v a.size i i a.entries.now c.row.result.now c.index-row-i.result c.row.ensures.entries c.row.ensures.len h c.index-row-i.is in
    sym (pivots_fail a.size (map v a.entries.now) i _ h c.loop-i.invariant (ap is_zero e ∙ sym c.if-is_zero.ensures))

pub loop-i-preserved : goal.loop-i-preserved
loop-i-preserved g c =
    let v = g.R.Real.val in
    let a = c.args.a.now in
    let i = c.loop-i.i in
    let h : i < a.size = omega arith in
    let e = entry_value v a.size i i a.entries.now c.row.result.now c.index-row-i.result c.row.ensures.entries c.row.ensures.len h c.index-row-i.is in
    pivots-next a.size (map v a.entries.now) i _ h c.loop-i.invariant (ap is_zero e ∙ sym c.if-is_zero.ensures)

pub returns : goal.returns
returns g c =
    let a = c.args.a.now in
    let h : a.size ≤ c.loop-i.i = omega arith in
    sym (pivots_end a.size (map g.R.Real.val a.entries.now) c.loop-i.i _ h c.loop-i.invariant)
