use Rattle.std.proofs.Common.{◌≡◌, ◌+◌, ◌-◌, ◌<◌, is_ok, sym, ap, ◌∙◌, subst, arith}
use Rattle.std.proofs.lemmas.Result.{err_from_is_err_and}
use Rattle.element.specs.Products.{Gives}
use Rattle.triangular.proofs.Backward.{SolvedFrom, solved-none, turn_fail, turn_quotient_fail, turn_next}
use Rattle.triangular.proofs.upper.backward_solve.Goals as goal

pub loop-i-init : goal.loop-i-init
loop-i-init g c =
    let m = g.R.Real in
    let s = c.args.upper.now in
    subst (λ i. SolvedFrom m.val m.format s.size s.entries.now c.args.work.now i c.args.work.now) (sym c.size-i.ensures.value) (solved-none m.val m.format s.size s.entries.now c.args.work.now c.requires)

pub returns-in_err-rest-clause-range : goal.returns-in_err-rest-clause-range
returns-in_err-rest-clause-range g c =
    let m = g.R.Real in
    let s = c.args.upper.now in
    let p = c.loop-i.i - 1 in
    let next : p + 1 ≡ c.loop-i.i = omega arith in
    let h : p < s.size = omega arith in
    let fails = subst (Gives m.val _ _) c.in_err-rest.ensures.ok_part c.subtract_products.ensures in
    ap is_ok (err_from_is_err_and c.from_residual.result c.from_residual.ensures.1).1
    ∙ turn_fail m.val m.format s.size s.entries.now c.args.work.now c.loop-i.i p c.loop-i.work c.row-row.result.now c.index-work-i.result
    next h c.requires c.row-row.ensures.entries c.row-row.ensures.len c.loop-i.invariant c.index-work-i.is fails

pub returns-in_err-work-clause-range : goal.returns-in_err-work-clause-range
returns-in_err-work-clause-range g c =
    let m = g.R.Real in
    let s = c.args.upper.now in
    let p = c.loop-i.i - 1 in
    let next : p + 1 ≡ c.loop-i.i = omega arith in
    let h : p < s.size = omega arith in
    let e = subst (Gives m.val _ _) c.in_ok-rest.ensures.ok_part c.subtract_products.ensures in
    let fails = subst (Gives m.val _ _) c.in_err-work.ensures.ok_part c.quotient.ensures in
    ap is_ok (err_from_is_err_and c.from_residual-in_err-work.result c.from_residual-in_err-work.ensures.1).1
    ∙ turn_quotient_fail m.val m.format s.size s.entries.now c.args.work.now c.loop-i.i p c.loop-i.work c.row-row.result.now c.index-work-i.result
    next h c.requires c.row-row.ensures.entries c.row-row.ensures.len c.loop-i.invariant c.index-work-i.is c.in_ok-rest.rest c.index-row-i.result e.0 e.1 c.index-row-i.is fails

pub loop-i-preserved : goal.loop-i-preserved
loop-i-preserved g c =
    let m = g.R.Real in
    let s = c.args.upper.now in
    let p = c.loop-i.i - 1 in
    let next : p + 1 ≡ c.loop-i.i = omega arith in
    let h : p < s.size = omega arith in
    let e = subst (Gives m.val _ _) c.in_ok-rest.ensures.ok_part c.subtract_products.ensures in
    let q = subst (Gives m.val _ _) c.in_ok-work.ensures.ok_part c.quotient.ensures in
    turn_next m.val m.format s.size s.entries.now c.args.work.now c.loop-i.i p c.loop-i.work c.row-row.result.now c.index-work-i.result
    next h c.requires c.row-row.ensures.entries c.row-row.ensures.len c.loop-i.invariant c.index-work-i.is c.in_ok-rest.rest c.index-row-i.result e.0 e.1 c.index-row-i.is c.in_ok-work.field-0 q.0 q.1
