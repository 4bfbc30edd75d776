use Rattle.std.proofs.Common.{◌≡◌, ◌<◌, ◌≤◌, map, length, take, is_ok, sym, ap, ◌∙◌, subst, arith}
use Rattle.std.proofs.lemmas.List.{length-set, take_all}
use Rattle.std.proofs.lemmas.Result.{err_from_is_err_and}
use Rattle.element.specs.Products.{Gives}
use Rattle.triangular.proofs.Forward.{forward_end, forward_tests_end, turn_fail, turn_next, turn_tests_next}
use Rattle.triangular.proofs.factors.Factors.forward_solve.Goals as goal

pub returns-in_err-work-clause-range : goal.returns-in_err-work-clause-range
returns-in_err-work-clause-range g c =
    let m = g.R.Real in
    let s = c.args.self.now in
    let w = c.loop-i.work in
    let h : c.loop-i.i < s.matrix.size = omega arith in
    let long : length w ≡ s.matrix.size = omega arith in
    let fails = subst (Gives m.val _ _) c.in_err-work.ensures.ok_part c.subtract_products.ensures in
    ap is_ok (err_from_is_err_and c.from_residual.result c.from_residual.ensures.1).1
    ∙ sym
    (turn_fail m.val m.format s.matrix.size s.matrix.entries.now c.args.b.now w c.row-row.result.now s.order.places.now c.loop-i.i c.row-given.result c.index-b-given.result
    h s.places c.requires.right long c.row-row.ensures.entries c.row-given.ensures.value (omega (arith, c.row-given.ensures.below, s.places)) c.index-b-given.is _ c.loop-i.invariant.2 fails)

pub loop-i-preserved : goal.loop-i-preserved
loop-i-preserved g c =
    let m = g.R.Real in
    let s = c.args.self.now in
    let w = c.loop-i.work in
    let i = c.loop-i.i in
    let y = c.in_ok-work.field-0 in
    let h : i < s.matrix.size = omega arith in
    let long : length w ≡ s.matrix.size = omega arith in
    let e = subst (Gives m.val _ _) c.in_ok-work.ensures.ok_part c.subtract_products.ensures in (
      length-set w i y ∙ c.loop-i.invariant.0,
      turn_next m.val m.format s.matrix.size s.matrix.entries.now c.args.b.now w c.row-row.result.now s.order.places.now i c.row-given.result c.index-b-given.result
          h s.places c.requires.right long c.row-row.ensures.entries c.row-given.ensures.value (omega (arith, c.row-given.ensures.below, s.places)) c.index-b-given.is y e.1 _ c.loop-i.invariant.1,
      turn_tests_next m.val m.format s.matrix.size s.matrix.entries.now c.args.b.now w c.row-row.result.now s.order.places.now i c.row-given.result c.index-b-given.result
          h s.places c.requires.right long c.row-row.ensures.entries c.row-given.ensures.value (omega (arith, c.row-given.ensures.below, s.places)) c.index-b-given.is y e.1 _ c.loop-i.invariant.2 e.0,
    )

pub returns-clause-range : goal.returns-clause-range
returns-clause-range g c =
    let m = g.R.Real in
    let s = c.args.self.now in
    let h : s.matrix.size ≤ c.loop-i.i = omega arith in
    sym (forward_tests_end m.format s.matrix.size (map m.val s.matrix.entries.now) (map m.val c.args.b.now) s.order.places.now (map m.val (take c.loop-i.i c.loop-i.work)) c.loop-i.i _ h c.loop-i.invariant.2)

pub returns-clause-entries : goal.returns-clause-entries
returns-clause-entries g c =
    let m = g.R.Real in
    let s = c.args.self.now in
    let h : s.matrix.size ≤ c.loop-i.i = omega arith in
    let long : length c.loop-i.work ≤ c.loop-i.i = omega arith in
    sym (ap (map m.val) (take_all c.loop-i.i c.loop-i.work long))
    ∙ forward_end m.format s.matrix.size (map m.val s.matrix.entries.now) (map m.val c.args.b.now) s.order.places.now (map m.val (take c.loop-i.i c.loop-i.work)) c.loop-i.i _ h c.loop-i.invariant.1
