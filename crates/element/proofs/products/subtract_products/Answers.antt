use Rattle.std.proofs.Common.{sym, subst}
use Rattle.std.proofs.lemmas.Slice.Zip.{either_empty_from_Zip}
use Rattle.element.specs.Products.{Gives, subtract_product, subtraction_in_range}
use Rattle.element.proofs.Runs.{runs_next, runs_end, tests_next, tests_fail, tests_end}
use Rattle.element.proofs.products.subtract_products.Goals as goal

pub returns-in_err-rest : goal.returns-in_err-rest
returns-in_err-rest g c =
    let m = g.R.Real in
    let f = m.format in
    let e = c.in-Some.ensures.steps in
    subst (Gives m.val _ _) (sym c.from_residual.ensures)
    (tests_fail m.val (subtract_product f) (subtraction_in_range f) (m.val c.loop-x.rest) e.0 e.1 c.loop-x.invariant.1 c.in_err-rest.ensures)

pub loop-x-preserved : goal.loop-x-preserved
loop-x-preserved g c =
    let m = g.R.Real in
    let f = m.format in
    let e = c.in-Some.ensures.steps in
    let t = c.in_ok-rest.ensures in
    (runs_next m.val (subtract_product f) e.0 e.1 t.1 c.loop-x.invariant.0, tests_next m.val (subtract_product f) (subtraction_in_range f) (m.val c.loop-x.rest) e.0 e.1 c.loop-x.invariant.1 t.0 t.1)

pub returns : goal.returns
returns g c =
    let m = g.R.Real in
    let f = m.format in
    let end = either_empty_from_Zip c.loop-x.x-iterator c.next.new.self c.next.result c.in-None.is c.next.ensures.steps in
    (tests_end m.val (subtract_product f) (subtraction_in_range f) (m.val c.loop-x.rest) end c.loop-x.invariant.1, runs_end m.val (subtract_product f) end c.loop-x.invariant.0)
