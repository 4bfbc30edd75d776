use Rattle.std.proofs.Common.{sym}
use Rattle.std.proofs.lemmas.Slice.Zip.{either_empty_from_Zip}
use Rattle.element.specs.Products.{add_product, addition_in_range}
use Rattle.element.proofs.Runs.{tests_next, tests_fail, tests_end}
use Rattle.element.proofs.products.sum_in_range.Goals as goal

pub returns-in-None-add_product : goal.returns-in-None-add_product
returns-in-None-add_product g c =
    let m = g.R.Real in
    let e = c.in-Some.ensures.steps in
    sym (tests_fail m.val (add_product m.format) (addition_in_range m.format) (m.val c.loop-x.partial) e.0 e.1 c.loop-x.invariant c.in-None-add_product.ensures)

pub loop-x-preserved : goal.loop-x-preserved
loop-x-preserved g c =
    let m = g.R.Real in
    let e = c.in-Some.ensures.steps in
    let t = c.in-Some-add_product.ensures in
    tests_next m.val (add_product m.format) (addition_in_range m.format) (m.val c.loop-x.partial) e.0 e.1 c.loop-x.invariant t.0 t.1

pub returns : goal.returns
returns g c =
    let m = g.R.Real in
    sym (tests_end m.val (add_product m.format) (addition_in_range m.format) (m.val c.loop-x.partial) (either_empty_from_Zip c.loop-x.x-iterator c.next.new.self c.next.result c.in-None.is c.next.ensures.steps) c.loop-x.invariant)
