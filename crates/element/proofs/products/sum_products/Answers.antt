use Rattle.std.proofs.Common.{ap, ◌∙◌}
use lib.Ieee.{add}
use Rattle.std.proofs.lemmas.Slice.Zip.{either_empty_from_Zip}
use Rattle.element.specs.Products.{add_product}
use Rattle.element.proofs.Runs.{runs_next, runs_end}
use Rattle.element.proofs.products.sum_products.Goals as goal

pub loop-x-preserved : goal.loop-x-preserved
loop-x-preserved g c =
    let m = g.R.Real in
    let e = c.in-Some.ensures.steps in
    runs_next m.val (add_product m.format) e.0 e.1 (c.plus-sum.ensures ∙ ap (add m.format (m.val c.loop-x.sum)) c.times.ensures) c.loop-x.invariant

pub returns : goal.returns
returns g c =
    let m = g.R.Real in
    runs_end m.val (add_product m.format) (either_empty_from_Zip c.loop-x.x-iterator c.next.new.self c.next.result c.in-None.is c.next.ensures.steps) c.loop-x.invariant
