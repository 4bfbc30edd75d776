use Rattle.std.proofs.Common.{◌∙◌}
use Rattle.std.proofs.lemmas.Slice.Zip.{either_empty_from_Zip}
use Rattle.factor.proofs.Elimination.{gives_some, row_tests_next, row_tests_end}
use Rattle.factor.proofs.eliminate.row_in_range.Goals as goal

pub loop-x-preserved : goal.loop-x-preserved
loop-x-preserved g c =
    let real = g.R.Real in
    let e = c.in-Some.ensures.steps in
    row_tests_next real.val real.format (real.val c.over-l.result) c.loop-x.in_range c.is_some-in_range.result e.0 e.1 (c.is_some-in_range.ensures ∙ gives_some real.val _ _ c.subtract_product.result c.subtract_product.ensures) c.loop-x.invariant

pub returns : goal.returns
returns g c =
    let real = g.R.Real in
    row_tests_end real.val real.format (real.val c.over-l.result) c.loop-x.in_range (either_empty_from_Zip c.loop-x.x-iterator c.next.new.self c.next.result c.in-None.is c.next.ensures.steps) c.loop-x.invariant
