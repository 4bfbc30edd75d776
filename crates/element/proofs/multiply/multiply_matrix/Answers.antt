use Rattle.std.proofs.Common.{cond, map, Ok, Err, Result, sym, refl, ap, ap₂, ◌∙◌, arith}
use Rattle.std.proofs.lemmas.List.{length-map}
use Rattle.element.specs.declared.refusal.MultiplyRefusal.{MultiplyRefusal}
use Rattle.element.specs.declared.refusal.MultiplyRefusal.TheVariants.{Range}
use Rattle.element.specs.Multiply.{multiplied, multiply_outcome}
use Rattle.element.specs.Matrix.{matrix}
use Rattle.element.specs.Products.{rows_in_range, sum_rows}
use Rattle.element.proofs.Nearness.{multiply_near}
use Rattle.element.proofs.Outcome.{answers, checked-is}
use Rattle.element.proofs.multiply.multiply_matrix.Goals as goal

pub returns : goal.returns
returns g c =
    let m = g.R.Real in
    let f = m.format in
    let n = c.args.n in
    let rows = map m.val c.args.a.now in
    let x = map m.val c.args.x.now in
    let y = c.args.y.now in
    let y' = c.sum_rows.new.y in
    let same = ap₂ (λ k xs. matrix k (map m.val xs)) c.new-matrix.ensures.size c.new-matrix.ensures.entries in
    let found = c.in_ok-check_inputs.ensures.outcome ∙ checked-is m.val f n c.args.a.now c.args.x.now y in
    let e =
    ap (multiplied f n rows x) (sym found)
    ∙ ap {B = Result (Unit {0}) MultiplyRefusal} (λ b. cond b (Ok tt) (Err Range)) (sym (ap (λ r. rows_in_range f r x) same) ∙ sym c.if-not-rows_in_range.ensures) in
    let a = answers m.val f n c.args.a.now c.args.x.now y _ y' e (c.sum_rows.ensures ∙ ap (λ r. sum_rows f r x) same) in
    let fit = c.in_ok-check_inputs.ensures.fit in
    let near = multiply_near f n rows x (map m.val y) (map m.val y') (Ok tt) (fit 0 c.args.a (omega arith)) (fit 1 c.args.a (omega arith)) (a.outcome ∙ ap (multiply_outcome f n rows x) (sym (length-map y m.val))) a.output in
    record { outcome = a.outcome; output = a.output; kept = λ k. absurd (k refl); near = near }
