use Rattle.std.proofs.Common.{◌≡◌, ◌*◌, length, ap, ◌∙◌, arith}
use Rattle.factor.specs.Slices.{matrix_of}
use Rattle.factor.proofs.Outcome.{factored-inputs, inputs-fit, checked-is, answered, near}
use Rattle.factor.proofs.factor.factor_matrix.Goals as goal

pub returns : goal.returns
returns g c =
    let real = g.R.Real in
    let f = real.format in
    let n = c.args.n in
    let a = c.args.a.now in
    let lu = c.args.lu.now in
    let order = c.args.order.now in
    let r = c.factor_into.result in
    let e = c.factor_into.ensures in
    let inputs = c.in_ok-check_inputs.ensures.outcome ∙ checked-is real.val f n a lu order in
    let fit = inputs-fit n _ (length lu) (length order) inputs in
    let long : length c.factor_into.new.lu ≡ n * n = omega (arith, fit.factors) in
    let all = answered real.val f n a lu order r c.factor_into.new.lu c.factor_into.new.order inputs long e in
    record {
      outcome = all.outcome;
      factors = all.factors;
      order = all.order;
      kept = λ i q. absurd (factored-inputs f (matrix_of real.val n a) r i (ap (λ s. s.outcome) e) q);
      near = near real.val f n a lu order r c.factor_into.new.lu c.factor_into.new.order inputs (c.in_ok-check_inputs.ensures.fit 0 c.args.a (omega arith)) long e;
    }
