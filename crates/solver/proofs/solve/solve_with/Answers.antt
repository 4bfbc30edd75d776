use Rattle.std.proofs.Common.{◌≡◌, ◌*◌, true, T, map, length, Err, sym, ap, subst, arith, rules}
use Rattle.std.proofs.lemmas.Slice.{overwrites}
use Rattle.std.proofs.lemmas.Result.{err_from_is_err_and}
use Rattle.element.specs.Matrix.{matrix}
use Rattle.element.specs.Promises.{all_fit}
use Rattle.model.specs.Solve.{solution, solution_in_range}
use Rattle.model.specs.Promises.{SolveBackwardStable}
use Rattle.model.specs.declared.FactorRefusal.TheVariants.{Input}
use Rattle.factor.specs.Slices.{matrix_of}
use Rattle.factor.proofs.Outcome.{factored-inputs}
use Rattle.solver.proofs.Outcome.{solve_left, order_below, stable}
use Rattle.solver.proofs.solve.solve_with.Goals as goal

pub returns-in_err-factor_into-clause-factors : goal.returns-in_err-factor_into-clause-factors
returns-in_err-factor_into-clause-factors g c =
    let m = g.R.Real in
    let long : length c.factor_into.new.lu ≡ c.args.n * c.args.n = search rules in
    solve_left m.val m.format c.args.n c.args.a.now c.factor_into.new.lu c.factor_into.new.order c.factor_into.result long c.factor_into.ensures
    c.args.b.now c.args.lu.now (length c.args.order.now) (length c.args.x.now) c.in_ok-check_inputs.ensures.outcome

pub returns-in_err-factor_into-clause-untouched : goal.returns-in_err-factor_into-clause-untouched
returns-in_err-factor_into-clause-untouched g c =
    let m = g.R.Real in
    let p = err_from_is_err_and c.from_residual-in_err-factor_into.result c.from_residual-in_err-factor_into.ensures.1 in
    λ e q.
    let same : c.factor_into.result ≡ Err (Input e) = let h = c.in_err-factor_into.was in cc in
    absurd (factored-inputs m.format (matrix_of m.val c.args.n c.args.a.now) c.factor_into.result e (ap (λ s. s.outcome) c.factor_into.ensures) same)

pub new-requires-2 : goal.new-requires-2
new-requires-2 g c =
    let m = g.R.Real in
    let long : length c.factor_into.new.lu ≡ c.args.n * c.args.n = search rules in
    let places : length c.factor_into.new.order ≡ c.args.n = search rules in
    λ k h. omega (arith, places, order_below m.val m.format c.args.n c.args.a.now c.factor_into.new.lu c.factor_into.new.order c.factor_into.result long c.factor_into.ensures k (omega (arith, places)))

pub returns-in_err-solve-clause-factors : goal.returns-in_err-solve-clause-factors
returns-in_err-solve-clause-factors g c =
    let m = g.R.Real in
    let long : length c.factor_into.new.lu ≡ c.args.n * c.args.n = search rules in
    solve_left m.val m.format c.args.n c.args.a.now c.factor_into.new.lu c.factor_into.new.order c.factor_into.result long c.factor_into.ensures
    c.args.b.now c.args.lu.now (length c.args.order.now) (length c.args.x.now) c.in_ok-check_inputs.ensures.outcome

pub returns-clause-factors : goal.returns-clause-factors
returns-clause-factors g c =
    let m = g.R.Real in
    let long : length c.factor_into.new.lu ≡ c.args.n * c.args.n = search rules in
    solve_left m.val m.format c.args.n c.args.a.now c.factor_into.new.lu c.factor_into.new.order c.factor_into.result long c.factor_into.ensures
    c.args.b.now c.args.lu.now (length c.args.order.now) (length c.args.x.now) c.in_ok-check_inputs.ensures.outcome

pub returns-clause-stable : goal.returns-clause-stable
returns-clause-stable g c =
    let m = g.R.Real in
    let n = c.args.n in
    let lu = c.factor_into.new.lu in
    let o = c.factor_into.new.order in
    let long : length lu ≡ n * n = search rules in
    let range : true ≡ solution_in_range m.format (matrix n (map m.val lu)) o (map m.val c.args.b.now) = search rules in
    let answer : map m.val c.copy_from_slice.new.self ≡ solution m.format (matrix n (map m.val lu)) o (map m.val c.args.b.now) = search (rules, overwrites) in
    let fit = c.in_ok-check_inputs.ensures.fit in
    let fit-a : T (all_fit m.format (map m.val c.args.a.now)) = fit 0 c.args.a (omega arith) in
    let fit-b : T (all_fit m.format (map m.val c.args.b.now)) = fit 1 c.args.a (omega arith) in
    subst (SolveBackwardStable m.format n (map m.val c.args.a.now) (map m.val c.args.b.now) (map m.val lu) o) (sym answer)
    (stable m.val m.format n c.args.a.now lu o c.factor_into.result long c.factor_into.ensures c.in_ok-factor_into.was fit-a c.args.b.now (length c.args.lu.now) (length c.args.order.now) (length c.args.x.now) c.in_ok-check_inputs.ensures.outcome fit-b range)
