-- The promises of the calls, joined: what a factoring that answered leaves, and with it `solve` and `again` after `factor`.
use Rattle.model.specs.Promises.{SolveTheorem}
use Rattle.model.specs.Again.{AgainAsSolve}
use Rattle.model.proofs.Slice.{finite-all, fit_all}
use Rattle.model.proofs.Factored.{factored_state, factor_theorem}
use Rattle.model.proofs.Stable.{FactorsSquare, solve_from-factors}
use Rattle.model.proofs.Digits as Digits

pub factors-square : FactorsSquare
factors-square f n a square ok =
    let x = factored_state f n a square ok in (
      record {
        count = x.shape.height;
        wide = x.wide;
        finite = λ i h. finite-all _ (λ j k. (x.values i j h (rw (x.wide i h) at k)).number);
        fit = λ i h. fit_all f _ (λ j k. (x.values i j h (rw (x.wide i h) at k)).fit);
      },
      x.shape.places,
    )

pub solve_theorem : SolveTheorem
solve_theorem = solve_from-factors factor_theorem factors-square

pub again_as_solve : AgainAsSolve
again_as_solve = Digits.again_as_solve factor_theorem factors-square
