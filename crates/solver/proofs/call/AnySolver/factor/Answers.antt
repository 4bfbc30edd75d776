use Rattle.std.proofs.Common.{sym, ◌∙◌}
use Rattle.solver.proofs.Promised.{factor-answered}
use Rattle.solver.proofs.call.AnySolver.factor.Goals as goal

pub returns-clause-near : goal.returns-clause-near
returns-clause-near g c = λ z. factor-answered _ c.factor_outcome.result c.factor_outcome.ensures.near (sym c.outcome_number.ensures ∙ z)
