use Rattle.std.proofs.Common.{T, sym, ◌∙◌, subst}
use Rattle.element.proofs.Comparisons.{is_finite}
use Rattle.element.proofs.binary64.F64Real.is_finite.Goals as goal

pub returns : goal.returns
returns c = record { value = c.is_finite.ensures.value ∙ is_finite c.args.self; fits = subst T (sym c.well_formed.0.1) tt }
