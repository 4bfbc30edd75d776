use Rattle.std.proofs.Common.{T, sym, refl, subst}
use lib.Ieee.{binary64}
use Rattle.number_text.proofs.Patterns.{finite_no_nan, has_pattern}
use Rattle.number_text.proofs.binary64.F64Digits.to_pattern.Goals as goal

pub returns-clause-value : goal.returns-clause-value
returns-clause-value c = has_pattern binary64 c.args.self (subst T (sym c.well_formed.0.1) tt) _ refl

pub float_to_bits-result : goal.float_to_bits-result
float_to_bits-result c = finite_no_nan c.args.self c.requires
