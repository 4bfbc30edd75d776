use Rattle.std.proofs.Common.{T, sym, subst}
use lib.Ieee.{binary32}
use Rattle.number_text.proofs.Patterns.{finite_no_nan, has_pattern}
use Rattle.number_text.proofs.binary32.F32Digits.to_pattern.Goals as goal

pub returns-clause-value : goal.returns-clause-value
returns-clause-value c = has_pattern binary32 c.args.self (subst T (sym c.well_formed.0.1) tt) c.from.result c.from.ensures

pub float_to_bits-self : goal.float_to_bits-self
float_to_bits-self c = finite_no_nan c.args.self c.requires
