use Rattle.std.proofs.Common.{T, sym, subst}
use lib.Ieee.{binary64}
use Rattle.element.proofs.Comparisons.{not-below-range, least64, least_bits64}
use Rattle.element.proofs.binary64.F64Real.not_below_range.Goals as goal

pub returns : goal.returns
returns c = not-below-range binary64 _ _ _ c.args.self least64 least_bits64 (subst T (sym c.well_formed.0.1) tt)
