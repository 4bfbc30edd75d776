use Rattle.std.proofs.Common.{T, sym, subst}
use lib.Ieee.{binary32}
use Rattle.element.proofs.Comparisons.{not-below-range, least32, least_bits32}
use Rattle.element.proofs.binary32.F32Real.not_below_range.Goals as goal

pub returns : goal.returns
returns c = not-below-range binary32 _ _ _ c.args.self least32 least_bits32 (subst T (sym c.well_formed.0.1) tt)
