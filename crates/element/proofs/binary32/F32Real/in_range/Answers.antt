use Rattle.std.proofs.Common.{◌&&◌, T, sym, ap, ◌∙◌, subst, ap₂}
use lib.Ieee.{binary32, le, of_bits}
use Rattle.element.proofs.Comparisons.{in_range_lem, least32, least_bits32}
use Rattle.element.proofs.binary32.F32Real.in_range.Goals as goal

pub returns : goal.returns
returns c =
    ap₂ ◌&&◌ c.is_finite.ensures.value (ap (le (of_bits binary32 142606336)) c.abs.ensures.value)
    ∙ in_range_lem binary32 _ _ _ c.args.self least32 least_bits32 (subst T (sym c.well_formed.0.1) tt)
