use Rattle.std.proofs.Common.{◌&&◌, T, sym, ap, ◌∙◌, subst, ap₂}
use lib.Ieee.{binary64, le, of_bits}
use Rattle.element.proofs.Comparisons.{in_range_lem, least64, least_bits64}
use Rattle.element.proofs.binary64.F64Real.in_range.Goals as goal

pub returns : goal.returns
returns c =
    ap₂ ◌&&◌ c.is_finite.ensures.value (ap (le (of_bits binary64 103582791429521408)) c.abs.ensures.value)
    ∙ in_range_lem binary64 _ _ _ c.args.self least64 least_bits64 (subst T (sym c.well_formed.0.1) tt)
