-- The computed example: both sides are numerals.
use Rattle.std.proofs.Common.{refl, lit<}
use lib.Ieee.{binary32, binary64, fits, sub, mul, div, lt}
use Rattle.std.specs.Float.{float_with_sign}
use Rattle.exact.specs.Sum.{sum}
use Rattle.analysis.specs.Factors.{lower, upper}
use Rattle.element.specs.Matrix.{all_finite, rows_of}
use Rattle.element.specs.Promises.{all_fit}
use Rattle.model.specs.Factor.{subtract_row, subtract_row_in_range, eliminate_rows, eliminate_rows_in_range, largest, columns, up_to}
use Rattle.model.specs.Calls.{flat}
use Rattle.model.specs.Controls.{InexactFactors}

pub inexact_factors : InexactFactors
unfolding fits sub mul div lt float_with_sign sum lower upper all_finite rows_of all_fit subtract_row subtract_row_in_range eliminate_rows eliminate_rows_in_range largest columns up_to flat
inexact_factors binary32 = (record { size = tt; long = refl; finite = tt; fit = tt }, refl, refl, lit< tt)
inexact_factors binary64 = (record { size = tt; long = refl; finite = tt; fit = tt }, refl, refl, lit< tt)
