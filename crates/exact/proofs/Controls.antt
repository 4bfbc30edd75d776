-- The computed examples: both sides are numerals.
use Rattle.std.proofs.Common.{refl, lit<}
use lib.Ieee.{binary32, binary64, fits, add, mul, div}
use Rattle.exact.specs.Controls.{InexactSum, InexactProduct, InexactQuotient, SumReachesBound, ProductBelowRange}

pub inexact_sum : InexactSum
unfolding fits add
inexact_sum binary32 = (tt, tt, tt, lit< tt)
inexact_sum binary64 = (tt, tt, tt, lit< tt)

pub inexact_product : InexactProduct
unfolding fits mul
inexact_product binary32 = (tt, tt, lit< tt)
inexact_product binary64 = (tt, tt, lit< tt)

pub inexact_quotient : InexactQuotient
unfolding fits div
inexact_quotient binary32 = (tt, tt, tt, lit< tt)
inexact_quotient binary64 = (tt, tt, tt, lit< tt)

pub sum-reaches_bound : SumReachesBound
unfolding fits add
sum-reaches_bound binary32 = (tt, tt, tt, refl)
sum-reaches_bound binary64 = (tt, tt, tt, refl)

pub product-below-range : ProductBelowRange
unfolding fits mul
product-below-range binary32 = (tt, tt, lit< tt, lit< tt)
product-below-range binary64 = (tt, tt, lit< tt, lit< tt)
