-- One product subtracted or added, with two roundings, in exact values: the law of one rounding for each.
use Rattle.std.proofs.Common.{◌+◌, ◌*◌, ◌^◌, ◌≤◌, T, pos, ◌-ℤ◌, ◌*ℤ◌, nat_abs}
use lib.Ieee.{Float, Format, prec, fits, mul}
use lib.Ieee.Fits.{and_l, and_r, mul-fits}
use lib.Ieee.Scale.{finite}
use Rattle.exact.specs.Value.{unit, value}
use Rattle.exact.specs.Range.{product_in_range}
use Rattle.exact.proofs.Integer.{nat_abs-*ℤ}
use Rattle.exact.proofs.Laws.{product_law, difference-law}
use Rattle.analysis.proofs.Residual.{product-step}
use Rattle.element.specs.Products.{subtract_product, subtraction_in_range}
use Rattle.element.specs.Promises.{ProductSubtracted}

-- the form that a step of the residual takes
pub subtraction_step : (f : Format) (s a b : Float) → T (fits f s) → T (fits f a) → T (fits f b) → T (subtraction_in_range f s a b) →
    2 ^ prec f * nat_abs (value s *ℤ pos unit -ℤ value a *ℤ value b -ℤ value (subtract_product f s a b) *ℤ pos unit)
    ≤ nat_abs (value a *ℤ value b) + nat_abs (value (subtract_product f s a b) *ℤ pos unit)
subtraction_step f s a b fit-s fit-a fit-b t =
    let s' = subtract_product f s a b in
    product-step (2 ^ prec f) unit (value s) (value a *ℤ value b) (value (mul f a b)) (value s')
    (product_law f a b fit-a fit-b (and_l (product_in_range f a b) (finite s') t)).of_exact
    (difference-law f s (mul f a b) fit-s (mul-fits f a b) (and_r (product_in_range f a b) (finite s') t)).of_computed

pub product_subtracted : ProductSubtracted
product_subtracted f s a b fit-s fit-a fit-b t =
    rw (← nat_abs-*ℤ (value a) (value b), ← nat_abs-*ℤ (value (subtract_product f s a b)) (pos unit)) (subtraction_step f s a b fit-s fit-a fit-b t)
