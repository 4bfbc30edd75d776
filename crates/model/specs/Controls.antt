-- A computed example, in both formats, of what is promised of the factors: the premises can be met by factors that are not exact.
use Rattle.std.specs.Prelude.{◌≡◌, ◌<◌, [], ◌∷◌, pos, ◌-ℤ◌, ◌*ℤ◌, Ok, unsigned_abs}
use Rattle.std.specs.Float.{Format}
use Rattle.exact.specs.Controls.{whole}
use Rattle.exact.specs.Value.{unit}
use Rattle.element.specs.Matrix.{Row, matrix}
use Rattle.model.specs.Factor.{factored}
use Rattle.model.specs.Calls.{flat}
use Rattle.model.specs.Promises.{entry, place, factor_product, Square}

-- the rows 1 5 and 3 7
abbrev pub example : Row
example = whole 1 ∷ whole 5 ∷ whole 3 ∷ whole 7 ∷ []

-- The rows change places, and the multiplier 1 / 3 is rounded.
abbrev pub InexactFactors : Type 0
InexactFactors =
    (f : Format) → let s = factored f (matrix 2 example) in
    Square f 2 example × (s.outcome ≡ Ok tt) × (s.order ≡ 1 ∷ 0 ∷ [])
    × (0 < unsigned_abs (entry 2 example (place s.order 1) 0 *ℤ pos unit -ℤ factor_product 2 (flat s.rows) 1 0))
