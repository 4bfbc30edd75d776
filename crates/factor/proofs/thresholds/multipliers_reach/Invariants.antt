use Rattle.std.proofs.Common.{◌≡◌, ◌+◌, length, drop}
use Rattle.std.specs.List.{All}
use Rattle.element.specs.Matrix.{row}
use Rattle.element.specs.Rows.{left}
use Rattle.factor.specs.Slices.{matrix_of}
use Rattle.factor.specs.Thresholds.{multipliers_reach}
use Rattle.factor.proofs.Reaching.{MultipliersTo}
use Rattle.factor.proofs.thresholds.multipliers_reach.Given as goal

abbrev pub invariant-loop-row : goal.invariant-loop-row
invariant-loop-row g l =
    let real = g.R.Real in
    let m = matrix_of real.val l.m.size l.m.entries.now in
    All (λ r. length r ≡ l.m.size) (left l.row-iterator)
    × MultipliersTo real.val real.format l.k (row m l.k) l.reached (left l.row-iterator) (multipliers_reach real.format l.k (row m l.k) (drop (l.k + 1) m))
