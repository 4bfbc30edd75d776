use Rattle.std.proofs.Common.{◌≡◌, ◌+◌, ◌-◌, ◌*◌, ◌≤◌, ◌++◌, map, length, take, drop, set, sym, ap, ◌∙◌, ap₂, arith}
use Rattle.std.proofs.lemmas.List.{length-take-le}
use Rattle.element.specs.Matrix.{row}
use Rattle.model.specs.Factor.{eliminate_row}
use Rattle.element.proofs.Rows.{row_within}
use Rattle.factor.specs.Slices.{matrix_of}
use Rattle.factor.proofs.Flat.{row-here, row-above, row-written}
use Rattle.factor.proofs.eliminate.eliminate_from_row.Goals as goal

pub returns : goal.returns
returns g c =
    let v = g.R.Real.val in
    let n = c.args.n in
    let i = c.args.i in
    let k = c.args.k in
    let eliminated = eliminate_row g.R.Real.format k in
    let above = c.split_at_mut-above.result.0.now in
    let from = c.split_at_mut-above.result.1.now in
    let parts = c.split_at_mut-above.ensures in
    let hi = c.requires.row in
    let wide : n ≤ length from = omega (arith, row_within n i hi) in
    let ys = c.eliminate_row.new.row in
    let long : length ys ≡ n = omega (arith, length-take-le n from wide) in
    let width : k * n + n - k * n ≡ n = omega arith in
    let pivot-row = ap (λ w. map v (take w (drop (k * n) above))) width ∙ sym (row-above v n n i hi above from parts.front_len wide k c.requires.below) in
    let here = sym (row-here v n n i hi above from parts.front_len wide) in
    row-written v n n i hi above from parts.front_len wide ys long
    ∙ ap (λ r. set (matrix_of v n (above ++ from)) i r) (c.eliminate_row.ensures ∙ ap₂ eliminated pivot-row here)
    ∙ ap (λ xs. let m = matrix_of v n xs in set m i (eliminated (row m k) (row m i))) (sym parts.value)
