use Rattle.std.proofs.Common.{◌≡◌, ◌+◌, ◌-◌, ◌*◌, ◌<◌, ◌≤◌, [], length, min, max, sym, ap, ◌∙◌, ap₂, arith}
use Rattle.model.specs.Factor.{swapped}
use Rattle.element.proofs.Rows.{row_within}
use Rattle.factor.specs.Slices.{matrix_of}
use Rattle.factor.proofs.Flat.{swapped-sorted, rows-exchanged}
use Rattle.factor.proofs.exchange.swap_rows.Goals as goal

pub returns-then-upper-lower : goal.returns-then-upper-lower
returns-then-upper-lower g c =
    let v = g.R.Real.val in
    let n = c.args.n in
    let i = c.args.i in
    let j = c.args.j in
    let upper = c.min-upper.result in
    let lower = c.max-lower.result in
    let first : upper ≡ min i j = omega arith in
    let second : lower ≡ max i j = omega arith in
    let below : lower < n = omega arith in
    let from = c.split_at_mut-above.result.1.now in
    let parts = c.split_at_mut-above.ensures in
    let swap = c.swap_with_slice.ensures in
    let wide : n ≤ length from = omega (arith, row_within n lower below) in
    let width : upper * n + n - upper * n ≡ n = omega arith in
    rows-exchanged v n n lower upper _ c.split_at_mut-above.result.0.now from c.swap_with_slice.new.self c.swap_with_slice.new.other below parts.front_len wide c.if-upper-lower.true width swap.after swap.other_after
    ∙ ap (λ xs. swapped [] upper lower (matrix_of v n xs)) (sym parts.value)
    ∙ ap₂ (λ a b. swapped [] a b (matrix_of v n c.args.m.now)) first second
    ∙ swapped-sorted [] i j (matrix_of v n c.args.m.now)
