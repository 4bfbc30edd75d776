use Rattle.std.proofs.Common.{◌≡◌, ◌+◌, ◌-◌, ap₂, ◌∙◌, arith}
use Rattle.element.specs.Rows.{split_rows}
use Rattle.element.proofs.Split.{rows-after, entries-below, row-lengths}
use Rattle.element.proofs.matrix.Matrix.rows_below.Goals as goal

pub returns-clause-rows : goal.returns-clause-rows
returns-clause-rows g c =
    let m = c.args.self.now in
    let fewer : m.size - c.args.k - 1 ≡ m.size - (c.args.k + 1) = omega arith in
    ap₂ (λ count xs. split_rows count m.size xs) fewer c.split_at.ensures.back ∙ rows-after m.size m.size (c.args.k + 1) m.entries.now (omega arith)

pub invariant_of-result : goal.invariant_of-result
invariant_of-result g c =
    let m = c.args.self.now in
    record { whole = entries-below m.size c.args.k _ (omega (arith, c.split_at.ensures.back_len)) }

pub returns-clause-len : goal.returns-clause-len
returns-clause-len g c =
    let m = c.args.self.now in
    row-lengths (m.size - c.args.k - 1) m.size c.split_at.result.1.now (entries-below m.size c.args.k _ (omega (arith, c.split_at.ensures.back_len)))
