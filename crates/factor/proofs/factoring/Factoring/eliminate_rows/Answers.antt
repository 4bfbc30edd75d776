use Rattle.std.proofs.Common.{◌<◌, ◌≤◌, length, Ok, ap, ◌∙◌, ap₂, arith}
use Rattle.model.specs.Factor.{Factoring}
use Rattle.factor.specs.Slices.{matrix_of}
use Rattle.factor.proofs.Flat.{length-matrix}
use Rattle.factor.proofs.Elimination.{rows_next, rows_end}
use Rattle.factor.proofs.factoring.Factoring.eliminate_rows.Goals as goal

pub loop-i-preserved : goal.loop-i-preserved
loop-i-preserved g c =
    let v = g.R.Real.val in
    let n = c.args.self.now.size in
    let kept = c.loop-i.invariant in
    let m = matrix_of v n c.loop-i.self.entries.now in
    let h : c.loop-i.i < length m = omega (arith, length-matrix v n c.loop-i.self.entries.now) in
    record {
      rows = rows_next g.R.Real.format c.args.k c.loop-i.i m (matrix_of v n c.eliminate_from_row.new.m) _ (omega arith) h (rw kept.lends.0 at c.eliminate_from_row.ensures) kept.rows;
      order = kept.order;
      lends = kept.lends;
    }

pub returns-clause-eliminated : goal.returns-clause-eliminated
returns-clause-eliminated g c =
    let v = g.R.Real.val in
    let n = c.args.self.now.size in
    let xs = c.loop-i.self.entries.now in
    let kept = c.loop-i.invariant in
    let h : length (matrix_of v n xs) ≤ c.loop-i.i = omega (arith, length-matrix v n xs) in
    ap₂ {C = Factoring} (λ rows order. record { rows = rows; order = order; outcome = Ok tt })
    (ap (λ z. matrix_of v z xs) kept.lends.0 ∙ rows_end g.R.Real.format c.args.k c.loop-i.i (matrix_of v n xs) _ h kept.rows) kept.order
