use Rattle.std.proofs.Common.{◌≡◌, ◌<◌, map, Ok, sym, refl, ap, ◌∙◌, subst, arith}
use Rattle.element.specs.Matrix.{all_finite}
use Rattle.model.specs.Factor.{columns}
use Rattle.model.proofs.Slice.{Wide}
use Rattle.factor.specs.Slices.{matrix_of}
use Rattle.factor.specs.State.{state}
use Rattle.factor.specs.Thresholds.{Finite}
use Rattle.factor.proofs.Flat.{length-matrix, length-row}
use Rattle.factor.proofs.Steps.{columns-next, same-slices}
use Rattle.factor.proofs.Unlooked.{finite-exchanged, column-is, finite-matrix}
use Rattle.factor.proofs.factoring.Factoring.clear_columns.Goals as goal

pub loop-k-preserved : goal.loop-k-preserved
loop-k-preserved g c =
    let real = g.R.Real in
    let f = real.format in
    let k = c.loop-k.k in
    let given = c.args.self.now in
    let n = c.loop-k.self.size in
    let xs = c.loop-k.self.entries.now in
    let kept = c.loop-k.invariant in
    let e = c.in_ok-clear_column.ensures in
    let hk : k < n = omega (arith, kept.lends.0) in
    let before = state real.val c.loop-k.self (Ok tt) in
    let height = length-matrix real.val n xs in
    let wide : Wide n (matrix_of real.val n xs) = λ i hi. length-row real.val n xs i hi c.loop-k.self.square.1 in
    let after = c.clear_column.new.self in
    record {
      columns = λ fine.
          let cleared = subst (λ s. Finite n s.rows) e.column (subst (λ z. Finite z (matrix_of real.val after.size after.entries.now)) e.lends.0 fine) in
          columns-next f (state real.val given (Ok tt)) k before _ (kept.columns (finite-exchanged f k n before hk height wide refl (sym e.reached) cleared))
          (e.column ∙ column-is f k n before hk height wide refl (sym e.reached) cleared);
      lends = same-slices given c.loop-k.self after kept.lends e.lends;
    }

pub returns-then-all_finite-clause-columns : goal.returns-then-all_finite-clause-columns
returns-then-all_finite-clause-columns g c =
    let real = g.R.Real in
    let given = c.args.self.now in
    let end : c.loop-k.k ≡ given.size = omega arith in
    let fine = sym (c.all_finite.ensures.value ∙ ap (λ ys. all_finite (map real.val ys)) (c.entries.ensures.value ∙ c.matrix.ensures.entries)) ∙ c.if-all_finite.true in
    c.loop-k.invariant.columns (finite-matrix real.val c.loop-k.self.size c.loop-k.self.entries.now fine) ∙ ap (λ k. columns real.format k (state real.val given (Ok tt))) end
