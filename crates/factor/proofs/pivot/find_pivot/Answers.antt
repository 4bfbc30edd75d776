use Rattle.std.proofs.Common.{◌≡◌, ◌<◌, ◌≤◌, false, length, sym, ◌∙◌, ap₂, arith}
use lib.Ieee.{lt}
use Rattle.std.specs.Float.{float_with_sign}
use Rattle.factor.specs.Slices.{matrix_of}
use Rattle.factor.proofs.Flat.{length-matrix, entry-taken}
use Rattle.factor.proofs.Largest.{larger, largest_moves, largest_stays, largest_end}
use Rattle.factor.proofs.pivot.find_pivot.Goals as goal
use Rattle.factor.proofs.pivot.find_pivot.Goals.{then-exceeds, else-exceeds}

pub loop-i-preserved : goal.loop-i-preserved
loop-i-preserved g c =
    let v = g.R.Real.val in
    let n = c.args.m.now.size in
    let xs = c.args.m.now.entries.now in
    let k = c.args.k in
    let i = c.loop-i.i in
    let m = matrix_of v n xs in
    let h : i < length m = omega (arith, length-matrix v n xs) in
    let x = entry-taken v n xs i (omega arith) c.row.result.now c.row.ensures.entries k c.index-row-k.result (omega arith) c.index-row-k.is in
    let y = entry-taken v n xs c.loop-i.p c.loop-i.invariant.2 c.row-in-loop-i.result.now c.row-in-loop-i.ensures.entries k c.index-row-k-in-loop-i.result (omega arith) c.index-row-k-in-loop-i.is in
    let test : larger k m i c.loop-i.p ≡ c.exceeds.result = sym (c.exceeds.ensures ∙ ap₂ (λ a b. lt (float_with_sign false a) (float_with_sign false b)) y x) in
    elim c.if-exceeds.branch [
      | then-exceeds w ↦ (
        largest_moves k m c.loop-i.p i _ h c.loop-i.invariant.0 _ w.p-is (test ∙ w.if-exceeds.true),
        omega (arith, w.p-is),
        omega (arith, w.p-is),
      )
      | else-exceeds w ↦ (
        largest_stays k m c.loop-i.p i _ h c.loop-i.invariant.0 _ w.p-is (test ∙ w.if-exceeds.false),
        omega (arith, w.p-is),
        omega (arith, w.p-is),
      )
    ]

pub returns-clause-pivot : goal.returns-clause-pivot
returns-clause-pivot g c =
    let v = g.R.Real.val in
    let n = c.args.m.now.size in
    let m = matrix_of v n c.args.m.now.entries.now in
    let h : length m ≤ c.loop-i.i = omega (arith, length-matrix v n c.args.m.now.entries.now) in
    largest_end c.args.k m c.loop-i.p c.loop-i.i _ h c.loop-i.invariant.0
