use Rattle.std.proofs.Common.{◌≡◌, ◌+◌, map, length, sym, ap, ◌∙◌, subst, arith}
use Rattle.std.specs.List.{All}
use Rattle.element.specs.Matrix.{row}
use Rattle.element.specs.Rows.{left}
use Rattle.element.proofs.Split.{rows-from-values, next-row}
use Rattle.model.specs.Factor.{eliminate_row_in_range, eliminate_rows_in_range}
use Rattle.factor.specs.Slices.{matrix_of}
use Rattle.factor.proofs.Flat.{row-taken}
use Rattle.factor.proofs.Elimination.{rows_test_next, rows_test_fail, rows_test_end}
use Rattle.factor.proofs.eliminate.rows_below_in_range.Goals as goal

pub loop-row-init : goal.loop-row-init
loop-row-init g c =
    let real = g.R.Real in
    let m = c.args.m.now in
    let k = c.args.k in
    let ps = row (matrix_of real.val m.size m.entries.now) k in
    let made = ap left c.into_iter-row-iterator.ensures.into_iter_gives in (
      subst (All (λ r. length r ≡ m.size)) (sym made) c.rows_below-row-items.ensures.len,
      ap (λ rows. eliminate_rows_in_range real.format k ps (map (map real.val) rows)) (made ∙ c.rows_below-row-items.ensures.rows)
          ∙ ap (eliminate_rows_in_range real.format k ps) (rows-from-values real.val m.size m.size (k + 1) m.entries.now),
    )

pub row_in_range-requires : goal.row_in_range-requires
row_in_range-requires g c =
    let m = c.args.m.now in
    let here = (next-row m.size c.in-Some.ensures.steps c.loop-row.invariant.0).0 in
    record { lengths = c.row-pivot_row.ensures.len ∙ sym here; column = omega (arith, here) }

pub returns-then-not-row_in_range : goal.returns-then-not-row_in_range
returns-then-not-row_in_range g c =
    let real = g.R.Real in
    let m = c.args.m.now in
    let k = c.args.k in
    let p = row-taken real.val m.size m.entries.now k c.requires c.row-pivot_row.result.now c.row-pivot_row.ensures.entries in
    sym (rows_test_fail real.val real.format k (row (matrix_of real.val m.size m.entries.now) k) c.in-Some.ensures.steps c.loop-row.invariant.1
    (sym (ap (λ ps. eliminate_row_in_range real.format k ps (map real.val c.in-Some.row.now)) p) ∙ sym c.if-not-row_in_range.ensures))

pub loop-row-preserved : goal.loop-row-preserved
loop-row-preserved g c =
    let real = g.R.Real in
    let m = c.args.m.now in
    let k = c.args.k in
    let p = row-taken real.val m.size m.entries.now k c.requires c.row-pivot_row.result.now c.row-pivot_row.ensures.entries in (
      (next-row m.size c.in-Some.ensures.steps c.loop-row.invariant.0).1,
      rows_test_next real.val real.format k (row (matrix_of real.val m.size m.entries.now) k) c.in-Some.ensures.steps c.loop-row.invariant.1
          (sym (ap (λ ps. eliminate_row_in_range real.format k ps (map real.val c.in-Some.row.now)) p) ∙ sym c.if-not-row_in_range.ensures),
    )

pub returns : goal.returns
returns g c =
    let real = g.R.Real in
    let m = c.args.m.now in
    sym (rows_test_end real.val real.format c.args.k (row (matrix_of real.val m.size m.entries.now) c.args.k) c.in-None.ensures.steps.0 c.loop-row.invariant.1)
