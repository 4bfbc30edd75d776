use Rattle.std.proofs.Common.{◌≡◌, ◌+◌, ◌||◌, map, length, sym, ap, ap₂, ◌∙◌, subst, arith}
use lib.Ieee.{div}
use Rattle.std.specs.List.{All}
use Rattle.exact.specs.Value.{is_zero}
use Rattle.exact.specs.Threshold.{reaches}
use Rattle.element.specs.Matrix.{row}
use Rattle.element.specs.Rows.{left}
use Rattle.element.proofs.Split.{rows-from-values, next-row}
use Rattle.factor.specs.Slices.{matrix_of}
use Rattle.factor.specs.Thresholds.{multipliers_reach}
use Rattle.factor.proofs.Flat.{read, entry-taken}
use Rattle.factor.proofs.Reaching.{multipliers-next, multipliers_end}
use Rattle.factor.proofs.thresholds.multipliers_reach.Goals as goal

pub loop-row-init : goal.loop-row-init
loop-row-init g c =
    let real = g.R.Real in
    let m = c.args.m.now in
    let k = c.args.k in
    let ps = row (matrix_of real.val m.size m.entries.now) k in
    let made = ap left c.into_iter-row-iterator.ensures.into_iter_gives in (
      subst (All (λ r. length r ≡ m.size)) (sym made) c.rows_below-row-items.ensures.len,
      ap (λ rows. multipliers_reach real.format k ps (map (map real.val) rows)) (made ∙ c.rows_below-row-items.ensures.rows)
          ∙ ap (multipliers_reach real.format k ps) (rows-from-values real.val m.size m.size (k + 1) m.entries.now),
    )

pub offset_bounds-row-k-in-loop-row : goal.offset_bounds-row-k-in-loop-row
offset_bounds-row-k-in-loop-row g c = omega (arith, (next-row c.args.m.now.size c.in-Some.ensures.steps c.loop-row.invariant.0).0)

pub bounds-row-k-in-loop-row : goal.bounds-row-k-in-loop-row
bounds-row-k-in-loop-row g c = omega (arith, (next-row c.args.m.now.size c.in-Some.ensures.steps c.loop-row.invariant.0).0)

pub loop-row-preserved : goal.loop-row-preserved
loop-row-preserved g c =
    let real = g.R.Real in
    let m = c.args.m.now in
    let k = c.args.k in
    let f = real.format in
    let next = next-row m.size c.in-Some.ensures.steps c.loop-row.invariant.0 in
    let x = read real.val c.in-Some.row.now k c.index-row-k-in-loop-row.result (omega (arith, next.0)) c.index-row-k-in-loop-row.is in
    let p = entry-taken real.val m.size m.entries.now k c.requires c.row.result.now c.row.ensures.entries k c.index-row-k.result (omega (arith, c.row.ensures.len)) c.index-row-k.is in
    let test =
    ap₂ ◌||◌ c.is_zero.ensures (c.reaches_threshold.ensures ∙ ap (reaches f) c.over.ensures)
    ∙ ap₂ (λ y q. is_zero y || reaches f (div f y q)) x p in (
      next.1,
      multipliers-next real.val f k (row (matrix_of real.val m.size m.entries.now) k) c.loop-row.reached _ c.in-Some.ensures.steps test c.loop-row.invariant.1,
    )

pub returns : goal.returns
returns g c =
    let real = g.R.Real in
    let m = c.args.m.now in
    multipliers_end real.val real.format c.args.k (row (matrix_of real.val m.size m.entries.now) c.args.k) c.loop-row.reached c.in-None.ensures.steps.0 c.loop-row.invariant.1
