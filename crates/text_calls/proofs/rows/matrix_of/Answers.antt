use Rattle.std.proofs.Common.{vec_items, refl, sym, ap, ◌∙◌, arith}
use Rattle.std.specs.Slice.Iter.{chunks_exact_rest, chunks_exact_size}
use Rattle.std.proofs.lemmas.List.{length-take-le}
use Rattle.text_model.specs.Systems.{coefficients}
use Rattle.text_calls.proofs.Entries.{part_begun, matrix-next, matrix_end}
use Rattle.text_calls.proofs.rows.matrix_of.Goals as goal

pub loop-row-init : goal.loop-row-init
loop-row-init g c =
    let s = c.args.system.now in
    let chunks = c.chunks_exact-row-items in
    let made = c.into_iter-row-iterator.ensures.into_iter_gives in
    let size = ap chunks_exact_size made ∙ chunks.ensures.size in (
      omega (arith, size),
      tt,
      size,
      part_begun g.R.Real.val coefficients s.size (vec_items s.entries) (vec_items c.new-matrix.result) _ (sym s.entries.ok.0 ∙ s.counted) c.new-matrix.ensures.items
          (ap chunks_exact_rest made ∙ chunks.ensures.rest ∙ c.deref.ensures.value),
    )

pub slice_bounds-extend_from_slice-end : goal.slice_bounds-extend_from_slice-end
slice_bounds-extend_from_slice-end g c =
    let n = c.args.system.now.size in
    sym (length-take-le n c.in-Some.row.now (omega (arith, c.in-Some.ensures.steps.1.1, c.loop-row.invariant.2)))

pub loop-row-preserved : goal.loop-row-preserved
loop-row-preserved g c =
    let s = c.args.system.now in
    let it = c.loop-row.row-iterator in
    let row = c.in-Some.row.now in
    let steps = c.in-Some.ensures.steps in
    let size = steps.0 ∙ c.loop-row.invariant.2 in (
      omega (arith, size),
      tt,
      size,
      matrix-next g.R.Real.val s.size (vec_items s.entries) (vec_items c.loop-row.matrix) (vec_items c.extend_from_slice.new.self) (chunks_exact_rest it) (chunks_exact_rest c.next.new.self) row
          steps.1.0 (steps.1.1 ∙ c.loop-row.invariant.2) _ refl c.in_ok-extend_from_slice.ensures.items c.loop-row.invariant.3,
    )

pub returns : goal.returns
returns g c =
    let s = c.args.system.now in
    let it = c.loop-row.row-iterator in
    let done = c.loop-row.matrix in
    let all = matrix_end g.R.Real.val s.size (vec_items s.entries) (vec_items done) (chunks_exact_rest it) (omega (arith, c.in-None.ensures.steps.1.0, c.loop-row.invariant.2)) (sym s.entries.ok.0 ∙ s.counted) c.loop-row.invariant.3 in
    (all.0, done.ok.0 ∙ all.1)
