use Rattle.std.proofs.Common.{vec_items, sym, ap, ◌∙◌, arith, rules}
use Rattle.std.specs.Slice.Iter.{chunks_exact_rest, chunks_exact_size}
use Rattle.text_model.specs.Systems.{right_side}
use Rattle.text_calls.proofs.Entries.{part_begun, right_side_next, right_side_end}
use Rattle.text_calls.proofs.rows.right_side_of.Goals as goal

pub loop-row-init : goal.loop-row-init
loop-row-init g c =
    let s = c.args.system.now in
    let chunks = c.chunks_exact-row-items in
    let made = c.into_iter-row-iterator.ensures.into_iter_gives in
    let size = ap chunks_exact_size made ∙ chunks.ensures.size in (
      omega (arith, size),
      tt,
      size,
      part_begun g.R.Real.val right_side s.size (vec_items s.entries) (vec_items c.new-right_side.result) _ (sym s.entries.ok.0 ∙ s.counted) c.new-right_side.ensures.items
          (ap chunks_exact_rest made ∙ chunks.ensures.rest ∙ c.deref.ensures.value),
    )

pub loop-row-preserved : goal.loop-row-preserved
loop-row-preserved g c =
    let s = c.args.system.now in
    let it = c.loop-row.row-iterator in
    let row = c.in-Some.row.now in
    let steps = c.in-Some.ensures.steps in
    let size = steps.0 ∙ c.loop-row.invariant.2 in (
      omega (arith, size),
      tt,
      size,
      right_side_next g.R.Real.val s.size (vec_items s.entries) (vec_items c.loop-row.right_side) (vec_items c.push.new.self) (chunks_exact_rest it) (chunks_exact_rest c.next.new.self) row
          steps.1.0 (steps.1.1 ∙ c.loop-row.invariant.2) _ (search rules) c.in_ok-push.ensures.items c.loop-row.invariant.3,
    )

pub returns : goal.returns
returns g c =
    let s = c.args.system.now in
    let it = c.loop-row.row-iterator in
    let done = c.loop-row.right_side in
    let all = right_side_end g.R.Real.val s.size (vec_items s.entries) (vec_items done) (chunks_exact_rest it) (omega (arith, c.in-None.ensures.steps.1.0, c.loop-row.invariant.2)) c.loop-row.invariant.3 in
    (all.0, done.ok.0 ∙ all.1)
