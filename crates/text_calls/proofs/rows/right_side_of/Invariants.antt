use Rattle.std.proofs.Common.{◌≡◌, ◌+◌, vec_items}
use Rattle.std.specs.Slice.Iter.{chunks_exact_rest, chunks_exact_size}
use Rattle.text_model.specs.Systems.{right_side}
use Rattle.text_calls.proofs.Entries.{PartTo}
use Rattle.text_calls.proofs.rows.right_side_of.Given as goal

abbrev pub invariant-loop-row : goal.invariant-loop-row
invariant-loop-row g l =
    (goal.iterator-loop-row g).can_next l.row-iterator
    × (goal.iterator-loop-row g).is_finite l.row-iterator
    × (chunks_exact_size l.row-iterator ≡ l.n + 1)
    × PartTo g.R.Real.val right_side l.n (vec_items l.fn.system.entries) (vec_items l.right_side) (chunks_exact_rest l.row-iterator)
