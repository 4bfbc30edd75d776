use Rattle.std.proofs.Common.{◌++◌, map, vec_items}
use Rattle.element.specs.Matrix.{matrix}
use Rattle.element.specs.Rows.{left}
use Rattle.text_model.specs.Lines.{row_lines}
use Rattle.system_text.proofs.Lines.{RowsTo}
use Rattle.system_text.proofs.write.write_rows.Given as goal

abbrev pub invariant-loop-row : goal.invariant-loop-row
invariant-loop-row g l =
    let v = g.R.Real.val in
    RowsTo v (vec_items l.out) (left l.row-iterator) (vec_items l.initial.out ++ row_lines (matrix l.a.size (map v l.a.entries.now)))
