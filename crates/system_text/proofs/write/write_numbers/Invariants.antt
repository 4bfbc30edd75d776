use Rattle.std.proofs.Common.{◌++◌, map, vec_items}
use Rattle.text_model.specs.Lines.{number_lines}
use Rattle.system_text.proofs.Lines.{NumbersTo}
use Rattle.system_text.proofs.write.write_numbers.Given as goal

abbrev pub invariant-loop-x : goal.invariant-loop-x
invariant-loop-x g l = let v = g.R.Real.val in NumbersTo v l.numbers (vec_items l.out) l.x-index (vec_items l.initial.out ++ number_lines (map v l.numbers))
