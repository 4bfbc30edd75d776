use Rattle.std.proofs.Common.{◌++◌, map, List, ℕ, vec_items}
use Rattle.text_model.specs.Lines.{line_after}
use Rattle.system_text.specs.Write.{Appends}
use Rattle.system_text.proofs.Lines.{WordsTo}
use Rattle.system_text.proofs.write.write_line.Given as goal

abbrev pub invariant-loop-item : goal.invariant-loop-item
invariant-loop-item g l =
    (text : _ → List ℕ) → Appends (goal.F-post g l.word) text → WordsTo text l.items (vec_items l.out) l.item-index (vec_items l.initial.out ++ line_after (map text l.rest))
