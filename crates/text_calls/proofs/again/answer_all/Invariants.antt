use Rattle.std.proofs.Common.{◌≡◌, ◌++◌, map, length, vec_items}
use Rattle.system_text.specs.Left.{left}
use Rattle.text_calls.specs.Again.{all_answers}
use Rattle.text_calls.proofs.again.answer_all.Given as goal

abbrev pub invariant-loop : goal.invariant-loop
invariant-loop g l =
    let m = g.R.Real in
    let f = l.factors in
    vec_items l.out ++ all_answers m.format f.size (map m.val (vec_items f.lu)) (vec_items f.order) (left l.words)
    ≡ vec_items l.initial.out ++ all_answers m.format f.size (map m.val (vec_items f.lu)) (vec_items f.order) (left l.initial.words)

abbrev pub decreases-loop : goal.decreases-loop
decreases-loop g l = length (left l.words)
