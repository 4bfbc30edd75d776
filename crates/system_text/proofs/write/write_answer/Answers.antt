use Rattle.std.proofs.Common.{map, vec_items, codes, refl}
use Rattle.number_text.proofs.Appending.{appended-after}
use Rattle.text_model.specs.Lines.{number_lines, answer}
use Rattle.system_text.proofs.write.write_answer.Goals as goal

pub returns : goal.returns
returns g c =
    let xs = map g.R.Real.val c.args.numbers.now in
    appended-after c.write_numbers.result (vec_items c.args.out.now) (vec_items c.write_numbers.new.out) (vec_items c.extend_from_slice.new.self) (codes "answer\n") (number_lines xs) (answer xs)
    c.in_ok-extend_from_slice.ensures.items refl c.write_numbers.ensures
