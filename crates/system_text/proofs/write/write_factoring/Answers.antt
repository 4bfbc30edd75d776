use Rattle.std.proofs.Common.{vec_items, codes, sym, ap}
use Rattle.number_text.proofs.Appending.{appended-after}
use Rattle.text_model.specs.Refusals.{decimal, factoring_detail}
use Rattle.system_text.proofs.write.write_factoring.Goals as goal

pub returns-in_ok-extend_from_slice-in-Pivot : goal.returns-in_ok-extend_from_slice-in-Pivot
returns-in_ok-extend_from_slice-in-Pivot c =
    let w = c.write_decimal-in-Pivot in
    appended-after w.result (vec_items c.args.out.now) (vec_items w.new.out) (vec_items c.extend_from_slice.new.self) (codes "5 ") (decimal c.in-Pivot.column) (factoring_detail c.args.refusal)
    c.in_ok-extend_from_slice-in-Pivot.ensures.items (sym (ap factoring_detail c.in-Pivot.is)) w.ensures

pub returns-in_ok-extend_from_slice-in-Range : goal.returns-in_ok-extend_from_slice-in-Range
returns-in_ok-extend_from_slice-in-Range c =
    let w = c.write_decimal-in-Range in
    appended-after w.result (vec_items c.args.out.now) (vec_items w.new.out) (vec_items c.extend_from_slice-in-Range.new.self) (codes "6 ") (decimal c.in-Range.column) (factoring_detail c.args.refusal)
    c.in_ok-extend_from_slice-in-Range.ensures.items (sym (ap factoring_detail c.in-Range.is)) w.ensures
