use Rattle.std.proofs.Common.{◌++◌, map, vec_items, sym, ap, ◌∙◌, rules}
use Rattle.std.proofs.lemmas.Simd.{map-map}
use Rattle.element.specs.Rows.{left}
use Rattle.element.proofs.Split.{row-lists}
use Rattle.number_text.specs.Printed.{printed}
use Rattle.text_model.specs.Lines.{line, row_lines}
use Rattle.system_text.proofs.Lines.{number_word, rows_step, rows_last}
use Rattle.system_text.proofs.write.write_rows.Goals as goal

pub loop-row-init : goal.loop-row-init
loop-row-init g c =
    let v = g.R.Real.val in
    let a = c.args.a.now in
    let out = vec_items c.args.out.now in
    ap (λ rows. out ++ row_lines (map (map v) rows)) (ap left c.into_iter-row-iterator.ensures.into_iter_gives ∙ c.rows-row-items.ensures.rows)
    ∙ ap (λ rs. out ++ row_lines rs) (row-lists v a.size a.size a.entries.now)

pub loop-row-preserved : goal.loop-row-preserved
loop-row-preserved g c =
    let v = g.R.Real.val in
    let before = vec_items c.loop-row.out in
    let written = c.in_ok-write_line.ensures (number_word v) (λ x o p h. search rules) ∙ ap (λ ws. before ++ line ws) (sym (map-map printed v c.in-Some.row.now)) in
    rows_step v before (vec_items c.write_line.new.out) _ c.in-Some.ensures.steps written c.loop-row.invariant

pub returns : goal.returns
returns g c = rows_last g.R.Real.val (vec_items c.loop-row.out) _ c.in-None.ensures.steps.0 c.loop-row.invariant
