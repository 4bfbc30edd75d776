use Rattle.std.proofs.Common.{◌++◌, map, vec_items, ap, ◌∙◌, rules}
use Rattle.std.proofs.lemmas.Result.{IfOk-weaker}
use Rattle.text_model.specs.Refusals.{decimal}
use Rattle.system_text.proofs.Lines.{factors-parts}
use Rattle.system_text.proofs.write.write_factors.Goals as goal

pub returns : goal.returns
returns g c =
    let a = c.args in
    IfOk-weaker c.write_rows.result _ _
    (λ _ h. h ∙ factors-parts (vec_items a.out.now) (vec_items c.write_format.new.out) (vec_items c.push.new.self) (vec_items c.write_decimal.new.out) (vec_items c.push-2.new.self) (vec_items c.write_line.new.out)
    a.precision a.lu.now.size a.order.now (map g.R.Real.val a.lu.now.entries.now)
    c.in_ok-write_format.ensures c.in_ok-push.ensures.items (c.in_ok-write_decimal.ensures ∙ ap (λ n. vec_items c.push.new.self ++ decimal n) c.size.ensures.value) c.in_ok-push-2.ensures.items (c.in_ok-write_line.ensures decimal (λ x o p h. search rules)))
    c.write_rows.ensures
