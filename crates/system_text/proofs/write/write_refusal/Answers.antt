use Rattle.std.proofs.Common.{[], ◌∷◌, ◌++◌, vec_items, codes, refl, ◌∙◌}
use Rattle.text_model.specs.Refusals.{detail}
use Rattle.system_text.proofs.Lines.{part_next}
use Rattle.system_text.proofs.write.write_refusal.Goals as goal

pub returns : goal.returns
returns c =
    let a = vec_items c.args.out.now in
    let begun = vec_items c.extend_from_slice.new.self in
    let d = detail c.args.refusal in
    c.in_ok-push.ensures.items
    ∙ part_next begun d (10 ∷ []) (vec_items c.write_detail.new.out) _ c.in_ok-write_detail.ensures
    (part_next a (codes "no answer ") (d ++ 10 ∷ []) begun _ c.in_ok-extend_from_slice.ensures.items refl)
