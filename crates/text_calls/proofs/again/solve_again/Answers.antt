use Rattle.std.proofs.Common.{map, length, Ok, sym, ap, ◌∙◌, ap₂}
use lib.ListN.{length-map}
use Rattle.std.proofs.lemmas.List.{with_items_is}
use Rattle.text_model.specs.Programs.{solved_again}
use Rattle.text_calls.proofs.RightSides.{again_solved}
use Rattle.text_calls.proofs.again.solve_again.Goals as goal

pub returns : goal.returns
returns g c =
    let m = g.R.Real in
    let f = c.args.factors.now in
    let v = c.in_ok-x.x in
    let x = c.deref_mut.result.now in
    let y = c.again_outcome.new.x in
    let long = ap length (c.deref_mut.ensures.value ∙ c.in_ok-x.ensures.items) ∙ c.requires in
    let done = c.in_ok-again_outcome.ensures in
    let b = map m.val c.args.b.now in
    let lu = c.deref.result.now in
    let order = c.deref-2.result.now in
    ap₂ (λ k o. solved_again m.format f.size (map m.val k) o b) (sym c.deref.ensures.value) (sym c.deref-2.ensures.value)
    ∙ again_solved m.format f.size (map m.val lu) order b (length x) (map m.val x) (map m.val y)
    long (length-map x m.val ∙ long) done.outcome done.answer
    ∙ ap (λ l. Ok (map m.val l)) (sym (with_items_is v y (c.again_outcome.auto.x ∙ ap length c.deref_mut.ensures.value ∙ sym v.ok.0)))
