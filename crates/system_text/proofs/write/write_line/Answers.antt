use Rattle.std.proofs.Common.{[], ◌∷◌, ◌++◌, vec_items, ap, ◌∙◌, arith}
use Rattle.system_text.proofs.Lines.{words-next, line-none, line_end}
use Rattle.system_text.proofs.write.write_line.Goals as goal
use Rattle.system_text.proofs.write.write_line.Goals.{in_default, in-len1-up+in_ok-word+else-loop-item-test}

pub loop-item-preserved : goal.loop-item-preserved
loop-item-preserved g c = λ text h.
    words-next text c.args.items.now (vec_items c.loop-item.out) (vec_items c.push.new.self) (vec_items c.word-in-loop-item.new.arg3) _ c.loop-item.item-index c.item-item.result
    c.loop-item-test.true c.item-item.is c.in_ok-push.ensures.items (h _ _ _ c.in_ok-word-2.ensures) (c.loop-item.invariant text h)

pub returns : goal.returns
returns g c = λ text h.
    let items = c.args.items.now in
    let a = vec_items c.args.out.now in
    let now = vec_items c.push-2.new.self in
    elim c.if-items-lt1.branch [
      | in_default w ↦ line-none text items a now (omega arith) (c.in_ok-push-2.ensures.items ∙ ap (λ o. vec_items o ++ 10 ∷ []) w.out-is)
      | in-len1-up+in_ok-word+else-loop-item-test w ↦
          line_end text items a now (vec_items w.word.new.arg3) (vec_items w.loop-item.out) w.loop-item.item-index w.first-item.result (omega arith) w.first-item.is (h _ _ _ w.in_ok-word.ensures)
          w.loop-item-test.false (w.loop-item.invariant text h) (c.in_ok-push-2.ensures.items ∙ ap (λ o. vec_items o ++ 10 ∷ []) w.out-is)
    ]
