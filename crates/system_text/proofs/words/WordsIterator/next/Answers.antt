use Rattle.std.proofs.Common.{length, drop, sym, ap, ◌∙◌, arith}
use Rattle.std.proofs.lemmas.Bool.{eqb-true, eqb-false}
use Rattle.system_text.proofs.Leading.{next-none, next-some}
use Rattle.system_text.proofs.words.WordsIterator.next.Goals as goal

pub returns-then-is_empty-clause-steps : goal.returns-then-is_empty-clause-steps
returns-then-is_empty-clause-steps c =
    next-none (record { text_is = c.split_at.ensures.back ∙ ap (λ i. drop i c.args.self.now.rest.now) c.leading.ensures.value; end_is = c.leading-2.ensures.value; word_is = c.split_at-2.ensures.front; rest-is = c.split_at-2.ensures.back })
    (omega (arith, eqb-true _ 0 (sym c.is_empty.ensures ∙ c.if-is_empty.true)))

pub returns-else-is_empty-clause-steps : goal.returns-else-is_empty-clause-steps
returns-else-is_empty-clause-steps c =
    let some = eqb-false _ 0 (sym c.is_empty.ensures ∙ c.if-is_empty.false) in
    next-some (record { text_is = c.split_at.ensures.back ∙ ap (λ i. drop i c.args.self.now.rest.now) c.leading.ensures.value; end_is = c.leading-2.ensures.value; word_is = c.split_at-2.ensures.front; rest-is = c.split_at-2.ensures.back })
    (λ z. some (omega (arith, z, c.split_at-2.ensures.front_len)))

pub returns-else-is_empty-clause-goes : goal.returns-else-is_empty-clause-goes
returns-else-is_empty-clause-goes c =
    let less = ap length (returns-else-is_empty-clause-steps c) in
    record { on = λ f. (tt, tt, omega (arith, less)); keeps = tt; rests = λ f. tt }
