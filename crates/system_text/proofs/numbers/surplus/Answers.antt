use Rattle.std.proofs.Common.{Err, MutBor, sym, ap, ◌∙◌}
use Rattle.std.proofs.lemmas.Result.{err_from_is_err_and}
use Rattle.number_text.specs.Number.{number_of}
use Rattle.text_model.specs.Systems.{all_of}
use Rattle.system_text.specs.declared.words.Words.{Words}
use Rattle.system_text.specs.Left.{left}
use Rattle.system_text.specs.Read.{formed, any_of}
use Rattle.system_text.proofs.All.{any_more, any_start, any_word, any_bad, any_end}
use Rattle.system_text.proofs.numbers.surplus.Goals as goal

pub loop-word-init : goal.loop-word-init
loop-word-init g c = any_start (number_of g.R.Real.format) (left c.into_iter-word-iterator.result.now)

pub returns-in_err-_number : goal.returns-in_err-_number
returns-in_err-_number g c =
    let one = number_of g.R.Real.format in
    let p = err_from_is_err_and c.from_residual.result c.from_residual.ensures.1 in
    let all = ap (λ (w : MutBor Words). formed (any_of (all_of one (left w.now)))) c.into_iter-word-iterator.ensures.into_iter_gives in
    p.1 ∙ ap Err p.2
    ∙ sym (ap formed (sym c.loop-word.invariant ∙ ap (λ ws. any_more c.loop-word.any (all_of one ws)) c.in-Some.ensures.steps
    ∙ any_bad one c.loop-word.any c.in-Some.word.now (left c.next.new.self.now) (sym c.in_err-_number.ensures))) ∙ all

pub loop-word-preserved : goal.loop-word-preserved
loop-word-preserved g c =
    let one = number_of g.R.Real.format in
    sym (any_word one c.loop-word.any c.in-Some.word.now (left c.next.new.self.now) _ (sym c.in_ok-_number.ensures))
    ∙ sym (ap (λ ws. any_more c.loop-word.any (all_of one ws)) c.in-Some.ensures.steps) ∙ c.loop-word.invariant

pub returns : goal.returns
returns g c =
    let one = number_of g.R.Real.format in
    let none = c.in-None.ensures.steps in
    let all = ap (λ (w : MutBor Words). formed (any_of (all_of one (left w.now)))) c.into_iter-word-iterator.ensures.into_iter_gives in
    sym (ap formed (sym c.loop-word.invariant ∙ ap (λ ws. any_more c.loop-word.any (all_of one ws)) none.0 ∙ any_end one c.loop-word.any)) ∙ all
