use Rattle.std.proofs.Common.{◌≡◌, ◌+◌, ◌*◌, ◌<◌, min, drop, Err, sym, ap, ◌∙◌, subst, arith}
use Rattle.std.specs.Char.{digit_value}
use Rattle.std.specs.Option.{ok_or}
use Rattle.std.proofs.lemmas.Bool.{eqb-false}
use Rattle.std.proofs.lemmas.Result.{err_from_is_err_and}
use Rattle.text_model.specs.declared.TextRefusal.TheVariants.{Form}
use Rattle.system_text.specs.Read.{formed}
use Rattle.system_text.proofs.Saturated.{read_from, from_digit, from-other, from_end, place_none, place-some}
use Rattle.system_text.proofs.whole.read_whole.Goals as goal

pub returns-in_err-digit : goal.returns-in_err-digit
returns-in_err-digit c =
    let w = c.args.word.now in
    let p = err_from_is_err_and c.from_residual.result c.from_residual.ensures.1 in
    let e = c.in_err-digit.ensures in
    let refused = e.value ∙ ap (λ o. ok_or o Form) e.ok_part in
    let is : c.in_err-digit.field-0.0 ≡ Form = cc in
    let none = rw e.ok_part at c.to_digit.ensures.value in
    p.1 ∙ ap Err (p.2 ∙ is)
    ∙ sym (ap formed (place_none w (sym c.loop-byte.invariant.0 ∙ from-other c.loop-byte.number w c.loop-byte.byte-index c.loop-byte-test.true (λ d. none (subst (λ b. digit_value b < 10) (sym c.from.ensures) d)))))

pub loop-byte-preserved : goal.loop-byte-preserved
loop-byte-preserved c =
    let w = c.args.word.now in
    let n = c.loop-byte.number in
    let i = c.loop-byte.byte-index in
    let digit = rw c.in_ok-digit.ensures.ok_part at c.to_digit.ensures.value in (
      ap (λ m. read_from m (drop (i + 1) w)) (c.min-number.ensures ∙ ap (λ d. min (n * 10 + d) 65535) (digit.1 ∙ ap digit_value c.from.ensures))
          ∙ from_digit n w i c.loop-byte-test.true (subst (λ b. digit_value b < 10) c.from.ensures digit.0) ∙ c.loop-byte.invariant.0,
      omega arith,
    )

pub returns : goal.returns
returns c =
    let w = c.args.word.now in
    let n = c.loop-byte.number in
    sym (ap formed (place-some w n (eqb-false _ 0 (sym c.is_empty.ensures ∙ c.if-is_empty.false))
    (sym c.loop-byte.invariant.0 ∙ from_end n w c.loop-byte.byte-index c.loop-byte-test.false c.loop-byte.invariant.1)))
