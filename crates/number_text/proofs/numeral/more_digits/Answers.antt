use Rattle.std.proofs.Common.{refl, ◌∙◌, arith}
use Rattle.number_text.proofs.Parts.{read_step, read_bad, read_fits}
use Rattle.number_text.proofs.numeral.more_digits.Goals as goal

pub returns-in_err-digit : goal.returns-in_err-digit
returns-in_err-digit c =
    let a = c.args in let l = c.loop-byte in
    c.from_residual.ensures ∙ read_bad a.radix a.start a.digits.now l.byte-index l.number c.loop-byte-test.true l.invariant c.from.result c.from.ensures c.in_err-digit.ensures.value

pub overflow_mul-number : goal.overflow_mul-number
overflow_mul-number c =
    let a = c.args in let l = c.loop-byte in let d = c.in_ok-digit in
    let fits = read_fits a.radix a.start a.digits.now l.byte-index l.number c.loop-byte-test.true l.invariant c.from.result c.from.ensures d.digit c.from-in-loop-byte.result d.digit d.ensures.value c.from-in-loop-byte.ensures refl in
    record { fits = omega arith }

pub overflow_add-number : goal.overflow_add-number
overflow_add-number c =
    let a = c.args in let l = c.loop-byte in let d = c.in_ok-digit in
    let fits = read_fits a.radix a.start a.digits.now l.byte-index l.number c.loop-byte-test.true l.invariant c.from.result c.from.ensures d.digit c.from-in-loop-byte.result c.from-in-loop-byte-2.result d.ensures.value c.from-in-loop-byte.ensures c.from-in-loop-byte-2.ensures in
    record { fits = omega arith }

pub loop-byte-preserved : goal.loop-byte-preserved
loop-byte-preserved c =
    let a = c.args in let l = c.loop-byte in let d = c.in_ok-digit in
    read_step a.radix a.start a.digits.now l.byte-index l.number c.loop-byte-test.true l.invariant c.from.result c.from.ensures d.digit c.from-in-loop-byte.result c.from-in-loop-byte-2.result d.ensures.value c.from-in-loop-byte.ensures c.from-in-loop-byte-2.ensures
