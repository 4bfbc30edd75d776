use Rattle.std.proofs.Common.{◌≤◌, cond, length, Some, None, ap, ◌∙◌, arith}
use native.Mathlib.Nat.{pow-le-pow_right}
use Rattle.std.specs.Str.Parse.{digits_value, digits_value_after}
use Rattle.number_text.specs.Number.{digits_below}
use Rattle.number_text.proofs.Parts.{given_none, given_some, joined-room, joined_bad, joined-good}
use Rattle.number_text.proofs.decimal.joined_digits.Goals as goal

pub more_digits-requires-clause-room : goal.more_digits-requires-clause-room
more_digits-requires-clause-room c = let h : length c.args.whole.now ≤ 15 = omega (arith, c.requires) in omega (arith, pow-le-pow_right {n = 10} (omega arith) h)

pub returns-in_err-high : goal.returns-in_err-high
returns-in_err-high c =
    let w = c.args.whole.now in
    c.from_residual.ensures ∙ joined_bad 10 w c.args.fraction.now (given_none (digits_below 10 w) (digits_value 10 w) c.in_err-high.ensures)

pub more_digits-requires-2-clause-room : goal.more_digits-requires-2-clause-room
more_digits-requires-2-clause-room c =
    let w = c.args.whole.now in
    let h = given_some (digits_below 10 w) (digits_value 10 w) c.in_ok-high.high c.in_ok-high.ensures in
    joined-room w c.args.fraction.now c.in_ok-high.high c.requires h.0 h.1

pub returns : goal.returns
returns c =
    let w = c.args.whole.now in
    let t = c.args.fraction.now in
    let h = given_some (digits_below 10 w) (digits_value 10 w) c.in_ok-high.high c.in_ok-high.ensures in
    c.more_digits-2.ensures ∙ ap (λ n. cond (digits_below 10 t) (Some (digits_value_after 10 n t)) None) h.1 ∙ joined-good 10 w t h.0
