use Rattle.std.proofs.Common.{◌≡◌, ◌^◌, ◌<◌, ◌≤◌, length, IfSome, sym, subst, arith, rules}
use native.Mathlib.Nat.{pow-le-pow_right}
use Rattle.number_text.specs.Number.{numeral}
use Rattle.number_text.proofs.Parts.{numeral-lt}
use Rattle.number_text.proofs.numeral.read_numeral.Goals as goal

pub more_digits-requires-clause-room : goal.more_digits-requires-clause-room
more_digits-requires-clause-room c =
    let h : length c.args.digits.now ≤ c.args.most = omega arith in
    omega (arith, pow-le-pow_right {n = c.args.radix} (omega arith) h, c.requires.room)

pub returns-clause-bound : goal.returns-clause-bound
returns-clause-bound c =
    let e : c.more_digits.result ≡ numeral c.args.radix c.args.most c.args.digits.now = search rules in
    subst (λ o. IfSome o (λ n. n < c.args.radix ^ c.args.most)) (sym e) (numeral-lt c.args.radix c.args.most c.args.digits.now (omega arith))
