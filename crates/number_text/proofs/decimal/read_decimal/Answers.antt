use native.Mathlib.Nat.{one-le-pow, pow-le-pow_right}
use Rattle.std.proofs.Common.{◌^◌, ◌<◌, ◌≤◌, length, IfSome, subst, arith}
use Rattle.number_text.proofs.decimal.read_decimal.Goals as goal

pub quotient-requires : goal.quotient-requires
quotient-requires g c =
    let n = length c.split_at_byte.result.1.now in
    let h = subst (λ o. IfSome o (λ m. (m < 10 ^ 15) × (n ≤ 15))) c.in_ok-m.ensures.ok_part c.all_digits.ensures.bound in
    (h.0, omega (arith, c.pow-den.ensures, one-le-pow n 10 (omega arith)), omega (arith, c.pow-den.ensures, pow-le-pow_right {n = 10} (omega arith) h.1))
