use Rattle.std.proofs.Common.{◌+◌, ◌/◌, ◌^◌, vec_items, ap, ◌∙◌, arith}
use lib.Count.{count_trailing_zeros}
use lib.Ieee.{minus}
use Rattle.number_text.specs.Printed.{exact_text, printed}
use Rattle.number_text.proofs.Appending.{appended, text_zero, text_units}
use Rattle.number_text.proofs.print.write_finite.Goals as goal

pub returns-then-units-eq0 : goal.returns-then-units-eq0
returns-then-units-eq0 g c =
    let u = c.to_units-units in
    let x = g.R.Real.val c.args.x in
    appended c.push_exact.result (vec_items c.args.out.now) (vec_items c.push_exact.new.out) (exact_text u.result.negative 0 (minus 0 0)) (printed x)
    (text_zero g.R.Real.format x u.result.negative u.result.whole u.result.place u.ensures.is c.if-units-eq0.true) c.push_exact.ensures

pub returns : goal.returns
returns g c =
    let u = c.to_units-units in
    let x = g.R.Real.val c.args.x in
    let s = u.result.negative in
    let q = u.result.whole in
    let k = u.result.place in
    let t = count_trailing_zeros 64 q in
    appended c.push_exact-2.result (vec_items c.args.out.now) (vec_items c.push_exact-2.new.out) (exact_text s (q / 2 ^ t) (minus (k + t) c.low.result)) (printed x)
    (ap (λ l. exact_text s (q / 2 ^ t) (minus (k + t) l)) c.low.ensures ∙ text_units g.R.Real.format x s q k u.ensures.is (omega arith)) c.push_exact-2.ensures
