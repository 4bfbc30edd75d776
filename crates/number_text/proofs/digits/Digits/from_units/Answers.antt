use Rattle.std.proofs.Common.{◌≡◌, ◌+◌, ◌*◌, cond, ◌∙◌, rules}
use lib.Ieee.{top}
use Rattle.number_text.proofs.Patterns.{units-pattern, units_no_nan}
use Rattle.number_text.proofs.digits.Digits.from_units.Goals as goal

pub from_pattern-requires-clause-number : goal.from_pattern-requires-clause-number
from_pattern-requires-clause-number g c =
    let f = g.Self.Real.format in
    let a = c.args in
    let sign : c.if-negative.sign ≡ cond a.negative (top f) 0 = search rules in
    units_no_nan f a.negative a.whole a.place c.requires _ (λ i. sign i + (c.from.ensures i * c.field_weight.ensures i + a.whole))

pub returns : goal.returns
returns g c =
    let f = g.Self.Real.format in
    let a = c.args in
    let sign : c.if-negative.sign ≡ cond a.negative (top f) 0 = search rules in
    c.from_pattern.ensures ∙ units-pattern f a.negative a.whole a.place c.requires _ (λ i. sign i + (c.from.ensures i * c.field_weight.ensures i + a.whole))
