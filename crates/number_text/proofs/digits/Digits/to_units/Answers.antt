use Rattle.number_text.proofs.Patterns.{units-low, units-high}
use Rattle.number_text.proofs.digits.Digits.to_units.Goals as goal

pub returns-then-field-eq0 : goal.returns-then-field-eq0
returns-then-field-eq0 g c =
    units-low g.Self.Real.format (g.Self.Real.val c.args.self) c.to_pattern-pattern.result c.to_pattern-pattern.ensures.value c.sign_bit-sign_bit.result c.field_weight-field_weight.result c.sign_bit-sign_bit.ensures c.field_weight-field_weight.ensures c.if-field-eq0.true

pub returns-else-field-eq0 : goal.returns-else-field-eq0
returns-else-field-eq0 g c =
    units-high g.Self.Real.format (g.Self.Real.val c.args.self) c.to_pattern-pattern.result c.to_pattern-pattern.ensures.value c.sign_bit-sign_bit.result c.field_weight-field_weight.result c.sign_bit-sign_bit.ensures c.field_weight-field_weight.ensures c.if-field-eq0.false c.requires
