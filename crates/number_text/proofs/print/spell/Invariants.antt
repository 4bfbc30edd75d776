use Rattle.std.proofs.Common.{◌≡◌, false, drop}
use Rattle.std.specs.Fmt.{digits_onto, digits}
use Rattle.number_text.proofs.print.spell.Given as goal

abbrev pub invariant-loop-i : goal.invariant-loop-i
invariant-loop-i l = digits_onto l.i l.base false l.rest (drop l.i l.buffer) ≡ digits l.base false l.n
