use Rattle.number_text.proofs.Parts.{Read}
use Rattle.number_text.proofs.numeral.more_digits.Given as goal

abbrev pub invariant-loop-byte : goal.invariant-loop-byte
invariant-loop-byte l = Read l.radix l.start l.digits l.byte-index l.number
