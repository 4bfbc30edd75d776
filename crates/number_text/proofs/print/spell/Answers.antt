use Rattle.std.proofs.Common.{false, ap, ◌∙◌, arith, drop_of_length-le}
use Rattle.std.specs.Fmt.{digits_onto}
use Rattle.std.proofs.DigitsParse.{digits_onto-nil}
use Rattle.number_text.proofs.print.spell.Goals as goal

pub loop-i-init : goal.loop-i-init
loop-i-init c = ap (digits_onto 64 c.args.base false c.args.n) (drop_of_length-le c.args.buffer.now {i = 64} (omega (arith, c.told-buffer))) ∙ digits_onto-nil c.args.base false c.args.n
