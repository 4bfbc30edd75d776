use Rattle.std.proofs.Common.{take, rules}
use Rattle.number_text.specs.Number.{number_of}
use Rattle.system_text.specs.Left.{left}
use Rattle.system_text.proofs.OneByOne.{each_answered}
use Rattle.system_text.proofs.numbers.read_numbers.Goals as goal

pub returns-clause-numbers : goal.returns-clause-numbers
returns-clause-numbers g c =
    let m = g.R.Real in
    each_answered _ m.val (number_of m.format) (λ w r h. search rules) (take c.args.most (left c.args.words.now)) c.read_each.result c.read_each.ensures.each
