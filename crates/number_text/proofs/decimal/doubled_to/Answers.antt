use Rattle.std.proofs.Common.{◌*◌, ◌^◌, ap, ◌∙◌, arith}
use Rattle.number_text.proofs.Quotients.{levelled, doubled, shifted}
use Rattle.number_text.proofs.decimal.doubled_to.Goals as goal

pub overflow_sub-level : goal.overflow_sub-level
overflow_sub-level c = (levelled c.from-m.result c.args.full (omega (arith, c.from-m.ensures)) (omega (arith, c.from-m.ensures)) c.requires.2).0

pub overflow_shl-result : goal.overflow_shl-result
overflow_shl-result c = let d = doubled c.from-m.result c.args.full (omega (arith, c.from-m.ensures)) (omega (arith, c.from-m.ensures)) c.requires.2 c.from.result c.args.place c.from.ensures c.requires.3 in omega (arith, d)

pub overflow_sub-result : goal.overflow_sub-result
overflow_sub-result c = let d = doubled c.from-m.result c.args.full (omega (arith, c.from-m.ensures)) (omega (arith, c.from-m.ensures)) c.requires.2 c.from.result c.args.place c.from.ensures c.requires.3 in omega (arith, d)

pub returns : goal.returns
returns c =
    let s = shifted c.from-m.result c.args.full (omega (arith, c.from-m.ensures)) (omega (arith, c.from-m.ensures)) c.requires.2 c.from.result c.args.place c.from.ensures c.requires.3 in
    (s.0, s.1, s.2 ∙ ap (λ x. x * 2 ^ c.args.place) c.from-m.ensures, s.3)
