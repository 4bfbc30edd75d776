use Rattle.std.proofs.Common.{take, rules}
use Rattle.text_model.specs.Systems.{all_of}
use Rattle.text_model.specs.Factors.{place}
use Rattle.system_text.specs.Left.{left}
use Rattle.system_text.specs.Read.{formed}
use Rattle.system_text.proofs.OneByOne.{each_answered, unmapped}
use Rattle.system_text.proofs.factors.read_order.Goals as goal

pub returns-clause-places : goal.returns-clause-places
returns-clause-places c =
    let ws = take c.args.most (left c.args.words.now) in
    let r = c.read_each.result in
    unmapped (formed (all_of place ws)) r (each_answered _ (λ k. k) place (λ w r h. search rules) ws r c.read_each.ensures.each)
