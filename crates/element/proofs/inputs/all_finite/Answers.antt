use Rattle.std.proofs.Common.{T, ◌∙◌, rules, tests}
use lib.Ieee.{fits}
use lib.Ieee.Scale.{finite}
use Rattle.std.specs.List.{All}
use Rattle.std.proofs.lemmas.Iterator.{YieldsList-from_slice}
use Rattle.std.proofs.lemmas.Iterator.Search.{all_from_yields_List}
use Rattle.element.proofs.Rows.{finite-all, fit-all}
use Rattle.element.proofs.inputs.all_finite.Goals as goal

pub returns-clause-value : goal.returns-clause-value
returns-clause-value g c =
    let m = g.R.Real in
    all_from_yields_List (λ x. finite (m.val x)) _ _ c.all.result c.all.ensures.ran (YieldsList-from_slice c.args.xs.now cc) (λ x b q k. search (rules, tests)) ∙ finite-all m.val c.args.xs.now

pub returns-clause-fit : goal.returns-clause-fit
returns-clause-fit g c e =
    let m = g.R.Real in
    let each : All (λ x. T (fits m.format (m.val x))) c.args.xs.now = search rules in
    fit-all m.val m.format c.args.xs.now each
