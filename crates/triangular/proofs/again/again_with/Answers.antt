use Rattle.std.proofs.Common.{◌≡◌, true, T, map, length, sym, refl, subst, arith, rules}
use Rattle.std.proofs.lemmas.Slice.{overwrites}
use Rattle.element.specs.Matrix.{matrix}
use Rattle.element.specs.Promises.{all_fit}
use Rattle.model.specs.Solve.{solution, solution_in_range}
use Rattle.model.specs.Promises.{AgainBackwardStable}
use Rattle.triangular.proofs.Sound.{sound-below}
use Rattle.triangular.proofs.Outcome.{stable}
use Rattle.triangular.proofs.again.again_with.Goals as goal

pub new-requires-2 : goal.new-requires-2
new-requires-2 g c =
    let long : length c.args.order.now ≡ c.args.n = search rules in
    λ k h. omega (arith, long, sound-below c.args.n (map g.R.Real.val c.args.lu.now) c.args.order.now (sym c.if-not-factors_sound.ensures.value) k (omega (arith, long)))

pub returns-clause-stable : goal.returns-clause-stable
returns-clause-stable g c =
    let m = g.R.Real in
    let n = c.args.n in
    let lu = map m.val c.args.lu.now in
    let o = c.args.order.now in
    let b = map m.val c.args.b.now in
    let range : true ≡ solution_in_range m.format (matrix n lu) o b = search rules in
    let answer : map m.val c.copy_from_slice.new.self ≡ solution m.format (matrix n lu) o b = search (rules, overwrites) in
    let fit : T (all_fit m.format b) = c.in_ok-check_inputs.ensures.fit 0 c.args.b (omega arith) in
    subst (AgainBackwardStable m.format n lu o b) (sym answer)
    (stable m.val m.format n c.args.lu.now o c.args.b.now c.args.x.now c.in_ok-check_inputs.ensures.outcome (c.if-not-factors_sound.ensures.fit refl) fit c.if-not-factors_sound.ensures.value range)
