use Rattle.std.proofs.Common.{◌++◌, map, vec_items, vec_len, sym, refl, ap, ◌∙◌, arith, rules}
use lib.ListN.{length-map}
use Rattle.std.proofs.lemmas.Bool.{eqb-true, eqb-false}
use Rattle.text_model.specs.Lines.{answer}
use Rattle.text_model.specs.Programs.{outcome, solved_again}
use Rattle.system_text.specs.Left.{left}
use Rattle.text_calls.proofs.RightSides.{enough_numbers, none_left, too_few, no_number, answered}
use Rattle.text_calls.proofs.again.answer_next.Goals as goal

pub returns-then-is_empty : goal.returns-then-is_empty
returns-then-is_empty g c =
    let m = g.R.Real in
    let f = c.args.factors.now in
    let b = c.in-Ok.b in
    none_left m.format f.size (map m.val (vec_items f.lu)) (vec_items f.order) f.taken.0 (left c.args.words.now) (left c.read_numbers.new.words)
    (vec_items c.args.out.now) (vec_items c.args.out.now) (map m.val (vec_items b)) c.in-Ok.ensures.numbers
    (length-map (vec_items b) m.val ∙ sym b.ok.0 ∙ eqb-true (vec_len b) 0 (sym c.if-is_empty.ensures)) refl

pub returns-then-len-factors : goal.returns-then-len-factors
returns-then-len-factors g c =
    let m = g.R.Real in
    let f = c.args.factors.now in
    let b = c.in-Ok.b in
    let count = length-map (vec_items b) m.val ∙ sym b.ok.0 in
    too_few m.format f.size (map m.val (vec_items f.lu)) (vec_items f.order) f.taken.0 (left c.args.words.now) (left c.read_numbers.new.words)
    (vec_items c.args.out.now) (vec_items c.write_refusal.new.out) (map m.val (vec_items b)) c.in-Ok.ensures.numbers
    (λ z. eqb-false (vec_len b) 0 (sym c.if-is_empty.ensures) (sym count ∙ z)) (omega (arith, count, c.len.ensures, c.if-len-factors.true)) c.in_ok-write_refusal-in-Ok.ensures

pub solve_again-requires : goal.solve_again-requires
solve_again-requires g c =
    let m = g.R.Real in
    let f = c.args.factors.now in
    let b = c.in-Ok.b in
    let count = length-map (vec_items b) m.val in
    omega (arith, c.deref.ensures.len, count, b.ok.0, enough_numbers m.format f.size (left c.args.words.now) (map m.val (vec_items b)) c.in-Ok.ensures.numbers (omega (arith, count, b.ok.0, c.len.ensures, c.if-len-factors.false)))

pub returns-in_ok-write_outcome-in-Ok : goal.returns-in_ok-write_outcome-in-Ok
returns-in_ok-write_outcome-in-Ok g c =
    let m = g.R.Real in
    let f = c.args.factors.now in
    let b = c.in-Ok.b in
    let n = f.size in
    let lu = map m.val (vec_items f.lu) in
    let order = vec_items f.order in
    let before = vec_items c.args.out.now in
    answered m.format n lu order f.taken.0 (left c.args.words.now) (left c.read_numbers.new.words) before (vec_items c.write_outcome.new.out) (map m.val (vec_items b)) c.in-Ok.ensures.numbers
    (omega (arith, length-map (vec_items b) m.val, b.ok.0, c.len.ensures, c.if-len-factors.false)) c.in-Ok.ensures.rest
    (c.in_ok-write_outcome-in-Ok.ensures _ c.solve_again.ensures ∙ ap (λ x. before ++ outcome answer (solved_again m.format n lu order (map m.val x))) c.deref.ensures.value)

pub returns-in_ok-write_refusal-in-Err : goal.returns-in_ok-write_refusal-in-Err
returns-in_ok-write_refusal-in-Err g c =
    let m = g.R.Real in
    let f = c.args.factors.now in
    no_number m.format f.size (map m.val (vec_items f.lu)) (vec_items f.order) f.taken.0 (left c.args.words.now) (left c.read_numbers.new.words)
    (vec_items c.args.out.now) (vec_items c.write_refusal-in-Err.new.out) c.in-Err.refusal (c.in-Err.ensures.numbers (λ e. search rules)) c.in_ok-write_refusal-in-Err.ensures
