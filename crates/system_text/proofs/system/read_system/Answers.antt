use Rattle.std.proofs.Common.{◌+◌, ◌*◌, not, ◌||◌, eqb, map, Err, vec_items, sym, ap, ◌∙◌}
use lib.ListN.{length-map}
use Rattle.std.proofs.lemmas.Result.{err_from_is_err_and}
use Rattle.number_text.specs.Number.{number_of}
use Rattle.text_model.specs.Systems.{all_of}
use Rattle.system_text.specs.Left.{left}
use Rattle.system_text.specs.Read.{formed, any_of}
use Rattle.system_text.proofs.Counted.{first_bad, rest_bad, count_bad, count-good}
use Rattle.system_text.proofs.Refused.{refused}
use Rattle.system_text.proofs.system.read_system.Goals as goal

pub returns-in_err-entries-clause-entries : goal.returns-in_err-entries-clause-entries
returns-in_err-entries-clause-entries g c =
    let p = err_from_is_err_and c.from_residual.result c.from_residual.ensures.1 in
    let h = c.args.head in
    let e = c.in_err-entries.field-0.0 in
    refused _ _ _ e (p.1 ∙ ap Err p.2) (λ n. first_bad (number_of g.R.Real.format) h.precision h.size (left c.args.words.now) e (c.in_err-entries.ensures.numbers n))

pub returns-in_err-more-clause-entries : goal.returns-in_err-more-clause-entries
returns-in_err-more-clause-entries g c =
    let one = number_of g.R.Real.format in
    let p = err_from_is_err_and c.from_residual-in_err-more.result c.from_residual-in_err-more.ensures.1 in
    let h = c.args.head in
    let e = c.in_err-more.field-0.0 in
    refused _ _ _ e (p.1 ∙ ap Err p.2) (λ _. rest_bad one h.precision h.size (left c.args.words.now) e
    (ap (λ ws. formed (any_of (all_of one ws))) (sym c.in_ok-entries.ensures.rest) ∙ sym c.in_err-more.ensures))

pub returns-then-more-len-clause-entries : goal.returns-then-more-len-clause-entries
returns-then-more-len-clause-entries g c =
    let m = g.R.Real in
    let h = c.args.head in
    let v = c.in_ok-entries.entries in
    λ _. count_bad (number_of m.format) h.precision h.size (left c.args.words.now) (map m.val (vec_items v)) c.in_ok-more.more
    c.in_ok-entries.ensures.numbers
    (ap (λ ws. formed (any_of (all_of (number_of m.format) ws))) (sym c.in_ok-entries.ensures.rest) ∙ sym c.in_ok-more.ensures)
    (ap (λ i. c.in_ok-more.more || not (eqb i (h.size * (h.size + 1)))) (length-map (vec_items v) m.val ∙ sym (c.len.ensures ∙ v.ok.0)) ∙ c.if-more-len.true)

pub returns-clause-entries : goal.returns-clause-entries
returns-clause-entries g c =
    let m = g.R.Real in
    let h = c.args.head in
    let v = c.in_ok-entries.entries in
    count-good (number_of m.format) h.precision h.size (left c.args.words.now) (map m.val (vec_items v)) c.in_ok-more.more
    c.in_ok-entries.ensures.numbers
    (ap (λ ws. formed (any_of (all_of (number_of m.format) ws))) (sym c.in_ok-entries.ensures.rest) ∙ sym c.in_ok-more.ensures)
    (ap (λ i. c.in_ok-more.more || not (eqb i (h.size * (h.size + 1)))) (length-map (vec_items v) m.val ∙ sym (c.len.ensures ∙ v.ok.0)) ∙ c.if-more-len.false)
