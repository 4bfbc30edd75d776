use Rattle.std.proofs.Common.{ℕ, ◌*◌, Bool, not, ◌||◌, eqb, map, length, take, drop, Ok, vec_items, sym, ap, ◌∙◌}
use lib.ListN.{length-map}
use Rattle.text_model.specs.Systems.{numbers_of}
use Rattle.text_model.specs.Factors.{places_of}
use Rattle.system_text.specs.Left.{left}
use Rattle.system_text.specs.Read.{formed, head_read, factors_read}
use Rattle.system_text.proofs.Counted.{complete_short, complete-read}
use Rattle.system_text.proofs.factors.read_factors.Goals as goal

-- the tests of the two counts
abbrev short : ℕ → ℕ → ℕ → Bool
short n i j = not (eqb i n) || not (eqb j (n * n))

pub returns-then-len-head-clause-factors : goal.returns-then-len-head-clause-factors
returns-then-len-head-clause-factors g c =
    let m = g.R.Real in
    let n = c.args.head.size in
    let ws = left c.args.words.now in
    let o = c.in_ok-order.order in
    let l = c.in_ok-lu.lu in
    λ _. complete_short (head_read ws c.args.head) (places_of (take n ws)) (numbers_of m.format (take (n * n) (drop n ws))) (vec_items o) (map m.val (vec_items l))
    c.in_ok-order.ensures.places (sym (ap (λ v. formed (numbers_of m.format (take (n * n) v))) c.in_ok-order.ensures.rest) ∙ c.in_ok-lu.ensures.numbers)
    (sym (ap (λ i. short n i c.len-2.result) (c.len.ensures ∙ o.ok.0) ∙ ap (short n (length (vec_items o))) (c.len-2.ensures ∙ l.ok.0 ∙ sym (length-map (vec_items l) m.val))) ∙ c.if-len-head.true)

pub returns-clause-factors : goal.returns-clause-factors
returns-clause-factors g c =
    let m = g.R.Real in
    let n = c.args.head.size in
    let ws = left c.args.words.now in
    let o = c.in_ok-order.order in
    let l = c.in_ok-lu.lu in
    complete-read (head_read ws c.args.head) (places_of (take n ws)) (numbers_of m.format (take (n * n) (drop n ws))) (vec_items o) (map m.val (vec_items l))
    c.in_ok-order.ensures.places (sym (ap (λ v. formed (numbers_of m.format (take (n * n) v))) c.in_ok-order.ensures.rest) ∙ c.in_ok-lu.ensures.numbers)
    (sym (ap (λ i. short n i c.len-2.result) (c.len.ensures ∙ o.ok.0) ∙ ap (short n (length (vec_items o))) (c.len-2.ensures ∙ l.ok.0 ∙ sym (length-map (vec_items l) m.val))) ∙ c.if-len-head.false)
    ∙ ap (λ r. Ok (factors_read m.val c.args.head (vec_items o) (vec_items l) r)) (sym (c.in_ok-lu.ensures.rest ∙ ap (drop (n * n)) c.in_ok-order.ensures.rest))
