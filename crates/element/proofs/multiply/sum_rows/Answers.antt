use Rattle.std.proofs.Common.{◌+◌, ◌<◌, ◌≤◌, [], ◌∷◌, ◌++◌, map, length, take, sym, ap, ◌∙◌, subst, arith}
use Rattle.std.proofs.lemmas.List.{take_all}
use Rattle.element.specs.Matrix.{matrix}
use Rattle.element.specs.Products.{sum_products, sum_rows}
use Rattle.element.proofs.Rows.{SumsTo, row-values, sums_next, sums_end, written}
use Rattle.element.proofs.multiply.sum_rows.Goals as goal

pub loop-i-preserved : goal.loop-i-preserved
loop-i-preserved g c =
    let m = g.R.Real in
    let a = map m.val c.args.a.now.entries.now in
    let x = map m.val c.args.x.now in
    let y = c.loop-i.y in
    let i = c.loop-i.i in
    let within : i < length y = omega arith in
    let row = row-values m.val c.args.a.now.size i c.args.a.now.entries.now c.row.result.now c.row.ensures.entries in
    let sum = c.sum_products.ensures ∙ ap (λ r. sum_products m.format r x) row in
    let done = written m.val y i c.sum_products.result within ∙ ap (λ s. map m.val (take i y) ++ s ∷ []) sum in
    subst (λ d. SumsTo m.format c.args.a.now.size a x d (i + 1) (sum_rows m.format (matrix c.args.a.now.size a) x)) (sym done) (sums_next m.format c.args.a.now.size a x (map m.val (take i y)) i _ (omega arith) c.loop-i.invariant)

pub returns : goal.returns
returns g c =
    let m = g.R.Real in
    let long : length c.loop-i.y ≤ c.loop-i.i = omega arith in
    sym (ap (map m.val) (take_all c.loop-i.i c.loop-i.y long))
    ∙ sums_end m.format c.args.a.now.size (map m.val c.args.a.now.entries.now) (map m.val c.args.x.now) _ c.loop-i.i _ (omega arith) c.loop-i.invariant
