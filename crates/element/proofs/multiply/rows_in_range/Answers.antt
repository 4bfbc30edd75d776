use Rattle.std.proofs.Common.{◌≡◌, map, length, sym, ap, ◌∙◌, subst}
use Rattle.std.specs.List.{All}
use Rattle.element.specs.Products.{rows_in_range}
use Rattle.element.specs.Rows.{left}
use Rattle.element.proofs.Rows.{range-next, range_fail, range_end}
use Rattle.element.proofs.Split.{row-lists, next-row}
use Rattle.element.proofs.multiply.rows_in_range.Goals as goal

pub loop-row-init : goal.loop-row-init
loop-row-init g c =
    let m = g.R.Real in
    let a = c.args.a.now in
    let made = ap left c.into_iter-row-iterator.ensures.into_iter_gives in
    let x = map m.val c.args.x.now in (
      subst (All (λ row. length row ≡ a.size)) (sym made) c.rows-row-items.ensures.len,
      ap (λ rows. rows_in_range m.format (map (map m.val) rows) x) (made ∙ c.rows-row-items.ensures.rows) ∙ ap (λ rs. rows_in_range m.format rs x) (row-lists m.val a.size a.size a.entries.now),
    )

pub sum_in_range-requires : goal.sum_in_range-requires
sum_in_range-requires g c = (next-row c.args.a.now.size c.in-Some.ensures.steps c.loop-row.invariant.0).0 ∙ sym c.requires

pub returns-then-not-sum_in_range : goal.returns-then-not-sum_in_range
returns-then-not-sum_in_range g c =
    let m = g.R.Real in
    sym (range_fail m.val m.format (map m.val c.args.x.now) c.in-Some.ensures.steps c.loop-row.invariant.1 (sym c.if-not-sum_in_range.ensures))

pub loop-row-preserved : goal.loop-row-preserved
loop-row-preserved g c =
    let m = g.R.Real in (
      (next-row c.args.a.now.size c.in-Some.ensures.steps c.loop-row.invariant.0).1,
      range-next m.val m.format (map m.val c.args.x.now) c.in-Some.ensures.steps c.loop-row.invariant.1 (sym c.if-not-sum_in_range.ensures),
    )

pub returns : goal.returns
returns g c =
    let m = g.R.Real in
    sym (range_end m.val m.format (map m.val c.args.x.now) c.in-None.ensures.steps.0 c.loop-row.invariant.1)
