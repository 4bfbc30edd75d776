use Rattle.std.proofs.Common.{vec_items}
use Rattle.system_text.proofs.Lines.{numbers_next, numbers_end}
use Rattle.system_text.proofs.write.write_numbers.Goals as goal

pub loop-x-preserved : goal.loop-x-preserved
loop-x-preserved g c =
    numbers_next g.R.Real.val c.args.numbers.now (vec_items c.loop-x.out) (vec_items c.write_value.new.out) (vec_items c.push.new.self) _ c.loop-x.x-index c.x-item.result
    c.loop-x-test.true c.x-item.is c.in_ok-write_value.ensures c.in_ok-push.ensures.items c.loop-x.invariant

pub returns : goal.returns
returns g c = numbers_end g.R.Real.val c.args.numbers.now (vec_items c.loop-x.out) _ c.loop-x.x-index c.loop-x-test.false c.loop-x.invariant
