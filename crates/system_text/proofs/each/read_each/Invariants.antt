use Rattle.std.proofs.Common.{vec_items}
use Rattle.std.specs.Fn.{FnReturnsAt}
use Rattle.system_text.specs.Left.{left}
use Rattle.system_text.proofs.OneByOne.{ReadTo}
use Rattle.system_text.proofs.each.read_each.Given as goal

abbrev pub invariant-loop : goal.invariant-loop
invariant-loop g l = ReadTo (FnReturnsAt g.F.Fn l.read) l.most (left l.fn.words) (left l.words) (vec_items l.items) l.counter
