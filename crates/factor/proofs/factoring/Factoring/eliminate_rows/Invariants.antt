use Rattle.std.proofs.Common.{◌≡◌, Ok}
use Rattle.factor.specs.Slices.{matrix_of}
use Rattle.factor.specs.State.{state, SameSlices, eliminated}
use Rattle.factor.proofs.Elimination.{RowsBecome}
use Rattle.factor.proofs.factoring.Factoring.eliminate_rows.Given as goal

abbrev pub invariant-loop-i : goal.invariant-loop-i
invariant-loop-i g l =
    let real = g.R.Real in
    let given = l.initial.self in
    record {
      rows : RowsBecome real.format l.k l.i (matrix_of real.val given.size l.self.entries.now) (eliminated real.format l.k (state real.val given (Ok tt))).rows;
      order : l.self.order.now ≡ given.order.now;
      lends : SameSlices given l.self;
    }
