use Rattle.std.proofs.Common.{◌≡◌, Ok}
use Rattle.model.specs.Factor.{columns}
use Rattle.factor.specs.State.{state, SameSlices}
use Rattle.factor.proofs.factoring.Factoring.eliminate_columns.Given as goal

abbrev pub invariant-loop-k : goal.invariant-loop-k
invariant-loop-k g l =
    let real = g.R.Real in
    record {
      columns : state real.val l.self (Ok tt) ≡ columns real.format l.k (state real.val l.initial.self (Ok tt));
      lends : SameSlices l.initial.self l.self;
    }
