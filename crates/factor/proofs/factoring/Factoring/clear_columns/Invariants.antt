use Rattle.std.proofs.Common.{◌≡◌, Ok}
use Rattle.model.specs.Factor.{columns}
use Rattle.factor.specs.State.{state, SameSlices}
use Rattle.factor.specs.Thresholds.{Finite}
use Rattle.factor.proofs.factoring.Factoring.clear_columns.Given as goal

abbrev pub invariant-loop-k : goal.invariant-loop-k
invariant-loop-k g l =
    let real = g.R.Real in
    let now = state real.val l.self (Ok tt) in
    record {
      columns : Finite l.self.size now.rows → now ≡ columns real.format l.k (state real.val l.initial.self (Ok tt));
      lends : SameSlices l.initial.self l.self;
    }
