use Rattle.std.proofs.Common.{◌<◌, Ok, Err, refl, ap, ◌∙◌, arith}
use Rattle.std.proofs.lemmas.Result.{err_from_is_err_and}
use Rattle.factor.specs.State.{state}
use Rattle.factor.proofs.Steps.{columns-refused}
use Rattle.factor.proofs.factoring.Factoring.eliminate_columns.Goals as goal

pub returns-in_err-eliminate_column-clause-columns : goal.returns-in_err-eliminate_column-clause-columns
returns-in_err-eliminate_column-clause-columns g c =
    let real = g.R.Real in
    let given = c.args.self.now in
    let p = err_from_is_err_and c.from_residual.result c.from_residual.ensures.1 in
    let hk : c.loop-k.k < given.size = omega arith in
    ap (state real.val c.eliminate_column.new.self) (p.1 ∙ ap Err p.2)
    ∙ columns-refused real.format (state real.val given (Ok tt)) given.size c.loop-k.k (state real.val c.loop-k.self (Ok tt)) _ hk c.loop-k.invariant.columns c.in_err-eliminate_column.ensures.column refl
