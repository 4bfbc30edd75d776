use Rattle.std.proofs.Common.{◌≡◌, true, is_ok, OnOk, Ok, Err, Result, rules, true≢false}
use Rattle.model.specs.Factor.{factored}
use Rattle.factor.specs.Slices.{matrix_of, factoring_of}
use Rattle.factor.proofs.Outcome.{factored-from}
use Rattle.factor.proofs.factor.factor_into.Goals as goal

answer : {A E : Type 0} (P : Type 0) (r : Result A E) → true ≡ is_ok r → OnOk r P → P
answer P (Ok x) e p = p
answer P (Err x) e p = absurd (true≢false e)

pub returns-then-is_ok : goal.returns-then-is_ok
returns-then-is_ok g c =
    let real = g.R.Real in
    let n = c.args.n in
    let begun = c.begin in
    let done = c.clear_columns in
    let full : factoring_of real.val n done.new.self.entries.now done.new.self.order.now (Ok tt) ≡ factored real.format (matrix_of real.val n c.args.a.now) =
    factored-from real.val real.format n begun.result.size done.new.self.size c.args.a.now begun.result.entries.now done.new.self.entries.now begun.result.order.now done.new.self.order.now (Ok tt)
    begun.ensures.size begun.ensures.entries begun.ensures.order done.ensures.lends.0 (answer _ done.result c.if-is_ok.ensures.value done.ensures.columns) in
    search rules

pub returns : goal.returns
returns g c =
    let real = g.R.Real in
    let n = c.args.n in
    let begun = c.begin-2 in
    let done = c.eliminate_columns in
    let full : factoring_of real.val n done.new.self.entries.now done.new.self.order.now done.result ≡ factored real.format (matrix_of real.val n c.args.a.now) =
    factored-from real.val real.format n begun.result.size done.new.self.size c.args.a.now begun.result.entries.now done.new.self.entries.now begun.result.order.now done.new.self.order.now done.result
    begun.ensures.size begun.ensures.entries begun.ensures.order done.ensures.lends.0 done.ensures.columns in
    search rules
