use Rattle.std.proofs.Common.{◌-◌, ◌∷◌, length, sym, ap, ◌∙◌, ap₂, arith}
use Rattle.element.specs.Rows.{split_rows}
use Rattle.element.proofs.Split.{no-rows, first-row}
use Rattle.element.proofs.iteration.MatrixRowsIterator.next.Goals as goal

pub returns-then-self-eq0-clause-steps : goal.returns-then-self-eq0-clause-steps
returns-then-self-eq0-clause-steps g c =
    let it = c.args.self.now in
    let none = no-rows it.count it.size it.entries.now (omega (arith, c.if-self-eq0.true)) in
    (none, none)

pub returns-clause-steps : goal.returns-clause-steps
returns-clause-steps g c =
    let it = c.args.self.now in
    first-row it.count it.size it.entries.now (omega (arith, c.if-self-eq0.false)) ∙ ap₂ (λ row rest. row ∷ split_rows (it.count - 1) it.size rest) (sym c.split_at.ensures.front) (sym c.split_at.ensures.back)

pub returns-clause-goes : goal.returns-clause-goes
returns-clause-goes g c =
    let less = ap length (returns-clause-steps g c) in
    record { on = λ f. (tt, tt, omega (arith, less)); keeps = tt; rests = λ f. tt }
