use Rattle.std.proofs.Common.{◌+◌, take, Err, vec_items, sym, refl, ap, ◌∙◌, subst, arith}
use Rattle.std.specs.Fn.{FnReturnsAt}
use Rattle.std.proofs.lemmas.Result.{err_from_is_err_and}
use Rattle.system_text.specs.Left.{left}
use Rattle.system_text.specs.Each.{EachRead}
use Rattle.system_text.proofs.OneByOne.{ReadTo, read-begun, read_word, read_bad, read_all, read_end}
use Rattle.system_text.proofs.each.read_each.Goals as goal
use Rattle.system_text.proofs.each.read_each.Goals.{else-loop-test, then-loop-test+in_default}

pub loop-init : goal.loop-init
loop-init g c =
    let R = FnReturnsAt g.F.Fn c.args.read in
    let start = left c.args.words.now in
    subst (λ xs. ReadTo R c.args.most start start xs 0) (sym c.new-items.ensures.items) (read-begun R c.args.most start)

pub loop-preserved : goal.loop-preserved
loop-preserved g c =
    let l = c.loop in
    read_word (FnReturnsAt g.F.Fn c.args.read) c.args.most (left c.args.words.now) (left l.words) (left c.next.new.self) (vec_items l.items) l.counter c.in-Some.word.now
    l.invariant c.loop-test.true c.in-Some.ensures.steps (vec_items c.push.new.self) (l.counter + 1) _ (record { shown = c.in-Some.word; shows = refl; says = record { met = c.in_ok-read.ensures } }) c.in_ok-push.ensures.items refl

pub returns-in_err-read-clause-each : goal.returns-in_err-read-clause-each
returns-in_err-read-clause-each g c =
    let p = err_from_is_err_and c.from_residual.result c.from_residual.ensures.1 in
    let R = FnReturnsAt g.F.Fn c.args.read in
    let l = c.loop in
    let w = c.in-Some.word in
    subst (EachRead R (take c.args.most (left c.args.words.now))) (sym (p.1 ∙ ap Err p.2)) (record {
      items = tt;
      refusal = λ _. (
        w.now,
        read_bad R c.args.most (left c.args.words.now) (left l.words) (left c.next.new.self) (vec_items l.items) l.counter w.now l.invariant c.loop-test.true c.in-Some.ensures.steps,
        record { shown = w; shows = refl; says = record { met = c.in_err-read.ensures } },
      );
    })

pub returns : goal.returns
returns g c =
    let R = FnReturnsAt g.F.Fn c.args.read in
    let l = c.loop in
    let start = left c.args.words.now in
    elim c.loop-test.branch [
      | else-loop-test w ↦
          let p = read_all R c.args.most start (left l.words) (vec_items l.items) l.counter l.invariant (omega (arith, w.loop-test.false)) in
          record { each = record { items = p.0; refusal = tt }; rest = ap left w.words-is ∙ p.1 }
      | then-loop-test+in_default w ↦
          let none = w.in_default.ensures.steps in
          let p = read_end R c.args.most start (left l.words) (vec_items l.items) l.counter l.invariant none.0 in
          record { each = record { items = p.0; refusal = tt }; rest = ap left w.words-is ∙ none.1 ∙ sym none.0 ∙ p.1 }
    ]
