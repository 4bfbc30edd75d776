use Rattle.std.proofs.Common.{sym, ◌∙◌, arith}
use Rattle.triangular.proofs.Sound.{once-next, once_large, once_twice, once_end}
use Rattle.triangular.proofs.checks.is_permutation.Goals.{then-from-n-via-then-from-n, then-from-n-via-else-from-n+then-contains}
use Rattle.triangular.proofs.checks.is_permutation.Goals as goal

pub returns-then-from-n : goal.returns-then-from-n
returns-then-from-n c =
    let left = c.loop-left.left.now in
    elim c.then-from-n.branch [
      | then-from-n-via-then-from-n w ↦ once_large c.args.n left c.in-len1-up.len_at_least (omega arith) ∙ c.loop-left.invariant
      | then-from-n-via-else-from-n+then-contains w ↦ once_twice c.args.n left c.in-len1-up.len_at_least (sym w.contains.ensures.value ∙ w.if-contains.true) ∙ c.loop-left.invariant
    ]

pub loop-left-preserved : goal.loop-left-preserved
loop-left-preserved c = once-next c.args.n c.loop-left.left.now c.in-len1-up.len_at_least (omega arith) (sym c.contains.ensures.value ∙ c.if-contains.false) ∙ c.loop-left.invariant

pub returns : goal.returns
returns c = sym (once_end c.args.n c.loop-left.left.now c.in_default.len_below) ∙ c.loop-left.invariant
