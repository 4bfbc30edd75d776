use Rattle.std.proofs.Common.{◌+◌, eqb, ltb, length, take, drop, sym, ap, ◌∙◌, arith}
use Rattle.std.proofs.lemmas.Bool.{ltb-false}
use Rattle.std.proofs.lemmas.List.{take_rest, take_all, drop_all}
use Rattle.std.specs.List.{position_or_len}
use Rattle.number_text.proofs.Parts.{before-first, after-first, given_some, given_none}
use Rattle.number_text.proofs.numeral.split_at_byte.Goals as goal

pub returns-in-Some-clause-before : goal.returns-in-Some-clause-before
returns-in-Some-clause-before c =
    let t = c.args.text.now in
    let p = position_or_len (λ b. eqb b c.args.c) t in
    ap (λ n. take n t) (given_some (ltb p (length t)) p c.in-Some.at c.in-Some.ensures).1 ∙ before-first c.args.c t

pub returns-in-Some-clause-after : goal.returns-in-Some-clause-after
returns-in-Some-clause-after c =
    let t = c.args.text.now in
    let p = position_or_len (λ b. eqb b c.args.c) t in
    take_rest t (c.in-Some.at + 1) ∙ ap (λ n. drop (n + 1) t) (given_some (ltb p (length t)) p c.in-Some.at c.in-Some.ensures).1 ∙ after-first c.args.c t

pub returns-in-None-clause-before : goal.returns-in-None-clause-before
returns-in-None-clause-before c =
    let t = c.args.text.now in
    let p = position_or_len (λ b. eqb b c.args.c) t in
    sym (take_all p t (ltb-false p (length t) (given_none (ltb p (length t)) p c.in-None.ensures))) ∙ before-first c.args.c t

pub returns-in-None-clause-after : goal.returns-in-None-clause-after
returns-in-None-clause-after c =
    let t = c.args.text.now in
    let p = position_or_len (λ b. eqb b c.args.c) t in
    let past = ltb-false p (length t) (given_none (ltb p (length t)) p c.in-None.ensures) in
    sym (drop_all (p + 1) t (omega arith)) ∙ after-first c.args.c t
