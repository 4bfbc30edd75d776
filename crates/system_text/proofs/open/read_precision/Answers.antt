use Rattle.std.proofs.Common.{◌≡◌, cond, Ok, Err, sym, ap, ◌∙◌}
use Rattle.std.specs.Option.{ok_or}
use Rattle.std.specs.Str.{bytes_eq}
use Rattle.std.proofs.lemmas.Bool.Decides.{Decides-eqb}
use Rattle.std.proofs.lemmas.Result.{err_from_is_err_and}
use Rattle.std.proofs.lemmas.Slice.Eq.{strip_prefix_is}
use Rattle.text_model.specs.declared.Precision.TheVariants.{Double, Single}
use Rattle.text_model.specs.declared.TextRefusal.TheVariants.{Form}
use Rattle.system_text.proofs.Named.{named-after, named-other}
use Rattle.system_text.proofs.open.read_precision.Goals as goal

pub returns-in_err-rest : goal.returns-in_err-rest
returns-in_err-rest c =
    let p = err_from_is_err_and c.from_residual.result c.from_residual.ensures.1 in
    let h = strip_prefix_is Decides-eqb c.args.word.now c.args.name.now c.strip_prefix.result c.strip_prefix.ensures.cases in
    let e = c.in_err-rest.ensures in
    let refused = e.value ∙ ap (λ o. ok_or o Form) e.ok_part in
    let is : c.in_err-rest.field-0.0 ≡ Form = cc in
    p.1 ∙ ap Err (p.2 ∙ is) ∙ sym (named-other c.args.name.now c.args.word.now (rw e.ok_part at h))

pub returns-then-eq : goal.returns-then-eq
returns-then-eq c =
    let h = strip_prefix_is Decides-eqb c.args.word.now c.args.name.now c.strip_prefix.result c.strip_prefix.ensures.cases in
    let r = c.in_ok-rest in
    sym (named-after c.args.name.now c.args.word.now r.rest.now c.is_empty.result c.eq.result (rw r.ensures.ok_part at h) c.is_empty.ensures (c.eq.ensures ∙ ap (bytes_eq r.rest.now) c.as_slice.ensures)
    ∙ ap (λ b. cond b (Ok Double) (cond c.eq.result (Ok Single) (Err Form))) c.if-is_empty.false ∙ ap (λ b. cond b (Ok Single) (Err Form)) c.if-eq.true)

pub returns-else-eq : goal.returns-else-eq
returns-else-eq c =
    let h = strip_prefix_is Decides-eqb c.args.word.now c.args.name.now c.strip_prefix.result c.strip_prefix.ensures.cases in
    let r = c.in_ok-rest in
    sym (named-after c.args.name.now c.args.word.now r.rest.now c.is_empty.result c.eq.result (rw r.ensures.ok_part at h) c.is_empty.ensures (c.eq.ensures ∙ ap (bytes_eq r.rest.now) c.as_slice.ensures)
    ∙ ap (λ b. cond b (Ok Double) (cond c.eq.result (Ok Single) (Err Form))) c.if-is_empty.false ∙ ap (λ b. cond b (Ok Single) (Err Form)) c.if-eq.false)
