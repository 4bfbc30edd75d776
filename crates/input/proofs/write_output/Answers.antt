use Rattle.std.proofs.Common.{subst}
use Rattle.std.specs.Io.KnownBytes.{Appends}
use Rattle.input.proofs.write_output.Goals as goal

pub returns : goal.returns
returns g c =
    let w = g.W.Write in
    (c.in_ok-answer.answer, c.in_ok-answer.ensures, subst (Appends (w.contents c.args.out.now) (w.contents c.write_all.new.self)) c.deref.ensures.value c.in_ok-write_all.ensures.bytes)
