use Rattle.std.proofs.Common.{◌≡◌, ◌≤◌, drop}
use Rattle.system_text.proofs.Saturated.{read_from}
use Rattle.system_text.proofs.whole.read_whole.Given as goal

abbrev pub invariant-loop-byte : goal.invariant-loop-byte
invariant-loop-byte l = (read_from l.number (drop l.byte-index l.word) ≡ read_from 0 l.word) × (l.number ≤ 65535)
