use Rattle.std.proofs.Common.{◌≡◌}
use Rattle.text_model.specs.Systems.{numbers_of}
use Rattle.system_text.specs.Left.{left}
use Rattle.system_text.specs.Read.{any_of}
use Rattle.system_text.proofs.All.{any_more}
use Rattle.system_text.proofs.numbers.surplus.Given as goal

abbrev pub invariant-loop-word : goal.invariant-loop-word
invariant-loop-word g l = let f = g.R.Real.format in any_more l.any (numbers_of f (left l.word-iterator)) ≡ any_of (numbers_of f (left l.initial.word-iterator))
