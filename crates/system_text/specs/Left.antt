-- What a reader of words has left, and how it finds the next word.
use Rattle.std.specs.Prelude.{ℕ, suc, Bool, cond, List, [], ◌∷◌}
use Rattle.std.specs.Bool.{beq}
use Rattle.text_model.specs.Words.{Word, separator, words_of}
use Rattle.system_text.specs.declared.words.Words.{Words}

abbrev pub left : Words → List Word
left w = words_of w.rest.now

-- how many bytes a text begins with that are separators, or that are not if s is false
unfoldable pub leading : Bool → List ℕ → ℕ
leading s [] = 0
leading s (b ∷ bs) = cond (beq (separator b) s) (suc (leading s bs)) 0
