-- The words of a text, which is a list of bytes: what stands between separators.
use Rattle.std.specs.Prelude.{ℕ, Bool, cond, ◌||◌, List, [], ◌∷◌, ◌++◌, ◌==◌}

abbrev pub Word : Type 0
Word = List ℕ

-- space, tab, carriage return and line feed
abbrev pub separator : ℕ → Bool
separator b = b == 32 || b == 9 || b == 13 || b == 10

-- a word that has ended, before those that follow; where separators meet there is none
abbrev pub ended : Word → List Word → List Word
ended [] ws = ws
ended (b ∷ w) ws = (b ∷ w) ∷ ws

-- of the text that follows the first bytes w of a word
unfoldable pub words_after : Word → List ℕ → List Word
words_after w [] = ended w []
words_after w (b ∷ bs) = cond (separator b) (ended w (words_after [] bs)) (words_after (w ++ b ∷ []) bs)

abbrev pub words_of : List ℕ → List Word
words_of t = words_after [] t
