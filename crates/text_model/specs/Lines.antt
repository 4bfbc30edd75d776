-- The lines that programs print: numbers one a line, and words of a line with one space between them.
use Rattle.std.specs.Prelude.{ℕ, List, [], ◌∷◌, ◌++◌, map, codes}
use Rattle.element.specs.Matrix.{Row, Matrix, matrix}
use Rattle.number_text.specs.Printed.{printed}
use Rattle.text_model.specs.declared.Precision.{Precision}
use Rattle.text_model.specs.declared.Precision.TheVariants.{Double, Single}
use Rattle.text_model.specs.Words.{Word}
use Rattle.text_model.specs.Refusals.{decimal}

unfoldable pub number_lines : Row → List ℕ
number_lines [] = []
number_lines (x ∷ xs) = printed x ++ 10 ∷ number_lines xs

abbrev pub answer : Row → List ℕ
answer xs = codes "answer" ++ 10 ∷ number_lines xs

-- the words after the first of a line, and its end
unfoldable pub line_after : List Word → List ℕ
line_after [] = 10 ∷ []
line_after (w ∷ ws) = 32 ∷ w ++ line_after ws

abbrev pub line : List Word → List ℕ
line [] = 10 ∷ []
line (w ∷ ws) = w ++ line_after ws

unfoldable pub row_lines : Matrix → List ℕ
row_lines [] = []
row_lines (r ∷ rs) = line (map printed r) ++ row_lines rs

abbrev pub factors_word : Precision → Word
factors_word Double = codes "factors"
factors_word Single = codes "factors32"

-- the text of factors
abbrev pub factors_text : Precision → ℕ → List ℕ → Row → List ℕ
factors_text p n order lu = line (factors_word p ∷ decimal n ∷ []) ++ (line (map decimal order) ++ row_lines (matrix n lu))
