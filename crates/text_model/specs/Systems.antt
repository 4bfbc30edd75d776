-- What the text of a system says, and which texts are refused: the head, `system` or `system32` and the size, and then
-- the rows, each with its right side.
use Rattle.std.specs.Prelude.{ℕ, zero, suc, ◌+◌, ◌*◌, Bool, cond, ◌&&◌, List, [], ◌∷◌, ◌++◌, length, take, drop, Some, None, Ok, Err, codes, Option, Result, ◌==◌, nat_lt}
use Rattle.std.specs.Float.{Format, binary32, binary64}
use Rattle.std.specs.Str.Parse.{digits_value}
use Rattle.std.specs.Str.{bytes_eq}
use Rattle.element.specs.Matrix.{Row, at}
use Rattle.element.specs.Multiply.{size_taken}
use Rattle.number_text.specs.Number.{digits_below, number_of, and_then}
use Rattle.text_model.specs.declared.Precision.{Precision}
use Rattle.text_model.specs.declared.Precision.TheVariants.{Double, Single}
use Rattle.text_model.specs.declared.TextRefusal.{TextRefusal}
use Rattle.text_model.specs.declared.TextRefusal.TheVariants.{Size, Form, Count}
use Rattle.text_model.specs.Words.{Word, words_of}

-- the length of the longest text that is read, 16 MiB
abbrev pub longest : ℕ
longest = 16777216

abbrev pub format : Precision → Format
format Double = binary64
format Single = binary32

-- ---- the head: the first word names the format, the second is the size
pub record Head : Type 0 where
  pub precision : Precision
  pub size : ℕ
  pub rest : List Word

abbrev pub precision_of : Word → Word → Option Precision
precision_of name w = cond (bytes_eq w name) (Some Double) (cond (bytes_eq w (name ++ codes "32")) (Some Single) None)

-- decimal digits and nothing else
abbrev pub is_whole : Word → Bool
is_whole w = nat_lt 0 (length w) && digits_below 10 w

abbrev pub size_of : Word → Result ℕ TextRefusal
size_of w = cond (is_whole w) (cond (size_taken (digits_value 10 w)) (Ok (digits_value 10 w)) (Err Size)) (Err Form)

abbrev pub sized : Precision → List Word → Result ℕ TextRefusal → Result Head TextRefusal
sized p ws (Ok n) = Ok (record { precision = p; size = n; rest = ws })
sized p ws (Err e) = Err e

abbrev pub named : Option Precision → List Word → Result Head TextRefusal
named None ws = Err Form
named (Some p) [] = Err Form
named (Some p) (w ∷ ws) = sized p ws (size_of w)

abbrev pub head_of : Word → List Word → Result Head TextRefusal
head_of name [] = Err Form
head_of name (w ∷ ws) = named (precision_of name w) ws

-- the head of a text that is not too long
abbrev pub text_head : Word → List ℕ → Result Head TextRefusal
text_head name t = cond (nat_lt longest (length t)) (Err Size) (head_of name (words_of t))

-- ---- what words are one by one, if each is something
unfoldable pub all_of : {A : Type 0} → (Word → Option A) → List Word → Option (List A)
all_of one [] = Some []
all_of one (w ∷ ws) = and_then (one w) (λ x. and_then (all_of one ws) (λ xs. Some (x ∷ xs)))

-- numbers of the format
abbrev pub numbers_of : Format → List Word → Option Row
numbers_of f ws = all_of (number_of f) ws

-- ---- a system: its entries lie row by row, each row's last being its right side
pub record System : Type 0 where
  pub precision : Precision
  pub size : ℕ
  pub entries : Row

abbrev pub counted : Precision → ℕ → Option Row → Result System TextRefusal
counted p n None = Err Form
counted p n (Some xs) = cond (length xs == n * (n + 1)) (Ok (record { precision = p; size = n; entries = xs })) (Err Count)

abbrev pub system_after : Result Head TextRefusal → Result System TextRefusal
system_after (Ok h) = counted h.precision h.size (numbers_of (format h.precision) h.rest)
system_after (Err e) = Err e

abbrev pub system_of : List ℕ → Result System TextRefusal
system_of t = system_after (text_head (codes "system") t)

-- the matrix and the right side of r rows of n + 1 entries
unfoldable pub coefficients : ℕ → ℕ → Row → Row
coefficients zero n xs = []
coefficients (suc r) n xs = take n xs ++ coefficients r n (drop (n + 1) xs)

unfoldable pub right_side : ℕ → ℕ → Row → Row
right_side zero n xs = []
right_side (suc r) n xs = at xs n ∷ right_side r n (drop (n + 1) xs)

abbrev pub matrix_in : System → Row
matrix_in s = coefficients s.size s.size s.entries

abbrev pub right_side_in : System → Row
right_side_in s = right_side s.size s.size s.entries
