-- What is read out of the slice in which a matrix lies row by row, and out of a part of a slice. v is what an element is as a float.
use Rattle.std.proofs.Common.{◌≡◌, ℕ, ◌-◌, ◌*◌, ◌<◌, List, map, length, get_or, take, drop, sym, ap, ◌∙◌, arith}
use lib.Ieee.{Float}
use Rattle.std.proofs.lemmas.List.{get_or-map, length-drop, take_all}
use Rattle.element.specs.Matrix.{at, zero_float}
use Rattle.element.proofs.Rows.{row-values}

-- entry j of row i
pub entry_value : {X : Type 0} (v : X → Float) (n i j : ℕ) (xs r : List X) (x : X) → r ≡ take n (drop (i * n) xs) → length r ≡ n → j < n → x ≡ get_or r j x → at (take n (drop (i * n) (map v xs))) j ≡ v x
entry_value v n i j xs r x e l h is = ap (λ ys. at ys j) (sym (row-values v n i xs r e)) ∙ get_or-map v r j x zero_float (omega arith) ∙ ap v (sym is)

-- what a slice from place j on holds
abbrev pub from : {X : Type 0} → ℕ → List X → List X
from j xs = take (length xs - j) (drop j xs)

pub from-is : {X : Type 0} (j : ℕ) (xs : List X) → from j xs ≡ drop j xs
from-is j xs = take_all (length xs - j) (drop j xs) (omega (arith, length-drop j xs))
