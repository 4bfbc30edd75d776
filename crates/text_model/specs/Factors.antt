-- What the text of factors says, and which texts are refused: the head, `factors` or `factors32` and the size, then the
-- order and the rows of the factors. What follows is not looked at here.
use Rattle.std.specs.Prelude.{ℕ, ◌*◌, min, cond, ◌&&◌, List, length, take, drop, Some, None, Ok, Err, codes, Option, Result, ◌==◌}
use Rattle.std.specs.Str.Parse.{digits_value}
use Rattle.element.specs.Matrix.{Row}
use Rattle.text_model.specs.declared.Precision.{Precision}
use Rattle.text_model.specs.declared.TextRefusal.{TextRefusal}
use Rattle.text_model.specs.declared.TextRefusal.TheVariants.{Form, Count}
use Rattle.text_model.specs.Words.{Word}
use Rattle.text_model.specs.Systems.{Head, text_head, format, is_whole, all_of, numbers_of}

-- a place of the order; every number above 65535, which no order has, is read as 65535
abbrev pub place : Word → Option ℕ
place w = cond (is_whole w) (Some (min (digits_value 10 w) 65535)) None

abbrev pub places_of : List Word → Option (List ℕ)
places_of ws = all_of place ws

-- the factors as they lie in one list, and the words after them
pub record Factored : Type 0 where
  pub precision : Precision
  pub size : ℕ
  pub order : List ℕ
  pub lu : Row
  pub rest : List Word

abbrev pub complete : Head → Option (List ℕ) → Option Row → Result Factored TextRefusal
complete h None lu = Err Form
complete h (Some order) None = Err Form
complete h (Some order) (Some lu) =
    let n = h.size in
    cond (length order == n && length lu == n * n)
    (Ok (record { precision = h.precision; size = n; order = order; lu = lu; rest = drop (n * n) (drop n h.rest) }))
    (Err Count)

abbrev pub factors_after : Result Head TextRefusal → Result Factored TextRefusal
factors_after (Ok h) =
    let n = h.size in
    complete h (places_of (take n h.rest)) (numbers_of (format h.precision) (take (n * n) (drop n h.rest)))
factors_after (Err e) = Err e

abbrev pub factors_of : List ℕ → Result Factored TextRefusal
factors_of t = factors_after (text_head (codes "factors") t)
