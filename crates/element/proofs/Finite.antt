-- Whether a row of products is in range, as its loop finds it: each product not below range, and the last sum or difference finite.
-- What is finite has finite operands, so then everything before it is finite.
use Rattle.std.proofs.Common.{◌≡◌, suc, Bool, true, false, ◌&&◌, ◌||◌, T, eqb, List, [], ◌∷◌, map, length, sym, refl, ap, ◌∙◌, subst, ap₂, arith}
use mathlib.Core.Bool.{and_assoc, and-true}
use lib.Ieee.{Float, nan, inf, fin, Format, add, sub, mul}
use lib.Ieee.Bits.{is_true}
use lib.Ieee.Scale.{finite}
use Rattle.std.proofs.lemmas.List.{length-map}
use Rattle.std.proofs.lemmas.Bool.{ne_eqb, and_right}
use Rattle.exact.specs.Value.{is_zero}
use Rattle.exact.specs.Range.{in_range, product_in_range}
use Rattle.exact.proofs.Operands.{sum_operands, difference_operands}
use Rattle.element.specs.Matrix.{Row, zero_float}
use Rattle.element.specs.Products.{not_below_range, run, run_passes, subtract_product, subtract_products, subtractions_in_range, add_product, sum_products, sum_in_range}

-- ---- rows
-- what the loop looks at in each step, whatever s is
abbrev pub product_passes : Format → Float → Float → Float → Bool
product_passes f s x y = is_zero x || is_zero y || not_below_range f (mul f x y)

finite-passes : (f : Format) (q : Float) → T (finite q) → in_range f q ≡ not_below_range f q
finite-passes f nan t = absurd t
finite-passes f (inf s) t = absurd t
finite-passes f (fin s m e) t = refl

-- e is that the last value is finite, and r the tests of the products but the first; p is the range of the first, and q its test
gathered : (a p q r e : Bool) → (e ≡ true → (a ≡ true) × (p ≡ q)) → (a && (p && (r && e))) ≡ ((q && r) && e)
gathered a p q r true h = ap₂ (λ b c. b && (c && (r && true))) (h refl).0 (h refl).1 ∙ sym (and_assoc q r true)
gathered a p q r false h =
    and_right a (p && (r && false)) (and_right p (r && false) (and_right r false refl)) ∙ sym (and_right (q && r) false refl)

module _ (f : Format) (op : Float → Float → Float) (operands : (x y : Float) → T (finite (op x y)) → T (finite x) × T (finite y)) where
  abbrev step : Float → Float → Float → Float
  step s x y = op s (mul f x y)

  abbrev step_in_range : Float → Float → Float → Bool
  step_in_range s x y = product_in_range f x y && finite (step s x y)

  abbrev passes : Float → Row → Row → Bool
  passes = run_passes (product_passes f) step

  -- a run that ends finite began so
  finite_start : (s : Float) (xs ys : Row) → T (finite (run step s xs ys)) → T (finite s)
  unfolding run
  finite_start s [] ys t = t
  finite_start s (x ∷ xs) [] t = t
  finite_start s (x ∷ xs) (y ∷ ys) t = (operands s (mul f x y) (finite_start (step s x y) xs ys t)).0

  -- then the first step has finite operands
  first : (s x y : Float) (xs ys : Row) → finite (run step (step s x y) xs ys) ≡ true → (finite s ≡ true) × (product_in_range f x y ≡ product_passes f s x y)
  first s x y xs ys e =
      let both = operands s (mul f x y) (finite_start (step s x y) xs ys (subst T (sym e) tt)) in
      (is_true _ both.0, ap (λ b. is_zero x || is_zero y || b) (finite-passes f (mul f x y) both.1))

  run-range : (s : Float) (xs ys : Row) → (finite s && run_passes step_in_range step s xs ys) ≡ (passes s xs ys && finite (run step s xs ys))
  unfolding run run_passes
  run-range s [] ys = and-true (finite s)
  run-range s (x ∷ xs) [] = and-true (finite s)
  run-range s (x ∷ xs) (y ∷ ys) =
      let s' = step s x y in
      let p = product_in_range f x y in
      ap (λ b. finite s && b) (and_assoc p (finite s') (run_passes step_in_range step s' xs ys) ∙ ap (λ b. p && b) (run-range s' xs ys))
      ∙ gathered (finite s) p (product_passes f s x y) (passes s' xs ys) (finite (run step s' xs ys)) (first s x y xs ys)

  -- of a row that is not empty, whatever it begins with
  row-range : (s x y : Float) (xs ys : Row) → run_passes step_in_range step s (x ∷ xs) (y ∷ ys) ≡ (passes s (x ∷ xs) (y ∷ ys) && finite (run step s (x ∷ xs) (y ∷ ys)))
  unfolding run run_passes
  row-range s x y xs ys =
      let s' = step s x y in
      let p = product_in_range f x y in
      and_assoc p (finite s') (run_passes step_in_range step s' xs ys) ∙ ap (λ b. p && b) (run-range s' xs ys)
      ∙ gathered true p (product_passes f s x y) (passes s' xs ys) (finite (run step s' xs ys)) (λ e. (refl, (first s x y xs ys e).1))

subtractions_range : (f : Format) (s : Float) (xs ys : Row) → length xs ≡ length ys
    → subtractions_in_range f s xs ys ≡ (run_passes (product_passes f) (subtract_product f) s xs ys && (eqb (length xs) 0 || finite (subtract_products f s xs ys)))
unfolding run_passes
subtractions_range f s [] ys h = refl
subtractions_range f s (x ∷ xs) [] h = absurd (omega arith)
subtractions_range f s (x ∷ xs) (y ∷ ys) h =
    row-range f (sub f) (difference_operands f) s x y xs ys
    ∙ ap (λ b. run_passes (product_passes f) (subtract_product f) s (x ∷ xs) (y ∷ ys) && (b || finite (subtract_products f s (x ∷ xs) (y ∷ ys)))) (sym (ne_eqb (suc (length xs)) 0 (λ e. omega arith)))

pub sum-range : (f : Format) (xs ys : Row) → sum_in_range f xs ys ≡ (run_passes (product_passes f) (add_product f) zero_float xs ys && finite (sum_products f xs ys))
sum-range f xs ys = run-range f (add f) (sum_operands f) zero_float xs ys

-- the same as the loop over the slices a and b leaves it
pub subtractions_found : {X : Type 0} (v : X → Float) (f : Format) (s : Float) (a b : List X) (passed empty fine : Bool) → length a ≡ length b
    → passed ≡ run_passes (product_passes f) (subtract_product f) s (map v a) (map v b) → empty ≡ eqb (length a) 0 → fine ≡ finite (subtract_products f s (map v a) (map v b))
    → subtractions_in_range f s (map v a) (map v b) ≡ (passed && (empty || fine))
subtractions_found v f s a b passed empty fine h p q r =
    subtractions_range f s (map v a) (map v b) (length-map a v ∙ h ∙ sym (length-map b v))
    ∙ sym (ap₂ ◌&&◌ p (ap₂ ◌||◌ (q ∙ ap (λ k. eqb k 0) (sym (length-map a v))) r))
