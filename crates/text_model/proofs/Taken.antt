-- The matrix and the right side of every system that is read are such as the calls take.
use Rattle.std.proofs.Common.{◌≡◌, ℕ, zero, suc, ◌+◌, ◌*◌, cond, T, eqb, ltb, List, [], ◌∷◌, length, take, drop, IfOk, Some, None, Ok, Err, codes, All, Option, Result, sym, refl, ap, ◌∙◌, subst, arith}
use lib.Ieee.{Format}
use Rattle.std.specs.Str.Parse.{digits_value}
use Rattle.std.proofs.lemmas.List.Elements.{All-nil, All-cons, All-get_or, All-append, All-take, All-drop}
use Rattle.std.proofs.lemmas.List.{length-append, length-drop, length-take-le}
use Rattle.std.proofs.lemmas.Result.{IfOk-at_ok}
use Rattle.std.proofs.lemmas.Bool.{cond_both, eqb-true}
use Rattle.element.specs.Matrix.{Row, zero_float, at}
use Rattle.element.specs.Multiply.{size_taken}
use Rattle.model.specs.Promises.{Square, RightSide}
use Rattle.model.proofs.Slice.{FiniteValue}
use Rattle.text_model.specs.declared.Precision.{Precision}
use Rattle.text_model.specs.declared.TextRefusal.{TextRefusal}
use Rattle.text_model.specs.declared.TextRefusal.TheVariants.{Size, Form, Count}
use Rattle.text_model.specs.Words.{Word, words_of}
use Rattle.text_model.specs.Systems.{Head, System, longest, format, precision_of, is_whole, size_of, sized, named, head_of, text_head, numbers_of, counted, system_after, system_of, coefficients, right_side, matrix_in, right_side_in}
use Rattle.text_model.proofs.Fit.{Given, Values, given_numbers, values-finite, values-fit}

-- ---- the entries of r rows, each with its right side
left : (r n : ℕ) (xs : Row) → length xs ≡ suc r * (n + 1) → length (drop (n + 1) xs) ≡ r * (n + 1)
left r n xs h = length-drop (n + 1) xs ∙ omega arith

length-coefficients : (r n : ℕ) (xs : Row) → length xs ≡ r * (n + 1) → length (coefficients r n xs) ≡ r * n
unfolding coefficients
length-coefficients zero n xs h = omega arith
length-coefficients (suc r) n xs h =
    length-append (take n xs) (coefficients r n (drop (n + 1) xs))
    ∙ omega (arith, length-take-le n xs (omega arith), length-coefficients r n (drop (n + 1) xs) (left r n xs h))

length-right_side : (r n : ℕ) (xs : Row) → length (right_side r n xs) ≡ r
unfolding right_side
length-right_side zero n xs = refl
length-right_side (suc r) n xs = ap suc (length-right_side r n (drop (n + 1) xs))

module _ (f : Format) where
  all-coefficients : (r n : ℕ) (xs : Row) → All (FiniteValue f) xs → All (FiniteValue f) (coefficients r n xs)
  unfolding coefficients
  all-coefficients zero n xs h = All-nil (FiniteValue f)
  all-coefficients (suc r) n xs h =
      All-append (FiniteValue f) (take n xs) (coefficients r n (drop (n + 1) xs)) (All-take (FiniteValue f) n xs h)
      (all-coefficients r n (drop (n + 1) xs) (All-drop (FiniteValue f) (n + 1) xs h))

  all-right_side : (r n : ℕ) (xs : Row) → length xs ≡ r * (n + 1) → All (FiniteValue f) xs → All (FiniteValue f) (right_side r n xs)
  unfolding right_side
  all-right_side zero n xs e h = All-nil (FiniteValue f)
  all-right_side (suc r) n xs e h =
      All-cons (FiniteValue f) (at xs n) (right_side r n (drop (n + 1) xs)) (All-get_or (FiniteValue f) xs n zero_float (omega arith) h)
      (all-right_side r n (drop (n + 1) xs) (left r n xs e) (All-drop (FiniteValue f) (n + 1) xs h))

-- ---- a system whose entries are as many as its size asks
pub record Taken (s : System) : Type 0 where
  pub square : Square (format s.precision) s.size (matrix_in s)
  pub right : RightSide (format s.precision) s.size (right_side_in s)

taken : (p : Precision) (n : ℕ) (xs : Row) → T (size_taken n) → length xs ≡ n * (n + 1) → All (FiniteValue (format p)) xs → Taken (record { precision = p; size = n; entries = xs })
taken p n xs size long h =
    let a = coefficients n n xs in
    let b = right_side n n xs in
    let av = all-coefficients (format p) n n xs h in
    let bv = all-right_side (format p) n n xs long h in
    record {
      square = record { size = size; long = length-coefficients n n xs long; finite = values-finite (format p) a av; fit = values-fit (format p) a av };
      right = record { long = length-right_side n n xs; finite = values-finite (format p) b bv; fit = values-fit (format p) b bv };
    }

-- ---- the head
made_size : (w : Word) → IfOk (size_of w) (λ n. T (size_taken n))
made_size w =
    let v = digits_value 10 w in
    let P : Result ℕ TextRefusal → Type 0 = λ r. IfOk r (λ n. T (size_taken n)) in
    cond_both (is_whole w) (cond (size_taken v) (Ok v) (Err Size)) (Err Form) P
    (λ _. cond_both (size_taken v) (Ok v) (Err Size) P (λ e. subst T (sym e) tt) (λ _. tt)) (λ _. tt)

abbrev Sized : Head → Type 0
Sized h = T (size_taken h.size)

made_sized : (p : Precision) (ws : List Word) (r : Result ℕ TextRefusal) → IfOk r (λ n. T (size_taken n)) → IfOk (sized p ws r) Sized
made_sized p ws (Ok n) h = h
made_sized p ws (Err e) h = tt

made_named : (o : Option Precision) (ws : List Word) → IfOk (named o ws) Sized
made_named None ws = tt
made_named (Some p) [] = tt
made_named (Some p) (w ∷ ws) = made_sized p ws (size_of w) (made_size w)

made_head : (name : Word) (ws : List Word) → IfOk (head_of name ws) Sized
made_head name [] = tt
made_head name (w ∷ ws) = made_named (precision_of name w) ws

made_text : (name : Word) (t : List ℕ) → IfOk (text_head name t) Sized
made_text name t = cond_both (ltb longest (length t)) (Err Size) (head_of name (words_of t)) (λ r. IfOk r Sized) (λ _. tt) (λ _. made_head name (words_of t))

-- ---- the system
made_counted : (p : Precision) (n : ℕ) (ws : List Word) (o : Option Row) → T (size_taken n) → Given o (Values (format p) ws) → IfOk (counted p n o) Taken
made_counted p n ws None size h = tt
made_counted p n ws (Some xs) size h =
    cond_both (eqb (length xs) (n * (n + 1))) (Ok (record { precision = p; size = n; entries = xs })) (Err Count) (λ r. IfOk r Taken)
    (λ e. taken p n xs size (eqb-true (length xs) (n * (n + 1)) e) h.each) (λ _. tt)

made_after : (r : Result Head TextRefusal) → IfOk r Sized → IfOk (system_after r) Taken
made_after (Ok h) size =
    let f = format h.precision in
    made_counted h.precision h.size h.rest (numbers_of f h.rest) size (given_numbers f h.rest)
made_after (Err e) size = tt

pub system-taken : (t : List ℕ) (s : System) → system_of t ≡ Ok s → Taken s
system-taken t s e = IfOk-at_ok Taken e (made_after (text_head (codes "system") t) (made_text (codes "system") t))
