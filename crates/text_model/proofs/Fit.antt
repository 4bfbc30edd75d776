-- Every number that is read is a finite value of the format.
use Rattle.std.proofs.Common.{◌≡◌, ℕ, zero, suc, ◌+◌, ◌*◌, ◌^◌, ◌<◌, ◌≤◌, Bool, true, false, T, List, [], ◌∷◌, ◌++◌, length, drop, IfSome, Some, None, All, Option, sym, subst, lt_of_le_of_lt, mul-le-mul_right, mul-le-mul_left, arith, pow-add}
use native.Mathlib.Nat.{one-le-pow}
use lib.Pow.{pow-lt}
use lib.Ieee.{Format, binary32, binary64, prec, emax, low, odd, round, fits}
use lib.Ieee.Fits.{two, two-le_pos, round-fits}
use lib.Ieee.Scale.{finite, grid}
use Rattle.std.specs.Str.Parse.{starts_with_minus}
use Rattle.std.proofs.lemmas.List.Elements.{All-nil, All-cons, All-get_or}
use Rattle.std.proofs.lemmas.Bool.{cond_both}
use Rattle.exact.proofs.Digits.{rounded-le}
use Rattle.exact.proofs.Value.{round-finite}
use Rattle.element.specs.Matrix.{Row, zero_float, all_finite}
use Rattle.element.specs.Promises.{all_fit}
use Rattle.model.proofs.Slice.{FiniteValue, finite-all, fit_all}
use Rattle.number_text.specs.Number.{numeral, before, after, unsigned, and_then, decimal_number, exactly, scaled, whole_number, power, exact_number, is_exact, number_of}
use Rattle.number_text.proofs.Parts.{numeral-lt}
use Rattle.text_model.specs.Words.{Word}
use Rattle.text_model.specs.Systems.{all_of, numbers_of}

-- P holds of what is there
abbrev pub Given : {A : Type 0} → Option A → (A → Type 0) → Type 0
Given o P = IfSome o P

given_then : {A B : Type 0} (o : Option A) (k : A → Option B) (Q : A → Type 0) (P : B → Type 0) → Given o Q → ((a : A) → Q a → Given (k a) P) → Given (and_then o k) P
given_then None k Q P h each = tt
given_then (Some a) k Q P h each = each a h

anything : {A : Type 0} (o : Option A) → Given o (λ _. Unit {0})
anything None = tt
anything (Some a) = tt

-- ---- a decimal, which is below 2^50
far : (f : Format) → 50 < suc (emax f)
far binary32 = omega arith
far binary64 = omega arith

decimal-below : (f : Format) (m den : ℕ) → m < 10 ^ 15 → 0 < den → grid f m den < 2 ^ (low f + suc (emax f))
decimal-below f m den h D =
    let further : low f + 50 < low f + suc (emax f) = omega (arith, far f) in
    let up : m * 2 ^ low f ≤ 2 ^ 50 * 2 ^ low f = mul-le-mul_right (2 ^ low f) (omega arith) in
    let over : 2 ^ (low f + 50) * 1 ≤ 2 ^ (low f + 50) * den = mul-le-mul_left (2 ^ (low f + 50)) D in
    lt_of_le_of_lt (rounded-le (prec f) (low f + 50) (m * 2 ^ low f) den (two-le_pos (prec f) (two f)) D (omega (arith, pow-add 2 (low f) 50))) (pow-lt further)

decimal-value : (f : Format) (s : Bool) (m den : ℕ) → m < 10 ^ 15 → 0 < den → FiniteValue f (round f s m den)
decimal-value f s m den h D = record { fit = round-fits f s m den; number = round-finite f s m den (decimal-below f m den h D) }

given_decimal : (f : Format) (s : Bool) (u : List ℕ) → Given (decimal_number f s u) (FiniteValue f)
given_decimal f s u =
    given_then (numeral 10 15 (before 46 u ++ after 46 u)) (λ m. Some (round f s m (10 ^ length (after 46 u)))) (λ m. m < 10 ^ 15) (FiniteValue f)
    (numeral-lt 10 15 (before 46 u ++ after 46 u) (omega arith))
    (λ m h. decimal-value f s m (10 ^ length (after 46 u)) h (one-le-pow (length (after 46 u)) 10 (omega arith)))

-- ---- the exact form
odd-finite : (d : ℕ) (s : Bool) (m k l : ℕ) → T (finite (odd d s m k l))
unfolding odd
odd-finite d s zero k l = tt
odd-finite d s (suc m) k l = tt

given_exactly : (f : Format) (s : Bool) (m k l : ℕ) → Given (exactly f s m k l) (FiniteValue f)
given_exactly f s m k l =
    cond_both (fits f (odd 64 s m k l)) (Some (odd 64 s m k l)) None (λ o. Given o (FiniteValue f))
    (λ e. record { fit = subst T (sym e) tt; number = odd-finite 64 s m k l }) (λ _. tt)

given_scaled : (f : Format) (s : Bool) (m : ℕ) (down : Bool) (n : ℕ) → Given (scaled f s m down n) (FiniteValue f)
given_scaled f s m true n = given_exactly f s m 0 n
given_scaled f s m false n = given_exactly f s m n 0

given_exact : (f : Format) (s : Bool) (u : List ℕ) → Given (exact_number f s u) (FiniteValue f)
given_exact f s u =
    given_then (whole_number u) (λ m. and_then (power u) (λ n. scaled f s m (starts_with_minus (after 112 u)) n)) (λ _. Unit {0}) (FiniteValue f) (anything (whole_number u))
    (λ m _. given_then (power u) (λ n. scaled f s m (starts_with_minus (after 112 u)) n) (λ _. Unit {0}) (FiniteValue f) (anything (power u)) (λ n _. given_scaled f s m (starts_with_minus (after 112 u)) n))

-- ---- words
given_number : (f : Format) (w : Word) → Given (number_of f w) (FiniteValue f)
given_number f w =
    let u = unsigned w in
    cond_both (is_exact u) (exact_number f (starts_with_minus w) (drop 2 u)) (decimal_number f (starts_with_minus w) u) (λ o. Given o (FiniteValue f))
    (λ _. given_exact f (starts_with_minus w) (drop 2 u)) (λ _. given_decimal f (starts_with_minus w) u)

-- finite values of the format, as many as there are words
pub record Values (f : Format) (ws : List Word) (xs : Row) : Type 0 where
  pub each : All (FiniteValue f) xs
  pub count : length xs ≡ length ws

pub given_numbers : (f : Format) (ws : List Word) → Given (numbers_of f ws) (Values f ws)
unfolding all_of
given_numbers f [] = record { each = All-nil (FiniteValue f); count = omega arith }
given_numbers f (w ∷ ws) =
    given_then (number_of f w) (λ x. and_then (numbers_of f ws) (λ xs. Some (x ∷ xs))) (FiniteValue f) (Values f (w ∷ ws)) (given_number f w)
    (λ x h. given_then (numbers_of f ws) (λ xs. Some (x ∷ xs)) (Values f ws) (Values f (w ∷ ws)) (given_numbers f ws)
    (λ xs v. record { each = All-cons (FiniteValue f) x xs h v.each; count = omega (arith, v.count) }))

-- ---- the same as tests of all entries
module _ (f : Format) (xs : Row) (each : All (FiniteValue f) xs) where
  pub values-finite : T (all_finite xs)
  values-finite = finite-all xs (λ i below. (All-get_or (FiniteValue f) xs i zero_float below each).number)

  pub values-fit : T (all_fit f xs)
  values-fit = fit_all f xs (λ i below. (All-get_or (FiniteValue f) xs i zero_float below each).fit)
