-- Bytes appended one part after the other, and the parts of a printed text.
use Rattle.std.proofs.Common.{◌≡◌, ℕ, ◌+◌, ◌/◌, ◌^◌, ◌<◌, Bool, List, ◌++◌, IfOk, Result, sym, ap, ◌∙◌, append_assoc}
use lib.Count.{count_trailing_zeros}
use lib.Ieee.{Float, Format, minus, low}
use Rattle.std.proofs.lemmas.Result.{IfOk-weaker}
use Rattle.number_text.specs.Digits.{in_units}
use Rattle.number_text.specs.Printed.{exact_text, printed}
use Rattle.number_text.proofs.Patterns.{odd-zero, odd_pos}

module _ {E : Type 0} (r : Result (Unit {0}) E) (a b : List ℕ) where
  pub appended : (xs ys : List ℕ) → xs ≡ ys → IfOk r (λ _. b ≡ a ++ xs) → IfOk r (λ _. b ≡ a ++ ys)
  appended xs ys e h = IfOk-weaker r (λ _. b ≡ a ++ xs) (λ _. b ≡ a ++ ys) (λ _ k. k ∙ ap (λ z. a ++ z) e) h

  pub appended-after : (m xs ys zs : List ℕ) → m ≡ a ++ xs → xs ++ ys ≡ zs → IfOk r (λ _. b ≡ m ++ ys) → IfOk r (λ _. b ≡ a ++ zs)
  appended-after m xs ys zs e f h =
      IfOk-weaker r (λ _. b ≡ m ++ ys) (λ _. b ≡ a ++ zs) (λ _ k. k ∙ ap (λ z. z ++ ys) e ∙ append_assoc a xs ys ∙ ap (λ z. a ++ z) f) h

-- ---- the text of a number of units
module _ (f : Format) (x : Float) (s : Bool) (q k : ℕ) (is : x ≡ in_units f s q k) where
  pub text_zero : q ≡ 0 → exact_text s 0 (minus 0 0) ≡ printed x
  text_zero z = sym (ap printed (is ∙ odd-zero 64 s q k (low f) z))

  pub text_units : 0 < q → exact_text s (q / 2 ^ count_trailing_zeros 64 q) (minus (k + count_trailing_zeros 64 q) (low f)) ≡ printed x
  text_units h = sym (ap printed (is ∙ odd_pos 64 s q k (low f) h))
