-- The search for the pivot: its place, and that no entry of its column from the diagonal on is larger in magnitude.
use Rattle.std.proofs.Common.{◌≡◌, ℕ, suc, ◌+◌, ◌<◌, ◌≤◌, false, ltb, [], ◌∷◌, length, drop, sym, refl, ap, ◌∙◌, inl, inr, le_trans, le_refl, le_of_lt, arith}
use lib.Ieee.{Float, Format, lt}
use Rattle.std.specs.Float.{float_with_sign}
use Rattle.std.proofs.lemmas.List.{get_or-drop, length-drop}
use Rattle.std.proofs.lemmas.Bool.{cond_both, cases_lt, ltb-true, ltb-false}
use Rattle.exact.specs.Value.{magnitude}
use Rattle.exact.proofs.Magnitude.{magnitude-lt}
use Rattle.element.specs.Matrix.{Matrix, at, row}
use Rattle.model.specs.Factor.{largest, pivot}
use Rattle.model.proofs.Slice.{FiniteValue}

largest-place : (k : ℕ) (rs : Matrix) (i b n : ℕ) (x : Float) → i + length rs ≡ n → k ≤ b → b < i → (k ≤ largest k i b x rs) × (largest k i b x rs < n)
unfolding largest
largest-place k [] i b n x e hk hb = (hk, omega arith)
largest-place k (r ∷ rs) i b n x e hk hb =
    cond_both (lt (float_with_sign false x) (float_with_sign false (at r k))) (largest k (i + 1) i (at r k) rs) (largest k (i + 1) b x rs) (λ p. (k ≤ p) × (p < n))
    (λ _. largest-place k rs (i + 1) i n (at r k) (omega arith) (omega arith) (omega arith))
    (λ _. largest-place k rs (i + 1) b n x (omega arith) hk (omega arith))

pub pivot-place : (k : ℕ) (m : Matrix) → k < length m → (k ≤ pivot k m) × (pivot k m < length m)
pivot-place k m h = largest-place k (drop (k + 1) m) (k + 1) k (length m) (at (row m k) k) (omega (arith, length-drop (k + 1) m)) (omega arith) (omega arith)

-- v is the column, place by place
module _ (f : Format) (k n : ℕ) (v : ℕ → Float) (values : (t : ℕ) → t < n → FiniteValue f (v t)) where
  -- place b has the largest entry from place k to before place i
  abbrev Best : ℕ → ℕ → Type 0
  Best i b = (t : ℕ) → k ≤ t → t < i → magnitude (v t) ≤ magnitude (v b)

  best_more : (i b c : ℕ) → Best i b → magnitude (v b) ≤ magnitude (v c) → magnitude (v i) ≤ magnitude (v c) → Best (i + 1) c
  best_more i b c best old new t hk ht = elim (cases_lt t i) [
    | inl before ↦ le_trans (best t hk before) old
    | inr here ↦ (let last : t ≡ i = omega arith in rw last new)
  ]

  larger : (b i : ℕ) (x y : Float) → x ≡ v b → y ≡ v i → b < n → i < n
      → lt (float_with_sign false x) (float_with_sign false y) ≡ ltb (magnitude (v b)) (magnitude (v i))
  larger b i x y p q hb hi = rw (p, q) (magnitude-lt f (v b) (v i) (values b hb).fit (values i hi).fit (values b hb).number (values i hi).number)

  largest_best : (rs : Matrix) (i b : ℕ) (x : Float) → x ≡ v b → ((t : ℕ) → t < length rs → at (row rs t) k ≡ v (i + t)) → i + length rs ≡ n
      → b < i → Best i b → Best n (largest k i b x rs)
  unfolding largest
  largest_best [] i b x same column e hb best = λ t hk ht. best t hk (omega arith)
  largest_best (r ∷ rs) i b x same column e hb best =
      let next : at r k ≡ v i = column 0 (omega arith) ∙ ap v (omega arith) in
      let rest : (t : ℕ) → t < length rs → at (row rs t) k ≡ v (i + 1 + t) = λ t h. column (suc t) (omega arith) ∙ ap v (omega arith) in
      let test = larger b i x (at r k) same next (omega arith) (omega arith) in
      cond_both (lt (float_with_sign false x) (float_with_sign false (at r k))) (largest k (i + 1) i (at r k) rs) (largest k (i + 1) b x rs) (Best n)
      (λ larger-next. largest_best rs (i + 1) i (at r k) next rest (omega arith) (omega arith)
      (best_more i b i best (le_of_lt (ltb-true (magnitude (v b)) (magnitude (v i)) (sym test ∙ larger-next))) (le_refl _)))
      (λ not-larger. largest_best rs (i + 1) b x same rest (omega arith) (omega arith)
      (best_more i b b best (le_refl _) (ltb-false (magnitude (v b)) (magnitude (v i)) (sym test ∙ not-larger))))

pub pivot-largest : (f : Format) (k : ℕ) (m : Matrix) → k < length m → ((t : ℕ) → t < length m → FiniteValue f (at (row m t) k))
    → (t : ℕ) → k ≤ t → t < length m → magnitude (at (row m t) k) ≤ magnitude (at (row m (pivot k m)) k)
pivot-largest f k m h values =
    largest_best f k (length m) (λ t. at (row m t) k) values (drop (k + 1) m) (k + 1) k (at (row m k) k) refl
    (λ t _. ap (λ r. at r k) (get_or-drop (k + 1) m t [])) (omega (arith, length-drop (k + 1) m)) (omega arith)
    (λ t hk ht. let here : t ≡ k = omega arith in rw here (le_refl _))
