-- The search for a pivot as a loop over the rows takes it: with place b the best so far, what is left, from row i on, comes to p.
use Rattle.std.proofs.Common.{◌≡◌, ℕ, ◌+◌, ◌<◌, ◌≤◌, Bool, true, false, cond, [], length, drop, sym, ap, ◌∙◌}
use lib.Ieee.{lt}
use Rattle.std.specs.Float.{float_with_sign}
use Rattle.std.proofs.lemmas.List.{drop_more, drop_all}
use Rattle.element.specs.Matrix.{Matrix, at, row}
use Rattle.model.specs.Factor.{largest}

module _ (k : ℕ) (m : Matrix) where
  abbrev pub LargestTo : ℕ → ℕ → ℕ → Type 0
  LargestTo b i p = largest k i b (at (row m b) k) (drop i m) ≡ p

  -- whether the entry of row i in column k has a larger magnitude than that of row b
  abbrev pub larger : ℕ → ℕ → Bool
  larger i b = lt (float_with_sign false (at (row m b) k)) (float_with_sign false (at (row m i) k))

  module _ (b i p : ℕ) (h : i < length m) (t : LargestTo b i p) where
    opened : cond (larger i b) (largest k (i + 1) i (at (row m i) k) (drop (i + 1) m)) (largest k (i + 1) b (at (row m b) k) (drop (i + 1) m)) ≡ p
    unfolding largest
    opened = sym (ap (largest k i b (at (row m b) k)) (drop_more m i [] h)) ∙ t

    abbrev left : Bool → ℕ
    left test = cond test (largest k (i + 1) i (at (row m i) k) (drop (i + 1) m)) (largest k (i + 1) b (at (row m b) k) (drop (i + 1) m))

    -- q is the best place after row i
    pub largest_moves : (q : ℕ) → q ≡ i → larger i b ≡ true → LargestTo q (i + 1) p
    largest_moves q is e = ap (λ z. largest k (i + 1) z (at (row m z) k) (drop (i + 1) m)) is ∙ sym (ap left e) ∙ opened

    pub largest_stays : (q : ℕ) → q ≡ b → larger i b ≡ false → LargestTo q (i + 1) p
    largest_stays q is e = ap (λ z. largest k (i + 1) z (at (row m z) k) (drop (i + 1) m)) is ∙ sym (ap left e) ∙ opened

  pub largest_end : (b i p : ℕ) → length m ≤ i → LargestTo b i p → b ≡ p
  unfolding largest
  largest_end b i p h t = sym (ap (largest k i b (at (row m b) k)) (drop_all i m h)) ∙ t
