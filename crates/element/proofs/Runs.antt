-- A run over two rows as a loop over two slices takes it: what is left of the rows, and one step. v is what an element is as a float.
use Rattle.std.proofs.Common.{◌≡◌, ◌+◌, ℕ, ◌<◌, Bool, true, false, ◌&&◌, List, [], ◌∷◌, map, length, get_or, drop, ◌⊎◌, inl, inr, sym, ap, ◌∙◌, ap₂}
use lib.Ieee.{Float}
use Rattle.std.proofs.lemmas.List.{drop_more}
use Rattle.element.specs.Products.{run, run_passes}

-- what is left of a list, from an element that was read
pub rest : {X : Type 0} (v : X → Float) (xs : List X) (i : ℕ) (x : X) → i < length xs → x ≡ get_or xs i x → map v (drop i xs) ≡ v x ∷ map v (drop (i + 1) xs)
rest v xs i x h e = ap (map v) (drop_more xs i x h ∙ ap (λ y. y ∷ drop (i + 1) xs) (sym e))

module _ {X : Type 0} (v : X → Float) (step : Float → Float → Float → Float) where
  -- with s so far, the run over what is left of the rows comes to r
  abbrev pub RunsTo : Float → List X → List X → Float → Type 0
  RunsTo s xs ys r = run step s (map v xs) (map v ys) ≡ r

  pub runs_next : {s s' : Float} {x y : X} {xs ys xs' ys' : List X} {r : Float} → xs ≡ x ∷ xs' → ys ≡ y ∷ ys' → s' ≡ step s (v x) (v y)
      → RunsTo s xs ys r → RunsTo s' xs' ys' r
  unfolding run
  runs_next {s = s} {xs' = xs'} {ys' = ys'} p q e t = ap (λ z. run step z (map v xs') (map v ys')) e ∙ sym (ap₂ (λ zs ws. run step s (map v zs) (map v ws)) p q) ∙ t

  pub runs_end : {s : Float} {xs ys : List X} {r : Float} → (xs ≡ []) ⊎ (ys ≡ []) → RunsTo s xs ys r → s ≡ r
  unfolding run
  runs_end {s = s} {ys = ys} (inl e) t = sym (ap (λ zs. run step s (map v zs) (map v ys)) e) ∙ t
  runs_end {xs = []} (inr e) t = t
  runs_end {s = s} {xs = x ∷ xs} (inr e) t = sym (ap (λ zs. run step s (map v (x ∷ xs)) (map v zs)) e) ∙ t

  module _ (test : Float → Float → Float → Bool) where
    -- with s so far, the tests of what is left come to p
    abbrev pub TestsTo : Float → List X → List X → Bool → Type 0
    TestsTo s xs ys p = run_passes test step s (map v xs) (map v ys) ≡ p

    module _ (s : Float) {x y : X} {xs ys xs' ys' : List X} {p : Bool} (c : xs ≡ x ∷ xs') (d : ys ≡ y ∷ ys') (t : TestsTo s xs ys p) where
      opened : (test s (v x) (v y) && run_passes test step (step s (v x) (v y)) (map v xs') (map v ys')) ≡ p
      unfolding run_passes
      opened = sym (ap₂ (λ zs ws. run_passes test step s (map v zs) (map v ws)) c d) ∙ t

      pub tests_next : {s' : Float} → test s (v x) (v y) ≡ true → s' ≡ step s (v x) (v y) → TestsTo s' xs' ys' p
      tests_next pass e =
          let left : Float → Bool = λ z. run_passes test step z (map v xs') (map v ys') in
          ap left e ∙ sym (ap (λ b. b && left (step s (v x) (v y))) pass) ∙ opened

      pub tests_fail : test s (v x) (v y) ≡ false → p ≡ false
      tests_fail fail = sym opened ∙ ap (λ b. b && run_passes test step (step s (v x) (v y)) (map v xs') (map v ys')) fail

    pub tests_end : (s : Float) {xs ys : List X} {p : Bool} → (xs ≡ []) ⊎ (ys ≡ []) → TestsTo s xs ys p → p ≡ true
    unfolding run_passes
    tests_end s {ys = ys} (inl e) t = sym t ∙ ap (λ zs. run_passes test step s (map v zs) (map v ys)) e
    tests_end s {xs = []} (inr e) t = sym t
    tests_end s {xs = x ∷ xs} (inr e) t = sym t ∙ ap (λ zs. run_passes test step s (map v (x ∷ xs)) (map v zs)) e
