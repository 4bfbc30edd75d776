-- The looks at the factors of a column as loops over a row's entries and over the rows take them.
use Rattle.std.proofs.Common.{◌≡◌, ℕ, ◌+◌, ◌<◌, ◌≤◌, Bool, ◌&&◌, List, [], ◌∷◌, map, length, drop, sym, ap, ◌∙◌}
use mathlib.Core.Bool.{and_assoc, and-true}
use lib.Ieee.{Float, Format}
use Rattle.std.proofs.lemmas.List.{drop_more, drop_all}
use Rattle.std.proofs.lemmas.List.{length-map}
use Rattle.factor.proofs.Flat.{read, entry-taken, length-matrix}
use Rattle.exact.specs.Threshold.{zero_or_reaches}
use Rattle.element.specs.Matrix.{Row, zero_float, at}
use Rattle.factor.specs.Thresholds.{all_reach, multiplier_reaches, multipliers_reach}

-- ---- the entries of a row
module _ (f : Format) (xs : Row) where
  -- with the entries before j come to `passed`, all of them come to p
  abbrev pub ReachTo : Bool → ℕ → Bool → Type 0
  ReachTo passed j p = (passed && all_reach f (drop j xs)) ≡ p

  pub reach_next : (passed test : Bool) (j : ℕ) (p : Bool) → j < length xs → test ≡ zero_or_reaches f (at xs j) → ReachTo passed j p → ReachTo (passed && test) (j + 1) p
  unfolding all_reach
  reach_next passed test j p h e t =
      let left = all_reach f (drop (j + 1) xs) in
      and_assoc passed test left
      ∙ ap (λ b. passed && b) (ap (λ b. b && left) e ∙ sym (ap (all_reach f) (drop_more xs j zero_float h)))
      ∙ t

  pub reach_end : (passed : Bool) (j : ℕ) (p : Bool) → length xs ≤ j → ReachTo passed j p → passed ≡ p
  unfolding all_reach
  reach_end passed j p h t = sym (and-true passed) ∙ sym (ap (λ ys. passed && all_reach f ys) (drop_all j xs h)) ∙ t

-- ---- the multipliers of a column in the rows that are left; ps is the pivot row
module _ {X : Type 0} (v : X → Float) (f : Format) (k : ℕ) (ps : Row) where
  abbrev pub MultipliersTo : Bool → List (List X) → Bool → Type 0
  MultipliersTo passed rows p = (passed && multipliers_reach f k ps (map (map v) rows)) ≡ p

  pub multipliers-next : (passed test : Bool) {rows rest : List (List X)} {r : List X} {p : Bool} → rows ≡ r ∷ rest → test ≡ multiplier_reaches f k ps (map v r) → MultipliersTo passed rows p
      → MultipliersTo (passed && test) rest p
  unfolding multipliers_reach
  multipliers-next passed test {rest = rest} steps e t =
      let left = multipliers_reach f k ps (map (map v) rest) in
      and_assoc passed test left
      ∙ ap (λ b. passed && b) (ap (λ b. b && left) e ∙ sym (ap (λ rs. multipliers_reach f k ps (map (map v) rs)) steps))
      ∙ t

  pub multipliers_end : (passed : Bool) {rows : List (List X)} {p : Bool} → rows ≡ [] → MultipliersTo passed rows p → passed ≡ p
  unfolding multipliers_reach
  multipliers_end passed none t = sym (and-true passed) ∙ sym (ap (λ rs. passed && multipliers_reach f k ps (map (map v) rs)) none) ∙ t

pub ruleset entries_reached = (reach_next, read, length-map)
