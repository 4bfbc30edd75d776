-- How many words there are: a text with as many numbers as its size asks for, and any other.
use Rattle.std.proofs.Common.{◌≡◌, ℕ, zero, suc, ◌+◌, ◌-◌, ◌*◌, min, Bool, true, false, cond, not, ◌&&◌, ◌||◌, eqb, ltb, List, [], ◌∷◌, ◌++◌, length, take, drop, Some, None, Ok, Err, Option, sym, refl, ap, ◌∙◌, inl, inr, append-nil, arith, length-append, length-drop, length-take}
use lib.Ieee.{Float}
use Rattle.std.proofs.lemmas.Bool.{not-true, not-false, or_parts, or_cases, ltb-true, ltb-false, eqb-true, eqb-false, eq-eqb, ne_eqb}
use Rattle.element.specs.Matrix.{Row}
use Rattle.number_text.specs.Number.{and_then}
use Rattle.text_model.specs.declared.Precision.{Precision}
use Rattle.text_model.specs.declared.TextRefusal.{TextRefusal}
use Rattle.text_model.specs.declared.TextRefusal.TheVariants.{Form, Count}
use Rattle.text_model.specs.Words.{Word}
use Rattle.text_model.specs.Systems.{Head, all_of, counted}
use Rattle.text_model.specs.Factors.{Factored, complete}
use Rattle.system_text.specs.Read.{formed, any_of}

-- ---- what is of no form
pub formed-some : {A : Type 0} (o : Option A) (a : A) → formed o ≡ Ok a → o ≡ Some a
formed-some None a e = let z : ◌≡◌ {A = ℕ} 0 1 = cc in absurd (omega arith)
formed-some (Some b) a e = cc

pub formed-none : {A : Type 0} (o : Option A) (e : TextRefusal) → formed o ≡ Err e → (o ≡ None) × (e ≡ Form)
formed-none None e h = (refl, cc)
formed-none (Some b) e h = let z : ◌≡◌ {A = ℕ} 0 1 = cc in absurd (omega arith)

any_none : {A : Type 0} (o : Option (List A)) → any_of o ≡ None → o ≡ None
any_none None h = refl
any_none (Some xs) h = let z : ◌≡◌ {A = ℕ} 0 1 = cc in absurd (omega arith)

any_some : {A : Type 0} (o : Option (List A)) (b : Bool) → any_of o ≡ Some b → (ys : List A) × (o ≡ Some ys) × (ltb 0 (length ys) ≡ b)
any_some None b h = let z : ◌≡◌ {A = ℕ} 0 1 = cc in absurd (omega arith)
any_some (Some ys) b h = (ys, refl, cc)

-- ---- the words before a place and after it
module _ {A : Type 0} (one : Word → Option A) where
  all_split : (k : ℕ) (ws : List Word) → all_of one ws ≡ and_then (all_of one (take k ws)) (λ xs. and_then (all_of one (drop k ws)) (λ ys. Some (xs ++ ys)))
  unfolding all_of
  all_split zero ws = sym (whole (all_of one ws))
    where
      whole : (o : Option (List A)) → and_then o (λ ys. Some ys) ≡ o
      whole None = refl
      whole (Some ys) = refl
  all_split (suc k) [] = refl
  all_split (suc k) (w ∷ ws) = ap (λ o. and_then (one w) (λ x. and_then o (λ xs. Some (x ∷ xs)))) (all_split k ws) ∙ regroup (one w) (all_of one (take k ws)) (all_of one (drop k ws))
    where
      regroup : (a : Option A) (o p : Option (List A))
          → and_then a (λ x. and_then (and_then o (λ xs. and_then p (λ ys. Some (xs ++ ys)))) (λ xs. Some (x ∷ xs)))
          ≡ and_then (and_then a (λ x. and_then o (λ xs. Some (x ∷ xs)))) (λ xs. and_then p (λ ys. Some (xs ++ ys)))
      regroup None o p = refl
      regroup (Some x) None p = refl
      regroup (Some x) (Some xs) None = refl
      regroup (Some x) (Some xs) (Some ys) = refl

  all-length : (ws : List Word) (xs : List A) → all_of one ws ≡ Some xs → length xs ≡ length ws
  unfolding all_of
  all-length [] xs e = let h : [] ≡ xs = cc in ap length (sym h)
  all-length (w ∷ ws) xs e = go (one w) (all_of one ws) (all-length ws) xs e
    where
      go : (a : Option A) (o : Option (List A)) → ((ys : List A) → o ≡ Some ys → length ys ≡ length ws)
          → (xs : List A) → and_then a (λ x. and_then o (λ ys. Some (x ∷ ys))) ≡ Some xs → length xs ≡ suc (length ws)
      go None o ih xs e = let z : ◌≡◌ {A = ℕ} 0 1 = cc in absurd (omega arith)
      go (Some x) None ih xs e = let z : ◌≡◌ {A = ℕ} 0 1 = cc in absurd (omega arith)
      go (Some x) (Some ys) ih xs e = let h : x ∷ ys ≡ xs = cc in ap length (sym h) ∙ ap suc (ih ys refl)

  -- as many as there are words
  taken-length : (k : ℕ) (ws : List Word) (xs ys : List A) → all_of one (take k ws) ≡ Some xs → all_of one (drop k ws) ≡ Some ys
      → (length xs ≡ min k (length ws)) × (length ys ≡ length ws - k)
  taken-length k ws xs ys e f = (all-length (take k ws) xs e ∙ length-take k ws, all-length (drop k ws) ys f ∙ length-drop k ws)

-- x of w words are read, at most k, and y are left
module _ (k w x y : ℕ) (more : Bool) (read : x ≡ min k w) (left : y ≡ w - k) (any : ltb 0 y ≡ more) where
  other-count : (more || not (eqb x k)) ≡ true → x + y ≡ k → ⊥
  other-count t = elim (or_cases more (not (eqb x k)) t) [
    | inl e ↦ let h = ltb-true 0 y (any ∙ e) in λ s. omega arith
    | inr e ↦ let h = eqb-false x k (not-true (eqb x k) e) in λ s. h (omega arith)
  ]

  just-count : (more || not (eqb x k)) ≡ false → (x ≡ k) × (y ≡ 0)
  just-count t =
      let b = or_parts more (not (eqb x k)) t in
      (eqb-true x k (not-false (eqb x k) b.1), (let h = ltb-false 0 y (any ∙ b.0) in omega arith))

-- ---- a system of n (n + 1) numbers, of which the first k words are read and then the others
module _ (one : Word → Option Float) (p : Precision) (n : ℕ) (ws : List Word) where
  pub first_bad : (e : TextRefusal) → formed (all_of one (take (n * (n + 1)) ws)) ≡ Err e → counted p n (all_of one ws) ≡ Err e
  first_bad e h =
      let b = formed-none (all_of one (take (n * (n + 1)) ws)) e h in
      ap (counted p n) (all_split one (n * (n + 1)) ws ∙ ap (λ o. and_then o (λ xs. and_then (all_of one (drop (n * (n + 1)) ws)) (λ ys. Some (xs ++ ys)))) b.0) ∙ ap Err (sym b.1)

  pub rest_bad : (e : TextRefusal) → formed (any_of (all_of one (drop (n * (n + 1)) ws))) ≡ Err e → counted p n (all_of one ws) ≡ Err e
  rest_bad e h =
      let b = formed-none (any_of (all_of one (drop (n * (n + 1)) ws))) e h in
      let r = any_none (all_of one (drop (n * (n + 1)) ws)) b.0 in
      ap (counted p n) (all_split one (n * (n + 1)) ws ∙ ap (λ o. and_then (all_of one (take (n * (n + 1)) ws)) (λ xs. and_then o (λ ys. Some (xs ++ ys)))) r ∙ none (all_of one (take (n * (n + 1)) ws))) ∙ ap Err (sym b.1)
    where
      nothing : Option Row
      nothing = None

      none : (o : Option Row) → and_then o (λ xs. nothing) ≡ nothing
      none None = refl
      none (Some xs) = refl

  joined : (xs ys : Row) → all_of one (take (n * (n + 1)) ws) ≡ Some xs → all_of one (drop (n * (n + 1)) ws) ≡ Some ys → all_of one ws ≡ Some (xs ++ ys)
  joined xs ys e f =
      all_split one (n * (n + 1)) ws
      ∙ ap (λ o. and_then o (λ xs. and_then (all_of one (drop (n * (n + 1)) ws)) (λ ys. Some (xs ++ ys)))) e ∙ ap (λ o. and_then o (λ ys. Some (xs ++ ys))) f

  pub count_bad : (xs : Row) (more : Bool) → formed (all_of one (take (n * (n + 1)) ws)) ≡ Ok xs → formed (any_of (all_of one (drop (n * (n + 1)) ws))) ≡ Ok more
      → (more || not (eqb (length xs) (n * (n + 1)))) ≡ true → counted p n (all_of one ws) ≡ Err Count
  count_bad xs more h r t =
      let k = n * (n + 1) in
      let e = formed-some (all_of one (take k ws)) xs h in
      let m = any_some (all_of one (drop k ws)) more (formed-some (any_of (all_of one (drop k ws))) more r) in
      let ys = m.0 in
      let counts = taken-length one k ws xs ys e m.1 in
      let other = other-count k (length ws) (length xs) (length ys) more counts.0 counts.1 m.2 t in
      ap (counted p n) (joined xs ys e m.1)
      ∙ ap (λ b. cond b (Ok (record { precision = p; size = n; entries = xs ++ ys })) (Err Count)) (ne_eqb (length (xs ++ ys)) k (λ s. other (sym (length-append xs ys) ∙ s)))

  pub count-good : (xs : Row) (more : Bool) → formed (all_of one (take (n * (n + 1)) ws)) ≡ Ok xs → formed (any_of (all_of one (drop (n * (n + 1)) ws))) ≡ Ok more
      → (more || not (eqb (length xs) (n * (n + 1)))) ≡ false → counted p n (all_of one ws) ≡ Ok (record { precision = p; size = n; entries = xs })
  count-good xs more h r t =
      let k = n * (n + 1) in
      let e = formed-some (all_of one (take k ws)) xs h in
      let m = any_some (all_of one (drop k ws)) more (formed-some (any_of (all_of one (drop k ws))) more r) in
      let ys = m.0 in
      let counts = taken-length one k ws xs ys e m.1 in
      let just = just-count k (length ws) (length xs) (length ys) more counts.0 counts.1 m.2 t in
      ap (counted p n) (joined xs ys e m.1 ∙ ap Some (ap (λ zs. xs ++ zs) (empty ys just.1) ∙ append-nil xs))
      ∙ ap (λ b. cond b (Ok (record { precision = p; size = n; entries = xs })) (Err Count)) (eq-eqb (length xs) k just.0)
    where
      empty : (ys : Row) → length ys ≡ 0 → ys ≡ []
      empty [] h = refl
      empty (y ∷ ys) h = absurd (omega arith)

-- ---- factors of n places and n n numbers
module _ (h : Head) (o : Option (List ℕ)) (l : Option Row) (order : List ℕ) (lu : Row) (places : formed o ≡ Ok order) (numbers : formed l ≡ Ok lu) where
  abbrev pub read : Factored
  read = record { precision = h.precision; size = h.size; order = order; lu = lu; rest = drop (h.size * h.size) (drop h.size h.rest) }

  pub complete_short : (not (eqb (length order) h.size) || not (eqb (length lu) (h.size * h.size))) ≡ true → complete h o l ≡ Err Count
  complete_short t =
      ap (λ o. complete h o l) (formed-some o order places) ∙ ap (complete h (Some order)) (formed-some l lu numbers)
      ∙ ap (λ b. cond b (Ok read) (Err Count)) (other (eqb (length order) h.size) (eqb (length lu) (h.size * h.size)) t)
    where
      other : (a b : Bool) → (not a || not b) ≡ true → (a && b) ≡ false
      other true true e = sym e
      other true false e = refl
      other false b e = refl

  pub complete-read : (not (eqb (length order) h.size) || not (eqb (length lu) (h.size * h.size))) ≡ false
      → complete h o l ≡ Ok read
  complete-read t =
      ap (λ o. complete h o l) (formed-some o order places) ∙ ap (complete h (Some order)) (formed-some l lu numbers)
      ∙ ap (λ b. cond b (Ok read) (Err Count)) (just (eqb (length order) h.size) (eqb (length lu) (h.size * h.size)) t)
    where
      just : (a b : Bool) → (not a || not b) ≡ false → (a && b) ≡ true
      just true true e = refl
      just true false e = sym e
      just false b e = sym e
