-- What words are one by one, by the first of them; and whether there is any.
use Rattle.std.proofs.Common.{◌≡◌, suc, Bool, true, false, ◌||◌, ltb, List, [], ◌∷◌, ◌++◌, length, Some, None, Option, refl, ap, ◌∙◌, arith}
use Rattle.std.proofs.lemmas.Bool.{lt-ltb}
use Rattle.number_text.specs.Number.{and_then}
use Rattle.text_model.specs.Words.{Word}
use Rattle.text_model.specs.Systems.{all_of}
use Rattle.system_text.specs.Read.{any_of}

abbrev pub prepended : {A : Type 0} → List A → Option (List A) → Option (List A)
prepended xs None = None
prepended xs (Some ys) = Some (xs ++ ys)

module _ {A : Type 0} (one : Word → Option A) where
  pub all_cons : (w : Word) (ws : List Word) (x : A) → one w ≡ Some x → all_of one (w ∷ ws) ≡ prepended (x ∷ []) (all_of one ws)
  unfolding all_of
  all_cons w ws x e = rw e (go (all_of one ws))
    where
      go : (o : Option (List A)) → and_then o (λ xs. Some (x ∷ xs)) ≡ prepended (x ∷ []) o
      go None = refl
      go (Some ys) = refl

  pub all_none : (w : Word) (ws : List Word) → one w ≡ None → all_of one (w ∷ ws) ≡ None
  unfolding all_of
  all_none w ws e = rw e

-- ---- whether there is any
abbrev pub any_more : {A : Type 0} → Bool → Option (List A) → Option Bool
any_more b None = None
any_more b (Some xs) = Some (b || ltb 0 (length xs))

module _ {A : Type 0} (one : Word → Option A) where
  any_begun : (o : Option (List A)) → any_more false o ≡ any_of o
  any_begun None = refl
  any_begun (Some xs) = refl

  pub any_start : (ws : List Word) → any_more false (all_of one ws) ≡ any_of (all_of one ws)
  any_start ws = any_begun (all_of one ws)

  any_cons : (b : Bool) (x : A) (o : Option (List A)) → any_more b (prepended (x ∷ []) o) ≡ any_more true o
  any_cons b x None = refl
  any_cons true x (Some xs) = refl
  any_cons false x (Some xs) = ap Some (lt-ltb 0 (suc (length xs)) (omega arith))

  pub any_word : (b : Bool) (w : Word) (ws : List Word) (x : A) → one w ≡ Some x → any_more b (all_of one (w ∷ ws)) ≡ any_more true (all_of one ws)
  any_word b w ws x e = ap (any_more b) (all_cons one w ws x e) ∙ any_cons b x (all_of one ws)

  pub any_bad : (b : Bool) (w : Word) (ws : List Word) → one w ≡ None → any_more b (all_of one (w ∷ ws)) ≡ None
  any_bad b w ws e = ap (any_more b) (all_none one w ws e)

  pub any_end : (b : Bool) → any_more b (all_of one []) ≡ Some b
  unfolding all_of
  any_end true = refl
  any_end false = refl
