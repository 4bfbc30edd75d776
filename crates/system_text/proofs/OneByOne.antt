-- Words read one by one: what is read so far, with what is left to read, comes to the whole.
use Rattle.std.proofs.Common.{◌≡◌, ℕ, zero, suc, ◌+◌, ◌-◌, ◌<◌, ◌≤◌, List, [], ◌∷◌, ◌++◌, map, length, get_or, take, drop, Some, None, Ok, Err, Option, Result, Vec, vec_items, sym, refl, ap, ◌∙◌, subst, append_assoc, append-nil, arith}
use native.Mathlib.Nat.{sub-zero}
use lib.Seq.{take-nil, drop-nil}
use Rattle.std.specs.List.{AllZip, Contains}
use Rattle.std.proofs.lemmas.List.{map-id}
use Rattle.text_model.specs.declared.TextRefusal.{TextRefusal}
use Rattle.text_model.specs.Words.{Word}
use Rattle.text_model.specs.Refusals.{Answered}
use Rattle.text_model.specs.Systems.{all_of}
use Rattle.system_text.specs.Read.{formed}
use Rattle.system_text.specs.Each.{EachRead}
use Rattle.system_text.proofs.All.{prepended, all_cons, all_none}
use Rattle.system_text.proofs.Counted.{formed-some, formed-none}

module _ {X : Type 0} (R : Word → Result X TextRefusal → Type 0) where
  abbrev pub ReadAs : List Word → List X → Type 0
  ReadAs ws xs = AllZip (λ w x. R w (Ok x)) ws xs

  -- of at most so many words, `start` being all of them, `done` is read and `ws` is left; `count` is how many are read
  pub record ReadTo (most : ℕ) (start ws : List Word) (done : List X) (count : ℕ) : Type 0 where
    pub so_far : (xs : List X) → ReadAs (take (most - count) ws) xs → ReadAs (take most start) (done ++ xs)
    pub among : (w : Word) → Contains (take (most - count) ws) w → Contains (take most start) w
    pub rest : drop (most - count) ws ≡ drop most start

  pub read-begun : (most : ℕ) (start : List Word) → ReadTo most start start [] 0
  read-begun most start =
      let all = sub-zero most in
      record {
        so_far = λ xs h. subst (λ k. ReadAs (take k start) xs) all h;
        among = λ w h. subst (λ k. Contains (take k start) w) all h;
        rest = ap (λ k. drop k start) all;
      }

  module _ (most : ℕ) (start ws next : List Word) (done : List X) (count : ℕ) (w : Word) (r : ReadTo most start ws done count) (h : count < most) (e : ws ≡ w ∷ next) where
    abbrev k : ℕ
    k = most - (count + 1)

    taken : take (most - count) ws ≡ w ∷ take k next
    taken = let left : most - count ≡ suc k = omega arith in ap (λ j. take j ws) left ∙ ap (take (suc k)) e

    pub read_word : (more : List X) (now : ℕ) (x : X) → R w (Ok x) → more ≡ done ++ x ∷ [] → now ≡ count + 1 → ReadTo most start next more now
    read_word more now x i ds is =
        let left : most - count ≡ suc k = omega arith in
        let same : most - now ≡ k = ap (λ j. most - j) is in
        record {
          so_far = λ xs z.
              subst (ReadAs (take most start)) (sym (append_assoc done (x ∷ []) xs) ∙ ap (λ d. d ++ xs) (sym ds))
              (r.so_far (x ∷ xs) (subst (λ vs. ReadAs vs (x ∷ xs)) (sym taken) (i, subst (λ j. ReadAs (take j next) xs) same z)));
          among = λ v z. let at = subst (λ j. Contains (take j next) v) same z in r.among v (subst (λ vs. Contains vs v) (sym taken) (suc at.0, omega (arith, at.1), at.2));
          rest = ap (λ j. drop j next) same ∙ sym (ap (λ j. drop j ws) left ∙ ap (drop (suc k)) e) ∙ r.rest;
        }

    pub read_bad : Contains (take most start) w
    read_bad = r.among w (subst (λ vs. Contains vs w) (sym taken) (0, omega arith, refl))

  pub read_all : (most : ℕ) (start ws : List Word) (done : List X) (count : ℕ)
      → ReadTo most start ws done count → most ≤ count → ReadAs (take most start) done × (ws ≡ drop most start)
  read_all most start ws done count r h =
      let none : most - count ≡ 0 = omega arith in
      (subst (ReadAs (take most start)) (append-nil done) (r.so_far [] (subst (λ j. ReadAs (take j ws) []) (sym none) tt)), sym (ap (λ j. drop j ws) none) ∙ r.rest)

  pub read_end : (most : ℕ) (start ws : List Word) (done : List X) (count : ℕ)
      → ReadTo most start ws done count → ws ≡ [] → ReadAs (take most start) done × (ws ≡ drop most start)
  read_end most start ws done count r e =
      let k = most - count in (
        subst (ReadAs (take most start)) (append-nil done) (r.so_far [] (subst (λ vs. ReadAs vs []) (sym (ap (take k) e ∙ take-nil k)) tt)),
        e ∙ sym (ap (drop k) e ∙ drop-nil k) ∙ r.rest,
      )

-- ---- where the reader answers what `one` makes of a word, seen as `view` shows it
module _ {X A : Type 0} (R : Word → Result X TextRefusal → Type 0) (view : X → A) (one : Word → Option A) (says : (w : Word) (r : Result X TextRefusal) → R w r → Answered view (formed (one w)) r) where
  all_good : (ws : List Word) (xs : List X) → ReadAs R ws xs → all_of one ws ≡ Some (map view xs)
  unfolding all_of
  all_good [] [] h = refl
  all_good [] (x ∷ xs) h = absurd h
  all_good (w ∷ ws) [] h = absurd h
  all_good (w ∷ ws) (x ∷ xs) h =
      all_cons one w ws (view x) (formed-some (one w) (view x) (says w (Ok x) h.0)) ∙ ap (prepended (view x ∷ [])) (all_good ws xs h.1)

  all_bad : (ws : List Word) (w : Word) (k : ℕ) → k < length ws → get_or ws k w ≡ w → one w ≡ None → all_of one ws ≡ None
  all_bad [] w k l e h = absurd (omega arith)
  all_bad (v ∷ ws) w zero l e h = all_none one v ws (ap one e ∙ h)
  all_bad (v ∷ ws) w (suc k) l e h = skipped (one v) refl (all_bad ws w k (omega arith) e h)
    where
      skipped : (o : Option A) → one v ≡ o → all_of one ws ≡ None → all_of one (v ∷ ws) ≡ None
      skipped None i z = all_none one v ws i
      skipped (Some a) i z = all_cons one v ws a i ∙ ap (prepended (a ∷ [])) z

  pub each_answered : {Z : Type 0} (ws : List Word) (r : Result (Vec X Z) TextRefusal) → EachRead R ws r → Answered (λ v. map view (vec_items v)) (formed (all_of one ws)) r
  each_answered ws (Ok v) h = ap formed (all_good ws (vec_items v) h.items)
  each_answered ws (Err e) h = λ n.
      let found = h.refusal n in
      let b = formed-none (one found.0) e (says found.0 (Err e) found.2 n) in
      ap formed (all_bad ws found.0 found.1.0 found.1.1 found.1.2 b.0) ∙ ap Err (sym b.1)

-- items seen as they are
pub unmapped : {A Z : Type 0} (expected : Result (List A) TextRefusal) (r : Result (Vec A Z) TextRefusal) → Answered (λ v. map (λ a. a) (vec_items v)) expected r → Answered vec_items expected r
unmapped expected (Ok v) h = h ∙ ap Ok (map-id (vec_items v))
unmapped expected (Err e) h = h
