-- The bytes that a text begins with, and the words of the text.
use Rattle.std.proofs.Common.{◌≡◌, ℕ, zero, suc, ◌+◌, ◌<◌, Bool, true, false, cond, not, List, [], ◌∷◌, ◌++◌, length, take, drop, Option, MatchOption, sym, refl, ap, ◌∙◌, append_assoc, append-nil, add-one, arith}
use Rattle.std.specs.Bool.{beq}
use Rattle.std.specs.List.{AllWithin, HoldsAt}
use Rattle.std.specs.Option.{unwrap_or}
use Rattle.std.proofs.lemmas.Bool.{not-true, not-false}
use Rattle.std.proofs.lemmas.Iterator.{index_from_first}
use Rattle.text_model.specs.Words.{Word, separator, ended, words_after, words_of}
use Rattle.system_text.specs.Left.{leading}

-- the place of the first byte that does not count, or the text's length
abbrev counts : Bool → Bool → ℕ → Type 0
counts s t b = not (beq (separator b) s) ≡ t

pub leading_first : (s : Bool) (xs : List ℕ) (r : Option ℕ)
    → MatchOption r (AllWithin (counts s false) xs 0 (length xs)) (λ i. (i < length xs) × HoldsAt (counts s true) xs i × AllWithin (counts s false) xs 0 i)
    → unwrap_or r (length xs) ≡ leading s xs
unfolding leading
leading_first s xs r h = sym (index_from_first (leading s) (counts s true) (counts s false) refl stop more xs r h)
  where
    stop : (b : ℕ) (bs : List ℕ) → counts s true b → leading s (b ∷ bs) ≡ 0
    stop b bs e = ap (λ t. cond t (suc (leading s bs)) 0) (not-true (beq (separator b) s) e)

    more : (b : ℕ) (bs : List ℕ) → counts s false b → leading s (b ∷ bs) ≡ leading s bs + 1
    more b bs e = ap (λ t. cond t (suc (leading s bs)) 0) (not-false (beq (separator b) s) e) ∙ sym (add-one (leading s bs))

-- separators in front change no word
pub words_skip : (t : List ℕ) → words_of t ≡ words_of (drop (leading true t) t)
unfolding leading words_after
words_skip [] = refl
words_skip (b ∷ bs) = go (separator b) refl (words_skip bs)
  where
    go : (s : Bool) → separator b ≡ s → words_of bs ≡ words_of (drop (leading true bs) bs) → words_of (b ∷ bs) ≡ words_of (drop (leading true (b ∷ bs)) (b ∷ bs))
    go true e h = rw e h
    go false e h = rw (e, e)

-- a word ends where its bytes do
pub words_take : (w : Word) (t : List ℕ) → words_after w t ≡ ended (w ++ take (leading false t) t) (words_of (drop (leading false t) t))
unfolding leading words_after
words_take w [] = ap (λ v. ended v []) (sym (append-nil w))
words_take w (b ∷ bs) = go (separator b) refl (words_take (w ++ b ∷ []) bs)
  where
    go : (s : Bool) → separator b ≡ s
        → words_after (w ++ b ∷ []) bs ≡ ended ((w ++ b ∷ []) ++ take (leading false bs) bs) (words_of (drop (leading false bs) bs))
        → words_after w (b ∷ bs) ≡ ended (w ++ take (leading false (b ∷ bs)) (b ∷ bs)) (words_of (drop (leading false (b ∷ bs)) (b ∷ bs)))
    go true e h = simp (e, append-nil)
    go false e h = rw e (h ∙ simp append_assoc)

-- what the separators in front leave is empty or begins with a byte of a word
pub skip_first : (t : List ℕ) → leading false (drop (leading true t) t) ≡ 0 → drop (leading true t) t ≡ []
unfolding leading
skip_first [] h = refl
skip_first (b ∷ bs) h = go (separator b) refl (skip_first bs) h
  where
    go : (s : Bool) → separator b ≡ s → (leading false (drop (leading true bs) bs) ≡ 0 → drop (leading true bs) bs ≡ [])
        → leading false (drop (leading true (b ∷ bs)) (b ∷ bs)) ≡ 0 → drop (leading true (b ∷ bs)) (b ∷ bs) ≡ []
    go true e ih h = rw e (ih (rw e at h))
    go false e ih h = let z : ◌≡◌ {A = ℕ} (suc (leading false bs)) 0 = rw (e, e) at h in let never : ◌≡◌ {A = ℕ} 0 1 = omega arith in cc

-- ---- the next word, where t is what is left, text what the separators in front leave, and the word ends at e
pub record Split (t text word rest : List ℕ) (e : ℕ) : Type 0 where
  pub text_is : text ≡ drop (leading true t) t
  pub end_is : e ≡ leading false text
  pub word_is : word ≡ take e text
  pub rest-is : rest ≡ drop e text

pub words_split : {t text word rest : List ℕ} {e : ℕ} → Split t text word rest e → words_of t ≡ ended word (words_of rest)
words_split {t} {text} {word} {rest} {e} s =
    let skip = words_skip t in
    let ends = words_take [] text in
    cc (s.text_is, s.end_is, s.word_is, s.rest-is)

pub next-none : {t text word rest : List ℕ} {e : ℕ} → Split t text word rest e → e ≡ 0 → (words_of t ≡ []) × (words_of rest ≡ [])
unfolding words_after
next-none {t} {text} {word} {rest} {e} s z =
    let none : text ≡ [] = s.text_is ∙ skip_first t (ap (leading false) (sym s.text_is) ∙ sym s.end_is ∙ z) in
    (words_skip t ∙ ap words_of (sym s.text_is ∙ none), ap words_of (s.rest-is ∙ ap (λ i. drop i text) z ∙ none))

pub next-some : {t text word rest : List ℕ} {e : ℕ} → Split t text word rest e → (e ≡ 0 → ⊥) → words_of t ≡ word ∷ words_of rest
unfolding leading
next-some {t} {text} {word} {rest} {e} s n = words_split s ∙ begun text e s.end_is n s.word_is
  where
    begun : (text : List ℕ) (e : ℕ) → e ≡ leading false text → (e ≡ 0 → ⊥) → word ≡ take e text → ended word (words_of rest) ≡ word ∷ words_of rest
    begun [] e h n w = absurd (n h)
    begun (b ∷ bs) zero h n w = absurd (n refl)
    begun (b ∷ bs) (suc i) h n w = rw w
