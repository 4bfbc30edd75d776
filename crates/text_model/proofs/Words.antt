-- A text that begins with a word and a separator has that word first; so the words of the lines that programs print are the words that were printed.
use Rattle.std.proofs.Common.{◌≡◌, ℕ, ◌<◌, true, false, cond, List, [], ◌∷◌, ◌++◌, map, length, All, sym, refl, ap, ◌∙◌, append_assoc, arith}
use Rattle.std.proofs.lemmas.List.{append-nil, map-append, take_at, drop_at}
use Rattle.std.proofs.lemmas.List.Elements.{All-head, All-tail, All-take, All-drop}
use Rattle.element.specs.Matrix.{Row, Matrix}
use Rattle.model.specs.Calls.{flat}
use Rattle.number_text.specs.Printed.{printed}
use Rattle.text_model.specs.Words.{Word, separator, ended, words_after, words_of}
use Rattle.text_model.specs.Lines.{number_lines, line_after, line, row_lines}

-- ---- a word: some bytes, none of which is a separator
abbrev pub Solid : List ℕ → Type 0
Solid w = All (λ b. separator b ≡ false) w

pub record IsWord (w : Word) : Type 0 where
  pub some : 0 < length w
  pub solid : Solid w

ended_some : (w : Word) (ws : List Word) → 0 < length w → ended w ws ≡ w ∷ ws
ended_some [] ws h = absurd (omega arith)
ended_some (b ∷ w) ws h = refl

after_word : (v w : Word) (s : ℕ) (r : List ℕ) → Solid w → separator s ≡ true → words_after v (w ++ s ∷ r) ≡ ended (v ++ w) (words_of r)
unfolding words_after
after_word v [] s r h t = ap (λ c. cond c (ended v (words_after [] r)) (words_after (v ++ s ∷ []) r)) t ∙ ap (λ x. ended x (words_of r)) (sym (append-nil v))
after_word v (b ∷ w) s r h t =
    ap (λ c. cond c (ended v (words_after [] (w ++ s ∷ r))) (words_after (v ++ b ∷ []) (w ++ s ∷ r))) (All-head (λ c. separator c ≡ false) b w h)
    ∙ after_word (v ++ b ∷ []) w s r (All-tail (λ c. separator c ≡ false) b w h) t
    ∙ ap (λ x. ended x (words_of r)) (append_assoc v (b ∷ []) w)

pub words_word : (w : Word) (s : ℕ) (r : List ℕ) → IsWord w → separator s ≡ true → words_of (w ++ s ∷ r) ≡ w ∷ words_of r
words_word w s r h t = after_word [] w s r h.solid t ∙ ended_some w (words_of r) h.some

-- ---- lines
words-after : (ws : List Word) (r : List ℕ) → All IsWord ws → (w : Word) → IsWord w → words_of (w ++ (line_after ws ++ r)) ≡ w ∷ (ws ++ words_of r)
unfolding line_after
words-after [] r h w k = words_word w 10 r k refl
words-after (v ∷ ws) r h w k =
    ap (λ x. words_of (w ++ 32 ∷ x)) (append_assoc v (line_after ws) r)
    ∙ words_word w 32 (v ++ (line_after ws ++ r)) k refl
    ∙ ap (λ x. w ∷ x) (words-after ws r (All-tail IsWord v ws h) v (All-head IsWord v ws h))

pub words-line : (ws : List Word) (r : List ℕ) → All IsWord ws → words_of (line ws ++ r) ≡ ws ++ words_of r
unfolding words_after
words-line [] r h = refl
words-line (w ∷ ws) r h = ap words_of (append_assoc w (line_after ws) r) ∙ words-after ws r (All-tail IsWord w ws h) w (All-head IsWord w ws h)

-- ---- numbers, one a line and row by row
pub words-number_lines : (xs : Row) → All IsWord (map printed xs) → words_of (number_lines xs) ≡ map printed xs
unfolding words_after number_lines
words-number_lines [] h = refl
words-number_lines (x ∷ xs) h =
    words_word (printed x) 10 (number_lines xs) (All-head IsWord (printed x) (map printed xs) h) refl
    ∙ ap (λ ws. printed x ∷ ws) (words-number_lines xs (All-tail IsWord (printed x) (map printed xs) h))

pub words-row_lines : (m : Matrix) (r : List ℕ) → All IsWord (map printed (flat m)) → words_of (row_lines m ++ r) ≡ map printed (flat m) ++ words_of r
unfolding row_lines flat
words-row_lines [] r h = refl
words-row_lines (xs ∷ m) r h =
    let both : All IsWord (map printed xs ++ map printed (flat m)) = rw map-append at h in
    let front = All-take IsWord (length (map printed xs)) (map printed xs ++ map printed (flat m)) both in
    let back = All-drop IsWord (length (map printed xs)) (map printed xs ++ map printed (flat m)) both in
    ap words_of (append_assoc (line (map printed xs)) (row_lines m) r)
    ∙ words-line (map printed xs) (row_lines m ++ r) (rw (take_at (map printed xs) (map printed (flat m)) (length (map printed xs)) refl) at front)
    ∙ ap (λ ws. map printed xs ++ ws) (words-row_lines m r (rw (drop_at (map printed xs) (map printed (flat m)) (length (map printed xs)) refl) at back))
    ∙ sym (append_assoc (map printed xs) (map printed (flat m)) (words_of r))
    ∙ ap (λ ws. ws ++ words_of r) (sym (map-append printed xs (flat m)))
