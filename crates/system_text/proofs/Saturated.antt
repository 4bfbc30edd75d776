-- Digits read one after the other into a number that stops at 65535.
use Rattle.std.proofs.Common.{◌≡◌, ℕ, ◌+◌, ◌*◌, ◌<◌, ◌≤◌, min, Bool, true, false, cond, ◌&&◌, ltb, List, [], ◌∷◌, length, get_or, drop, Some, None, Option, sym, refl, ap, ◌∙◌, arith}
use Rattle.std.specs.Str.Parse.{digits_value_after}
use Rattle.std.specs.Char.{digit_value}
use Rattle.std.proofs.lemmas.List.{drop_more, at_drop_all}
use Rattle.std.proofs.lemmas.Bool.{lt-ltb, le-ltb}
use Rattle.number_text.specs.Number.{digits_below}
use Rattle.text_model.specs.Factors.{place}

-- the digits ds after those of n
abbrev pub read_from : ℕ → List ℕ → Option ℕ
read_from n ds = cond (digits_below 10 ds) (Some (min (digits_value_after 10 n ds) 65535)) None

held_digit : (a b d : ℕ) → min a 65535 ≡ min b 65535 → min (a * 10 + d) 65535 ≡ min (b * 10 + d) 65535
held_digit a b d h = omega arith

held : (a b : ℕ) (ds : List ℕ) → min a 65535 ≡ min b 65535 → min (digits_value_after 10 a ds) 65535 ≡ min (digits_value_after 10 b ds) 65535
held a b [] h = h
held a b (c ∷ cs) h = held (a * 10 + digit_value c) (b * 10 + digit_value c) cs (held_digit a b (digit_value c) h)

pub from_digit : (n : ℕ) (w : List ℕ) (i : ℕ) → i < length w → digit_value (get_or w i 0) < 10 → read_from (min (n * 10 + digit_value (get_or w i 0)) 65535) (drop (i + 1) w) ≡ read_from n (drop i w)
from_digit n w i h d = sym (ap (read_from n) (drop_more w i 0 h) ∙ step (get_or w i 0) (drop (i + 1) w) d)
  where
    step : (c : ℕ) (cs : List ℕ) → digit_value c < 10 → read_from n (c ∷ cs) ≡ read_from (min (n * 10 + digit_value c) 65535) cs
    step c cs d =
        let m = n * 10 + digit_value c in
        let more : ℕ → Option ℕ = λ k. cond (digits_below 10 cs) (Some k) None in
        ap (λ t. cond (t && digits_below 10 cs) (Some (min (digits_value_after 10 m cs) 65535)) None) (lt-ltb (digit_value c) 10 d)
        ∙ ap more (held m (min m 65535) cs (omega arith))

pub from-other : (n : ℕ) (w : List ℕ) (i : ℕ) → i < length w → (digit_value (get_or w i 0) < 10 → ⊥) → read_from n (drop i w) ≡ None
from-other n w i h d =
    ap (read_from n) (drop_more w i 0 h)
    ∙ ap (λ t. cond (t && digits_below 10 (drop (i + 1) w)) (Some (min (digits_value_after 10 n (get_or w i 0 ∷ drop (i + 1) w)) 65535)) None) (below (digit_value (get_or w i 0)) d)
  where
    below : (k : ℕ) → (k < 10 → ⊥) → ltb k 10 ≡ false
    below k h = le-ltb k 10 (omega arith)

pub from_end : (n : ℕ) (w : List ℕ) (i : ℕ) → length w ≤ i → n ≤ 65535 → read_from n (drop i w) ≡ Some n
from_end n w i h b = at_drop_all (read_from n) w i h ∙ ap Some (omega arith)

-- ---- a whole word
pub place_none : (w : List ℕ) → read_from 0 w ≡ None → place w ≡ None
place_none w e = go (ltb 0 (length w)) (digits_below 10 w) e
  where
    go : (l d : Bool) → cond d (Some (min (digits_value_after 10 0 w) 65535)) None ≡ None → cond (l && d) (Some (min (digits_value_after 10 0 w) 65535)) None ≡ None
    go true d e = e
    go false d e = refl

pub place-empty : (w : List ℕ) → length w ≡ 0 → place w ≡ None
place-empty w e =
    ap (λ l. cond (ltb 0 l && digits_below 10 w) (Some (min (digits_value_after 10 0 w) 65535)) None) e

pub place-some : (w : List ℕ) (n : ℕ) → (length w ≡ 0 → ⊥) → read_from 0 w ≡ Some n → place w ≡ Some n
place-some w n h e =
    ap (λ l. cond (l && digits_below 10 w) (Some (min (digits_value_after 10 0 w) 65535)) None) (lt-ltb 0 (length w) (omega arith)) ∙ e
