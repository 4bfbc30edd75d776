-- The numbers 0 to n - 1 in their order, and a loop that writes them.
use Rattle.std.proofs.Common.{◌≡◌, ℕ, zero, suc, ◌+◌, ◌<◌, ◌≤◌, List, [], ◌∷◌, ◌++◌, length, get_or, take, set, sym, refl, ap, ◌∙◌, ⊎_elim, add-one, arith}
use Rattle.std.proofs.lemmas.List.{length_push, get_or_append_left, get_or_push, take_all, take_more_set}
use Rattle.std.proofs.lemmas.Bool.{cases_lt}
use Rattle.model.specs.Factor.{up_to}

pub length-up_to : (n : ℕ) → length (up_to n) ≡ n
unfolding up_to
length-up_to zero = refl
length-up_to (suc n) = length_push (up_to n) n ∙ add-one (length (up_to n)) ∙ ap suc (length-up_to n)

pub get_or-up_to : (n i : ℕ) → i < n → get_or (up_to n) i 0 ≡ i
unfolding up_to
get_or-up_to zero i h = absurd (omega arith)
get_or-up_to (suc n) i h =
    ⊎_elim
    (λ below. get_or_append_left (up_to n) (n ∷ []) 0 i (omega (arith, length-up_to n)) ∙ get_or-up_to n i below)
    (λ last. let same : n ≡ i = omega arith in get_or_push (up_to n) n 0 i (length-up_to n ∙ same) ∙ same)
    (cases_lt i n)

-- the first i places have their numbers
abbrev pub Written : List ℕ → ℕ → Type 0
Written xs i = take i xs ≡ up_to i

pub written_none : (xs : List ℕ) → Written xs 0
unfolding up_to
written_none xs = refl

pub written_next : (xs : List ℕ) (i : ℕ) → i < length xs → Written xs i → Written (set xs i i) (i + 1)
unfolding up_to
written_next xs i h w = take_more_set xs i i h ∙ ap (λ ys. ys ++ i ∷ []) w ∙ ap up_to (sym (add-one i))

pub written_all : (xs : List ℕ) (i : ℕ) → length xs ≤ i → i ≤ length xs → Written xs i → xs ≡ up_to (length xs)
written_all xs i h k w = let e : i ≡ length xs = omega arith in sym (take_all i xs h) ∙ w ∙ ap up_to e

pub up_to-below : (xs : List ℕ) → xs ≡ up_to (length xs) → (i : ℕ) → i < length xs → get_or xs i 0 < length xs
up_to-below xs e i h = let same : get_or xs i 0 ≡ i = ap (λ ys. get_or ys i 0) e ∙ get_or-up_to (length xs) i h in omega arith

pub ruleset writes = (written_next, written_all, up_to-below)
