-- The parts of a text, taken apart byte by byte.
use Rattle.std.proofs.Common.{◌≡◌, ℕ, suc, ◌+◌, ◌-◌, ◌*◌, ◌^◌, ◌<◌, ◌≤◌, Bool, true, false, cond, not, ◌&&◌, eqb, ltb, leb, List, [], ◌∷◌, ◌++◌, length, get_or, take, drop, IfSome, Some, None, Option, sym, refl, ap, ◌∙◌, subst, lt_of_lt_of_le, mul-le-mul_right, mul-le-mul_left, pow-suc, arith, pow-add}
use native.Mathlib.Nat.{one-le-pow, pow-le-pow_right}
use Rattle.std.proofs.lemmas.List.{at_drop_more, at_drop_all}
use Rattle.std.proofs.lemmas.Int.Digits.{digits_value-lt}
use Rattle.std.proofs.lemmas.Bool.{lt-ltb, le-ltb, le-leb, ltb-true, leb-true, and_parts}
use Rattle.std.specs.Str.Parse.{AllDigits, digits_value, digits_value_after}
use Rattle.std.specs.Char.{digit_value}
use Rattle.std.specs.List.{before_first, after_first}
use Rattle.number_text.specs.Number.{digits_below, numeral, before, after}

-- ---- before and after a byte
take-first : (c b : ℕ) (bs : List ℕ) (n : ℕ) (t : Bool) → take n bs ≡ before c bs → take (cond (not t) (1 + n) 0) (b ∷ bs) ≡ cond t [] (b ∷ before c bs)
take-first c b bs n true e = refl
take-first c b bs n false e = let on : 1 + n ≡ suc n = omega arith in ap (λ k. take k (b ∷ bs)) on ∙ ap (λ l. b ∷ l) e

pub before-first : (c : ℕ) (bs : List ℕ) → before_first (λ b. eqb b c) bs ≡ before c bs
before-first c [] = refl
before-first c (b ∷ bs) = take-first c b bs _ (eqb b c) (before-first c bs)

drop-first : (c b : ℕ) (bs : List ℕ) (n : ℕ) (t : Bool) → drop (n + 1) bs ≡ after c bs → drop (cond (not t) (1 + n) 0 + 1) (b ∷ bs) ≡ cond t bs (after c bs)
drop-first c b bs n true e = refl
drop-first c b bs n false e = let on : 1 + n + 1 ≡ suc (n + 1) = omega arith in ap (λ k. drop k (b ∷ bs)) on ∙ e

pub after-first : (c : ℕ) (bs : List ℕ) → after_first (λ b. eqb b c) bs ≡ after c bs
after-first c [] = refl
after-first c (b ∷ bs) = drop-first c b bs _ (eqb b c) (after-first c bs)

-- ---- digits read from the left
-- `number` is what the digits of ds before place i spell after `start`: what is left gives the same.
pub record Read (radix start : ℕ) (ds : List ℕ) (i number : ℕ) : Type 0 where
  pub same : digits_value_after radix number (drop i ds) ≡ digits_value_after radix start ds
  pub good : digits_below radix (drop i ds) ≡ digits_below radix ds
  pub room : (number + 1) * radix ^ (length ds - i) ≤ 2 ^ 60

pub read-begun : (radix start : ℕ) (ds : List ℕ) → (start + 1) * radix ^ length ds ≤ 2 ^ 60 → Read radix start ds 0 start
read-begun radix start ds h =
    let e : length ds ≡ length ds - 0 = omega arith in
    record { same = refl; good = refl; room = subst (λ n. (start + 1) * radix ^ n ≤ 2 ^ 60) e h }

-- the byte b at place i, which is no digit, or the digit d; x and y are the radix and d as the code has them
module _ (radix start : ℕ) (ds : List ℕ) (i number : ℕ) (h : i < length ds) (r : Read radix start ds i number) (b : ℕ) (is : b ≡ get_or ds i 0) where
  pub read_bad : (digit_value b < radix → ⊥) → None ≡ cond (digits_below radix ds) (Some (digits_value_after radix start ds)) None
  read_bad high =
      let none : ltb (digit_value (get_or ds i 0)) radix ≡ false = subst (λ c. ltb (digit_value c) radix ≡ false) is (le-ltb _ radix (omega (arith, high))) in
      let bad : digits_below radix ds ≡ false = sym r.good ∙ at_drop_more (digits_below radix) ds i 0 h ∙ ap (λ t. t && digits_below radix (drop (i + 1) ds)) none in
      sym (ap (λ t. cond t (Some (digits_value_after radix start ds)) None) bad)

  module _ (d x y : ℕ) (digit : (digit_value b < radix) × (d ≡ digit_value b)) (x-is : x ≡ radix) (y-is : y ≡ d) where
    below : digit_value (get_or ds i 0) < radix
    below = subst (λ c. digit_value c < radix) is digit.0

    next : number * x + y ≡ number * radix + digit_value (get_or ds i 0)
    next = (λ j. number * x-is j + (y-is ∙ digit.1 ∙ ap digit_value is) j)

    wider : (number * x + y + 1) * radix ^ (length ds - (i + 1)) ≤ 2 ^ 60
    wider =
        let p = radix ^ (length ds - (i + 1)) in
        let e : length ds - i ≡ suc (length ds - (i + 1)) = omega arith in
        let q : radix ^ (length ds - i) ≡ p * radix = ap (λ n. radix ^ n) e ∙ pow-suc radix (length ds - (i + 1)) in
        let k : number * x + y + 1 ≤ (number + 1) * radix = omega (arith, next, below) in
        let m = mul-le-mul_right p k in
        let o : (number + 1) * (p * radix) ≤ 2 ^ 60 = subst (λ z. (number + 1) * z ≤ 2 ^ 60) q r.room in
        omega arith

    pub read_step : Read radix start ds (i + 1) (number * x + y)
    read_step = record {
      same = ap (λ n. digits_value_after radix n (drop (i + 1) ds)) next ∙ sym (at_drop_more (digits_value_after radix number) ds i 0 h) ∙ r.same;
      good = ap (λ t. t && digits_below radix (drop (i + 1) ds)) (sym (lt-ltb _ radix below)) ∙ sym (at_drop_more (digits_below radix) ds i 0 h) ∙ r.good;
      room = wider;
    }

    pub read_fits : number * x + y < 2 ^ 60
    read_fits = let m = mul-le-mul_left (number * x + y + 1) (one-le-pow (length ds - (i + 1)) radix (omega (arith, below))) in omega (arith, wider)

pub read_all : (radix start : ℕ) (ds : List ℕ) (i number : ℕ) → length ds ≤ i → Read radix start ds i number → Some number ≡ cond (digits_below radix ds) (Some (digits_value_after radix start ds)) None
read_all radix start ds i number h r =
    ap Some (sym (at_drop_all (digits_value_after radix number) ds i h) ∙ r.same)
    ∙ ap (λ t. cond t (Some (digits_value_after radix start ds)) None) (sym (at_drop_all (digits_below radix) ds i h) ∙ r.good)

-- ---- how large a number the digits spell
pub digits_from : (radix : ℕ) (ds : List ℕ) → digits_below radix ds ≡ true → AllDigits radix ds
digits_from radix [] h = tt
digits_from radix (c ∷ cs) h = let p = and_parts (ltb (digit_value c) radix) (digits_below radix cs) h in (ltb-true (digit_value c) radix p.0, digits_from radix cs p.1)

pub numeral_given : (radix most : ℕ) (ds : List ℕ) → 0 < length ds → length ds ≤ most → cond (digits_below radix ds) (Some (digits_value radix ds)) None ≡ numeral radix most ds
numeral_given radix most ds p h =
    sym (λ i. cond (lt-ltb 0 (length ds) p i && le-leb (length ds) most h i && digits_below radix ds) (Some (digits_value radix ds)) None)

pub numeral-lt : (radix most : ℕ) (ds : List ℕ) → 0 < radix → IfSome (numeral radix most ds) (λ n. n < radix ^ most)
numeral-lt radix most ds p = by (ltb 0 (length ds)) (leb (length ds) most) (digits_below radix ds) (leb-true (length ds) most) (digits_from radix ds)
  where
    by : (a b c : Bool) → (b ≡ true → length ds ≤ most) → (c ≡ true → AllDigits radix ds) → IfSome (cond (a && b && c) (Some (digits_value radix ds)) None) (λ n. n < radix ^ most)
    by true true true h d = lt_of_lt_of_le (digits_value-lt radix ds (d refl)) (pow-le-pow_right p (h refl))
    by true true false h d = tt
    by true false c h d = tt
    by false b c h d = tt

-- ---- what a test of digits has answered
pub given_none : (b : Bool) (x : ℕ) → None ≡ cond b (Some x) None → b ≡ false
given_none true x e = absurd (let z : ◌≡◌ {A = ℕ} 0 1 = cc in omega arith)
given_none false x e = refl

pub given_some : (b : Bool) (x n : ℕ) → Some n ≡ cond b (Some x) None → (b ≡ true) × (n ≡ x)
given_some true x n e = (refl, cc)
given_some false x n e = absurd (let z : ◌≡◌ {A = ℕ} 0 1 = cc in omega arith)

pub bound_with : (o : Option ℕ) (P : ℕ → Type 0) (Q : Type 0) → Q → IfSome o P → IfSome o (λ n. P n × Q)
bound_with None P Q q h = tt
bound_with (Some n) P Q q h = (h, q)

-- ---- digits in two parts
pub joined-room : (xs ys : List ℕ) (n : ℕ) → length xs + length ys ≤ 15 → digits_below 10 xs ≡ true → n ≡ digits_value 10 xs → (n + 1) * 10 ^ length ys ≤ 2 ^ 60
joined-room xs ys n h d e =
    let v = digits_value-lt 10 xs (digits_from 10 xs d) in
    let m : (n + 1) * 10 ^ length ys ≤ 10 ^ length xs * 10 ^ length ys = mul-le-mul_right (10 ^ length ys) (omega arith) in
    omega (arith, pow-add 10 (length xs) (length ys), pow-le-pow_right {n = 10} (omega arith) h)

below_append : (radix : ℕ) (xs ys : List ℕ) → digits_below radix (xs ++ ys) ≡ (digits_below radix xs && digits_below radix ys)
below_append radix [] ys = refl
below_append radix (x ∷ xs) ys = ap (λ t. ltb (digit_value x) radix && t) (below_append radix xs ys) ∙ by (ltb (digit_value x) radix) (digits_below radix xs)
  where
    by : (t u : Bool) → (t && (u && digits_below radix ys)) ≡ ((t && u) && digits_below radix ys)
    by true u = refl
    by false u = refl

after_append : (radix n : ℕ) (xs ys : List ℕ) → digits_value_after radix n (xs ++ ys) ≡ digits_value_after radix (digits_value_after radix n xs) ys
after_append radix n [] ys = refl
after_append radix n (x ∷ xs) ys = after_append radix (n * radix + digit_value x) xs ys

pub joined_bad : (radix : ℕ) (xs ys : List ℕ) → digits_below radix xs ≡ false → None ≡ cond (digits_below radix (xs ++ ys)) (Some (digits_value radix (xs ++ ys))) None
joined_bad radix xs ys h = sym (ap (λ t. cond t (Some (digits_value radix (xs ++ ys))) None) (below_append radix xs ys ∙ ap (λ t. t && digits_below radix ys) h))

pub joined-good : (radix : ℕ) (xs ys : List ℕ) → digits_below radix xs ≡ true
    → cond (digits_below radix ys) (Some (digits_value_after radix (digits_value radix xs) ys)) None ≡ cond (digits_below radix (xs ++ ys)) (Some (digits_value radix (xs ++ ys))) None
joined-good radix xs ys h = sym (
    ap (λ t. cond t (Some (digits_value radix (xs ++ ys))) None) (below_append radix xs ys ∙ ap (λ t. t && digits_below radix ys) h)
    ∙ ap (λ n. cond (digits_below radix ys) (Some n) None) (after_append radix 0 xs ys))
