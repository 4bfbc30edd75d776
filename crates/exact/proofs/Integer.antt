-- Laws of the integers that `lib.IntN` lacks: the ring laws of the product, and the absolute value of a product.
-- Linear laws, those of the absolute value among them, are one call of `omega (arith, ints)` and are not stated.
use Rattle.std.proofs.Common.{◌≡◌, ◌+◌, ◌*◌, ℤ, pos, negsuc, ◌+ℤ◌, ◌-ℤ◌, ◌*ℤ◌, neg_ℤ, nat_abs, refl, ap, ◌∙◌, ap₂, arith}
use borrow.Author.Differences.{ints, up, down, same_in, sum_is_lem, neg_is, product_is}
use lib.IntN.{*ℤ_comm}

-- the two parts of a product, each as an equation for `simp`
up-*ℤ : (a b : ℤ) → up (a *ℤ b) ≡ up a * up b + down a * down b
up-*ℤ a b = (product_is a b).0

down-*ℤ : (a b : ℤ) → down (a *ℤ b) ≡ up a * down b + down a * up b
down-*ℤ a b = (product_is a b).1

pub *ℤ-assoc : (a b c : ℤ) → (a *ℤ b) *ℤ c ≡ a *ℤ (b *ℤ c)
*ℤ-assoc a b c = same_in _ _ (simp (up-*ℤ, down-*ℤ) (omega arith))

pub *ℤ-negℤ : (a b : ℤ) → a *ℤ neg_ℤ b ≡ neg_ℤ (a *ℤ b)
*ℤ-negℤ a b = same_in _ _ (simp (up-*ℤ, down-*ℤ, (neg_is b).0, (neg_is b).1) (omega (arith, ints)))

pub negℤ-*ℤ : (a b : ℤ) → neg_ℤ a *ℤ b ≡ neg_ℤ (a *ℤ b)
negℤ-*ℤ a b = *ℤ_comm (neg_ℤ a) b ∙ *ℤ-negℤ b a ∙ ap neg_ℤ (*ℤ_comm b a)

pub *ℤ-+ℤ : (a b c : ℤ) → a *ℤ (b +ℤ c) ≡ a *ℤ b +ℤ a *ℤ c
*ℤ-+ℤ a b c = omega (arith, ints, ap (λ t. up a * t) (sum_is_lem b c), ap (λ t. down a * t) (sum_is_lem b c))

pub +ℤ-*ℤ : (a b c : ℤ) → (a +ℤ b) *ℤ c ≡ a *ℤ c +ℤ b *ℤ c
+ℤ-*ℤ a b c = *ℤ_comm (a +ℤ b) c ∙ *ℤ-+ℤ c a b ∙ ap₂ ◌+ℤ◌ (*ℤ_comm c a) (*ℤ_comm c b)

pub *ℤ-sub : (a b c : ℤ) → a *ℤ (b -ℤ c) ≡ a *ℤ b -ℤ a *ℤ c
*ℤ-sub a b c = *ℤ-+ℤ a b (neg_ℤ c) ∙ ap (λ t. a *ℤ b +ℤ t) (*ℤ-negℤ a c)

pub sub-*ℤ : (a b c : ℤ) → (a -ℤ b) *ℤ c ≡ a *ℤ c -ℤ b *ℤ c
sub-*ℤ a b c = +ℤ-*ℤ a (neg_ℤ b) c ∙ ap (λ t. a *ℤ c +ℤ t) (negℤ-*ℤ b c)

pub nat_abs-*ℤ : (a b : ℤ) → nat_abs (a *ℤ b) ≡ nat_abs a * nat_abs b
nat_abs-*ℤ (pos a) (pos b) = refl
nat_abs-*ℤ (pos a) (negsuc b) = omega (arith, ints)
nat_abs-*ℤ (negsuc a) (pos b) = omega (arith, ints)
nat_abs-*ℤ (negsuc a) (negsuc b) = refl
