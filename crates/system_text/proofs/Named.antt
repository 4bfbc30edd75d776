-- The format that a word names, by what stands in it after the name.
use Rattle.std.proofs.Common.{◌≡◌, ℕ, suc, Bool, true, false, cond, ◌&&◌, eqb, List, [], ◌∷◌, ◌++◌, length, Some, None, Ok, Err, codes, sym, refl, ap, ◌∙◌, append-nil, arith}
use Rattle.std.specs.Str.{bytes_eq}
use Rattle.std.proofs.lemmas.Bool.{eq-eqb, ne_eqb, false_from_ne_true}
use Rattle.std.proofs.lemmas.Slice.Eq.{bytes_eq-Decides}
use Rattle.text_model.specs.declared.Precision.TheVariants.{Double, Single}
use Rattle.text_model.specs.declared.TextRefusal.TheVariants.{Form}
use Rattle.text_model.specs.Words.{Word}
use Rattle.text_model.specs.Systems.{precision_of}
use Rattle.system_text.specs.Read.{formed}

same_after : (name s t : List ℕ) → bytes_eq (name ++ s) (name ++ t) ≡ bytes_eq s t
same_after [] s t = refl
same_after (b ∷ bs) s t = ap (λ e. e && bytes_eq (bs ++ s) (bs ++ t)) (eq-eqb b b refl) ∙ same_after bs s t

named_by : (name w s : Word) → w ≡ name ++ s → precision_of name w ≡ cond (bytes_eq s []) (Some Double) (cond (bytes_eq s (codes "32")) (Some Single) None)
named_by name w s e =
    ap (precision_of name) e
    ∙ ap (λ b. cond b (Some Double) (cond (bytes_eq (name ++ s) (name ++ codes "32")) (Some Single) None)) (ap (bytes_eq (name ++ s)) (sym (append-nil name)) ∙ same_after name s [])
    ∙ ap (λ b. cond (bytes_eq s []) (Some Double) (cond b (Some Single) None)) (same_after name s (codes "32"))

-- by the tests that the code makes of what stands after the name
pub named-after : (name w s : Word) (empty single : Bool) → w ≡ name ++ s → empty ≡ eqb (length s) 0 → single ≡ bytes_eq s (codes "32")
    → formed (precision_of name w) ≡ cond empty (Ok Double) (cond single (Ok Single) (Err Form))
named-after name w s empty single e h i =
    ap formed (named_by name w s e ∙ ap (λ b. cond b (Some Double) (cond (bytes_eq s (codes "32")) (Some Single) None)) (none s ∙ sym h) ∙ ap (λ b. cond empty (Some Double) (cond b (Some Single) None)) (sym i))
    ∙ shown empty single
  where
    none : (s : List ℕ) → bytes_eq s [] ≡ eqb (length s) 0
    none [] = refl
    none (b ∷ bs) = sym (ne_eqb (suc (length bs)) 0 (λ e. omega arith))

    shown : (a b : Bool) → formed (cond a (Some Double) (cond b (Some Single) None)) ≡ cond a (Ok Double) (cond b (Ok Single) (Err Form))
    shown true b = refl
    shown false true = refl
    shown false false = refl

pub named-other : (name w : Word) → ((s : List ℕ) → w ≡ name ++ s → ⊥) → formed (precision_of name w) ≡ Err Form
named-other name w other =
    ap formed (ap (λ b. cond b (Some Double) (cond (bytes_eq w (name ++ codes "32")) (Some Single) None)) (differs name (λ e. other [] (e ∙ sym (append-nil name))))
    ∙ ap (λ b. cond b (Some Single) None) (differs (name ++ codes "32") (other (codes "32"))))
  where
    differs : (v : Word) → (w ≡ v → ⊥) → bytes_eq w v ≡ false
    differs v n = false_from_ne_true (bytes_eq w v) (λ t. n ((bytes_eq-Decides w v).0 t))
