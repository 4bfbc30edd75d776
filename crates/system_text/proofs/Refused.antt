-- What a function of texts answers where it refuses.
use Rattle.std.proofs.Common.{◌≡◌, Err, Result, sym, subst}
use Rattle.text_model.specs.declared.TextRefusal.{TextRefusal}
use Rattle.text_model.specs.declared.TextRefusal.TheVariants.{Memory}
use Rattle.text_model.specs.Refusals.{Answered}

module _ {A B : Type 0} (view : A → B) (expected : Result B TextRefusal) (r : Result A TextRefusal) where
  pub refused : (e : TextRefusal) → r ≡ Err e → ((e ≡ Memory → ⊥) → expected ≡ Err e) → Answered view expected r
  refused e is h = subst (Answered view expected) (sym is) h
