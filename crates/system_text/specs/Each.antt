-- What a reader of words makes of each of them. `R w r` says that it may answer r for the word w.
use Rattle.std.specs.Prelude.{Ok, Err, IfOk, IfErr, Result, List, Vec, vec_items, ◌≢◌}
use Rattle.std.specs.List.{AllZip, Contains}
use Rattle.text_model.specs.declared.TextRefusal.{TextRefusal}
use Rattle.text_model.specs.declared.TextRefusal.TheVariants.{Memory}
use Rattle.text_model.specs.Words.{Word}

-- each word is read, and the items are what it is read as; or a word is refused, if there is memory
pub record EachRead {X Z : Type 0} (R : Word → Result X TextRefusal → Type 0) (ws : List Word) (r : Result (Vec X Z) TextRefusal) : Type 0 where
  pub items : IfOk r (λ v. AllZip (λ w x. R w (Ok x)) ws (vec_items v))
  pub refusal : IfErr r (λ e. (e ≢ Memory) → (w : Word) × Contains ws w × R w (Err e))
