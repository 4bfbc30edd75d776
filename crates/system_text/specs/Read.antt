-- What the functions of this crate answer, as what `text_model` defines.
use Rattle.std.specs.Prelude.{ℕ, Bool, cond, List, map, length, Some, None, Ok, Err, Option, Result, nat_lt, Float}
use Rattle.text_model.specs.declared.TextRefusal.{TextRefusal}
use Rattle.text_model.specs.declared.TextRefusal.TheVariants.{Size, Form}
use Rattle.text_model.specs.Words.{Word, words_of}
use Rattle.text_model.specs.Systems as text
use Rattle.text_model.specs.Factors as factors
use Rattle.system_text.specs.declared.head.Head.{Head}

-- what is of no form is refused
abbrev pub formed : {A : Type 0} → Option A → Result A TextRefusal
formed None = Err Form
formed (Some a) = Ok a

-- the words of a text that is not too long
abbrev pub opened : List ℕ → Result (List Word) TextRefusal
opened t = cond (nat_lt text.longest (length t)) (Err Size) (Ok (words_of t))

abbrev pub head_read : List Word → Head → text.Head
head_read ws h = record { precision = h.precision; size = h.size; rest = ws }

-- whether there are any
abbrev pub any_of : {A : Type 0} → Option (List A) → Option Bool
any_of None = None
any_of (Some xs) = Some (nat_lt 0 (length xs))

abbrev pub system_read : {R : Type 0} → (R → Float) → Head → List R → text.System
system_read val h xs = record { precision = h.precision; size = h.size; entries = map val xs }

abbrev pub factors_read : {R : Type 0} → (R → Float) → Head → List ℕ → List R → List Word → factors.Factored
factors_read val h order lu ws = record { precision = h.precision; size = h.size; order = order; lu = map val lu; rest = ws }
