-- What `again` prints for the words after the factors, and for the whole text with its refusals apart.
use Rattle.std.specs.Prelude.{◌≡◌, ℕ, ◌<◌, Bool, true, cond, List, [], ◌++◌, length, Ok, Err, Result}
use Rattle.std.specs.Float.{Format}
use Rattle.element.specs.Matrix.{Row}
use Rattle.model.specs.Calls.{factors_sound}
use Rattle.text_model.specs.declared.TextRefusal.{TextRefusal}
use Rattle.text_model.specs.declared.TextRefusal.TheVariants.{Factors}
use Rattle.text_model.specs.Words.{Word}
use Rattle.text_model.specs.Systems.{Head, format}
use Rattle.text_model.specs.Factors.{Factored, factors_after}
use Rattle.text_model.specs.Programs.{answers}

-- the lines for all right sides in the words
abbrev pub all_answers : Format → ℕ → Row → List ℕ → List Word → List ℕ
all_answers f n lu order ws = answers (length ws) f n lu order ws

-- One right side of the words ws is answered, and vs are left: what is written, with the lines for vs if there is more to
-- answer, comes to the lines for ws.
pub record AnswersNext (f : Format) (n : ℕ) (lu : Row) (order : List ℕ) (ws vs : List Word) (before after : List ℕ) (more : Bool) : Type 0 where
  pub lines : after ++ cond more (all_answers f n lu order vs) [] ≡ before ++ all_answers f n lu order ws
  pub fewer : more ≡ true → length vs < length ws

-- ---- the lines for a text, or its refusal
abbrev pub again_lines_of : Result Factored TextRefusal → Result (List ℕ) TextRefusal
again_lines_of (Ok h) =
    cond (factors_sound h.size h.lu h.order)
    (Ok (all_answers (format h.precision) h.size h.lu h.order h.rest))
    (Err Factors)
again_lines_of (Err e) = Err e

-- after the head of a text
abbrev pub again_lines : Head → Result (List ℕ) TextRefusal
again_lines h = again_lines_of (factors_after (Ok h))
