-- The refusals of a program as what it prints, and how the refusals of the calls are among them.
use Rattle.std.specs.Prelude.{◌≡◌, ℕ, false, List, [], ◌∷◌, ◌++◌, Ok, Err, codes, Result, ◌≢◌}
use Rattle.std.specs.Fmt.{digits}
use Rattle.element.specs.Refusals.{input_number}
use Rattle.model.specs.declared.FactorRefusal.{FactorRefusal}
use Rattle.model.specs.declared.FactorRefusal.TheVariants as factoring
use Rattle.model.specs.declared.SolveRefusal.{SolveRefusal}
use Rattle.model.specs.declared.SolveRefusal.TheVariants as solving
use Rattle.model.specs.declared.AgainRefusal.{AgainRefusal}
use Rattle.model.specs.declared.AgainRefusal.TheVariants as again
use Rattle.text_model.specs.declared.TextRefusal.{TextRefusal}
use Rattle.text_model.specs.declared.TextRefusal.TheVariants.{Size, Form, Count, Factors, Factoring, Solving, Memory}

-- ---- the refusals of the calls
abbrev pub solve_refusal : SolveRefusal → TextRefusal
solve_refusal (solving.Factoring e) = Factoring e
solve_refusal solving.Range = Solving

abbrev pub again_refusal : AgainRefusal → TextRefusal
again_refusal (again.Input e) = Factoring (factoring.Input e)
again_refusal again.Factors = Factors
again_refusal again.Range = Solving

-- ---- what is printed: the number, with the column at which a factoring ended, or `solving`
abbrev pub decimal : ℕ → List ℕ
decimal n = digits 10 false n

abbrev pub factoring_detail : FactorRefusal → List ℕ
factoring_detail (factoring.Input e) = decimal (input_number e)
factoring_detail (factoring.Pivot k) = codes "5 " ++ decimal k
factoring_detail (factoring.Range k) = codes "6 " ++ decimal k

-- want of memory is no refusal of a text: the program that meets it prints no line
abbrev pub detail : TextRefusal → List ℕ
detail Size = codes "1"
detail Form = codes "7"
detail Count = codes "8"
detail Factors = codes "4"
detail (Factoring e) = factoring_detail e
detail Solving = codes "6 solving"
detail Memory = []

abbrev pub no_answer : TextRefusal → List ℕ
no_answer e = codes "no answer " ++ (detail e ++ 10 ∷ [])

-- ---- what a function of texts answers: what is expected, seen as `view` shows it, or that there is no memory
abbrev pub Answered : {A B : Type 0} → (A → B) → Result B TextRefusal → Result A TextRefusal → Type 0
Answered view expected (Ok a) = expected ≡ Ok (view a)
Answered view expected (Err e) = (e ≢ Memory) → expected ≡ Err e
