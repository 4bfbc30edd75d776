-- What a writer of words appends.
use Rattle.std.specs.Prelude.{◌≡◌, ℕ, List, ◌++◌, Ok, Result, Vec, vec_items}
use Rattle.std.specs.Borrow.{MutBor}

-- a call that succeeds appends the text of its item; `calls x before r after` says that it may answer r
abbrev pub Appends : {X E Z : Type 0} → (X → MutBor (Vec ℕ Z) → Result (Unit {0}) E → MutBor (Vec ℕ Z) → Type 0) → (X → List ℕ) → Type 0
Appends {X} {E} {Z} calls text = (x : X) (before after : MutBor (Vec ℕ Z)) → calls x before (Ok tt) after → vec_items after.now ≡ vec_items before.now ++ text x
