-- The call `multiply` as a function of its arguments: which refusal, and what the output holds afterwards.
use Rattle.std.specs.Prelude.{ℕ, ◌*◌, Bool, cond, ◌&&◌, length, is_ok, Ok, Err, Result, ◌==◌, nat_le}
use Rattle.std.specs.Float.{Format}
use Rattle.element.specs.declared.refusal.InputRefusal.{InputRefusal}
use Rattle.element.specs.declared.refusal.InputRefusal.TheVariants.{Size, Length, Entry}
use Rattle.element.specs.declared.refusal.MultiplyRefusal.{MultiplyRefusal}
use Rattle.element.specs.declared.refusal.MultiplyRefusal.TheVariants.{Input, Range}
use Rattle.element.specs.Matrix.{Row, matrix, all_finite}
use Rattle.element.specs.Products.{sum_rows, rows_in_range}

-- the sizes that the library takes
abbrev pub size_taken : ℕ → Bool
size_taken n = nat_le 1 n && nat_le n 128

-- what is looked for before any work, in this order
abbrev pub inputs : Bool → Bool → Bool → Result (Unit {0}) InputRefusal
inputs size lengths entries = cond size (cond lengths (cond entries (Ok tt) (Err Entry)) (Err Length)) (Err Size)

-- the lengths of the matrix, the vector and the output
abbrev pub lengths_fit : ℕ → ℕ → ℕ → ℕ → Bool
lengths_fit n k l m = k == n * n && l == n && m == n

-- m is the length of the output
abbrev pub multiply_inputs : ℕ → Row → Row → ℕ → Result (Unit {0}) InputRefusal
multiply_inputs n a x m = inputs (size_taken n) (lengths_fit n (length a) (length x) m) (all_finite a && all_finite x)

abbrev pub multiplied : Format → ℕ → Row → Row → Result (Unit {0}) InputRefusal → Result (Unit {0}) MultiplyRefusal
multiplied f n a x (Ok u) = cond (rows_in_range f (matrix n a) x) (Ok tt) (Err Range)
multiplied f n a x (Err e) = Err (Input e)

abbrev pub multiply_outcome : Format → ℕ → Row → Row → ℕ → Result (Unit {0}) MultiplyRefusal
multiply_outcome f n a x m = multiplied f n a x (multiply_inputs n a x m)

-- the output afterwards, y being what it held before
abbrev pub multiply_output : Format → ℕ → Row → Row → Row → Row
multiply_output f n a x y = cond (is_ok (multiply_outcome f n a x (length y))) (sum_rows f (matrix n a) x) y
