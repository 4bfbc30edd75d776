-- What a finite sum, difference or quotient says of its operands: an infinity or a NaN never becomes finite again.
use Rattle.std.proofs.Common.{true, false, T}
use lib.Ieee.{Float, nan, inf, fin, Format, neg, add, sub, div}
use lib.Ieee.Scale.{finite}

pub sum_operands : (f : Format) (x y : Float) → T (finite (add f x y)) → T (finite x) × T (finite y)
unfolding add
sum_operands f nan y t = absurd t
sum_operands f (inf s) nan t = absurd t
sum_operands f (inf false) (inf false) t = absurd t
sum_operands f (inf false) (inf true) t = absurd t
sum_operands f (inf true) (inf false) t = absurd t
sum_operands f (inf true) (inf true) t = absurd t
sum_operands f (inf s) (fin u n d) t = absurd t
sum_operands f (fin s m e) nan t = absurd t
sum_operands f (fin s m e) (inf u) t = absurd t
sum_operands f (fin s m e) (fin u n d) t = (tt, tt)

finite-neg : (x : Float) → T (finite (neg x)) → T (finite x)
unfolding neg
finite-neg nan t = t
finite-neg (inf s) t = t
finite-neg (fin s m e) t = t

pub difference_operands : (f : Format) (x y : Float) → T (finite (sub f x y)) → T (finite x) × T (finite y)
unfolding sub
difference_operands f x y t = let p = sum_operands f x (neg y) t in (p.0, finite-neg y p.1)

pub quotient-dividend : (f : Format) (x y : Float) → T (finite (div f x y)) → T (finite x)
unfolding div
quotient-dividend f nan y t = t
quotient-dividend f (inf s) nan t = t
quotient-dividend f (inf s) (inf r) t = t
quotient-dividend f (inf s) (fin r n d) t = t
quotient-dividend f (fin s m e) y t = tt
