use Rattle.std.proofs.Common.{◌≡◌, [], map, length, take}
use Rattle.element.specs.Matrix.{matrix}
use Rattle.model.specs.Solve.{forward, forward_in_range, permuted}
use Rattle.triangular.proofs.Forward.{ForwardTo, ForwardTestsTo}
use Rattle.triangular.proofs.factors.Factors.forward_solve.Given as goal

abbrev pub invariant-loop-i : goal.invariant-loop-i
invariant-loop-i g l =
    let m = g.R.Real in
    let n = l.self.matrix.size in
    let a = map m.val l.self.matrix.entries.now in
    let b = map m.val l.b in
    let o = l.self.order.places.now in
    let done = map m.val (take l.i l.work) in
    (length l.work ≡ length l.initial.work)
    × ForwardTo m.format n a b o done l.i (forward m.format (matrix n a) (permuted b o) [])
    × ForwardTestsTo m.format n a b o done l.i (forward_in_range m.format (matrix n a) (permuted b o) [])
