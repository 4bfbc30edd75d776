use Rattle.std.proofs.Common.{◌<◌, ◌∙◌, arith}
use Rattle.number_text.proofs.Exactly.{none_read, zero-exactly, too_low, too_long, too_high, held, taken}
use Rattle.number_text.proofs.exact_word.exact_value.Goals as goal
use Rattle.number_text.proofs.exact_word.exact_value.Goals.{then-digits-precision-via-then-digits-precision, then-digits-precision-via-else-digits-precision+then-digits-place}

pub returns-then-m-eq0 : goal.returns-then-m-eq0
returns-then-m-eq0 g c =
    zero-exactly g.R.Real.format c.args.negative c.args.m c.args.up c.args.down c.if-m-eq0.true (g.R.Real.val c.from_units.result) c.from_units.ensures

pub returns-in_err-place : goal.returns-in_err-place
returns-in_err-place g c =
    let a = c.args in
    none_read g.R.Real.val c.from_residual.result c.from_residual.ensures.0
    ∙ too_low g.R.Real.format a.negative a.m a.up a.down c.precision-precision.result c.low-low.result (omega arith) c.requires.0 c.precision-precision.ensures c.low-low.ensures c.checked_sub.result c.checked_sub.ensures c.in_err-place.ensures.ok_part

pub returns-then-digits-precision : goal.returns-then-digits-precision
returns-then-digits-precision g c =
    let a = c.args in
    let positive : 0 < a.m = omega arith in
    elim c.then-digits-precision.branch [
      | then-digits-precision-via-then-digits-precision w ↦
          too_long g.R.Real.format a.negative a.m a.up a.down c.precision-precision.result c.low-low.result positive c.requires.0 c.precision-precision.ensures c.low-low.ensures c.checked_sub.result c.checked_sub.ensures c.in_ok-place.place c.in_ok-place.ensures.ok_part w.if-digits-precision.true
      | then-digits-precision-via-else-digits-precision+then-digits-place w ↦
          too_high g.R.Real.format a.negative a.m a.up a.down c.precision-precision.result c.low-low.result positive c.requires.0 c.precision-precision.ensures c.low-low.ensures c.checked_sub.result c.checked_sub.ensures c.in_ok-place.place c.in_ok-place.ensures.ok_part w.if-digits-place.true
    ]

pub from_units-requires-2 : goal.from_units-requires-2
from_units-requires-2 g c =
    let a = c.args in
    held g.R.Real.format a.negative a.m a.up a.down c.precision-precision.result c.low-low.result (omega arith) c.requires.0 c.precision-precision.ensures c.low-low.ensures c.checked_sub.result c.checked_sub.ensures c.in_ok-place.place c.in_ok-place.ensures.ok_part
    c.min-room.result c.min-room.ensures c.if-digits-precision.false c.if-digits-place.false

pub returns : goal.returns
returns g c =
    let a = c.args in
    taken g.R.Real.format a.negative a.m a.up a.down c.precision-precision.result c.low-low.result (omega arith) c.requires.0 c.precision-precision.ensures c.low-low.ensures c.checked_sub.result c.checked_sub.ensures c.in_ok-place.place c.in_ok-place.ensures.ok_part
    c.min-room.result c.min-room.ensures c.if-digits-precision.false c.if-digits-place.false (g.R.Real.val c.from_units-2.result) c.from_units-2.ensures
