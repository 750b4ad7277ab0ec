-- The rows in order: the shape, then the digits of both numbers.
use Rattle.std.proofs.Common.{◌∙◌, sym, arith}
use Rattle.readout.proofs.Written.{twelve, few_left, misshapen, energy_refused, volume_refused, both_read}
use Rattle.readout.proofs.reading.read_records.Goals as goal

pub returns-then-not-has_shape : goal.returns-then-not-has_shape
returns-then-not-has_shape c = misshapen _ (sym c.has_shape.ensures ∙ c.if-not-has_shape.true)

pub slice_bounds-unpacked-end : goal.slice_bounds-unpacked-end
slice_bounds-unpacked-end c = omega (arith, twelve _ (sym c.has_shape.ensures ∙ c.if-not-has_shape.false))

pub slice_bounds-unpacked-count-2 : goal.slice_bounds-unpacked-count-2
slice_bounds-unpacked-count-2 c = omega (arith, twelve _ (sym c.has_shape.ensures ∙ c.if-not-has_shape.false))

pub slice_bounds-unpacked-start-2 : goal.slice_bounds-unpacked-start-2
slice_bounds-unpacked-start-2 c = omega (arith, twelve _ (sym c.has_shape.ensures ∙ c.if-not-has_shape.false))

pub unpacked-requires-2 : goal.unpacked-requires-2
unpacked-requires-2 c = few_left _ (sym c.has_shape.ensures ∙ c.if-not-has_shape.false)

pub returns-in_default : goal.returns-in_default
returns-in_default c =
    volume_refused _ (sym c.has_shape.ensures ∙ c.if-not-has_shape.false) _ c.unpacked-2.ensures c.in_default.is-1

pub returns-in_default-2 : goal.returns-in_default-2
returns-in_default-2 c =
    energy_refused _ (sym c.has_shape.ensures ∙ c.if-not-has_shape.false) _ c.unpacked.ensures c.in_default.is-0

pub returns : goal.returns
returns c =
    both_read _ (sym c.has_shape.ensures ∙ c.if-not-has_shape.false) _ _ c.unpacked.ensures c.unpacked-2.ensures _ _ c.in-Some-Some.is-0 c.in-Some-Some.is-1
