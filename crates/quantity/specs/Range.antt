-- The refusals where a temperature misses its range, 0.00 to 180.00 °C. A short in a sensor's leads makes its reading too low, and a broken lead
-- makes it too high; so the two ends have numbers of their own. Below the range it is 32 for the supply and 33 for the return; above it, 70 for the
-- supply and 71 for the return. A temperature that is asked for by itself has the supply's numbers. docs/FORMAT.md, "Which samples are accepted",
-- has these as its third condition.
use Rattle.std.specs.Prelude.{ℕ}
use Rattle.quantity.specs.Refusals.{number_of}
use Rattle.quantity.specs.declared.range.Role.{Role}
use Rattle.quantity.specs.declared.range.Role.TheVariants.{Alone, Supply, Return}
use Rattle.quantity.specs.declared.range.End.{End}
use Rattle.quantity.specs.declared.range.End.TheVariants.{Low, High}
use Rattle.quantity.specs.declared.refusal.Refusal.{Refusal}
use Rattle.quantity.specs.declared.refusal.Refusal.TheVariants.{SupplyBelowRange, ReturnBelowRange, SupplyAboveRange, ReturnAboveRange}

-- The refusal, by whose temperature it is (`Role`) and by the end of the range that it misses.
unfoldable pub refusal_at_end : Role → End → Refusal
refusal_at_end Alone Low = SupplyBelowRange
refusal_at_end Alone High = SupplyAboveRange
refusal_at_end Supply Low = SupplyBelowRange
refusal_at_end Supply High = SupplyAboveRange
refusal_at_end Return Low = ReturnBelowRange
refusal_at_end Return High = ReturnAboveRange

-- Its number. From the number alone it can be told which end it was (`TellsEnd` of specs/Theorems.antt).
abbrev pub end_number : Role → End → ℕ
end_number role e = number_of (refusal_at_end role e)
