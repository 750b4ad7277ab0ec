-- Edges, that is, inputs beside which another input gets another answer: the two ends of the range of a Pt 100 (IEC 60751), some readings inside it, and
-- the edges of the verdict. What the definitions answer at each of them is one theorem (`edges` of proofs/Edges.antt). The program is run on these
-- edges too. docs/FORMAT.md: "A sample's volume and temperatures"; docs/OPERATIONS.md: "The temperature of one reading".
use Rattle.std.specs.Prelude.{◌≡◌, ℕ, Result, Ok, Err}
use Rattle.quantity.specs.Refusals.{number_of}
use Rattle.quantity.specs.declared.refusal.Refusal.{Refusal}
use Rattle.quantity.specs.declared.refusal.Refusal.TheVariants.{SupplyBelowRange, SupplyAboveRange}
use Rattle.quantity.specs.declared.range.Role.TheVariants.{Alone}
use Rattle.quantity.specs.declared.units.Temperature.{Temperature}
use Rattle.platinum.specs.Temperature.{temperature_of}
use Rattle.platinum.specs.Refusal.{refusal_of}
use Rattle.platinum.specs.declared.reading.Unmeasured.{Unmeasured}
use Rattle.verdict.specs.Theorems.{VerdictEdges}

-- The temperature of a Pt 100's reading, in 0.0001 ohm, or why it has none.
abbrev pub pt100 : ℕ → Result Temperature Unmeasured
pt100 r = temperature_of 100 r

-- The refusal of such a reading where it stands by itself, and is neither that of the supply nor that of the return.
abbrev pub pt100_refusal : ℕ → Result Unit Refusal
pt100_refusal r = refusal_of Alone (pt100 r)

-- The answer that a reading has a temperature of t hundredths of °C.
abbrev pub gives : ℕ → Result Temperature Unmeasured
gives t = Ok (record { 0 = t })

-- The edges, each with the answer that the definitions give it.
pub record Edges : Type 0 where
  -- The ends of the range: 0.00 °C is the lowest reading that has a temperature, and the one below it is refused with 32; 180.00 °C is the highest, and
  -- the one above it is refused with 70.
  pub lowest : pt100 1000000 ≡ gives 0
  pub below : pt100_refusal 999999 ≡ Err SupplyBelowRange
  pub below_number : number_of SupplyBelowRange ≡ 32
  pub highest : pt100 1684783 ≡ gives 18000
  pub above : pt100_refusal 1684784 ≡ Err SupplyAboveRange
  pub above_number : number_of SupplyAboveRange ≡ 70
  -- Readings inside the range, those of 20.00 °C and 80.00 °C, and two neighbours: the temperature is rounded down, so the last reading below 10.00 °C
  -- has 9.99 °C.
  pub at_20 : pt100 1077935 ≡ gives 2000
  pub at_80 : pt100 1308968 ≡ gives 8000
  pub under_10 : pt100 1039025 ≡ gives 999
  pub at_10 : pt100 1039026 ≡ gives 1000
  -- The verdict of a calculator, of a complete instrument and of a flow sensor, at the limit and beside it.
  pub verdicts : VerdictEdges
