-- The numbers of the refusals differ: what a number is given back as.
-- Assumes nothing.
use mathlib.Core.Path.{◌≡◌, refl, sym, ap, ◌∙◌}
use mathlib.Core.Bool.{cond}
use Prim.Native.Nat.{ℕ}
use lib.Dec.{eqb}
use Rattle.quantity.specs.Refusals.{number_of}
use Rattle.quantity.specs.Theorems.{NumbersDiffer}
use Rattle.quantity.specs.declared.refusal.Refusal.{Refusal}
use Rattle.quantity.specs.declared.refusal.Refusal.TheVariants as R

-- the refusal of a number; of another number, some refusal
numbered : ℕ → Refusal
numbered n =
    cond (eqb n 10) R.Serial (
    cond (eqb n 11) R.Place (
    cond (eqb n 12) R.SensorKind (
    cond (eqb n 13) R.PulseVolume (
    cond (eqb n 14) R.ThetaRange (
    cond (eqb n 15) R.DeltaMin (
    cond (eqb n 16) R.DeltaMax (
    cond (eqb n 17) R.FlowRates (
    cond (eqb n 18) R.PowerLimit (
    cond (eqb n 20) R.State (
    cond (eqb n 21) R.CountsFull (
    cond (eqb n 30) R.Seconds (
    cond (eqb n 31) R.Volume (
    cond (eqb n 32) R.SupplyBelowRange (
    cond (eqb n 33) R.ReturnBelowRange (
    cond (eqb n 34) R.SupplyOutsideTheta (
    cond (eqb n 35) R.ReturnOutsideTheta (
    cond (eqb n 36) R.SupplyBelowReturn (
    cond (eqb n 37) R.DifferenceTooSmall (
    cond (eqb n 38) R.DifferenceTooLarge (
    cond (eqb n 39) R.FlowAboveQs (
    cond (eqb n 40) R.PowerAbovePs (
    cond (eqb n 41) R.RegisterFull (
    cond (eqb n 50) R.Part (
    cond (eqb n 51) R.Class (
    cond (eqb n 52) R.Stage (
    cond (eqb n 53) R.TestDifference (
    cond (eqb n 54) R.TestFlow (
    cond (eqb n 55) R.Values (
    cond (eqb n 60) R.Edition (
    cond (eqb n 61) R.Shape (
    cond (eqb n 62) R.Number (
    cond (eqb n 64) R.Totals (
    cond (eqb n 65) R.BytesAfter (
    cond (eqb n 66) R.Room (
    cond (eqb n 67) R.PlaceBeyond (
    cond (eqb n 68) R.InputSize (
    cond (eqb n 70) R.SupplyAboveRange (
    cond (eqb n 71) R.ReturnAboveRange (
    cond (eqb n 72) R.OneEditionAlone (
    cond (eqb n 73) R.Profile (
    cond (eqb n 74) R.ReadoutNumber (
    cond (eqb n 75) R.ReadoutShape (
    cond (eqb n 76) R.ReadoutDigit (
    cond (eqb n 77) R.Pressure (
    cond (eqb n 78) R.FilePressure (
    R.UnequalColumns))))))))))))))))))))))))))))))))))))))))))))))

given_back : (p : Refusal) → numbered (number_of p) ≡ p
unfolding number_of numbered
given_back R.Serial = refl
given_back R.Place = refl
given_back R.SensorKind = refl
given_back R.PulseVolume = refl
given_back R.ThetaRange = refl
given_back R.DeltaMin = refl
given_back R.DeltaMax = refl
given_back R.FlowRates = refl
given_back R.PowerLimit = refl
given_back R.State = refl
given_back R.CountsFull = refl
given_back R.Seconds = refl
given_back R.Volume = refl
given_back R.SupplyBelowRange = refl
given_back R.ReturnBelowRange = refl
given_back R.SupplyOutsideTheta = refl
given_back R.ReturnOutsideTheta = refl
given_back R.SupplyBelowReturn = refl
given_back R.DifferenceTooSmall = refl
given_back R.DifferenceTooLarge = refl
given_back R.FlowAboveQs = refl
given_back R.PowerAbovePs = refl
given_back R.RegisterFull = refl
given_back R.Part = refl
given_back R.Class = refl
given_back R.Stage = refl
given_back R.TestDifference = refl
given_back R.TestFlow = refl
given_back R.Values = refl
given_back R.Edition = refl
given_back R.Shape = refl
given_back R.Number = refl
given_back R.Totals = refl
given_back R.BytesAfter = refl
given_back R.Room = refl
given_back R.PlaceBeyond = refl
given_back R.InputSize = refl
given_back R.SupplyAboveRange = refl
given_back R.ReturnAboveRange = refl
given_back R.OneEditionAlone = refl
given_back R.Profile = refl
given_back R.ReadoutNumber = refl
given_back R.ReadoutShape = refl
given_back R.ReadoutDigit = refl
given_back R.Pressure = refl
given_back R.FilePressure = refl
given_back R.UnequalColumns = refl

pub numbers_differ : NumbersDiffer
numbers_differ p q e = sym (given_back p) ∙ ap numbered e ∙ given_back q
