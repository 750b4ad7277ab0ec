-- The numbers by which a test point names its kinds, which are its part, its class and its stage, and how each number is read.
use Rattle.std.specs.Prelude.{◌≡◌, ℕ, true, false, Result, MatchResult}
use Rattle.quantity.specs.Refusals.{outside}
use Rattle.quantity.specs.declared.refusal.Refusal.{Refusal}
use Rattle.verdict.specs.declared.kinds.Part.{Part}
use Rattle.verdict.specs.declared.kinds.Part.TheVariants.{Calculator, SensorPair, FlowSensor, Complete}
use Rattle.verdict.specs.declared.kinds.Class.{Class}
use Rattle.verdict.specs.declared.kinds.Class.TheVariants.{One, Two, Three}
use Rattle.verdict.specs.declared.kinds.Stage.{Stage}
use Rattle.verdict.specs.declared.kinds.Stage.TheVariants.{Verification, InService}

-- The number of each part that can be tested.
abbrev pub part_number : Part → ℕ
part_number Calculator = 1
part_number SensorPair = 2
part_number FlowSensor = 3
part_number Complete = 4

-- The number of each accuracy class.
abbrev pub class_number : Class → ℕ
class_number One = 1
class_number Two = 2
class_number Three = 3

-- The number of each stage.
abbrev pub stage_number : Stage → ℕ
stage_number Verification = 1
stage_number InService = 2

-- A number n is read as a kind: from 1 to the last number it gives the kind that n names, and any other n is refused.
abbrev pub Reads : {K : Type 0} → (K → ℕ) → ℕ → Refusal → ℕ → Result K Refusal → Type 0
Reads number last refusal n r =
    MatchResult r (λ k. (number k ≡ n) × (outside n 1 last ≡ false)) (λ e. (e ≡ refusal) × (outside n 1 last ≡ true))
