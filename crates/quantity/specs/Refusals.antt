-- The refusals, and how it is decided which of them is given. Conditions that refuse are written as rows: each names a refusal and the condition
-- under which it is given. Rows are tried one after the other. The first whose condition holds decides, and where no condition holds nothing is
-- refused. docs/OPERATIONS.md, "Refusals", has a sentence for each number, and the order of the rows of each operation.
use Rattle.std.specs.Prelude.{◌≡◌, ℕ, List, [], ◌∷◌, Bool, false, cond, ◌||◌, ltb, Result, Ok, Err}
use Rattle.quantity.specs.declared.refusal.Refusal.{Refusal}
use Rattle.quantity.specs.declared.refusal.Refusal.TheVariants as R
use Rattle.quantity.specs.declared.refusal.Row.{Row}

-- Each refusal has a number of its own. A number that does not stand here is given by no operation. src/refusal.rt says in a line what each refusal
-- means.
unfoldable pub number_of : Refusal → ℕ
number_of R.Serial = 10
number_of R.Place = 11
number_of R.SensorKind = 12
number_of R.PulseVolume = 13
number_of R.ThetaRange = 14
number_of R.DeltaMin = 15
number_of R.DeltaMax = 16
number_of R.FlowRates = 17
number_of R.PowerLimit = 18
number_of R.State = 20
number_of R.CountsFull = 21
number_of R.Seconds = 30
number_of R.Volume = 31
number_of R.SupplyBelowRange = 32
number_of R.ReturnBelowRange = 33
number_of R.SupplyOutsideTheta = 34
number_of R.ReturnOutsideTheta = 35
number_of R.SupplyBelowReturn = 36
number_of R.DifferenceTooSmall = 37
number_of R.DifferenceTooLarge = 38
number_of R.FlowAboveQs = 39
number_of R.PowerAbovePs = 40
number_of R.RegisterFull = 41
number_of R.Part = 50
number_of R.Class = 51
number_of R.Stage = 52
number_of R.TestDifference = 53
number_of R.TestFlow = 54
number_of R.Values = 55
number_of R.Edition = 60
number_of R.Shape = 61
number_of R.Number = 62
number_of R.Totals = 64
number_of R.BytesAfter = 65
number_of R.Room = 66
number_of R.PlaceBeyond = 67
number_of R.InputSize = 68
number_of R.SupplyAboveRange = 70
number_of R.ReturnAboveRange = 71
number_of R.OneEditionAlone = 72
number_of R.Profile = 73
number_of R.ReadoutNumber = 74
number_of R.ReadoutShape = 75
number_of R.ReadoutDigit = 76
number_of R.Pressure = 77
number_of R.FilePressure = 78
number_of R.UnequalColumns = 79

-- A row: a refusal, and the condition under which it is given.
abbrev pub row : Refusal → Bool → Row
row r b = record { refusal = r; condition = b }

-- A number lies outside the range low..high. Both ends are inside it. Many conditions are of this form.
unfoldable pub outside : ℕ → ℕ → ℕ → Bool
outside x low high = ltb x low || ltb high x

-- What rows answer: the refusal of the first one whose condition holds, or no refusal.
unfoldable pub first_of : List Row → Result Unit Refusal
first_of [] = Ok tt
first_of (r ∷ rs) = cond r.condition (Err r.refusal) (first_of rs)

-- The number of an operation's answer, whatever it answers where it does not refuse: that of the refusal, and 0 where there is none.
unfoldable pub refusal_number : {A : Type 0} → Result A Refusal → ℕ
refusal_number (Ok a) = 0
refusal_number (Err r) = number_of r

-- The number that rows give: that of the first one whose condition holds, and 0 where none does. An operation with one list of rows promises this
-- number of its answer.
unfoldable pub first_number : List Row → ℕ
first_number [] = 0
first_number (r ∷ rs) = cond r.condition (number_of r.refusal) (first_number rs)

-- No row applies: every condition is false.
abbrev pub NoneApplies : List Row → Type 0
NoneApplies [] = Unit {0}
NoneApplies (r ∷ rs) = (r.condition ≡ false) × NoneApplies rs
