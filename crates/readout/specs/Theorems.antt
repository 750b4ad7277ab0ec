-- The statements of this crate's theorems: of one answer, of two readouts, and of packed decimal. A statement has its name in small letters in proofs/,
-- where it is proved, and in the contract that promises it.
use Rattle.std.specs.Prelude.{◌≡◌, ◌↔◌, false, List, ℕ, ◌*◌, ◌^◌, ◌<◌, ◌≤◌, length, Result, Ok}
use Rattle.quantity.specs.declared.refusal.Refusal.{Refusal}
use Rattle.buffer.specs.Putting.{CanBePut}
use Rattle.buffer.specs.Theorems.{Fits}
use Rattle.readout.specs.Packed.{digits_in, some_above_nine, number_of_digits, lowest_digits, packed, unpacked}
use Rattle.readout.specs.Records.{readout_of, readout_length, whole_of, largest_number}
use Rattle.readout.specs.Writing.{own_rows}
use Rattle.readout.specs.Reading.{read_of}
use Rattle.readout.specs.declared.records.WholeUnits.{WholeUnits}

-- ---- of one answer

-- Both numbers have eight digits at most.
pub record AtMostEightDigits (w : WholeUnits) : Type 0 where
  pub energy : w.kilowatt_hours ≤ largest_number
  pub volume : w.litres ≤ largest_number

-- The writer answers the position next exactly where both numbers have eight digits at most and twelve bytes from the position at on end at next, within
-- the buffer.
abbrev pub WrittenExactly : ℕ → ℕ → ℕ → ℕ → Result ℕ Refusal → Type 0
WrittenExactly size at heat volume answer =
    (next : ℕ) → (answer ≡ Ok next) ↔ (AtMostEightDigits (whole_of heat volume) × Fits size at readout_length next)

-- The bytes are the readout of a heat and a volume of 64 bits that can be written in some buffer, and w are the whole units of the two.
pub record WrittenOf (bs : List ℕ) (w : WholeUnits) : Type 0 where
  pub heat : ℕ
  pub volume : ℕ
  pub heat_fits : heat < 2 ^ 64
  pub volume_fits : volume < 2 ^ 64
  pub can : CanBePut (own_rows (whole_of heat volume)) (readout_of (whole_of heat volume))
  pub bytes : bs ≡ readout_of (whole_of heat volume)
  pub whole : w ≡ whole_of heat volume

-- Just those bytes are accepted that can be written, and the answer is the whole units of what was written.
abbrev pub AcceptedExactly : List ℕ → Result WholeUnits Refusal → Type 0
AcceptedExactly bs answer = (w : WholeUnits) → (answer ≡ Ok w) ↔ WrittenOf bs w

-- ---- of two readouts

-- No two readouts are read as the same two numbers.
abbrev pub SameBytes : Type 0
SameBytes = (bs cs : List ℕ) (w : WholeUnits) → read_of bs ≡ Ok w → read_of cs ≡ Ok w → bs ≡ cs

-- ---- of packed decimal

-- To each number below 10^n belongs one list of n decimal digits, and to each such list one number: the digits say the number exactly where they are
-- its n lowest.
abbrev pub DigitsAndNumber : Type 0
DigitsAndNumber =
    (n x : ℕ) (ds : List ℕ) →
    ((length ds ≡ n) × (some_above_nine ds ≡ false) × (number_of_digits ds ≡ x)) ↔ ((x < 10 ^ n) × (ds ≡ lowest_digits n x))

-- So it is with n bytes of packed decimal and a number below 10^(2n).
abbrev pub BytesAndNumber : Type 0
BytesAndNumber =
    (n x : ℕ) (bs : List ℕ) →
    ((length bs ≡ n) × (some_above_nine (digits_in bs) ≡ false) × (unpacked bs ≡ x)) ↔ ((x < 10 ^ (2 * n)) × (bs ≡ packed n x))
