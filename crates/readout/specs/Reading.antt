-- Reading a readout (docs/OPERATIONS.md, "Readouts"): the two numbers that bytes say, or the refusal of the first condition that holds, 75 or 76.
use Rattle.std.specs.Prelude.{ℕ, Bool, not, ◌&&◌, ◌||◌, List, [], ◌∷◌, eqb, length, get_or, take, drop, Result, Ok}
use Rattle.std.specs.Result.{result_and}
use Rattle.quantity.specs.Refusals.{row, first_of}
use Rattle.quantity.specs.declared.refusal.Row.{Row}
use Rattle.quantity.specs.declared.refusal.Refusal.{Refusal}
use Rattle.quantity.specs.declared.refusal.Refusal.TheVariants as R
use Rattle.readout.specs.Packed.{digits_in, some_above_nine, unpacked}
use Rattle.readout.specs.Records.{eight_digits, energy_in_kwh, volume_in_litres, readout_length, number_length}
use Rattle.readout.specs.declared.records.WholeUnits.{WholeUnits}

-- A byte stands at a place, counted from 0.
abbrev pub stands : List ℕ → ℕ → ℕ → Bool
stands bs place byte = eqb (get_or bs place 0) byte

-- The bytes are twelve, and each of the two records begins with its two fields.
unfoldable pub has_shape : List ℕ → Bool
has_shape bs =
    eqb (length bs) readout_length &&
    (stands bs 0 eight_digits && (stands bs 1 energy_in_kwh && (stands bs 6 eight_digits && stands bs 7 volume_in_litres)))

-- The four bytes of the energy, and those of the volume.
abbrev pub energy_bytes : List ℕ → List ℕ
energy_bytes bs = take number_length (drop 2 bs)

abbrev pub volume_bytes : List ℕ → List ℕ
volume_bytes bs = take number_length (drop 8 bs)

-- The conditions in order. 75: the bytes have not the shape. 76: of the sixteen digits at least one is above nine.
unfoldable pub read_rows : List ℕ → List Row
read_rows bs =
    row R.ReadoutShape (not (has_shape bs)) ∷
    row R.ReadoutDigit (some_above_nine (digits_in (energy_bytes bs)) || some_above_nine (digits_in (volume_bytes bs))) ∷ []

-- The two numbers that the bytes say.
abbrev pub numbers_in : List ℕ → WholeUnits
numbers_in bs = record { kilowatt_hours = unpacked (energy_bytes bs); litres = unpacked (volume_bytes bs) }

-- What the reader answers.
unfoldable pub read_of : List ℕ → Result WholeUnits Refusal
read_of bs = result_and (first_of (read_rows bs)) (Ok (numbers_in bs))
