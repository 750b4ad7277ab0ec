-- Writing a readout (docs/OPERATIONS.md, "Readouts"). It is put into a buffer as any text is (Putting of the crate buffer): 67, then 74, then 66.
use Rattle.std.specs.Prelude.{ℕ, ◌||◌, List, [], ◌∷◌, ltb, length, Result}
use Rattle.quantity.specs.Refusals.{row}
use Rattle.quantity.specs.declared.refusal.Row.{Row}
use Rattle.quantity.specs.declared.refusal.Refusal.{Refusal}
use Rattle.quantity.specs.declared.refusal.Refusal.TheVariants as R
use Rattle.buffer.specs.Putting.{put_rows, put_of}
use Rattle.readout.specs.Records.{readout_of, whole_of, largest_number}
use Rattle.readout.specs.declared.records.WholeUnits.{WholeUnits}

-- What refuses a readout wherever it is to be written. 74: one of its two numbers is above 99999999, and so has more than eight digits.
unfoldable pub own_rows : WholeUnits → List Row
own_rows w = row R.ReadoutNumber (ltb largest_number w.kilowatt_hours || ltb largest_number w.litres) ∷ []

-- All conditions in order, for a buffer of size bytes, a heat in mJ and a volume in mL.
abbrev pub write_rows : ℕ → ℕ → ℕ → ℕ → List Row
write_rows size at heat volume = put_rows size at (own_rows (whole_of heat volume)) (length (readout_of (whole_of heat volume)))

-- What the writer answers: the position behind the readout, or the refusal of the first condition that holds.
abbrev pub written_of : ℕ → ℕ → ℕ → ℕ → Result ℕ Refusal
written_of size at heat volume = put_of size at (own_rows (whole_of heat volume)) (readout_of (whole_of heat volume))
