-- A readout: twelve bytes that tell a bus master (EN 13757-3) the heat and the volume of a meter (docs/OPERATIONS.md, "Readouts"). They are two data
-- records of six bytes, one for each number. A record begins with its data information field (DIF), which says how the number is written, and its value
-- information field (VIF), which says what it counts.
use Rattle.std.specs.Prelude.{ℕ, ◌/◌, List, ◌∷◌, ◌++◌}
use Rattle.readout.specs.Packed.{packed}
use Rattle.readout.specs.declared.records.WholeUnits.{WholeUnits}

-- The DIF of both records, 0C in hexadecimal: eight digits of packed decimal.
abbrev pub eight_digits : ℕ
eight_digits = 12

-- The VIF of the first record, 06: energy in kWh.
abbrev pub energy_in_kwh : ℕ
energy_in_kwh = 6

-- The VIF of the second record, 13 in hexadecimal: volume in litres.
abbrev pub volume_in_litres : ℕ
volume_in_litres = 19

-- How many bytes eight digits take.
abbrev pub number_length : ℕ
number_length = 4

-- A record of a number: its two fields, and the number's eight lowest digits.
unfoldable pub record_of : ℕ → ℕ → List ℕ
record_of vif number = eight_digits ∷ vif ∷ packed number_length number

-- The twelve bytes of two numbers.
unfoldable pub readout_of : WholeUnits → List ℕ
readout_of w = record_of energy_in_kwh w.kilowatt_hours ++ record_of volume_in_litres w.litres

-- How many bytes a readout has.
abbrev pub readout_length : ℕ
readout_length = 12

-- What is told of a heat in mJ and a volume in mL: the whole kWh, of 3600000000 mJ each, and the whole litres, of 1000 mL each. Both are rounded down.
unfoldable pub whole_of : ℕ → ℕ → WholeUnits
whole_of heat volume = record { kilowatt_hours = heat / 3600000000; litres = volume / 1000 }

-- The largest number of eight digits.
abbrev pub largest_number : ℕ
largest_number = 99999999
