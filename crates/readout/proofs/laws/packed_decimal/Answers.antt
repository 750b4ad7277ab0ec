-- Both statements are lemmas of PackedDecimal.
use Rattle.readout.proofs.PackedDecimal.{digits_and_number, bytes_and_number}
use Rattle.readout.proofs.laws.packed_decimal.Goals as goal

pub returns-clause-digits_and_number : goal.returns-clause-digits_and_number
returns-clause-digits_and_number c = digits_and_number

pub returns-clause-bytes_and_number : goal.returns-clause-bytes_and_number
returns-clause-bytes_and_number c = bytes_and_number
