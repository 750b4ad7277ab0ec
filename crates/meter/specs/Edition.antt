-- The editions of a meter and of the file of its readings: 1, 2 and 3 (docs/FORMAT.md, "Bytes, lines and numbers"). A meter holds its edition as a
-- number, and any number may stand there; one that is no edition is refused (20). All that an edition changes in a meter is said here, and the
-- other files ask for it by these names.
use Rattle.std.specs.Prelude.{ℕ, Bool, leb}
use Rattle.quantity.specs.Refusals.{outside}

-- The newest edition: the editions are the numbers from 1 to this one.
abbrev pub last_edition : ℕ
last_edition = 3

-- A number that is no edition's.
abbrev pub is_other_edition : ℕ → Bool
is_other_edition e = outside e 1 last_edition

-- From edition 2 on a sample whose flow is above the upper limit qs can be accepted, and the meter keeps its seconds apart: above qs a heat meter
-- need not keep its error limit, and the kept seconds tell for how long heat was counted so. Edition 1 refuses such a sample (39).
abbrev pub keeps_seconds : ℕ → Bool
keeps_seconds e = leb 2 e

-- From edition 3 on a sample whose supply is colder than its return can be accepted, and counts as cold. Editions 1 and 2 refuse it (36).
abbrev pub counts_cold : ℕ → Bool
counts_cold e = leb 3 e
