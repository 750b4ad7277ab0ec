-- The state of a meter: its card, its edition and six totals. This page has the fresh meter, the limits of the totals, and the two rows that refuse
-- a state, 20 and 21 (docs/OPERATIONS.md, "The meter's state").
use Rattle.std.specs.Prelude.{ℕ, ◌+◌, ◌-◌, ◌*◌, ◌^◌, List, [], ◌∷◌, ◌++◌, Bool, not, ◌&&◌, ◌||◌, ltb, eqb, Result, Ok}
use Rattle.std.specs.Result.{result_and}
use Rattle.quantity.specs.Refusals.{row, first_of}
use Rattle.quantity.specs.declared.refusal.Refusal.{Refusal}
use Rattle.quantity.specs.declared.refusal.Refusal.TheVariants as R
use Rattle.quantity.specs.declared.refusal.Row.{Row}
use Rattle.meter.specs.Edition.{is_other_edition, keeps_seconds, counts_cold}
use Rattle.meter.specs.Card.{card_rows}
use Rattle.meter.specs.declared.card.Card.{Card}
use Rattle.meter.specs.declared.state.Meter.{Meter}

-- The meter of a card and an edition with all six totals at 0: heat register and cold register in mJ, volume in mL, the counts of accepted and of
-- refused samples, and the kept seconds, which are those of accepted samples whose flow was above qs.
abbrev pub zeros : Card → ℕ → Meter
zeros c e = record { card = c; edition = e; heat_register = 0; volume = 0; accepted = 0; refused = 0; kept_seconds = 0; cold_register = 0 }

-- What refuses a fresh meter: first its card (10 to 18, 77), then a number that is no edition's (20).
abbrev pub fresh_rows : Card → ℕ → List Row
fresh_rows c e = card_rows c ++ (row R.State (is_other_edition e) ∷ [])

-- The fresh meter of a card and an edition: the one with zeros, or the refusal of the first of these rows that applies.
unfoldable pub fresh_of : Card → ℕ → Result Meter Refusal
fresh_of c e = result_and (first_of (fresh_rows c e)) (Ok (zeros c e))

-- The limits of the totals. Either register may hold up to 10^18−1 mJ,
abbrev pub largest_register : ℕ
largest_register = 10 ^ 18 - 1

-- the volume up to 10^15−1 mL,
abbrev pub largest_volume : ℕ
largest_volume = 10 ^ 15 - 1

-- and accepted and refused samples together may be 10^12.
abbrev pub largest_count : ℕ
largest_count = 10 ^ 12

-- A total is above its limit. The number `count` stands for the two counts together. It is given apart from the meter, since the code takes the
-- largest number of 64 bits for a sum that passes 64 bits, and this number is above the limit as the sum is.
abbrev pub passes_limit_by : Meter → ℕ → Bool
passes_limit_by m count =
    ltb largest_register m.heat_register || ltb largest_register m.cold_register || ltb largest_volume m.volume || ltb largest_count count

-- The same, where that number is the sum of the meter's own two counts.
abbrev pub passes_limit : Meter → Bool
passes_limit m = passes_limit_by m (m.accepted + m.refused)

-- The longest time of a sample in seconds, an hour (row 30 of specs/Step.antt); so no accepted sample adds more to the kept seconds.
abbrev pub most_seconds : ℕ
most_seconds = 3600

-- The edition and the totals of a meter cannot belong together: the edition is none of the three; or the meter has kept more seconds than its
-- accepted samples can have had, at 3600 each; or a total is above 0 that its edition lacks, namely the kept seconds in edition 1 or the cold
-- register in editions 1 and 2.
abbrev pub misfits_edition : Meter → Bool
misfits_edition m =
    is_other_edition m.edition
    || ltb (most_seconds * m.accepted) m.kept_seconds
    || (not (keeps_seconds m.edition) && ltb 0 m.kept_seconds)
    || (not (counts_cold m.edition) && ltb 0 m.cold_register)

-- A state is refused with 20 if a total is above its limit, or if the totals do not fit the edition. It is refused with 21 if the two counts
-- together have reached their limit, so that no further sample can be counted.
unfoldable pub state_rows : Meter → List Row
state_rows m = row R.State (passes_limit m || misfits_edition m) ∷ row R.CountsFull (eqb (m.accepted + m.refused) largest_count) ∷ []
