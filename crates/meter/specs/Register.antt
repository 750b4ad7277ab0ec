-- The two registers of a meter, heat and cold, and which of them counts a sample (docs/OPERATIONS.md, "The registers' bounds"). Whatever is said of
-- a register takes it as a parameter, so that one statement holds of both.
use Rattle.std.specs.Prelude.{ℕ, Bool, true, false, cond}
use Rattle.quantity.specs.Units.{is_colder}
use Rattle.quantity.specs.declared.units.Temperature.{Temperature}
use Rattle.meter.specs.Sample.{ts, tr}
use Rattle.meter.specs.declared.card.Card.{Card}
use Rattle.meter.specs.declared.register.Register.{Register}
use Rattle.meter.specs.declared.register.Register.TheVariants.{Heat, Cold}
use Rattle.meter.specs.declared.sample.Sample.{Sample}
use Rattle.meter.specs.declared.state.Meter.{Meter}

-- What a register holds, in mJ.
abbrev pub register_of : Register → Meter → ℕ
register_of Heat m = m.heat_register
register_of Cold m = m.cold_register

-- Which register counts a sample of these two temperatures, if it is accepted: the cold register where the supply is colder than the return, and
-- otherwise the heat register. An accepted sample is called that register's own.
abbrev pub register_by : Temperature → Temperature → Register
register_by supply_temperature return_temperature = cond (is_colder supply_temperature return_temperature) Cold Heat

-- The same by a sample's ts and tr. The definition names a register for a refused sample too, which no register counts; `is_own` of specs/Sum.antt
-- leaves such a sample out.
abbrev pub own_register : Card → Sample → Register
own_register c s = register_by (ts c s) (tr c s)

-- Whether two names mean one and the same register.
abbrev pub is_same : Register → Register → Bool
is_same Heat Heat = true
is_same Heat Cold = false
is_same Cold Heat = false
is_same Cold Cold = true

-- What a register r gets of n mJ that are the register `own`'s: all of them if r is that one, and otherwise nothing.
abbrev pub added_to : Register → Register → ℕ → ℕ
added_to r own n = cond (is_same r own) n 0
