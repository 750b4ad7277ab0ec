-- What is proved of the refusals' numbers, of rows, and of lowest terms. Each statement has the name of the clause or of the law that promises it.
use Rattle.std.specs.Prelude.{◌≡◌, List, ◌↔◌, Result, Ok}
use Rattle.quantity.specs.Divisors.{InLowestTerms}
use Rattle.quantity.specs.Fractions.{IsFraction, Represents}
use Rattle.quantity.specs.Range.{end_number}
use Rattle.quantity.specs.Refusals.{number_of, NoneApplies}
use Rattle.quantity.specs.declared.fraction.Fraction.{Fraction}
use Rattle.quantity.specs.declared.range.End.{End}
use Rattle.quantity.specs.declared.range.Role.{Role}
use Rattle.quantity.specs.declared.refusal.Refusal.{Refusal}
use Rattle.quantity.specs.declared.refusal.Row.{Row}

-- No two refusals have one number.
abbrev pub NumbersDiffer : Type 0
NumbersDiffer = (p q : Refusal) → number_of p ≡ number_of q → p ≡ q

-- Rows refuse nothing exactly where no condition of theirs holds.
abbrev pub RefusesNothing : List Row → Result Unit Refusal → Type 0
RefusesNothing rows answer = (answer ≡ Ok tt) ↔ NoneApplies rows

-- A number tells the end of the range that was missed, whosever temperature it is: no number of the low end, be it of the supply, of the return or
-- of a temperature by itself, is one of the high end.
abbrev pub TellsEnd : Type 0
TellsEnd = (p q : Role) (e f : End) → end_number p e ≡ end_number q f → e ≡ f

-- Reduced, a fraction has the same value and is in lowest terms; and no other pair of numbers is both.
abbrev pub ReducedExactly : Fraction → Fraction → Type 0
ReducedExactly x answer = (r : Fraction) → IsFraction x → (r ≡ answer) ↔ (Represents r x × InLowestTerms r)
