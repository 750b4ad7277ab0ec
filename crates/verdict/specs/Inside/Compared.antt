-- What the two values of a comparison are once 55 does not refuse them.
use Rattle.std.specs.Prelude.{◌≡◌, ℕ, true, false, Option, MatchOption}
use Rattle.verdict.specs.Rows.{value_outside}
use Rattle.verdict.specs.declared.values.Values.{Values}

-- The pair of values is made exactly where 55 does not refuse them, and then holds these two.
abbrev pub AreValues : ℕ → ℕ → Option Values → Type 0
AreValues i x o =
    MatchOption o (value_outside i x ≡ true) (λ v. (v.indicated ≡ i) × (v.conventional_true ≡ x) × (value_outside i x ≡ false))
