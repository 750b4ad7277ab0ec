-- How large the figures of a class may be, so that the numbers of the code fit 64 bits.
use Rattle.std.specs.Prelude.{ℕ, ◌≤◌}
use Rattle.verdict.specs.declared.class.Figures.{Figures}

-- 100 percent, in the hundredths of a percent in which figures are counted.
abbrev pub hundred_percent : ℕ
hundred_percent = 10000

-- No figure is above 100 percent.
pub record FiguresFit (f : Figures) : Type 0 where
  pub constant_fits : f.constant ≤ hundred_percent
  pub factor_fits : f.factor ≤ hundred_percent
  pub cap_fits : f.cap ≤ hundred_percent
