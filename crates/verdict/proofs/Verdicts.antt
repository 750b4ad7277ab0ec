-- What the rows' answer and what follows it tell of each other.
-- Assumes nothing.
use mathlib.Core.Path.{◌≡◌, refl, sym, ◌∙◌}
use mathlib.Core.Bool.{Bool, true, false}
use mathlib.Core.List.{List}
use mathlib.Core.Logic.{◌↔◌}
use Prim.Native.Nat.{ℕ}
use Rattle.std.specs.Prelude.{Result, Ok}
use Rattle.quantity.specs.Refusals.{first_of, NoneApplies}
use Rattle.quantity.specs.declared.refusal.Refusal.{Refusal}
use Rattle.quantity.specs.declared.refusal.Row.{Row}
use Rattle.std.specs.Result.{result_and}
use Rattle.quantity.proofs.Rows.{answered, none_applies, no_refusal}
use Rattle.verdict.specs.Limit.{figures_of, limit_of}
use Rattle.verdict.specs.Rows.{verdict_rows}
use Rattle.verdict.specs.Theorems.{PassesExactly}
use Rattle.verdict.specs.Verdict.{passes, answer, verdict_of}
use Rattle.verdict.specs.declared.point.TestPoint.{TestPoint}
use Rattle.verdict.specs.declared.bench.Verdict.{Verdict}
use Rattle.verdict.specs.declared.bench.Verdict.TheVariants.{Pass}
use Rattle.verdict.proofs.Passing.{within}

-- a pass comes exactly where no row refuses and the comparison holds
passed : (b : Bool) → answer b ≡ Pass → b ≡ true
passed true e = refl
passed false e = cc

pub pass_exactly : (rs : List Row) (b : Bool) → (result_and (first_of rs) (Ok (answer b)) ≡ Ok Pass) ↔ (NoneApplies rs × (b ≡ true))
pass_exactly rs b = (
  λ e.
      let s = answered (first_of rs) (answer b) Pass e in
      (none_applies rs s.0, passed b s.1),
  λ h. simp (no_refusal rs h.0, h.1),
)

pub passes_exactly : (p : TestPoint) (i x : ℕ) (y : Result Verdict Refusal) → y ≡ verdict_of p i x → PassesExactly p i x y
unfolding verdict_of
passes_exactly p i x y same =
    let l = limit_of (figures_of p.class) p in
    let exactly = pass_exactly (verdict_rows p i x) (passes l i x) in (
      λ e. let h = exactly.0 (sym same ∙ e) in (h.0, (within l i x).0 h.1),
      λ h. same ∙ exactly.1 (h.0, (within l i x).1 h.1),
    )
