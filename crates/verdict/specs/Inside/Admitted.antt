-- What an admitted test point is in the code: one that no row refuses, and whose kinds (part, class and stage) are cases and no longer numbers.
use Rattle.std.specs.Prelude.{◌≡◌, Result, Err, MatchResult}
use Rattle.quantity.specs.Refusals.{first_of}
use Rattle.quantity.specs.declared.refusal.Refusal.{Refusal}
use Rattle.verdict.specs.Rows.{point_rows, Admitted}
use Rattle.verdict.specs.Inside.Kinds.{part_number, class_number, stage_number}
use Rattle.verdict.specs.declared.admitted.AdmittedPoint.{AdmittedPoint}
use Rattle.verdict.specs.declared.point.TestPoint.{TestPoint}

-- The test point that an admitted one was made of: each kind is again the number that names it.
abbrev pub point_of : AdmittedPoint → TestPoint
point_of a =
    record {
      part = part_number a.part;
      class = class_number a.class;
      stage = stage_number a.stage;
      delta_min = a.delta_min;
      difference = a.difference;
      qp = a.qp;
      q = a.q;
    }

-- A test point that no row refuses is admitted as it stands; any other is refused by the first row that applies.
abbrev pub Admits : TestPoint → Result AdmittedPoint Refusal → Type 0
Admits p r = MatchResult r (λ a. (point_of a ≡ p) × Admitted p) (λ e. first_of (point_rows p) ≡ Err e)
