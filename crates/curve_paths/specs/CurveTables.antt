-- What the type of a curve keeps.
use Rattle.std.specs.Prelude.{◌≤◌, List, length}
use Rattle.obd_base.specs.declared.points.Exit.{Exit}
use Rattle.curve_paths.specs.Curves.{IsSomeCurve}

-- 1 to 32 exits that are a curve
pub record IsCurveKept (c : List Exit) : Type 0 where
  pub least : 1 ≤ length c
  pub most : length c ≤ 32
  pub valid : IsSomeCurve c
