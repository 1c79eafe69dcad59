use Rattle.std.proofs.Common.{◌≡◌, take, All}
use Rattle.std.specs.Prelude.{IfSome}
use Rattle.arc_basis.specs.Basis.{joined_polygon}
use Rattle.curve_paths.specs.Curves.{IsCurve}
use Rattle.witness_check.specs.BookRules.{joined_curves}
use Rattle.witness_check.proofs.surface.joined_curves.Given as goal

-- the curves so far, each a curve of the polygon
abbrev pub invariant-loop-curve : goal.invariant-loop-curve
invariant-loop-curve l = (l.joined ≡ joined_curves (take l.curve-index l.curves)) × All (λ curve. IfSome curve (IsCurve (joined_polygon l.basis))) l.joined
