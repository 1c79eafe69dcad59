use Rattle.std.proofs.Common.{◌≡◌, take, All}
use Rattle.std.specs.Prelude.{IfSome}
use Rattle.arc_basis.specs.Basis.{joined_polygon}
use Rattle.curve_paths.specs.Curves.{IsCurve}
use Rattle.obd_cli.proofs.Surfaces.{curves_on}
use Rattle.obd_cli.proofs.surface.joined_curves.Given as goal

-- the curves so far, each a curve of the polygon
abbrev pub invariant-loop-named : goal.invariant-loop-named
invariant-loop-named l = (l.curves ≡ curves_on l.book (take l.named-index l.book.curves)) × All (λ curve. IfSome curve (IsCurve (joined_polygon l.basis))) l.curves
