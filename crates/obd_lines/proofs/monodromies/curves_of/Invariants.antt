use Rattle.std.specs.Prelude.{All, IfSome}
use Rattle.arc_basis.specs.Basis.{joined_polygon}
use Rattle.curve_paths.specs.Curves.{IsCurve}
use Rattle.obd_lines.proofs.monodromies.curves_of.Given as goal

-- the curves so far are curves on the joined polygon
abbrev pub invariant-loop-path : goal.invariant-loop-path
invariant-loop-path l = All (λ curve. IfSome curve (IsCurve (joined_polygon l.basis))) l.curves.items
