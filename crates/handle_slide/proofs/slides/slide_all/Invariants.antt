use Rattle.std.proofs.Common.{◌≡◌, All, drop}
use Rattle.std.specs.Prelude.{IfSome}
use Rattle.curve_paths.specs.Curves.{IsCurve}
use Rattle.handle_slide.specs.Slides.{slid}
use Rattle.handle_slide.proofs.slides.slide_all.Given as goal

-- what the slides that are left make of what the others leave is what all make of the first, and curves stay curves
abbrev pub invariant-loop-number : goal.invariant-loop-number
invariant-loop-number l =
    (slid l.number l.now (drop l.number l.slides) ≡ slid 0 l.fn.surface l.slides) × All (λ curve. IfSome curve (IsCurve l.now.polygon)) l.now.curves
