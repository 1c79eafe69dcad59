use Rattle.std.proofs.Common.{◌≡◌, ◌+◌, length}
use Rattle.page_surface.specs.Drawing.{all_exits}
use Rattle.drawing.specs.Tight.{IsTight}
use Rattle.drawing.specs.Turns.{Loosened}
use Rattle.drawing.proofs.drawing.Drawing.tighten.Given as goal

-- turns are taken out, and where the last pass found none the drawing is tight
abbrev pub invariant-loop-turns : goal.invariant-loop-turns
invariant-loop-turns l = record {
  loosened : Loosened l.fn.self.drawing l.self.drawing;
  tight : l.turns ≡ 0 → IsTight l.self.drawing;
}

-- each turn takes two exits with it
abbrev pub decreases-loop-turns : goal.decreases-loop-turns
decreases-loop-turns l = length (all_exits l.self.drawing) + l.turns
