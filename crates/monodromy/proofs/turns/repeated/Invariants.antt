use Rattle.std.proofs.Common.{◌≡◌, ◌-◌, ◌≤◌, length}
use Rattle.page_surface.specs.Drawing.{all_exits, words}
use Rattle.curve_paths.specs.Twists.{times}
use Rattle.drawing.specs.Tight.{IsTight}
use Rattle.monodromy.proofs.turns.repeated.Given as goal

-- the drawing so far is tight, with few points, and from its words the single twists that are left lead on
abbrev pub invariant-loop-turn : goal.invariant-loop-turn
invariant-loop-turn l = record {
  polygon : l.drawing.drawing.polygon ≡ l.fn.drawing.drawing.polygon;
  few : length (all_exits l.drawing.drawing) ≤ 4000;
  tight : IsTight l.drawing.drawing;
  left : times l.fn.drawing.drawing.polygon l.curve l.sign l.turns (words l.fn.drawing.drawing) ≡ times l.fn.drawing.drawing.polygon l.curve l.sign (l.turns - l.turn) (words l.drawing.drawing);
}
