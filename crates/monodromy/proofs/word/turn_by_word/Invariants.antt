use Rattle.std.proofs.Common.{◌≡◌, ◌≤◌, drop, length, map}
use Rattle.page_surface.specs.Drawing.{all_exits, words}
use Rattle.curve_paths.specs.Twists.{by_entries, exits_of}
use Rattle.drawing.specs.Tight.{IsTight}
use Rattle.monodromy.proofs.word.turn_by_word.Given as goal

-- the drawing so far is tight, with few points, and from its words the entries that are left lead on
abbrev pub invariant-loop-number : goal.invariant-loop-number
invariant-loop-number l = record {
  polygon : l.drawing.drawing.polygon ≡ l.fn.drawing.drawing.polygon;
  few : length (all_exits l.drawing.drawing) ≤ 4000;
  tight : IsTight l.drawing.drawing;
  left : by_entries l.fn.drawing.drawing.polygon (map exits_of l.curves) 0 l.twists (words l.fn.drawing.drawing) ≡ by_entries l.fn.drawing.drawing.polygon (map exits_of l.curves) l.number (drop l.number l.twists) (words l.drawing.drawing);
}
