use Rattle.std.proofs.Common.{◌≡◌, ◌+◌, ℕ, false, true, cond}
use Rattle.region_table.specs.Changed.{KeepsAllNames}
use Rattle.region_table.specs.Nice.{is_nice, weight}
use Rattle.region_table.specs.Table.{HasDistances, IsTableOf}
use Rattle.nice_plan.specs.Applied.{IsApplied}
use Rattle.nice_plan.proofs.bursts.apply_all.Given as goal

-- some bursts were applied, the table is that of the drawing, and where none is left the drawing is nice
abbrev pub invariant-loop-more : goal.invariant-loop-more
invariant-loop-more l = record {
  applied : IsApplied l.fn.drawing.drawing l.limit l.fingers.items l.drawing.drawing;
  table : IsTableOf l.drawing.drawing l.regions;
  distances : HasDistances l.drawing.drawing l.regions;
  names : KeepsAllNames l.fn.drawing.drawing l.fingers.items l.fn.regions l.regions;
  last : l.more ≡ false → is_nice l.drawing.drawing ≡ true;
}

-- each burst lowers the weight
abbrev pub decreases-loop-more : goal.decreases-loop-more
decreases-loop-more l = weight l.drawing.drawing + cond {A = ℕ} l.more 1 0
