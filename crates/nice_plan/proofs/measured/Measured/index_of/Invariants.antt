use Rattle.std.proofs.Common.{◌≡◌, ℕ, ◌<◌, ◌≤◌}
use Rattle.page_surface.specs.Drawing.{spot}
use Rattle.region_table.specs.Table.{region}
use Rattle.nice_plan.specs.Measured.{segment_at}
use Rattle.nice_plan.proofs.measured.Measured.index_of.Given as goal

-- the segment isn't one of those before
abbrev pub invariant-loop-index : goal.invariant-loop-index
invariant-loop-index l = (j : ℕ) × (l.index ≤ j) × (j < (region l.self.table l.piece).size) × (segment_at l.self l.piece j ≡ spot l.self.drawing l.segment)
