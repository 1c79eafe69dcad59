use Rattle.std.proofs.Common.{◌≡◌, ◌<◌, ℕ, false, eqb, length, map, get_or}
use Rattle.std.specs.List.{list_any}
use Rattle.obd_base.specs.Lists.{below}
use Rattle.drawing.specs.Pieces.{gap}
use Rattle.region_table.proofs.told.mark_bases.Given as goal

-- the names of the gaps so far are marked
abbrev pub invariant-loop-side : goal.invariant-loop-side
invariant-loop-side l = record {
  size : length l.bases ≡ length l.fn.bases;
  marked : (p : ℕ) → p < length l.bases → get_or l.bases p false ≡ list_any (λ g. eqb (get_or l.names g 0) p) (map (gap l.drawing.drawing) (below l.side));
}
