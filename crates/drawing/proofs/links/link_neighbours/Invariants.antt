use Rattle.std.proofs.Common.{◌≡◌, ◌+◌, ◌-◌, ◌<◌, ℕ, length}
use Rattle.drawing.specs.Links.{link_at}
use Rattle.drawing.proofs.links.link_neighbours.Given as goal

-- the numbers so far are linked to their neighbours
abbrev pub invariant-loop-number : goal.invariant-loop-number
invariant-loop-number l = record {
  size : length l.links ≡ l.number-end;
  near : (x : ℕ) → x < l.number → ((link_at l.links x).before ≡ x - 1) × ((link_at l.links x).after ≡ x + 1);
}
