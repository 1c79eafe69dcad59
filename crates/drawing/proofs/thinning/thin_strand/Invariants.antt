use Rattle.std.proofs.Common.{◌≡◌, ◌≤◌, drop, take}
use Rattle.drawing.specs.ThinTables.{thinned_by}
use Rattle.drawing.proofs.thinning.thin_strand.Given as goal

-- first the exits that stay of those so far, and from here on all as they were
abbrev pub invariant-loop-at : goal.invariant-loop-at
invariant-loop-at l = record {
  within : l.kept ≤ l.at;
  kept : take l.kept l.exits.items ≡ thinned_by l.offsets l.gone l.places (take l.at l.fn.exits.items);
  left : drop l.at l.exits.items ≡ drop l.at l.fn.exits.items;
}
