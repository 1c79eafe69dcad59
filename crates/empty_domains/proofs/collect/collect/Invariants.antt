use Rattle.std.proofs.Common.{◌≡◌, ℕ, suc, ◌+◌, ◌++◌, List, length, map, take}
use Rattle.std.specs.List.{flat_map}
use Rattle.empty_domains.specs.Marks.{AreMarked}
use Rattle.obd_base.specs.Lists.{below}
use Rattle.empty_domains.proofs.collect.collect.Given as goal

-- the pieces of the rows so far
abbrev pub invariant-loop-start : goal.invariant-loop-start
invariant-loop-start l = record {
  size : length l.marks ≡ length l.initial.marks;
  collected : (spans : List ℕ) → AreMarked l.pieces spans l.initial.found.items l.initial.marks
      → AreMarked l.pieces (spans ++ flat_map (λ start. map (λ i. suc (start + i)) (below l.fn.width)) (take l.start-index l.rows)) l.found.items l.marks;
}
