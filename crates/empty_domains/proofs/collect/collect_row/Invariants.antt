use Rattle.std.proofs.Common.{◌≡◌, ℕ, suc, ◌+◌, ◌++◌, List, length, map}
use Rattle.empty_domains.specs.Marks.{AreMarked}
use Rattle.obd_base.specs.Lists.{below}
use Rattle.empty_domains.proofs.collect.collect_row.Given as goal

-- the pieces of the spans so far
abbrev pub invariant-loop-column : goal.invariant-loop-column
invariant-loop-column l = record {
  size : length l.marks ≡ length l.initial.marks;
  collected : (spans : List ℕ) → AreMarked l.pieces spans l.initial.found.items l.initial.marks
      → AreMarked l.pieces (spans ++ map (λ i. suc (l.fn.start + i)) (below l.column)) l.found.items l.marks;
}
