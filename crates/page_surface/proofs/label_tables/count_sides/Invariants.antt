use Rattle.std.proofs.Common.{◌≡◌, ℕ, ◌+◌, ◌<◌, length, get_or, take, count_by}
use Rattle.page_surface.specs.Marks.{is_of}
use Rattle.page_surface.proofs.label_tables.count_sides.Given as goal

-- each label has been counted on the sides so far
abbrev pub invariant-loop-side : goal.invariant-loop-side
invariant-loop-side l =
    (label : ℕ) → label < length l.fn.counts
    → get_or l.counts label 0 ≡ get_or l.fn.counts label 0 + count_by (is_of label) (take l.side-index l.sides)
