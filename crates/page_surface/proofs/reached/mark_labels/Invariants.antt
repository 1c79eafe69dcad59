use Rattle.std.proofs.Common.{◌≡◌, ℕ, ◌<◌, ◌||◌, false, length, get_or, take}
use Rattle.std.specs.List.{list_any}
use Rattle.page_surface.specs.Marks.{is_of}
use Rattle.page_surface.proofs.reached.mark_labels.Given as goal

-- the labels of the sides so far are marked
abbrev pub invariant-loop-side : goal.invariant-loop-side
invariant-loop-side l =
    (label : ℕ) → label < length l.fn.marks
    → get_or l.marks label false ≡ (get_or l.fn.marks label false || list_any (is_of label) (take l.side-index l.sides))
