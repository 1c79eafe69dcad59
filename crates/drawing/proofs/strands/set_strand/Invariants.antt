use Rattle.std.proofs.Common.{◌≡◌, ◌<◌, ℕ, cond, get_or, length, take}
use Rattle.drawing.specs.Strands.{meets}
use Rattle.drawing.proofs.strands.set_strand.Given as goal

-- the strand is set at the numbers of the exits so far
abbrev pub invariant-loop-exit : goal.invariant-loop-exit
invariant-loop-exit l =
    (x : ℕ) → x < length l.fn.table → get_or l.table x 0 ≡ cond (meets l.layout.drawing (take l.exit-index l.exit-items) x) l.strand (get_or l.fn.table x 0)
