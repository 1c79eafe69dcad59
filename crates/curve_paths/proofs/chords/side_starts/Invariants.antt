use Rattle.curve_paths.proofs.Starts.{AreStartsSoFar}
use Rattle.curve_paths.proofs.chords.side_starts.Given as goal

-- the numbers of the sides so far
abbrev pub invariant-loop-side : goal.invariant-loop-side
invariant-loop-side l = AreStartsSoFar l.sides l.counts l.side-index l.start l.starts.items
