use Rattle.std.proofs.Common.{◌≡◌, map}
use Rattle.obd_base.specs.Lists.{below}
use Rattle.dehn_twist.specs.Surgery.{merged_curve}
use Rattle.dehn_twist.proofs.meetings.curve_chords.Given as goal

-- the chords so far
abbrev pub invariant-loop-chord : goal.invariant-loop-chord
invariant-loop-chord l = l.chords.items ≡ map (merged_curve l.merged.drawing l.merged.curve) (below l.chord)
