use Rattle.std.proofs.Common.{◌≡◌, map}
use Rattle.obd_base.specs.Lists.{below}
use Rattle.curve_paths.specs.Paths.{path_chord}
use Rattle.curve_paths.proofs.chords.chords_of.Given as goal

-- the chords so far
abbrev pub invariant-loop-at : goal.invariant-loop-at
invariant-loop-at l = l.chords.items ≡ map (path_chord l.page l.crossings) (below l.at)
