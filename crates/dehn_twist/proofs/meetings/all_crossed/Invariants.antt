use Rattle.std.proofs.Common.{◌≡◌, map, take}
use Rattle.dehn_twist.specs.Tables.{crossed_of}
use Rattle.dehn_twist.proofs.meetings.all_crossed.Given as goal

-- the chords so far
abbrev pub invariant-loop-chord : goal.invariant-loop-chord
invariant-loop-chord l = l.all.items ≡ map (crossed_of l.mates) (take l.chord-index l.chords)
