use Rattle.std.proofs.Common.{◌≡◌, map, take}
use Rattle.region_table.proofs.chords.beginnings.Given as goal

-- those of the chords so far
abbrev pub invariant-loop-chord : goal.invariant-loop-chord
invariant-loop-chord l = l.begins.items ≡ map (λ c. c.from) (take l.chord-index l.chords)
