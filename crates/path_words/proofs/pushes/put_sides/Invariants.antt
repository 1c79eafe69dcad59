use Rattle.std.proofs.Common.{◌≡◌, ◌++◌, map, take}
use Rattle.path_words.proofs.pushes.put_sides.Given as goal

-- the sides of the exits so far
abbrev pub invariant-loop-exit : goal.invariant-loop-exit
invariant-loop-exit l = l.word.items ≡ l.fn.word.items ++ map (λ e. e.side) (take l.exit-index l.exits)
