use Rattle.std.proofs.Common.{◌≡◌, ◌≤◌, ◌++◌, drop, length, map}
use Rattle.page_surface.specs.Words.{inverse}
use Rattle.path_words.proofs.pushes.put_back.Given as goal

-- the way back along the exits from this one on
abbrev pub invariant-loop-number : goal.invariant-loop-number
invariant-loop-number l = record {
  within : l.number ≤ length l.exits;
  word : l.word.items ≡ l.fn.word.items ++ inverse l.polygon (map (λ e. e.side) (drop l.number l.exits));
}

abbrev pub decreases-loop-number : goal.decreases-loop-number
decreases-loop-number l = l.number
