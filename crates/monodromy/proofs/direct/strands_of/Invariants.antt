use Rattle.std.proofs.Common.{◌≡◌, ◌+◌, map, take}
use Rattle.curve_paths.specs.Twists.{letters}
use Rattle.monodromy.proofs.direct.strands_of.Given as goal

-- the words so far, and twice their letters
abbrev pub invariant-loop-word : goal.invariant-loop-word
invariant-loop-word l = record {
  made : map (map (λ e. e.side)) (map (λ s. s.items) l.strands.items) ≡ take l.word-index l.words;
  passed : l.first_way ≡ letters (take l.word-index l.words) + letters (take l.word-index l.words);
}
