use Rattle.std.proofs.Common.{◌≡◌, ◌++◌, map, take}
use Rattle.witness_check.specs.Line.{spaced}
use Rattle.witness_check.proofs.line.put_words.Given as goal

-- the words so far were appended
abbrev pub invariant-loop-word : goal.invariant-loop-word
invariant-loop-word g l = l.text ≡ l.initial.text ++ spaced (map g.T.Word.word (take l.word-index l.words))
