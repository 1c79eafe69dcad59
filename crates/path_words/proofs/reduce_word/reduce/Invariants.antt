use Rattle.path_words.proofs.Reducing.{Reducing}
use Rattle.path_words.proofs.reduce_word.reduce.Given as goal

-- the letters read so far are reduced, in the first part of the word
abbrev pub invariant-loop-read : goal.invariant-loop-read
invariant-loop-read l = Reducing l.polygon l.initial.word.items l.word.items l.kept l.read
