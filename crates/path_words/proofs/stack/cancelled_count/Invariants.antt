use Rattle.path_words.proofs.Cuts.{Cancels}
use Rattle.path_words.proofs.stack.cancelled_count.Given as goal

-- so many letters cancel
abbrev pub invariant-loop-count : goal.invariant-loop-count
invariant-loop-count l = Cancels l.polygon l.word l.letters l.count
