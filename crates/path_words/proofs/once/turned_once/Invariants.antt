use Rattle.path_words.proofs.Turning.{IsTurning}
use Rattle.path_words.proofs.once.turned_once.Given as goal

-- the strands so far are turned
abbrev pub invariant-loop-arc : goal.invariant-loop-arc
invariant-loop-arc l = IsTurning l.polygon l.pushes l.words l.arc l.images l.letters
