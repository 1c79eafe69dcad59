use Rattle.std.proofs.Common.{◌≡◌, ◌++◌, length}
use Rattle.std.specs.Prelude.{option_map}
use Rattle.witness_check.specs.Words.{all_words}
use Rattle.witness_check.proofs.words.Words.all.Given as goal

-- what all words say begins with what those so far said
abbrev pub invariant-loop-word : goal.invariant-loop-word
invariant-loop-word g l = all_words g.T.Token.said l.fn.self ≡ option_map (λ more. l.items ++ more) (all_words g.T.Token.said l.self)

-- the words that are left
abbrev pub decreases-loop-word : goal.decreases-loop-word
decreases-loop-word g l = length l.self
