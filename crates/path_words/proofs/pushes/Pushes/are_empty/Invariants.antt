use Rattle.std.proofs.Common.{◌≡◌, ◌<◌, ℕ, [], get_or}
use Rattle.path_words.proofs.pushes.Pushes.are_empty.Given as goal

-- the pushes so far are empty
abbrev pub invariant-loop-push : goal.invariant-loop-push
invariant-loop-push l = (k : ℕ) → k < l.push-index → get_or l.fn.self k [] ≡ []
