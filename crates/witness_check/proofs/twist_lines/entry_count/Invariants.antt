use Rattle.std.proofs.Common.{◌≡◌, ◌<◌, ℕ, true, get_or}
use Rattle.curve_paths.specs.declared.named.NamedTwist.{NamedTwist}
use Rattle.witness_check.specs.BookRules.{is_entry}
use Rattle.witness_check.proofs.twist_lines.entry_count.Given as goal

-- those before this one are entries
abbrev pub invariant-loop-number : goal.invariant-loop-number
invariant-loop-number l = (i : ℕ) (d : NamedTwist) → i < l.number → is_entry l.curves (get_or l.twists i d) ≡ true
