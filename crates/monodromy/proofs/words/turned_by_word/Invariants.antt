use Rattle.std.proofs.Common.{◌≡◌, drop, map}
use Rattle.curve_paths.specs.Twists.{AreWords, by_entries, exits_of}
use Rattle.monodromy.proofs.words.turned_by_word.Given as goal

-- the words so far are words, from which the entries that are left lead on
abbrev pub invariant-loop-number : goal.invariant-loop-number
invariant-loop-number l =
    AreWords l.polygon l.words
    × (by_entries l.polygon (map exits_of l.curves) 0 l.twists l.fn.first ≡ by_entries l.polygon (map exits_of l.curves) l.number (drop l.number l.twists) l.words)
