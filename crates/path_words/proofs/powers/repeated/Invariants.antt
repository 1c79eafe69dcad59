use Rattle.std.proofs.Common.{◌≡◌, ◌-◌}
use Rattle.curve_paths.specs.Twists.{AreWords, times}
use Rattle.path_words.proofs.powers.repeated.Given as goal

-- the words so far are words, from which the single twists that are left lead on
abbrev pub invariant-loop-turn : goal.invariant-loop-turn
invariant-loop-turn l =
    AreWords l.polygon l.now × (times l.polygon l.curve l.fn.sign l.turn-end l.fn.words ≡ times l.polygon l.curve l.fn.sign (l.turn-end - l.turn) l.now)
