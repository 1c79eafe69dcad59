use Rattle.curve_paths.specs.Twists.{sign_of, turns_of}
use Rattle.path_words.proofs.Turns.{times_none}
use Rattle.path_words.proofs.powers.by_power.Goals as goal

pub returns-in_default-clause-turned : goal.returns-in_default-clause-turned
returns-in_default-clause-turned c =
    rw c.in_default.is (times_none c.args.polygon.now (sign_of c.args.power) (turns_of c.args.power) c.args.words c.requires.words.few)
