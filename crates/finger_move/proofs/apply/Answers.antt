use Rattle.drawing.proofs.FingerLaws.{has_effect, keeps_words}
use Rattle.finger_move.proofs.apply.Goals as goal

pub returns-clause-effect : goal.returns-clause-effect
returns-clause-effect c = rw c.push.ensures.effect (has_effect c.args.drawing.now.drawing c.points.ensures.valid c.args.finger.now c.requires.legal)

pub returns-clause-words : goal.returns-clause-words
returns-clause-words c = rw c.push.ensures.effect (keeps_words c.args.drawing.now.drawing c.points.ensures.valid c.args.finger.now c.requires.legal)
