use Rattle.nice_plan.proofs.bursts.push.Goals as goal

pub after_finger-requires-clause-before : goal.after_finger-requires-clause-before
after_finger-requires-clause-before c = (c.args.drawing.now.drawing, c.points.ensures.valid, c.requires.legal, c.requires.table, c.apply.ensures.value)

pub returns-clause-names : goal.returns-clause-names
returns-clause-names c = c.after_finger.ensures.kept c.args.drawing.now.drawing c.points.ensures.valid c.requires.legal c.requires.table c.apply.ensures.value
