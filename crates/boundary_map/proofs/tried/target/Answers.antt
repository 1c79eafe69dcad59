use Rattle.boundary_map.proofs.tried.target.Goals as goal

pub all_corners-requires-clause-told : goal.all_corners-requires-clause-told
all_corners-requires-clause-told c = λ p m. c.requires.table.listed_inner p (c.requires.set p m)
