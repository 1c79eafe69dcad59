use Rattle.boundary_map.proofs.Loops.{shifted}
use Rattle.boundary_map.proofs.sets.set_count.Goals as goal

pub returns : goal.returns
returns c = shifted c.args.pieces c.requires
