use Rattle.std.proofs.Common.{ap, arith, ◌∙◌}
use Rattle.region_table.specs.Table.{region_in}
use Rattle.region_table.proofs.regions.Regions.corners.Goals as goal

pub overflow_mul-result : goal.overflow_mul-result
overflow_mul-result c = omega (arith, c.size.ensures.small (ap (λ p. (region_in c.args.self.now.regions p).base) c.number.ensures.value ∙ c.requires.inner))
