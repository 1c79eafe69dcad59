use Rattle.std.proofs.Common.{ap, ◌∙◌}
use Rattle.region_table.specs.Table.{name_at}
use Rattle.region_table.proofs.TableReads.{spot_told}
use Rattle.region_table.proofs.regions.Regions.piece_at.Goals as goal

pub returns-clause-value : goal.returns-clause-value
returns-clause-value c = λ d told.
    c.name.ensures.value ∙ ap (name_at c.args.self.now) (c.spot.ensures.value ∙ spot_told d c.args.self.now told c.args.side c.args.segment c.requires.side)
