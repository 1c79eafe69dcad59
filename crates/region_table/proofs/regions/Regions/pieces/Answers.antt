use Rattle.std.proofs.Common.{length, sym, ap, subst, ◌∙◌}
use Rattle.region_table.specs.Ends.{IsKept}
use Rattle.region_table.specs.Table.{Table}
use Rattle.region_table.proofs.AskedTables.{told_size}
use Rattle.region_table.proofs.regions.Regions.pieces.Goals as goal

pub returns-clause-count : goal.returns-clause-count
returns-clause-count c =
    let i = c.self.inside in
    c.len.ensures ∙ (sym (told_size i.names.items i.told.regions i.counted) ∙ ap (λ (t : Table). length t.regions) c.self.view_is)

pub returns-clause-kept : goal.returns-clause-kept
returns-clause-kept c =
    let ends = c.self.inside.frame.ends.items in
    (ends, subst (λ t. IsKept t ends) c.self.view_is c.self.invariant.0.kept)
