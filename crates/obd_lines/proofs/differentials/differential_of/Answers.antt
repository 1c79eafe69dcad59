use Rattle.std.proofs.Common.{subst, sym, ◌∙◌}
use Rattle.region_table.proofs.Tests.{nice_from_test}
use Rattle.region_table.specs.Table.{IsTableOf}
use Rattle.obd_lines.proofs.differentials.differential_of.Goals as goal

pub both_ways-requires-clause-nice : goal.both_ways-requires-clause-nice
both_ways-requires-clause-nice c =
    let d = c.of-diagram.result in
    nice_from_test d (sym (c.is_nice.ensures.value d (subst (λ e. IsTableOf e c.in_ok-regions.regions) c.drawing.ensures c.in_ok-regions.ensures.table)) ∙ c.if-not-is_nice.false)
