use Rattle.std.proofs.Common.{◌-◌, ◌*◌, not, refl, sym, ap, arith, ◌∙◌}
use Rattle.region_table.specs.Table.{region_in}
use Rattle.region_table.proofs.KeptReads.{few_weight, next_share, weight_done}
use Rattle.region_table.proofs.TableLaws.{weight_told}
use Rattle.region_table.proofs.regions.Regions.weight.Goals as goal

pub overflow_add-weight : goal.overflow_add-weight
overflow_add-weight c =
    let t = c.args.self.now in
    let n = c.loop-name.name in
    let (ends, kept) = c.pieces-name-end.ensures.kept in
    let seen = region_in t.regions n in
    let next = next_share t.regions n seen c.saturating_sub.result refl (omega (arith, c.loop-name-test.true, c.pieces-name-end.ensures.count)) (ap not (sym c.is_marked.ensures ∙ c.if-not-is_marked.true))
    (c.saturating_sub.ensures ∙ ap (λ s. s - 2) c.size.ensures.value) in
    omega (arith, next, ap (λ x. c.saturating_sub.result * x) c.label.ensures, few_weight t ends kept c.requires, c.loop-name.invariant)

pub returns-clause-value : goal.returns-clause-value
returns-clause-value c =
    let t = c.args.self.now in
    let told = weight_done t c.loop-name.name c.loop-name.weight (omega (arith, c.loop-name-test.false, c.pieces-name-end.ensures.count)) c.loop-name.invariant in
    λ d is fresh. told ∙ weight_told d t is fresh
