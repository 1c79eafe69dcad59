use Rattle.std.proofs.Common.{not, refl, sym, ap, arith, ◌∙◌}
use Rattle.region_table.proofs.KeptReads.{nice_done, nice_not}
use Rattle.region_table.proofs.TableLaws.{nice_told}
use Rattle.region_table.proofs.regions.Regions.is_nice.Goals as goal

pub returns-then-size-gt2-clause-value : goal.returns-then-size-gt2-clause-value
returns-then-size-gt2-clause-value c =
    let t = c.args.self.now in
    let n = c.loop-name.name in
    let told = nice_not t n _ refl (omega (arith, c.loop-name-test.true, c.pieces-name-end.ensures.count)) (ap not (sym c.is_marked.ensures ∙ c.if-not-is_marked.true))
    (omega (arith, c.if-size-gt2.true, c.size.ensures.value)) in
    λ d is. told ∙ nice_told d t is

pub returns-clause-value : goal.returns-clause-value
returns-clause-value c =
    let t = c.args.self.now in
    let told = nice_done t c.loop-name.name (omega (arith, c.loop-name-test.false, c.pieces-name-end.ensures.count)) c.loop-name.invariant in
    λ d is. told ∙ nice_told d t is
