use Rattle.std.proofs.Common.{ap, subst, arith}
use Rattle.region_table.specs.Ends.{IsKept}
use Rattle.region_table.proofs.KeptReads.{few_names, segment_known, start_known, start_seen}
use Rattle.region_table.proofs.regions.Regions.spot.Goals as goal

pub index-requires : goal.index-requires
index-requires c =
    let kept = subst (λ t. IsKept t c.self.inside.frame.ends.items) c.self.view_is c.self.invariant.0.kept in
    let l = start_known c.args.self.now c.self.inside.frame.ends.items kept c.self.inside.frame.starts.items (ap (λ t. t.starts) c.self.view_is) c.args.side c.number.result c.number.ensures.value (omega (arith, c.requires.side)) in
    omega (arith, l, c.self.inside.frame.starts.ok)

pub overflow_add-result : goal.overflow_add-result
overflow_add-result c =
    let kept = subst (λ t. IsKept t c.self.inside.frame.ends.items) c.self.view_is c.self.invariant.0.kept in
    let x = start_seen c.args.self.now c.self.inside.frame.ends.items kept c.self.inside.frame.starts.items (ap (λ t. t.starts) c.self.view_is) c.args.side c.number.result c.index.result.now c.number.ensures.value (omega (arith, c.requires.side)) c.index.ensures in
    omega (arith, x, segment_known c.args.self.now c.self.inside.frame.ends.items kept c.args.side c.requires.side c.args.segment c.requires.segment, few_names c.args.self.now c.self.inside.frame.ends.items kept)

pub returns-clause-value : goal.returns-clause-value
returns-clause-value c =
    let kept = subst (λ t. IsKept t c.self.inside.frame.ends.items) c.self.view_is c.self.invariant.0.kept in
    let x = start_seen c.args.self.now c.self.inside.frame.ends.items kept c.self.inside.frame.starts.items (ap (λ t. t.starts) c.self.view_is) c.args.side c.number.result c.index.result.now c.number.ensures.value (omega (arith, c.requires.side)) c.index.ensures in
    omega (arith, x)

pub returns-clause-inside : goal.returns-clause-inside
returns-clause-inside c =
    let kept = subst (λ t. IsKept t c.self.inside.frame.ends.items) c.self.view_is c.self.invariant.0.kept in
    let x = start_seen c.args.self.now c.self.inside.frame.ends.items kept c.self.inside.frame.starts.items (ap (λ t. t.starts) c.self.view_is) c.args.side c.number.result c.index.result.now c.number.ensures.value (omega (arith, c.requires.side)) c.index.ensures in
    omega (arith, x, segment_known c.args.self.now c.self.inside.frame.ends.items kept c.args.side c.requires.side c.args.segment c.requires.segment)
