use Rattle.std.proofs.Common.{suc, ◌+◌, ap, subst, arith}
use Rattle.region_table.specs.Ends.{IsKept}
use Rattle.region_table.proofs.KeptReads.{room_there, start_known, start_seen, starts_small}
use Rattle.region_table.proofs.regions.Regions.points_on.Goals as goal

pub index-requires : goal.index-requires
index-requires c =
    let kept = subst (λ t. IsKept t c.self.inside.frame.ends.items) c.self.view_is c.self.invariant.0.kept in
    let l = start_known c.args.self.now c.self.inside.frame.ends.items kept c.self.inside.frame.starts.items (ap (λ t. t.starts) c.self.view_is) (suc c.args.side) (c.number-side.result + 1) (omega (arith, c.number-side.ensures.value)) (omega (arith, c.requires)) in
    omega (arith, l, c.self.inside.frame.starts.ok)

pub index-requires-2 : goal.index-requires-2
index-requires-2 c =
    let kept = subst (λ t. IsKept t c.self.inside.frame.ends.items) c.self.view_is c.self.invariant.0.kept in
    let l = start_known c.args.self.now c.self.inside.frame.ends.items kept c.self.inside.frame.starts.items (ap (λ t. t.starts) c.self.view_is) c.args.side c.number-side.result c.number-side.ensures.value (omega (arith, c.requires)) in
    omega (arith, l, c.self.inside.frame.starts.ok)

pub overflow_add-result : goal.overflow_add-result
overflow_add-result c =
    let kept = subst (λ t. IsKept t c.self.inside.frame.ends.items) c.self.view_is c.self.invariant.0.kept in
    let x = start_seen c.args.self.now c.self.inside.frame.ends.items kept c.self.inside.frame.starts.items (ap (λ t. t.starts) c.self.view_is) c.args.side c.number-side.result c.index-2.result.now c.number-side.ensures.value (omega (arith, c.requires)) c.index-2.ensures in
    omega (arith, x, room_there c.args.self.now c.self.inside.frame.ends.items kept c.args.side c.requires, starts_small c.args.self.now c.self.inside.frame.ends.items kept c.args.side c.requires)

pub overflow_sub-result : goal.overflow_sub-result
overflow_sub-result c =
    let kept = subst (λ t. IsKept t c.self.inside.frame.ends.items) c.self.view_is c.self.invariant.0.kept in
    let starts = ap (λ t. t.starts) c.self.view_is in
    let x = start_seen c.args.self.now c.self.inside.frame.ends.items kept c.self.inside.frame.starts.items starts c.args.side c.number-side.result c.index-2.result.now c.number-side.ensures.value (omega (arith, c.requires)) c.index-2.ensures in
    let y = start_seen c.args.self.now c.self.inside.frame.ends.items kept c.self.inside.frame.starts.items starts (suc c.args.side) (c.number-side.result + 1) c.index.result.now (omega (arith, c.number-side.ensures.value)) (omega (arith, c.requires)) c.index.ensures in
    omega (arith, x, y, room_there c.args.self.now c.self.inside.frame.ends.items kept c.args.side c.requires)

pub returns : goal.returns
returns c =
    let kept = subst (λ t. IsKept t c.self.inside.frame.ends.items) c.self.view_is c.self.invariant.0.kept in
    let starts = ap (λ t. t.starts) c.self.view_is in
    let x = start_seen c.args.self.now c.self.inside.frame.ends.items kept c.self.inside.frame.starts.items starts c.args.side c.number-side.result c.index-2.result.now c.number-side.ensures.value (omega (arith, c.requires)) c.index-2.ensures in
    let y = start_seen c.args.self.now c.self.inside.frame.ends.items kept c.self.inside.frame.starts.items starts (suc c.args.side) (c.number-side.result + 1) c.index.result.now (omega (arith, c.number-side.ensures.value)) (omega (arith, c.requires)) c.index.ensures in
    omega (arith, x, y)
