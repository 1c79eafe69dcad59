use Rattle.std.proofs.Common.{◌≡◌, suc, ◌+◌, ◌≤◌, get_or, refl, ap, subst, arith}
use Rattle.region_table.specs.Ends.{IsKept}
use Rattle.region_table.specs.Table.{Table}
use Rattle.region_table.proofs.KeptReads.{not_last, start_known, start_seen}
use Rattle.region_table.proofs.regions.Regions.side_at.Goals as goal

pub index-requires : goal.index-requires
index-requires c =
    let kept = subst (λ t. IsKept t c.self.inside.frame.ends.items) c.self.view_is c.self.invariant.0.kept in
    let l = start_known c.args.self.now c.self.inside.frame.ends.items kept c.self.inside.frame.starts.items (ap (λ (t : Table). t.starts) c.self.view_is) (c.loop-self.side + 1) (c.loop-self.side + 1) refl (omega (arith, c.loop-self.invariant.inside)) in
    omega (arith, l, c.self.inside.frame.starts.ok)

pub loop-self-preserved : goal.loop-self-preserved
loop-self-preserved c =
    let kept = subst (λ t. IsKept t c.self.inside.frame.ends.items) c.self.view_is c.self.invariant.0.kept in
    let x = start_seen c.args.self.now c.self.inside.frame.ends.items kept c.self.inside.frame.starts.items (ap (λ (t : Table). t.starts) c.self.view_is) (c.loop-self.side + 1) (c.loop-self.side + 1) c.index.result.now refl (omega (arith, c.loop-self.invariant.inside)) c.index.ensures in
    let from : get_or c.args.self.now.starts (c.loop-self.side + 1) 0 ≤ c.args.span = omega (arith, x, c.loop-self-test.true) in
    record {
      inside = not_last c.args.self.now c.self.inside.frame.ends.items kept c.loop-self.side c.args.span (c.loop-self.side + 1) refl c.loop-self.invariant.inside from c.requires;
      from = from;
    }

pub returns-clause-to : goal.returns-clause-to
returns-clause-to c =
    let kept = subst (λ t. IsKept t c.self.inside.frame.ends.items) c.self.view_is c.self.invariant.0.kept in
    let x = start_seen c.args.self.now c.self.inside.frame.ends.items kept c.self.inside.frame.starts.items (ap (λ (t : Table). t.starts) c.self.view_is) (c.loop-self.side + 1) (c.loop-self.side + 1) c.index.result.now refl (omega (arith, c.loop-self.invariant.inside)) c.index.ensures in
    let same : suc c.new.result ≡ c.loop-self.side + 1 = omega (arith, c.new.ensures) in
    omega (arith, x, c.loop-self-test.false, ap (λ n. get_or c.args.self.now.starts n 0) same)
