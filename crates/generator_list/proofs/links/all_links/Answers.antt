use Rattle.std.proofs.Common.{subst}
use Rattle.generator_list.specs.Links.{IsLinkedFrom}
use Rattle.generator_list.proofs.NextPoints.{linked_push}
use Rattle.generator_list.proofs.links.all_links.Goals as goal

pub loop-strands-preserved : goal.loop-strands-preserved
loop-strands-preserved c =
    linked_push c.args.arcs.now c.loop-strands.strands-index _ _ c.loop-strands.links _ _ c.loop-strands-test.true c.strands-item.is
    (subst (λ ss. IsLinkedFrom ss c.in_ok-links_of.field-0 0) c.as_slice.ensures c.in_ok-links_of.ensures) c.in_ok-push.ensures.ok c.loop-strands.invariant
