use Rattle.std.proofs.Common.{◌+◌, ◌∙◌, ap, arith, get_or}
use Rattle.empty_domains.proofs.StepRows.{start_grown}
use Rattle.empty_domains.proofs.starts.row_starts.Goals as goal

pub loop-row-preserved : goal.loop-row-preserved
loop-row-preserved c =
    let g = c.args.tables.now in
    let v = c.loop-row.invariant in
    let on = c.opposite-at.ensures.value ∙ ap (λ z. get_or g.opposite z 0) c.other.ensures.value in
    let grown = start_grown (λ x. get_or g.other x 0) (λ x. get_or g.opposite x 0) c.args.start c.loop-row.row (c.loop-row.row + 1) c.loop-row.at c.opposite-at.result _ _ (omega arith) v.here on v.so_far c.in_ok-push.ensures.items in
    record { inside = c.opposite-at.ensures.inside; under = omega (arith, c.loop-row-test.true); here = grown.0; so_far = grown.1 }
