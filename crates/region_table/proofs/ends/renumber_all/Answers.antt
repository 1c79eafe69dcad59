use Rattle.std.proofs.Common.{◌<◌, length, ◌∙◌, ap, arith}
use Rattle.std.proofs.lemmas.List.{get_or_default, length-set}
use Rattle.region_table.specs.Ends.{end_at}
use Rattle.region_table.specs.FingerLists.{renumbered}
use Rattle.region_table.proofs.Written.{left_more, map_of_entries, written_more}
use Rattle.region_table.proofs.ends.renumber_all.Goals as goal

pub loop-at-preserved : goal.loop-at-preserved
loop-at-preserved c =
    let v = c.loop-at.invariant in
    let n = c.loop-at.at in
    let fits : n < length c.loop-at.ends = omega (arith, c.loop-at-test.true, v.size) in
    record {
      size = length-set c.loop-at.ends n _ ∙ v.size;
      done = written_more (record { strand = 0; chord = 0 }) (λ p. renumbered c.args.pushed (end_at c.args.ends.now p)) c.loop-at.ends n _ fits (c.renumbered.ensures ∙ ap (renumbered c.args.pushed) (c.index-ends-at.is ∙ (get_or_default c.loop-at.ends n _ (record { strand = 0; chord = 0 }) fits ∙ v.left n (omega arith)))) v.done;
      left = left_more (record { strand = 0; chord = 0 }) c.loop-at.ends c.args.ends.now n _ v.left;
    }

pub returns : goal.returns
returns c =
    map_of_entries (record { strand = 0; chord = 0 }) (renumbered c.args.pushed) c.args.ends.now _ c.loop-at.invariant.size
    (λ p l. c.loop-at.invariant.done p (omega (arith, l, c.loop-at-test.false)))
