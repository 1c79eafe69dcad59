use Rattle.std.proofs.Common.{◌-◌, arith}
use Rattle.drawing.specs.Pieces.{span_count}
use Rattle.drawing.specs.Round.{side_of}
use Rattle.empty_domains.proofs.Made.{entries, runs_begin, runs_more}
use Rattle.empty_domains.proofs.drawing_tables.runs.Goals as goal

pub loop-at-init : goal.loop-at-init
loop-at-init c =
    let n = entries (side_of c.args.diagram.now) (span_count c.args.diagram.now) c.args.side.now c.requires.side in
    record {
      inside = omega (arith, n);
      runs = runs_begin c.args.diagram.now c.requires.valid _ _ n (omega (arith, c.in_ok-run.ensures.len, c.in_ok-run.run'.ok));
    }

pub loop-at-preserved : goal.loop-at-preserved
loop-at-preserved c = record {
  inside = omega (arith, c.loop-at.invariant.inside);
  runs = runs_more c.args.diagram.now c.requires.valid (c.loop-at.at - 1) c.loop-at.at _ _ (omega (arith, c.loop-at-test.true)) (omega (arith, c.loop-at-test.true, c.loop-at.invariant.inside)) c.loop-at.invariant.runs
      c.run_at-value.ensures.value (omega (arith, c.run_at-value.ensures.most));
}
