use Rattle.std.proofs.Common.{◌-◌, ◌∙◌, arith, get_or, length, refl, suc}
use Rattle.empty_domains.proofs.StripLoop.{row_off, row_on}
use Rattle.empty_domains.proofs.strip.strip.Goals as goal

pub loop-row-preserved : goal.loop-row-preserved
loop-row-preserved c =
    let g = c.args.tables.now in
    let st = c.args.standing.now in
    let row = c.loop-row.row in
    let told = rw c.in-Some.is at c.in_ok-next.ensures in
    record {
      inside = told.inside;
      number = omega (arith, told.number, c.loop-row-test.true, c.count.ensures);
      size = told.size ∙ c.loop-row.invariant.size;
      steps = rw told.began (row_on g st c.args.corner.arc c.args.corner.start (length g.other - c.in-Some.next.number) (length g.other - row.number) row.at row.most row.number
          c.in-Some.next.at c.in-Some.next.most c.in-Some.next.number (get_or g.side row.at 0) (suc row.at) c.loop-row.lasts c.loop-row.steps.items c.read_row.new.steps.items _
          (omega (arith, told.number, c.loop-row-test.true, c.count.ensures)) told.goes_on told.steps told.at told.most told.number refl refl c.loop-row.invariant.steps);
    }

pub returns-in-None-clause-steps : goal.returns-in-None-clause-steps
returns-in-None-clause-steps c =
    let g = c.args.tables.now in
    let st = c.args.standing.now in
    let row = c.loop-row.row in
    let told = rw c.in-None.is at c.in_ok-next.ensures in
    row_off g st c.args.corner.arc c.args.corner.start (length g.other - row.number - 1) (length g.other - row.number) row.at row.most row.number c.loop-row.lasts c.loop-row.steps.items c.read_row.new.steps.items _
    (omega (arith, c.loop-row-test.true, c.count.ensures)) told.last told.steps c.loop-row.invariant.steps
