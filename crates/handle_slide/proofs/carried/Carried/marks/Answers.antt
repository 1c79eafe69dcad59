use Rattle.std.proofs.Common.{◌≡◌, ◌+◌, false, replicate, ap, arith}
use Rattle.curve_paths.specs.Curves.{curve_points}
use Rattle.handle_slide.proofs.CarriedTables.{few_in_rows, length-rows, marks_long, marks_more, no_marks}
use Rattle.handle_slide.proofs.carried.Carried.marks.Goals as goal

pub loop-at-init : goal.loop-at-init
loop-at-init c =
    let clear : c.in_ok-marks.marks.items ≡ replicate (c.points.result + c.points-2.result) false = c.in_ok-marks.ensures.items_if_clones_equal (λ y e. e) in
    no_marks c.args.self.now (c.points.result + c.points-2.result) c.in_ok-marks.marks.items
    (omega (
      arith,
      length-rows c.args.self.now c.points.ensures.known,
      c.points.ensures.value,
      c.points-2.ensures.value,
      ap (curve_points c.args.self.now.polygon c.args.self.now.exits) c.slid_side.ensures.value,
      ap (curve_points c.args.self.now.polygon c.args.self.now.exits) c.next_side.ensures.value,
    ))
    clear

pub loop-at-preserved : goal.loop-at-preserved
loop-at-preserved c =
    marks_more c.args.self.now c.points.ensures.known c.loop-at.at c.loop-at.marks.items c.mark.new.marks.items (omega (arith, c.loop-at-test.true, c.len-at-end.ensures.value)) c.loop-at.invariant c.mark.ensures

pub returns-clause-few : goal.returns-clause-few
returns-clause-few c =
    omega (arith, marks_long c.args.self.now c.points.ensures.known c.loop-at.at c.loop-at.marks.items c.loop-at.invariant, few_in_rows c.args.self.now c.points.ensures.known)
