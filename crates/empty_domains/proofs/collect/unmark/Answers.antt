use Rattle.std.proofs.Common.{◌<◌, ◌+◌, ◌∙◌, false, inl, inr, arith, get_or, length}
use Rattle.std.proofs.lemmas.List.{length-set}
use Rattle.empty_domains.proofs.MarkSteps.{mark_off, take_cases}
use Rattle.region_table.proofs.EdgeWalk.{mem_of_place}
use Rattle.empty_domains.proofs.collect.unmark.Goals as goal

pub bounds-marks-piece : goal.bounds-marks-piece
bounds-marks-piece c =
    let l = c.requires.inside (get_or c.args.found.now c.loop-piece.piece-index 0) (mem_of_place c.args.found.now c.loop-piece.piece-index 0 c.loop-piece-test.true) in
    omega (arith, l, c.loop-piece.invariant.size)

pub loop-piece-preserved : goal.loop-piece-preserved
loop-piece-preserved c =
    let v = c.loop-piece.invariant in
    let p = get_or c.args.found.now c.loop-piece.piece-index 0 in
    let l : p < length c.loop-piece.marks = omega (arith, c.requires.inside p (mem_of_place c.args.found.now c.loop-piece.piece-index 0 c.loop-piece-test.true), v.size) in
    record {
      size = length-set c.loop-piece.marks p false ∙ v.size;
      here = λ z m. mark_off c.loop-piece.marks p z l (elim (take_cases c.args.found.now c.loop-piece.piece-index (c.loop-piece.piece-index + 1) z (omega arith) c.loop-piece-test.true m) [ inl e ↦ inl e | inr k ↦ inr (v.here z k) ]);
      elsewhere = λ z f. mark_off c.loop-piece.marks p z l (inr (v.elsewhere z f));
    }
