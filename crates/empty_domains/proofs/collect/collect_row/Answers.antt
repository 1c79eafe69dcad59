use Rattle.std.proofs.Common.{◌≡◌, ℕ, suc, ◌+◌, ◌++◌, ◌∙◌, Vec, Global, ap, arith, get_or, length, map, refl, subst, true}
use Rattle.std.proofs.lemmas.List.{length-set}
use Rattle.empty_domains.proofs.MarkSteps.{column_new, column_old}
use Rattle.empty_domains.specs.Marks.{AreMarked}
use Rattle.obd_base.specs.Lists.{below}
use Rattle.empty_domains.proofs.collect.collect_row.Goals as goal
use Rattle.empty_domains.proofs.collect.collect_row.Goals.{then-not-marks-piece+in_ok-push, else-not-marks-piece}

pub overflow_add-piece : goal.overflow_add-piece
overflow_add-piece c = omega (arith, c.requires.row, c.requires.few, c.loop-column-test.true)

pub loop-column-preserved : goal.loop-column-preserved
loop-column-preserved c =
    let v = c.loop-column.invariant in
    let at = c.args.start + c.loop-column.column + 1 in
    let p = get_or c.args.pieces.now at 0 in
    elim c.if-not-marks-piece.branch [
      | then-not-marks-piece+in_ok-push w ↦ record {
        size = ap length w.marks-is ∙ (length-set c.loop-column.marks p true ∙ v.size);
        collected = λ spans is. column_new c.args.pieces.now spans _ _ _ _ c.args.start c.loop-column.column (c.loop-column.column + 1) at p (omega arith) (omega arith) refl (v.collected spans is) w.if-not-marks-piece.true
            (omega (arith, c.requires.marks at, v.size)) (ap (λ (f : Vec ℕ Global). f.items) w.found-is ∙ w.in_ok-push.ensures.items) w.marks-is;
      }
      | else-not-marks-piece w ↦ record {
        size = ap length w.marks-is ∙ v.size;
        collected = λ spans is. column_old c.args.pieces.now spans _ _ _ _ c.args.start c.loop-column.column (c.loop-column.column + 1) at p (omega arith) (omega arith) refl (v.collected spans is) w.if-not-marks-piece.false
            (ap (λ (f : Vec ℕ Global). f.items) w.found-is) w.marks-is;
      }
    ]

pub returns-clause-collected : goal.returns-clause-collected
returns-clause-collected c = λ spans is.
    let all : c.loop-column.column ≡ c.args.width = omega (arith, c.loop-column-test.false, c.loop-column.auto) in
    subst (λ n. AreMarked c.args.pieces.now (spans ++ map (λ i. suc (c.args.start + i)) (below n)) c.loop-column.found.items c.loop-column.marks) all (c.loop-column.invariant.collected spans is)
