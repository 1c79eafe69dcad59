use Rattle.std.proofs.Common.{◌≡◌, ◌<◌, ◌∙◌, ◌||◌, ap, ap₂, arith, false, true, get_or, length, sym}
use Rattle.std.specs.List.{list_any}
use Rattle.std.proofs.lemmas.List.{with_items_is}
use Rattle.page_surface.specs.Marks.{is_of}
use Rattle.page_surface.proofs.SideTables.{marked_more, or_none}
use Rattle.page_surface.proofs.reached.marked_labels.Goals as goal
use Rattle.page_surface.proofs.reached.marked_labels.Goals.{then-marked-number, else-marked-number}

pub loop-number-preserved : goal.loop-number-preserved
loop-number-preserved c =
    let more = marked_more c.args.polygons.now c.args.marked.now c.loop-number.number in
    let within : c.loop-number.number < length c.args.marked.now = omega arith in
    elim c.if-marked-number.branch [
      | then-marked-number w ↦
          let kept : length w.mark_labels.new.marks ≡ c.args.label_count = omega (arith, w.mark_labels.auto.marks, ap length w.deref_mut.ensures.value, c.loop-number.invariant.size) in
          let items : c.if-marked-number.labels.items ≡ w.mark_labels.new.marks = ap (λ v. v.items) w.labels-is ∙ with_items_is c.loop-number.labels w.mark_labels.new.marks (omega (arith, w.mark_labels.auto.marks, w.deref_mut.ensures.len)) in
          record {
            size = ap length items ∙ kept;
            marks = λ label l.
                ap (λ ms. get_or ms label false) items
                ∙ (w.mark_labels.ensures label (omega (arith, ap length w.deref_mut.ensures.value, c.loop-number.invariant.size))
                ∙ (ap₂ (λ a b. a || b) (ap (λ ms. get_or ms label false) w.deref_mut.ensures.value ∙ c.loop-number.invariant.marks label l) (ap (list_any (is_of label)) w.as_slice.ensures)
                ∙ sym (more label c.index-polygons-number.result true c.loop-number-test.true within c.index-polygons-number.is w.if-marked-number.true)));
          }
      | else-marked-number w ↦
          record {
            size = ap (λ v. length v.items) w.labels-is ∙ c.loop-number.invariant.size;
            marks = λ label l.
                ap (λ v. get_or v.items label false) w.labels-is
                ∙ (c.loop-number.invariant.marks label l
                ∙ (sym (or_none _) ∙ sym (more label c.index-polygons-number.result false c.loop-number-test.true within c.index-polygons-number.is w.if-marked-number.false)));
          }
    ]
