use Rattle.std.proofs.Common.{◌≡◌, ◌∙◌, cond, string_eq}
use Rattle.std.specs.List.{list_any}
use Rattle.page_surface.proofs.Numbered.{numbered_more, length_more, occurrence-new, occurrence-old}
use Rattle.page_surface.proofs.labelled.number_sides.Goals as goal
use Rattle.page_surface.proofs.labelled.number_sides.Goals.{then-is_new, else-is_new}

pub loop-name-preserved : goal.loop-name-preserved
loop-name-preserved c =
    let occurrence : c.if-is_new.push ≡ cond (list_any (string_eq c.in_ok-clone.field-0) c.loop-name.labels.keys) 1 0
    = elim c.if-is_new.branch [
      | then-is_new w ↦ occurrence-new _ _ _ c.in_ok-number.ensures.added w.if-is_new.true w.push-is
      | else-is_new w ↦ occurrence-old _ _ _ c.in_ok-number.ensures.added w.if-is_new.false w.push-is
    ] in (
      length_more _ _ _ _ _ c.in_ok-number.ensures.len c.loop-name.invariant.0,
      numbered_more _ _ _ c.name-item.result c.in_ok-clone.field-0 _ _ _ _ _ _ c.loop-name-test.true c.name-item.is c.in_ok-clone.ensures.cases
          (record {
            keys_are = c.in_ok-number.ensures.keys;
            number_is = c.new.ensures ∙ c.in_ok-number.ensures.index;
            occurrence_is = occurrence;
            sides_are = c.in_ok-push.ensures.ok;
          })
          c.loop-name.invariant.1,
    )
