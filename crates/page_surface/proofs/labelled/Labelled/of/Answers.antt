use Rattle.std.proofs.Common.{◌∙◌, ap, ap₂, arith, length, map, string_bytes, ◌++◌, ◌∷◌, [], sym}
use Rattle.std.proofs.lemmas.List.{length-map}
use Rattle.page_surface.specs.Labels.{side_labels, with_labels}
use Rattle.page_surface.proofs.ReadSoFar.{labels_more, room_for_more, shown_more, sides_more}
use Rattle.page_surface.proofs.labelled.Labelled.of.Goals as goal

pub number_sides-requires : goal.number_sides-requires
number_sides-requires c =
    omega (
      arith,
      room_for_more c.args.polygons.now c.loop-polygon.polygon-index c.polygon-item.result c.loop-polygon-test.true c.polygon-item.is,
      ap length c.loop-polygon.invariant.labels_are,
      length-map c.loop-polygon.labels.keys string_bytes,
      ap length c.as_slice.ensures.value,
      c.requires.few,
    )

pub loop-polygon-preserved : goal.loop-polygon-preserved
loop-polygon-preserved c =
    let given = c.args.polygons.now in
    let i = c.loop-polygon.polygon-index in
    let polygon = c.polygon-item.result in
    record {
      copied_are = c.in_ok-push-2.ensures.ok
          ∙ (ap₂ (λ xs x. xs ++ x ∷ []) c.loop-polygon.invariant.copied_are (c.in_ok-copied_names.ensures ∙ ap (map string_bytes) c.as_slice-in-loop-polygon.ensures.value)
          ∙ sym (shown_more given i polygon c.loop-polygon-test.true c.polygon-item.is));
      labels_are = labels_more given i polygon c.loop-polygon-test.true c.polygon-item.is _ _ c.loop-polygon.invariant.labels_are
          (c.in_ok-number_sides.ensures.labels ∙ ap (λ ns. with_labels (map string_bytes c.loop-polygon.labels.keys) (map string_bytes ns)) c.as_slice.ensures.value);
      sides_are = sides_more given i polygon c.loop-polygon-test.true c.polygon-item.is _ _ _ _ c.loop-polygon.invariant.labels_are c.loop-polygon.invariant.sides_are
          (c.in_ok-number_sides.ensures.sides ∙ ap (λ ns. side_labels (map string_bytes c.loop-polygon.labels.keys) (map string_bytes ns)) c.as_slice.ensures.value)
          c.in_ok-push.ensures.ok;
    }
