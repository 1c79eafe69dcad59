use Rattle.std.proofs.Common.{◌≡◌, ℕ, List, length, refl, ◌∙◌, ap, subst, arith}
use Rattle.page_surface.specs.Polygon.{sides}
use Rattle.region_table.specs.Asked.{told_by}
use Rattle.region_table.specs.Counted.{AreTold}
use Rattle.region_table.proofs.ListedSteps.{listed_same}
use Rattle.region_table.proofs.MadeTable.{few_told, inner_short, made_is_kept, made_is_table, names_few, names_seen, sizes_seen}
use Rattle.region_table.proofs.SpanCount.{spans_few}
use Rattle.region_table.proofs.regions.Regions.of.Goals as goal

pub number_pieces-requires-clause-few : goal.number_pieces-requires-clause-few
number_pieces-requires-clause-few c =
    let n : c.sides.result ≡ sides c.args.drawing.now.drawing.polygon = c.sides.ensures.value ∙ ap sides c.polygon.ensures in
    spans_few c.args.drawing.now.drawing (omega (arith, n, c.sides.ensures.most)) (omega (arith, c.points.ensures.value, c.points.ensures.few))

pub told_of-requires-clause-few : goal.told_of-requires-clause-few
told_of-requires-clause-few c =
    let n : c.sides.result ≡ sides c.args.drawing.now.drawing.polygon = c.sides.ensures.value ∙ ap sides c.polygon.ensures in
    spans_few c.args.drawing.now.drawing (omega (arith, n, c.sides.ensures.most)) (omega (arith, c.points.ensures.value, c.points.ensures.few))

pub inner_names-requires : goal.inner_names-requires
inner_names-requires c =
    let d = c.args.drawing.now.drawing in
    let n : c.sides.result ≡ sides d.polygon = c.sides.ensures.value ∙ ap sides c.polygon.ensures in
    few_told d c.points.ensures.valid _ _ c.in_ok-told.ensures.told (omega (arith, n, c.sides.ensures.most)) (omega (arith, c.points.ensures.value, c.points.ensures.few))

pub listing_of-requires-clause-few : goal.listing_of-requires-clause-few
listing_of-requires-clause-few c =
    let d = c.args.drawing.now.drawing in
    let n : c.sides.result ≡ sides d.polygon = c.sides.ensures.value ∙ ap sides c.polygon.ensures in
    names_few d c.points.ensures.valid _ c.deref-5.result.now c.in_ok-names.ensures c.deref-5.ensures.value (spans_few d (omega (arith, n, c.sides.ensures.most)) (omega (arith, c.points.ensures.value, c.points.ensures.few)))

pub listing_of-requires-clause-told : goal.listing_of-requires-clause-told
listing_of-requires-clause-told c =
    let d = c.args.drawing.now.drawing in
    let told = subst (λ ns. AreTold d ns c.in_ok-told.told.regions) c.deref-4.ensures.value c.in_ok-told.ensures.told in
    names_seen d c.points.ensures.valid _ c.deref-5.result.now _ c.in_ok-told.told.regions c.in_ok-names.ensures told c.deref-5.ensures.value refl

pub listing_of-requires-clause-sizes : goal.listing_of-requires-clause-sizes
listing_of-requires-clause-sizes c =
    let d = c.args.drawing.now.drawing in
    let told = subst (λ ns. AreTold d ns c.in_ok-told.told.regions) c.deref-4.ensures.value c.in_ok-told.ensures.told in
    sizes_seen d c.points.ensures.valid _ c.deref-5.result.now _ c.in_ok-told.told.regions c.in_ok-names.ensures told c.deref-5.ensures.value refl

pub invariant_of-result : goal.invariant_of-result
unfolding told_by
invariant_of-result c =
    let d = c.args.drawing.now.drawing in
    let n : c.sides.result ≡ sides d.polygon = c.sides.ensures.value ∙ ap sides c.polygon.ensures in
    let told = subst (λ ns. AreTold d ns c.in_ok-told.told.regions) c.deref-4.ensures.value c.in_ok-told.ensures.told in (
      record {
        kept = made_is_kept d c.points.ensures.valid _ _ _ _ _ _ _ _ _ (c.in_ok-polygon.ensures ∙ c.polygon-2.ensures) c.in_ok-frame.ensures.frame c.in_ok-names.ensures told c.in_ok-inner.ensures.inner
            (omega (arith, n, c.sides.ensures.most)) (omega (arith, c.points.ensures.value, c.points.ensures.few));
        inner_in_order = c.in_ok-inner.ensures.inner;
        as_many_starts = c.in_ok-listing.ensures.as_many;
        as_many_listed = omega (arith, c.in_ok-listing.ensures.in_order.as_many, ap (λ (xs : List ℕ). length xs) c.deref-5.ensures.value);
        in_order = λ e. listed_same c.in_ok-names.names.items c.deref-5.result.now c.in_ok-listing.listing.starts.items c.in_ok-listing.listing.starts.items c.in_ok-listing.listing.spans.items c.deref-5.ensures.value refl c.in_ok-listing.ensures.in_order;
      },
      record {
        names_room = omega (arith, c.in_ok-names.names.ok);
        mates_room = omega (arith, c.in_ok-frame.frame.mates.ok);
        ends_room = omega (arith, c.in_ok-frame.frame.ends.ok);
        rows_room = omega arith;
        told_room = omega arith;
        starts_room = omega (arith, c.in_ok-listing.listing.starts.ok);
        next_room = omega (arith, c.in_ok-listing.listing.next.ok);
        spans_room = omega (arith, c.in_ok-listing.listing.spans.ok);
        as_many_next = c.in_ok-listing.ensures.as_many_next;
        few_inner = omega (arith, inner_short c.in_ok-inner.inner.items c.in_ok-told.told.regions (length c.in_ok-told.told.regions) c.in_ok-inner.ensures.inner, c.in_ok-inner.inner.ok);
        inner_room = omega (arith, c.in_ok-inner.ensures.room);
      },
    )

pub returns-clause-table : goal.returns-clause-table
unfolding told_by
returns-clause-table c =
    let d = c.args.drawing.now.drawing in
    let told = subst (λ ns. AreTold d ns c.in_ok-told.told.regions) c.deref-4.ensures.value c.in_ok-told.ensures.told in
    made_is_table d c.points.ensures.valid _ _ _ _ _ _ _ _ _ (c.in_ok-polygon.ensures ∙ c.polygon-2.ensures) c.in_ok-frame.ensures.frame c.in_ok-names.ensures told c.in_ok-inner.ensures.inner

pub returns-clause-distances : goal.returns-clause-distances
unfolding told_by
returns-clause-distances c =
    let told = subst (λ ns. AreTold c.args.drawing.now.drawing ns c.in_ok-told.told.regions) c.deref-4.ensures.value c.in_ok-told.ensures.told in
    told.distance
