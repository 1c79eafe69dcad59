use Rattle.std.proofs.Common.{ℕ, [], length, map, find, not, sym, ap, ◌∙◌, arith, subst, refl, ap₂, List}
use Rattle.std.proofs.lemmas.Bool.{le-ltb}
use Rattle.std.proofs.lemmas.Option.{get_or_from_slice_get}
use Rattle.obd_base.specs.Lists.{below}
use Rattle.page_surface.specs.Labels.{labels_of}
use Rattle.curve_paths.specs.PathRules.{crossing_pair}
use Rattle.curve_paths.specs.Paths.{crossings, has_label_places, is_within, label_points, path_chords}
use Rattle.curve_paths.proofs.Built.{as_many, chord_count, counts_alone, counts_size, few_labels, found_of, kept_as, numbered_as, placed_as, seen_as, wrong_as}
use Rattle.curve_paths.specs.PlaceTables.{IsPlaceOrder}
use Rattle.curve_paths.proofs.Orders.{few_counts, order_made}
use Rattle.curve_paths.proofs.Rules.{labels_known, none_fails, not_adjacent, place_wrong, two_cross}
use Rattle.curve_paths.proofs.path.PageCurve.new.Goals as goal

pub numbered-requires : goal.numbered-requires
numbered-requires c =
    let some = sym c.if-is_empty.ensures in
    labels_known c.args.page.now c.args.path.now some c.in_default.ensures

pub point_counts-requires-clause-numbered : goal.point_counts-requires-clause-numbered
point_counts-requires-clause-numbered c =
    let some = sym c.if-is_empty.ensures in
    let known = labels_known c.args.page.now c.args.path.now some c.in_default.ensures in
    numbered_as c.args.page.now c.args.path.now _ (c.deref.ensures.value ∙ c.in_ok-crossings.ensures) known c.requires.occurrences _ c.label_count.ensures.value

pub first_wrong_label-requires-clause-numbered : goal.first_wrong_label-requires-clause-numbered
first_wrong_label-requires-clause-numbered c =
    let some = sym c.if-is_empty.ensures in
    let known = labels_known c.args.page.now c.args.path.now some c.in_default.ensures in
    let size = counts_size c.deref.result.now _ _ (c.deref-3.ensures.value ∙ c.in_ok-counts.ensures) ∙ c.label_count.ensures.value in
    numbered_as c.args.page.now c.args.path.now _ (c.deref-2.ensures.value ∙ c.in_ok-crossings.ensures) known c.requires.occurrences _ size

pub first_wrong_label-requires-clause-counts : goal.first_wrong_label-requires-clause-counts
first_wrong_label-requires-clause-counts c =
    counts_alone c.deref-2.result.now _ _ (c.deref-3.ensures.value ∙ (c.in_ok-counts.ensures ∙ ap (λ cs. map (label_points cs) (below c.label_count.result)) (c.deref.ensures.value ∙ sym c.deref-2.ensures.value)))

pub first_wrong_label-requires-clause-labels : goal.first_wrong_label-requires-clause-labels
first_wrong_label-requires-clause-labels c =
    let size = counts_size c.deref.result.now _ _ (c.deref-3.ensures.value ∙ c.in_ok-counts.ensures) ∙ c.label_count.ensures.value in
    omega (arith, size, few_labels c.args.page.now c.label_count.ensures.valid)

pub name-requires : goal.name-requires
name-requires c =
    let size = counts_size c.deref.result.now _ _ (c.deref-3.ensures.value ∙ c.in_ok-counts.ensures) ∙ c.label_count.ensures.value in
    let wrong = wrong_as c.args.page.now c.args.path.now _ (c.deref-2.ensures.value ∙ c.in_ok-crossings.ensures) _ _ size c.in_ok-label.ensures in
    let at = sym wrong ∙ c.in-Some-2.is in
    found_of (λ label. not (has_label_places (crossings c.args.page.now c.args.path.now) label)) (length (labels_of c.args.page.now)) _ at

pub returns-in-Some-2-clause-refused : goal.returns-in-Some-2-clause-refused
returns-in-Some-2-clause-refused c =
    let some = sym c.if-is_empty.ensures in
    let size = counts_size c.deref.result.now _ _ (c.deref-3.ensures.value ∙ c.in_ok-counts.ensures) ∙ c.label_count.ensures.value in
    let wrong = wrong_as c.args.page.now c.args.path.now _ (c.deref-2.ensures.value ∙ c.in_ok-crossings.ensures) _ _ size c.in_ok-label.ensures in
    let few = le-ltb 32 (length c.args.path.now) (omega arith) in
    λ _. place_wrong c.args.page.now c.args.path.now some c.in_default.ensures few _ _ (sym c.in-Some-2.is ∙ wrong)
    (c.in_ok-label-2.ensures ∙ sym (get_or_from_slice_get (labels_of c.args.page.now) c.in-Some-2.label _ [] c.name.ensures))

pub first_apart-requires : goal.first_apart-requires
first_apart-requires c =
    let some = sym c.if-is_empty.ensures in
    let known = labels_known c.args.page.now c.args.path.now some c.in_default.ensures in
    let size = counts_size c.deref.result.now _ _ (c.deref-3.ensures.value ∙ c.in_ok-counts.ensures) ∙ c.label_count.ensures.value in
    let wrong = wrong_as c.args.page.now c.args.path.now _ (c.deref-2.ensures.value ∙ c.in_ok-crossings.ensures) _ _ size c.in_ok-label.ensures in
    let few = le-ltb 32 (length c.args.path.now) (omega arith) in
    let right = sym c.in_default-2.is ∙ wrong in
    placed_as c.args.page.now c.args.path.now _ (c.deref-4.ensures.value ∙ c.in_ok-crossings.ensures) known c.requires.occurrences few right

pub returns-in-Some-first_apart-clause-refused : goal.returns-in-Some-first_apart-clause-refused
returns-in-Some-first_apart-clause-refused c =
    let some = sym c.if-is_empty.ensures in
    let size = counts_size c.deref.result.now _ _ (c.deref-3.ensures.value ∙ c.in_ok-counts.ensures) ∙ c.label_count.ensures.value in
    let wrong = wrong_as c.args.page.now c.args.path.now _ (c.deref-2.ensures.value ∙ c.in_ok-crossings.ensures) _ _ size c.in_ok-label.ensures in
    let few = le-ltb 32 (length c.args.path.now) (omega arith) in
    let right = sym c.in_default-2.is ∙ wrong in
    λ _. not_adjacent c.args.page.now c.args.path.now some c.in_default.ensures few right _
    (c.in-Some-first_apart.ensures ∙ ap (λ cs. find (λ i. not (is_within c.args.page.now cs i)) (below (length cs))) (c.deref-4.ensures.value ∙ c.in_ok-crossings.ensures))

pub of-requires-clause-size : goal.of-requires-clause-size
of-requires-clause-size c = counts_size c.deref.result.now _ _ c.in_ok-counts.ensures ∙ c.label_count.ensures.value

pub of-requires-clause-few : goal.of-requires-clause-few
of-requires-clause-few c =
    few_counts c.args.page.now c.label_count.ensures.valid c.deref.result.now _
    (omega (arith, as_many c.args.page.now c.args.path.now c.deref.result.now (c.deref.ensures.value ∙ c.in_ok-crossings.ensures)))
    (c.in_ok-counts.ensures ∙ ap (λ n. map (label_points c.deref.result.now) (below n)) c.label_count.ensures.value)

pub chords_of-requires-clause-order : goal.chords_of-requires-clause-order
chords_of-requires-clause-order c =
    let same = c.deref.ensures.value ∙ sym c.deref-5.ensures.value in
    subst (λ (counts : List ℕ). IsPlaceOrder c.args.page.now c.deref-5.result.now counts c.in_ok-order.order.starts.items) (sym c.in_ok-order.ensures.counts)
    (order_made c.args.page.now c.label_count.ensures.valid c.deref-5.result.now _
    (omega (arith, as_many c.args.page.now c.args.path.now c.deref-5.result.now (c.deref-5.ensures.value ∙ c.in_ok-crossings.ensures)))
    (c.in_ok-counts.ensures ∙ ap₂ (λ cs n. map (label_points cs) (below n)) same c.label_count.ensures.value) _ _ refl c.in_ok-order.ensures.starts)

pub chords_of-requires-clause-placed : goal.chords_of-requires-clause-placed
chords_of-requires-clause-placed c =
    let some = sym c.if-is_empty.ensures in
    let known = labels_known c.args.page.now c.args.path.now some c.in_default.ensures in
    let size = counts_size c.deref.result.now _ _ (c.deref-3.ensures.value ∙ c.in_ok-counts.ensures) ∙ c.label_count.ensures.value in
    let wrong = wrong_as c.args.page.now c.args.path.now _ (c.deref-2.ensures.value ∙ c.in_ok-crossings.ensures) _ _ size c.in_ok-label.ensures in
    let few = le-ltb 32 (length c.args.path.now) (omega arith) in
    let right = sym c.in_default-2.is ∙ wrong in
    placed_as c.args.page.now c.args.path.now _ (c.deref-5.ensures.value ∙ c.in_ok-crossings.ensures) known c.requires.occurrences few right

pub crossing_pair-requires : goal.crossing_pair-requires
crossing_pair-requires c =
    let many = chord_count c.args.page.now c.deref-5.result.now c.deref-6.result.now (c.deref-6.ensures.value ∙ c.in_ok-chords.ensures) in
    omega (arith, many, as_many c.args.page.now c.args.path.now _ (c.deref-5.ensures.value ∙ c.in_ok-crossings.ensures))

pub returns-in-Some-crossing_pair-clause-refused : goal.returns-in-Some-crossing_pair-clause-refused
returns-in-Some-crossing_pair-clause-refused c =
    let some = sym c.if-is_empty.ensures in
    let size = counts_size c.deref.result.now _ _ (c.deref-3.ensures.value ∙ c.in_ok-counts.ensures) ∙ c.label_count.ensures.value in
    let wrong = wrong_as c.args.page.now c.args.path.now _ (c.deref-2.ensures.value ∙ c.in_ok-crossings.ensures) _ _ size c.in_ok-label.ensures in
    let few = le-ltb 32 (length c.args.path.now) (omega arith) in
    let right = sym c.in_default-2.is ∙ wrong in
    let within = c.in_default-first_apart.ensures ∙ ap (λ cs. find (λ i. not (is_within c.args.page.now cs i)) (below (length cs))) (c.deref-4.ensures.value ∙ c.in_ok-crossings.ensures) in
    λ _. two_cross c.args.page.now c.args.path.now some c.in_default.ensures few right within _
    (c.in-Some-crossing_pair.ensures ∙ ap crossing_pair (c.deref-6.ensures.value ∙ (c.in_ok-chords.ensures ∙ ap (path_chords c.args.page.now) (c.deref-5.ensures.value ∙ c.in_ok-crossings.ensures))))

pub invariant_of-result : goal.invariant_of-result
invariant_of-result c =
    let some = sym c.if-is_empty.ensures in
    let size = counts_size c.deref.result.now _ _ (c.deref-3.ensures.value ∙ c.in_ok-counts.ensures) ∙ c.label_count.ensures.value in
    let wrong = wrong_as c.args.page.now c.args.path.now _ (c.deref-2.ensures.value ∙ c.in_ok-crossings.ensures) _ _ size c.in_ok-label.ensures in
    let few = le-ltb 32 (length c.args.path.now) (omega arith) in
    let right = sym c.in_default-2.is ∙ wrong in
    let within = c.in_default-first_apart.ensures ∙ ap (λ cs. find (λ i. not (is_within c.args.page.now cs i)) (below (length cs))) (c.deref-4.ensures.value ∙ c.in_ok-crossings.ensures) in
    kept_as c.args.page.now _ c.args.path.now _ _ _ c.in_ok-page_names.ensures c.in_ok-copied_path.ensures (record {
      is_page = c.label_count.ensures.valid;
      is_path = none_fails c.args.page.now c.args.path.now some c.in_default.ensures few right within
          (c.in_default-crossing_pair.ensures ∙ ap crossing_pair (c.deref-6.ensures.value ∙ (c.in_ok-chords.ensures ∙ ap (path_chords c.args.page.now) (c.deref-5.ensures.value ∙ c.in_ok-crossings.ensures))));
      occurrences = c.requires.occurrences;
      numbered_are = c.in_ok-crossings.ensures;
      counts_are = ap (λ v. v.items) c.into_counts.ensures ∙ (c.in_ok-order.ensures.counts ∙ (c.in_ok-counts.ensures
          ∙ ap₂ (λ cs n. map (label_points cs) (below n)) (c.deref.ensures.value ∙ c.in_ok-crossings.ensures) c.label_count.ensures.value));
    })

pub returns-clause-curve : goal.returns-clause-curve
returns-clause-curve c = seen_as _ _ _ _ c.in_ok-page_names.ensures c.in_ok-copied_path.ensures

pub returns-clause-accepted : goal.returns-clause-accepted
returns-clause-accepted c =
    let some = sym c.if-is_empty.ensures in
    let size = counts_size c.deref.result.now _ _ (c.deref-3.ensures.value ∙ c.in_ok-counts.ensures) ∙ c.label_count.ensures.value in
    let wrong = wrong_as c.args.page.now c.args.path.now _ (c.deref-2.ensures.value ∙ c.in_ok-crossings.ensures) _ _ size c.in_ok-label.ensures in
    let few = le-ltb 32 (length c.args.path.now) (omega arith) in
    let right = sym c.in_default-2.is ∙ wrong in
    let within = c.in_default-first_apart.ensures ∙ ap (λ cs. find (λ i. not (is_within c.args.page.now cs i)) (below (length cs))) (c.deref-4.ensures.value ∙ c.in_ok-crossings.ensures) in
    none_fails c.args.page.now c.args.path.now some c.in_default.ensures few right within
    (c.in_default-crossing_pair.ensures ∙ ap crossing_pair (c.deref-6.ensures.value ∙ (c.in_ok-chords.ensures ∙ ap (path_chords c.args.page.now) (c.deref-5.ensures.value ∙ c.in_ok-crossings.ensures))))
