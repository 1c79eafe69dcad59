use Rattle.std.proofs.Common.{map, ◌∙◌, ap, sym, arith}
use Rattle.std.specs.List.{position_or_len}
use Rattle.page_surface.specs.Joining.{is_side, other_side}
use Rattle.arc_basis.specs.BasisTables.{side_table}
use Rattle.arc_basis.proofs.Laws.{few_sides, found_by, named_by, pairs_off, seen_joined, tables_made}
use Rattle.arc_basis.proofs.basis.join.Goals as goal

pub side_table-requires-clause-few : goal.side_table-requires-clause-few
side_table-requires-clause-few c =
    let few = few_sides c.args.page.now c.label_count-label_count.ensures.valid _ (c.as_slice.ensures ∙ c.in_ok-sides.ensures.sides) _ c.label_count-label_count.ensures.value in omega (arith, few)

pub side_table-requires-clause-named : goal.side_table-requires-clause-named
side_table-requires-clause-named c =
    named_by c.args.page.now c.label_count-label_count.ensures.valid _ (c.as_slice.ensures ∙ c.in_ok-sides.ensures.sides) _ c.label_count-label_count.ensures.value

pub side_table-requires-2-clause-few : goal.side_table-requires-2-clause-few
side_table-requires-2-clause-few c =
    let few = few_sides c.args.page.now c.label_count-label_count.ensures.valid _ (c.as_slice-2.ensures ∙ c.in_ok-sides.ensures.sides) _ c.label_count-label_count.ensures.value in omega (arith, few)

pub side_table-requires-2-clause-named : goal.side_table-requires-2-clause-named
side_table-requires-2-clause-named c =
    named_by c.args.page.now c.label_count-label_count.ensures.valid _ (c.as_slice-2.ensures ∙ c.in_ok-sides.ensures.sides) _ c.label_count-label_count.ensures.value

pub partners-requires : goal.partners-requires
partners-requires c =
    found_by c.args.page.now c.label_count-label_count.ensures.valid _ (c.as_slice-3.ensures ∙ c.in_ok-sides.ensures.sides) _ c.label_count-label_count.ensures.value _ _
    (c.as_slice-4.ensures ∙ (c.in_ok-first_sides.ensures ∙ ap (λ xs. side_table xs c.label_count-label_count.result 0) (c.as_slice.ensures ∙ sym c.as_slice-3.ensures)))
    (c.as_slice-5.ensures ∙ (c.in_ok-second_sides.ensures ∙ ap (λ xs. side_table xs c.label_count-label_count.result 1) (c.as_slice-2.ensures ∙ sym c.as_slice-3.ensures)))

pub of-requires-clause-least : goal.of-requires-clause-least
of-requires-clause-least c =
    (pairs_off c.args.page.now c.label_count-label_count.ensures.valid _ (c.as_slice-3.ensures ∙ c.in_ok-sides.ensures.sides) _ c.label_count-label_count.ensures.value _ c.in_ok-pairs.ensures).0

pub of-requires-clause-most : goal.of-requires-clause-most
of-requires-clause-most c =
    (pairs_off c.args.page.now c.label_count-label_count.ensures.valid _ (c.as_slice-3.ensures ∙ c.in_ok-sides.ensures.sides) _ c.label_count-label_count.ensures.value _ c.in_ok-pairs.ensures).1

pub of-requires-clause-pairs : goal.of-requires-clause-pairs
of-requires-clause-pairs c =
    (pairs_off c.args.page.now c.label_count-label_count.ensures.valid _ (c.as_slice-3.ensures ∙ c.in_ok-sides.ensures.sides) _ c.label_count-label_count.ensures.value _ c.in_ok-pairs.ensures).2

pub invariant_of-result : goal.invariant_of-result
invariant_of-result c =
    tables_made c.args.page.now c.label_count-label_count.ensures.valid _ c.in_ok-sides.ensures.sides _ c.label_count-label_count.ensures.value _ c.in_ok-sides.ensures.seams _ _ _ _ c.in_ok-polygon.ensures
    (c.in_ok-pairs.ensures ∙ ap (λ xs. map (λ s. position_or_len (is_side (other_side s)) xs) xs) c.as_slice-3.ensures)
    (c.in_ok-first_sides.ensures ∙ ap (λ xs. side_table xs c.label_count-label_count.result 0) c.as_slice.ensures)
    (c.in_ok-second_sides.ensures ∙ ap (λ xs. side_table xs c.label_count-label_count.result 1) c.as_slice-2.ensures)

pub returns : goal.returns
returns c =
    seen_joined c.args.page.now c.label_count-label_count.ensures.valid _ c.in_ok-sides.ensures.sides _ c.label_count-label_count.ensures.value _ c.in_ok-sides.ensures.seams
