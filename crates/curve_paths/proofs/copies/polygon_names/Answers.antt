use Rattle.std.proofs.Common.{[], ◌∷◌, ◌++◌, take, get_or, sym, ap, ◌∙◌, arith}
use Rattle.std.proofs.lemmas.List.{take_more}
use Rattle.std.proofs.lemmas.Option.{same_Some}
use Rattle.page_surface.proofs.Names.{side_label_in_range, side_named}
use Rattle.curve_paths.proofs.copies.polygon_names.Goals as goal

pub name-requires : goal.name-requires
name-requires c = side_label_in_range _ _ _ _ c.requires (omega arith) c.label_at-label.ensures

pub loop-side-preserved : goal.loop-side-preserved
loop-side-preserved c =
    let named = same_Some _ _ (sym c.name.ensures ∙ side_named _ _ _ _ c.requires (omega arith) c.label_at-label.ensures) in
    c.in_ok-push.ensures.ok ∙ (ap (λ xs. xs ++ c.in_ok-from_str.field-0 ∷ []) c.loop-side.invariant
    ∙ (ap (λ x. take c.loop-side.side (get_or c.args.page.now c.args.polygon []) ++ x ∷ []) (c.in_ok-from_str.ensures ∙ named) ∙ sym (take_more _ c.loop-side.side [] (omega arith))))
