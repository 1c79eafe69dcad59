use Rattle.std.proofs.Common.{◌∙◌, ap, map, refl, string_bytes, sym}
use Rattle.witness_check.proofs.NarrowPages.{few_of_narrow, wide_is_no_page}
use Rattle.witness_check.proofs.page_lines.page_of.Goals as goal

pub returns-then-not-are_narrow-clause-none : goal.returns-then-not-are_narrow-clause-none
returns-then-not-are_narrow-clause-none c = (λ e. wide_is_no_page c.args.polygons.now (sym c.are_narrow.ensures ∙ c.if-not-are_narrow.true), λ e. refl)

pub new-requires-clause-few : goal.new-requires-clause-few
new-requires-clause-few c =
    few_of_narrow _ c.args.polygons.now (ap (λ labels. map (λ p. map string_bytes p.items) labels) c.deref.ensures.value ∙ c.in_ok-labels.ensures)
    (sym c.are_narrow.ensures ∙ c.if-not-are_narrow.false) c.requires
