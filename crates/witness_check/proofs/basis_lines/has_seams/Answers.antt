use Rattle.std.proofs.Common.{◌∙◌, ap}
use Rattle.arc_basis.proofs.Laws.{seams_named}
use Rattle.witness_check.specs.BookRules.{label_names}
use Rattle.witness_check.specs.Rules.{same_names}
use Rattle.witness_check.proofs.basis_lines.has_seams.Goals as goal

pub are_named-requires : goal.are_named-requires
are_named-requires c = seams_named c.args.page.now c.label_count.ensures.valid _ (c.seams.ensures.value ∙ ap (λ j. j.seams) c.requires)

pub returns : goal.returns
returns c = c.are_named.ensures ∙ ap (λ labels. same_names c.args.seams.now (label_names c.args.page.now labels)) (c.seams.ensures.value ∙ ap (λ j. j.seams) c.requires)
