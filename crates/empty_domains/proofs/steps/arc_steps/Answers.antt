use Rattle.std.proofs.Common.{◌≡◌, ◌∙◌, ap₂}
use Rattle.std.proofs.lemmas.Result.{on_ok_weaker}
use Rattle.empty_domains.proofs.StepsMade.{arc_grown}
use Rattle.page_surface.specs.Polygon.{first_side, partner, second_side}
use Rattle.empty_domains.proofs.steps.arc_steps.Goals as goal

pub returns-clause-steps : goal.returns-clause-steps
returns-clause-steps c =
    let d = c.args.diagram.now in
    let first : c.first_side-first.result ≡ first_side d.polygon c.args.arc = c.first_side-first.ensures ∙ ap₂ first_side c.requires.polygon c.new.ensures in
    let f : c.number.result ≡ first_side d.polygon c.args.arc = c.number.ensures.value ∙ first in
    let s : c.number-2.result ≡ second_side d.polygon c.args.arc = c.number-2.ensures.value ∙ (c.pair.ensures ∙ ap₂ partner c.requires.polygon first) in
    on_ok_weaker c.side_steps-2.result (λ a. arc_grown d c.args.tables.now c.args.standing.now _ c.args.arc c.number.result c.number-2.result _ _ _ c.requires.tables.ends_size f s c.in_ok-side_steps.ensures.steps a) c.side_steps-2.ensures.steps
