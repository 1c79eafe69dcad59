use Rattle.std.proofs.Common.{◌∙◌, List, ℕ, ap, arith, length, subst, sym}
use Rattle.std.proofs.lemmas.Result.{IfOk-weaker}
use Rattle.drawing.specs.Points.{IsGenerator}
use Rattle.empty_domains.proofs.Generators.{listed_at}
use Rattle.empty_domains.specs.Ground.{IsStanding}
use Rattle.empty_domains.proofs.Laws.{strips_find_all}
use Rattle.empty_domains.specs.Leads.{IsWalk}
use Rattle.empty_domains.specs.Strip.{Step, step_leads}
use Rattle.page_surface.specs.Drawing.{Drawing, IsEmbedded, all_exits}
use Rattle.page_surface.specs.Polygon.{sides}
use Rattle.region_table.proofs.SpanCount.{spans_few}
use Rattle.empty_domains.proofs.walks.Walks.steps.Goals as goal

pub standing-requires-clause-points : goal.standing-requires-clause-points
standing-requires-clause-points c =
    let d = c.args.diagram.now in
    let gens = c.args.generators.now in
    let from : IsGenerator d c.points-y.result.now = subst (λ (z : List ℕ). IsGenerator d z) (sym c.points-y.ensures) (listed_at d gens c.args.from c.requires.generators c.requires.from) in
    from

pub standing-requires-clause-few : goal.standing-requires-clause-few
standing-requires-clause-few c =
    let d = c.args.diagram.now in
    let n = c.sides.ensures.value ∙ ap sides (c.polygon-polygon.ensures ∙ ap (λ (w : Drawing). w.polygon) c.drawing-2.ensures) in
    spans_few d (omega (arith, n, c.sides.ensures.most)) (omega (arith, c.points.ensures.value, c.points.ensures.few, ap (λ (w : Drawing). length (all_exits w)) c.drawing.ensures))

pub steps_from-requires-clause-standing : goal.steps_from-requires-clause-standing
steps_from-requires-clause-standing c =
    let d = c.args.diagram.now in
    let gens = c.args.generators.now in
    let from : IsGenerator d c.points-y.result.now = subst (λ (z : List ℕ). IsGenerator d z) (sym c.points-y.ensures) (listed_at d gens c.args.from c.requires.generators c.requires.from) in
    let on : IsStanding d c.points-y.result.now c.deref-2.result.now = subst (λ (z : List ℕ). IsStanding d c.points-y.result.now z) (sym c.deref-2.ensures) c.in_ok-standing.ensures in
    (c.points-y.result.now, from, on)

pub returns : goal.returns
returns c =
    let d = c.args.diagram.now in
    let ok : IsEmbedded d = subst (λ (w : Drawing). IsEmbedded w) c.drawing.ensures c.points.ensures.valid in
    let gens = c.args.generators.now in
    let from : IsGenerator d c.points-y.result.now = subst (λ (z : List ℕ). IsGenerator d z) (sym c.points-y.ensures) (listed_at d gens c.args.from c.requires.generators c.requires.from) in
    let on : IsStanding d c.points-y.result.now c.deref-2.result.now = subst (λ (z : List ℕ). IsStanding d c.points-y.result.now z) (sym c.deref-2.ensures) c.in_ok-standing.ensures in
    IfOk-weaker c.steps_from.result _ _ (λ steps e. subst (λ (z : List ℕ). IsWalk d z (step_leads d z steps.items)) c.points-y.ensures
    (subst (λ (ss : List Step). IsWalk d c.points-y.result.now (step_leads d c.points-y.result.now ss)) (sym e) (strips_find_all d ok c.requires.nice c.points-y.result.now from)))
    (c.steps_from.ensures c.points-y.result.now from on)
