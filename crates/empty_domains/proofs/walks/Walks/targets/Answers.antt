use Rattle.std.proofs.Common.{◌∙◌, List, ℕ, ap, arith, length, subst, sym}
use Rattle.std.proofs.lemmas.Result.{IfOk-weaker}
use Rattle.drawing.specs.Points.{IsGenerator}
use Rattle.empty_domains.proofs.Generators.{listed_at}
use Rattle.empty_domains.specs.Ground.{IsStanding}
use Rattle.empty_domains.proofs.Tested.{all_targets}
use Rattle.empty_domains.specs.Targets.{AreTargets}
use Rattle.page_surface.specs.Drawing.{Drawing, IsEmbedded, all_exits}
use Rattle.page_surface.specs.Polygon.{sides}
use Rattle.region_table.proofs.SpanCount.{spans_few}
use Rattle.empty_domains.proofs.walks.Walks.targets.Goals as goal

pub standing-requires-clause-points : goal.standing-requires-clause-points
standing-requires-clause-points c =
    let d = c.args.diagram.now in
    let gens = c.args.generators.now in
    let from : IsGenerator d c.points-y.result.now = subst (λ (z : List ℕ). IsGenerator d z) (sym c.points-y.ensures) (listed_at d gens c.args.from c.requires.generators c.requires.from) in
    from

pub standing-requires-clause-few : goal.standing-requires-clause-few
standing-requires-clause-few c =
    let d = c.args.diagram.now in
    let n = c.sides.ensures.value ∙ ap sides (c.polygon-polygon.ensures ∙ ap (λ (w : Drawing). w.polygon) c.drawing-2.ensures) in
    spans_few d (omega (arith, n, c.sides.ensures.most)) (omega (arith, c.points.ensures.value, c.points.ensures.few, ap (λ (w : Drawing). length (all_exits w)) c.drawing.ensures))

pub steps_from-requires-clause-standing : goal.steps_from-requires-clause-standing
steps_from-requires-clause-standing c =
    let d = c.args.diagram.now in
    let gens = c.args.generators.now in
    let from : IsGenerator d c.points-y.result.now = subst (λ (z : List ℕ). IsGenerator d z) (sym c.points-y.ensures) (listed_at d gens c.args.from c.requires.generators c.requires.from) in
    let on : IsStanding d c.points-y.result.now c.deref-2.result.now = subst (λ (z : List ℕ). IsStanding d c.points-y.result.now z) (sym c.deref-2.ensures) c.in_ok-standing.ensures in
    (c.points-y.result.now, from, on)

pub targets_of-requires-clause-y : goal.targets_of-requires-clause-y
targets_of-requires-clause-y c =
    let d = c.args.diagram.now in
    let gens = c.args.generators.now in
    let from : IsGenerator d c.points-y.result.now = subst (λ (z : List ℕ). IsGenerator d z) (sym c.points-y.ensures) (listed_at d gens c.args.from c.requires.generators c.requires.from) in
    from

pub targets_of-requires-clause-steps : goal.targets_of-requires-clause-steps
targets_of-requires-clause-steps c =
    let d = c.args.diagram.now in
    let gens = c.args.generators.now in
    let from : IsGenerator d c.points-y.result.now = subst (λ (z : List ℕ). IsGenerator d z) (sym c.points-y.ensures) (listed_at d gens c.args.from c.requires.generators c.requires.from) in
    let on : IsStanding d c.points-y.result.now c.deref-2.result.now = subst (λ (z : List ℕ). IsStanding d c.points-y.result.now z) (sym c.deref-2.ensures) c.in_ok-standing.ensures in
    c.deref-6.ensures.value ∙ c.in_ok-steps.ensures c.points-y.result.now from on

pub targets_of-requires-clause-few : goal.targets_of-requires-clause-few
targets_of-requires-clause-few c =
    let d = c.args.diagram.now in
    let n = c.sides.ensures.value ∙ ap sides (c.polygon-polygon.ensures ∙ ap (λ (w : Drawing). w.polygon) c.drawing-2.ensures) in
    spans_few d (omega (arith, n, c.sides.ensures.most)) (omega (arith, c.points.ensures.value, c.points.ensures.few, ap (λ (w : Drawing). length (all_exits w)) c.drawing.ensures))

pub returns : goal.returns
returns c =
    let d = c.args.diagram.now in
    let ok : IsEmbedded d = subst (λ (w : Drawing). IsEmbedded w) c.drawing.ensures c.points.ensures.valid in
    let gens = c.args.generators.now in
    let from : IsGenerator d c.points-y.result.now = subst (λ (z : List ℕ). IsGenerator d z) (sym c.points-y.ensures) (listed_at d gens c.args.from c.requires.generators c.requires.from) in
    let on : IsStanding d c.points-y.result.now c.deref-2.result.now = subst (λ (z : List ℕ). IsStanding d c.points-y.result.now z) (sym c.deref-2.ensures) c.in_ok-standing.ensures in
    IfOk-weaker c.targets_of.result _ _ (λ targets led. subst (λ (z : List ℕ). AreTargets d z gens targets.items) c.points-y.ensures
    (all_targets d c.points-y.result.now gens ok c.requires.nice from c.deref-6.result.now (c.deref-6.ensures.value ∙ c.in_ok-steps.ensures c.points-y.result.now from on) targets.items led)) c.targets_of.ensures
