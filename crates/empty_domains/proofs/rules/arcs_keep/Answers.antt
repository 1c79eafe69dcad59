use Rattle.std.proofs.Common.{◌≡◌, ℕ, Bool, ◌∙◌, ◌+◌, ◌/◌, ap, sym, arith, refl}
use Rattle.std.specs.List.{list_all}
use Rattle.empty_domains.proofs.AllBelow.{all_not, all_push}
use Rattle.empty_domains.specs.Marks.{arc_rule_by, marked_by}
use Rattle.obd_base.specs.Lists.{below}
use Rattle.page_surface.specs.Polygon.{arc_count, sides}
use Rattle.empty_domains.proofs.rules.arcs_keep.Goals as goal

pub arc_keeps-requires-clause-arc : goal.arc_keeps-requires-clause-arc
arc_keeps-requires-clause-arc c =
    let half : c.sides-arc-end.result / 2 ≡ arc_count c.args.diagram.now.polygon = ap (λ n. n / 2) (c.sides-arc-end.ensures.value ∙ ap sides c.requires.polygon) in
    omega (arith, half, c.loop-arc-test.true)

pub returns-then-not-arc_keeps : goal.returns-then-not-arc_keeps
returns-then-not-arc_keeps c =
    let d = c.args.diagram.now in
    let p : ℕ → Bool = arc_rule_by d c.args.tables.now c.args.from.now c.args.to.now (marked_by c.args.pieces.now c.args.marks.now) in
    let half : c.sides-arc-end.result / 2 ≡ arc_count d.polygon = ap (λ n. n / 2) (c.sides-arc-end.ensures.value ∙ ap sides c.requires.polygon) in
    sym (all_not p (arc_count d.polygon) c.loop-arc.arc (omega (arith, half, c.loop-arc-test.true)) (sym c.arc_keeps.ensures ∙ c.if-not-arc_keeps.true))

pub loop-arc-preserved : goal.loop-arc-preserved
loop-arc-preserved c =
    let d = c.args.diagram.now in
    let p : ℕ → Bool = arc_rule_by d c.args.tables.now c.args.from.now c.args.to.now (marked_by c.args.pieces.now c.args.marks.now) in
    all_push p c.loop-arc.arc (c.loop-arc.arc + 1) refl c.loop-arc.invariant (sym c.arc_keeps.ensures ∙ c.if-not-arc_keeps.false)

pub returns : goal.returns
returns c =
    let d = c.args.diagram.now in
    let p : ℕ → Bool = arc_rule_by d c.args.tables.now c.args.from.now c.args.to.now (marked_by c.args.pieces.now c.args.marks.now) in
    let half : c.sides-arc-end.result / 2 ≡ arc_count d.polygon = ap (λ n. n / 2) (c.sides-arc-end.ensures.value ∙ ap sides c.requires.polygon) in
    let all : arc_count d.polygon ≡ c.loop-arc.arc = omega (arith, half, c.loop-arc-test.false, c.loop-arc.auto) in
    sym (ap (λ n. list_all p (below n)) all ∙ c.loop-arc.invariant)
