use Rattle.std.proofs.Common.{◌≡◌, ℕ, true, false, ◌&&◌, suc, ◌+◌, ◌≤◌, ◌∙◌, List, ap, arith, cond, eqb, get_or, length, refl, subst, sym}
use Rattle.std.specs.List.{count_by}
use Rattle.std.proofs.lemmas.Bool.{false≢true}
use Rattle.drawing.specs.Points.{IsGenerator}
use Rattle.empty_domains.proofs.Diagram.{IsPoint}
use Rattle.empty_domains.proofs.FarEdges.{far_points}
use Rattle.empty_domains.proofs.Generators.{generator_choice}
use Rattle.empty_domains.proofs.LedMade.{collected_under, led_rules, led_wrong, near_made, wanted_none, wanted_one}
use Rattle.empty_domains.proofs.LedSteps.{led_apart}
use Rattle.empty_domains.proofs.Looks.{point_spot, spot_under}
use Rattle.empty_domains.proofs.StandMade.{others_kept}
use Rattle.empty_domains.proofs.StepRows.{far_start, far_stop, row_points, second_under, told_points}
use Rattle.empty_domains.proofs.StripSteps.{read_is_try}
use Rattle.empty_domains.specs.Ground.{Ground, IsStanding, KeepsOthers}
use Rattle.empty_domains.specs.Marks.{arcs_rule_by, edges_rule_by, marked_by}
use Rattle.empty_domains.specs.NearTest.{IsCollected, swept}
use Rattle.empty_domains.specs.Strip.{Step}
use Rattle.empty_domains.proofs.verify.led_to.Goals as goal
use Rattle.empty_domains.proofs.verify.led_to.Goals.{then-step, else-step}

pub led_points-requires-clause-first : goal.led_points-requires-clause-first
led_points-requires-clause-first c =
    (read_is_try c.args.diagram.now c.requires.valid c.args.y.now (generator_choice c.args.diagram.now c.args.y.now c.requires.y).0 c.args.step c.requires.read).first_under

pub led_points-requires-clause-second : goal.led_points-requires-clause-second
led_points-requires-clause-second c = second_under c.args.diagram.now c.requires.valid c.args.y.now (generator_choice c.args.diagram.now c.args.y.now c.requires.y).0 c.args.step c.requires.read

pub led_points-requires-clause-start : goal.led_points-requires-clause-start
led_points-requires-clause-start c =
    point_spot c.args.diagram.now c.requires.valid _ (far_start c.args.diagram.now c.requires.valid c.args.y.now (generator_choice c.args.diagram.now c.args.y.now c.requires.y).0 c.args.step c.requires.read)

pub led_points-requires-clause-stop : goal.led_points-requires-clause-stop
led_points-requires-clause-stop c =
    point_spot c.args.diagram.now c.requires.valid _ (far_stop c.args.diagram.now c.requires.valid c.args.y.now (generator_choice c.args.diagram.now c.args.y.now c.requires.y).0 c.args.step c.requires.read)

pub returns-in_default : goal.returns-in_default
returns-in_default c =
    let d = c.args.diagram.now in
    let collected = subst (λ (z : List ℕ). IsCollected z (swept d c.args.step.by) c.args.found.now) c.requires.pieces c.requires.found.collected in
    led_apart d c.requires.valid c.requires.nice c.args.y.now c.requires.y c.args.generators.now c.args.step c.requires.read c.requires.fresh c.args.found.now collected c.in_ok-x.x.items c.in_ok-x.ensures
    (λ g. false≢true ((c.in_default.ensures.generator d c.requires.generators).1 (subst (λ (z : List ℕ). IsGenerator d z) (sym c.deref.ensures) g)))

pub bigons-requires : goal.bigons-requires
bigons-requires c = λ piece m.
    let d = c.args.diagram.now in
    let collected = subst (λ (z : List ℕ). IsCollected z (swept d c.args.step.by) c.args.found.now) c.requires.pieces c.requires.found.collected in
    omega (arith, collected_under d c.requires.valid (swept d c.args.step.by) c.args.found.now collected piece m, c.requires.tables.other_size, ap length c.deref-2.ensures.value, ap (λ (g : Ground). length g.other) c.tables.view_is)

pub returns-then-bigons-wanted : goal.returns-then-bigons-wanted
returns-then-bigons-wanted c =
    let arcs = ap (λ (s : Step). eqb s.by.first s.by.second) c.step.view_is in
    let wanted : c.if-step.wanted ≡ cond (eqb c.args.step.by.first c.args.step.by.second) 1 0 = elim c.if-step.branch [
      | then-step w ↦ wanted_one c.step.inside.arc c.step.inside.second c.if-step.wanted c.args.step.by.first c.args.step.by.second arcs w.if-step.true w.wanted-is
      | else-step w ↦ wanted_none c.step.inside.arc c.step.inside.second c.if-step.wanted c.args.step.by.first c.args.step.by.second arcs w.if-step.false w.wanted-is
    ] in
    let count = c.bigons.ensures ∙ ap (λ (zs : List ℕ). count_by (λ s. eqb (suc (get_or zs s 0)) s) c.args.found.now) (c.deref-2.ensures.value ∙ ap (λ (g : Ground). g.other) c.tables.view_is) in
    led_wrong c.args.diagram.now c.requires.valid c.requires.nice c.args.y.now c.requires.y c.args.generators.now c.args.step c.requires.read c.requires.fresh c.args.tables.now c.requires.tables
    c.args.pieces.now c.args.found.now c.args.marks.now c.requires.pieces c.requires.found c.in_ok-x.x.items c.in_ok-x.ensures c.bigons.result count (λ e. c.if-bigons-wanted.true (e ∙ sym wanted))

pub keeps_near-requires-clause-near : goal.keeps_near-requires-clause-near
keeps_near-requires-clause-near c =
    let d = c.args.diagram.now in
    let gx : IsGenerator d c.in_ok-x.x.items = subst (λ (z : List ℕ). IsGenerator d z) c.deref.ensures ((c.in-Some.ensures.generator d c.requires.generators).0 refl) in
    let fx : IsStanding d c.in_ok-x.x.items c.deref-4.result.now = subst (λ (z : List ℕ). IsStanding d c.in_ok-x.x.items z) (sym c.deref-4.ensures) (subst (λ (z : List ℕ). IsStanding d z c.in_ok-to.to.items) c.deref-3.ensures c.in_ok-to.ensures) in
    near_made d c.requires.valid c.args.tables.now c.requires.tables c.args.y.now c.in_ok-x.x.items c.args.from.now c.deref-4.result.now c.args.pieces.now c.args.marks.now c.requires.y gx c.requires.from fx c.requires.pieces c.requires.marks c.requires.few

pub moved_standing-requires-clause-from : goal.moved_standing-requires-clause-from
moved_standing-requires-clause-from c =
    subst (λ (z : List ℕ). KeepsOthers c.args.diagram.now z c.args.step.by c.args.from.now) (sym c.deref-3.ensures)
    (others_kept c.args.diagram.now c.requires.valid c.args.y.now c.requires.y c.args.step.by c.in_ok-x.x.items c.args.from.now c.in_ok-x.ensures c.requires.from)

pub keeps_near-requires-clause-first : goal.keeps_near-requires-clause-first
keeps_near-requires-clause-first c = λ i l.
    let d = c.args.diagram.now in
    let start = ap (λ (s : Step). s.by.start) c.step-2.view_is in
    let l' : i ≤ c.args.step.by.width = omega (arith, l, ap (λ (s : Step). s.by.width) c.step-2.view_is) in
    let p = row_points d c.requires.valid c.args.y.now (generator_choice d c.args.y.now c.requires.y).0 c.args.step c.requires.read 0 i (omega arith) l' in
    point_spot d c.requires.valid (c.step-2.inside.start + i) (subst (λ z. IsPoint d (z + i)) (sym start) p)

pub keeps_near-requires-clause-rows : goal.keeps_near-requires-clause-rows
keeps_near-requires-clause-rows c = λ a m.
    let d = c.args.diagram.now in
    let p = point_spot d c.requires.valid (a + c.args.step.by.width) (told_points d c.requires.valid c.args.y.now (generator_choice d c.args.y.now c.requires.y).0 c.args.step c.requires.read c.args.tables.now c.requires.tables c.args.rows.now c.requires.rows a m c.args.step.by.width (omega arith)) in
    omega (arith, spot_under d c.requires.valid (a + c.args.step.by.width) p, c.requires.tables.other_size, ap (λ (s : Step). s.by.width) c.step-2.view_is)

pub keeps_near-requires-clause-spots : goal.keeps_near-requires-clause-spots
keeps_near-requires-clause-spots c = λ a m i l.
    let d = c.args.diagram.now in
    let width = ap (λ (s : Step). s.by.width) c.step-2.view_is in
    let l' : i ≤ c.args.step.by.width = omega (arith, l, width) in
    let p = far_points d c.requires.valid c.args.y.now (generator_choice d c.args.y.now c.requires.y).0 c.args.tables.now c.requires.tables c.args.step c.requires.read c.args.rows.now c.requires.rows a m i l' in
    point_spot d c.requires.valid (get_or c.args.tables.now.other (a + c.step-2.inside.width) 0 + i) (subst (λ z. IsPoint d (get_or c.args.tables.now.other (a + z) 0 + i)) (sym width) p)

pub keeps_near-requires-clause-few : goal.keeps_near-requires-clause-few
keeps_near-requires-clause-few c =
    let d = c.args.diagram.now in
    let p = point_spot d c.requires.valid (c.args.step.by.start + c.args.step.by.width) (far_start d c.requires.valid c.args.y.now (generator_choice d c.args.y.now c.requires.y).0 c.args.step c.requires.read) in
    omega (arith, spot_under d c.requires.valid (c.args.step.by.start + c.args.step.by.width) p, c.requires.few, ap (λ (s : Step). s.by.width) c.step-2.view_is)

pub returns-then-keeps_near : goal.returns-then-keeps_near
returns-then-keeps_near c =
    let d = c.args.diagram.now in
    let gx : IsGenerator d c.in_ok-x.x.items = subst (λ (z : List ℕ). IsGenerator d z) c.deref.ensures ((c.in-Some.ensures.generator d c.requires.generators).0 refl) in
    let fx : IsStanding d c.in_ok-x.x.items c.deref-4.result.now = subst (λ (z : List ℕ). IsStanding d c.in_ok-x.x.items z) (sym c.deref-4.ensures) (subst (λ (z : List ℕ). IsStanding d z c.in_ok-to.to.items) c.deref-3.ensures c.in_ok-to.ensures) in
    let arcs = ap (λ (s : Step). eqb s.by.first s.by.second) c.step.view_is in
    let wanted : c.if-step.wanted ≡ cond (eqb c.args.step.by.first c.args.step.by.second) 1 0 = elim c.if-step.branch [
      | then-step w ↦ wanted_one c.step.inside.arc c.step.inside.second c.if-step.wanted c.args.step.by.first c.args.step.by.second arcs w.if-step.true w.wanted-is
      | else-step w ↦ wanted_none c.step.inside.arc c.step.inside.second c.if-step.wanted c.args.step.by.first c.args.step.by.second arcs w.if-step.false w.wanted-is
    ] in
    let count = c.bigons.ensures ∙ ap (λ (zs : List ℕ). count_by (λ s. eqb (suc (get_or zs s 0)) s) c.args.found.now) (c.deref-2.ensures.value ∙ ap (λ (g : Ground). g.other) c.tables.view_is) in
    let rule = c.keeps_near.ensures ∙ ap (λ (s : Step). arcs_rule_by d c.args.tables.now c.args.from.now c.deref-4.result.now (marked_by c.args.pieces.now c.args.marks.now) && edges_rule_by c.args.tables.now c.args.from.now c.deref-4.result.now (marked_by c.args.pieces.now c.args.marks.now) s.by.width s.by.start c.args.rows.now) c.step-2.view_is in
    let led = led_rules d c.requires.valid c.requires.nice c.args.y.now c.requires.y c.args.generators.now c.args.step c.requires.read c.requires.fresh c.args.tables.now c.requires.tables
    c.args.pieces.now c.args.found.now c.args.marks.now c.requires.pieces c.requires.found c.in_ok-x.x.items c.in_ok-x.ensures gx c.args.from.now c.deref-4.result.now c.requires.from fx c.args.rows.now c.requires.rows
    c.bigons.result count (c.if-bigons-wanted.false ∙ wanted) true (sym c.if-keeps_near.true ∙ rule) in
    (c.in-Some.ensures.some.inside, c.in-Some.ensures.some.here ∙ (c.deref.ensures ∙ c.in_ok-x.ensures), led)

pub returns : goal.returns
returns c =
    let d = c.args.diagram.now in
    let gx : IsGenerator d c.in_ok-x.x.items = subst (λ (z : List ℕ). IsGenerator d z) c.deref.ensures ((c.in-Some.ensures.generator d c.requires.generators).0 refl) in
    let fx : IsStanding d c.in_ok-x.x.items c.deref-4.result.now = subst (λ (z : List ℕ). IsStanding d c.in_ok-x.x.items z) (sym c.deref-4.ensures) (subst (λ (z : List ℕ). IsStanding d z c.in_ok-to.to.items) c.deref-3.ensures c.in_ok-to.ensures) in
    let arcs = ap (λ (s : Step). eqb s.by.first s.by.second) c.step.view_is in
    let wanted : c.if-step.wanted ≡ cond (eqb c.args.step.by.first c.args.step.by.second) 1 0 = elim c.if-step.branch [
      | then-step w ↦ wanted_one c.step.inside.arc c.step.inside.second c.if-step.wanted c.args.step.by.first c.args.step.by.second arcs w.if-step.true w.wanted-is
      | else-step w ↦ wanted_none c.step.inside.arc c.step.inside.second c.if-step.wanted c.args.step.by.first c.args.step.by.second arcs w.if-step.false w.wanted-is
    ] in
    let count = c.bigons.ensures ∙ ap (λ (zs : List ℕ). count_by (λ s. eqb (suc (get_or zs s 0)) s) c.args.found.now) (c.deref-2.ensures.value ∙ ap (λ (g : Ground). g.other) c.tables.view_is) in
    let rule = c.keeps_near.ensures ∙ ap (λ (s : Step). arcs_rule_by d c.args.tables.now c.args.from.now c.deref-4.result.now (marked_by c.args.pieces.now c.args.marks.now) && edges_rule_by c.args.tables.now c.args.from.now c.deref-4.result.now (marked_by c.args.pieces.now c.args.marks.now) s.by.width s.by.start c.args.rows.now) c.step-2.view_is in
    let led = led_rules d c.requires.valid c.requires.nice c.args.y.now c.requires.y c.args.generators.now c.args.step c.requires.read c.requires.fresh c.args.tables.now c.requires.tables
    c.args.pieces.now c.args.found.now c.args.marks.now c.requires.pieces c.requires.found c.in_ok-x.x.items c.in_ok-x.ensures gx c.args.from.now c.deref-4.result.now c.requires.from fx c.args.rows.now c.requires.rows
    c.bigons.result count (c.if-bigons-wanted.false ∙ wanted) false (sym c.if-keeps_near.false ∙ rule) in
    led
