use Rattle.std.proofs.Common.{◌≡◌, ◌∙◌, ℕ, true, ap, arith, cond, length, refl, subst, sym}
use Rattle.std.proofs.lemmas.Bool.{true≢false}
use Rattle.page_surface.specs.Drawing.{Drawing}
use Rattle.drawing.specs.Fingers.{replayed}
use Rattle.drawing.specs.Room.{Roomy}
use Rattle.region_table.specs.Changed.{KeepsAllNames}
use Rattle.region_table.specs.Nice.{is_nice}
use Rattle.region_table.specs.Table.{HasDistances, IsTableOf, Table}
use Rattle.nice_plan.specs.Applied.{IsApplied}
use Rattle.nice_plan.proofs.Applied.{all_applied, names_that_fit, none_applied, over_budget, step_applied, step_lowers, step_names, where_refused, whole_bursts}
use Rattle.nice_plan.proofs.KeptNames.{names_at_first}
use Rattle.nice_plan.proofs.bursts.apply_all.Goals as goal

pub loop-more-init : goal.loop-more-init
loop-more-init c =
    let first = c.args.drawing.now.drawing in
    let t = c.args.regions.now in
    let none = sym c.new-fingers.ensures.items in
    record {
      applied = subst (λ fs. IsApplied first c.args.limit fs first) none (none_applied first c.args.limit c.points.ensures.valid);
      table = c.requires.table;
      distances = c.requires.distances;
      names = subst (λ fs. KeepsAllNames first fs t t) none (names_at_first first t t (λ s. refl));
      last = λ is. absurd (true≢false is);
    }

pub loop-more-preserved : goal.loop-more-preserved
loop-more-preserved c =
    let inv = c.loop-more.invariant in
    record {
      applied = step_applied _ _ _ _ inv.applied _ _ c.in-Ok.more c.in-Ok.ensures.burst (λ is. let (nice, same, table, listed) = c.in-Ok.ensures.nice is in (ap (λ (w : Roomy). w.drawing) same, listed));
      table = c.in-Ok.ensures.table;
      distances = c.in-Ok.ensures.distances;
      names = step_names _ _ _ _ inv.applied _ c.in-Ok.more c.args.regions.now c.loop-more.regions c.apply_next.new.regions (λ is. (c.in-Ok.ensures.burst is).listed) c.in-Ok.ensures.names
          (λ is. let (nice, same, table, listed) = c.in-Ok.ensures.nice is in (table, listed)) inv.names;
      last = λ is. let (nice, same, table, listed) = c.in-Ok.ensures.nice is in subst (λ (w : Roomy). is_nice w.drawing ≡ true) (sym same) nice;
    }

pub loop-more-smaller : goal.loop-more-smaller
loop-more-smaller c =
    let inv = c.loop-more.invariant in
    let lower = step_lowers _ _ _ _ inv.applied _ _ c.in-Ok.more c.in-Ok.ensures.burst (λ is. let (nice, same, table, listed) = c.in-Ok.ensures.nice is in ap (λ (w : Roomy). w.drawing) same) in
    omega (arith, lower, ap (λ b. cond {A = ℕ} b 1 0) c.loop-more-test.true)

pub returns-in-Err-clause-budget : goal.returns-in-Err-clause-budget
returns-in-Err-clause-budget c = λ n left is.
    let inv = c.loop-more.invariant in
    let (limit_is, bad, long, left_is) = c.in-Err.ensures.budget n left is in
    over_budget _ _ _ _ inv.applied n left _ limit_is bad long left_is c.in-Err.ensures.stays

pub returns-in-Err-clause-memory : goal.returns-in-Err-clause-memory
returns-in-Err-clause-memory c = λ is.
    let inv = c.loop-more.invariant in
    whole_bursts _ _ _ _ inv.applied _ c.args.regions.now c.loop-more.regions c.apply_next.new.regions c.in-Err.ensures.stays c.in-Err.ensures.table_stays inv.names

pub returns-in-Err-clause-table : goal.returns-in-Err-clause-table
returns-in-Err-clause-table c =
    subst (λ (d : Drawing). IsTableOf d c.apply_next.new.regions) (sym c.in-Err.ensures.stays)
    (subst (λ (t : Table). IsTableOf c.loop-more.drawing.drawing t) (sym c.in-Err.ensures.table_stays) c.loop-more.invariant.table)

pub returns-in-Err-clause-distances : goal.returns-in-Err-clause-distances
returns-in-Err-clause-distances c =
    subst (λ (d : Drawing). HasDistances d c.apply_next.new.regions) (sym c.in-Err.ensures.stays)
    (subst (λ (t : Table). HasDistances c.loop-more.drawing.drawing t) (sym c.in-Err.ensures.table_stays) c.loop-more.invariant.distances)

pub returns-in-Err-clause-names_within : goal.returns-in-Err-clause-names_within
returns-in-Err-clause-names_within c = λ other.
    let inv = c.loop-more.invariant in
    where_refused (KeepsAllNames c.args.drawing.now.drawing _ c.args.regions.now c.apply_next.new.regions) c.in-Err.refusal other (λ n left is.
    let (limit_is, bad, long, left_is) = c.in-Err.ensures.budget n left is in
    names_that_fit _ _ _ _ inv.applied c.args.regions.now c.loop-more.regions c.apply_next.new.regions bad long c.in-Err.ensures.table_stays inv.names)

pub returns-clause-fingers : goal.returns-clause-fingers
returns-clause-fingers c = let inv = c.loop-more.invariant in sym (all_applied _ _ _ _ inv.applied (inv.last c.loop-more-test.false))

pub returns-clause-within : goal.returns-clause-within
returns-clause-within c =
    let inv = c.loop-more.invariant in
    omega (arith, inv.applied.short, ap length (all_applied _ _ _ _ inv.applied (inv.last c.loop-more-test.false)))

pub returns-clause-drawing : goal.returns-clause-drawing
returns-clause-drawing c =
    let inv = c.loop-more.invariant in
    inv.applied.here ∙ ap (replayed c.args.drawing.now.drawing) (sym (all_applied _ _ _ _ inv.applied (inv.last c.loop-more-test.false)))

pub returns-clause-names : goal.returns-clause-names
returns-clause-names c =
    let inv = c.loop-more.invariant in
    subst (λ fs. KeepsAllNames c.args.drawing.now.drawing fs c.args.regions.now c.loop-more.regions) (sym (all_applied _ _ _ _ inv.applied (inv.last c.loop-more-test.false))) inv.names
