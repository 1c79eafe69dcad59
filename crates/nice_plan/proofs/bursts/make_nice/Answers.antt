use Rattle.std.proofs.Common.{◌≡◌, ◌≤◌, length, subst, sym}
use Rattle.std.specs.Prelude.{Err, IfErr, IfOk, OnOk}
use Rattle.page_surface.specs.Drawing.{Drawing}
use Rattle.drawing.specs.Fingers.{replayed}
use Rattle.region_table.specs.Changed.{KeepsAllNames}
use Rattle.region_table.specs.Table.{HasDistances}
use Rattle.nice_plan.specs.Applied.{AreBurstsApplied}
use Rattle.nice_plan.specs.Strategy.{strategy, within_limit}
use Rattle.nice_plan.specs.declared.refusal.PlanRefusal.TheVariants.{NoMemory}
use Rattle.nice_plan.proofs.bursts.make_nice.Goals as goal

pub apply_all-requires-clause-distances : goal.apply_all-requires-clause-distances
apply_all-requires-clause-distances c = subst (λ (d : Drawing). HasDistances d c.args.regions.now) (sym c.drawing_mut.ensures.lent) c.requires.distances

pub returns-clause-fingers : goal.returns-clause-fingers
returns-clause-fingers c = subst (λ (d : Drawing). IfOk c.apply_all.result (λ fingers. fingers.items ≡ strategy d)) c.drawing_mut.ensures.lent c.apply_all.ensures.fingers

pub returns-clause-within : goal.returns-clause-within
returns-clause-within c = subst (λ (d : Drawing). OnOk c.apply_all.result (length (strategy d) ≤ c.args.limit)) c.drawing_mut.ensures.lent c.apply_all.ensures.within

pub returns-clause-drawing : goal.returns-clause-drawing
returns-clause-drawing c = subst (λ (d : Drawing). OnOk c.apply_all.result (c.apply_all.new.drawing.drawing ≡ replayed d (strategy d))) c.drawing_mut.ensures.lent c.apply_all.ensures.drawing

pub returns-clause-names : goal.returns-clause-names
returns-clause-names c =
    subst (λ (d : Drawing). OnOk c.apply_all.result (KeepsAllNames d (strategy d) c.args.regions.now c.apply_all.new.regions)) c.drawing_mut.ensures.lent c.apply_all.ensures.names

pub returns-clause-names_within : goal.returns-clause-names_within
returns-clause-names_within c =
    subst (λ (d : Drawing). IfErr c.apply_all.result (λ refusal. (refusal ≡ NoMemory → ⊥) → KeepsAllNames d (within_limit c.args.limit d) c.args.regions.now c.apply_all.new.regions))
    c.drawing_mut.ensures.lent c.apply_all.ensures.names_within

pub returns-clause-memory : goal.returns-clause-memory
returns-clause-memory c =
    subst (λ (d : Drawing). c.apply_all.result ≡ Err NoMemory → AreBurstsApplied d c.apply_all.new.drawing.drawing c.args.regions.now c.apply_all.new.regions) c.drawing_mut.ensures.lent c.apply_all.ensures.memory
