use Rattle.std.proofs.Common.{◌≤◌, length, sym, ◌∙◌, ap, arith, subst}
use Rattle.page_surface.specs.Drawing.{Drawing as Shown}
use Rattle.region_table.specs.Nice.{IsNice, is_nice}
use Rattle.region_table.specs.Table.{IsTableOf}
use Rattle.region_table.proofs.Tests.{nice_from_test}
use Rattle.witness_check.specs.declared.checked.Reason.TheVariants.{Nice}
use Rattle.witness_check.specs.DrawingRules.{HasFinals, exits_rule}
use Rattle.witness_check.specs.Rules.{each, final_rules}
use Rattle.witness_check.proofs.FinalLines.{finals_whole}
use Rattle.witness_check.proofs.LastRules.{last_kept, last_stops, own_stops}
use Rattle.witness_check.proofs.final_lines.last_drawing.Goals as goal

pub returns-in-Some-clause-fault : goal.returns-in-Some-clause-fault
returns-in-Some-clause-fault c =
    let d = c.args.drawing.drawing in
    let finals = c.args.finals.now in
    let some : 1 ≤ length finals = omega (arith, c.requires.each, c.sides.ensures.value, c.sides.ensures.least, ap (λ p. length p.partners) c.polygon.ensures) in
    own_stops (HasFinals d finals) (λ k. each (final_rules k) finals) (exits_rule d) Nice (is_nice d) finals (finals_whole d finals some) c.in-Some.fault
    (sym c.first_wrong_final.ensures.first ∙ c.in-Some.is)

pub returns-then-not-is_nice-clause-fault : goal.returns-then-not-is_nice-clause-fault
returns-then-not-is_nice-clause-fault c =
    let d = c.args.drawing.drawing in
    let finals = c.args.finals.now in
    let some : 1 ≤ length finals = omega (arith, c.requires.each, c.sides.ensures.value, c.sides.ensures.least, ap (λ p. length p.partners) c.polygon.ensures) in
    last_stops (HasFinals d finals) (λ k. each (final_rules k) finals) (exits_rule d) Nice (is_nice d) finals (finals_whole d finals some)
    (sym c.first_wrong_final.ensures.first ∙ c.in_default.is) (sym (c.is_nice.ensures.value d c.in_ok-regions.ensures.table) ∙ c.if-not-is_nice.true)

pub returns-clause-nice : goal.returns-clause-nice
returns-clause-nice c =
    let d = c.args.drawing.drawing in
    record {
      table = subst (λ (e : Shown). IsTableOf e c.in_ok-regions.regions) (sym c.of-2.ensures) c.in_ok-regions.ensures.table;
      nice = subst IsNice (sym c.of-2.ensures) (nice_from_test d (sym (c.is_nice.ensures.value d c.in_ok-regions.ensures.table) ∙ c.if-not-is_nice.false));
    }

pub returns-clause-kept : goal.returns-clause-kept
returns-clause-kept c =
    let d = c.args.drawing.drawing in
    let finals = c.args.finals.now in
    let some : 1 ≤ length finals = omega (arith, c.requires.each, c.sides.ensures.value, c.sides.ensures.least, ap (λ p. length p.partners) c.polygon.ensures) in
    last_kept (HasFinals d finals) (λ k. each (final_rules k) finals) (exits_rule d) Nice (is_nice d) finals (finals_whole d finals some)
    (sym c.first_wrong_final.ensures.first ∙ c.in_default.is) (sym (c.is_nice.ensures.value d c.in_ok-regions.ensures.table) ∙ c.if-not-is_nice.false)
