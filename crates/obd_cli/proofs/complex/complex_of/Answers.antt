use Rattle.std.proofs.Common.{List, length, map, ap, ◌∙◌, sym, subst, arith}
use Rattle.std.proofs.lemmas.List.{length-map}
use Rattle.mod2_rank.specs.Ascending.{AllAscend}
use Rattle.mod2_rank.specs.Linear.{IsOutcomeOf}
use Rattle.obd_base.specs.declared.points.Column.{Column}
use Rattle.obd_cli.proofs.Ascending.{all_ascend, complex_made}
use Rattle.obd_cli.proofs.complex.complex_of.Goals as goal

pub eliminate-requires-clause-ascend : goal.eliminate-requires-clause-ascend
eliminate-requires-clause-ascend c = search (all_ascend, arith)

pub returns : goal.returns
returns c =
    λ limit within.
    complex_made c.args.diagram.now c.count-rows.result limit (map (λ (column : Column). column.rows) c.in_ok-columns.columns) c.in_ok-outcome.outcome (c.count-rows.ensures.value ∙ ap length c.requires.generators)
    c.count-rows.ensures.some (omega (arith, within, c.count-rows.ensures.value)) c.in_ok-columns.ensures.columns
    (length-map c.in_ok-columns.columns (λ (column : Column). column.rows) ∙ (c.in_ok-columns.ensures.one_each ∙ ap length c.requires.generators))
    (subst (λ n. AllAscend n (map (λ (column : Column). column.rows) c.in_ok-columns.columns)) (sym c.count-rows.ensures.value)
    (all_ascend (length c.args.generators.now) (map (λ (column : Column). column.rows) c.in_ok-columns.columns) c.in_ok-columns.ensures.ascend c.in_ok-columns.ensures.below))
    (subst (λ (found : List Column). IsOutcomeOf c.count-rows.result (map (λ (column : Column). column.rows) found) c.in_ok-outcome.outcome) c.as_slice.ensures c.in_ok-outcome.ensures)
