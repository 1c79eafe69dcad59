use Rattle.witness_check.proofs.GeneratorsStage.{counted_few, generators_break, generators_passed, generators_refuted}
use Rattle.witness_check.proofs.HandedOn.{err_of, err_on, if_ok, of_ok, ok_on}
use Rattle.witness_check.proofs.generators_stage.generators_stage.Goals as goal

pub returns-in_err-count-clause-refuted : goal.returns-in_err-count-clause-refuted
returns-in_err-count-clause-refuted c =
    err_of _ c.in_err-count.field-0.0 c.from_residual.result c.from_residual.ensures.1
    (λ text after. generators_break c.args.diagram.now text c.args.lines.now after c.in_err-count.field-0.0 c.in_err-count.ensures.breaks)

pub returns-clause-passed : goal.returns-clause-passed
returns-clause-passed c =
    ok_on c.settled.result c.settled.ensures.made
    (λ found so text after. generators_passed c.args.diagram.now text c.args.lines.now after c.next_number.new.lines c.in_ok-count.count c.in_ok-count.ensures.read found
    (of_ok c.generators_of-tried.result found so.0 c.generators_of-tried.ensures.kept) (if_ok _ c.generators_of-tried.result found so.0 c.generators_of-tried.ensures.count))

pub returns-clause-generators : goal.returns-clause-generators
returns-clause-generators c = ok_on c.settled.result c.settled.ensures.made (λ found so. if_ok _ c.generators_of-tried.result found so.0 c.generators_of-tried.ensures.generators)

pub returns-clause-few : goal.returns-clause-few
returns-clause-few c =
    ok_on c.settled.result c.settled.ensures.made
    (λ found so. counted_few found c.in_ok-count.count (if_ok _ c.generators_of-tried.result found so.0 c.generators_of-tried.ensures.count)
    (of_ok c.generators_of-tried.result found so.0 c.generators_of-tried.ensures.few))

pub returns-clause-refuted : goal.returns-clause-refuted
returns-clause-refuted c =
    err_on c.settled.result c.settled.ensures.refused
    (λ refusal settles text after. generators_refuted c.args.diagram.now text c.args.lines.now after c.next_number.new.lines c.in_ok-count.count c.in_ok-count.ensures.read
    c.number-first.result c.generators_of-tried.result refusal c.number-first.ensures.value c.number-first.ensures.few c.generators_of-tried.ensures.fault settles)
