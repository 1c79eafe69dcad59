use Rattle.std.specs.Prelude.{codes}
use Rattle.witness_check.specs.Forms.{one}
use Rattle.witness_check.specs.Grammar.{outcome_form}
use Rattle.witness_check.specs.Lines.{answer_line, counted, end_line, homology_line, number_line, pivot_line}
use Rattle.witness_check.specs.Stages.{homology_on, rank_on, verdict_on}
use Rattle.witness_check.proofs.Reading.{first_breaks, handed_on, second_breaks}
use Rattle.witness_check.proofs.parsing.read_outcome.Goals as goal

pub returns-in_err-pivots-clause-breaks : goal.returns-in_err-pivots-clause-breaks
returns-in_err-pivots-clause-breaks c =
    handed_on (counted (codes "pivots") pivot_line) outcome_form c.args.lines.now c.args.lines.now (λ line b. first_breaks (counted (codes "pivots") pivot_line) (λ pivots. rank_on) c.args.lines.now line b)
    c.in_err-pivots.field-0.0 c.from_residual.result c.from_residual.ensures.1 c.in_err-pivots.ensures.breaks

pub returns-in_err-rank-clause-breaks : goal.returns-in_err-rank-clause-breaks
returns-in_err-rank-clause-breaks c =
    handed_on (one (number_line (codes "rank"))) outcome_form c.next_list.new.lines c.args.lines.now (λ line b. second_breaks (counted (codes "pivots") pivot_line) (λ pivots. rank_on) c.args.lines.now c.next_list.new.lines c.in_ok-pivots.pivots line c.in_ok-pivots.ensures.read (first_breaks (one (number_line (codes "rank"))) (λ rank. homology_on) c.next_list.new.lines line b))
    c.in_err-rank.field-0.0 c.from_residual-in_err-rank.result c.from_residual-in_err-rank.ensures.1 c.in_err-rank.ensures.breaks

pub returns-in_err-homology-clause-breaks : goal.returns-in_err-homology-clause-breaks
returns-in_err-homology-clause-breaks c =
    handed_on (one homology_line) outcome_form c.next_number.new.lines c.args.lines.now (λ line b. second_breaks (counted (codes "pivots") pivot_line) (λ pivots. rank_on) c.args.lines.now c.next_list.new.lines c.in_ok-pivots.pivots line c.in_ok-pivots.ensures.read (second_breaks (one (number_line (codes "rank"))) (λ rank. homology_on) c.next_list.new.lines c.next_number.new.lines c.in_ok-rank.rank line c.in_ok-rank.ensures.read (first_breaks (one homology_line) (λ homology. verdict_on) c.next_number.new.lines line b)))
    c.in_err-homology.field-0.0 c.from_residual-in_err-homology.result c.from_residual-in_err-homology.ensures.1 c.in_err-homology.ensures.breaks

pub returns-in_err-verdict-clause-breaks : goal.returns-in_err-verdict-clause-breaks
returns-in_err-verdict-clause-breaks c =
    handed_on (one answer_line) outcome_form c.next_homology.new.lines c.args.lines.now (λ line b. second_breaks (counted (codes "pivots") pivot_line) (λ pivots. rank_on) c.args.lines.now c.next_list.new.lines c.in_ok-pivots.pivots line c.in_ok-pivots.ensures.read (second_breaks (one (number_line (codes "rank"))) (λ rank. homology_on) c.next_list.new.lines c.next_number.new.lines c.in_ok-rank.rank line c.in_ok-rank.ensures.read (second_breaks (one homology_line) (λ homology. verdict_on) c.next_number.new.lines c.next_homology.new.lines c.in_ok-homology.homology line c.in_ok-homology.ensures.read (first_breaks (one answer_line) (λ verdict. one end_line) c.next_homology.new.lines line b))))
    c.in_err-verdict.field-0.0 c.from_residual-in_err-verdict.result c.from_residual-in_err-verdict.ensures.1 c.in_err-verdict.ensures.breaks

pub returns-in_err-next_end-clause-breaks : goal.returns-in_err-next_end-clause-breaks
returns-in_err-next_end-clause-breaks c =
    handed_on (one end_line) outcome_form c.next_verdict.new.lines c.args.lines.now (λ line b. second_breaks (counted (codes "pivots") pivot_line) (λ pivots. rank_on) c.args.lines.now c.next_list.new.lines c.in_ok-pivots.pivots line c.in_ok-pivots.ensures.read (second_breaks (one (number_line (codes "rank"))) (λ rank. homology_on) c.next_list.new.lines c.next_number.new.lines c.in_ok-rank.rank line c.in_ok-rank.ensures.read (second_breaks (one homology_line) (λ homology. verdict_on) c.next_number.new.lines c.next_homology.new.lines c.in_ok-homology.homology line c.in_ok-homology.ensures.read (second_breaks (one answer_line) (λ verdict. one end_line) c.next_homology.new.lines c.next_verdict.new.lines c.in_ok-verdict.verdict line c.in_ok-verdict.ensures.read (b)))))
    c.in_err-next_end.field-0.0 c.from_residual-in_err-next_end.result c.from_residual-in_err-next_end.ensures.1 c.in_err-next_end.ensures.breaks
