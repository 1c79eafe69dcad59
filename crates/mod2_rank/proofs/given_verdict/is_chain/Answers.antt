use Rattle.std.proofs.Common.{◌∙◌, ◌-◌, ◌&&◌, List, ℕ, [], ◌∷◌, length, sym, ap, arith}
use Rattle.mod2_rank.specs.Linear.{columns_at, same_list, sum_of}
use Rattle.mod2_rank.specs.RowWords.{row_in}
use Rattle.mod2_rank.proofs.GivenVerdict.{alone_exactly, ascend_true, rows_of}
use Rattle.mod2_rank.proofs.given_verdict.is_chain.Goals as goal

pub add_columns-requires-clause-numbers : goal.add_columns-requires-clause-numbers
add_columns-requires-clause-numbers c = ascend_true c.args.chain.now 0 (length c.args.columns.now) (sym c.if-not-do_ascend.ensures)

pub returns : goal.returns
returns c =
    let js = columns_at (rows_of c.args.columns.now) c.args.chain.now in
    let toggled = ap (λ (words : List ℕ). row_in words) c.least_from.ensures.same ∙ c.toggle.ensures.rows in
    let alone = alone_exactly c.args.rows js (row_in c.in_ok-sum.sum) (row_in c.add_columns.new.sum) (row_in c.least_from.new.self) (c.args.rows - 1) (omega (arith, c.requires.some))
    c.in_ok-sum.ensures.empty c.add_columns.ensures.rows toggled c.least_from.result c.is_none.result c.is_none.ensures c.least_from.ensures.least c.least_from.ensures.none in
    alone ∙ ap (λ b. b && same_list (sum_of c.args.rows js) ((c.args.rows - 1) ∷ [])) c.if-not-do_ascend.ensures
