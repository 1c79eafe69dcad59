use Rattle.std.proofs.Common.{◌≡◌, [], ◌∷◌, ◌++◌, Option, IfSome, is_some, get_or, length, refl, sym, ap, ◌∙◌, subst, arith}
use Rattle.std.proofs.lemmas.List.{get_or_default}
use Rattle.mod2_rank.specs.GivenPivots.{IsFirstBad, Reducing}
use Rattle.mod2_rank.specs.PivotRules.{reducer}
use Rattle.mod2_rank.specs.Rows.{none}
use Rattle.mod2_rank.specs.RowWords.{row_in}
use Rattle.mod2_rank.specs.declared.outcome.Pivot.{Pivot}
use Rattle.mod2_rank.proofs.GivenPivots.{first_bad, next_more, pass_more, passes_is, reducers_more, reducers_size, reducing_is}
use Rattle.mod2_rank.proofs.GivenVerdict.{rows_of}
use Rattle.mod2_rank.proofs.given_pivots.Reducers.of.Goals as goal

pub with_pivot-requires-clause-few : goal.with_pivot-requires-clause-few
with_pivot-requires-clause-few c =
    let size = reducers_size c.args.rows (rows_of c.args.columns.now) c.requires.ascend c.args.pivots.now c.loop-number.number (omega (arith, c.loop-number-test.true)) in
    omega (arith, size, ap (λ (r : Reducing). length r.list) c.loop-number.invariant.made, c.requires.few_pivots, c.loop-number-test.true)

pub with_pivot-requires-clause-room : goal.with_pivot-requires-clause-room
with_pivot-requires-clause-room c =
    let size = reducers_size c.args.rows (rows_of c.args.columns.now) c.requires.ascend c.args.pivots.now c.loop-number.number (omega (arith, c.loop-number-test.true)) in
    omega (arith, size, ap (λ (r : Reducing). length r.list) c.loop-number.invariant.made, c.loop-number.invariant.room, c.loop-number-test.true)

pub returns-in_default-clause-bad : goal.returns-in_default-clause-bad
returns-in_default-clause-bad c = λ at e.
    let n = c.loop-number.number in
    let ps = c.args.pivots.now in
    let x : Pivot = get_or c.args.pivots.now c.loop-number.number (record { column = 0; row = 0 }) in
    let is : x ≡ get_or ps n x = get_or_default ps n (record { column = 0; row = 0 }) x c.loop-number-test.true in
    let same : c.loop-number.number ≡ at = cc in
    let told = ap (λ (next : Option Reducing). is_some next) (sym c.in_default.is) ∙ c.in_ok-next.ensures.passes in
    let fails = told ∙ passes_is c.args.rows (rows_of c.args.columns.now) ps n x c.loop-number-test.true is c.loop-number.made c.loop-number.low c.loop-number.invariant.made c.loop-number.invariant.low in
    subst (λ k. IsFirstBad c.args.rows (rows_of c.args.columns.now) ps k) same (first_bad c.args.rows (rows_of c.args.columns.now) ps n x c.loop-number-test.true is c.loop-number.invariant.pass (sym fails))

pub loop-number-preserved : goal.loop-number-preserved
loop-number-preserved c =
    let n = c.loop-number.number in
    let rows = c.args.rows in
    let cs = (rows_of c.args.columns.now) in
    let ps = c.args.pivots.now in
    let x : Pivot = get_or c.args.pivots.now c.loop-number.number (record { column = 0; row = 0 }) in
    let is : x ≡ get_or ps n x = get_or_default ps n (record { column = 0; row = 0 }) x c.loop-number-test.true in
    let told = ap (λ (next : Option Reducing). is_some next) (sym c.in-Some.is) ∙ c.in_ok-next.ensures.passes in
    let passes = told ∙ passes_is rows cs ps n x c.loop-number-test.true is c.loop-number.made c.loop-number.low c.loop-number.invariant.made c.loop-number.invariant.low in
    let made = subst (λ (next : Option Reducing). IfSome next (λ made. made ≡ record { rows = c.loop-number.made.rows; list = c.loop-number.made.list ++ reducer c.loop-number.made.rows cs c.loop-number.made.list x ∷ [] }))
    c.in-Some.is c.in_ok-next.ensures.made in
    let grown = made ∙ ap (λ (r : Reducing). record { rows = r.rows; list = r.list ++ reducer r.rows cs r.list x ∷ [] }) c.loop-number.invariant.made in
    record {
      left = omega (arith, c.loop-number.invariant.left, c.in_ok-next.ensures.left);
      room = omega (arith, c.loop-number.invariant.room, c.in_ok-next.ensures.room);
      empty = subst (λ (next : Option Reducing). IfSome next (λ made. row_in c.with_pivot.new.left ≡ none)) c.in-Some.is c.in_ok-next.ensures.empty;
      none_called = subst (λ (next : Option Reducing). IfSome next (λ made. row_in c.with_pivot.new.called ≡ none)) c.in-Some.is c.in_ok-next.ensures.none_called;
      low = next_more rows cs ps n x c.loop-number-test.true is;
      made = grown ∙ reducing_is refl (reducers_more rows cs ps n x c.loop-number-test.true is);
      pass = pass_more rows cs ps n x c.loop-number-test.true is c.loop-number.invariant.pass (sym passes);
    }
