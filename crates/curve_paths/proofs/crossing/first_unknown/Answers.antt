use Rattle.std.proofs.Common.{◌≡◌, false, get_or, not, sym, ap, ◌∙◌, arith}
use Rattle.std.proofs.lemmas.Bool.{not_from_false}
use Rattle.curve_paths.specs.Paths.{is_known}
use Rattle.curve_paths.proofs.Finds.{place_found, none_found}
use Rattle.curve_paths.proofs.Numbers.{known_read, next_below, nowhere}
use Rattle.curve_paths.proofs.crossing.first_unknown.Goals as goal

pub returns-then-is_none : goal.returns-then-is_none
returns-then-is_none c =
    let known = known_read c.args.page.now c.args.path.now c.loop-at.at _ _ _ c.loop-at-test.true c.as_str.ensures c.label.ensures in
    sym (place_found (λ x. not (is_known c.args.page.now x)) nowhere c.args.path.now c.loop-at.at (omega arith) c.loop-at.invariant
    (not_from_false _ (sym known ∙ c.if-is_none.ensures)))

pub loop-at-preserved : goal.loop-at-preserved
loop-at-preserved c =
    let known = known_read c.args.page.now c.args.path.now c.loop-at.at _ _ _ c.loop-at-test.true c.as_str.ensures c.label.ensures in
    next_below {P = λ k. not (is_known c.args.page.now (get_or c.args.path.now k nowhere)) ≡ false} c.loop-at.at c.loop-at.invariant (ap not (sym known ∙ c.if-is_none.ensures))

pub returns : goal.returns
returns c = sym (none_found (λ x. not (is_known c.args.page.now x)) nowhere c.args.path.now (λ k l. c.loop-at.invariant k (omega arith)))
