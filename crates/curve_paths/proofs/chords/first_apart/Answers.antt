use Rattle.std.proofs.Common.{not, length, sym, ◌∙◌, arith}
use Rattle.std.proofs.lemmas.Bool.{not_from_false}
use Rattle.curve_paths.specs.Paths.{is_within}
use Rattle.curve_paths.proofs.Finds.{number_found, no_number}
use Rattle.curve_paths.proofs.chords.first_apart.Goals as goal

pub returns-then-not-is_on_one_polygon : goal.returns-then-not-is_on_one_polygon
returns-then-not-is_on_one_polygon c =
    sym (number_found (λ i. not (is_within c.args.page.now c.args.crossings.now i)) 0 (length c.args.crossings.now) c.loop-at.at (omega arith) (omega arith)
    (λ k a b. c.loop-at.invariant k b) (not_from_false _ (sym c.is_on_one_polygon.ensures ∙ c.if-not-is_on_one_polygon.true)))

pub returns : goal.returns
returns c =
    sym (no_number (λ i. not (is_within c.args.page.now c.args.crossings.now i)) 0 (length c.args.crossings.now) (λ k a b. c.loop-at.invariant k (omega arith)))
