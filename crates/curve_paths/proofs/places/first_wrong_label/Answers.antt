use Rattle.std.proofs.Common.{◌≡◌, not, length, false, sym, ap, ◌∙◌, arith}
use Rattle.std.proofs.lemmas.Bool.{not_from_false}
use Rattle.curve_paths.specs.Paths.{has_label_places}
use Rattle.curve_paths.proofs.Finds.{number_found, no_number}
use Rattle.curve_paths.proofs.Numbers.{count_read, few_points, next_below, right_read}
use Rattle.curve_paths.proofs.places.first_wrong_label.Goals as goal

pub is_met_below-requires : goal.is_met_below-requires
is_met_below-requires c =
    let points = count_read c.args.crossings.now c.args.counts.now _ c.loop-label.label c.requires.counts c.loop-label-test.true in
    let few = few_points c.args.crossings.now c.loop-label.label in
    omega (arith, points, few, c.in_ok-met.ensures.size, ap length c.deref.ensures.value)

pub returns-then-not-is_met_below : goal.returns-then-not-is_met_below
returns-then-not-is_met_below c =
    let right = right_read _ _ _ _ c.loop-label.label _ c.in_ok-met.ensures c.deref.ensures.value c.requires.counts c.loop-label-test.true c.requires.few c.is_met_below.ensures in
    let n : c.new.result ≡ c.loop-label.label = c.new.ensures in
    rw n (sym (number_found (λ label. not (has_label_places c.args.crossings.now label)) 0 (length c.args.counts.now) c.loop-label.label (omega arith) (omega arith)
    (λ k a b. c.loop-label.invariant k b) (not_from_false _ (right ∙ c.if-not-is_met_below.true))))

pub loop-label-preserved : goal.loop-label-preserved
loop-label-preserved c =
    let right = right_read _ _ _ _ c.loop-label.label _ c.in_ok-met.ensures c.deref.ensures.value c.requires.counts c.loop-label-test.true c.requires.few c.is_met_below.ensures in
    next_below {P = λ k. not (has_label_places c.args.crossings.now k) ≡ false} c.loop-label.label c.loop-label.invariant (ap not (right ∙ c.if-not-is_met_below.false))

pub returns : goal.returns
returns c = sym (no_number (λ label. not (has_label_places c.args.crossings.now label)) 0 (length c.args.counts.now) (λ k a b. c.loop-label.invariant k (omega arith)))
