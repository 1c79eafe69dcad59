use Rattle.std.proofs.Common.{◌+◌, ◌*◌, false, get_or, sym, arith}
use Rattle.curve_paths.proofs.Finds.{all_pass, one_fails}
use Rattle.curve_paths.proofs.places.is_met_below.Goals as goal

pub returns-then-not-met-label : goal.returns-then-not-met-label
returns-then-not-met-label c =
    sym (one_fails (λ place. get_or c.args.met.now (c.args.label * 32 + place) false) 0 c.args.count c.loop-place.place (omega arith) (omega arith) c.if-not-met-label.true)

pub returns : goal.returns
returns c =
    sym (all_pass (λ place. get_or c.args.met.now (c.args.label * 32 + place) false) 0 c.args.count (λ k a b. c.loop-place.invariant k (omega arith)))
