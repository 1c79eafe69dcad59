use Rattle.monodromy.proofs.Curves.{found_curve}
use Rattle.monodromy.proofs.curve.curve_of.Goals as goal

pub returns-in-Some-clause-there : goal.returns-in-Some-clause-there
returns-in-Some-clause-there c = found_curve (λ b. b.now) c.as_ref.result c.args.curves.now c.args.number _ c.as_ref.ensures.value c.in-Some.ensures.lookup.3.0 c.in-Some.ensures.lookup.1
