use Rattle.std.proofs.Common.{arith}
use Rattle.std.proofs.lemmas.List.FromFn.{fill_by_all}
use Rattle.empty_domains.proofs.steps.clear.Goals as goal

pub returns : goal.returns
returns c = fill_by_all (λ k. 0) c.loop-side.lasts _ 0 c.loop-side.invariant.size (λ k l. c.loop-side.invariant.none k (omega (arith, l, c.loop-side-test.false, c.loop-side.invariant.size)))
