use Rattle.std.proofs.Common.{arith, subst, length, ◌+◌, ◌<◌, ◌^◌}
use Rattle.witness_check.specs.Passing.{Lines}
use Rattle.witness_check.proofs.LinesTaken.{few_lines}
use Rattle.witness_check.proofs.lines.Lines.number.Goals as goal

pub returns-clause-few : goal.returns-clause-few
returns-clause-few c =
    let few = few_lines c.self.inside.rest.now in
    let room : c.self.inside.taken + length c.self.inside.rest.now + 1 < 2 ^ 32 = c.self.invariant in
    subst (λ (v : Lines). v.taken + length v.left + 1 < 2 ^ 32) c.self.view_is (omega (arith, few, room))
