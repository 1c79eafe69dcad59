use Rattle.std.proofs.Common.{◌-◌, length, arith}
use Rattle.mod2_rank.proofs.written.verdict.Goals as goal

pub chain-requires-clause-last : goal.chain-requires-clause-last
chain-requires-clause-last c =
    let small = (c.requires.table (length c.args.pivot_of.now - 1) c.in-Some.last c.in-Some.is).0 in
    omega (arith, small, c.requires.reduced)
