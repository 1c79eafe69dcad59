use Rattle.std.proofs.Common.{◌≡◌, ◌*◌, ◌<◌, map}
use Rattle.obd_base.specs.Lists.{below}
use Rattle.obd_cli.specs.Sample.{number, sample_twist}
use Rattle.obd_cli.proofs.sample.sample_twists.Given as goal

-- the entries so far, and the number after them
abbrev pub invariant-loop : goal.invariant-loop
invariant-loop l = record {
  twists : l.twists ≡ map (sample_twist l.seed) (below l.counter);
  number : l.number ≡ number l.seed (2 * l.counter);
  small : l.number < 65537;
}
