use Rattle.std.proofs.Common.{◌≡◌, ◌≤◌, filter, not}
use Rattle.std.specs.Prelude.{vec_capacity, vec_len}
use Rattle.obd_base.specs.Lists.{below}
use Rattle.region_table.specs.Table.{region_in}
use Rattle.region_table.proofs.told.put_inner.Given as goal

-- those so far
abbrev pub invariant-loop-name : goal.invariant-loop-name
invariant-loop-name l = record {
  so_far : l.inner.items ≡ filter (λ p. not (region_in l.told.regions p).base) (below l.name);
  short : vec_len l.inner ≤ l.name;
  room : vec_capacity l.inner ≡ vec_capacity l.fn.inner;
}
