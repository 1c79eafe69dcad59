use Rattle.std.proofs.Common.{arith, ◌≡◌, ◌≤◌, length, take, drop}
use Rattle.std.proofs.lemmas.List.{length-drop, take_rest}
use Rattle.obd_base.proofs.Joined.{copied_out}
use Rattle.obd_base.proofs.mem_source.copy_next.Goals as goal

pub returns-clause-copied : goal.returns-clause-copied
returns-clause-copied c =
    let within : c.min-count.result ≤ length (drop c.args.at c.args.bytes.now) = omega (arith, length-drop c.args.at c.args.bytes.now) in
    let is : c.copy_from_slice.new.self ≡ take c.min-count.result (drop c.args.at c.args.bytes.now) = rw take_rest at c.copy_from_slice.ensures.after in
    copied_out c.args.bytes.now c.copy_from_slice.new.self _ c.args.at c.min-count.result within is
