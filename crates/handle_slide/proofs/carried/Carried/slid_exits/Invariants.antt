use Rattle.std.proofs.Common.{◌≡◌}
use Rattle.std.specs.List.{flat_map}
use Rattle.obd_base.specs.Lists.{below}
use Rattle.handle_slide.specs.Slide.{slid_exit}
use Rattle.handle_slide.proofs.carried.Carried.slid_exits.Given as goal

-- the exits so far
abbrev pub invariant-loop-at : goal.invariant-loop-at
invariant-loop-at l = l.exits.items ≡ flat_map (slid_exit l.self.polygon l.self.side l.self.exits) (below l.at)
