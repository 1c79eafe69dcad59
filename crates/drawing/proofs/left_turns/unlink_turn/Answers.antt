use Rattle.std.proofs.Common.{◌∙◌, ap, length, sym}
use Rattle.drawing.specs.Links.{AreWays}
use Rattle.drawing.proofs.TurnAt.{ways_back}
use Rattle.drawing.proofs.left_turns.unlink_turn.Goals as goal

pub returns : goal.returns
returns c = λ d gone linked there.
    let before : AreWays d gone c.deref_mut.result.now = rw c.deref_mut.ensures.value linked.ways_linked in
    record {
      sides_linked = c.unlink_points.ensures d gone linked.sides_linked there;
      ways_linked = ways_back d gone _ _ _ (c.unlink_way.auto.ways ∙ c.deref_mut.ensures.len) (sym (ap length c.deref_mut.ensures.value) ∙ c.deref_mut.ensures.len) (c.unlink_way.ensures d gone before there);
    }
