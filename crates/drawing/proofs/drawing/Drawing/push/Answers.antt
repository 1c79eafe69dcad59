use Rattle.std.proofs.Common.{◌∙◌, ap}
use Rattle.page_surface.specs.Drawing.{spot}
use Rattle.drawing.proofs.PushKept.{after, far_within, in_range, is_pushed, kept_after, legal_here, out_small, strands_after}
use Rattle.drawing.proofs.drawing.Drawing.push.Goals as goal

pub order-out-requires-clause-legal : goal.order-out-requires-clause-legal
order-out-requires-clause-legal c = legal_here c.self.inside.layout c.args.self.now c.self.view_is _ c.requires.legal

pub push-requires-clause-finger : goal.push-requires-clause-finger
push-requires-clause-finger c = in_range c.self.inside.layout c.args.self.now c.self.view_is _ c.requires.legal

pub push-requires-clause-out : goal.push-requires-clause-out
push-requires-clause-out c = out_small c.self.inside.layout c.args.self.now c.self.view_is _ c.requires.legal c.self.invariant.embedded _ c.order-out.ensures

pub push-requires-clause-after : goal.push-requires-clause-after
push-requires-clause-after c = after c.self.inside.layout c.args.self.now c.self.view_is _ c.requires.legal c.self.invariant.embedded _ c.order-out.ensures

pub returns-clause-effect : goal.returns-clause-effect
returns-clause-effect c =
    is_pushed c.self.inside.layout c.args.self.now c.self.view_is _ c.requires.legal c.self.invariant.embedded _ c.order-out.ensures c.push.new.self c.push.ensures.drawing

pub spot-far-requires-clause-place : goal.spot-far-requires-clause-place
spot-far-requires-clause-place c = far_within c.self.inside.layout c.args.self.now c.self.view_is _ c.requires.legal c.self.invariant.embedded _ c.beyond.ensures

pub invariant_of-self : goal.invariant_of-self
invariant_of-self c =
    let kept = c.self.invariant in
    let one = c.spot-near.ensures.value ∙ ap (spot c.self.inside.layout.drawing) c.segment_of.ensures in
    let other = c.spot-far.ensures.value ∙ ap (spot c.self.inside.layout.drawing) c.beyond.ensures in
    let strands = strands_after c.self.inside.layout c.args.self.now c.self.view_is _ c.requires.legal kept.embedded _ c.order-out.ensures c.push.new.self c.push.ensures.drawing _ _ _ _ kept.strands_are one other c.put_strand.ensures.items in
    kept_after c.self.inside.layout c.args.self.now c.self.view_is _ c.requires.legal kept.embedded _ c.order-out.ensures c.push.new.self c.push.ensures.drawing _ _ _ _ _ kept c.push.ensures.room _ _ strands c.put_strand.ensures.room
