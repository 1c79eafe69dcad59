use Rattle.std.proofs.Common.{◌∙◌, subst, ap}
use Rattle.drawing.specs.Room.{Roomy}
use Rattle.drawing.specs.Turns.{Loosened}
use Rattle.drawing.proofs.ThinKept.{cut_off, left_placed, thin_is}
use Rattle.drawing.proofs.tight.Tightened.{loosened_same}
use Rattle.drawing.proofs.drawing.Drawing.take_turns.Goals as goal

pub set_strands-requires-clause-placed : goal.set_strands-requires-clause-placed
set_strands-requires-clause-placed c = left_placed c.self.inside.layout.drawing c.self.invariant.embedded _ _ c.take_nested-turns.ensures.taken _ (thin_is c.self.inside.layout.drawing _ _ _ _ _ _ c.thin.ensures.drawing c.deref-then-turns-gt0.ensures.value c.deref_mut-then-turns-gt0.ensures.value c.deref_mut-then-turns-gt0.ensures.len c.take_nested-turns.auto.gone)

pub set_strands-requires-clause-size : goal.set_strands-requires-clause-size
set_strands-requires-clause-size c =
    cut_off c.self.inside.layout.drawing c.self.invariant.embedded _ _ c.take_nested-turns.ensures.taken _ (thin_is c.self.inside.layout.drawing _ _ _ _ _ _ c.thin.ensures.drawing c.deref-then-turns-gt0.ensures.value c.deref_mut-then-turns-gt0.ensures.value c.deref_mut-then-turns-gt0.ensures.len c.take_nested-turns.auto.gone) _ _ _ c.self.invariant.strands_are
    c.span_count.ensures.value (c.deref_mut-then-turns-gt0-4.ensures.value ∙ c.truncate.ensures.items)

pub returns-else-turns-gt0-clause-loosened : goal.returns-else-turns-gt0-clause-loosened
returns-else-turns-gt0-clause-loosened c = subst (λ d. Loosened d c.self.inside.layout.drawing) (ap (λ (r : Roomy). r.drawing) c.self.view_is) (loosened_same c.self.inside.layout.drawing c.self.invariant.embedded)
