use Rattle.std.proofs.Common.{ℕ, Bool, ◌∙◌, ◌+◌, ◌++◌, ◌∷◌, [], false, ap, get_or, refl, sym}
use Rattle.boundary_map.proofs.Loops.{pick_no, pick_yes}
use Rattle.boundary_map.proofs.plain.flagged.Goals as goal
use Rattle.boundary_map.proofs.plain.flagged.Goals.{then-flags-number+in_ok-push, else-flags-number}

pub loop-number-preserved : goal.loop-number-preserved
loop-number-preserved c = elim c.if-flags-number.branch [
  | then-flags-number+in_ok-push w ↦
      w.rows-is ∙ (w.in_ok-push.ensures.ok ∙ (ap (λ xs. xs ++ c.loop-number.number ∷ []) c.loop-number.invariant ∙ sym (pick_yes flag c.loop-number.number (c.loop-number.number + 1) refl w.if-flags-number.true)))
  | else-flags-number w ↦ w.rows-is ∙ (c.loop-number.invariant ∙ sym (pick_no flag c.loop-number.number (c.loop-number.number + 1) refl w.if-flags-number.false))
]
  where
    flag : ℕ → Bool
    flag i = get_or c.args.flags.now i false
