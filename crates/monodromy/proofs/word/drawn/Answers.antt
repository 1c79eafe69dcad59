use Rattle.std.proofs.Common.{subst, sym}
use Rattle.std.specs.Prelude.{All, IfSome}
use Rattle.curve_paths.specs.Curves.{IsCurve}
use Rattle.monodromy.proofs.Curves.{all_curves}
use Rattle.monodromy.proofs.word.drawn.Goals as goal

pub drawn_in_full-requires : goal.drawn_in_full-requires
drawn_in_full-requires c =
    let p = c.args.polygon.now in
    subst (All (λ curve. IfSome curve (IsCurve p))) (sym c.as_slice-in-None.ensures) (all_curves p c.in_ok-tight-in-None.tight (λ i. (c.in_ok-tight-in-None.ensures.made i).is_curve))
