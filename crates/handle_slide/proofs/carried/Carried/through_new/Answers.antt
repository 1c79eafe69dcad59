use Rattle.std.proofs.Common.{◌∙◌, sym, subst}
use Rattle.obd_base.specs.Lists.{Mem}
use Rattle.handle_slide.specs.Slide.{new_side_points}
use Rattle.handle_slide.proofs.CarriedTables.{exit_new}
use Rattle.handle_slide.proofs.carried.Carried.through_new.Goals as goal

pub place-requires-clause-there : goal.place-requires-clause-there
place-requires-clause-there c =
    subst (λ e. Mem e (new_side_points c.args.self.now.polygon c.args.self.now.side c.args.self.now.exits)) (sym c.exit-exit.ensures.value)
    (exit_new c.args.self.now c.exit-exit.ensures.known c.args.at c.requires.at (sym c.enters_new.ensures ∙ c.if-not-enters_new.false))
