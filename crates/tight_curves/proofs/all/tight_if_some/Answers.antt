use Rattle.std.proofs.Common.{[], sym, subst}
use Rattle.std.specs.Option.{option_map}
use Rattle.curve_paths.specs.Twists.{exits_of}
use Rattle.tight_curves.specs.Parts.{MadeTight}
use Rattle.tight_curves.proofs.TwistWords.{none_tight}
use Rattle.tight_curves.proofs.all.tight_if_some.Goals as goal

pub returns-in-None : goal.returns-in-None
returns-in-None c = subst (λ z. MadeTight c.args.polygon.now (exits_of (option_map (λ r. r.now) z)) []) (sym c.in-None.is) (none_tight c.args.polygon.now)
