use Rattle.std.proofs.Common.{◌∙◌, refl, subst, sym}
use Rattle.std.proofs.lemmas.Bool.{false≢true, true≢false}
use Rattle.obd_base.specs.Lists.{Mem}
use Rattle.drawing.proofs.Generators.{generator_is_listed, listed_is_generator}
use Rattle.generator_list.proofs.Sorted.{number_mem}
use Rattle.generator_list.proofs.generators.Generators.find.Goals as goal

pub returns-in-Some-clause-none : goal.returns-in-Some-clause-none
returns-in-Some-clause-none c =
    let m = subst (λ lists. Mem c.args.points.now lists) c.self.view_is (number_mem c.self.inside.lists.lists c.in-Some.number c.args.points.now c.in-Some.ensures.some) in
    (λ e. absurd (true≢false e), λ away. absurd (away m))

pub returns-in-Some-clause-generator : goal.returns-in-Some-clause-generator
returns-in-Some-clause-generator c d is =
    let m = subst (λ lists. Mem c.args.points.now lists) c.self.view_is (number_mem c.self.inside.lists.lists c.in-Some.number c.args.points.now c.in-Some.ensures.some) in
    (λ e. listed_is_generator d c.args.points.now (subst (λ lists. Mem c.args.points.now lists) is m), λ g. refl)

pub returns-in-None-clause-generator : goal.returns-in-None-clause-generator
returns-in-None-clause-generator c d is = (
  λ e. absurd (false≢true e),
  λ g. absurd (c.in-None.ensures.none (subst (λ lists. Mem c.args.points.now lists) (sym (c.self.view_is ∙ is)) (generator_is_listed d c.args.points.now g))),
)
