use Rattle.std.proofs.Common.{◌∙◌, get_or, ap, subst, arith}
use Rattle.handle_slide.specs.Carried.{IsCarried}
use Rattle.handle_slide.proofs.CarriedTables.{points_read}
use Rattle.handle_slide.proofs.carried.Carried.points.Goals as goal

pub bounds-self-inside-number : goal.bounds-self-inside-number
bounds-self-inside-number c =
    let is = subst (λ w. IsCarried w c.self.inside.numbers.now c.self.inside.counts.now) c.self.view_is c.self.invariant in
    omega (arith, (points_read c.args.self.now c.self.inside.numbers.now c.self.inside.counts.now is c.args.side c.requires).0, c.number.ensures.value)

pub returns-clause-value : goal.returns-clause-value
returns-clause-value c =
    let is = subst (λ w. IsCarried w c.self.inside.numbers.now c.self.inside.counts.now) c.self.view_is c.self.invariant in
    ap (λ i. get_or c.self.inside.counts.now i 0) c.number.ensures.value ∙ (points_read c.args.self.now c.self.inside.numbers.now c.self.inside.counts.now is c.args.side c.requires).1

pub returns-clause-few : goal.returns-clause-few
returns-clause-few c =
    let is = subst (λ w. IsCarried w c.self.inside.numbers.now c.self.inside.counts.now) c.self.view_is c.self.invariant in
    let r = points_read c.args.self.now c.self.inside.numbers.now c.self.inside.counts.now is c.args.side c.requires in
    omega (arith, ap (λ i. get_or c.self.inside.counts.now i 0) c.number.ensures.value, r.1, r.2)
