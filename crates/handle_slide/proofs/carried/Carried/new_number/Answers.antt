use Rattle.std.proofs.Common.{◌<◌, ◌∙◌, length, get_or, ap, subst, arith}
use Rattle.handle_slide.specs.Carried.{IsCarried}
use Rattle.handle_slide.proofs.CarriedTables.{number_read}
use Rattle.std.proofs.lemmas.Grind.{get_or_default_zero}
use Rattle.handle_slide.proofs.carried.Carried.new_number.Goals as goal

pub bounds-self-inside-number : goal.bounds-self-inside-number
bounds-self-inside-number c =
    let is = subst (λ w. IsCarried w c.self.inside.numbers.now c.self.inside.counts.now) c.self.view_is c.self.invariant in
    omega (arith, (number_read c.args.self.now c.self.inside.numbers.now c.self.inside.counts.now is c.args.side c.requires).0, c.number.ensures.value)

pub returns : goal.returns
returns c =
    let is = subst (λ w. IsCarried w c.self.inside.numbers.now c.self.inside.counts.now) c.self.view_is c.self.invariant in
    let r = number_read c.args.self.now c.self.inside.numbers.now c.self.inside.counts.now is c.args.side c.requires in
    let l : c.number.result < length c.self.inside.numbers.now = omega (arith, r.0, c.number.ensures.value) in
    record { value = get_or_default_zero c.self.inside.numbers.now c.number.result c.index-self-number.result l ∙ (ap (λ i. get_or c.self.inside.numbers.now i 0) c.number.ensures.value ∙ r.1) }
