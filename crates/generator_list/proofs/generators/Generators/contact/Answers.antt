use Rattle.std.proofs.Common.{◌≡◌, ◌-◌, [], ◌∙◌, ap, ap₂, get_or, length, arith}
use Rattle.drawing.specs.Points.{generators}
use Rattle.generator_list.proofs.ContactLast.{contact_number}
use Rattle.generator_list.proofs.generators.Generators.contact.Goals as goal

pub returns-clause-contact : goal.returns-clause-contact
returns-clause-contact c d is =
    let size = ap length (c.self.view_is ∙ is) in
    let last : c.new.result ≡ length (generators d) - 1 = omega (arith, c.new.ensures, c.count.ensures, size) in
    ap₂ (λ xs k. get_or xs k []) is last ∙ contact_number d
