use Rattle.std.proofs.Common.{◌≡◌, ◌&&◌, ◌∙◌, ap, arith, eq-eqb, suc, sym, true, Bool}
use Rattle.std.specs.Prelude.{nat_eq}
use Rattle.drawing.specs.Points.{contact_generator}
use Rattle.mod2_rank.specs.Linear.{same_list}
use Rattle.witness_check.proofs.StrandLines.{one_list}
use Rattle.witness_check.proofs.generator_lines.is_contact.Goals as goal

pub returns-then-from : goal.returns-then-from
returns-then-from c =
    let points = contact_generator c.args.diagram.now in
    let last : nat_eq (suc c.args.contact) c.args.count ≡ true =
    eq-eqb (suc c.args.contact) c.args.count (omega (arith, c.if-from.true, c.from.ensures, c.from-2.ensures, c.number.ensures.value)) in
    one_list c.are_contact_points.result c.args.points.now points c.are_contact_points.ensures
    ∙ ap (λ (b : Bool). b && same_list c.args.points.now points) (sym last)
