use Rattle.std.proofs.Common.{List, ℕ, ◌∙◌, ap, arith, length, map, subst}
use Rattle.std.proofs.lemmas.List.{take_all}
use Rattle.boundary_map.proofs.ColumnLaws.{columns_ascend, contact_empty, rows_below}
use Rattle.hkm_diagram.specs.Domains.{column}
use Rattle.obd_base.specs.Lists.{Mem}
use Rattle.page_surface.specs.Drawing.{IsEmbedded}
use Rattle.boundary_map.proofs.plain.columns_plain.Goals as goal

pub returns-clause-columns : goal.returns-clause-columns
returns-clause-columns c =
    c.loop-number.invariant ∙ (ap (map (column c.args.diagram.now)) (take_all c.loop-number.number c.args.generators.now (omega (arith, c.loop-number-test.false, c.count-number-end.ensures.value)))
    ∙ ap (map (column c.args.diagram.now)) c.requires.generators)

pub returns-clause-contact : goal.returns-clause-contact
returns-clause-contact c = λ last el.
    contact_empty c.args.diagram.now (subst (λ w. IsEmbedded w) c.drawing.ensures c.points.ensures.valid) c.args.generators.now _ c.requires.generators (returns-clause-columns c) c.contact.result last
    c.contact.ensures.last el (c.contact.ensures.contact c.args.diagram.now c.requires.generators)

pub returns-clause-ascend : goal.returns-clause-ascend
returns-clause-ascend c = λ rows m. columns_ascend c.args.diagram.now rows (subst (λ (xs : List (List ℕ)). Mem rows xs) (returns-clause-columns c) m)

pub returns-clause-below : goal.returns-clause-below
returns-clause-below c = λ rows m row n.
    let l = rows_below c.args.diagram.now rows (subst (λ (xs : List (List ℕ)). Mem rows xs) (returns-clause-columns c) m) row n in
    omega (arith, l, ap length c.requires.generators)
