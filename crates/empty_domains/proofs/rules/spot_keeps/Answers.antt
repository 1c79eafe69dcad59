use Rattle.std.proofs.Common.{◌+◌, arith, refl}
use Rattle.empty_domains.proofs.SpotReads.{name_next_in, next_in, rule_on}
use Rattle.empty_domains.specs.Marks.{marked_by}
use Rattle.empty_domains.proofs.rules.spot_keeps.Goals as goal

pub side-side-requires : goal.side-side-requires
side-side-requires c = omega (arith, next_in c.args.diagram.now c.requires.valid c.args.tables.now c.args.pieces.now c.args.marks.now c.args.from.now c.args.to.now c.requires.near c.args.at c.requires.spot)

pub mark-before-requires-clause-span : goal.mark-before-requires-clause-span
mark-before-requires-clause-span c = omega (arith, c.requires.near.pieces_size, next_in c.args.diagram.now c.requires.valid c.args.tables.now c.args.pieces.now c.args.marks.now c.args.from.now c.args.to.now c.requires.near c.args.at c.requires.spot)

pub overflow_add-at : goal.overflow_add-at
overflow_add-at c = omega (arith, c.requires.near.few, next_in c.args.diagram.now c.requires.valid c.args.tables.now c.args.pieces.now c.args.marks.now c.args.from.now c.args.to.now c.requires.near c.args.at c.requires.spot)

pub mark-after-requires-clause-span : goal.mark-after-requires-clause-span
mark-after-requires-clause-span c = omega (arith, c.requires.near.pieces_size, next_in c.args.diagram.now c.requires.valid c.args.tables.now c.args.pieces.now c.args.marks.now c.args.from.now c.args.to.now c.requires.near c.args.at c.requires.spot)

pub point_keeps-requires-clause-at : goal.point_keeps-requires-clause-at
point_keeps-requires-clause-at c = omega (arith, next_in c.args.diagram.now c.requires.valid c.args.tables.now c.args.pieces.now c.args.marks.now c.args.from.now c.args.to.now c.requires.near c.args.at c.requires.spot)

pub point_keeps-requires-clause-name : goal.point_keeps-requires-clause-name
point_keeps-requires-clause-name c = omega (arith, c.requires.near.pieces_size, name_next_in c.args.diagram.now c.requires.valid c.args.tables.now c.args.pieces.now c.args.marks.now c.args.from.now c.args.to.now c.requires.near c.args.at c.requires.spot)

pub point_keeps-requires-clause-few : goal.point_keeps-requires-clause-few
point_keeps-requires-clause-few c = omega (arith, c.requires.near.pieces_size, c.requires.near.few)

pub returns : goal.returns
returns c =
    rule_on c.args.tables.now c.args.from.now c.args.to.now (marked_by c.args.pieces.now c.args.marks.now) c.args.at (c.args.at + 1) c.side-side.result _ _ c.mark-before.result c.mark-after.result c.point_keeps.result
    c.side-side.ensures.value (omega arith) refl refl c.mark-before.ensures.value c.mark-after.ensures.value c.point_keeps.ensures
