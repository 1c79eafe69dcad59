use Rattle.std.proofs.Common.{[], map, sym, ◌∙◌, ap}
use Rattle.obd_base.specs.declared.points.Exit.{Exit}
use Rattle.mod2_rank.specs.Linear.{same_list}
use Rattle.witness_check.proofs.StrandLines.{one_list, other_default, read_past}
use Rattle.witness_check.proofs.strand_lines.has_word.Goals as goal

pub returns-then-strand-words : goal.returns-then-strand-words
returns-then-strand-words c =
    let sides = map (λ (e : Exit). e.side) c.args.exits.now in
    one_list c.has_sides.result sides c.as_slice.result.now c.has_sides.ensures
    ∙ ap (same_list sides) (c.as_slice.ensures ∙ (c.index-words-strand.is ∙ other_default c.args.words.now c.args.strand c.index-words-strand.result [] c.if-strand-words.true))

pub returns-else-strand-words : goal.returns-else-strand-words
returns-else-strand-words c =
    let sides = map (λ (e : Exit). e.side) c.args.exits.now in
    one_list c.has_sides-else-strand-words.result sides [] c.has_sides-else-strand-words.ensures
    ∙ ap (same_list sides) (sym (read_past c.args.words.now c.args.strand [] c.if-strand-words.false))
