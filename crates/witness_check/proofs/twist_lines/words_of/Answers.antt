use Rattle.std.proofs.Common.{sym, ◌∙◌}
use Rattle.witness_check.specs.BookRules.{TwistsCome}
use Rattle.witness_check.proofs.EachLine.{that_fault}
use Rattle.witness_check.proofs.TwistLines.{long_number, twists_fault, twists_kept, twists_long, words_are, words_by_number}
use Rattle.witness_check.proofs.twist_lines.words_of.Goals as goal

pub returns-then-count-twists-clause-fault : goal.returns-then-count-twists-clause-fault
returns-then-count-twists-clause-fault c fault same =
    that_fault (TwistsCome c.args.surface.now.slid c.args.curves.now c.args.twists.now) _ fault same
    (twists_fault c.args.surface.now.slid c.args.curves.now c.args.twists.now c.entry_count-count.result c.entry_count-count.ensures c.in-Ok.words c.if-count-twists.true
    (words_by_number c.args.surface.now.slid c.args.curves.now _ _ _ _ _ c.as_slice.ensures c.as_slice-2.ensures c.in_ok-entries.ensures c.in-Ok.ensures.value))

pub returns-in-Ok-clause-words : goal.returns-in-Ok-clause-words
returns-in-Ok-clause-words c =
    words_are c.args.surface.now.slid c.args.curves.now c.args.twists.now c.entry_count-count.result c.entry_count-count.ensures c.in-Ok.words c.if-count-twists.false
    (words_by_number c.args.surface.now.slid c.args.curves.now _ _ _ _ _ c.as_slice.ensures c.as_slice-2.ensures c.in_ok-entries.ensures c.in-Ok.ensures.value)

pub returns-in-Ok-clause-kept : goal.returns-in-Ok-clause-kept
returns-in-Ok-clause-kept c =
    twists_kept c.args.surface.now.slid c.args.curves.now c.args.twists.now c.entry_count-count.result c.entry_count-count.ensures c.in-Ok.words c.if-count-twists.false
    (words_by_number c.args.surface.now.slid c.args.curves.now _ _ _ _ _ c.as_slice.ensures c.as_slice-2.ensures c.in_ok-entries.ensures c.in-Ok.ensures.value)

pub too_long-requires : goal.too_long-requires
too_long-requires c =
    long_number c.args.surface.now.slid c.args.curves.now c.args.twists.now c.entry_count-count.result c.entry_count-count.ensures c.in-Err-TooLong.long c.requires.few
    (words_by_number c.args.surface.now.slid c.args.curves.now _ _ _ _ _ c.as_slice.ensures c.as_slice-2.ensures c.in_ok-entries.ensures (c.in-Err-TooLong.ensures.long c.in-Err-TooLong.long c.in-Err-TooLong.field-0-is))

pub returns-in-Err-TooLong-clause-fault : goal.returns-in-Err-TooLong-clause-fault
returns-in-Err-TooLong-clause-fault c fault same =
    that_fault (TwistsCome c.args.surface.now.slid c.args.curves.now c.args.twists.now) _ fault (sym c.too_long.ensures ∙ same)
    (twists_long c.args.surface.now.slid c.args.curves.now c.args.twists.now c.entry_count-count.result c.entry_count-count.ensures c.in-Err-TooLong.long
    (words_by_number c.args.surface.now.slid c.args.curves.now _ _ _ _ _ c.as_slice.ensures c.as_slice-2.ensures c.in_ok-entries.ensures (c.in-Err-TooLong.ensures.long c.in-Err-TooLong.long c.in-Err-TooLong.field-0-is)))
