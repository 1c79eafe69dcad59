use Rattle.std.proofs.Common.{◌∙◌, ap}
use Rattle.dehn_twist.specs.Tables.{surgery_row}
use Rattle.dehn_twist.proofs.OrderTables.{map_push}
use Rattle.dehn_twist.proofs.surgery.strand_rows.Goals as goal

pub loop-strand-preserved : goal.loop-strand-preserved
loop-strand-preserved c =
    map_push (surgery_row c.args.meetings.now.drawing c.args.meetings.now.curve c.args.sign) c.loop-strand.strand _ _ _ c.loop-strand.invariant
    (c.in_ok-strand_row.ensures ∙ ap (surgery_row c.args.meetings.now.drawing c.args.meetings.now.curve c.args.sign) c.new.ensures) c.in_ok-push.ensures.items
