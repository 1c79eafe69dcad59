use Rattle.dehn_twist.proofs.NumberTables.{all_lines, seen_curve, seen_taken}
use Rattle.dehn_twist.proofs.meetings.Meetings.lines.Goals as goal

pub bounds-uptos-exits : goal.bounds-uptos-exits
bounds-uptos-exits c =
    (all_lines c.args.self.now.drawing c.args.self.now.curve (seen_taken _ _ c.self.view_is c.curve-exits.ensures.taken) _ c.uptos.ensures _ (seen_curve _ _ c.self.view_is _ c.curve-exits.ensures.value)).0

pub returns-clause-value : goal.returns-clause-value
returns-clause-value c =
    (all_lines c.args.self.now.drawing c.args.self.now.curve (seen_taken _ _ c.self.view_is c.curve-exits.ensures.taken) _ c.uptos.ensures _ (seen_curve _ _ c.self.view_is _ c.curve-exits.ensures.value)).1

pub returns-clause-few : goal.returns-clause-few
returns-clause-few c =
    (all_lines c.args.self.now.drawing c.args.self.now.curve (seen_taken _ _ c.self.view_is c.curve-exits.ensures.taken) _ c.uptos.ensures _ (seen_curve _ _ c.self.view_is _ c.curve-exits.ensures.value)).2
