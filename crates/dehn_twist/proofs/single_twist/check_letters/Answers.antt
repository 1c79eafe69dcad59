use Rattle.dehn_twist.proofs.DrawnWords.{one_power}
use Rattle.dehn_twist.proofs.single_twist.check_letters.Goals as goal

pub returns-clause-few : goal.returns-clause-few
returns-clause-few c =
    one_power c.args.drawing.now.drawing.polygon c.args.curve.now c.args.sign _ c.exits.ensures.least c.power_of.result c.power_of.ensures _ c.polygon.ensures _ c.in_ok-words.ensures.value _ c.in_ok-by_power.ensures.turned
