use Rattle.std.proofs.lemmas.Result.{on_ok_weaker}
use Rattle.path_words.proofs.Readings.{round}
use Rattle.path_words.proofs.pushes.put_round.Goals as goal

pub returns : goal.returns
returns c = on_ok_weaker c.put_sides-2.result (round c.args.exits.now c.args.start c.args.word.now.items c.put_sides.new.word.items c.put_sides-2.new.word.items c.in_ok-put_sides.ensures) c.put_sides-2.ensures
