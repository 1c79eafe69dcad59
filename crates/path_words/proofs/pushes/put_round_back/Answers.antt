use Rattle.std.proofs.lemmas.Result.{on_ok_weaker}
use Rattle.path_words.proofs.Readings.{round_back}
use Rattle.path_words.proofs.pushes.put_round_back.Goals as goal

pub returns : goal.returns
returns c =
    on_ok_weaker c.put_back-2.result (round_back c.args.exits.now c.args.start c.args.polygon.now c.args.word.now.items c.put_back.new.word.items c.put_back-2.new.word.items c.in_ok-put_back.ensures) c.put_back-2.ensures
