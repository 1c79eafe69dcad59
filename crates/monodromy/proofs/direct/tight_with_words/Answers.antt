use Rattle.std.proofs.Common.{rules}
use Rattle.monodromy.proofs.DirectWords.{is_drawn}
use Rattle.monodromy.proofs.direct.tight_with_words.Goals as goal

pub returns : goal.returns
returns c =
    is_drawn c.args.drawing.drawing c.tighten.new.self.drawing c.args.words.now c.tighten.ensures.drawing c.tighten.ensures.words
    (c.in_ok-has_words.ensures (search (rules, c.if-not-branch.false))) c.requires c.points.ensures.valid c.tighten.ensures.tight
