use Rattle.std.proofs.Common.{sym, ◌∙◌, ap}
use Rattle.witness_check.specs.Words.{none_left}
use Rattle.witness_check.proofs.LineWords.{left_words}
use Rattle.witness_check.proofs.words.Words.is_empty.Goals as goal

pub returns : goal.returns
returns c = c.is_empty.ensures ∙ (sym (left_words c.self.inside.rest.now) ∙ ap none_left c.self.view_is)
