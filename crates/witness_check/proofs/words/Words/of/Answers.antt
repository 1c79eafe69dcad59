use Rattle.std.proofs.Common.{sym, ◌∙◌}
use Rattle.witness_check.proofs.LineWords.{feed_before, feed_last, no_feed}
use Rattle.witness_check.proofs.words.Words.of.Goals as goal

pub returns-in_err-feed : goal.returns-in_err-feed
returns-in_err-feed c = c.from_residual.ensures ∙ sym (no_feed c.args.line.now (sym c.place_of_feed.ensures ∙ c.in_err-feed.was))

pub returns-then-feed-line : goal.returns-then-feed-line
returns-then-feed-line c = sym (feed_last c.args.line.now c.in_ok-feed.feed (sym c.place_of_feed.ensures ∙ c.in_ok-feed.was) c.if-feed-line.true)

pub returns-else-feed-line : goal.returns-else-feed-line
returns-else-feed-line c = sym (feed_before c.args.line.now c.in_ok-feed.feed (sym c.place_of_feed.ensures ∙ c.in_ok-feed.was) c.if-feed-line.false)
