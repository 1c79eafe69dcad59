use Rattle.std.proofs.Common.{ap₂}
use Rattle.page_surface.specs.Drawing.{Chord}
use Rattle.curve_paths.proofs.Orders.{at_crossing, entered_can, entered_spot, followed_can, followed_named, followed_spot}
use Rattle.curve_paths.proofs.chords.chord_after.Goals as goal

pub other-requires : goal.other-requires
other-requires c = (at_crossing _ _ c.requires.placed c.args.at _ c.requires.at).1

pub spot-from-requires-clause-label : goal.spot-from-requires-clause-label
spot-from-requires-clause-label c = (entered_can c.args.page.now c.args.crossings.now c.args.order.now.counts.items c.args.order.now.starts.items c.requires.order c.requires.placed c.args.at c.requires.at c.index-crossings-at.result c.index-crossings-at-2.result c.other.result c.other.ensures).label

pub spot-from-requires-clause-place : goal.spot-from-requires-clause-place
spot-from-requires-clause-place c = (entered_can c.args.page.now c.args.crossings.now c.args.order.now.counts.items c.args.order.now.starts.items c.requires.order c.requires.placed c.args.at c.requires.at c.index-crossings-at.result c.index-crossings-at-2.result c.other.result c.other.ensures).place_below

pub spot-from-requires-clause-few : goal.spot-from-requires-clause-few
spot-from-requires-clause-few c = (entered_can c.args.page.now c.args.crossings.now c.args.order.now.counts.items c.args.order.now.starts.items c.requires.order c.requires.placed c.args.at c.requires.at c.index-crossings-at.result c.index-crossings-at-2.result c.other.result c.other.ensures).few

pub spot-from-requires-clause-fits : goal.spot-from-requires-clause-fits
spot-from-requires-clause-fits c = (entered_can c.args.page.now c.args.crossings.now c.args.order.now.counts.items c.args.order.now.starts.items c.requires.order c.requires.placed c.args.at c.requires.at c.index-crossings-at.result c.index-crossings-at-2.result c.other.result c.other.ensures).fits

pub spot-to-requires-clause-label : goal.spot-to-requires-clause-label
spot-to-requires-clause-label c = (followed_can c.args.page.now c.args.crossings.now c.args.order.now.counts.items c.args.order.now.starts.items c.requires.order c.requires.placed c.args.at c.requires.at c.next_crossing-next.result c.next_crossing-next.ensures).label

pub spot-to-requires-clause-place : goal.spot-to-requires-clause-place
spot-to-requires-clause-place c = (followed_can c.args.page.now c.args.crossings.now c.args.order.now.counts.items c.args.order.now.starts.items c.requires.order c.requires.placed c.args.at c.requires.at c.next_crossing-next.result c.next_crossing-next.ensures).place_below

pub spot-to-requires-clause-few : goal.spot-to-requires-clause-few
spot-to-requires-clause-few c = (followed_can c.args.page.now c.args.crossings.now c.args.order.now.counts.items c.args.order.now.starts.items c.requires.order c.requires.placed c.args.at c.requires.at c.next_crossing-next.result c.next_crossing-next.ensures).few

pub spot-to-requires-clause-fits : goal.spot-to-requires-clause-fits
spot-to-requires-clause-fits c = (followed_can c.args.page.now c.args.crossings.now c.args.order.now.counts.items c.args.order.now.starts.items c.requires.order c.requires.placed c.args.at c.requires.at c.next_crossing-next.result c.next_crossing-next.ensures).fits

pub spot-to-requires-clause-occurrence : goal.spot-to-requires-clause-occurrence
spot-to-requires-clause-occurrence c = (followed_named c.args.page.now c.args.crossings.now c.args.order.now.counts.items c.args.order.now.starts.items c.requires.order c.requires.placed c.args.at c.requires.at c.next_crossing-next.result c.next_crossing-next.ensures).1

pub returns : goal.returns
returns c =
    ap₂ (λ a b. let x : Chord = record { from = a; to = b } in x)
    (entered_spot c.args.page.now c.args.crossings.now c.args.order.now.counts.items c.args.order.now.starts.items c.requires.order c.requires.placed c.args.at c.requires.at c.index-crossings-at.result c.index-crossings-at-2.result c.other.result c.other.ensures _ c.spot-from.ensures)
    (followed_spot c.args.page.now c.args.crossings.now c.args.order.now.counts.items c.args.order.now.starts.items c.requires.order c.requires.placed c.args.at c.requires.at c.next_crossing-next.result c.next_crossing-next.ensures _ c.spot-to.ensures)
