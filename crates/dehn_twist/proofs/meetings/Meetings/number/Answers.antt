use Rattle.std.proofs.Common.{◌∙◌, arith, sym}
use Rattle.dehn_twist.proofs.NumberTables.{chords_there, is_read, number_down, number_up, rows_there, seen_meetings, seen_taken, two_uptos}
use Rattle.dehn_twist.proofs.meetings.Meetings.number.Goals as goal

pub bounds-as_slice-chord : goal.bounds-as_slice-chord
bounds-as_slice-chord c =
    let kept = seen_meetings _ _ c.self.view_is _ _ _ _ c.self.invariant in
    chords_there c.args.self.now.drawing c.args.self.now.curve _ _ _ _ kept _ c.as_slice.ensures.value c.args.chord c.requires.chord

pub bounds-as_slice-chord-2 : goal.bounds-as_slice-chord-2
bounds-as_slice-chord-2 c =
    let kept = seen_meetings _ _ c.self.view_is _ _ _ _ c.self.invariant in
    rows_there c.args.self.now.drawing c.args.self.now.curve _ _ _ _ kept _ c.as_slice-2.ensures.value c.args.chord c.requires.chord

pub bounds-crossed-inner_end : goal.bounds-crossed-inner_end
bounds-crossed-inner_end c =
    let ok = seen_taken _ _ c.self.view_is c.polygon.ensures.taken in
    let kept = seen_meetings _ _ c.self.view_is _ _ _ _ c.self.invariant in
    let read = is_read c.args.self.now.drawing c.args.self.now.curve ok c.args.chord c.requires.chord c.args.other c.requires.other c.requires.crosses _ _ _ _ _ _ kept _ _ _ _ c.as_slice.ensures.value c.as_slice-2.ensures.value
    c.index-as_slice-chord.is c.index-as_slice-chord-2.is c.as_slice-crossed.ensures c.inner_end.ensures in
    read.there

pub bounds-as_slice-chord-then-goes_up : goal.bounds-as_slice-chord-then-goes_up
bounds-as_slice-chord-then-goes_up c =
    let ok = seen_taken _ _ c.self.view_is c.polygon.ensures.taken in
    let kept = seen_meetings _ _ c.self.view_is _ _ _ _ c.self.invariant in
    let read = is_read c.args.self.now.drawing c.args.self.now.curve ok c.args.chord c.requires.chord c.args.other c.requires.other c.requires.crosses _ _ _ _ _ _ kept _ _ _ _ c.as_slice.ensures.value c.as_slice-2.ensures.value
    c.index-as_slice-chord.is c.index-as_slice-chord-2.is c.as_slice-crossed.ensures c.inner_end.ensures in
    (two_uptos c.args.self.now.drawing c.args.self.now.curve ok c.args.chord c.requires.chord c.args.other c.requires.other c.requires.crosses _ _ _ read _ (c.as_slice-then-goes_up.ensures.value ∙ kept.uptos_are)).0

pub overflow_add-result : goal.overflow_add-result
overflow_add-result c =
    let ok = seen_taken _ _ c.self.view_is c.polygon.ensures.taken in
    let kept = seen_meetings _ _ c.self.view_is _ _ _ _ c.self.invariant in
    let read = is_read c.args.self.now.drawing c.args.self.now.curve ok c.args.chord c.requires.chord c.args.other c.requires.other c.requires.crosses _ _ _ _ _ _ kept _ _ _ _ c.as_slice.ensures.value c.as_slice-2.ensures.value
    c.index-as_slice-chord.is c.index-as_slice-chord-2.is c.as_slice-crossed.ensures c.inner_end.ensures in
    let n = number_up c.args.self.now.drawing c.args.self.now.curve ok c.args.chord c.requires.chord c.args.other c.requires.other c.requires.crosses _ _ _ read _ (c.as_slice-then-goes_up.ensures.value ∙ kept.uptos_are) (sym c.goes_up.ensures ∙ c.if-goes_up.true) in
    omega (arith, n.2)

pub bounds-as_slice-chord-else-goes_up : goal.bounds-as_slice-chord-else-goes_up
bounds-as_slice-chord-else-goes_up c =
    let ok = seen_taken _ _ c.self.view_is c.polygon.ensures.taken in
    let kept = seen_meetings _ _ c.self.view_is _ _ _ _ c.self.invariant in
    let read = is_read c.args.self.now.drawing c.args.self.now.curve ok c.args.chord c.requires.chord c.args.other c.requires.other c.requires.crosses _ _ _ _ _ _ kept _ _ _ _ c.as_slice.ensures.value c.as_slice-2.ensures.value
    c.index-as_slice-chord.is c.index-as_slice-chord-2.is c.as_slice-crossed.ensures c.inner_end.ensures in
    (two_uptos c.args.self.now.drawing c.args.self.now.curve ok c.args.chord c.requires.chord c.args.other c.requires.other c.requires.crosses _ _ _ read _ (c.as_slice-else-goes_up.ensures.value ∙ kept.uptos_are)).1

pub overflow_sub-result : goal.overflow_sub-result
overflow_sub-result c =
    let ok = seen_taken _ _ c.self.view_is c.polygon.ensures.taken in
    let kept = seen_meetings _ _ c.self.view_is _ _ _ _ c.self.invariant in
    let read = is_read c.args.self.now.drawing c.args.self.now.curve ok c.args.chord c.requires.chord c.args.other c.requires.other c.requires.crosses _ _ _ _ _ _ kept _ _ _ _ c.as_slice.ensures.value c.as_slice-2.ensures.value
    c.index-as_slice-chord.is c.index-as_slice-chord-2.is c.as_slice-crossed.ensures c.inner_end.ensures in
    (number_down c.args.self.now.drawing c.args.self.now.curve ok c.args.chord c.requires.chord c.args.other c.requires.other c.requires.crosses _ _ _ read _ (c.as_slice-else-goes_up.ensures.value ∙ kept.uptos_are) (sym c.goes_up.ensures ∙ c.if-goes_up.false)).2

pub overflow_sub-result-else-goes_up : goal.overflow_sub-result-else-goes_up
overflow_sub-result-else-goes_up c =
    let ok = seen_taken _ _ c.self.view_is c.polygon.ensures.taken in
    let kept = seen_meetings _ _ c.self.view_is _ _ _ _ c.self.invariant in
    let read = is_read c.args.self.now.drawing c.args.self.now.curve ok c.args.chord c.requires.chord c.args.other c.requires.other c.requires.crosses _ _ _ _ _ _ kept _ _ _ _ c.as_slice.ensures.value c.as_slice-2.ensures.value
    c.index-as_slice-chord.is c.index-as_slice-chord-2.is c.as_slice-crossed.ensures c.inner_end.ensures in
    (number_down c.args.self.now.drawing c.args.self.now.curve ok c.args.chord c.requires.chord c.args.other c.requires.other c.requires.crosses _ _ _ read _ (c.as_slice-else-goes_up.ensures.value ∙ kept.uptos_are) (sym c.goes_up.ensures ∙ c.if-goes_up.false)).3

pub returns-then-goes_up-clause-value : goal.returns-then-goes_up-clause-value
returns-then-goes_up-clause-value c =
    let ok = seen_taken _ _ c.self.view_is c.polygon.ensures.taken in
    let kept = seen_meetings _ _ c.self.view_is _ _ _ _ c.self.invariant in
    let read = is_read c.args.self.now.drawing c.args.self.now.curve ok c.args.chord c.requires.chord c.args.other c.requires.other c.requires.crosses _ _ _ _ _ _ kept _ _ _ _ c.as_slice.ensures.value c.as_slice-2.ensures.value
    c.index-as_slice-chord.is c.index-as_slice-chord-2.is c.as_slice-crossed.ensures c.inner_end.ensures in
    (number_up c.args.self.now.drawing c.args.self.now.curve ok c.args.chord c.requires.chord c.args.other c.requires.other c.requires.crosses _ _ _ read _ (c.as_slice-then-goes_up.ensures.value ∙ kept.uptos_are) (sym c.goes_up.ensures ∙ c.if-goes_up.true)).0

pub returns-then-goes_up-clause-inside : goal.returns-then-goes_up-clause-inside
returns-then-goes_up-clause-inside c =
    let ok = seen_taken _ _ c.self.view_is c.polygon.ensures.taken in
    let kept = seen_meetings _ _ c.self.view_is _ _ _ _ c.self.invariant in
    let read = is_read c.args.self.now.drawing c.args.self.now.curve ok c.args.chord c.requires.chord c.args.other c.requires.other c.requires.crosses _ _ _ _ _ _ kept _ _ _ _ c.as_slice.ensures.value c.as_slice-2.ensures.value
    c.index-as_slice-chord.is c.index-as_slice-chord-2.is c.as_slice-crossed.ensures c.inner_end.ensures in
    (number_up c.args.self.now.drawing c.args.self.now.curve ok c.args.chord c.requires.chord c.args.other c.requires.other c.requires.crosses _ _ _ read _ (c.as_slice-then-goes_up.ensures.value ∙ kept.uptos_are) (sym c.goes_up.ensures ∙ c.if-goes_up.true)).1

pub returns-else-goes_up-clause-value : goal.returns-else-goes_up-clause-value
returns-else-goes_up-clause-value c =
    let ok = seen_taken _ _ c.self.view_is c.polygon.ensures.taken in
    let kept = seen_meetings _ _ c.self.view_is _ _ _ _ c.self.invariant in
    let read = is_read c.args.self.now.drawing c.args.self.now.curve ok c.args.chord c.requires.chord c.args.other c.requires.other c.requires.crosses _ _ _ _ _ _ kept _ _ _ _ c.as_slice.ensures.value c.as_slice-2.ensures.value
    c.index-as_slice-chord.is c.index-as_slice-chord-2.is c.as_slice-crossed.ensures c.inner_end.ensures in
    (number_down c.args.self.now.drawing c.args.self.now.curve ok c.args.chord c.requires.chord c.args.other c.requires.other c.requires.crosses _ _ _ read _ (c.as_slice-else-goes_up.ensures.value ∙ kept.uptos_are) (sym c.goes_up.ensures ∙ c.if-goes_up.false)).0

pub returns-else-goes_up-clause-inside : goal.returns-else-goes_up-clause-inside
returns-else-goes_up-clause-inside c =
    let ok = seen_taken _ _ c.self.view_is c.polygon.ensures.taken in
    let kept = seen_meetings _ _ c.self.view_is _ _ _ _ c.self.invariant in
    let read = is_read c.args.self.now.drawing c.args.self.now.curve ok c.args.chord c.requires.chord c.args.other c.requires.other c.requires.crosses _ _ _ _ _ _ kept _ _ _ _ c.as_slice.ensures.value c.as_slice-2.ensures.value
    c.index-as_slice-chord.is c.index-as_slice-chord-2.is c.as_slice-crossed.ensures c.inner_end.ensures in
    (number_down c.args.self.now.drawing c.args.self.now.curve ok c.args.chord c.requires.chord c.args.other c.requires.other c.requires.crosses _ _ _ read _ (c.as_slice-else-goes_up.ensures.value ∙ kept.uptos_are) (sym c.goes_up.ensures ∙ c.if-goes_up.false)).1
