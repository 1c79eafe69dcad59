use Rattle.std.proofs.Common.{◌+◌, ◌∙◌, ℕ, List, [], ap, arith, subst, sym, refl}
use Rattle.std.proofs.lemmas.Bool.{false≢true}
use Rattle.empty_domains.proofs.Generators.{generator_choice}
use Rattle.empty_domains.proofs.LedMade.{collected_under}
use Rattle.empty_domains.proofs.LedSteps.{led_stale}
use Rattle.empty_domains.proofs.StepRows.{steps_under}
use Rattle.empty_domains.proofs.Verified.{begin_under, entries_under, found_marked, fresh_by, marks_off, none_marked, rows_size, rows_told, rows_under, table_size}
use Rattle.empty_domains.specs.NearTest.{IsCollected, swept}
use Rattle.empty_domains.specs.Strip.{Step}
use Rattle.empty_domains.proofs.verify.verify.Goals as goal

pub overflow_add-step-inside : goal.overflow_add-step-inside
overflow_add-step-inside c =
    omega (arith, steps_under c.args.diagram.now c.requires.valid c.args.y.now (generator_choice c.args.diagram.now c.args.y.now c.requires.y).0 c.args.step c.requires.read, c.requires.few, ap (λ (s : Step). s.steps) c.step.view_is)

pub row_starts-requires : goal.row_starts-requires
row_starts-requires c =
    omega (arith, begin_under c.args.diagram.now c.requires.valid c.args.y.now c.requires.y c.args.step c.requires.read c.args.tables.now c.requires.tables, ap (λ (s : Step). s.by.start) c.step.view_is)

pub is_fresh-requires-clause-count : goal.is_fresh-requires-clause-count
is_fresh-requires-clause-count c =
    let rows = rows_told c.args.tables.now c.args.step c.deref.result.now c.row_starts.new.rows.items c.step.inside.start (c.step.inside.row + 1) c.deref.ensures.value c.in_ok-row_starts.ensures (ap (λ (s : Step). s.by.start) c.step.view_is) (omega (arith, ap (λ (s : Step). s.steps) c.step.view_is)) in
    rows_size c.args.diagram.now c.requires.valid c.args.y.now c.requires.y c.args.step c.requires.read c.args.tables.now c.requires.tables c.deref.result.now rows

pub is_fresh-requires-clause-inside : goal.is_fresh-requires-clause-inside
is_fresh-requires-clause-inside c = λ at m.
    let rows = rows_told c.args.tables.now c.args.step c.deref.result.now c.row_starts.new.rows.items c.step.inside.start (c.step.inside.row + 1) c.deref.ensures.value c.in_ok-row_starts.ensures (ap (λ (s : Step). s.by.start) c.step.view_is) (omega (arith, ap (λ (s : Step). s.steps) c.step.view_is)) in
    omega (arith, rows_under c.args.diagram.now c.requires.valid c.args.y.now c.requires.y c.args.step c.requires.read c.args.tables.now c.requires.tables c.deref.result.now rows at m, c.requires.tables.other_size)

pub returns-then-not-is_fresh-clause-led : goal.returns-then-not-is_fresh-clause-led
returns-then-not-is_fresh-clause-led c =
    let rows = rows_told c.args.tables.now c.args.step c.deref.result.now c.row_starts.new.rows.items c.step.inside.start (c.step.inside.row + 1) c.deref.ensures.value c.in_ok-row_starts.ensures (ap (λ (s : Step). s.by.start) c.step.view_is) (omega (arith, ap (λ (s : Step). s.steps) c.step.view_is)) in
    led_stale c.args.diagram.now c.requires.valid c.requires.nice c.args.y.now c.requires.y c.args.generators.now c.args.step c.requires.read (fresh_by c.args.diagram.now c.requires.valid c.args.y.now c.requires.y c.args.step c.requires.read c.args.tables.now c.requires.tables c.deref.result.now rows c.is_fresh.result c.is_fresh.ensures ∙ c.if-not-is_fresh.true)

pub returns-then-not-is_fresh-clause-found : goal.returns-then-not-is_fresh-clause-found
returns-then-not-is_fresh-clause-found c = λ fresh.
    let rows = rows_told c.args.tables.now c.args.step c.deref.result.now c.row_starts.new.rows.items c.step.inside.start (c.step.inside.row + 1) c.deref.ensures.value c.in_ok-row_starts.ensures (ap (λ (s : Step). s.by.start) c.step.view_is) (omega (arith, ap (λ (s : Step). s.steps) c.step.view_is)) in
    absurd (false≢true (sym (fresh_by c.args.diagram.now c.requires.valid c.args.y.now c.requires.y c.args.step c.requires.read c.args.tables.now c.requires.tables c.deref.result.now rows c.is_fresh.result c.is_fresh.ensures ∙ c.if-not-is_fresh.true) ∙ fresh))

pub collect-requires-clause-rows : goal.collect-requires-clause-rows
collect-requires-clause-rows c = λ start m.
    let rows = rows_told c.args.tables.now c.args.step c.deref-2.result.now c.row_starts.new.rows.items c.step.inside.start (c.step.inside.row + 1) c.deref-2.ensures.value c.in_ok-row_starts.ensures (ap (λ (s : Step). s.by.start) c.step.view_is) (omega (arith, ap (λ (s : Step). s.steps) c.step.view_is)) in
    omega (arith, rows_under c.args.diagram.now c.requires.valid c.args.y.now c.requires.y c.args.step c.requires.read c.args.tables.now c.requires.tables c.deref-2.result.now rows start m, table_size c.args.diagram.now c.args.pieces.now c.requires.pieces, ap (λ (s : Step). s.by.width) c.step-2.view_is)

pub collect-requires-clause-few : goal.collect-requires-clause-few
collect-requires-clause-few c =
    omega (arith, table_size c.args.diagram.now c.args.pieces.now c.requires.pieces, c.requires.few)

pub collect-requires-clause-marks : goal.collect-requires-clause-marks
collect-requires-clause-marks c = entries_under c.args.diagram.now c.requires.valid c.args.pieces.now c.args.marks.now c.requires.pieces c.requires.marks

pub led_to-requires-clause-fresh : goal.led_to-requires-clause-fresh
led_to-requires-clause-fresh c =
    let rows = rows_told c.args.tables.now c.args.step c.deref.result.now c.row_starts.new.rows.items c.step.inside.start (c.step.inside.row + 1) c.deref.ensures.value c.in_ok-row_starts.ensures (ap (λ (s : Step). s.by.start) c.step.view_is) (omega (arith, ap (λ (s : Step). s.steps) c.step.view_is)) in
    fresh_by c.args.diagram.now c.requires.valid c.args.y.now c.requires.y c.args.step c.requires.read c.args.tables.now c.requires.tables c.deref.result.now rows c.is_fresh.result c.is_fresh.ensures ∙ c.if-not-is_fresh.false

pub led_to-requires-clause-found : goal.led_to-requires-clause-found
led_to-requires-clause-found c =
    let rows = rows_told c.args.tables.now c.args.step c.deref.result.now c.row_starts.new.rows.items c.step.inside.start (c.step.inside.row + 1) c.deref.ensures.value c.in_ok-row_starts.ensures (ap (λ (s : Step). s.by.start) c.step.view_is) (omega (arith, ap (λ (s : Step). s.steps) c.step.view_is)) in
    let rows-2 = rows_told c.args.tables.now c.args.step c.deref-2.result.now c.row_starts.new.rows.items c.step.inside.start (c.step.inside.row + 1) c.deref-2.ensures.value c.in_ok-row_starts.ensures (ap (λ (s : Step). s.by.start) c.step.view_is) (omega (arith, ap (λ (s : Step). s.steps) c.step.view_is)) in
    let fresh = fresh_by c.args.diagram.now c.requires.valid c.args.y.now c.requires.y c.args.step c.requires.read c.args.tables.now c.requires.tables c.deref.result.now rows c.is_fresh.result c.is_fresh.ensures ∙ c.if-not-is_fresh.false in
    found_marked c.args.diagram.now c.requires.valid c.args.y.now c.requires.y c.args.step c.requires.read c.args.tables.now c.requires.tables c.deref-2.result.now rows-2 fresh c.args.pieces.now c.collect.new.found.items c.deref-4.result.now c.collect.new.marks c.step-2.inside.width (ap (λ (s : Step). s.by.width) c.step-2.view_is)
    (c.in_ok-collect.ensures.collected [] (none_marked c.args.pieces.now c.clear.new.self.items c.args.marks.now c.clear.ensures.items c.requires.unmarked)) c.deref-4.ensures.value

pub unmark-requires : goal.unmark-requires
unmark-requires c =
    let rows = rows_told c.args.tables.now c.args.step c.deref.result.now c.row_starts.new.rows.items c.step.inside.start (c.step.inside.row + 1) c.deref.ensures.value c.in_ok-row_starts.ensures (ap (λ (s : Step). s.by.start) c.step.view_is) (omega (arith, ap (λ (s : Step). s.steps) c.step.view_is)) in
    let rows-2 = rows_told c.args.tables.now c.args.step c.deref-2.result.now c.row_starts.new.rows.items c.step.inside.start (c.step.inside.row + 1) c.deref-2.ensures.value c.in_ok-row_starts.ensures (ap (λ (s : Step). s.by.start) c.step.view_is) (omega (arith, ap (λ (s : Step). s.steps) c.step.view_is)) in
    let fresh = fresh_by c.args.diagram.now c.requires.valid c.args.y.now c.requires.y c.args.step c.requires.read c.args.tables.now c.requires.tables c.deref.result.now rows c.is_fresh.result c.is_fresh.ensures ∙ c.if-not-is_fresh.false in
    let is = found_marked c.args.diagram.now c.requires.valid c.args.y.now c.requires.y c.args.step c.requires.read c.args.tables.now c.requires.tables c.deref-2.result.now rows-2 fresh c.args.pieces.now c.collect.new.found.items c.deref-5.result.now c.collect.new.marks c.step-2.inside.width (ap (λ (s : Step). s.by.width) c.step-2.view_is)
    (c.in_ok-collect.ensures.collected [] (none_marked c.args.pieces.now c.clear.new.self.items c.args.marks.now c.clear.ensures.items c.requires.unmarked)) c.deref-5.ensures.value in
    let d = c.args.diagram.now in
    let collected = subst (λ (z : List ℕ). IsCollected z (swept d c.args.step.by) c.deref-5.result.now) c.requires.pieces is.collected in
    record { inside = (λ piece m. omega (arith, collected_under d c.requires.valid (swept d c.args.step.by) c.deref-5.result.now collected piece m, c.requires.marks, c.in_ok-collect.ensures.size)) }

pub returns-clause-found : goal.returns-clause-found
returns-clause-found c = λ fresh.
    let rows-2 = rows_told c.args.tables.now c.args.step c.deref-2.result.now c.row_starts.new.rows.items c.step.inside.start (c.step.inside.row + 1) c.deref-2.ensures.value c.in_ok-row_starts.ensures (ap (λ (s : Step). s.by.start) c.step.view_is) (omega (arith, ap (λ (s : Step). s.steps) c.step.view_is)) in
    (found_marked c.args.diagram.now c.requires.valid c.args.y.now c.requires.y c.args.step c.requires.read c.args.tables.now c.requires.tables c.deref-2.result.now rows-2 fresh c.args.pieces.now c.collect.new.found.items c.collect.new.found.items c.collect.new.marks c.step-2.inside.width (ap (λ (s : Step). s.by.width) c.step-2.view_is)
    (c.in_ok-collect.ensures.collected [] (none_marked c.args.pieces.now c.clear.new.self.items c.args.marks.now c.clear.ensures.items c.requires.unmarked)) refl).collected

pub returns-clause-unmarked : goal.returns-clause-unmarked
returns-clause-unmarked c =
    let rows = rows_told c.args.tables.now c.args.step c.deref.result.now c.row_starts.new.rows.items c.step.inside.start (c.step.inside.row + 1) c.deref.ensures.value c.in_ok-row_starts.ensures (ap (λ (s : Step). s.by.start) c.step.view_is) (omega (arith, ap (λ (s : Step). s.steps) c.step.view_is)) in
    let rows-2 = rows_told c.args.tables.now c.args.step c.deref-2.result.now c.row_starts.new.rows.items c.step.inside.start (c.step.inside.row + 1) c.deref-2.ensures.value c.in_ok-row_starts.ensures (ap (λ (s : Step). s.by.start) c.step.view_is) (omega (arith, ap (λ (s : Step). s.steps) c.step.view_is)) in
    let fresh = fresh_by c.args.diagram.now c.requires.valid c.args.y.now c.requires.y c.args.step c.requires.read c.args.tables.now c.requires.tables c.deref.result.now rows c.is_fresh.result c.is_fresh.ensures ∙ c.if-not-is_fresh.false in
    let is = found_marked c.args.diagram.now c.requires.valid c.args.y.now c.requires.y c.args.step c.requires.read c.args.tables.now c.requires.tables c.deref-2.result.now rows-2 fresh c.args.pieces.now c.collect.new.found.items c.deref-5.result.now c.collect.new.marks c.step-2.inside.width (ap (λ (s : Step). s.by.width) c.step-2.view_is)
    (c.in_ok-collect.ensures.collected [] (none_marked c.args.pieces.now c.clear.new.self.items c.args.marks.now c.clear.ensures.items c.requires.unmarked)) c.deref-5.ensures.value in
    marks_off c.deref-5.result.now c.collect.new.marks c.unmark.new.marks is.marked c.unmark.ensures.here c.unmark.ensures.elsewhere
