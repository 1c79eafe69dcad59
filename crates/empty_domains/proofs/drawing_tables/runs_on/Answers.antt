use Rattle.std.proofs.Common.{◌+◌, ◌∙◌, List, ℕ, ap, arith, get_or, sym}
use Rattle.drawing.specs.Pieces.{span_count}
use Rattle.drawing.specs.Round.{other_end}
use Rattle.empty_domains.proofs.Made.{entries, runs_read}
use Rattle.page_surface.specs.Drawing.{chords}
use Rattle.empty_domains.proofs.drawing_tables.runs_on.Goals as goal

pub bounds-other-next : goal.bounds-other-next
bounds-other-next c =
    let d = c.args.diagram.now in
    let n = entries (other_end (chords d)) (span_count d) c.other_ends-other.result.now (c.other_ends-other.ensures ∙ c.requires.table.mates) in
    omega (arith, n, c.requires.at)

pub bounds-other-at : goal.bounds-other-at
bounds-other-at c =
    let d = c.args.diagram.now in
    let n = entries (other_end (chords d)) (span_count d) c.other_ends-other.result.now (c.other_ends-other.ensures ∙ c.requires.table.mates) in
    omega (arith, n, c.requires.at)

pub returns-then-not-is_base : goal.returns-then-not-is_base
returns-then-not-is_base c =
    let d = c.args.diagram.now in
    runs_read d c.other_ends-other.result.now (c.other_ends-other.ensures ∙ c.requires.table.mates) c.args.at (c.args.at + 1) (omega arith) c.requires.at
    (sym (c.is_base.ensures.value d (c.args.at + 1) c.requires.table (omega (arith, c.requires.at)) (sym (c.new.ensures ∙ ap (λ (names : List ℕ). get_or names (c.args.at + 1) 0) c.span_names.ensures))) ∙ c.if-not-is_base.true)
