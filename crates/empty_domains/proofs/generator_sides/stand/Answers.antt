use Rattle.std.proofs.Common.{◌≡◌, ◌∙◌, ap₂, arith, sym}
use Rattle.empty_domains.proofs.StandMade.{made_first, made_last, made_less, stand_under}
use Rattle.page_surface.specs.Polygon.{arc, first_side}
use Rattle.region_table.proofs.ChordTables.{start_read, starts_size}
use Rattle.empty_domains.proofs.generator_sides.stand.Goals as goal

pub bounds-starts-side : goal.bounds-starts-side
bounds-starts-side c = omega (arith, starts_size c.args.diagram.now c.args.starts.now c.requires.starts, c.requires.side)

pub returns-then-number-side : goal.returns-then-number-side
returns-then-number-side c =
    let d = c.args.diagram.now in
    let s = start_read d c.args.starts.now c.requires.starts c.args.side (omega (arith, c.requires.side)) in
    let a : c.number.result ≡ arc d.polygon c.args.side = c.number.ensures.value ∙ (c.arc-arc.ensures ∙ ap₂ arc c.requires.polygon c.new.ensures) in
    let g : c.number-2.result ≡ first_side d.polygon c.number.result = c.number-2.ensures.value ∙ (c.first_side.ensures ∙ ap₂ first_side c.requires.polygon (sym c.number.ensures.value)) in
    omega (arith, s, made_first d c.requires.valid c.args.points.now c.requires.points c.args.side c.number.result c.requires.side a (omega (arith, g, c.if-number-side.true)))

pub overflow_add-result : goal.overflow_add-result
overflow_add-result c =
    let d = c.args.diagram.now in
    let s = start_read d c.args.starts.now c.requires.starts c.args.side (omega (arith, c.requires.side)) in
    let a : c.number.result ≡ arc d.polygon c.args.side = c.number.ensures.value ∙ (c.arc-arc.ensures ∙ ap₂ arc c.requires.polygon c.new.ensures) in
    let g : c.number-2.result ≡ first_side d.polygon c.number.result = c.number-2.ensures.value ∙ (c.first_side.ensures ∙ ap₂ first_side c.requires.polygon (sym c.number.ensures.value)) in
    omega (
      arith,
      s,
      c.requires.few,
      stand_under d c.requires.valid c.args.points.now c.requires.points c.args.side c.requires.side,
      made_first d c.requires.valid c.args.points.now c.requires.points c.args.side c.number.result c.requires.side a (omega (arith, g, c.if-number-side.true)),
    )

pub returns-then-point-count : goal.returns-then-point-count
returns-then-point-count c =
    let d = c.args.diagram.now in
    let s = start_read d c.args.starts.now c.requires.starts c.args.side (omega (arith, c.requires.side)) in
    let a : c.number.result ≡ arc d.polygon c.args.side = c.number.ensures.value ∙ (c.arc-arc.ensures ∙ ap₂ arc c.requires.polygon c.new.ensures) in
    let g : c.number-2.result ≡ first_side d.polygon c.number.result = c.number-2.ensures.value ∙ (c.first_side.ensures ∙ ap₂ first_side c.requires.polygon (sym c.number.ensures.value)) in
    omega (arith, s, made_less d c.requires.valid c.args.points.now c.requires.points c.args.side c.number.result c.points_on-count.result c.requires.side a (λ q. absurd (omega (arith, g, q, c.if-number-side.false))) c.points_on-count.ensures (omega (arith, c.if-point-count.true)))

pub overflow_add-result-then-point-count : goal.overflow_add-result-then-point-count
overflow_add-result-then-point-count c =
    let d = c.args.diagram.now in
    let s = start_read d c.args.starts.now c.requires.starts c.args.side (omega (arith, c.requires.side)) in
    let a : c.number.result ≡ arc d.polygon c.args.side = c.number.ensures.value ∙ (c.arc-arc.ensures ∙ ap₂ arc c.requires.polygon c.new.ensures) in
    let g : c.number-2.result ≡ first_side d.polygon c.number.result = c.number-2.ensures.value ∙ (c.first_side.ensures ∙ ap₂ first_side c.requires.polygon (sym c.number.ensures.value)) in
    omega (
      arith,
      s,
      c.requires.few,
      stand_under d c.requires.valid c.args.points.now c.requires.points c.args.side c.requires.side,
      made_less d c.requires.valid c.args.points.now c.requires.points c.args.side c.number.result c.points_on-count.result c.requires.side a (λ q. absurd (omega (arith, g, q, c.if-number-side.false))) c.points_on-count.ensures (omega (arith, c.if-point-count.true)),
    )

pub returns-else-point-count : goal.returns-else-point-count
returns-else-point-count c =
    let d = c.args.diagram.now in
    let s = start_read d c.args.starts.now c.requires.starts c.args.side (omega (arith, c.requires.side)) in
    let a : c.number.result ≡ arc d.polygon c.args.side = c.number.ensures.value ∙ (c.arc-arc.ensures ∙ ap₂ arc c.requires.polygon c.new.ensures) in
    let g : c.number-2.result ≡ first_side d.polygon c.number.result = c.number-2.ensures.value ∙ (c.first_side.ensures ∙ ap₂ first_side c.requires.polygon (sym c.number.ensures.value)) in
    omega (arith, s, made_last d c.requires.valid c.args.points.now c.requires.points c.args.side c.number.result c.points_on-count.result c.requires.side a (λ q. absurd (omega (arith, g, q, c.if-number-side.false))) c.points_on-count.ensures (omega (arith, c.if-point-count.false)))

pub overflow_add-result-else-point-count : goal.overflow_add-result-else-point-count
overflow_add-result-else-point-count c =
    let d = c.args.diagram.now in
    let s = start_read d c.args.starts.now c.requires.starts c.args.side (omega (arith, c.requires.side)) in
    let a : c.number.result ≡ arc d.polygon c.args.side = c.number.ensures.value ∙ (c.arc-arc.ensures ∙ ap₂ arc c.requires.polygon c.new.ensures) in
    let g : c.number-2.result ≡ first_side d.polygon c.number.result = c.number-2.ensures.value ∙ (c.first_side.ensures ∙ ap₂ first_side c.requires.polygon (sym c.number.ensures.value)) in
    omega (
      arith,
      s,
      c.requires.few,
      stand_under d c.requires.valid c.args.points.now c.requires.points c.args.side c.requires.side,
      made_last d c.requires.valid c.args.points.now c.requires.points c.args.side c.number.result c.points_on-count.result c.requires.side a (λ q. absurd (omega (arith, g, q, c.if-number-side.false))) c.points_on-count.ensures (omega (arith, c.if-point-count.false)),
    )
