use Rattle.std.proofs.Common.{◌≡◌, ◌-◌, ℕ, List, length, get_or, sym, ◌∙◌, ap, ap₂, arith}
use Rattle.page_surface.specs.Polygon.{partner}
use Rattle.region_table.specs.Ends.{begin_in}
use Rattle.region_table.specs.Reads.{told_points, told_spot}
use Rattle.region_table.specs.Table.{Table}
use Rattle.region_table.proofs.KeptReads.{row_seen}
use Rattle.region_table.proofs.fingers.PushReads.{chord_there, entry_seen, mate_there, name_there, past_there, segment_there, strand_there}
use Rattle.region_table.proofs.fingers.PushTold.{push_later, push_sooner}
use Rattle.region_table.proofs.regions.Regions.push_of.Goals as goal

pub spot-entered-requires-clause-segment : goal.spot-entered-requires-clause-segment
spot-entered-requires-clause-segment c =
    let b = c.requires in
    let t = c.args.self.now in
    let f = c.args.finger.now in
    segment_there b.0 b.1 f b.2 t b.3

pub overflow_sub-past : goal.overflow_sub-past
overflow_sub-past c =
    let b = c.requires in
    let t = c.args.self.now in
    let f = c.args.finger.now in
    omega (arith, segment_there b.0 b.1 f b.2 t b.3, c.points_on.ensures)

pub spot-beyond-requires-clause-segment : goal.spot-beyond-requires-clause-segment
spot-beyond-requires-clause-segment c =
    let b = c.requires in
    let t = c.args.self.now in
    let f = c.args.finger.now in
    past_there b.0 b.1 f b.2 t b.3 c.self.inside.polygon c.pair.result c.points_on.result (ap (λ (t : Table). t.polygon) c.self.view_is) c.pair.ensures c.points_on.ensures

pub row-requires : goal.row-requires
row-requires c =
    let b = c.requires in
    let t = c.args.self.now in
    let f = c.args.finger.now in
    omega (arith, strand_there b.0 b.1 f b.2 t b.3, c.number.ensures.value, ap (λ (t : Table). length t.begins) c.self.view_is)

pub bounds-row-finger : goal.bounds-row-finger
bounds-row-finger c =
    let b = c.requires in
    let t = c.args.self.now in
    let f = c.args.finger.now in
    let row = row_seen t c.self.inside.frame.begins.lists f.strand c.number.result _ (ap (λ t. t.begins) c.self.view_is) c.number.ensures.value c.row.ensures in
    omega (arith, chord_there b.0 b.1 f b.2 t b.3, ap (λ (xs : List ℕ). length xs) row)

pub index-to-requires : goal.index-to-requires
index-to-requires c =
    let b = c.requires in
    let t = c.args.self.now in
    let f = c.args.finger.now in
    let row = row_seen t c.self.inside.frame.begins.lists f.strand c.number.result _ (ap (λ t. t.begins) c.self.view_is) c.number.ensures.value c.row.ensures in
    let from : get_or c.row.result.now f.chord 0 ≡ begin_in t.begins f.strand f.chord = ap (λ (xs : List ℕ). get_or xs f.chord 0) row in
    omega (arith, mate_there b.0 b.1 f b.2 t b.3, from, ap (λ (t : Table). length t.mates) c.self.view_is, c.self.inside.frame.mates.ok)

pub index-requires-2 : goal.index-requires-2
index-requires-2 c =
    let b = c.requires in
    let t = c.args.self.now in
    let f = c.args.finger.now in
    let row = row_seen t c.self.inside.frame.begins.lists f.strand c.number.result _ (ap (λ t. t.begins) c.self.view_is) c.number.ensures.value c.row.ensures in
    let from : get_or c.row.result.now f.chord 0 ≡ begin_in t.begins f.strand f.chord = ap (λ (xs : List ℕ). get_or xs f.chord 0) row in
    omega (arith, name_there b.0 b.1 f b.2 t b.3, from, ap (λ (t : Table). length t.names) c.self.view_is, c.self.inside.names.ok)

pub returns-then-index : goal.returns-then-index
returns-then-index c =
    let b = c.requires in
    let t = c.args.self.now in
    let f = c.args.finger.now in
    let row = row_seen t c.self.inside.frame.begins.lists f.strand c.number.result _ (ap (λ t. t.begins) c.self.view_is) c.number.ensures.value c.row.ensures in
    let from : get_or c.row.result.now f.chord 0 ≡ begin_in t.begins f.strand f.chord = ap (λ (xs : List ℕ). get_or xs f.chord 0) row in
    let to = entry_seen c.self.inside.frame.mates.items t.mates _ c.index-to.result.now (ap (λ (t : Table). t.mates) c.self.view_is)
    (omega (arith, mate_there b.0 b.1 f b.2 t b.3, from, ap (λ (t : Table). length t.mates) c.self.view_is)) c.index-to.ensures in
    let one = entry_seen c.self.inside.names.items t.names _ c.index.result.now (ap (λ (t : Table). t.names) c.self.view_is)
    (omega (arith, c.spot-entered.ensures.inside, ap (λ (t : Table). length t.names) c.self.view_is)) c.index.ensures in
    let two = entry_seen c.self.inside.names.items t.names _ c.index-2.result.now (ap (λ (t : Table). t.names) c.self.view_is)
    (omega (arith, name_there b.0 b.1 f b.2 t b.3, from, ap (λ (t : Table). length t.names) c.self.view_is)) c.index-2.ensures in
    let glued : c.spot-beyond.result ≡ told_spot t (partner t.polygon f.side) (told_points t f.side - f.segment) =
    c.spot-beyond.ensures.value ∙ ap₂ (told_spot t) (c.pair.ensures ∙ ap (λ (t : Table). partner t.polygon f.side) c.self.view_is) (ap (λ n. n - f.segment) c.points_on.ensures) in
    λ d ok l told. push_later d ok f l t told _ c.index-to.result.now c.spot-entered.result c.spot-beyond.result from to c.spot-entered.ensures.value glued (sym one ∙ (c.if-index.true ∙ two))

pub returns-else-index : goal.returns-else-index
returns-else-index c =
    let b = c.requires in
    let t = c.args.self.now in
    let f = c.args.finger.now in
    let row = row_seen t c.self.inside.frame.begins.lists f.strand c.number.result _ (ap (λ t. t.begins) c.self.view_is) c.number.ensures.value c.row.ensures in
    let from : get_or c.row.result.now f.chord 0 ≡ begin_in t.begins f.strand f.chord = ap (λ (xs : List ℕ). get_or xs f.chord 0) row in
    let to = entry_seen c.self.inside.frame.mates.items t.mates _ c.index-to.result.now (ap (λ (t : Table). t.mates) c.self.view_is)
    (omega (arith, mate_there b.0 b.1 f b.2 t b.3, from, ap (λ (t : Table). length t.mates) c.self.view_is)) c.index-to.ensures in
    let one = entry_seen c.self.inside.names.items t.names _ c.index.result.now (ap (λ (t : Table). t.names) c.self.view_is)
    (omega (arith, c.spot-entered.ensures.inside, ap (λ (t : Table). length t.names) c.self.view_is)) c.index.ensures in
    let two = entry_seen c.self.inside.names.items t.names _ c.index-2.result.now (ap (λ (t : Table). t.names) c.self.view_is)
    (omega (arith, name_there b.0 b.1 f b.2 t b.3, from, ap (λ (t : Table). length t.names) c.self.view_is)) c.index-2.ensures in
    let glued : c.spot-beyond.result ≡ told_spot t (partner t.polygon f.side) (told_points t f.side - f.segment) =
    c.spot-beyond.ensures.value ∙ ap₂ (told_spot t) (c.pair.ensures ∙ ap (λ (t : Table). partner t.polygon f.side) c.self.view_is) (ap (λ n. n - f.segment) c.points_on.ensures) in
    λ d ok l told. push_sooner d ok f l t told _ c.index-to.result.now c.spot-entered.result c.spot-beyond.result from to c.spot-entered.ensures.value glued (λ same. c.if-index.false (one ∙ (same ∙ sym two)))
