use Rattle.std.proofs.Common.{◌≡◌, ◌-◌, ◌+◌, ◌<◌, ℕ, false, not, List, cond, eqb, filter, length, get_or, sym, ◌∙◌, ap, ap₂, subst, arith}
use Rattle.obd_base.specs.Lists.{below}
use Rattle.page_surface.specs.Drawing.{Drawing, all_exits}
use Rattle.page_surface.specs.Polygon.{sides}
use Rattle.drawing.specs.Fingers.{pushed}
use Rattle.drawing.specs.Pieces.{span_count}
use Rattle.drawing.proofs.fingers.Effects.{pushed_embedded}
use Rattle.region_table.specs.Changed.{KeepsNames}
use Rattle.region_table.specs.Asked.{told_by}
use Rattle.region_table.specs.Counted.{has_gap}
use Rattle.region_table.specs.Ends.{IsFrameOf, shown}
use Rattle.region_table.specs.Table.{IsTableOf, Table, region_in}
use Rattle.region_table.specs.Told.{AreSeen}
use Rattle.region_table.proofs.FrameTables.{as_many_mates}
use Rattle.region_table.proofs.KeptReads.{few_names}
use Rattle.region_table.proofs.AskedTables.{flags_told, inner_told, seen_named, told_base, told_grown, told_size}
use Rattle.std.proofs.lemmas.Bool.{false≢true}
use Rattle.region_table.proofs.MadeTable.{inner_short}
use Rattle.region_table.proofs.RoomTables.{few_pieces, room_used}
use Rattle.region_table.proofs.fingers.AfterFinger.{push as pushes}
use Rattle.region_table.proofs.fingers.PushEnds.{beyond_inside, ends_in, entered_inside, spans_apart}
use Rattle.region_table.proofs.fingers.StoredAfter.{inner_stays, kept_is, names_kept, names_told, pieces_changed, table_is}
use Rattle.region_table.proofs.regions.Regions.after_finger.Goals as goal
use Rattle.region_table.proofs.regions.Regions.after_finger.Goals.{then-eq, else-eq}

pub name-behind-requires : goal.name-behind-requires
name-behind-requires c =
    let b = c.requires.before in
    let q = c.push_of-push.result in
    omega (arith, (ends_in b.0 b.1 c.args.finger.now b.2 q.from q.near q.far q.entry.entered q.entry.beyond q.out (c.push_of-push.ensures b.0 b.1 b.2 b.3)).0, b.3.every_span)

pub name-past-requires : goal.name-past-requires
name-past-requires c =
    let b = c.requires.before in
    let q = c.push_of-push.result in
    omega (arith, beyond_inside b.0 b.1 c.args.finger.now b.2 q.from q.near q.far q.entry.entered q.entry.beyond q.out (c.push_of-push.ensures b.0 b.1 b.2 b.3), b.3.every_span)

pub overflow_cast-len : goal.overflow_cast-len
overflow_cast-len c =
    omega (arith, few_pieces _ c.self.inside.frame.ends.items c.self.invariant.0.kept, told_size c.self.inside.names.items c.self.inside.told.regions c.self.inside.counted, c.len.ensures)

pub write_names-requires-clause-apart : goal.write_names-requires-clause-apart
write_names-requires-clause-apart c =
    let b = c.requires.before in
    let q = c.push_of-push.result in
    spans_apart b.0 b.1 c.args.finger.now b.2 q.from q.near q.far q.entry.entered q.entry.beyond q.out (c.push_of-push.ensures b.0 b.1 b.2 b.3)

pub write_names-requires-clause-entered : goal.write_names-requires-clause-entered
write_names-requires-clause-entered c =
    let b = c.requires.before in
    let q = c.push_of-push.result in
    omega (arith, entered_inside b.0 b.1 c.args.finger.now b.2 q.from q.near q.far q.entry.entered q.entry.beyond q.out (c.push_of-push.ensures b.0 b.1 b.2 b.3), b.3.every_span, ap (λ (t : Table). length t.names) c.self.view_is)

pub write_names-requires-clause-beyond : goal.write_names-requires-clause-beyond
write_names-requires-clause-beyond c =
    let b = c.requires.before in
    let q = c.push_of-push.result in
    omega (arith, beyond_inside b.0 b.1 c.args.finger.now b.2 q.from q.near q.far q.entry.entered q.entry.beyond q.out (c.push_of-push.ensures b.0 b.1 b.2 b.3), b.3.every_span, ap (λ (t : Table). length t.names) c.self.view_is)

pub write_names-requires-clause-near : goal.write_names-requires-clause-near
write_names-requires-clause-near c =
    let b = c.requires.before in
    let q = c.push_of-push.result in
    omega (arith, (ends_in b.0 b.1 c.args.finger.now b.2 q.from q.near q.far q.entry.entered q.entry.beyond q.out (c.push_of-push.ensures b.0 b.1 b.2 b.3)).0, b.3.every_span, ap (λ (t : Table). length t.names) c.self.view_is)

pub write_names-requires-clause-few : goal.write_names-requires-clause-few
write_names-requires-clause-few c =
    few_names _ c.self.inside.frame.ends.items c.self.invariant.0.kept

pub write_names-requires-clause-few_pieces : goal.write_names-requires-clause-few_pieces
write_names-requires-clause-few_pieces c =
    omega (arith, few_pieces _ c.self.inside.frame.ends.items c.self.invariant.0.kept, told_size c.self.inside.names.items c.self.inside.told.regions c.self.inside.counted, c.len.ensures)

pub write_frame-requires-clause-before : goal.write_frame-requires-clause-before
write_frame-requires-clause-before c =
    let i = c.self.inside in
    let b = c.requires.before in
    let told : IsTableOf b.0 (shown i.polygon i.frame.starts.items i.names.items i.frame.mates.items i.frame.begins.lists (told_by i.counted i.names.items i.told.regions) i.inner.items i.room) = subst (IsTableOf b.0) (sym c.self.view_is) b.3 in
    let push = c.push_of-push.ensures b.0 b.1 b.2 b.3 in
    let kept = c.self.invariant.0.kept in (
      b.0,
      b.1,
      b.2,
      record { starts_are = told.starts; mates_are = told.mates; begins_are = told.begins; as_many = kept.as_many; known = kept.known },
      push,
      b.4,
    )

pub mark-requires-clause-named : goal.mark-requires-clause-named
mark-requires-clause-named c =
    let i = c.self.inside in
    let b = c.requires.before in
    let f = c.args.finger.now in
    let told : IsTableOf b.0 (shown i.polygon i.frame.starts.items i.names.items i.frame.mates.items i.frame.begins.lists (told_by i.counted i.names.items i.told.regions) i.inner.items i.room) = subst (IsTableOf b.0) (sym c.self.view_is) b.3 in
    let spans : span_count c.args.drawing.now.drawing ≡ span_count b.0 + 4 = ap span_count b.4 ∙ (pushes b.0 b.1 f b.2).spans in
    omega (arith, ap (λ (xs : List ℕ). length xs) c.deref-2.ensures.value, c.write_names.ensures.size, told.every_span, spans)

pub mark-requires-clause-told : goal.mark-requires-clause-told
mark-requires-clause-told c =
    let i = c.self.inside in
    let b = c.requires.before in
    let f = c.args.finger.now in
    let q = c.push_of-push.result in
    let told : IsTableOf b.0 (shown i.polygon i.frame.starts.items i.names.items i.frame.mates.items i.frame.begins.lists (told_by i.counted i.names.items i.told.regions) i.inner.items i.room) = subst (IsTableOf b.0) (sym c.self.view_is) b.3 in
    let push = c.push_of-push.ensures b.0 b.1 b.2 b.3 in
    λ s ls. subst (λ (ns : List ℕ). get_or ns s 0 < length c.grow.new.self.regions) (sym c.deref-2.ensures.value)
    (names_told i.polygon i.frame.starts.items i.names.items i.frame.mates.items i.frame.begins.lists (told_by i.counted i.names.items i.told.regions) i.inner.items i.room
    c.write_frame.new.frame.starts.items c.write_names.new.names.items c.write_frame.new.frame.mates.items c.write_frame.new.frame.begins.lists c.grow.new.self.regions i.inner.items i.room c.write_frame.new.frame.ends.items
    q.from q.near q.far q.entry.entered q.entry.beyond q.out c.len.result (c.len.ensures ∙ sym (told_size i.names.items i.told.regions i.counted)) c.write_names.ensures.named c.write_names.ensures.size (c.grow.ensures.count ∙ ap (λ n. n + 2) (sym (told_size i.names.items i.told.regions i.counted)))
    b.0 b.1 f b.2 told push s (subst (λ (e : Drawing). s < span_count e) b.4 ls))

pub entered-entered-requires : goal.entered-entered-requires
entered-entered-requires c =
    let b = c.requires.before in
    let q = c.push_of-push.result in
    omega (arith, entered_inside b.0 b.1 c.args.finger.now b.2 q.from q.near q.far q.entry.entered q.entry.beyond q.out (c.push_of-push.ensures b.0 b.1 b.2 b.3), b.3.every_span)

pub renew_inner-requires-clause-entered : goal.renew_inner-requires-clause-entered
renew_inner-requires-clause-entered c =
    let i = c.self.inside in
    omega (arith, c.entered-entered.ensures.inside, ap (λ (t : Table). length t.regions) c.self.view_is, told_size i.names.items i.told.regions i.counted, c.mark.ensures.count, c.grow.ensures.count)

pub renew_inner-requires-clause-more : goal.renew_inner-requires-clause-more
renew_inner-requires-clause-more c =
    let i = c.self.inside in
    omega (arith, c.entered-entered.ensures.pieces, ap (λ (t : Table). length t.regions) c.self.view_is, told_size i.names.items i.told.regions i.counted, c.mark.ensures.count, c.grow.ensures.count)

pub renew_inner-requires-clause-few : goal.renew_inner-requires-clause-few
renew_inner-requires-clause-few c =
    let i = c.self.inside in
    let grown : length (told_by false c.write_names.new.names.items c.mark.new.self.regions) ≡ length (told_by i.counted i.names.items i.told.regions) + 2 = told_grown i.counted i.names.items i.told.regions c.write_names.new.names.items c.mark.new.self.regions (c.mark.ensures.count ∙ c.grow.ensures.count) in
    omega (arith, grown, told_size c.write_names.new.names.items c.mark.new.self.regions false, few_pieces _ i.frame.ends.items c.self.invariant.0.kept)

pub renew_inner-requires-clause-listed : goal.renew_inner-requires-clause-listed
renew_inner-requires-clause-listed c = λ stays.
    let i = c.self.inside in
    let b = c.requires.before in
    let f = c.args.finger.now in
    let q = c.push_of-push.result in
    let before = told_by i.counted i.names.items i.told.regions in
    let after = told_by false c.write_names.new.names.items c.mark.new.self.regions in
    let told : IsTableOf b.0 (shown i.polygon i.frame.starts.items i.names.items i.frame.mates.items i.frame.begins.lists before i.inner.items i.room) = subst (IsTableOf b.0) (sym c.self.view_is) b.3 in
    let push = c.push_of-push.ensures b.0 b.1 b.2 b.3 in
    let grown : length after ≡ length before + 2 = told_grown i.counted i.names.items i.told.regions c.write_names.new.names.items c.mark.new.self.regions (c.mark.ensures.count ∙ c.grow.ensures.count) in
    let spans : span_count c.args.drawing.now.drawing ≡ span_count b.0 + 4 = ap span_count b.4 ∙ (pushes b.0 b.1 f b.2).spans in
    let many : length c.write_names.new.names.items ≡ span_count c.args.drawing.now.drawing = omega (arith, c.write_names.ensures.size, told.every_span, spans) in
    let seen = subst (λ (e : Drawing). AreSeen e (λ s. get_or c.write_names.new.names.items s 0) after) b.4
    (seen_named c.write_names.new.names.items c.mark.new.self.regions c.args.drawing.now.drawing many
    (λ p lp. c.mark.ensures.base p lp ∙ ap (λ (ns : List ℕ). has_gap c.args.drawing.now.drawing (λ s. get_or ns s 0) p) c.deref-2.ensures.value)) in
    let entered = c.entered-entered.result in
    let pieces : entered.pieces ≡ length before = c.entered-entered.ensures.pieces ∙ sym (ap (λ (t : Table). length t.regions) c.self.view_is) in
    let same = inner_stays i.polygon i.frame.starts.items i.names.items i.frame.mates.items i.frame.begins.lists before i.inner.items i.room
    c.write_frame.new.frame.starts.items c.write_names.new.names.items c.write_frame.new.frame.mates.items c.write_frame.new.frame.begins.lists after i.inner.items i.room c.write_frame.new.frame.ends.items
    q.from q.near q.far q.entry.entered q.entry.beyond q.out c.len.result (c.len.ensures ∙ sym (told_size i.names.items i.told.regions i.counted)) c.write_names.ensures.named c.write_names.ensures.size grown
    b.0 b.1 f b.2 told push seen entered.piece entered.base
    (c.entered-entered.ensures.piece ∙ sym (ap (λ (t : Table). get_or t.names q.entry.entered 0) c.self.view_is))
    (c.entered-entered.ensures.base ∙ sym (ap (λ (t : Table). (region_in t.regions entered.piece).base) c.self.view_is))
    (told_base c.write_names.new.names.items c.mark.new.self.regions false entered.piece ∙ stays) c.self.invariant.0.inner_in_order in
    same ∙ (sym (flags_told false c.write_names.new.names.items c.mark.new.self.regions (length before)) ∙ ap (λ n. filter (λ p. not (region_in c.mark.new.self.regions p).base) (below n)) (sym pieces))

pub invariant_of-self : goal.invariant_of-self
invariant_of-self c =
    let i = c.self.inside in
    let b = c.requires.before in
    let f = c.args.finger.now in
    let q = c.push_of-push.result in
    let told : IsTableOf b.0 (shown i.polygon i.frame.starts.items i.names.items i.frame.mates.items i.frame.begins.lists (told_by i.counted i.names.items i.told.regions) i.inner.items i.room) = subst (IsTableOf b.0) (sym c.self.view_is) b.3 in
    let push = c.push_of-push.ensures b.0 b.1 b.2 b.3 in
    let n : c.sides.result ≡ sides c.args.drawing.now.drawing.polygon = c.sides.ensures.value ∙ ap sides c.polygon.ensures in
    let grown : length (told_by false c.write_names.new.names.items c.mark.new.self.regions) ≡ length (told_by i.counted i.names.items i.told.regions) + 2 = told_grown i.counted i.names.items i.told.regions c.write_names.new.names.items c.mark.new.self.regions (c.mark.ensures.count ∙ c.grow.ensures.count) in
    let spans : span_count c.args.drawing.now.drawing ≡ span_count b.0 + 4 = ap span_count b.4 ∙ (pushes b.0 b.1 f b.2).spans in
    let many : length c.write_names.new.names.items ≡ span_count c.args.drawing.now.drawing = omega (arith, c.write_names.ensures.size, told.every_span, spans) in
    let seen = subst (λ (e : Drawing). AreSeen e (λ s. get_or c.write_names.new.names.items s 0) (told_by false c.write_names.new.names.items c.mark.new.self.regions)) b.4
    (seen_named c.write_names.new.names.items c.mark.new.self.regions c.args.drawing.now.drawing many
    (λ p lp. c.mark.ensures.base p lp ∙ ap (λ (ns : List ℕ). has_gap c.args.drawing.now.drawing (λ s. get_or ns s 0) p) c.deref-2.ensures.value)) in
    let inner = c.renew_inner.ensures.inner ∙ inner_told false c.write_names.new.names.items c.mark.new.self.regions in
    let w = c.write_frame.new.frame in
    let frame : IsFrameOf (pushed b.0 f) w.starts.items w.mates.items w.begins.lists w.ends.items = subst (λ (e : Drawing). IsFrameOf e w.starts.items w.mates.items w.begins.lists w.ends.items) b.4 c.write_frame.ensures.frame in
    let after = c.grow_listing.new.listing in
    let grew = c.grow_listing.ensures in
    let has = c.self.invariant.1 in
    let before = c.self.invariant.0 in
    let mates : length w.mates.items ≡ length i.frame.mates.items + 4 = omega (arith, as_many_mates (pushed b.0 f) (pushed_embedded b.0 b.1 f b.2) w.mates.items frame.mates_are, as_many_mates b.0 b.1 i.frame.mates.items told.mates, (pushes b.0 b.1 f b.2).spans) in (
      record {
        kept = kept_is i.polygon i.frame.starts.items i.names.items i.frame.mates.items i.frame.begins.lists (told_by i.counted i.names.items i.told.regions) i.inner.items i.room
            c.write_frame.new.frame.starts.items c.write_names.new.names.items c.write_frame.new.frame.mates.items c.write_frame.new.frame.begins.lists (told_by false c.write_names.new.names.items c.mark.new.self.regions) c.renew_inner.new.inner.items (i.room - 1) c.write_frame.new.frame.ends.items
            q.from q.near q.far q.entry.entered q.entry.beyond q.out c.len.result (c.len.ensures ∙ sym (told_size i.names.items i.told.regions i.counted)) c.write_names.ensures.named c.write_names.ensures.size grown
            b.0 b.1 f b.2 told push frame seen inner
            (omega (arith, ap (λ (e : Drawing). sides e.polygon) b.4, n, c.sides.ensures.most)) (omega (arith, ap (λ (e : Drawing). length (all_exits e)) b.4, c.points.ensures.value, c.points.ensures.few));
        inner_in_order = inner;
        as_many_starts = omega (arith, grew.starts, before.as_many_starts, grown);
        as_many_listed = omega (arith, grew.spans, before.as_many_listed, c.write_names.ensures.size);
        in_order = λ e. absurd (false≢true e);
      },
      room_used i.room (i.room - 1) (length i.told.regions) (length c.mark.new.self.regions) (omega (arith, c.requires.room, ap (λ (t : Table). t.room) c.self.view_is)) (c.mark.ensures.count ∙ c.grow.ensures.count) i.names c.write_names.new.names
          i.frame.mates w.mates i.frame.ends w.ends i.frame.begins.room w.begins.room i.told.room c.mark.new.self.room i.listing.starts after.starts i.listing.next after.next i.listing.spans after.spans
          i.inner c.renew_inner.new.inner has (c.write_names.ensures.size, c.write_names.ensures.room) (mates, c.write_frame.ensures.room.0)
          (omega (arith, frame.as_many, before.kept.as_many, mates), c.write_frame.ensures.room.1) c.write_frame.ensures.rows (omega (arith, c.grow.ensures.room, c.mark.ensures.room))
          (grew.starts, grew.room.0) (grew.next, grew.room.1) (grew.spans, grew.room.2)
          (inner_short c.renew_inner.new.inner.items c.mark.new.self.regions (length c.mark.new.self.regions) c.renew_inner.ensures.inner, c.renew_inner.ensures.room),
    )

pub returns-clause-table : goal.returns-clause-table
returns-clause-table c =
    let i = c.self.inside in
    let b = c.requires.before in
    let f = c.args.finger.now in
    let q = c.push_of-push.result in
    let told : IsTableOf b.0 (shown i.polygon i.frame.starts.items i.names.items i.frame.mates.items i.frame.begins.lists (told_by i.counted i.names.items i.told.regions) i.inner.items i.room) = subst (IsTableOf b.0) (sym c.self.view_is) b.3 in
    let push = c.push_of-push.ensures b.0 b.1 b.2 b.3 in
    let grown : length (told_by false c.write_names.new.names.items c.mark.new.self.regions) ≡ length (told_by i.counted i.names.items i.told.regions) + 2 = told_grown i.counted i.names.items i.told.regions c.write_names.new.names.items c.mark.new.self.regions (c.mark.ensures.count ∙ c.grow.ensures.count) in
    let spans : span_count c.args.drawing.now.drawing ≡ span_count b.0 + 4 = ap span_count b.4 ∙ (pushes b.0 b.1 f b.2).spans in
    let many : length c.write_names.new.names.items ≡ span_count c.args.drawing.now.drawing = omega (arith, c.write_names.ensures.size, told.every_span, spans) in
    let seen = subst (λ (e : Drawing). AreSeen e (λ s. get_or c.write_names.new.names.items s 0) (told_by false c.write_names.new.names.items c.mark.new.self.regions)) b.4
    (seen_named c.write_names.new.names.items c.mark.new.self.regions c.args.drawing.now.drawing many
    (λ p lp. c.mark.ensures.base p lp ∙ ap (λ (ns : List ℕ). has_gap c.args.drawing.now.drawing (λ s. get_or ns s 0) p) c.deref-2.ensures.value)) in
    let inner = c.renew_inner.ensures.inner ∙ inner_told false c.write_names.new.names.items c.mark.new.self.regions in
    let w = c.write_frame.new.frame in
    let frame : IsFrameOf (pushed b.0 f) w.starts.items w.mates.items w.begins.lists w.ends.items = subst (λ (e : Drawing). IsFrameOf e w.starts.items w.mates.items w.begins.lists w.ends.items) b.4 c.write_frame.ensures.frame in
    subst (λ (e : Drawing). IsTableOf e (shown i.polygon c.write_frame.new.frame.starts.items c.write_names.new.names.items c.write_frame.new.frame.mates.items c.write_frame.new.frame.begins.lists (told_by false c.write_names.new.names.items c.mark.new.self.regions) c.renew_inner.new.inner.items (i.room - 1))) (sym b.4)
    (table_is i.polygon i.frame.starts.items i.names.items i.frame.mates.items i.frame.begins.lists (told_by i.counted i.names.items i.told.regions) i.inner.items i.room
    c.write_frame.new.frame.starts.items c.write_names.new.names.items c.write_frame.new.frame.mates.items c.write_frame.new.frame.begins.lists (told_by false c.write_names.new.names.items c.mark.new.self.regions) c.renew_inner.new.inner.items (i.room - 1) c.write_frame.new.frame.ends.items
    q.from q.near q.far q.entry.entered q.entry.beyond q.out c.len.result (c.len.ensures ∙ sym (told_size i.names.items i.told.regions i.counted)) c.write_names.ensures.named c.write_names.ensures.size grown
    b.0 b.1 f b.2 told push frame seen inner)

pub returns-clause-kept : goal.returns-clause-kept
returns-clause-kept c =
    let i = c.self.inside in
    let f = c.args.finger.now in
    let q = c.push_of-push.result in
    let grown : length (told_by false c.write_names.new.names.items c.mark.new.self.regions) ≡ length (told_by i.counted i.names.items i.told.regions) + 2 = told_grown i.counted i.names.items i.told.regions c.write_names.new.names.items c.mark.new.self.regions (c.mark.ensures.count ∙ c.grow.ensures.count) in
    λ d ok l had is.
    let told : IsTableOf d (shown i.polygon i.frame.starts.items i.names.items i.frame.mates.items i.frame.begins.lists (told_by i.counted i.names.items i.told.regions) i.inner.items i.room) = subst (IsTableOf d) (sym c.self.view_is) had in
    subst (λ (t : Table). KeepsNames d f t (shown i.polygon c.write_frame.new.frame.starts.items c.write_names.new.names.items c.write_frame.new.frame.mates.items c.write_frame.new.frame.begins.lists (told_by false c.write_names.new.names.items c.mark.new.self.regions) c.renew_inner.new.inner.items (i.room - 1))) c.self.view_is
    (names_kept i.polygon i.frame.starts.items i.names.items i.frame.mates.items i.frame.begins.lists (told_by i.counted i.names.items i.told.regions) i.inner.items i.room
    c.write_frame.new.frame.starts.items c.write_names.new.names.items c.write_frame.new.frame.mates.items c.write_frame.new.frame.begins.lists (told_by false c.write_names.new.names.items c.mark.new.self.regions) c.renew_inner.new.inner.items (i.room - 1) c.write_frame.new.frame.ends.items
    q.from q.near q.far q.entry.entered q.entry.beyond q.out c.len.result (c.len.ensures ∙ sym (told_size i.names.items i.told.regions i.counted)) c.write_names.ensures.named c.write_names.ensures.size grown
    d ok f l told (c.push_of-push.ensures d ok l had))

pub returns-clause-changed : goal.returns-clause-changed
returns-clause-changed c =
    let i = c.self.inside in
    let f = c.args.finger.now in
    let q = c.push_of-push.result in
    let grown : length (told_by false c.write_names.new.names.items c.mark.new.self.regions) ≡ length (told_by i.counted i.names.items i.told.regions) + 2 = told_grown i.counted i.names.items i.told.regions c.write_names.new.names.items c.mark.new.self.regions (c.mark.ensures.count ∙ c.grow.ensures.count) in
    λ d ok l had is.
    let told : IsTableOf d (shown i.polygon i.frame.starts.items i.names.items i.frame.mates.items i.frame.begins.lists (told_by i.counted i.names.items i.told.regions) i.inner.items i.room) = subst (IsTableOf d) (sym c.self.view_is) had in
    let (ps, are, many) = pieces_changed i.polygon i.frame.starts.items i.names.items i.frame.mates.items i.frame.begins.lists (told_by i.counted i.names.items i.told.regions) i.inner.items i.room
    c.write_frame.new.frame.starts.items c.write_names.new.names.items c.write_frame.new.frame.mates.items c.write_frame.new.frame.begins.lists (told_by false c.write_names.new.names.items c.mark.new.self.regions) c.renew_inner.new.inner.items (i.room - 1) c.write_frame.new.frame.ends.items
    q.from q.near q.far q.entry.entered q.entry.beyond q.out c.len.result (c.len.ensures ∙ sym (told_size i.names.items i.told.regions i.counted)) c.write_names.ensures.named c.write_names.ensures.size grown
    d ok f l told (c.push_of-push.ensures d ok l had) in
    let told_same : eqb (get_or i.names.items q.entry.beyond 0) (get_or i.names.items q.near 0) ≡ eqb c.name-past.result c.name-behind.result =
    ap₂ eqb (ap (λ (t : Table). get_or t.names q.entry.beyond 0) c.self.view_is ∙ sym c.name-past.ensures.value) (ap (λ (t : Table). get_or t.names q.near 0) c.self.view_is ∙ sym c.name-behind.ensures.value) in
    let same : cond (eqb (get_or i.names.items q.entry.beyond 0) (get_or i.names.items q.near 0)) 4 5 ≡ c.if-eq.result = elim c.if-eq.branch [
      | then-eq w ↦ ap (λ x. cond x 4 5) (told_same ∙ sym w.if-eq.ensures) ∙ sym w.result-is
      | else-eq w ↦ ap (λ x. cond x 4 5) (told_same ∙ sym w.if-eq.ensures) ∙ sym w.result-is
    ] in (ps, are, many ∙ same)
