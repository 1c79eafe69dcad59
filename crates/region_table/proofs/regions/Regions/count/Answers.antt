use Rattle.std.proofs.Common.{◌≡◌, ℕ, ◌<◌, true, not, List, filter, length, get_or, refl, sym, ◌∙◌, ap, subst, arith}
use Rattle.obd_base.specs.Lists.{below}
use Rattle.region_table.specs.Ends.{IsKept, shown}
use Rattle.region_table.specs.Table.{Region, region_in}
use Rattle.region_table.specs.Told.{AreSized}
use Rattle.region_table.proofs.AskedTables.{counted_now, told_size}
use Rattle.region_table.proofs.KeptReads.{few_names}
use Rattle.region_table.proofs.ListedSteps.{listed_same}
use Rattle.region_table.proofs.RoomTables.{names_inside, names_met}
use Rattle.region_table.proofs.regions.Regions.count.Goals as goal

pub count-requires-clause-few : goal.count-requires-clause-few
count-requires-clause-few c = omega (arith, few_names _ c.self.inside.frame.ends.items c.self.invariant.0.kept, ap (λ (xs : List ℕ). length xs) c.deref.ensures.value)

pub count-requires-clause-told : goal.count-requires-clause-told
count-requires-clause-told c =
    let i = c.self.inside in
    subst (λ (ns : List ℕ). (s : ℕ) → s < length ns → get_or ns s 0 < length i.told.regions) (sym c.deref.ensures.value)
    (names_inside i.counted i.names.items i.told.regions _ i.frame.ends.items c.self.invariant.0.kept refl)

pub list_anew-requires-clause-few : goal.list_anew-requires-clause-few
list_anew-requires-clause-few c =
    omega (arith, few_names _ c.self.inside.frame.ends.items c.self.invariant.0.kept, ap (λ (xs : List ℕ). length xs) c.deref-then-not-self.ensures.value)

pub list_anew-requires-clause-told : goal.list_anew-requires-clause-told
list_anew-requires-clause-told c = λ s l.
    let i = c.self.inside in
    let inside = subst (λ (ns : List ℕ). (s : ℕ) → s < length ns → get_or ns s 0 < length i.told.regions) (sym c.deref-then-not-self.ensures.value)
    (names_inside i.counted i.names.items i.told.regions _ i.frame.ends.items c.self.invariant.0.kept refl) in
    omega (arith, inside s l, c.count.ensures.counted.count)

pub list_anew-requires-clause-as_many : goal.list_anew-requires-clause-as_many
list_anew-requires-clause-as_many c =
    let i = c.self.inside in
    omega (arith, c.self.invariant.0.as_many_starts, told_size i.names.items i.told.regions i.counted, c.count.ensures.counted.count)

pub invariant_of-self : goal.invariant_of-self
invariant_of-self c =
    let i = c.self.inside in
    let now = c.count.new.self.regions in
    let before = c.self.invariant.0 in
    let has = c.self.invariant.1 in
    let listed = c.list_anew.ensures in
    let after = c.list_anew.new.listing in
    let sized = subst (λ (ns : List ℕ). AreSized (λ s. get_or ns s 0) (length ns) i.told.regions now) c.deref.ensures.value c.count.ensures.counted in
    let is = counted_now i.counted i.names.items i.told.regions now c.if-not-self.true sized (names_met i.counted i.names.items i.told.regions _ i.frame.ends.items before.kept refl) in
    let many : length now ≡ length i.told.regions = c.count.ensures.counted.count in
    let was = told_size i.names.items i.told.regions i.counted in (
      record {
        kept = subst (λ (rs : List Region). IsKept (shown i.polygon i.frame.starts.items i.names.items i.frame.mates.items i.frame.begins.lists rs i.inner.items i.room) i.frame.ends.items) is before.kept;
        inner_in_order = subst (λ (rs : List Region). i.inner.items ≡ filter (λ p. not (region_in rs p).base) (below (length rs))) is before.inner_in_order;
        as_many_starts = omega (arith, listed.as_many, told_size i.names.items now true);
        as_many_listed = omega (arith, listed.in_order.as_many, ap (λ (xs : List ℕ). length xs) c.deref-then-not-self.ensures.value);
        in_order = λ e. listed_same i.names.items c.deref-then-not-self.result.now after.starts.items after.starts.items after.spans.items c.deref-then-not-self.ensures.value refl listed.in_order;
      },
      record {
        names_room = has.names_room;
        mates_room = has.mates_room;
        ends_room = has.ends_room;
        rows_room = has.rows_room;
        told_room = omega (arith, has.told_room, c.count.ensures.room);
        starts_room = omega (arith, has.starts_room, listed.as_many, before.as_many_starts, was, many, listed.room.0, i.listing.starts.ok, after.starts.ok);
        next_room = omega (arith, has.next_room, listed.as_many_next, has.as_many_next, many, listed.room.1, i.listing.next.ok, after.next.ok);
        spans_room = omega (arith, has.spans_room, listed.in_order.as_many, ap (λ (xs : List ℕ). length xs) c.deref-then-not-self.ensures.value, before.as_many_listed, listed.room.2, i.listing.spans.ok, after.spans.ok);
        as_many_next = listed.as_many_next;
        few_inner = omega (arith, has.few_inner, many);
        inner_room = omega (arith, has.inner_room, many);
      },
    )

pub returns-then-not-self : goal.returns-then-not-self
returns-then-not-self c =
    let i = c.self.inside in
    let now = c.count.new.self.regions in
    let before = c.self.invariant.0 in
    let sized = subst (λ (ns : List ℕ). AreSized (λ s. get_or ns s 0) (length ns) i.told.regions now) c.deref.ensures.value c.count.ensures.counted in
    let is = counted_now i.counted i.names.items i.told.regions now c.if-not-self.true sized (names_met i.counted i.names.items i.told.regions _ i.frame.ends.items before.kept refl) in
    ap (λ (rs : List Region). shown i.polygon i.frame.starts.items i.names.items i.frame.mates.items i.frame.begins.lists rs i.inner.items i.room) (sym is) ∙ c.self.view_is
