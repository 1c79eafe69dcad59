use Rattle.std.proofs.Common.{◌≡◌, ℕ, Vec, Global, length, refl, ap, ap₂, arith}
use Rattle.region_table.specs.Asked.{told_by}
use Rattle.region_table.proofs.RoomTables.{kept_same, room_for, room_same}
use Rattle.region_table.proofs.regions.Regions.reserve.Goals as goal

pub invariant_of-self-then-self-fingers : goal.invariant_of-self-then-self-fingers
invariant_of-self-then-self-fingers c =
    let i = c.self.inside in
    let frame = c.reserve_frame.new.frame in
    let listing = c.reserve_listing.new.listing in
    let framed = c.in_ok-reserve_frame.ensures in
    let listed = c.in_ok-reserve_listing.ensures in
    let inner = c.in_ok-try_reserve-2.ensures in
    let has = c.self.invariant.1 in
    let pieces : length c.reserve.new.self.regions ≡ length i.told.regions = ap length c.in_ok-reserve.ensures.regions in (
      kept_same i.polygon i.frame.starts.items i.names.items i.frame.mates.items i.frame.begins.lists (told_by i.counted i.names.items i.told.regions) i.inner.items i.room i.frame.ends.items i.counted i.listing.starts.items i.listing.spans.items
          frame.starts.items c.try_reserve.new.self.items frame.mates.items frame.begins.lists (told_by i.counted c.try_reserve.new.self.items c.reserve.new.self.regions) c.try_reserve-2.new.self.items c.args.fingers frame.ends.items listing.starts.items listing.spans.items
          (ap (λ (v : Vec ℕ Global). v.items) framed.starts) c.in_ok-try_reserve.ensures.items framed.mates.items framed.begins (ap₂ (told_by i.counted) c.in_ok-try_reserve.ensures.items c.in_ok-reserve.ensures.regions) inner.items framed.ends.items listed.starts.items
          listed.spans.items c.self.invariant.0,
      room_same c.args.fingers (length i.told.regions) (length c.reserve.new.self.regions) c.try_reserve.new.self frame.mates frame.ends frame.begins.room c.reserve.new.self.room c.reserve.new.self.room
          listing.starts listing.next listing.spans c.try_reserve-2.new.self pieces refl
          (room_for i.room (length i.told.regions) i.names c.try_reserve.new.self i.frame.mates frame.mates i.frame.ends frame.ends i.frame.begins.room frame.begins.room i.told.room c.reserve.new.self.room
          i.listing.starts listing.starts i.listing.next listing.next i.listing.spans listing.spans i.inner c.try_reserve-2.new.self has
          (record { items = c.in_ok-try_reserve.ensures.items; capacity = c.in_ok-try_reserve.ensures.capacity }) framed.mates framed.ends framed.rows c.in_ok-reserve.ensures.more
          listed.starts listed.next listed.spans (record { items = inner.items; capacity = inner.capacity }) c.args.fingers
          (omega (arith, c.in_ok-try_reserve.ensures.ok)) framed.ok.0 framed.ok.1 framed.ok.2 c.in_ok-reserve.ensures.ok listed.ok.0 listed.ok.1 listed.ok.2
          (omega (arith, inner.ok, inner.len, c.len.ensures, c.len-2.ensures, has.few_inner, pieces))),
    )
