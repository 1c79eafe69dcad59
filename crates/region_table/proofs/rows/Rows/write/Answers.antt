use Rattle.std.proofs.Common.{◌≡◌, ℕ, suc, ◌+◌, ◌*◌, ◌-◌, ◌<◌, ◌≤◌, [], List, Vec, Global, length, map, get_or, refl, sym, ◌∙◌, ap, subst, arith}
use Rattle.std.proofs.lemmas.List.{get_or-map, length-map}
use Rattle.std.specs.Prelude.{vec_capacity, vec_len}
use Rattle.region_table.specs.FingerLists.{put_two, shifted}
use Rattle.region_table.specs.Rows.{HaveRoom, Rows}
use Rattle.region_table.proofs.RowTables.{fewer_rooms, lists_put, room_set, row_shifted}
use Rattle.region_table.proofs.ToldTables.{written}
use Rattle.region_table.proofs.fingers.Entries.{put_length}
use Rattle.region_table.proofs.rows.Rows.write.Goals as goal

pub put_two-requires-clause-place : goal.put_two-requires-clause-place
put_two-requires-clause-place c =
    let f = map (shifted c.args.entry.entered c.args.entry.beyond) in
    let lists = c.args.self.now.lists in
    let rows = c.shift_rows.new.rows in
    let long : c.self.inside.rows.len ≡ length rows
    = omega (
      arith,
      ap length c.shift_rows.ensures.lists,
      length-map rows (λ (row : Vec ℕ Global). row.items),
      length-map (map (λ (row : Vec ℕ Global). row.items) c.deref_mut.result.now) f,
      length-map c.deref_mut.result.now (λ (row : Vec ℕ Global). row.items),
      c.deref_mut.ensures.len,
    ) in
    let whole = written rows _ _ c.self.inside.rows.len long refl in
    let are = c.shift_rows.ensures.lists ∙ (ap (λ (rs : List (Vec ℕ Global)). map f (map (λ (row : Vec ℕ Global). row.items) rs)) c.deref_mut.ensures.value ∙ ap (λ (r : Rows). map f r.lists) c.self.view_is) in
    let row = row_shifted f _ rows lists c.args.strand c.index_mut.result.now whole are c.requires.strand c.index_mut.ensures.value in
    omega (arith, ap length row, length-map (get_or lists c.args.strand []) (shifted c.args.entry.entered c.args.entry.beyond), c.requires.chord)

pub put_two-requires-clause-room : goal.put_two-requires-clause-room
put_two-requires-clause-room c =
    let f = map (shifted c.args.entry.entered c.args.entry.beyond) in
    let lists = c.args.self.now.lists in
    let rows = c.shift_rows.new.rows in
    let long : c.self.inside.rows.len ≡ length rows
    = omega (
      arith,
      ap length c.shift_rows.ensures.lists,
      length-map rows (λ (row : Vec ℕ Global). row.items),
      length-map (map (λ (row : Vec ℕ Global). row.items) c.deref_mut.result.now) f,
      length-map c.deref_mut.result.now (λ (row : Vec ℕ Global). row.items),
      c.deref_mut.ensures.len,
    ) in
    let whole = written rows _ _ c.self.inside.rows.len long refl in
    let was = c.shift_rows.ensures.room c.self.inside.room (subst (λ (rs : List (Vec ℕ Global)). HaveRoom rs c.self.inside.room) (sym c.deref_mut.ensures.value) c.self.invariant) in
    let inside : c.args.strand < length rows = omega (arith, c.requires.strand, ap (λ (r : Rows). length r.lists) c.self.view_is, length-map c.self.inside.rows.items (λ (row : Vec ℕ Global). row.items), long, c.self.inside.rows.ok) in
    let read = c.index_mut.ensures.value ∙ ap (λ (rs : List (Vec ℕ Global)). get_or rs c.args.strand c.index_mut.result.now) whole in
    let here = subst (λ (v : Vec ℕ Global). vec_len v + 2 * c.self.inside.room ≤ vec_capacity v) (sym read) (was c.args.strand c.index_mut.result.now inside) in
    omega (arith, here, c.requires.room, ap (λ (r : Rows). r.room) c.self.view_is)

pub invariant_of-self : goal.invariant_of-self
invariant_of-self c =
    let f = map (shifted c.args.entry.entered c.args.entry.beyond) in
    let lists = c.args.self.now.lists in
    let rows = c.shift_rows.new.rows in
    let long : c.self.inside.rows.len ≡ length rows
    = omega (
      arith,
      ap length c.shift_rows.ensures.lists,
      length-map rows (λ (row : Vec ℕ Global). row.items),
      length-map (map (λ (row : Vec ℕ Global). row.items) c.deref_mut.result.now) f,
      length-map c.deref_mut.result.now (λ (row : Vec ℕ Global). row.items),
      c.deref_mut.ensures.len,
    ) in
    let whole = written rows _ _ c.self.inside.rows.len long refl in
    let are = c.shift_rows.ensures.lists ∙ (ap (λ (rs : List (Vec ℕ Global)). map f (map (λ (row : Vec ℕ Global). row.items) rs)) c.deref_mut.ensures.value ∙ ap (λ (r : Rows). map f r.lists) c.self.view_is) in
    let row = row_shifted f _ rows lists c.args.strand c.index_mut.result.now whole are c.requires.strand c.index_mut.ensures.value in
    let was = c.shift_rows.ensures.room c.self.inside.room (subst (λ (rs : List (Vec ℕ Global)). HaveRoom rs c.self.inside.room) (sym c.deref_mut.ensures.value) c.self.invariant) in
    let inside : c.args.strand < length rows = omega (arith, c.requires.strand, ap (λ (r : Rows). length r.lists) c.self.view_is, length-map c.self.inside.rows.items (λ (row : Vec ℕ Global). row.items), long, c.self.inside.rows.ok) in
    let read = c.index_mut.ensures.value ∙ ap (λ (rs : List (Vec ℕ Global)). get_or rs c.args.strand c.index_mut.result.now) whole in
    let here = subst (λ (v : Vec ℕ Global). vec_len v + 2 * c.self.inside.room ≤ vec_capacity v) (sym read) (was c.args.strand c.index_mut.result.now inside) in
    let fits : c.args.chord + 1 ≤ length c.index_mut.result.now.items = omega (arith, ap length row, length-map (get_or lists c.args.strand []) (shifted c.args.entry.entered c.args.entry.beyond), c.requires.chord) in
    let grown = ap length c.put_two.ensures.put ∙ put_length (c.args.chord + 1) c.args.first c.args.second c.index_mut.result.now.items fits in
    let left = subst (λ (rs : List (Vec ℕ Global)). HaveRoom rs (c.self.inside.room - 1)) (sym whole) (fewer_rooms rows c.self.inside.room (c.self.inside.room - 1) (omega arith) was) in
    room_set _ c.args.strand (c.self.inside.room - 1) c.put_two.new.entries left
    (λ l. omega (arith, here, grown, c.put_two.ensures.room, c.put_two.new.entries.ok, c.index_mut.result.now.ok, c.requires.room, ap (λ (r : Rows). r.room) c.self.view_is))

pub returns-clause-lists : goal.returns-clause-lists
returns-clause-lists c =
    let f = map (shifted c.args.entry.entered c.args.entry.beyond) in
    let lists = c.args.self.now.lists in
    let rows = c.shift_rows.new.rows in
    let long : c.self.inside.rows.len ≡ length rows
    = omega (
      arith,
      ap length c.shift_rows.ensures.lists,
      length-map rows (λ (row : Vec ℕ Global). row.items),
      length-map (map (λ (row : Vec ℕ Global). row.items) c.deref_mut.result.now) f,
      length-map c.deref_mut.result.now (λ (row : Vec ℕ Global). row.items),
      c.deref_mut.ensures.len,
    ) in
    let whole = written rows _ _ c.self.inside.rows.len long refl in
    let are = c.shift_rows.ensures.lists ∙ (ap (λ (rs : List (Vec ℕ Global)). map f (map (λ (row : Vec ℕ Global). row.items) rs)) c.deref_mut.ensures.value ∙ ap (λ (r : Rows). map f r.lists) c.self.view_is) in
    let row = row_shifted f _ rows lists c.args.strand c.index_mut.result.now whole are c.requires.strand c.index_mut.ensures.value in
    let place : c.args.chord + 1 ≡ suc c.args.chord = omega arith in
    lists_put _ rows (map f lists) c.args.strand c.put_two.new.entries _ whole are
    (c.put_two.ensures.put
    ∙ (ap (λ n. put_two n c.args.first c.args.second c.index_mut.result.now.items) place
    ∙ ap (put_two (suc c.args.chord) c.args.first c.args.second) (row ∙ sym (get_or-map f lists c.args.strand [] [] c.requires.strand))))
