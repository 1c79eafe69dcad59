-- Tables that differ in their distances or their room.
use Rattle.std.proofs.Common.{◌≡◌, ℕ, suc, ◌+◌, ◌*◌, ◌<◌, ◌≤◌, ◌^◌, Bool, eqb, not, List, filter, Vec, Global, length, get_or, refl, sym, ◌∙◌, ap, subst, arith}
use Rattle.std.specs.Prelude.{vec_capacity, vec_len}
use Rattle.obd_base.specs.Lists.{below}
use Rattle.page_surface.specs.Drawing.{Drawing, IsEmbedded}
use Rattle.page_surface.specs.Polygon.{Polygon}
use Rattle.drawing.specs.Pieces.{distance, span_count}
use Rattle.region_table.specs.Ends.{ChordNo, IsKept, shown}
use Rattle.region_table.specs.Listed.{IsKeptListed}
use Rattle.region_table.specs.Room.{HasPlaces, HasRoom, KeepsCapacity, TookRoom}
use Rattle.region_table.specs.Table.{DifferInDistance, IsTableOf, Region, Table, name_at, region_in}
use Rattle.region_table.specs.Told.{HasNames}
use Rattle.std.proofs.lemmas.Bool.{eq-eqb}
use Rattle.obd_base.proofs.lists.Counts.{passing_counted}
use Rattle.region_table.specs.Asked.{told_by}
use Rattle.region_table.specs.Counted.{size_so_far}
use Rattle.region_table.proofs.AskedTables.{told_base, told_distance, told_size}
use Rattle.region_table.proofs.ListedSteps.{filter_alike}
use Rattle.region_table.proofs.TableLaws.{name_count}
use Rattle.drawing.proofs.Diagram.{chord_count}

-- a table has the names of its drawing
pub has_names : (d : Drawing) → IsEmbedded d → (t : Table) → IsTableOf d t → length t.names < 2 ^ 30 → HasNames d t.names t.mates t.regions
has_names d ok t told few = record {
  embedded = ok;
  mates_are = told.mates;
  few = omega (arith, told.every_span, few);
  named = told.every_span;
  naming = told.naming;
  told = told.told;
  high = omega (arith, chord_count d ok.strand_count, name_count d t told ok);
  base = told.base;
}

-- a kept table has few pieces
pub few_pieces : (t : Table) (ends : List ChordNo) → IsKept t ends → length t.regions < 2 ^ 29
few_pieces t ends kept = omega (arith, name_count kept.drawing t kept.table kept.embedded, kept.few_sides, kept.few)

module _ (polygon : Polygon) (starts names mates : List ℕ) (begins : List (List ℕ)) (before after : List Region) (inner : List ℕ) (room now : ℕ) (differ : DifferInDistance before after) where
  -- with other distances it is the table of the same drawings
  pub table_differs : (d : Drawing) → IsTableOf d (shown polygon starts names mates begins before inner room) → IsTableOf d (shown polygon starts names mates begins after inner now)
  table_differs d told = record {
    polygon = told.polygon;
    starts = told.starts;
    mates = told.mates;
    begins = told.begins;
    every_span = told.every_span;
    naming = told.naming;
    told = λ s l. omega (arith, told.told s l, differ.count);
    used = λ p l. told.used p (omega (arith, l, differ.count));
    base = λ s l. differ.base (get_or names s 0) ∙ told.base s l;
    first = λ s l h. differ.first (get_or names s 0) ∙ told.first s l h;
    size = λ s l h. differ.size (get_or names s 0) ∙ told.size s l h;
    inner_once = told.inner_once;
    inner_listed = λ p l b. told.inner_listed p (omega (arith, l, differ.count)) (sym (differ.base p) ∙ b);
    listed_inner = λ p m. let (l, b) = told.listed_inner p m in (omega (arith, l, differ.count), differ.base p ∙ b);
  }

  -- and can be kept
  pub listed_differs : (ends : List ChordNo) (counted : Bool) (began listed : List ℕ) → IsKeptListed (shown polygon starts names mates begins before inner room) ends counted began listed
      → IsKeptListed (shown polygon starts names mates begins after inner now) ends counted began listed
  listed_differs ends counted began listed all =
      let kept = all.kept in
      record {
        kept = record {
          drawing = kept.drawing;
          embedded = kept.embedded;
          few_sides = kept.few_sides;
          few = kept.few;
          table = table_differs kept.drawing kept.table;
          as_many = kept.as_many;
          known = kept.known;
        };
        inner_in_order =
            all.inner_in_order
            ∙ (filter_alike (λ p. not (region_in before p).base) (λ p. not (region_in after p).base) (below (length before)) (λ p m. ap not (sym (differ.base p)))
            ∙ ap (λ n. filter (λ p. not (region_in after p).base) (below n)) (sym differ.count));
        as_many_starts = omega (arith, all.as_many_starts, differ.count);
        as_many_listed = all.as_many_listed;
        in_order = all.in_order;
      }

-- pieces differ not at all from themselves
pub differ_not : (regions : List Region) → DifferInDistance regions regions
differ_not regions = record { count = refl; base = λ p. refl; first = λ p. refl; size = λ p. refl }

-- a list that took room has the places that it had
pub still_places : {X : Type 0} (step room : ℕ) (before after : Vec X Global) → TookRoom before after → HasPlaces step room before → HasPlaces step room after
still_places step room before after took has = omega (arith, has, took.capacity, ap length took.items, before.ok, after.ok)

-- nothing taken
pub took_none : {X : Type 0} (list : Vec X Global) → TookRoom list list
took_none list = record { items = refl; capacity = omega arith }

module _ (room pieces : ℕ) (names names_now mates mates_now : Vec ℕ Global) (ends ends_now : Vec ChordNo Global) (rows rows_now told told_now : ℕ)
    (starts starts_now next next_now spans spans_now inner inner_now : Vec ℕ Global) (has : HasRoom room pieces names mates ends rows told starts next spans inner)
    (names_took : TookRoom names names_now) (mates_took : TookRoom mates mates_now) (ends_took : TookRoom ends ends_now) (rows_took : rows ≤ rows_now) (told_took : told ≤ told_now)
    (starts_took : TookRoom starts starts_now) (next_took : TookRoom next next_now) (spans_took : TookRoom spans spans_now) (inner_took : TookRoom inner inner_now) where
  inner_size : vec_len inner_now ≡ vec_len inner
  inner_size = omega (arith, ap length inner_took.items, inner.ok, inner_now.ok)

  next_size : length next_now.items ≡ pieces
  next_size = ap length next_took.items ∙ has.as_many_next

  -- lists that took room have the room that they had,
  pub room_still : HasRoom room pieces names_now mates_now ends_now rows_now told_now starts_now next_now spans_now inner_now
  room_still = record {
    names_room = still_places 4 room names names_now names_took has.names_room;
    mates_room = still_places 4 room mates mates_now mates_took has.mates_room;
    ends_room = still_places 4 room ends ends_now ends_took has.ends_room;
    rows_room = omega (arith, has.rows_room, rows_took);
    told_room = omega (arith, has.told_room, told_took);
    starts_room = still_places 2 room starts starts_now starts_took has.starts_room;
    next_room = still_places 2 room next next_now next_took has.next_room;
    spans_room = still_places 4 room spans spans_now spans_took has.spans_room;
    as_many_next = next_size;
    few_inner = omega (arith, inner_size, has.few_inner);
    inner_room = omega (arith, has.inner_room, inner_took.capacity);
  }

  -- and that for some fingers where each has it
  pub room_for : (fingers : ℕ) → HasPlaces 4 fingers names_now → HasPlaces 4 fingers mates_now → HasPlaces 4 fingers ends_now → fingers ≤ rows_now → fingers ≤ told_now
      → HasPlaces 2 fingers starts_now → HasPlaces 2 fingers next_now → HasPlaces 4 fingers spans_now → pieces + 2 * fingers ≤ vec_capacity inner_now
      → HasRoom fingers pieces names_now mates_now ends_now rows_now told_now starts_now next_now spans_now inner_now
  room_for fingers a b c d e f g h i = record {
    names_room = a;
    mates_room = b;
    ends_room = c;
    rows_room = d;
    told_room = e;
    starts_room = f;
    next_room = g;
    spans_room = h;
    as_many_next = next_size;
    few_inner = omega (arith, inner_size, has.few_inner);
    inner_room = i;
  }

-- lists that grew by the places of a finger have room for one finger less
pub room_used : (room now pieces more : ℕ) → suc now ≡ room → more ≡ pieces + 2 → (names names_now mates mates_now : Vec ℕ Global) (ends ends_now : Vec ChordNo Global)
    (rows rows_now told told_now : ℕ) (starts starts_now next next_now spans spans_now inner inner_now : Vec ℕ Global) → HasRoom room pieces names mates ends rows told starts next spans inner
    → (length names_now.items ≡ length names.items + 4) × KeepsCapacity names names_now → (length mates_now.items ≡ length mates.items + 4) × KeepsCapacity mates mates_now
    → (length ends_now.items ≡ length ends.items + 4) × KeepsCapacity ends ends_now → suc rows_now ≡ rows → suc told_now ≡ told
    → (length starts_now.items ≡ length starts.items + 2) × KeepsCapacity starts starts_now → (length next_now.items ≡ length next.items + 2) × KeepsCapacity next next_now
    → (length spans_now.items ≡ length spans.items + 4) × KeepsCapacity spans spans_now → (length inner_now.items ≤ more) × KeepsCapacity inner inner_now
    → HasRoom now more names_now mates_now ends_now rows_now told_now starts_now next_now spans_now inner_now
room_used room now pieces more used grown names names_now mates mates_now ends ends_now rows rows_now told told_now starts starts_now next next_now spans spans_now inner inner_now has n m e r t s x p i = record {
  names_room = omega (arith, has.names_room, used, n.0, n.1, names.ok, names_now.ok);
  mates_room = omega (arith, has.mates_room, used, m.0, m.1, mates.ok, mates_now.ok);
  ends_room = omega (arith, has.ends_room, used, e.0, e.1, ends.ok, ends_now.ok);
  rows_room = omega (arith, has.rows_room, used, r);
  told_room = omega (arith, has.told_room, used, t);
  starts_room = omega (arith, has.starts_room, used, s.0, s.1, starts.ok, starts_now.ok);
  next_room = omega (arith, has.next_room, used, x.0, x.1, next.ok, next_now.ok);
  spans_room = omega (arith, has.spans_room, used, p.0, p.1, spans.ok, spans_now.ok);
  as_many_next = omega (arith, has.as_many_next, x.0, grown);
  few_inner = omega (arith, i.0, inner_now.ok);
  inner_room = omega (arith, has.inner_room, used, grown, i.1);
}

-- as many pieces and the same room for what is told of them
pub room_same : (room pieces pieces_now : ℕ) (names mates : Vec ℕ Global) (ends : Vec ChordNo Global) (rows told told_now : ℕ) (starts next spans inner : Vec ℕ Global) → pieces_now ≡ pieces → told_now ≡ told
    → HasRoom room pieces names mates ends rows told starts next spans inner → HasRoom room pieces_now names mates ends rows told_now starts next spans inner
room_same room pieces pieces_now names mates ends rows told told_now starts next spans inner e f has =
    subst (λ n. HasRoom room n names mates ends rows told_now starts next spans inner) (sym e) (subst (λ n. HasRoom room pieces names mates ends rows n starts next spans inner) (sym f) has)

module _ (counted : Bool) (kept : List ℕ) (regions : List Region) (d : Drawing) (ok : IsEmbedded d) (t : Table) (told : IsTableOf d t) (is : t.regions ≡ told_by counted kept regions)
    (few : length t.names < 2 ^ 30) where
  -- pieces as they are kept have the names of the drawing
  pub has_names_by : HasNames d t.names t.mates regions
  has_names_by =
      let given = has_names d ok t told few in
      let many = told_size kept regions counted in
      record {
        embedded = ok;
        mates_are = given.mates_are;
        few = given.few;
        named = given.named;
        naming = given.naming;
        told = λ s l. omega (arith, given.told s l, ap length is, many);
        high = omega (arith, given.high, ap length is, many);
        base = λ s l. sym (told_base kept regions counted (get_or t.names s 0)) ∙ (ap (λ (rs : List Region). (region_in rs (get_or t.names s 0)).base) (sym is) ∙ given.base s l);
      }

  -- and distances measured by them are told
  pub measured_by : (names mates : List ℕ) (after : List Region) → names ≡ t.names → mates ≡ t.mates
      → ((e : Drawing) → HasNames e names mates regions → (s : ℕ) → s < span_count e → (region_in after (get_or names s 0)).distance ≡ distance e s)
      → (s : ℕ) → s < span_count d → (region_in (told_by counted kept after) (get_or t.names s 0)).distance ≡ distance d s
  measured_by names mates after e f measured s l =
      told_distance kept after counted (get_or t.names s 0)
      ∙ subst (λ (ns : List ℕ). (region_in after (get_or ns s 0)).distance ≡ distance d s) e
      (measured d (subst (λ (ns : List ℕ). HasNames d ns mates regions) (sym e) (subst (λ (ms : List ℕ). HasNames d t.names ms regions) (sym f) has_names_by)) s l)

module _ (counted : Bool) (kept : List ℕ) (regions : List Region) (t : Table) (ends : List ChordNo) (is_kept : IsKept t ends) (is : t.regions ≡ told_by counted kept regions) where
  -- each span has the name of a piece that is kept
  pub names_inside : (s : ℕ) → s < length t.names → get_or t.names s 0 < length regions
  names_inside s l = omega (arith, is_kept.table.told s (omega (arith, l, is_kept.table.every_span)), ap length is, told_size kept regions counted)

  -- and each of these has a span
  pub names_met : (p : ℕ) → p < length regions → 0 < size_so_far (name_at t) (length t.names) p
  names_met p l =
      let (s, ls, e) = is_kept.table.used p (omega (arith, l, ap length is, told_size kept regions counted)) in
      passing_counted (λ s. eqb (name_at t s) p) 0 (length t.names) s (omega arith) (omega (arith, ls, is_kept.table.every_span)) (eq-eqb (name_at t s) p e)

-- a kept table in lists that took room
pub kept_same : (polygon : Polygon) (starts names mates : List ℕ) (begins : List (List ℕ)) (regions : List Region) (inner : List ℕ) (room : ℕ) (ends : List ChordNo) (counted : Bool) (began listed : List ℕ)
    (starts_now names_now mates_now : List ℕ) (begins_now : List (List ℕ)) (regions_now : List Region) (inner_now : List ℕ) (now : ℕ) (ends_now : List ChordNo) (began_now listed_now : List ℕ)
    → starts_now ≡ starts → names_now ≡ names → mates_now ≡ mates → begins_now ≡ begins → regions_now ≡ regions → inner_now ≡ inner → ends_now ≡ ends → began_now ≡ began → listed_now ≡ listed
    → IsKeptListed (shown polygon starts names mates begins regions inner room) ends counted began listed
    → IsKeptListed (shown polygon starts_now names_now mates_now begins_now regions_now inner_now now) ends_now counted began_now listed_now
kept_same polygon starts names mates begins regions inner room ends counted began listed starts_now names_now mates_now begins_now regions_now inner_now now ends_now began_now listed_now a b c d e f g h i all =
    rw (a, b, c, d, e, f, g, h, i) (listed_differs polygon starts names mates begins regions regions inner room now (differ_not regions) ends counted began listed all)
