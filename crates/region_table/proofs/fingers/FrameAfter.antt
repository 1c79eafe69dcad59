-- The frame of the drawing after a finger: where sides and chords begin, and the other ends of chords.
use Rattle.std.proofs.Common.{◌≡◌, ℕ, zero, suc, ◌+◌, ◌*◌, ◌-◌, ◌<◌, ◌≤◌, ◌^◌, Bool, true, false, cond, ltb, List, [], ◌∷◌, ◌++◌, take, drop, map, length, get_or, set, refl, sym, ◌∙◌, ap, ap₂, subst, arith, inl, inr}
use Rattle.std.proofs.lemmas.Bool.{cases_eq}
use Rattle.std.proofs.lemmas.List.{get_or-map, get_or-set_other, get_or-set_same, length-map, length-set}
use Rattle.std.proofs.lemmas.List.FromFn.{length-map-range_with_len}
use Rattle.obd_base.specs.Lists.{below}
use Rattle.obd_base.proofs.lists.Below.{bit, mem_below}
use Rattle.obd_base.proofs.lists.Sums.{by_entries}
use Rattle.page_surface.specs.Drawing.{Chord, Drawing, IsEmbedded, all_exits, chords, offset, strand_chords}
use Rattle.page_surface.specs.Polygon.{arc_count, partner, sides}
use Rattle.drawing.specs.declared.finger.Finger.{Finger}
use Rattle.drawing.specs.Fingers.{IsLegal, chord_at, entered, entered_beyond, pushed}
use Rattle.drawing.specs.Layout.{offsets_of}
use Rattle.drawing.specs.Pieces.{span_count, spans}
use Rattle.drawing.specs.Round.{other_end}
use Rattle.drawing.proofs.fingers.Effects.{later_first, pushed_embedded, pushed_polygon}
use Rattle.drawing.proofs.fingers.Finger.{back, carry, turn}
use Rattle.drawing.proofs.fingers.Shift.{early, shift}
use Rattle.region_table.specs.FingerLists.{AreMatesAfter, IsPush, begins_later, put_two, rows_after}
use Rattle.region_table.specs.Table.{begins_of}
use Rattle.region_table.proofs.ChordTables.{start_read}
use Rattle.region_table.proofs.FrameTables.{as_many_rows, mate_is, row_is as row_begins, row_long}
use Rattle.region_table.proofs.SameMembers.{map_same}
use Rattle.region_table.proofs.SpanCount.{spans_few}
use Rattle.region_table.proofs.fingers.AfterFinger.{begins_other, begins_own, es, far_end, near_end, push, starts_after}
use Rattle.region_table.proofs.fingers.Mates.{mates_table}
use Rattle.region_table.proofs.fingers.PushEnds.{back_begins, turn_begins}

-- where shifted chords begin
from_moved : (t u : ℕ) (cs : List Chord) → map (shift t u) (map (λ c. c.from) cs) ≡ map (λ c. c.from) (map (carry t u) cs)
from_moved t u [] = refl
from_moved t u (c ∷ cs) = ap (λ xs. shift t u c.from ∷ xs) (from_moved t u cs)

-- two chords more begin behind a chord
own_row : (t u : ℕ) (cs : List Chord) (c a b : ℕ) → c < length cs → put_two (suc c) a b (map (shift t u) (map (λ c. c.from) cs))
    ≡ map (λ c. c.from) (map (carry t u) (take c cs)) ++ (shift t u (get_or cs c (record { from = 0; to = 0 })).from ∷ a ∷ b ∷ map (λ c. c.from) (map (carry t u) (drop (suc c) cs)))
own_row t u [] c a b l = absurd (omega (arith, l))
own_row t u (x ∷ cs) zero a b l = ap (λ xs. shift t u x.from ∷ a ∷ b ∷ xs) (from_moved t u cs)
own_row t u (x ∷ cs) (suc c) a b l = ap (λ xs. shift t u x.from ∷ xs) (own_row t u cs c a b (omega (arith, l)))

-- twice a bit
twice : (b : Bool) → cond b 2 0 ≡ 2 * bit b
twice true = refl
twice false = refl

module _ (d : Drawing) (ok : IsEmbedded d) (f : Finger) (l : IsLegal d f) where
  -- the drawing after the finger
  abbrev e : Drawing
  e = pushed d f

  -- where its sides begin
  pub starts_are : (starts after : List ℕ) → starts ≡ offsets_of d → length after ≡ length starts
      → ((k : ℕ) → k < length starts → get_or after k 0 ≡ get_or starts k 0 + begins_later f.side (partner d.polygon f.side) k) → after ≡ offsets_of e
  starts_are starts after is size written =
      let polygon = pushed_polygon d ok f l in
      let many : length starts ≡ suc (sides d.polygon) = ap length is ∙ length-map-range_with_len (offset d) 0 (suc (sides d.polygon)) in
      let there : length after ≡ suc (sides e.polygon) = omega (arith, size, many, ap sides polygon) in
      by_entries 0 after (suc (sides e.polygon)) there ∙ map_same (λ k. get_or after k 0) (offset e) (below (suc (sides e.polygon))) (λ k m.
      let lk = mem_below (suc (sides e.polygon)) k m in
      let inside : k < suc (sides d.polygon) = omega (arith, lk, ap sides polygon) in
      omega (
        arith,
        written k (omega (arith, inside, many)),
        start_read d starts is k inside,
        starts_after d ok f l k,
        twice (ltb f.side k),
        twice (ltb (partner d.polygon f.side) k),
      ))

  -- where its chords begin
  pub begins_are : (begins : List (List ℕ)) (a b : ℕ) → begins ≡ begins_of d
      → a ≡ (turn (entered d f) (entered_beyond d f) (later_first d f)).from
      → b ≡ (back (entered d f) (entered_beyond d f) (later_first d f) (chord_at d f.strand f.chord)).from
      → rows_after (entered d f) (entered_beyond d f) f.strand f.chord a b begins ≡ begins_of e
  begins_are begins a b is turns backs =
      let polygon = pushed_polygon d ok f l in
      let many = as_many_rows d begins is in
      let size : length after ≡ length begins = length-set moved f.strand own ∙ length-map begins (map (shift t u)) in
      let there : length after ≡ arc_count e.polygon = omega (arith, size, many, ap arc_count polygon) in
      by_entries [] after (arc_count e.polygon) there ∙ map_same (λ i. get_or after i []) (λ i. map (λ c. c.from) (strand_chords e i)) (below (arc_count e.polygon)) (λ i m.
      let li = mem_below (arc_count e.polygon) i m in
      let inside : i < arc_count d.polygon = omega (arith, li, ap arc_count polygon) in
      elim (cases_eq i f.strand) [
        | inl q ↦ subst (λ j. get_or after j [] ≡ map (λ c. c.from) (strand_chords e j)) (sym q) own_is
        | inr ne ↦ get_or-set_other moved f.strand i own [] ne ∙ (moved_is i inside ∙ sym (begins_other d ok f l i inside ne))
      ])
    where
      t : ℕ
      t = entered d f

      u : ℕ
      u = entered_beyond d f

      moved : List (List ℕ)
      moved = map (map (shift t u)) begins

      own : List ℕ
      own = put_two (suc f.chord) a b (get_or moved f.strand [])

      after : List (List ℕ)
      after = set moved f.strand own

      many' : length begins ≡ arc_count d.polygon
      many' = as_many_rows d begins is

      row_is : (i : ℕ) → i < arc_count d.polygon → get_or begins i [] ≡ map (λ c. c.from) (strand_chords d i)
      row_is i li = row_begins d begins is i li

      moved_is : (i : ℕ) → i < arc_count d.polygon → get_or moved i [] ≡ map (shift t u) (map (λ c. c.from) (strand_chords d i))
      moved_is i li = get_or-map (map (shift t u)) begins i [] [] (omega (arith, li, many')) ∙ ap (map (shift t u)) (row_is i li)

      long : f.chord < length (strand_chords d f.strand)
      long = omega (arith, l.chord, row_long d begins is f.strand l.strand, ap length (row_is f.strand l.strand), length-map (strand_chords d f.strand) (λ (c : Chord). c.from))

      own_is : get_or after f.strand [] ≡ map (λ c. c.from) (strand_chords e f.strand)
      own_is =
          get_or-set_same moved f.strand own [] (omega (arith, l.strand, many', length-map begins (map (shift t u))))
          ∙ (ap (put_two (suc f.chord) a b) (moved_is f.strand l.strand)
          ∙ (own_row t u (strand_chords d f.strand) f.chord a b long
          ∙ (ap₂ (λ x y. map (λ c. c.from) (map (carry t u) (take f.chord (strand_chords d f.strand))) ++ (shift t u (chord_at d f.strand f.chord).from ∷ x ∷ y ∷ map (λ c. c.from) (map (carry t u) (drop (suc f.chord) (strand_chords d f.strand))))) turns backs
          ∙ sym (begins_own d ok f l))))

  -- the other ends of its chords
  pub mates_are : (mates after : List ℕ) → mates ≡ map (other_end (chords d)) (spans d) → length after ≡ length mates + 4
      → AreMatesAfter (length mates) (entered d f) (entered_beyond d f) (near_end d f) (far_end d f) (λ s. get_or mates s 0) (λ w. get_or after w 0)
      → after ≡ map (other_end (chords e)) (spans e)
  mates_are mates after is size written =
      let p = push d ok f l in
      let many : length mates ≡ span_count d = ap length is ∙ length-map-range_with_len (other_end (chords d)) 0 (span_count d) in
      mates_table d e ok (pushed_embedded d ok f l) (entered d f) (entered_beyond d f) (later_first d f) (chord_at d f.strand f.chord) (es d ok f l) p after
      (omega (arith, size, many, p.spans)) (record {
        others = λ s ls n m. written.others s (omega (arith, ls, many)) n m ∙ ap (shift (entered d f) (entered_beyond d f)) (mate_is d ok mates is s ls);
        at_near = written.at_near;
        at_early = written.at_early;
        at_far = written.at_far;
        at_late = written.at_late;
        at_beyond = written.at_beyond;
        at_tip = written.at_tip;
      })

  -- few spans before, where the drawing after is small
  pub few_before : (after : Drawing) → after ≡ e → sides after.polygon ≤ 16 → length (all_exits after) < 2 ^ 28 → span_count d + 4 < 2 ^ 30
  few_before after is few_sides few = omega (arith, spans_few after few_sides few, ap span_count is, (push d ok f l).spans)

  module _ (from near far one other out : ℕ) (given : IsPush d f from near far one other out) where
    -- where chords begin, as code writes it
    pub begins_written : (begins after : List (List ℕ)) (strand a b : ℕ) → begins ≡ begins_of d → strand ≡ f.strand → a ≡ early other one + 1 - out → b ≡ early one other + 1 - out
        → after ≡ rows_after one other strand f.chord a b begins → after ≡ begins_of e
    begins_written begins after strand a b is i x y written =
        written
        ∙ (ap (λ k. rows_after one other k f.chord a b begins) i
        ∙ (ap₂ (λ t u. rows_after t u f.strand f.chord a b begins) given.entered_is given.beyond_is
        ∙ begins_are begins a b is (turn_begins d ok f l from near far one other out given a x) (back_begins d ok f l from near far one other out given b y)))

    -- and the other ends
    pub mates_written_are : (mates after : List ℕ) → mates ≡ map (other_end (chords d)) (spans d) → length after ≡ length mates + 4
        → AreMatesAfter (length mates) one other near far (λ s. get_or mates s 0) (λ w. get_or after w 0) → after ≡ map (other_end (chords e)) (spans e)
    mates_written_are mates after is size written =
        mates_are mates after is size
        (subst (λ x. AreMatesAfter (length mates) (entered d f) (entered_beyond d f) (near_end d f) x (λ s. get_or mates s 0) (λ w. get_or after w 0)) given.far_is
        (subst (λ x. AreMatesAfter (length mates) (entered d f) (entered_beyond d f) x far (λ s. get_or mates s 0) (λ w. get_or after w 0)) given.near_is
        (subst (λ x. AreMatesAfter (length mates) (entered d f) x near far (λ s. get_or mates s 0) (λ w. get_or after w 0)) given.beyond_is
        (subst (λ x. AreMatesAfter (length mates) x other near far (λ s. get_or mates s 0) (λ w. get_or after w 0)) given.entered_is written))))
