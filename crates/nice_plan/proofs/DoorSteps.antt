-- The search for a door, as code does it: round the segments of the piece by their numbers.
use Rattle.std.proofs.Common.{◌≡◌, ℕ, zero, suc, ◌+◌, ◌-◌, ◌*◌, ◌<◌, ◌≤◌, true, false, eqb, List, get_or, refl, sym, ◌∙◌, ap, subst, arith, inl, inr, ◌≢◌}
use Rattle.std.proofs.lemmas.Bool.{cases_lt, eq-eqb, false≢true, ne_eqb}
use Rattle.page_surface.specs.Drawing.{Drawing, chords}
use Rattle.drawing.specs.Boundary.{Leads}
use Rattle.drawing.specs.Fingers.{chord_at}
use Rattle.drawing.specs.Pieces.{distance, piece_of, same_piece, segments_in, span_count}
use Rattle.drawing.specs.Round.{next_segment}
use Rattle.region_table.specs.Edges.{IsChordEdge, names_beside}
use Rattle.region_table.specs.Table.{IsTableOf, Table, name_at, region}
use Rattle.region_table.proofs.Doors.{over}
use Rattle.region_table.proofs.EdgeWalk.{last_in_list, next_in_list}
use Rattle.region_table.proofs.TablePlaces.{beside_differ, beside_in, chord_listed}
use Rattle.nice_plan.specs.Burst.{chord_ending, named_chords}
use Rattle.nice_plan.specs.Measured.{IsInner, IsMeasured, Measured, home, segment_at}
use Rattle.nice_plan.specs.Path.{before_door, before_door_from}
use Rattle.nice_plan.proofs.DoorChain.{after_inside}
use Rattle.nice_plan.proofs.DoorSearch.{door_at}
use Rattle.nice_plan.proofs.MeasuredReads.{distance_at, first_home, home_is, segment_found, segment_inner, segment_inside, segment_named}
use Rattle.nice_plan.proofs.NameOfChord.{name_found}
use Rattle.nice_plan.proofs.PieceRounds.{zero_base}

-- the door of a piece isn't after any of its first segments
abbrev pub NotYet : Measured → ℕ → ℕ → Type 0
NotYet m p n = (j : ℕ) → j < n → (region m.table (name_at m.table (suc (segment_at m p j)))).distance ≢ (region m.table p).distance - 1

-- nor after one more
pub later_not_yet : (m : Measured) (p n next : ℕ) → next ≡ n + 1 → NotYet m p n → (region m.table (name_at m.table (suc (segment_at m p n)))).distance ≢ (region m.table p).distance - 1 → NotYet m p next
later_not_yet m p n next e h fails j l q = elim (cases_lt j n) [
  | inl k ↦ h j k q
  | inr k ↦ (let same : j ≡ n = omega (arith, k, l, e) in fails (subst (λ x. (region m.table (name_at m.table (suc (segment_at m p x)))).distance ≡ (region m.table p).distance - 1) same q))
]

-- one step of the search
passes_now : (d : Drawing) (e n s : ℕ) → eqb (distance d (suc s)) (e - 1) ≡ true → before_door_from d e (suc n) s ≡ s
passes_now d e n s h = ap (λ b. elim b [ true ↦ s | false ↦ before_door_from d e n (next_segment d s) ]) h

passes_later : (d : Drawing) (e n s : ℕ) → eqb (distance d (suc s)) (e - 1) ≡ false → before_door_from d e (suc n) s ≡ before_door_from d e n (next_segment d s)
passes_later d e n s h = ap (λ b. elim b [ true ↦ s | false ↦ before_door_from d e n (next_segment d s) ]) h

module _ (m : Measured) (k : IsMeasured m.drawing m.table) (p : ℕ) (i : IsInner m p) where
  -- a piece that isn't base is at a distance
  pub far_off : 1 ≤ (region m.table p).distance
  far_off = elim (cases_lt 0 (region m.table p).distance) [
    | inl l ↦ l
    | inr l ↦ (let h = home_is m k p i in
        let z = zero_base m.drawing k.embedded (home m p) (sym h.distance ∙ omega (arith, l)) in
        absurd (false≢true (sym h.inner ∙ z)))
  ]

  -- after a segment comes the next one
  pub segment_next : (j : ℕ) → suc j < (region m.table p).size → next_segment m.drawing (segment_at m p j) ≡ segment_at m p (suc j)
  segment_next j l = let h = home_is m k p i in next_in_list m.drawing k.embedded (home m p) h.inside h.inner j (omega (arith, l, h.size))

  -- and after the last the first
  pub segment_last : (j : ℕ) → suc j ≡ (region m.table p).size → next_segment m.drawing (segment_at m p j) ≡ segment_at m p 0
  segment_last j e =
      let h = home_is m k p i in
      last_in_list m.drawing k.embedded (home m p) h.inside h.inner j (omega (arith, e, h.size)) ∙ (h.first ∙ sym (first_home m k p i))

  -- the span behind the chord after a segment
  pub behind_inside : (j : ℕ) → j < (region m.table p).size → suc (segment_at m p j) < span_count m.drawing
  behind_inside j l = after_inside m.drawing k.embedded (segment_at m p j) (segment_inside m k p i j l) (segment_inner m k p i j l)

  passes_there : (j : ℕ) → j < (region m.table p).size → (region m.table (name_at m.table (suc (segment_at m p j)))).distance ≡ distance m.drawing (suc (segment_at m p j))
  passes_there j l = distance_at m k (suc (segment_at m p j)) (behind_inside j l) _ refl

  -- so the search stands at the next one
  search : (n : ℕ) → n < (region m.table p).size → NotYet m p n
      → before_door m.drawing (home m p) ≡ before_door_from m.drawing (distance m.drawing (home m p)) ((region m.table p).size - n) (segment_at m p n)
  search zero l h =
      let w = home_is m k p i in
      ap (λ c. before_door_from m.drawing (distance m.drawing (home m p)) c (piece_of m.drawing (home m p))) (sym w.size)
      ∙ (ap (before_door_from m.drawing (distance m.drawing (home m p)) (region m.table p).size) (w.first ∙ sym (first_home m k p i))
      ∙ ap (λ c. before_door_from m.drawing (distance m.drawing (home m p)) c (segment_at m p 0)) (let z : (region m.table p).size ≡ (region m.table p).size - 0 = omega arith in z))
  search (suc n) l h =
      let w = home_is m k p i in
      let e = distance m.drawing (home m p) in
      let s = segment_at m p n in
      let ih = search n (omega (arith, l)) (λ j q. h j (omega (arith, q))) in
      let left : (region m.table p).size - n ≡ suc ((region m.table p).size - suc n) = omega (arith, l) in
      let not : eqb (distance m.drawing (suc s)) (e - 1) ≡ false = ne_eqb _ _ (λ q. h n (omega arith) (passes_there n (omega (arith, l)) ∙ (q ∙ ap (λ x. x - 1) (sym w.distance)))) in
      let step : before_door_from m.drawing e (suc ((region m.table p).size - suc n)) s ≡ before_door_from m.drawing e ((region m.table p).size - suc n) (next_segment m.drawing s) = passes_later m.drawing e ((region m.table p).size - suc n) s not in
      ih ∙ (ap (λ c. before_door_from m.drawing e c s) left ∙ (step ∙ ap (before_door_from m.drawing e ((region m.table p).size - suc n)) (segment_next n l)))

  -- where it passes it ends
  pub door_here : (n : ℕ) → n < (region m.table p).size → NotYet m p n → (region m.table (name_at m.table (suc (segment_at m p n)))).distance ≡ (region m.table p).distance - 1
      → segment_at m p n ≡ before_door m.drawing (home m p)
  door_here n l h q =
      let w = home_is m k p i in
      let e = distance m.drawing (home m p) in
      let s = segment_at m p n in
      let left : (region m.table p).size - n ≡ suc ((region m.table p).size - suc n) = omega (arith, l) in
      let here : eqb (distance m.drawing (suc s)) (e - 1) ≡ true = eq-eqb _ _ (sym (passes_there n l) ∙ (q ∙ ap (λ x. x - 1) w.distance)) in
      let step : before_door_from m.drawing e (suc ((region m.table p).size - suc n)) s ≡ s = passes_now m.drawing e ((region m.table p).size - suc n) s here in
      sym (search n l h ∙ (ap (λ c. before_door_from m.drawing e c s) left ∙ step))

  -- and it passes after one of the segments
  pub not_last : (n : ℕ) → n < (region m.table p).size → NotYet m p n → (region m.table (name_at m.table (suc (segment_at m p n)))).distance ≢ (region m.table p).distance - 1 → suc n < (region m.table p).size
  not_last n l h q = elim (cases_lt (suc n) (region m.table p).size) [
    | inl z ↦ z
    | inr z ↦
        (let w = home_is m k p i in
        let e = (region m.table p).distance - 1 in
        let far = far_off in
        let g = door_at m.drawing k.embedded (home m p) e w.inside (omega (arith, w.distance, far)) in
        let named = sym (k.table.naming.together (home m p) (before_door m.drawing (home m p)) w.inside g.inside g.same) ∙ w.named in
        let (j, lj, is) = segment_found m k p i (before_door m.drawing (home m p)) g.inside named in
        let near : (region m.table (name_at m.table (suc (segment_at m p j)))).distance ≡ e = passes_there j lj ∙ (ap (λ x. distance m.drawing (suc x)) is ∙ g.nearer) in
        elim (cases_lt j n) [
          | inl a ↦ absurd (h j a near)
          | inr a ↦ (let same : j ≡ n = omega (arith, a, lj, z, l) in
              absurd (q (subst (λ x. (region m.table (name_at m.table (suc (segment_at m p x)))).distance ≡ e) same near)))
        ])
  ]

  -- the chord after a segment, by its edge
  module _ (j : ℕ) (l : j < (region m.table p).size) (strand chord : ℕ) (edge : IsChordEdge m.drawing (home m p) (2 * j + 1) strand chord) where
    the_index : edge.index ≡ j
    the_index = omega (arith, edge.odd)

    leads_on : Leads (chord_at m.drawing strand chord) (segment_at m p j) (next_segment m.drawing (segment_at m p j))
    leads_on = subst (λ n. Leads (chord_at m.drawing strand chord) (get_or (segments_in m.drawing (home m p)) n 0) (next_segment m.drawing (get_or (segments_in m.drawing (home m p)) n 0))) the_index edge.leads

    -- has this name
    pub way_named : chord_ending (named_chords m.drawing) (segment_at m p j) ≡ record { strand = strand; chord = chord }
    way_named = name_found m.drawing k.embedded strand chord (segment_at m p j) edge.strand_in edge.chord_in (elim leads_on [ inl q ↦ inl q.0 | inr q ↦ inr q.0 ])

    -- the piece behind it is the one of its two pieces that isn't this one
    pub behind_after : name_at m.table (chord_at m.drawing strand chord).from ≡ p → name_at m.table (suc (chord_at m.drawing strand chord).from) ≡ name_at m.table (suc (segment_at m p j))
    behind_after e = elim leads_on [
      | inl q ↦ ap (λ x. name_at m.table (suc x)) q.0
      | inr q ↦ absurd (beside_differ m.drawing k.embedded m.table k.table strand chord edge.strand_in edge.chord_in (e ∙ sym (ap (name_at m.table) q.1 ∙ next_named)))
    ]
      where
        next_named : name_at m.table (next_segment m.drawing (segment_at m p j)) ≡ p
        next_named = elim (cases_lt (suc j) (region m.table p).size) [
          | inl a ↦ ap (name_at m.table) (segment_next j a) ∙ segment_named m k p i (suc j) a
          | inr a ↦ ap (name_at m.table) (segment_last j (omega (arith, a, l))) ∙ segment_named m k p i 0 (omega (arith, l))
        ]

    pub behind_before : name_at m.table (chord_at m.drawing strand chord).from ≢ p → name_at m.table (chord_at m.drawing strand chord).from ≡ name_at m.table (suc (segment_at m p j))
    behind_before ne = elim leads_on [
      | inl q ↦ absurd (ne (ap (name_at m.table) q.0 ∙ segment_named m k p i j l))
      | inr q ↦
          (let c = chord_at m.drawing strand chord in
          let listed = chord_listed m.drawing k.embedded strand chord edge.strand_in edge.chord_in in
          let across : same_piece (chords m.drawing) c.from (suc c.to) ≡ true = over m.drawing k.embedded c c.from c.to listed (inl (refl, refl)) in
          let (a, b) = beside_in m.drawing k.embedded strand chord edge.strand_in edge.chord_in in
          let after : suc c.to < span_count m.drawing = subst (λ x. suc x < span_count m.drawing) (sym q.0) (behind_inside j l) in
          k.table.naming.together c.from (suc c.to) a after across ∙ ap (λ x. name_at m.table (suc x)) q.0)
    ]

    -- as a table tells the two
    pub behind_here : (t : Table) → t ≡ m.table → (beside : List ℕ) → ((d : Drawing) → IsTableOf d t → beside ≡ names_beside d t strand chord) → (y z : ℕ)
        → (get_or beside 0 y ≡ p → get_or beside 1 z ≡ name_at m.table (suc (segment_at m p j))) × (get_or beside 0 y ≢ p → get_or beside 0 y ≡ name_at m.table (suc (segment_at m p j)))
    behind_here t same beside told y z =
        let told_m : beside ≡ names_beside m.drawing m.table strand chord = told m.drawing (subst (IsTableOf m.drawing) (sym same) k.table) ∙ ap (λ w. names_beside m.drawing w strand chord) same in
        let first : get_or beside 0 y ≡ name_at m.table (chord_at m.drawing strand chord).from = ap (λ xs. get_or xs 0 y) told_m in
        let second : get_or beside 1 z ≡ name_at m.table (suc (chord_at m.drawing strand chord).from) = ap (λ xs. get_or xs 1 z) told_m in
        ((λ e. second ∙ behind_after (sym first ∙ e)), (λ ne. first ∙ behind_before (λ e. ne (first ∙ e))))
