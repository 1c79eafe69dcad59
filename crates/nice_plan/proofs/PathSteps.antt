-- The steps of the path, as code takes them: by segments of sides.
use Rattle.std.proofs.Common.{◌≡◌, ℕ, zero, suc, ◌+◌, ◌-◌, ◌/◌, ◌<◌, ◌≤◌, Bool, true, false, ltb, eqb, not, ◌&&◌, ◌||◌, List, [], ◌∷◌, ◌++◌, map, length, get_or, refl, sym, ◌∙◌, ap, ap₂, subst, arith, ◌⊎◌, inl, inr}
use Rattle.std.proofs.lemmas.Bool.{cases_Bool, cases_eq, eq-eqb, false≢true, ne_eqb, or_parts}
use Rattle.std.proofs.lemmas.List.{append-nil, append_assoc}
use Rattle.obd_base.specs.Lists.{Mem, Once}
use Rattle.obd_base.specs.declared.points.Exit.{Exit}
use Rattle.obd_base.proofs.lists.Below.{once_range}
use Rattle.obd_base.proofs.lists.Members.{once_filter}
use Rattle.page_surface.specs.Drawing.{Drawing, IsEmbedded, all_exits, chords, spot}
use Rattle.page_surface.specs.Polygon.{sides}
use Rattle.page_surface.proofs.Partners.{points_partner}
use Rattle.drawing.specs.Pieces.{distance, is_base, piece_of, same_piece, segments_in, span_count, spans}
use Rattle.drawing.specs.Round.{next_segment, other_end, previous_segment}
use Rattle.drawing.proofs.Laws.{one_more_piece, piece_count, same_name}
use Rattle.drawing.proofs.fingers.NewEmbedded.{arranged}
use Rattle.finger_move.specs.Glued.{glued_segment, glued_to, segment_of}
use Rattle.finger_move.proofs.PushedNext.{other_twice}
use Rattle.region_table.specs.Table.{name_at, region}
use Rattle.region_table.proofs.EdgeWalk.{mem_of_place}
use Rattle.nice_plan.specs.Measured.{IsInner, IsMeasured, IsOn, Measured, goes_on, home, segment_at, stops_at}
use Rattle.nice_plan.specs.Burst.{path}
use Rattle.nice_plan.specs.Path.{before_door, before_door_from, chosen, leaves_by, path_from, stops_in}
use Rattle.nice_plan.proofs.DoorSteps.{segment_last, segment_next}
use Rattle.nice_plan.proofs.MeasuredReads.{base_at, distance_at, home_is, home_same, inner_at, spot_again}
use Rattle.nice_plan.proofs.PieceRounds.{distance_same, segments_same}

-- different places have different members
once_places : (xs : List ℕ) → Once xs → (i j : ℕ) → i < length xs → j < length xs → get_or xs i 0 ≡ get_or xs j 0 → i ≡ j
once_places [] o i j li lj e = absurd (let w : ⊥ = omega (arith, li) in w)
once_places (x ∷ xs) o zero zero li lj e = refl
once_places (x ∷ xs) o zero (suc j) li lj e = absurd (o.0 (subst (λ w. Mem w xs) (sym e) (mem_of_place xs j 0 (omega (arith, lj)))))
once_places (x ∷ xs) o (suc i) zero li lj e = absurd (o.0 (subst (λ w. Mem w xs) e (mem_of_place xs i 0 (omega (arith, li)))))
once_places (x ∷ xs) o (suc i) (suc j) li lj e = ap suc (once_places xs o.1 i j (omega (arith, li)) (omega (arith, lj)) e)

-- spans of one piece have one door
pub door_same : (d : Drawing) (s t : ℕ) → same_piece (chords d) s t ≡ true → before_door d s ≡ before_door d t
door_same d s t h =
    ap (λ e. before_door_from d e (length (segments_in d s)) (piece_of d s)) (distance_same d s t h)
    ∙ (ap (λ xs. before_door_from d (distance d t) (length xs) (piece_of d s)) (segments_same d s t h)
    ∙ ap (before_door_from d (distance d t) (length (segments_in d t))) (same_name d s t h))

-- what a segment is glued to is on a side too
pub beyond_on : (d : Drawing) → IsEmbedded d → (e : Exit) → IsOn d e → IsOn d (glued_segment d e)
beyond_on d ok e on = record { side = ok.polygon.pairs.in_range e.side on.side; place = omega (arith, points_partner d ok.polygon e.side) }

-- where the path goes on
pub glued_spot : (d : Drawing) (e : Exit) → IsOn d e → glued_to d (spot d e) ≡ spot d (glued_segment d e)
glued_spot d e on = ap (λ x. spot d (glued_segment d x)) (spot_again d e on)

-- the segments after and before a segment of a piece, by their numbers
module _ (m : Measured) (k : IsMeasured m.drawing m.table) (p : ℕ) (i : IsInner m p) (j : ℕ) (lj : j < (region m.table p).size) where
  pub onward : (n : ℕ) → ((suc j < (region m.table p).size) × (n ≡ suc j)) ⊎ (((region m.table p).size ≤ suc j) × (n ≡ 0)) → segment_at m p n ≡ next_segment m.drawing (segment_at m p j)
  onward n (inl (a, e)) = ap (segment_at m p) e ∙ sym (segment_next m k p i j a)
  onward n (inr (a, e)) = ap (segment_at m p) e ∙ sym (segment_last m k p i j (omega (arith, a, lj)))

  pub backward : (n : ℕ) → ((0 < j) × (suc n ≡ j)) ⊎ ((j ≡ 0) × (suc n ≡ (region m.table p).size)) → segment_at m p n ≡ previous_segment m.drawing (segment_at m p j)
  backward n w = turned (elim w [
    | inl (a, e) ↦ segment_next m k p i n (omega (arith, e, lj)) ∙ ap (segment_at m p) e
    | inr (a, e) ↦ segment_last m k p i n e ∙ ap (segment_at m p) (sym a)
  ])
    where
      turned : next_segment m.drawing (segment_at m p n) ≡ segment_at m p j → segment_at m p n ≡ previous_segment m.drawing (segment_at m p j)
      turned q =
          let z : other_end (chords m.drawing) (segment_at m p n) ≡ segment_at m p j - 1 = omega (arith, q) in
          sym (other_twice (chords m.drawing) (arranged m.drawing k.embedded) (segment_at m p n)) ∙ ap (other_end (chords m.drawing)) z

module _ (m : Measured) (k : IsMeasured m.drawing m.table) (s : ℕ) (l : s < span_count m.drawing) (inner : is_base m.drawing s ≡ false) (p : ℕ) (named : name_at m.table s ≡ p) (i : IsInner m p) where
  -- the size of the piece of a span
  pub size_at : (region m.table p).size ≡ length (segments_in m.drawing s)
  size_at = (home_is m k p i).size ∙ ap length (sym (segments_same m.drawing s (home m p) (home_same m k s l inner p named)))

  -- its door
  pub door_at_home : before_door m.drawing s ≡ before_door m.drawing (home m p)
  door_at_home = door_same m.drawing s (home m p) (home_same m k s l inner p named)

  module _ (j : ℕ) (lj : j < (region m.table p).size) (is : segment_at m p j ≡ s) where
    -- how the path leaves the piece
    pub leaves_told : leaves_by m.drawing s ≡ elim (goes_on m p j) [ true ↦ next_segment m.drawing s | false ↦ previous_segment m.drawing s ]
    leaves_told = ap₂ (λ n b. elim (eqb n 2 || not (eqb b s)) [ true ↦ next_segment m.drawing s | false ↦ previous_segment m.drawing s ]) (sym size_at) door_at_home
        ∙ ap (λ x. elim (eqb (region m.table p).size 2 || not (eqb (before_door m.drawing (home m p)) x)) [ true ↦ next_segment m.drawing s | false ↦ previous_segment m.drawing s ]) (sym is)

    pub leaves_onward : (b : Bool) → goes_on m p j ≡ b → b ≡ true → leaves_by m.drawing s ≡ next_segment m.drawing (segment_at m p j)
    leaves_onward b e t = leaves_told ∙ (ap (λ w. elim w [ true ↦ next_segment m.drawing s | false ↦ previous_segment m.drawing s ]) (e ∙ t) ∙ ap (next_segment m.drawing) (sym is))

    pub leaves_backward : (b : Bool) → goes_on m p j ≡ b → b ≡ false → leaves_by m.drawing s ≡ previous_segment m.drawing (segment_at m p j)
    leaves_backward b e t = leaves_told ∙ (ap (λ w. elim w [ true ↦ next_segment m.drawing s | false ↦ previous_segment m.drawing s ]) (e ∙ t) ∙ ap (previous_segment m.drawing) (sym is))

-- whether the door is after a segment, by their numbers
pub index_test : (m : Measured) (k : IsMeasured m.drawing m.table) (p : ℕ) (i : IsInner m p) (door j : ℕ) → door < (region m.table p).size → j < (region m.table p).size
    → segment_at m p door ≡ before_door m.drawing (home m p) → eqb door j ≡ eqb (before_door m.drawing (home m p)) (segment_at m p j)
index_test m k p i door j ld lj is_door = elim (cases_eq door j) [
  | inl e ↦ eq-eqb door j e ∙ sym (eq-eqb _ _ (sym is_door ∙ ap (segment_at m p) e))
  | inr n ↦ ne_eqb door j n ∙ sym (ne_eqb _ _ (λ q. n (once_places (segments_in m.drawing (home m p)) (once_filter (same_piece (chords m.drawing) (home m p)) (spans m.drawing) (once_range 0 (span_count m.drawing)))
      door j (omega (arith, ld, (home_is m k p i).size)) (omega (arith, lj, (home_is m k p i).size)) (is_door ∙ q))))
]

-- the path so far, where it stands, and what is left of it with so many segments allowed
pub record IsSoFar (d : Drawing) (far n start : ℕ) (taken : List Exit) (here : Exit) (left : ℕ) : Type 0 where
  pub there : IsOn d here
  pub rest : map (segment_of d) (path_from d far n start) ≡ taken ++ map (segment_of d) (path_from d far left (spot d here))

-- before the first step
pub path_starts : (d : Drawing) (far n : ℕ) (start : Exit) → IsOn d start → IsSoFar d far n (spot d start) [] start n
path_starts d far n start on = record { there = on; rest = refl }

module _ (d : Drawing) (far n start : ℕ) (taken : List Exit) (here : Exit) (c : ℕ) (so : IsSoFar d far n start taken here (suc c)) where
  -- the segment is where it is said to be
  seen : segment_of d (spot d here) ≡ here
  seen = spot_again d here so.there

  -- where it stops
  pub path_stops : stops_in d far (spot d (glued_segment d here)) ≡ true → taken ++ (here ∷ []) ≡ map (segment_of d) (path_from d far n start)
  path_stops h =
      let stop : stops_in d far (glued_to d (spot d here)) ≡ true = ap (stops_in d far) (glued_spot d here so.there) ∙ h in
      let step : path_from d far (suc c) (spot d here) ≡ spot d here ∷ [] = rw stop refl in
      sym (so.rest ∙ ap (λ w. taken ++ w) (ap (map (segment_of d)) step ∙ ap (λ w. w ∷ []) seen))

  -- where it goes on
  pub path_goes : (next : Exit) → IsOn d next → stops_in d far (spot d (glued_segment d here)) ≡ false
      → spot d next ≡ leaves_by d (spot d (glued_segment d here)) → IsSoFar d far n start (taken ++ (here ∷ [])) next c
  path_goes next on h q =
      let glued = glued_spot d here so.there in
      let go : stops_in d far (glued_to d (spot d here)) ≡ false = ap (stops_in d far) glued ∙ h in
      let step : path_from d far (suc c) (spot d here) ≡ spot d here ∷ path_from d far c (leaves_by d (glued_to d (spot d here))) = rw go refl in
      let on_to : leaves_by d (glued_to d (spot d here)) ≡ spot d next = ap (leaves_by d) glued ∙ sym q in
      let more : map (segment_of d) (path_from d far (suc c) (spot d here)) ≡ here ∷ map (segment_of d) (path_from d far c (spot d next)) =
      ap (map (segment_of d)) step
      ∙ (ap (λ w. w ∷ map (segment_of d) (path_from d far c (leaves_by d (glued_to d (spot d here))))) seen
      ∙ ap (λ s. here ∷ map (segment_of d) (path_from d far c s)) on_to) in
      record { there = on; rest = so.rest ∙ (ap (λ w. taken ++ w) more ∙ sym (append_assoc taken (here ∷ []) (map (segment_of d) (path_from d far c (spot d next))))) }

-- and where as many segments are taken as may be
pub path_full : (d : Drawing) (far n start : ℕ) (taken : List Exit) (here : Exit) (left : ℕ) → IsSoFar d far n start taken here left → left ≡ 0 → taken ≡ map (segment_of d) (path_from d far n start)
path_full d far n start taken here left so e =
    sym (so.rest ∙ (ap (λ c. taken ++ map (segment_of d) (path_from d far c (spot d here))) e ∙ append-nil taken))

-- where the path stops, by the piece
pub stops_told : (m : Measured) → IsMeasured m.drawing m.table → (far s : ℕ) → s < span_count m.drawing → (p : ℕ) → name_at m.table s ≡ p → stops_at m far p ≡ stops_in m.drawing far s
stops_told m k far s l p e = elim (cases_Bool (is_base m.drawing s)) [
  | inl b ↦ ap (λ w. w || (eqb (region m.table p).size 1 || ltb (region m.table p).distance far)) (base_at m k s l p e ∙ b)
      ∙ sym (ap (λ w. w || (eqb (length (segments_in m.drawing s)) 1 || ltb (distance m.drawing s) far)) b)
  | inr b ↦
      (let size = size_at m k s l b p e (inner_at m k s l b p e) in
      ap (λ w. w || (eqb (region m.table p).size 1 || ltb (region m.table p).distance far)) (base_at m k s l p e)
      ∙ ap₂ (λ n w. is_base m.drawing s || (eqb n 1 || ltb w far)) size (distance_at m k s l p e))
]

-- a piece where it doesn't stop isn't base
pub goes_inner : (m : Measured) (far p : ℕ) → p < length m.table.regions → stops_at m far p ≡ false → IsInner m p
goes_inner m far p l h = record { listed = l; inner = (or_parts (region m.table p).base (eqb (region m.table p).size 1 || ltb (region m.table p).distance far) h).0 }

-- a segment that isn't the one that is looked for comes before it
pub not_here : (m : Measured) (p index x : ℕ) (found segment : Exit) → IsOn m.drawing found → IsOn m.drawing segment → spot m.drawing found ≡ segment_at m p index → segment_at m p x ≡ spot m.drawing segment
    → (eqb found.side segment.side && eqb found.place segment.place) ≡ false → index ≤ x → suc index ≤ x
not_here m p index x found segment on_found on at_found at_segment differ l = elim (cases_eq index x) [
  | inr n ↦ omega (arith, l, n)
  | inl e ↦
      (let same : spot m.drawing found ≡ spot m.drawing segment = at_found ∙ (ap (segment_at m p) e ∙ at_segment) in
      let one : found ≡ segment = sym (spot_again m.drawing found on_found) ∙ (ap (segment_of m.drawing) same ∙ spot_again m.drawing segment on) in
      absurd (false≢true (sym differ ∙ rw (eq-eqb found.side segment.side (ap (λ w. w.side) one), eq-eqb found.place segment.place (ap (λ w. w.place) one)) refl)))
]

-- as many segments may come as there are chords
pub chords_counted : (d : Drawing) → IsEmbedded d → (points n : ℕ) → points ≡ length (all_exits d) → n ≡ sides d.polygon → points + n / 2 ≡ length (chords d)
chords_counted d ok points n p s = omega (arith, one_more_piece d ok, piece_count d ok, p, ap (λ x. x / 2) s)

-- the path of a burst by its start
pub path_at : (m : Measured) → (k : IsMeasured m.drawing m.table) → (p : ℕ) → (i : IsInner m p) → home m p ≡ chosen m.drawing → (door first second : ℕ) → segment_at m p door ≡ before_door m.drawing (home m p)
    → segment_at m p first ≡ next_segment m.drawing (segment_at m p door) → segment_at m p second ≡ next_segment m.drawing (segment_at m p first) → (far start : ℕ) → far ≡ (region m.table p).distance
    → start ≡ segment_at m p second → path_from m.drawing far (length (chords m.drawing)) start ≡ path m.drawing
path_at m k p i e door first second d f s far start is_far is_start =
    let h = home_is m k p i in
    let here : start ≡ next_segment m.drawing (next_segment m.drawing (before_door m.drawing (chosen m.drawing))) =
    is_start ∙ (s ∙ ap (next_segment m.drawing) (f ∙ ap (next_segment m.drawing) (d ∙ ap (before_door m.drawing) e))) in
    ap (λ n. path_from m.drawing n (length (chords m.drawing)) start) (is_far ∙ (h.distance ∙ ap (distance m.drawing) e))
    ∙ ap (path_from m.drawing (distance m.drawing (chosen m.drawing)) (length (chords m.drawing))) here

-- one step of code
module _ (d : Drawing) (far n start : ℕ) (taken : List Exit) (here : Exit) (left : ℕ) (so : IsSoFar d far n start taken here left) (some : 0 < left) where
  so_on : IsSoFar d far n start taken here (suc (left - 1))
  so_on = subst (IsSoFar d far n start taken here) (let z : left ≡ suc (left - 1) = omega (arith, some) in z) so

  pub step_stops : (items : List Exit) → items ≡ taken ++ (here ∷ []) → stops_in d far (spot d (glued_segment d here)) ≡ true → items ≡ map (segment_of d) (path_from d far n start)
  step_stops items e h = e ∙ path_stops d far n start taken here (left - 1) so_on h

  pub step_goes : (items : List Exit) → items ≡ taken ++ (here ∷ []) → (next : Exit) → IsOn d next → stops_in d far (spot d (glued_segment d here)) ≡ false
      → spot d next ≡ leaves_by d (spot d (glued_segment d here)) → IsSoFar d far n start items next (left - 1)
  step_goes items e next on h q = subst (λ xs. IsSoFar d far n start xs next (left - 1)) (sym e) (path_goes d far n start taken here (left - 1) so_on next on h q)
