-- What a burst pushes is there, and its numbers are small where the drawing after it has few points.
use Rattle.std.proofs.Common.{◌≡◌, ℕ, zero, suc, ◌+◌, ◌*◌, ◌<◌, ◌≤◌, ◌^◌, false, List, [], ◌∷◌, map, length, get_or, sym, ◌∙◌, ap, subst, arith, inl, inr}
use Rattle.std.specs.List.{flat_map}
use Rattle.std.proofs.lemmas.List.{length-append, length-map}
use Rattle.obd_base.specs.Lists.{Mem}
use Rattle.obd_base.specs.declared.points.Exit.{Exit}
use Rattle.page_surface.specs.Drawing.{Drawing, IsEmbedded, all_exits, chords}
use Rattle.page_surface.specs.Polygon.{sides}
use Rattle.drawing.proofs.Diagram.{chord_count}
use Rattle.region_table.proofs.Labels.{distance_small}
use Rattle.drawing.specs.Pieces.{distance}
use Rattle.finger_move.specs.Glued.{segment_of}
use Rattle.region_table.specs.Nice.{is_nice}
use Rattle.nice_plan.specs.declared.chord_name.ChordName.{ChordName}
use Rattle.nice_plan.specs.Burst.{burst, chord_ending, doors, named_chords, path}
use Rattle.nice_plan.specs.Path.{chosen, doors_from}
use Rattle.nice_plan.specs.Measured.{IsChordOn, IsOn}
use Rattle.nice_plan.proofs.BurstLegal.{planned}
use Rattle.nice_plan.proofs.BurstLength.{doors_length, rows_length}
use Rattle.nice_plan.proofs.PathEnds.{whole_path}
use Rattle.nice_plan.proofs.PathSegments.{AllStand, Pair}
use Rattle.nice_plan.proofs.Rows.{Door}
use Rattle.nice_plan.proofs.Tracing.{AllNamed}

-- a strand has no more exits than all strands together
pub strand_few : (rows : List (List Exit)) (i : ℕ) → length (get_or rows i []) ≤ length (flat_map (λ strand. strand) rows)
strand_few [] i = omega arith
strand_few (row ∷ rows) zero = omega (arith, length-append row (flat_map (λ strand. strand) rows))
strand_few (row ∷ rows) (suc i) = omega (arith, length-append row (flat_map (λ strand. strand) rows), strand_few rows i)

standing_on : (d : Drawing) (es : List Exit) (ps : List Pair) → AllStand d es ps → (e : Exit) → Mem e es → IsOn d e
standing_on d [] ps h e m = absurd m
standing_on d (x ∷ es) [] h e m = absurd h
standing_on d (x ∷ es) (p ∷ ps) h e (inl q) = subst (IsOn d) (sym q) (record { side = h.0.side; place = h.0.place })
standing_on d (x ∷ es) (p ∷ ps) h e (inr m) = standing_on d es ps h.1 e m

named_on : (d : Drawing) (ns : List ChordName) (gs : List Door) → AllNamed d (λ e. e) ns gs → (c : ChordName) → Mem c ns → IsChordOn d c
named_on d [] gs h c m = absurd m
named_on d (n ∷ ns) [] h c m = absurd h
named_on d (n ∷ ns) (g ∷ gs) h c (inl q) = subst (IsChordOn d) (sym q) (record { strand = h.0.strand; chord = h.0.chord })
named_on d (n ∷ ns) (g ∷ gs) h c (inr m) = named_on d ns gs h.1 c m

module _ (d : Drawing) (ok : IsEmbedded d) (bad : is_nice d ≡ false) where
  -- the segments of the path are there
  pub path_on : (segments : List Exit) → segments ≡ map (segment_of d) (path d) → (e : Exit) → Mem e segments → IsOn d e
  path_on segments q e m = standing_on d (map (segment_of d) (path d)) _ (planned d ok bad).stand e (subst (λ es. Mem e es) q m)

  -- and there is one
  pub path_some : (segments : List Exit) → segments ≡ map (segment_of d) (path d) → 1 ≤ length segments
  path_some segments q = let a = ap length q in omega (arith, a, length-map (path d) (segment_of d), (whole_path d ok bad).long)

  -- the chords are there too
  pub doors_on : (chords : List ChordName) → chords ≡ doors d → (c : ChordName) → Mem c chords → IsChordOn d c
  doors_on chords q c m = named_on d (doors d) _ (planned d ok bad).named c (subst (λ cs. Mem c cs) q m)

  -- and the drawing after the burst has few points
  pub burst_few : (chords : List ChordName) (segments : List Exit) → chords ≡ doors d → segments ≡ map (segment_of d) (path d)
      → length (all_exits d) + 2 * length (burst d) < 2 ^ 28 → length (all_exits d) + 2 * (length chords * length segments) < 2 ^ 28
  burst_few chords segments p q few =
      subst (λ es. length (all_exits d) + 2 * (length chords * length es) < 2 ^ 28) (sym q)
      (subst (λ cs. length (all_exits d) + 2 * (length cs * length (map (segment_of d) (path d))) < 2 ^ 28) (sym p)
      (subst (λ n. length (all_exits d) + 2 * n < 2 ^ 28) (rows_length d (doors d) (λ e. e) (map (segment_of d) (path d))) few))

  -- of which there is one
  pub doors_some : (chords : List ChordName) → chords ≡ doors d → 1 ≤ length chords
  doors_some chords q =
      let a = ap length q in
      let b = length-map (doors_from d (distance d (chosen d)) (chosen d)) (chord_ending (named_chords d)) in
      omega (arith, a, b, doors_length d (distance d (chosen d)) (chosen d), (planned d ok bad).far_is)

  -- neither are more than the chords of the drawing
  pub doors_few : (chords_pushed : List ChordName) → chords_pushed ≡ doors d → length chords_pushed ≤ length (chords d)
  doors_few chords_pushed q =
      let a = ap length q in
      let b = length-map (doors_from d (distance d (chosen d)) (chosen d)) (chord_ending (named_chords d)) in
      omega (arith, a, b, doors_length d (distance d (chosen d)) (chosen d), distance_small d ok (chosen d))

  pub path_few : (segments : List Exit) → segments ≡ map (segment_of d) (path d) → length segments ≤ length (chords d)
  path_few segments q = let a = ap length q in omega (arith, a, length-map (path d) (segment_of d), (whole_path d ok bad).short)

-- and these are few
pub chords_few : (d : Drawing) → IsEmbedded d → sides d.polygon ≤ 16 → length (all_exits d) < 2 ^ 28 → length (chords d) < 2 ^ 30
chords_few d ok sides_few few = omega (arith, chord_count d ok.strand_count, ok.polygon.even, sides_few, few)

-- the burst has a finger for each chord and each segment
pub burst_size : (d : Drawing) (pushed : List ChordName) (segments : List Exit) → pushed ≡ doors d → segments ≡ map (segment_of d) (path d) → length (burst d) ≡ length pushed * length segments
burst_size d pushed segments p q =
    rows_length d (doors d) (λ e. e) (map (segment_of d) (path d)) ∙ (ap (λ cs. length cs * length (map (segment_of d) (path d))) (sym p) ∙ ap (λ es. length pushed * length es) (sym q))
