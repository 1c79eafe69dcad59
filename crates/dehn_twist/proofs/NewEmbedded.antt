-- The surgery is embedded: its chords with their labels, and that no two of them cross.
use Rattle.std.proofs.Common.{◌≡◌, ◌≢◌, ℕ, ◌+◌, ◌<◌, ◌≤◌, true, List, [], ◌∷◌, ◌++◌, map, refl, sym, ◌∙◌, ap, ap₂, subst, inl, inr, arith}
use Rattle.std.specs.List.{flat_map, sum_by}
use Rattle.std.proofs.lemmas.List.Sums.{sum_by-append, sum_by-cons}
use Rattle.std.proofs.lemmas.List.FromFn.{get_or-map-range_with_len}
use Rattle.obd_base.specs.Lists.{Mem, below}
use Rattle.obd_base.specs.declared.points.Exit.{Exit}
use Rattle.obd_base.specs.declared.points.Sign.{Sign}
use Rattle.obd_base.proofs.lists.Below.{below_mem, bit, mem_below}
use Rattle.obd_base.proofs.lists.Members.{mem_map}
use Rattle.obd_base.proofs.lists.Sums.{members_add, sum_flat, sum_same}
use Rattle.page_surface.specs.Drawing.{Chord, Drawing, IsEmbedded, all_exits, chords, cut_strand, end_of, entry, no_two_cross, spot, strand_chords, strand_exits}
use Rattle.page_surface.specs.Polygon.{Polygon, arc_count, first_side, second_side}
use Rattle.curve_paths.specs.Curves.{IsCurve}
use Rattle.drawing.proofs.Lists.{flat_mem, mem_flat, mem_to_map}
use Rattle.curve_paths.specs.Alphabet.{Null}
use Rattle.dehn_twist.specs.Surgery.{kept_point, loop_at, meeting_count, meetings, merged_chords, merged_cut, strand_number, surgery, surgery_strand}
use Rattle.dehn_twist.proofs.ChordRuns.{chord_runs, post_of, rights}
use Rattle.dehn_twist.proofs.Circle.{Part}
use Rattle.dehn_twist.proofs.LabelCounts.{all_few, label_test}
use Rattle.dehn_twist.proofs.Labelled.{LabelledChords, labelled_uncrossed}
use Rattle.dehn_twist.proofs.Merged.{exits_in, is_placed'}
use Rattle.dehn_twist.proofs.NewCircle.{map-map, map_flat, post_label}
use Rattle.dehn_twist.proofs.NewPlaced.{new_placed}
use Rattle.dehn_twist.proofs.NewPlaces.{kept_across}
use Rattle.dehn_twist.proofs.NewPoints.{circle_covered, circle_null, circle_rises, end_there, kept_there, new_circle}
use Rattle.dehn_twist.proofs.PartNames.{part_letters}
use Rattle.dehn_twist.proofs.Runs.{NewRuns, Runs, runs_join}
use Rattle.drawing.proofs.Mates.{chord_cases}
use Rattle.drawing.proofs.Placed.{at_most_one_end-placed, ends_at, place_in-placed, same_count-placed, side_in-placed}

module _ (new : Drawing) (points : List (Exit × Part)) where
  -- a strand cut at its exits, with the label of each chord
  abbrev pub labelled_cut : Exit → Part → List Exit → List Part → Exit → List (Chord × Part)
  labelled_cut a x [] rs z = (record { from = spot new a; to = spot new z }, x) ∷ []
  labelled_cut a x (e ∷ es) [] z = (record { from = spot new a; to = spot new e }, x) ∷ labelled_cut (entry new e) x es [] z
  labelled_cut a x (e ∷ es) (r ∷ rs) z = (record { from = spot new a; to = spot new e }, x) ∷ labelled_cut (entry new e) r es rs z

  -- its chords
  pub cut_chords : (es : List Exit) (a z : Exit) (x : Part) (rs : List Part) → map (λ (e : Chord × Part). e.0) (labelled_cut a x es rs z) ≡ cut_strand new a es z
  cut_chords [] a z x rs = refl
  cut_chords (e ∷ es) a z x [] = ap (λ t. record { from = spot new a; to = spot new e } ∷ t) (cut_chords es (entry new e) z x [])
  cut_chords (e ∷ es) a z x (r ∷ rs) = ap (λ t. record { from = spot new a; to = spot new e } ∷ t) (cut_chords es (entry new e) z r rs)

  -- the numbers of the points with their labels
  abbrev pub numbered : List (ℕ × Part)
  numbered = map (λ (z : Exit × Part). (spot new z.0, z.1)) points

  there : (e : Exit) (x : Part) → Mem (e, x) points → Mem (spot new e, x) numbered
  there e x m = mem_to_map (λ (z : Exit × Part). (spot new z.0, z.1)) (e, x) points m

  -- its ends are points with the same labels
  pub cut_there : (es : List Exit) (a z : Exit) (x y : Part) (rs : List Part) → Mem (a, x) points → Mem (z, y) points → Runs new points x es rs y
      → (e : Chord × Part) → Mem e (labelled_cut a x es rs z) → Mem (e.0.from, e.1) numbered × Mem (e.0.to, e.1) numbered
  cut_there [] a z x y [] ma mz h e (inl q) =
      subst (λ e. Mem (e.0.from, e.1) numbered × Mem (e.0.to, e.1) numbered) (sym q) (there a x ma, there z x (subst (λ w. Mem (z, w) points) (sym h) mz))
  cut_there [] a z x y [] ma mz h e (inr m) = absurd m
  cut_there [] a z x y (r ∷ rs) ma mz h e m = absurd h
  cut_there (f ∷ es) a z x y [] ma mz h e m = absurd h
  cut_there (f ∷ es) a z x y (r ∷ rs) ma mz h e (inl q) = subst (λ e. Mem (e.0.from, e.1) numbered × Mem (e.0.to, e.1) numbered) (sym q) (there a x ma, there f x h.0)
  cut_there (f ∷ es) a z x y (r ∷ rs) ma mz h e (inr m) = cut_there es (entry new f) z r y rs h.1 mz h.2 e m

  -- a sum over the labels
  pub cut_sum : (f : Part → ℕ) (es : List Exit) (a z : Exit) (x y : Part) (rs : List Part) → Runs new points x es rs y
      → sum_by (λ (e : Chord × Part). f e.1) (labelled_cut a x es rs z) ≡ f x + sum_by f rs
  cut_sum f [] a z x y [] h = let s = sum_by-cons (λ (e : Chord × Part). f e.1) (record { from = spot new a; to = spot new z }, x) [] in omega (arith, s)
  cut_sum f [] a z x y (r ∷ rs) h = absurd h
  cut_sum f (e ∷ es) a z x y [] h = absurd h
  cut_sum f (e ∷ es) a z x y (r ∷ rs) h =
      let s = sum_by-cons (λ (e : Chord × Part). f e.1) (record { from = spot new a; to = spot new e }, x) (labelled_cut (entry new e) r es rs z) in
      omega (arith, s, cut_sum f es (entry new e) z r y rs h.2, sum_by-cons f r rs)

module _ (d : Drawing) (dok : IsEmbedded d) (c : List Exit) (curve : IsCurve d.polygon c) (g : Sign) where
  abbrev p : Polygon
  p = d.polygon

  abbrev total : ℕ
  total = meeting_count d c

  abbrev new : Drawing
  new = surgery d c g

  abbrev circle : List (Exit × Part)
  circle = new_circle d dok c curve g

  abbrev post : Exit → Part
  post e = post_label d dok c curve g e

  -- the labels behind the exits of a strand
  abbrev pub strand_labels : Exit → List Exit → Exit → List Part
  strand_labels a [] z = let t : Chord = record { from = strand_number d c a; to = strand_number d c z } in flat_map (rights d dok c curve g t) (meetings d c t)
  strand_labels a (e ∷ es) z =
      let t : Chord = record { from = strand_number d c a; to = strand_number d c e } in
      flat_map (rights d dok c curve g t) (meetings d c t) ++ (post_label d dok c curve g (entry d e) ∷ strand_labels (entry d e) es z)

  strand_runs : (a z : Exit) (es : List Exit) → ((t : Chord) → Mem t (merged_cut d c a es z) → Mem t (merged_chords d c)) → ((e : Exit) → Mem e es → Mem e (all_exits d))
      → NewRuns d dok c curve g (post a) (surgery_strand d c g total a es z) (strand_labels a es z) (post z)
  strand_runs a z [] h k = chord_runs d dok c curve g (record { from = strand_number d c a; to = strand_number d c z }) (h (record { from = strand_number d c a; to = strand_number d c z }) (inl refl))
  strand_runs a z (e ∷ es) h k =
      let t : Chord = record { from = strand_number d c a; to = strand_number d c e } in
      let m = k e (inl refl) in
      let le = side_in-placed d (is_placed' d dok c curve) e m in
      let pe = place_in-placed d (is_placed' d dok c curve) e m in
      let s = same_count-placed d (is_placed' d dok c curve) e.side in
      runs_join new circle (flat_map (loop_at d c g total t) (meetings d c t)) (kept_point d c total e ∷ surgery_strand d c g total (entry d e) es z)
      (flat_map (rights d dok c curve g t) (meetings d c t)) (post (entry d e) ∷ strand_labels (entry d e) es z) (post a) (post e) (post z)
      (chord_runs d dok c curve g t (h t (inl refl))) (
        kept_there d dok c curve g e le pe,
        subst (λ y. Mem (y, post (entry d e)) circle) (sym (kept_across d dok c curve g e m)) (kept_there d dok c curve g (entry d e) (dok.polygon.pairs.in_range e.side le) (omega (arith, s, pe))),
        strand_runs (entry d e) z es (λ t j. h t (inr j)) (λ x j. k x (inr j)),
      )

  -- a sum over the labels of a strand is one over its chords
  strand_sum : (f : Part → ℕ) (a z : Exit) (es : List Exit) → f (post a) + sum_by f (strand_labels a es z)
      ≡ sum_by (λ t. f (post_of d dok c curve g t.from) + sum_by f (flat_map (rights d dok c curve g t) (meetings d c t))) (merged_cut d c a es z)
  strand_sum f a z [] =
      let t : Chord = record { from = strand_number d c a; to = strand_number d c z } in
      let h = λ (t : Chord). f (post_of d dok c curve g t.from) + sum_by f (flat_map (rights d dok c curve g t) (meetings d c t)) in
      omega (arith, sum_by-cons h t [])
  strand_sum f a z (e ∷ es) =
      let t : Chord = record { from = strand_number d c a; to = strand_number d c e } in
      let h = λ (t : Chord). f (post_of d dok c curve g t.from) + sum_by f (flat_map (rights d dok c curve g t) (meetings d c t)) in
      let rs = flat_map (rights d dok c curve g t) (meetings d c t) in
      omega (
        arith,
        sum_by-append f rs (post (entry d e) ∷ strand_labels (entry d e) es z),
        sum_by-cons f (post (entry d e)) (strand_labels (entry d e) es z),
        strand_sum f (entry d e) z es,
        sum_by-cons h t (merged_cut d c (entry d e) es z),
      )

  abbrev start : ℕ → Exit
  start i = end_of d (second_side d.polygon i)

  abbrev finish : ℕ → Exit
  finish i = end_of d (first_side d.polygon i)

  abbrev strand : ℕ → List Exit
  strand i = surgery_strand d c g (meeting_count d c) (end_of d (second_side d.polygon i)) (strand_exits d i) (end_of d (first_side d.polygon i))

  abbrev labelled_strand : ℕ → List (Chord × Part)
  labelled_strand i = labelled_cut (surgery d c g) (new_circle d dok c curve g) (end_of (surgery d c g) (second_side d.polygon i)) (post_label d dok c curve g (end_of d (second_side d.polygon i)))
      (strand i) (strand_labels (end_of d (second_side d.polygon i)) (strand_exits d i) (end_of d (first_side d.polygon i))) (end_of (surgery d c g) (first_side d.polygon i))

  abbrev labelled : List (Chord × Part)
  labelled = flat_map labelled_strand (below (arc_count d.polygon))

  runs_of : (i : ℕ) → i < arc_count p → NewRuns d dok c curve g (post (start i)) (strand i) (strand_labels (start i) (strand_exits d i) (finish i)) (post (finish i))
  runs_of i l = strand_runs (start i) (finish i) (strand_exits d i)
      (λ t m. mem_flat (λ i. merged_cut d c (start i) (strand_exits d i) (finish i)) (below (arc_count p)) i t (below_mem (arc_count p) i l) m) (exits_in d dok c curve i)

  labelled_chords : map (λ (e : Chord × Part). e.0) labelled ≡ chords new
  labelled_chords = map_flat (λ (e : Chord × Part). e.0) labelled_strand (below (arc_count p)) ∙ go (below (arc_count p)) (λ i m. mem_below (arc_count p) i m)
    where
      go : (is : List ℕ) → ((i : ℕ) → Mem i is → i < arc_count p) → flat_map (λ i. map (λ (e : Chord × Part). e.0) (labelled_strand i)) is ≡ flat_map (strand_chords new) is
      go [] h = refl
      go (i ∷ is) h =
          let l = h i (inl refl) in
          let e : strand_exits new i ≡ strand i = get_or-map-range_with_len strand 0 (arc_count p) i i [] l (omega arith) in
          ap₂ (λ x y. x ++ y)
          (cut_chords new circle (strand i) (end_of new (second_side p i)) (end_of new (first_side p i)) (post (start i)) (strand_labels (start i) (strand_exits d i) (finish i))
          ∙ ap (λ es. cut_strand new (end_of new (second_side p i)) es (end_of new (first_side p i))) (sym e))
          (go is (λ k m. h k (inr m)))

  both_there : (e : Chord × Part) → Mem e labelled → Mem (e.0.from, e.1) (numbered new circle) × Mem (e.0.to, e.1) (numbered new circle)
  both_there e m =
      let (i, k, w) = flat_mem labelled_strand (below (arc_count p)) e m in
      let l = mem_below (arc_count p) i k in
      let f = dok.polygon.first_in_range i l in
      let s = dok.polygon.pairs.in_range (first_side p i) f in
      cut_there new circle (strand i) (end_of new (second_side p i)) (end_of new (first_side p i)) (post (start i)) (post (finish i)) (strand_labels (start i) (strand_exits d i) (finish i))
      (end_there d dok c curve g (second_side p i) s) (end_there d dok c curve g (first_side p i) f) (runs_of i l) e w

  -- a sum over all labels
  labels_sum : (f : Part → ℕ) → sum_by (λ (e : Chord × Part). f e.1) labelled ≡ sum_by (λ t. f (post_of d dok c curve g t.from) + sum_by f (flat_map (rights d dok c curve g t) (meetings d c t))) (merged_chords d c)
  labels_sum f =
      let h = λ (t : Chord). f (post_of d dok c curve g t.from) + sum_by f (flat_map (rights d dok c curve g t) (meetings d c t)) in
      sum_flat (λ (e : Chord × Part). f e.1) labelled_strand (below (arc_count p))
      ∙ (sum_same _ (λ i. sum_by h (merged_cut d c (start i) (strand_exits d i) (finish i))) (below (arc_count p)) (λ i m.
      let l = mem_below (arc_count p) i m in
      cut_sum new circle f (strand i) (end_of new (second_side p i)) (end_of new (first_side p i)) (post (start i)) (post (finish i)) (strand_labels (start i) (strand_exits d i) (finish i)) (runs_of i l)
      ∙ strand_sum f (start i) (finish i) (strand_exits d i))
      ∙ sym (sum_flat h (λ i. merged_cut d c (start i) (strand_exits d i) (finish i)) (below (arc_count p))))

  told : (e f : Chord × Part) → Mem e labelled → Mem f labelled → e.1 ≡ f.1 → e.0 ≡ f.0
  told e f me mf q = elim (chord_cases e.0 f.0) [
    | inl h ↦ h
    | inr n ↦ absurd (
        let k = members_add (λ (z : Chord × Part). bit (label_test e.1 z.1)) e f labelled me mf (λ s. n (ap (λ z. z.0) s)) in
        let a : bit (label_test e.1 e.1) ≡ 1 = ap bit (part_letters.same_self e.1) in
        let b : bit (label_test e.1 f.1) ≡ 1 = ap (λ z. bit (label_test e.1 z)) (sym q) ∙ a in
        let s = labels_sum (λ r. bit (label_test e.1 r)) in
        let w = all_few d dok c curve g e.1 in
        omega (arith, k, a, b, s, w))
  ]

  labels : LabelledChords part_letters (λ x. refl) labelled (numbered new circle)
  labels = record {
    once = λ x. subst (λ cs. ends_at cs x ≤ 1) (sym labelled_chords) (at_most_one_end-placed new (new_placed d dok c curve g) x);
    rises = circle_rises d dok c curve g;
    from_there = λ e m. (both_there e m).0;
    to_there = λ e m. (both_there e m).1;
    covered = λ z m.
        let r = mem_map (λ (z : Exit × Part). (spot new z.0, z.1)) z circle m in
        let w : ends_at (chords new) z.0 ≢ 0 = subst (λ y. ends_at (chords new) y.0 ≢ 0) (sym r.2) (circle_covered d dok c curve g r.0 r.1) in
        subst (λ cs. ends_at cs z.0 ≢ 0) (sym labelled_chords) w;
    told = told;
    null = subst (Null part_letters) (sym (map-map (λ (z : ℕ × Part). z.1) (λ (z : Exit × Part). (spot new z.0, z.1)) circle)) (circle_null d dok c curve g);
  }

  -- no two chords of the surgery cross
  pub new_uncrossed : no_two_cross (chords (surgery d c g)) ≡ true
  new_uncrossed = ap no_two_cross (sym labelled_chords) ∙ labelled_uncrossed part_letters (λ x. refl) labelled (numbered new circle) labels

  -- the surgery is embedded
  pub surgery_embedded : IsEmbedded (surgery d c g)
  surgery_embedded =
      let h = new_placed d dok c curve g in
      record { polygon = h.polygon; strand_count = h.strand_count; on_sides = h.on_sides; places = h.places; uncrossed = new_uncrossed }
