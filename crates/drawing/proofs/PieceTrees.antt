-- The pieces of an embedded drawing form a tree with its chords, and another with its glued segments.
use Rattle.std.proofs.Common.{◌≡◌, ℕ, zero, suc, ◌+◌, ◌-◌, ◌<◌, ◌≤◌, false, eqb, ltb, List, map, length, refl, sym, ◌∙◌, ap, subst, arith, le_refl, ◌⊎◌, inl, inr}
use Rattle.std.specs.List.{sum_by}
use Rattle.std.proofs.lemmas.Bool.{cases_lt, cases_eq, eq-eqb, ne_eqb, lt-ltb}
use Rattle.std.proofs.lemmas.List.Concat.{length-flat_map}
use Rattle.std.proofs.lemmas.List.{length-map}
use Rattle.std.proofs.lemmas.List.FromFn.{length-range_with_len}
use Rattle.obd_base.specs.Lists.{below, Mem}
use Rattle.obd_base.specs.declared.points.Exit.{Exit}
use Rattle.page_surface.specs.Polygon.{partner, sides, arc, arc_count, first_side, second_side}
use Rattle.page_surface.specs.Drawing.{Drawing, Chord, chords, all_exits, offset, points_on, IsEmbedded}
use Rattle.drawing.specs.Pieces.{span_count, piece_of, pieces, gap}
use Rattle.drawing.specs.Points.{crossings_of}
use Rattle.drawing.specs.Cut.{Reached, start, within, across}
use Rattle.drawing.specs.Trees.{Link, Linked, here, along, back, IsTree, chord_link, chord_links, glued_link, glued_links}
use Rattle.obd_base.proofs.lists.Below.{bit, below_mem, mem_below}
use Rattle.obd_base.proofs.lists.Members.{mem_map}
use Rattle.obd_base.proofs.lists.Sums.{sum_same, sum_add, sum_swap, sum_ones, count_below}
use Rattle.drawing.proofs.Lists.{flat_mem, mem_flat, mem_to_map, length_sum}
use Rattle.drawing.proofs.SamePiece.{same_piece_refl}
use Rattle.drawing.proofs.ChordTree.{low, first_after_low}
use Rattle.drawing.proofs.Ends.{side_in, same_count}
use Rattle.drawing.proofs.Diagram.{is_diagram, spot_in}
use Rattle.drawing.proofs.CutAlways.{across_chord, always_cut, chord_spans}
use Rattle.drawing.proofs.PieceCount.{same_name, piece_of-least, piece_of-same, first_named, named_first, name_mem, piece_mem, once_pieces, pieces_are_first_spans, piece_count}

module _ (links : List Link) where
  -- a link, by what its ends are
  over : (link : Link) (u v w : ℕ) → Mem link links → v ≡ link.one → w ≡ link.other → Linked links u v → Linked links u w
  over link u v w m e f r = subst (λ x. Linked links u x) (sym f) (along {link = link} m (subst (λ x. Linked links u x) e r))

  -- and gone the other way
  over_back : (link : Link) (u v w : ℕ) → Mem link links → v ≡ link.other → w ≡ link.one → Linked links u v → Linked links u w
  over_back link u v w m e f r = subst (λ x. Linked links u x) (sym f) (back {link = link} m (subst (λ x. Linked links u x) e r))

  -- ways follow one another
  then_linked : {u v w : ℕ} → Linked links u v → Linked links v w → Linked links u w
  then_linked r here = r
  then_linked r (along m s) = along m (then_linked r s)
  then_linked r (back m s) = back m (then_linked r s)

  -- each way leads back
  back_linked : {u v : ℕ} → Linked links u v → Linked links v u
  back_linked here = here
  back_linked (along m s) = then_linked (back m here) (back_linked s)
  back_linked (back m s) = then_linked (along m here) (back_linked s)

  -- what one vertex reaches reaches all of it
  all_linked : (vertices : List ℕ) (root : ℕ) → ((v : ℕ) → Mem v vertices → Linked links root v) → (v w : ℕ) → Mem v vertices → Mem w vertices → Linked links v w
  all_linked vertices root reach v w m n = then_linked (back_linked (reach v m)) (reach w n)

module _ (d : Drawing) (ok : IsEmbedded d) where
  -- a chord leads from the piece before its lesser end to the piece behind it
  over_chord : (c : Chord) → Mem c (chords d) → (root : ℕ) → Linked (chord_links d) root (piece_of d (low c)) → Linked (chord_links d) root (piece_of d (suc (low c)))
  over_chord c m root r =
      let at = across_chord (chords d) (is_diagram d ok) c m in
      let e : Mem (chord_link d c) (chord_links d) = mem_to_map (chord_link d) c (chords d) m in
      elim (cases_lt c.from c.to) [
        | inl l ↦
            let q : low c ≡ c.from = omega arith in
            over (chord_links d) (chord_link d c) root _ _ e (ap (piece_of d) q) (ap (λ x. piece_of d (suc x)) q) r
        | inr l ↦
            let q : low c ≡ c.to = omega arith in
            over_back (chord_links d) (chord_link d c) root _ _ e
            (ap (piece_of d) q ∙ sym (same_name d (suc c.from) c.to at.1))
            (ap (λ x. piece_of d (suc x)) q ∙ sym (same_name d c.from (suc c.to) at.0)) r
      ]

  -- from the piece of span 0 to that of each span, chord by chord
  down : (n s : ℕ) → s < span_count d → s ≤ n → Linked (chord_links d) (piece_of d 0) (piece_of d s)
  down n zero l h = here
  down zero (suc s) l h = absurd (omega arith)
  down (suc n) (suc s) l h = elim (cases_eq (piece_of d (suc s)) (suc s)) [
    | inl e ↦
        let (c, m, q) = first_after_low (chords d) (is_diagram d ok) s (named_first d (suc s) l e) in
        let r = over_chord c m (piece_of d 0) (subst (λ x. Linked (chord_links d) (piece_of d 0) (piece_of d x)) (sym q) (down n s (omega arith) (omega arith))) in
        subst (λ x. Linked (chord_links d) (piece_of d 0) (piece_of d (suc x))) q r
    | inr ne ↦
        let least = piece_of-least d (suc s) (suc s) l (same_piece_refl (chords d) (suc s)) in
        let same = same_name d (suc s) (piece_of d (suc s)) (piece_of-same d (suc s) l) in
        subst (λ x. Linked (chord_links d) (piece_of d 0) x) (sym same) (down n (piece_of d (suc s)) (omega arith) (omega arith))
  ]

  -- a chord has a piece on each side
  chord_between : (link : Link) → Mem link (chord_links d) → Mem link.one (pieces d) × Mem link.other (pieces d)
  chord_between link m =
      let (c, n, e) = mem_map (chord_link d) link (chords d) m in
      let s = chord_spans d ok c n in
      subst (λ (k : Link). Mem k.one (pieces d) × Mem k.other (pieces d)) (sym e) (name_mem d c.from s.0, name_mem d (suc c.from) s.1)

  -- the pieces and the chords form a tree
  pub chord_tree : IsTree (pieces d) (chord_links d)
  chord_tree = record {
    different = once_pieces d;
    between = chord_between;
    joined = all_linked (chord_links d) (pieces d) (piece_of d 0) (λ v m.
        let r = piece_mem d v m in
        subst (λ x. Linked (chord_links d) (piece_of d 0) x) (first_named d v r.0 r.1) (down v v r.0 (le_refl _)));
    one_more = pieces_are_first_spans d ok ∙ ap suc (sym (length-map (chords d) (chord_link d)));
  }

  -- glued pairs are links
  glued_listed : (a j : ℕ) → a < arc_count d.polygon → j ≤ crossings_of d a → Mem (glued_link d a j) (glued_links d)
  glued_listed a j la lj =
      mem_flat (λ a. map (glued_link d a) (below (suc (crossings_of d a)))) (below (arc_count d.polygon)) a (glued_link d a j) (below_mem _ a la)
      (mem_to_map (glued_link d a) j (below (suc (crossings_of d a))) (below_mem (suc (crossings_of d a)) j (omega arith)))

  -- from the piece of a segment to that of the segment it is glued to
  over_glued : (root k j : ℕ) → k < sides d.polygon → j ≤ points_on d k → Linked (glued_links d) root (piece_of d (offset d k + j))
      → Linked (glued_links d) root (piece_of d (offset d (partner d.polygon k) + (points_on d k - j)))
  over_glued root k j lk lj r = go (ok.polygon.ends k lk).is_end
    where
      a : ℕ
      a = arc d.polygon k

      la : a < arc_count d.polygon
      la = (ok.polygon.ends k lk).arc_in_range

      f : ℕ
      f = first_side d.polygon a

      go : (k ≡ f) ⊎ (k ≡ second_side d.polygon a) → Linked (glued_links d) root (piece_of d (offset d (partner d.polygon k) + (points_on d k - j)))
      go (inl e) =
          let l : j ≤ points_on d f = subst (λ x. j ≤ points_on d x) e lj in
          over (glued_links d) (glued_link d a j) root _ _ (glued_listed a j la l)
          (ap (λ x. piece_of d (offset d x + j)) e)
          (ap (λ x. piece_of d (offset d (partner d.polygon x) + (points_on d x - j))) e) r
      go (inr e) =
          let same : points_on d k ≡ points_on d f = ap (points_on d) e ∙ same_count d ok f in
          let partnered : partner d.polygon k ≡ f = ap (partner d.polygon) e ∙ ok.polygon.pairs.twice f in
          let l : points_on d f - j ≤ points_on d f = omega arith in
          let z : points_on d f - (points_on d f - j) ≡ j = omega (arith, same, lj) in
          let target : offset d (partner d.polygon k) + (points_on d k - j) ≡ offset d f + (points_on d f - j)
          = ap (λ x. offset d x + (points_on d k - j)) partnered ∙ ap (λ x. offset d f + (x - j)) same in
          let source : offset d k + j ≡ offset d (second_side d.polygon a) + (points_on d f - (points_on d f - j))
          = ap (λ x. offset d x + j) e ∙ ap (λ x. offset d (second_side d.polygon a) + x) (sym z) in
          over_back (glued_links d) (glued_link d a (points_on d f - j)) root _ _ (glued_listed a (points_on d f - j) la l) (ap (piece_of d) source) (ap (piece_of d) target) r

  -- a way through pieces and glued segments is one over links
  reached_linked : {s t : ℕ} → Reached d s t → Linked (glued_links d) (piece_of d s) (piece_of d t)
  reached_linked start = here
  reached_linked {s = s} (within l h p r) = subst (λ x. Linked (glued_links d) (piece_of d s) x) (same_name d _ _ p) (reached_linked r)
  reached_linked {s = s} (across {k = k} {j = j} lk lj r) = over_glued (piece_of d s) k j lk lj (reached_linked r)

  -- glued segments have a piece each
  glued_between : (link : Link) → Mem link (glued_links d) → Mem link.one (pieces d) × Mem link.other (pieces d)
  glued_between link m =
      let (a, i, n) = flat_mem (λ a. map (glued_link d a) (below (suc (crossings_of d a)))) (below (arc_count d.polygon)) link m in
      let (j, h, e) = mem_map (glued_link d a) link (below (suc (crossings_of d a))) n in
      let f = first_side d.polygon a in
      let lf = ok.polygon.first_in_range a (mem_below _ a i) in
      let lj = mem_below (suc (crossings_of d a)) j h in
      let one = spot_in d ok f j lf (omega arith) in
      let other = spot_in d ok (second_side d.polygon a) (crossings_of d a - j) (ok.polygon.pairs.in_range f lf) (omega (arith, same_count d ok f)) in
      subst (λ (k : Link). Mem k.one (pieces d) × Mem k.other (pieces d)) (sym e) (name_mem d _ one, name_mem d _ other)

  -- how often an exit and its entry are on the first side of an arc
  abbrev on_first : Exit → ℕ → ℕ
  on_first e a = bit (eqb e.side (first_side d.polygon a)) + bit (eqb (partner d.polygon e.side) (first_side d.polygon a))

  -- of all arcs that is the case once
  first_once : (e : Exit) → Mem e (all_exits d) → sum_by (on_first e) (below (arc_count d.polygon)) ≡ 1
  first_once e m =
      let k = e.side in
      let l = side_in d ok e m in
      let a = arc d.polygon k in
      let in_range : bit (ltb a (arc_count d.polygon)) ≡ 1 = ap bit (lt-ltb _ _ (ok.polygon.ends k l).arc_in_range) in
      sum_same (on_first e) (λ i. bit (eqb a i)) (below (arc_count d.polygon)) (λ i im. term k i l (mem_below _ i im)) ∙ (count_below a (arc_count d.polygon) ∙ in_range)
    where
      term : (k i : ℕ) → k < sides d.polygon → i < arc_count d.polygon
          → bit (eqb k (first_side d.polygon i)) + bit (eqb (partner d.polygon k) (first_side d.polygon i)) ≡ bit (eqb (arc d.polygon k) i)
      term k i lk li = elim (cases_eq (arc d.polygon k) i) [
        | inr ne ↦
            let a : eqb k (first_side d.polygon i) ≡ false = ne_eqb _ _ (λ q. ne (ap (arc d.polygon) q ∙ ok.polygon.first_named i li)) in
            let b : eqb (partner d.polygon k) (first_side d.polygon i) ≡ false = ne_eqb _ _ (λ q. ne (sym (ok.polygon.shared k lk) ∙ (ap (arc d.polygon) q ∙ ok.polygon.first_named i li))) in
            rw (a, b, ne_eqb _ _ ne) refl
        | inl e ↦
            let f = first_side d.polygon i in
            let which : (k ≡ f) ⊎ (k ≡ second_side d.polygon i) = subst (λ a. (k ≡ first_side d.polygon a) ⊎ (k ≡ second_side d.polygon a)) e (ok.polygon.ends k lk).is_end in
            elim which [
              | inl q ↦ rw (eq-eqb k f q, ne_eqb (partner d.polygon k) f (λ z. ok.polygon.pairs.moves k lk (z ∙ sym q)), eq-eqb _ _ e) refl
              | inr q ↦
                  let p : partner d.polygon k ≡ f = ap (partner d.polygon) q ∙ ok.polygon.pairs.twice f in
                  rw (eq-eqb _ _ p, ne_eqb k f (λ z. ok.polygon.pairs.moves k lk (p ∙ sym z)), eq-eqb _ _ e) refl
            ]
      ]

  -- the first sides have all crossing points
  all_crossings : sum_by (crossings_of d) (below (arc_count d.polygon)) ≡ length (all_exits d)
  all_crossings =
      let n = arc_count d.polygon in
      let one = sum_same (crossings_of d) (λ a. sum_by (λ e. on_first e a) (all_exits d)) (below n)
      (λ a m. sym (sum_add (λ e. bit (eqb e.side (first_side d.polygon a))) (λ e. bit (eqb (partner d.polygon e.side) (first_side d.polygon a))) (all_exits d))) in
      let two = sum_swap (λ a e. on_first e a) (below n) (all_exits d) in
      let three = sum_same (λ e. sum_by (on_first e) (below n)) (λ e. 1) (all_exits d) first_once in
      one ∙ (two ∙ (three ∙ sym (length_sum (all_exits d))))

  -- as many glued pairs as crossing points and arcs
  glued_count : length (glued_links d) ≡ length (all_exits d) + arc_count d.polygon
  glued_count =
      let n = arc_count d.polygon in
      let g : ℕ → List Link = λ a. map (glued_link d a) (below (suc (crossings_of d a))) in
      let one : length (glued_links d) ≡ sum_by (λ a. length (g a)) (below n) = length-flat_map g (below n) in
      let two = sum_same (λ a. length (g a)) (λ a. 1 + crossings_of d a) (below n)
      (λ a m. length-map (below (suc (crossings_of d a))) (glued_link d a) ∙ (length-range_with_len 0 (suc (crossings_of d a)) ∙ omega arith)) in
      let three = sum_add (λ a. 1) (crossings_of d) (below n) in
      omega (arith, one, two, three, sum_ones n, all_crossings)

  -- the pieces and the pairs of glued segments form a tree
  pub glued_tree : IsTree (pieces d) (glued_links d)
  glued_tree = record {
    different = once_pieces d;
    between = glued_between;
    joined = all_linked (glued_links d) (pieces d) (piece_of d (gap d 0)) (λ v m.
        let r = piece_mem d v m in
        subst (λ x. Linked (glued_links d) (piece_of d (gap d 0)) x) (first_named d v r.0 r.1) (reached_linked (always_cut d ok v r.0)));
    one_more = omega (arith, piece_count d ok, glued_count);
  }
