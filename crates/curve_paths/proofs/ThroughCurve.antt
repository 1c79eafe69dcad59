-- The exits of a path that are left after joining are a curve of the joined polygon.
use Rattle.std.proofs.Common.{◌≡◌, ℕ, ◌-◌, ◌<◌, Bool, true, false, cond, not, List, [], map, length, reverse, get_or, refl, sym, subst, ap, ap₂, ◌∙◌, inl, arith}
use Rattle.std.specs.List.{flat_map, position_or_len}
use Rattle.std.proofs.lemmas.List.Folds.{flat_map-map}
use Rattle.std.proofs.lemmas.List.{get_or-map, length-map}
use Rattle.obd_base.specs.Lists.{Mem, below}
use Rattle.obd_base.specs.declared.points.Exit.{Exit}
use Rattle.obd_base.proofs.lists.Below.{mem_below, once_range, passing_of}
use Rattle.obd_base.proofs.lists.Sums.{by_entries}
use Rattle.page_surface.specs.declared.page.SideLabel.{SideLabel}
use Rattle.page_surface.specs.Drawing.{exit}
use Rattle.page_surface.specs.Joining.{has_side, is_side, joined, other_side, polygon_of, side}
use Rattle.page_surface.specs.Labels.{Label, labels_of, side_labels_of}
use Rattle.page_surface.specs.Page.{IsPage}
use Rattle.page_surface.specs.Polygon.{Pairs, Polygon, partner, sides}
use Rattle.page_surface.proofs.Sides.{length-side_labels_of}
use Rattle.arc_basis.specs.Basis.{joined_polygon, joined_sides}
use Rattle.arc_basis.proofs.Places.{any_counted}
use Rattle.curve_paths.specs.Alphabet.{Null}
use Rattle.curve_paths.specs.Curves.{IsCurve, exit_at}
use Rattle.curve_paths.specs.PathRules.{IsPath}
use Rattle.curve_paths.specs.PathTables.{HaveOccurrences}
use Rattle.curve_paths.specs.Paths.{crossing_at, crossings, place_on, row}
use Rattle.curve_paths.specs.Through.{exits_through}
use Rattle.curve_paths.specs.declared.crossing.Crossing.{Crossing}
use Rattle.curve_paths.specs.declared.path.Cross.{Cross}
use Rattle.curve_paths.proofs.Carried.{many, out, out_at, outs, partner_place, place, size, stands_there}
use Rattle.curve_paths.proofs.CurvePoints.{following}
use Rattle.curve_paths.proofs.Kept.{within}
use Rattle.curve_paths.proofs.Members.{mem_get_or}
use Rattle.curve_paths.proofs.Starts.{none}
use Rattle.curve_paths.proofs.Circle.{chord_of, circle, curve_from_null, map_twice}
use Rattle.arc_basis.proofs.JoinAll.{StandOnce, all_keep}
use Rattle.curve_paths.proofs.NameWords.{flat_same, map_reverse, map_same, names}
use Rattle.arc_basis.proofs.OneItem.{index_of}
use Rattle.curve_paths.proofs.Passings.{IsPassed, Passing, across, all_across, at, out as out_of}
use Rattle.curve_paths.proofs.PathWords.{passing_side, polygon_null, table, table_passed, through_side, word}
use Rattle.curve_paths.proofs.Ranks.{part_after, part_kept, part_of, part_over, rank, rank_less}
use Rattle.curve_paths.proofs.SeamWords.{AllNull, null_step}
use Rattle.curve_paths.proofs.Through.{placed, row_curve, whole, exits_count, exit_is, side_named, once_left, placed_left, place_is, crossing_named, kept_with, seam_gone, row_is_polygon}
use Rattle.arc_basis.proofs.Rows.{had_mem, once_in_row}

module _ (page : List (List Label)) (path : List Cross) (valid : IsPage page) (rules : IsPath page path) (occurrences : HaveOccurrences path) where
  abbrev cs : List Crossing
  cs = crossings page path

  abbrev n : ℕ
  n = length cs

  abbrev ok : Pairs (polygon_of (row page))
  ok = (row_is_polygon page path valid rules occurrences).pairs

  abbrev left : List SideLabel
  left = joined_sides (joined page)

  abbrev is_kept : ℕ → Bool
  is_kept i = has_side (crossing_at (crossings page path) i).side (joined_sides (joined page))

  abbrev ranks : ℕ → ℕ
  ranks i = rank is_kept n i

  abbrev place_left : SideLabel → ℕ
  place_left s = position_or_len (is_side s) left

  abbrev becomes : ℕ → Exit
  becomes i = let c = crossing_at cs i in exit (place_left c.side) (place_on cs c.side c.place)

  abbrev es : List Exit
  es = exits_through page path

  abbrev side_left : ℕ → SideLabel
  side_left k = get_or left k none

  abbrev rows : ℕ → List Passing
  rows k = table page valid cs (placed page path valid rules occurrences) ok (row_curve page path valid rules occurrences) k

  abbrev where_is : SideLabel → ℕ
  where_is s = place page valid cs (placed page path valid rules occurrences) s

  abbrev renamed : Passing → Passing
  renamed a = record { number = ranks a.number; leaves = a.leaves }

  -- the passings through side k of what is left
  abbrev rows_left : ℕ → List Passing
  rows_left k = map renamed (rows (where_is (side_left k)))

  in_row : (k : ℕ) → k < length left → (where_is (side_left k) < length (row page)) × (get_or (row page) (where_is (side_left k)) none ≡ side_left k)
  in_row k l = stands_there page valid cs (placed page path valid rules occurrences) (side_left k) (side_named page path valid rules occurrences k l)

  label_of : (a : Passing) (s : SideLabel) → through_side page valid cs (placed page path valid rules occurrences) ok (row_curve page path valid rules occurrences) a ≡ s → (crossing_at cs a.number).side.label ≡ s.label
  label_of a s e = go a.leaves refl
    where
      c : SideLabel
      c = (crossing_at cs a.number).side

      go : (b : Bool) → a.leaves ≡ b → (crossing_at cs a.number).side.label ≡ s.label
      go true t = ap (λ (x : SideLabel). x.label) (sym (ap (λ b. cond b (crossing_at cs a.number).side (other_side (crossing_at cs a.number).side)) t) ∙ e)
      go false t = ap (λ (x : SideLabel). x.label) (sym (ap (λ b. cond b (crossing_at cs a.number).side (other_side (crossing_at cs a.number).side)) t) ∙ e)

  -- the crossings through a side that is left are kept
  passing_kept : (k : ℕ) → k < length left → (a : Passing) → Mem a (rows (where_is (side_left k))) → (a.number < n) × (is_kept a.number ≡ true)
  passing_kept k l a m =
      let r = in_row k l in
      let (h, s) = passing_side page valid cs (placed page path valid rules occurrences) ok (row_curve page path valid rules occurrences) (where_is (side_left k)) r.0 a m in
      (h, (kept_with page path valid rules occurrences) a.number h (side_left k) (mem_get_or left k none l) (label_of a (side_left k) (s ∙ r.1)))

  abbrev p : Polygon
  p = polygon_of (joined_sides (joined page))

  size_left : sides p ≡ length left
  size_left = length-map left (λ s. place_left (other_side s))

  partner_left : (k : ℕ) → k < length left → (partner p k < length left) × (side_left (partner p k) ≡ other_side (side_left k))
  partner_left k l =
      let at_k : partner p k ≡ place_left (other_side (side_left k)) = get_or-map (λ s. place_left (other_side s)) left k none k l in
      let n' = side_named page path valid rules occurrences k l in
      let one = once_left page path valid rules occurrences (side_left k) (mem_get_or left k none l) (1 - (side_left k).occurrence) (omega arith) in
      let there = any_counted (is_side (other_side (side_left k))) left (omega (arith, one)) in
      let r = placed_left page path valid rules occurrences (other_side (side_left k)) there in
      (omega (arith, at_k, r.0), ap side_left at_k ∙ r.1)

  across_renamed : (xs : List Passing) → map renamed (all_across xs) ≡ all_across (map renamed xs)
  across_renamed xs = map_reverse renamed (map across xs) ∙ ap reverse (map_twice renamed across xs ∙ sym (map_twice across renamed xs))

  abbrev passed : IsPassed (polygon_of (row page)) (outs page valid cs (placed page path valid rules occurrences)) (λ k. rows k)
  passed = table_passed page valid cs (placed page path valid rules occurrences) ok (row_curve page path valid rules occurrences)

  -- these are the passings of the exits
  left_passed : IsPassed p es rows_left
  left_passed = record {
    listed = λ r l.
        let (i, li, t, e) = passing_of is_kept n r (omega (arith, l, (exits_count page path valid rules occurrences))) in
        let c = crossing_at cs i in
        let is : exit_at es r ≡ becomes i = ap (exit_at es) (sym e) ∙ exit_is page path valid rules occurrences i li t in
        let there = placed_left page path valid rules occurrences c.side t in
        let many' = many page valid cs (placed page path valid rules occurrences) in
        let o = out_at page valid cs (placed page path valid rules occurrences) i li in
        let (_, short, at_it) = passed.listed i (omega (arith, li, many')) in
        let s : where_is (side_left (place_left c.side)) ≡ where_is c.side = ap where_is there.1 in
        let rows_is : rows_left (place_left c.side) ≡ map renamed (rows (where_is c.side)) = ap (λ k. map renamed (rows k)) s in
        let short' : place_on cs c.side c.place < length (rows (where_is c.side)) = subst (λ (x : Exit). x.place < length (rows x.side)) o short in
        let at_it' : at (rows (where_is c.side)) (place_on cs c.side c.place) ≡ out_of i = subst (λ (x : Exit). at (rows x.side) x.place ≡ out_of i) o at_it in
        let goal : (place_left c.side < sides p) × (place_on cs c.side c.place < length (rows_left (place_left c.side))) × (at (rows_left (place_left c.side)) (place_on cs c.side c.place) ≡ out_of r)
        = (
          omega (arith, there.0, size_left),
          omega (arith, short', ap length rows_is, length-map (rows (where_is c.side)) renamed),
          ap (λ xs. at xs (place_on cs c.side c.place)) rows_is
              ∙ (get_or-map renamed (rows (where_is c.side)) (place_on cs c.side c.place) (out_of 0) (out_of 0) short' ∙ (ap renamed at_it' ∙ ap out_of e)),
        ) in
        subst (λ (x : Exit). (x.side < sides p) × (x.place < length (rows_left x.side)) × (at (rows_left x.side) x.place ≡ out_of r)) (sym is) goal;
    made = λ k j r lk lj e.
        let l : k < length left = omega (arith, lk, size_left) in
        let w = where_is (side_left k) in
        let lj' : j < length (rows w) = omega (arith, lj, length-map (rows w) renamed) in
        let a = at (rows w) j in
        let read : renamed a ≡ out_of r = sym (get_or-map renamed (rows w) j (out_of 0) (out_of 0) lj') ∙ e in
        let is : a ≡ out_of a.number = ap (λ (b : Bool). let x : Passing = record { number = a.number; leaves = b } in x) (ap (λ (x : Passing). x.leaves) read) in
        let row_at = in_row k l in
        let (la, made) = passed.made w j a.number (omega (arith, row_at.0, size page valid cs (placed page path valid rules occurrences))) lj' is in
        let i : ℕ = a.number in
        let li : i < n = omega (arith, la, many page valid cs (placed page path valid rules occurrences)) in
        let here : out page valid cs (placed page path valid rules occurrences) (crossing_at cs i) ≡ exit w j = sym (out_at page valid cs (placed page path valid rules occurrences) i li) ∙ made in
        let side_is : (crossing_at cs i).side ≡ side_left k
        = sym (stands_there page valid cs (placed page path valid rules occurrences) (crossing_at cs i).side (crossing_named page path valid rules occurrences i li)).1 ∙ (ap (λ (x : Exit). get_or (row page) x.side none) here ∙ row_at.1) in
        let t : is_kept i ≡ true = ap (λ s. has_side s left) side_is ∙ had_mem (side_left k) left (mem_get_or left k none l) in
        let rank_is : ranks i ≡ r = ap (λ (x : Passing). x.number) read in (
          omega (arith, rank_is, rank_less is_kept n i li t, (exits_count page path valid rules occurrences)),
          ap (exit_at es) (sym rank_is) ∙ (exit_is page path valid rules occurrences i li t ∙ ap₂ exit (ap place_left side_is ∙ place_is page path valid rules occurrences k l) (ap (λ (x : Exit). x.place) here)),
        );
    turned = λ k lk.
        let l : k < length left = omega (arith, lk, size_left) in
        let s = partner_left k l in
        let n' = side_named page path valid rules occurrences k l in
        let other : where_is (side_left (partner p k)) ≡ partner (polygon_of (row page)) (where_is (side_left k))
        = ap where_is s.1 ∙ sym (partner_place page valid cs (placed page path valid rules occurrences) (side_left k) n') in
        ap (λ i. map renamed (rows i)) other
        ∙ (ap (map renamed) (passed.turned (where_is (side_left k)) (omega (arith, (in_row k l).0, size page valid cs (placed page path valid rules occurrences)))) ∙ across_renamed (rows (where_is (side_left k))));
  }

  -- the part of the joined curve that a chord becomes
  abbrev g : ℕ → ℕ
  g i = part_of is_kept n i

  abbrev w : SideLabel → List ℕ
  w s = word page valid cs (placed page path valid rules occurrences) ok (row_curve page path valid rules occurrences) (within page path rules) g s

  chords_same : (a : Passing) → chord_of (length (outs page valid cs (placed page path valid rules occurrences))) a ≡ chord_of n a
  chords_same a = ap (λ m. chord_of m a) (many page valid cs (placed page path valid rules occurrences))

  -- at the two sides of a seam the same parts stand
  seam_turned : (label : ℕ) → Mem label (joined page).seams → w (side label 1) ≡ reverse (w (side label 0))
  seam_turned label m =
      let nl = (whole page path valid rules occurrences).seam_named label m in
      let k : ℕ = where_is (side label 0) in
      let s = stands_there page valid cs (placed page path valid rules occurrences) (side label 0) (nl, omega arith) in
      let other : where_is (side label 1) ≡ partner (polygon_of (row page)) k = sym (partner_place page valid cs (placed page path valid rules occurrences) (side label 0) (nl, omega arith)) in
      let f = λ (a : Passing). g (chord_of (length (outs page valid cs (placed page path valid rules occurrences))) a) in
      ap (λ i. map f (rows i)) other
      ∙ (ap (map f) (passed.turned k (omega (arith, s.0, size page valid cs (placed page path valid rules occurrences))))
      ∙ (map_reverse f (map across (rows k)) ∙ ap reverse (map_twice f across (rows k)
      ∙ map_same (λ a. f (across a)) f (rows k) (λ a ma.
      let (h, t) = passing_side page valid cs (placed page path valid rules occurrences) ok (row_curve page path valid rules occurrences) k s.0 a ma in
      let gone = seam_gone page path valid rules occurrences a.number h label m (label_of a (side label 0) (t ∙ s.1)) in
      ap g (chords_same (across a)) ∙ (over a (a.leaves) refl h gone ∙ sym (ap g (chords_same a)))))))
    where
      over : (a : Passing) (b : Bool) → a.leaves ≡ b → a.number < n → is_kept a.number ≡ false → g (chord_of n (across a)) ≡ g (chord_of n a)
      over a true t h gone =
          ap (λ b. g (cond (not b) a.number (following n a.number))) t ∙ (part_over is_kept n a.number h gone ∙ sym (ap (λ b. g (cond b a.number (following n a.number))) t))
      over a false t h gone =
          ap (λ b. g (cond (not b) a.number (following n a.number))) t ∙ (sym (part_over is_kept n a.number h gone) ∙ sym (ap (λ b. g (cond b a.number (following n a.number))) t))

  -- the word round what is left reduces to nothing
  left_null : Null names (flat_map w left)
  left_null =
      let stand_once : StandOnce (below (length (labels_of page))) (side_labels_of [] page) = λ label o m h. once_in_row page valid label o (mem_below _ label m) h in
      let start : AllNull w (side_labels_of [] page) = λ x m.
      let (q, l, e) = index_of x (side_labels_of [] page) [] m in
      subst (λ y. Null names (flat_map w y)) e
      (polygon_null page valid cs (placed page path valid rules occurrences) ok (row_curve page path valid rules occurrences) (within page path rules) g q (omega (arith, l, length-side_labels_of [] page))) in
      let all = all_keep (AllNull w) (below (length (labels_of page))) (side_labels_of [] page) (once_range 0 (length (labels_of page))) stand_once
      (λ label m. null_step w label (seam_turned label m)) start in
      all left (subst (λ q. Mem left q) (sym (ap (λ j. j.polygons) (whole page path valid rules occurrences).joined_is)) (inl refl))

  -- it is the word of the joined curve's chords
  circle_is : circle (length es) (sides p) rows_left ≡ flat_map w left
  circle_is =
      ap (λ m. flat_map (λ k. map (chord_of (length es)) (rows_left k)) (below m)) size_left
      ∙ (flat_same _ (λ k. w (side_left k)) (below (length left)) (λ k m. let l = mem_below _ k m in
      map_twice (chord_of (length es)) renamed (rows (where_is (side_left k)))
      ∙ map_same (λ a. chord_of (length es) (renamed a)) (λ a. g (chord_of (length (outs page valid cs (placed page path valid rules occurrences))) a)) (rows (where_is (side_left k)))
      (λ a ma. let (h, t) = passing_kept k l a ma in same a a.leaves refl h t ∙ sym (ap g (chords_same a))))
      ∙ (sym (flat_map-map w side_left (below (length left))) ∙ ap (flat_map w) (sym (by_entries none left (length left) refl))))
    where
      same : (a : Passing) (b : Bool) → a.leaves ≡ b → a.number < n → is_kept a.number ≡ true → chord_of (length es) (renamed a) ≡ g (chord_of n a)
      same a true t h kept =
          ap (λ b. cond b (ranks a.number) (following (length es) (ranks a.number))) t
          ∙ (sym (part_kept is_kept n a.number h kept) ∙ sym (ap (λ b. g (cond b a.number (following n a.number))) t))
      same a false t h kept =
          ap (λ b. cond b (ranks a.number) (following (length es) (ranks a.number))) t
          ∙ (ap (λ m. following m (ranks a.number)) (exits_count page path valid rules occurrences) ∙ (sym (part_after is_kept n a.number h kept) ∙ sym (ap (λ b. g (cond b a.number (following n a.number))) t)))

  -- so the exits are a curve of the joined polygon
  pub through_curve : IsCurve (joined_polygon (joined page)) (exits_through page path)
  through_curve = curve_from_null p (whole page path valid rules occurrences).pairs es rows_left left_passed (subst (λ z. Null names z) (sym circle_is) left_null)
