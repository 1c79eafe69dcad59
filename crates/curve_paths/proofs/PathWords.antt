-- The passings of a path on its page: the side of each, and the word of chords round each polygon.
use Rattle.std.proofs.Common.{◌≡◌, ℕ, zero, suc, ◌+◌, ◌-◌, ◌<◌, ◌≤◌, Bool, true, false, cond, eqb, List, [], ◌∷◌, ◌++◌, map, length, get_or, refl, sym, subst, ap, ap₂, ◌∙◌, inl, inr, arith, append-nil}
use Rattle.std.specs.List.{flat_map}
use Rattle.std.proofs.lemmas.Bool.{eq-eqb, eqb-true, ne_eqb}
use Rattle.std.proofs.lemmas.List.Concat.{flat_map-append}
use Rattle.std.proofs.lemmas.List.Folds.{flat_map-map}
use Rattle.obd_base.specs.Lists.{Mem, below}
use Rattle.obd_base.specs.declared.points.Exit.{Exit}
use Rattle.obd_base.proofs.lists.Below.{mem_below}
use Rattle.obd_base.proofs.lists.Members.{mem_left, mem_map, mem_right}
use Rattle.obd_base.proofs.lists.Sums.{by_entries}
use Rattle.page_surface.specs.declared.page.SideLabel.{SideLabel}
use Rattle.page_surface.specs.Drawing.{exit}
use Rattle.page_surface.specs.Joining.{has_side, other_side, polygon_of}
use Rattle.page_surface.specs.Labels.{Label, labels_of, side_labels_of}
use Rattle.page_surface.specs.Page.{IsPage}
use Rattle.page_surface.specs.Polygon.{Pairs, Polygon, partner, sides}
use Rattle.page_surface.proofs.Sides.{length-side_labels_of}
use Rattle.curve_paths.specs.Alphabet.{Null}
use Rattle.curve_paths.specs.Curves.{IsCurve, exit_at}
use Rattle.curve_paths.specs.Paths.{crossing_at, is_within, polygon_at, row}
use Rattle.curve_paths.specs.PlaceTables.{ArePlaced}
use Rattle.curve_paths.specs.declared.crossing.Crossing.{Crossing}
use Rattle.curve_paths.proofs.Carried.{named_other, many, out_at, outs, partner_place, place, size, stands_there}
use Rattle.curve_paths.proofs.CurvePoints.{following}
use Rattle.curve_paths.proofs.Members.{mem_get_or}
use Rattle.curve_paths.proofs.Orders.{place_in_row}
use Rattle.curve_paths.proofs.Starts.{none}
use Rattle.curve_paths.proofs.Circle.{chord_of, circle, map_twice}
use Rattle.curve_paths.proofs.CurvePassings.{curve_null, curve_passed, passings}
use Rattle.arc_basis.proofs.Joints.{few_have}
use Rattle.curve_paths.proofs.NameWords.{all_kept, flat_flat, flat_same, kept_as, names, none_kept, null_kept}
use Rattle.arc_basis.proofs.OneItem.{counted, index_of, only_one}
use Rattle.curve_paths.proofs.Passings.{IsPassed, Passing, across, at, number_within, out, seen_across}
use Rattle.arc_basis.proofs.Rows.{sides_of, had_mem, named_in_row, once_in_row}

module _ (page : List (List Label)) (valid : IsPage page) (cs : List Crossing) (placed : ArePlaced page cs)
    (ok : Pairs (polygon_of (row page))) (curve : IsCurve (polygon_of (row page)) (outs page valid cs placed)) where
  abbrev p : Polygon
  p = polygon_of (row page)

  abbrev os : List Exit
  os = outs page valid cs placed

  abbrev where_is : SideLabel → ℕ
  where_is s = place page valid cs placed s

  -- the passings through side k of the row
  abbrev pub table : ℕ → List Passing
  table k = passings (polygon_of (row page)) ok (outs page valid cs placed) curve k

  pub table_passed : IsPassed (polygon_of (row page)) (outs page valid cs placed) table
  table_passed = curve_passed p ok os curve

  abbrev side_at : ℕ → SideLabel
  side_at k = get_or (row page) k none

  -- the side by which a crossing leaves, or by which it enters
  abbrev pub through_side : Passing → SideLabel
  through_side a = cond a.leaves (crossing_at cs a.number).side (other_side (crossing_at cs a.number).side)

  named_crossing : (i : ℕ) → i < length cs → ((crossing_at cs i).side.label < length (labels_of page)) × ((crossing_at cs i).side.occurrence ≤ 1)
  named_crossing i l = placed.named (crossing_at cs i) (mem_get_or cs i (crossing_at [] 0) l)

  -- a passing through a side of the row is that of a crossing through the side
  pub passing_side : (k : ℕ) → k < length (row page) → (a : Passing) → Mem a (table k) → (a.number < length cs) × (through_side a ≡ get_or (row page) k none)
  passing_side k l a m =
      let (j, lj, q) = index_of a (table k) (out 0) m in
      let lk : k < sides p = omega (arith, l, size page valid cs placed) in
      let ln = number_within p ok os table table_passed k j lk lj in
      let h : a.number < length cs = omega (arith, ap (λ (x : Passing). x.number) q, ln, many page valid cs placed) in
      (h, go j lj lk q a.leaves refl h)
    where
      go : (j : ℕ) → j < length (table k) → k < sides p → at (table k) j ≡ a → (b : Bool) → a.leaves ≡ b → a.number < length cs → through_side a ≡ side_at k
      go j lj lk q true t h =
          let is : at (table k) j ≡ out a.number = q ∙ ap (λ (b : Bool). let x : Passing = record { number = a.number; leaves = b } in x) t in
          let e : exit_at os a.number ≡ exit k j = (table_passed.made k j a.number lk lj is).1 in
          let w : where_is (crossing_at cs a.number).side ≡ k = ap (λ (x : Exit). x.side) (sym (out_at page valid cs placed a.number h) ∙ e) in
          let s = stands_there page valid cs placed (crossing_at cs a.number).side (named_crossing a.number h) in
          ap (λ b. cond b (crossing_at cs a.number).side (other_side (crossing_at cs a.number).side)) t ∙ (sym s.1 ∙ ap side_at w)
      go j lj lk q false t h =
          let is : at (table k) j ≡ record { number = a.number; leaves = false } = q ∙ ap (λ (b : Bool). let x : Passing = record { number = a.number; leaves = b } in x) t in
          let (many', seen) = seen_across p ok os table table_passed k j lk lj in
          let e : exit_at os a.number ≡ exit (partner p k) (length (table k) - 1 - j)
          = (table_passed.made (partner p k) (length (table k) - 1 - j) a.number (ok.in_range k lk) (omega (arith, many', lj)) (seen ∙ ap across is)).1 in
          let w : where_is (crossing_at cs a.number).side ≡ partner p k = ap (λ (x : Exit). x.side) (sym (out_at page valid cs placed a.number h) ∙ e) in
          let n = named_crossing a.number h in
          let o : where_is (other_side (crossing_at cs a.number).side) ≡ k
          = sym (partner_place page valid cs placed (crossing_at cs a.number).side n) ∙ (ap (partner p) w ∙ ok.twice k) in
          let s = stands_there page valid cs placed (other_side (crossing_at cs a.number).side) (named_other page valid cs placed (crossing_at cs a.number).side n) in
          ap (λ b. cond b (crossing_at cs a.number).side (other_side (crossing_at cs a.number).side)) t ∙ (sym s.1 ∙ ap side_at o)

  module _ (within : (i : ℕ) → i < length cs → is_within page cs i ≡ true) (g : ℕ → ℕ) where
    abbrev n : ℕ
    n = length (outs page valid cs placed)

    -- the word of a side: the new names of the chords at its points
    abbrev pub word : SideLabel → List ℕ
    word s = map (λ a. g (chord_of (length (outs page valid cs placed)) a)) (table (place page valid cs placed s))

    -- the polygon on which a chord lies
    abbrev chord_polygon : ℕ → ℕ
    chord_polygon i = polygon_at page (crossing_at cs i).side

    chord_on : (k : ℕ) → k < length (row page) → (a : Passing) → Mem a (table k) → chord_polygon (chord_of n a) ≡ polygon_at page (side_at k)
    chord_on k l a m = let (h, s) = passing_side k l a m in go a.leaves refl h s
      where
        go : (b : Bool) → a.leaves ≡ b → a.number < length cs → through_side a ≡ side_at k → chord_polygon (chord_of n a) ≡ polygon_at page (side_at k)
        go true t h s =
            ap (λ b. chord_polygon (cond b a.number (following n a.number))) t
            ∙ ap (polygon_at page) (sym (ap (λ b. cond b (crossing_at cs a.number).side (other_side (crossing_at cs a.number).side)) t) ∙ s)
        go false t h s =
            ap (λ b. chord_polygon (cond b a.number (following n a.number))) t
            ∙ (ap (λ r. chord_polygon (following r a.number)) (many page valid cs placed)
            ∙ (sym (eqb-true _ _ (within a.number h))
            ∙ ap (polygon_at page) (sym (ap (λ b. cond b (crossing_at cs a.number).side (other_side (crossing_at cs a.number).side)) t) ∙ s)))

    -- the words of the sides of one polygon
    abbrev on : ℕ → ℕ → Bool
    on q i = eqb (chord_polygon i) q

    side_word : (q k : ℕ) → k < length (row page) → flat_map (kept_as (on q) g) (map (chord_of n) (table k)) ≡ cond (eqb (polygon_at page (side_at k)) q) (map (λ a. g (chord_of n a)) (table k)) []
    side_word q k l = go (eqb (polygon_at page (side_at k)) q) refl
      where
        all_on : (b : Bool) → eqb (polygon_at page (side_at k)) q ≡ b → (i : ℕ) → Mem i (map (chord_of n) (table k)) → on q i ≡ b
        all_on b e i m =
            let (a, ma, ea) = mem_map (chord_of n) i (table k) m in
            ap (λ x. eqb (chord_polygon x) q) ea ∙ (ap (λ x. eqb x q) (chord_on k l a ma) ∙ e)

        go : (b : Bool) → eqb (polygon_at page (side_at k)) q ≡ b → flat_map (kept_as (on q) g) (map (chord_of n) (table k)) ≡ cond b (map (λ a. g (chord_of n a)) (table k)) []
        go true e = all_kept (on q) g (map (chord_of n) (table k)) (all_on true e) ∙ map_twice g (chord_of n) (table k)
        go false e = none_kept (on q) g (map (chord_of n) (table k)) (all_on false e)

    -- sides of polygon r have number r
    polygon_of_side : (r : ℕ) → r < length page → (s : SideLabel) → Mem s (get_or (side_labels_of [] page) r []) → polygon_at page s ≡ r
    polygon_of_side r l s m =
        let h : r < length (side_labels_of [] page) = omega (arith, l, length-side_labels_of [] page) in
        let there = mem_get_or (side_labels_of [] page) r [] h in
        let n = named_in_row page valid s (inside (side_labels_of [] page) _ there m) in
        let had = had_mem s (get_or (side_labels_of [] page) r []) m in
        let least = counted (has_side s) _ (side_labels_of [] page) there had in
        let most = few_have s (side_labels_of [] page) in
        let one = once_in_row page valid s.label s.occurrence n.0 n.1 in
        sym (only_one (has_side s) (side_labels_of [] page) [] r (omega (arith, least, most, one)) h had)
      where
        inside : (q : List (List SideLabel)) (x : List SideLabel) → Mem x q → Mem s x → Mem s (sides_of q)
        inside [] x k y = absurd k
        inside (z ∷ q) x (inl e) y = mem_left s z (sides_of q) (subst (λ w. Mem s w) e y)
        inside (z ∷ q) x (inr k) y = mem_right s z (sides_of q) (inside q x k y)

    -- of all sides those of polygon q alone
    picked : (q : ℕ) (w : SideLabel → List ℕ) (ps : List (List SideLabel)) (base : ℕ)
        → ((r : ℕ) → r < length ps → (s : SideLabel) → Mem s (get_or ps r []) → polygon_at page s ≡ base + r) → (r : ℕ) → r < length ps → base + r ≡ q
        → flat_map (λ s. cond (eqb (polygon_at page s) q) (w s) []) (sides_of ps) ≡ flat_map w (get_or ps r [])
    picked q w [] base h r l e = absurd (omega arith)
    picked q w (x ∷ ps) base h zero l e =
        flat_map-append (λ s. cond (eqb (polygon_at page s) q) (w s) []) x (sides_of ps)
        ∙ (ap₂ (λ u v. u ++ v) (all x (λ s m. h 0 (omega arith) s m ∙ e)) (rest ps (base + 1) (λ r k s m. h (suc r) (omega arith) s m ∙ omega arith) (omega (arith, e))) ∙ append-nil (flat_map w x))
      where
        all : (x : List SideLabel) → ((s : SideLabel) → Mem s x → polygon_at page s ≡ q) → flat_map (λ s. cond (eqb (polygon_at page s) q) (w s) []) x ≡ flat_map w x
        all x h = flat_same _ w x (λ s m. ap (λ b. cond b (w s) []) (eq-eqb (polygon_at page s) q (h s m)))

        none_of : (x : List SideLabel) → ((s : SideLabel) → Mem s x → q < polygon_at page s) → flat_map (λ s. cond (eqb (polygon_at page s) q) (w s) []) x ≡ []
        none_of [] h = refl
        none_of (s ∷ x) h =
            ap₂ (λ u v. u ++ v) (ap (λ b. cond b (w s) []) (ne_eqb (polygon_at page s) q (λ e. let k = h s (inl refl) in omega (arith, e, k)))) (none_of x (λ t m. h t (inr m)))

        rest : (ps : List (List SideLabel)) (base : ℕ) → ((r : ℕ) → r < length ps → (s : SideLabel) → Mem s (get_or ps r []) → polygon_at page s ≡ base + r) → q < base
            → flat_map (λ s. cond (eqb (polygon_at page s) q) (w s) []) (sides_of ps) ≡ []
        rest [] base h l = refl
        rest (x ∷ ps) base h l =
            flat_map-append (λ s. cond (eqb (polygon_at page s) q) (w s) []) x (sides_of ps)
            ∙ ap₂ (λ u v. u ++ v) (none_of x (λ s m. let e = h 0 (omega arith) s m in omega (arith, e, l)))
            (rest ps (base + 1) (λ r k s m. h (suc r) (omega arith) s m ∙ omega arith) (omega (arith, l)))
    picked q w (x ∷ ps) base h (suc r) l e =
        flat_map-append (λ s. cond (eqb (polygon_at page s) q) (w s) []) x (sides_of ps)
        ∙ ap₂ (λ u v. u ++ v) (none_of x (λ s m. let k = h 0 (omega arith) s m in omega (arith, k, e)))
        (picked q w ps (base + 1) (λ r k s m. h (suc r) (omega arith) s m ∙ omega arith) r (omega arith) (omega (arith, e)))
      where
        none_of : (x : List SideLabel) → ((s : SideLabel) → Mem s x → polygon_at page s < q) → flat_map (λ s. cond (eqb (polygon_at page s) q) (w s) []) x ≡ []
        none_of [] h = refl
        none_of (s ∷ x) h =
            ap₂ (λ u v. u ++ v) (ap (λ b. cond b (w s) []) (ne_eqb (polygon_at page s) q (λ e. let k = h s (inl refl) in omega (arith, e, k)))) (none_of x (λ t m. h t (inr m)))

    -- the word round each polygon of the page reduces to nothing
    pub polygon_null : (q : ℕ) → q < length page → Null names (flat_map word (get_or (side_labels_of [] page) q []))
    polygon_null q l =
        let whole = null_kept (on q) g (circle n (sides p) table) (curve_null p ok os curve) in
        let count : sides p ≡ length (row page) = size page valid cs placed in
        let by_side : flat_map (kept_as (on q) g) (circle n (sides p) table) ≡ flat_map (λ k. cond (eqb (polygon_at page (side_at k)) q) (word (side_at k)) []) (below (length (row page)))
        = flat_flat (kept_as (on q) g) (λ k. map (chord_of n) (table k)) (below (sides p))
        ∙ (ap (λ m. flat_map (λ k. flat_map (kept_as (on q) g) (map (chord_of n) (table k))) (below m)) count
        ∙ flat_same _ _ (below (length (row page))) (λ k m. let lk = mem_below _ k m in
        side_word q k lk ∙ ap (λ i. cond (eqb (polygon_at page (side_at k)) q) (map (λ a. g (chord_of n a)) (table i)) []) (sym (place_in_row page valid k lk)))) in
        let by_row : flat_map (λ k. cond (eqb (polygon_at page (side_at k)) q) (word (side_at k)) []) (below (length (row page)))
        ≡ flat_map (λ s. cond (eqb (polygon_at page s) q) (word s) []) (row page)
        = sym (ap (flat_map (λ s. cond (eqb (polygon_at page s) q) (word s) [])) (by_entries none (row page) (length (row page)) refl)
        ∙ flat_map-map (λ s. cond (eqb (polygon_at page s) q) (word s) []) side_at (below (length (row page)))) in
        let many_sides = length-side_labels_of [] page in
        let one = picked q word (side_labels_of [] page) 0 (λ r k s m. polygon_of_side r (omega (arith, k, many_sides)) s m ∙ omega arith) q (omega (arith, l, many_sides)) (omega arith) in
        subst (λ z. Null names z) (by_side ∙ (by_row ∙ one)) whole
