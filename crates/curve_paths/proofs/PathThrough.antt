-- What a curve on a page keeps, and what joining the page makes of it.
use Rattle.std.proofs.Common.{◌≡◌, ◌≢◌, ℕ, ◌<◌, ◌≤◌, Bool, true, false, eqb, List, [], ◌∷◌, map, length, filter_map, refl, sym, subst, ap, ap₂, ◌∙◌, inl, inr, arith, ◌↔◌}
use Rattle.std.specs.List.{count_by}
use Rattle.std.proofs.lemmas.Bool.{eq-eqb, eqb-false}
use Rattle.std.proofs.lemmas.List.{length-map}
use Rattle.std.proofs.lemmas.List.Sums.{count_by-le-length}
use Rattle.std.proofs.lemmas.List.FromFn.{length-range_with_len}
use Rattle.obd_base.specs.Lists.{Mem, below}
use Rattle.obd_base.specs.declared.points.Exit.{Exit}
use Rattle.obd_base.proofs.lists.Below.{below_mem, mem_below}
use Rattle.page_surface.specs.Joining.{Joined, has_side, joined}
use Rattle.page_surface.specs.Labels.{Label, labels_of}
use Rattle.page_surface.specs.Polygon.{Polygon}
use Rattle.arc_basis.specs.Basis.{joined_polygon, joined_sides, label_count}
use Rattle.curve_paths.specs.Curves.{IsCurve}
use Rattle.curve_paths.specs.PathTables.{IsPathKept, PagePath}
use Rattle.curve_paths.specs.Paths.{crossing, crossing_at, crossings, label_points}
use Rattle.curve_paths.specs.PlaceTables.{AreOn, ArePlaced}
use Rattle.curve_paths.specs.Through.{exit_through, exits_through}
use Rattle.curve_paths.specs.declared.crossing.Crossing.{Crossing}
use Rattle.curve_paths.specs.declared.path.Cross.{Cross}
use Rattle.arc_basis.specs.SeamTables.{AreLeft}
use Rattle.curve_paths.proofs.Kept.{no_seam, placed as path_placed, some_crossing}
use Rattle.curve_paths.proofs.Members.{mem_get_or}
use Rattle.arc_basis.proofs.Laws.{in_or_not, page_left}
use Rattle.arc_basis.proofs.OneItem.{count_no, counted, index_of}
use Rattle.curve_paths.proofs.Through.{exits_count, is_kept}
use Rattle.curve_paths.proofs.ThroughCurve.{through_curve}
use Rattle.arc_basis.proofs.Whole.{page_whole}

-- a list of no items
pub none_long : {X : Type 0} (xs : List X) → length xs ≡ 0 → xs ≡ []
none_long [] e = refl
none_long (x ∷ xs) e = absurd (omega (arith, e))

module _ (page : List (List Label)) (path : List Cross) (numbered : List Crossing) (counts : List ℕ) (kept : IsPathKept page path numbered counts)
    (j : Joined) (is : j ≡ joined page) where
  placed : ArePlaced page (crossings page path)
  placed = path_placed page path kept.is_path kept.occurrences

  labels_are : label_count j ≡ length (labels_of page)
  labels_are = ap label_count is ∙ (page_whole page kept.is_page).counted

  -- what is asked where the exits are made
  pub are_on : (d : List Crossing) (e : List ℕ) → d ≡ numbered → e ≡ counts → AreOn j d e
  are_on d e p q = rw (p ∙ kept.numbered_are, q) (record {
    counts_are = kept.counts_are ∙ ap (λ n. map (label_points (crossings page path)) (below n)) (sym labels_are);
    named = λ c m. let n = placed.named c m in (omega (arith, n.0, labels_are), n.1);
    placed = placed.placed;
  })

  module _ (exits : List Exit) (d : List Crossing) (p : d ≡ numbered) (made : exits ≡ filter_map (exit_through j d) d) where
    -- they are the exits of the definition
    pub through_is : exits ≡ exits_through page path
    through_is = made ∙ ap₂ (λ (k : Joined) (cs : List Crossing). filter_map (exit_through k cs) cs) is (p ∙ kept.numbered_are)

    pub few_exits : length exits ≤ 32
    few_exits =
        let n : ℕ = length (crossings page path) in
        let most = count_by-le-length (is_kept page path kept.is_page kept.is_path kept.occurrences) (below n) in
        omega (arith, ap length through_is, exits_count page path kept.is_page kept.is_path kept.occurrences, most, length-range_with_len 0 n, placed.few)

    -- and they are a curve of the joined polygon
    pub through_is_curve : (polygon : Polygon) → polygon ≡ joined_polygon j → IsCurve polygon exits
    through_is_curve polygon e =
        subst (λ (q : Polygon). IsCurve q exits) (sym (e ∙ ap joined_polygon is))
        (subst (λ (es : List Exit). IsCurve (joined_polygon (joined page)) es) (sym through_is) (through_curve page path kept.is_page kept.is_path kept.occurrences))

    -- there is none exactly where nothing but seams is crossed
    pub none_through : (exits ≡ []) ↔ ((c : Crossing) → Mem c (crossings page path) → Mem c.side.label (joined page).seams)
    none_through = (to, from)
      where
        cs : List Crossing
        cs = crossings page path

        all : length (exits_through page path) ≡ count_by (is_kept page path kept.is_page kept.is_path kept.occurrences) (below (length (crossings page path)))
        all = exits_count page path kept.is_page kept.is_path kept.occurrences

        left : AreLeft (joined_sides (joined page)) (length (labels_of page)) (joined page).seams
        left = page_left page kept.is_page

        to : exits ≡ [] → (c : Crossing) → Mem c (crossings page path) → Mem c.side.label (joined page).seams
        to e c m =
            let (i, l, q) = index_of c (crossings page path) (crossing_at [] 0) m in
            let n = placed.named c m in
            let none = ap length (sym through_is ∙ e) in
            go (in_or_not c.side.label (joined page).seams) i l q n none
          where
            seam_no : (b : Bool) → (b ≡ false → count_by (eqb c.side.label) (joined page).seams ≡ 0) → b ≡ false → Mem c.side.label (joined page).seams → ⊥
            seam_no b z f k = let a = z f in let d = counted (eqb c.side.label) c.side.label (joined page).seams k (eq-eqb c.side.label c.side.label refl) in omega (arith, a, d)

            go : ((b : Bool) × (b ≡ true → Mem c.side.label (joined page).seams) × (b ≡ false → count_by (eqb c.side.label) (joined page).seams ≡ 0)) → (i : ℕ) → i < length (crossings page path)
                → crossing_at (crossings page path) i ≡ c → (c.side.label < length (labels_of page)) × (c.side.occurrence ≤ 1) → length (exits_through page path) ≡ 0 → Mem c.side.label (joined page).seams
            go (true, g, z) i l q n none = g refl
            go (false, g, z) i l q n none =
                let there = left.there c.side.label c.side.occurrence n.0 n.1 (seam_no false z refl) in
                let keeps : is_kept page path kept.is_page kept.is_path kept.occurrences i ≡ true = ap (λ (x : Crossing). has_side x.side (joined_sides (joined page))) q ∙ there in
                let c' = counted (is_kept page path kept.is_page kept.is_path kept.occurrences) i (below (length (crossings page path))) (below_mem _ i l) keeps in
                absurd (omega (arith, none, all, c'))

        from : ((c : Crossing) → Mem c (crossings page path) → Mem c.side.label (joined page).seams) → exits ≡ []
        from h =
            let none : count_by (is_kept page path kept.is_page kept.is_path kept.occurrences) (below (length (crossings page path))) ≡ 0
            = none_counted_all (below (length (crossings page path))) (λ i m.
            let l = mem_below _ i m in
            let m' = mem_get_or (crossings page path) i (crossing_at [] 0) l in
            left.gone _ _ (h _ m') (placed.named _ m').1) in
            through_is ∙ none_long (exits_through page path) (all ∙ none)
          where
            none_counted_all : (xs : List ℕ) → ((i : ℕ) → Mem i xs → is_kept page path kept.is_page kept.is_path kept.occurrences i ≡ false) → count_by (is_kept page path kept.is_page kept.is_path kept.occurrences) xs ≡ 0
            none_counted_all [] h = refl
            none_counted_all (x ∷ xs) h = count_no (is_kept page path kept.is_page kept.is_path kept.occurrences) x xs (h x (inl refl)) ∙ none_counted_all xs (λ i m. h i (inr m))

    -- on a page of one polygon there is one
    pub some_exit : length page ≡ 1 → exits ≢ []
    some_exit one e =
        let l : 0 < length (crossings page path) = omega (arith, length-map path (crossing page), eqb-false (length path) 0 (some_crossing page path kept.is_path)) in
        absurd (subst (λ xs. Mem (crossing_at (crossings page path) 0).side.label xs) (no_seam page kept.is_page one)
        (none_through.0 e (crossing_at (crossings page path) 0) (mem_get_or (crossings page path) 0 (crossing_at [] 0) l)))

    -- the same of the page and the path as they are seen
    pub none_seen : (now : PagePath) → record { page = page; path = path } ≡ now
        → (exits ≡ []) ↔ ((c : Crossing) → Mem c (crossings now.page now.path) → Mem c.side.label j.seams)
    none_seen now seen =
        subst (λ (v : PagePath). (exits ≡ []) ↔ ((c : Crossing) → Mem c (crossings v.page v.path) → Mem c.side.label j.seams)) seen
        (subst (λ (k : Joined). (exits ≡ []) ↔ ((c : Crossing) → Mem c (crossings page path) → Mem c.side.label k.seams)) (sym is) none_through)
