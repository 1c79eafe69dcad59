-- A path on a page, carried to the polygon of the page's row of sides: its exits are a curve there.
use Rattle.std.proofs.Common.{◌≡◌, ℕ, zero, suc, ◌+◌, ◌-◌, ◌<◌, ◌≤◌, true, false, cond, ◌&&◌, eqb, List, [], ◌∷◌, ◌++◌, map, length, take, get_or, refl, sym, subst, ap, ap₂, ◌∙◌, arith, inl, inr}
use Rattle.std.specs.List.{count_by, position_or_len, sum_by}
use Rattle.std.proofs.lemmas.Bool.{cases_Bool, cases_eq, eq-eqb, ne_eqb, eqb-true, false≢true}
use Rattle.std.proofs.lemmas.List.{get_or-map, length-map, take_more}
use Rattle.std.proofs.lemmas.List.Quantifiers.{position-Some}
use Rattle.std.proofs.lemmas.List.Sums.{sum_by-append, sum_by-cons}
use Rattle.obd_base.specs.Lists.{Mem, below}
use Rattle.obd_base.specs.declared.points.Exit.{Exit}
use Rattle.obd_base.proofs.lists.Below.{all_below, bit, mem_below}
use Rattle.obd_base.proofs.lists.Counts.{count_by-map}
use Rattle.obd_base.proofs.lists.Members.{mem_map}
use Rattle.obd_base.proofs.lists.Sums.{sum_add, sum_below_push, sum_map, sum_same}
use Rattle.page_surface.specs.declared.page.SideLabel.{SideLabel}
use Rattle.page_surface.specs.Drawing.{Chord, crosses, exit}
use Rattle.page_surface.specs.Joining.{is_side, other_side, polygon_of}
use Rattle.page_surface.specs.Labels.{Label, labels_of}
use Rattle.page_surface.specs.Page.{IsPage}
use Rattle.page_surface.specs.Polygon.{IsPolygon, Polygon, partner, sides}
use Rattle.arc_basis.proofs.Places.{any_counted, found_place, mem_at, only_place}
use Rattle.curve_paths.specs.declared.crossing.Crossing.{Crossing}
use Rattle.curve_paths.specs.Curves.{IsCurve, curve_chord, curve_entry, curve_points, curve_spot, curve_stands, exit_at, previous}
use Rattle.curve_paths.specs.Paths.{crossing_at, entered_side, following, has_label_places, is_met_at, label_points, path_chord, path_spot, place_on, row, side_start}
use Rattle.curve_paths.specs.PlaceTables.{ArePlaced}
use Rattle.curve_paths.proofs.CurveEnds.{chords_turned, previous_within}
use Rattle.curve_paths.proofs.Starts.{none}
use Rattle.arc_basis.proofs.Rows.{itself, named_in_row, once_in_row, same_side}

-- a sum over the first of a list, by number
sum_first : (f : SideLabel → ℕ) (xs : List SideLabel) (k : ℕ) → k ≤ length xs → sum_by f (take k xs) ≡ sum_by (λ i. f (get_or xs i none)) (below k)
sum_first f xs zero l = refl
sum_first f xs (suc k) l =
    let grown : take (suc k) xs ≡ take k xs ++ get_or xs k none ∷ [] = ap (λ n. take n xs) (let e : suc k ≡ k + 1 = omega arith in e) ∙ take_more xs k none (omega arith) in
    omega (
      arith,
      ap (sum_by f) grown,
      sum_by-append f (take k xs) (get_or xs k none ∷ []),
      sum_by-cons f (get_or xs k none) [],
      sum_first f xs k (omega arith),
      sum_below_push (λ i. f (get_or xs i none)) k,
    )

-- of two numbers that are 0 or 1, one is the first or takes it to 1
one_of_two : (a b : ℕ) → a ≤ 1 → b ≤ 1 → bit (eqb a b) + bit (eqb (1 - a) b) ≡ 1
one_of_two a b la lb = elim (cases_eq a b) [
  | inl e ↦
      let one : bit (eqb a b) ≡ 1 = rw (eq-eqb a b e) refl in
      let zero' : bit (eqb (1 - a) b) ≡ 0 = rw (ne_eqb (1 - a) b (λ q. omega arith)) refl in
      omega (arith, one, zero')
  | inr ne ↦
      let zero' : bit (eqb a b) ≡ 0 = rw (ne_eqb a b ne) refl in
      let one : bit (eqb (1 - a) b) ≡ 1 = rw (eq-eqb (1 - a) b (omega (arith, ne))) refl in
      omega (arith, one, zero')
]

-- two tests that mean one another agree
same_tests : (a b c d : ℕ) → (a ≡ b → c ≡ d) → (c ≡ d → a ≡ b) → eqb a b ≡ eqb c d
same_tests a b c d f g = elim (cases_eq a b) [
  | inl e ↦ rw (eq-eqb a b e, eq-eqb c d (f e)) refl
  | inr ne ↦ rw (ne_eqb a b ne, ne_eqb c d (λ q. ne (g q))) refl
]

-- place q of a label of n points, counted on side a from its start: whether it lies at place j of side b
same_place : (a b q n j : ℕ) → a ≤ 1 → b ≤ 1 → q < n → j < n
    → bit (eqb a b && eqb (cond (eqb a 0) q (n - 1 - q)) j) + bit (eqb (1 - a) b && eqb (suc (cond (eqb a 0) q (n - 1 - q) + j)) n)
    ≡ bit (eqb q (cond (eqb b 0) j (n - 1 - j)))
same_place zero zero q n j la lb lq lj = omega arith
same_place zero (suc zero) q n j la lb lq lj =
    let e = ap bit (same_tests (suc (q + j)) n q (n - 1 - j) (λ e. omega arith) (λ e. omega arith)) in omega (arith, e)
same_place (suc zero) zero q n j la lb lq lj =
    let e = ap bit (same_tests (suc (n - 1 - q + j)) n q j (λ e. omega arith) (λ e. omega arith)) in omega (arith, e)
same_place (suc zero) (suc zero) q n j la lb lq lj =
    let e = ap bit (same_tests (n - 1 - q) j q (n - 1 - j) (λ e. omega arith) (λ e. omega arith)) in omega (arith, e)
same_place (suc (suc a)) b q n j la lb lq lj = absurd (omega arith)
same_place zero (suc (suc b)) q n j la lb lq lj = absurd (omega arith)
same_place (suc zero) (suc (suc b)) q n j la lb lq lj = absurd (omega arith)

-- a side is another or its partner exactly where the label is the same
one_side : (s t : SideLabel) → s.occurrence ≤ 1 → t.occurrence ≤ 1 → bit (is_side s t) + bit (is_side (other_side s) t) ≡ bit (eqb s.label t.label)
one_side s t ls lt = elim (cases_Bool (eqb s.label t.label)) [
  | inl y ↦ rw y (one_of_two s.occurrence t.occurrence ls lt)
  | inr n ↦ rw n refl
]

module _ (page : List (List Label)) (valid : IsPage page) (cs : List Crossing) (placed : ArePlaced page cs) where
  abbrev pub polygon : Polygon
  polygon = polygon_of (row page)

  abbrev pub at : ℕ → SideLabel
  at k = get_or (row page) k none

  -- which side of the polygon it is
  abbrev pub place : SideLabel → ℕ
  place s = position_or_len (is_side s) (row page)

  abbrev pub IsNamed : SideLabel → Type 0
  IsNamed s = (s.label < length (labels_of page)) × (s.occurrence ≤ 1)

  -- it stands there
  pub stands_there : (s : SideLabel) → IsNamed s → (place s < length (row page)) × (at (place s) ≡ s)
  stands_there s n =
      let found = found_place (is_side s) (row page) (any_counted (is_side s) (row page) (omega (arith, once_in_row page valid s.label s.occurrence n.0 n.1))) in
      let (within, passes, _) = position-Some (is_side s) (row page) (place s) none found in
      (within, sym (same_side s (at (place s)) passes))

  -- and no other does
  placed_by : (s : SideLabel) (k : ℕ) → IsNamed s → k < length (row page) → eqb (place s) k ≡ is_side s (at k)
  placed_by s k n l = elim (cases_Bool (is_side s (at k))) [
    | inl y ↦ rw y (eq-eqb (place s) k (only_place (is_side s) (row page) k none (once_in_row page valid s.label s.occurrence n.0 n.1) l y))
    | inr no' ↦ rw no' (ne_eqb (place s) k (λ e.
        let same : at k ≡ s = ap at (sym e) ∙ (stands_there s n).1 in
        false≢true (sym no' ∙ (ap (is_side s) same ∙ itself s))))
  ]

  pub named_other : (s : SideLabel) → IsNamed s → IsNamed (other_side s)
  named_other s n = (n.0, omega arith)

  pub size : sides polygon ≡ length (row page)
  size = length-map (row page) (λ s. place (other_side s))

  -- the partner of a side is its label's other side
  pub partner_place : (s : SideLabel) → IsNamed s → partner polygon (place s) ≡ place (other_side s)
  partner_place s n =
      let t = stands_there s n in
      get_or-map (λ s. place (other_side s)) (row page) (place s) none (place s) t.0 ∙ ap (λ s. place (other_side s)) t.1

  -- the exit of a crossing
  abbrev pub out : Crossing → Exit
  out c = exit (place c.side) (place_on cs c.side c.place)

  abbrev pub outs : List Exit
  outs = map out cs

  -- a side has the points of its label
  points_at : (k : ℕ) → k < length (row page) → curve_points polygon outs k ≡ label_points cs (at k).label
  points_at k l =
      let t = at k in
      let nt = named_in_row page valid t (mem_at (row page) k none l) in
      let exits : count_by (λ e. eqb e.side k) outs ≡ sum_by (λ c. bit (is_side c.side t)) cs
      = count_by-map (λ e. eqb e.side k) out cs ∙ sum_same (λ c. bit (eqb (place c.side) k)) (λ c. bit (is_side c.side t)) cs
      (λ c m. ap bit (placed_by c.side k (placed.named c m) l)) in
      let entries : count_by (λ e. eqb (partner polygon e.side) k) outs ≡ sum_by (λ c. bit (is_side (other_side c.side) t)) cs
      = count_by-map (λ e. eqb (partner polygon e.side) k) out cs ∙ sum_same (λ c. bit (eqb (partner polygon (place c.side)) k)) (λ c. bit (is_side (other_side c.side) t)) cs
      (λ c m. ap (λ (j : ℕ). bit (eqb j k)) (partner_place c.side (placed.named c m)) ∙ ap bit (placed_by (other_side c.side) k (named_other c.side (placed.named c m)) l)) in
      let both = sum_add (λ c. bit (is_side c.side t)) (λ c. bit (is_side (other_side c.side) t)) cs in
      let each = sum_same (λ c. bit (is_side c.side t) + bit (is_side (other_side c.side) t)) (λ c. bit (eqb c.side.label t.label)) cs
      (λ c m. one_side c.side t (placed.named c m).1 nt.1) in
      omega (arith, exits, entries, both, each)

  pub points_of : (s : SideLabel) → IsNamed s → curve_points polygon outs (place s) ≡ label_points cs s.label
  points_of s n = let t = stands_there s n in points_at (place s) t.0 ∙ ap (λ (t : SideLabel). label_points cs t.label) t.1

  -- a place on a side is below the number of its points
  pub place_on_below : (s : SideLabel) (q : ℕ) → s.occurrence ≤ 1 → q < label_points cs s.label → place_on cs s q < label_points cs s.label
  place_on_below s q l h = elim (cases_eq s.occurrence 0) [
    | inl e ↦ rw (eq-eqb s.occurrence 0 e) h
    | inr ne ↦ rw (ne_eqb s.occurrence 0 ne) (omega arith)
  ]

  -- on the other side it is counted from the other end
  place_on_other : (s : SideLabel) (q : ℕ) → s.occurrence ≤ 1 → q < label_points cs s.label
      → place_on cs (other_side s) q ≡ label_points cs s.label - 1 - place_on cs s q
  place_on_other s q l h = elim (cases_eq s.occurrence 0) [
    | inl e ↦ rw (eq-eqb s.occurrence 0 e, ne_eqb (1 - s.occurrence) 0 (λ z. omega arith)) refl
    | inr ne ↦ rw (ne_eqb s.occurrence 0 ne, eq-eqb (1 - s.occurrence) 0 (omega (arith, ne))) (omega arith)
  ]

  -- exits are on sides, at places of them
  pub outs_in_range : (e : Exit) → Mem e outs → (e.side < sides polygon) × (e.place < curve_points polygon outs e.side)
  outs_in_range e m =
      let (c, k, q) = mem_map out e cs m in
      let n = placed.named c k in
      subst (λ (e : Exit). (e.side < sides polygon) × (e.place < curve_points polygon outs e.side)) (sym q)
      (omega (arith, size, (stands_there c.side n).0), omega (arith, points_of c.side n, place_on_below c.side c.place n.1 (placed.placed c k)))

  -- the place of the label at which place j of a side lies
  abbrev pub from_start : SideLabel → ℕ → ℕ
  from_start t j = place_on cs t j

  -- how often an exit stands at place j of side k is whether its crossing is at that place of the label
  pub stands_once : (k j : ℕ) → (l : k < length (row page)) → j < label_points cs (at k).label → (c : Crossing) → Mem c cs
      → curve_stands polygon outs (out c) k j ≡ bit (is_met_at (at k).label (from_start (at k) j) c)
  stands_once k j l lj c m =
      let t : SideLabel = at k in
      let n = placed.named c m in
      let nt = named_in_row page valid t (mem_at (row page) k none l) in
      let leaves : eqb (place c.side) k ≡ is_side c.side t = placed_by c.side k n l in
      let enters : eqb (partner polygon (place c.side)) k ≡ is_side (other_side c.side) t
      = ap (λ (i : ℕ). eqb i k) (partner_place c.side n) ∙ placed_by (other_side c.side) k (named_other c.side n) l in
      rw (leaves, enters, points_at k l) (elim (cases_eq c.side.label t.label) [
        | inr ne ↦ rw (ne_eqb c.side.label t.label ne) refl
        | inl e ↦
            let p : c.place < label_points cs t.label = omega (arith, placed.placed c m, ap (label_points cs) e) in
            rw (eq-eqb c.side.label t.label e, e) (same_place c.side.occurrence t.occurrence c.place (label_points cs t.label) j n.1 nt.1 p lj)
      ])

  -- the exits have right places where the path has
  module _ (right : (label : ℕ) → label < length (labels_of page) → has_label_places cs label ≡ true) where
    pub outs_right : (k j : ℕ) → k < sides polygon → j < curve_points polygon outs k → sum_by (λ e. curve_stands polygon outs e k j) outs ≡ 1
    outs_right k j lk lj =
        let l : k < length (row page) = omega (arith, size) in
        let nt = named_in_row page valid (at k) (mem_at (row page) k none l) in
        let h : j < label_points cs (at k).label = omega (arith, points_at k l) in
        sum_map (λ e. curve_stands polygon outs e k j) out cs
        ∙ (sum_same (λ c. curve_stands polygon outs (out c) k j) (λ c. bit (is_met_at (at k).label (from_start (at k) j) c)) cs (stands_once k j l h)
        ∙ eqb-true _ _ (all_below (λ q. eqb (count_by (is_met_at (at k).label q) cs) 1) (label_points cs (at k).label) (right (at k).label nt.0)
        (from_start (at k) j) (place_on_below (at k) j nt.1 h)))

  -- the numbers before a side are those of the page's place order
  start_is : (s : SideLabel) → IsNamed s → sum_by (λ i. curve_points polygon outs i + 2) (below (place s)) ≡ side_start page cs s
  start_is s n =
      let t = stands_there s n in
      sum_same (λ i. curve_points polygon outs i + 2) (λ i. label_points cs (at i).label + 2) (below (place s))
      (λ i m. ap (λ x. x + 2) (points_at i (omega (arith, mem_below (place s) i m, t.0))))
      ∙ sym (sum_first (λ t. label_points cs t.label + 2) (row page) (place s) (omega (arith, t.0)))

  -- and so are the numbers of points
  spot_is : (s : SideLabel) (q : ℕ) → IsNamed s → curve_spot polygon outs (exit (place s) (place_on cs s q)) ≡ path_spot page cs s q
  spot_is s q n = ap (λ x. x + place_on cs s q) (start_is s n)

  -- the entry that belongs to an exit
  entry_is : (c : Crossing) → Mem c cs → curve_entry polygon outs (out c) ≡ exit (place (other_side c.side)) (place_on cs (other_side c.side) c.place)
  entry_is c m =
      let n = placed.named c m in
      ap₂ exit (partner_place c.side n)
      (ap (λ x. x - 1 - place_on cs c.side c.place) (points_of c.side n) ∙ sym (place_on_other c.side c.place n.1 (placed.placed c m)))

  pub many : length outs ≡ length cs
  many = length-map cs out

  pub out_at : (i : ℕ) → i < length cs → exit_at outs i ≡ out (crossing_at cs i)
  out_at i l = get_or-map out cs i _ _ l

  -- each chord of the exits is a chord of the path, the one before
  pub chord_is : (i : ℕ) → i < length cs → curve_chord polygon outs i ≡ path_chord page cs (previous (length cs) i)
  chord_is i l =
      let j : ℕ = previous (length cs) i in
      let lj = previous_within (length cs) i l in
      let mj = mem_at cs j (crossing_at [] 0) lj in
      let mi = mem_at cs i (crossing_at [] 0) l in
      let back : following (length cs) j ≡ i = follows (length cs) i l in
      let before : previous (length outs) i ≡ j = ap (λ n. previous n i) many in
      let from : curve_spot polygon outs (curve_entry polygon outs (exit_at outs (previous (length outs) i))) ≡ path_spot page cs (entered_side (crossing_at cs j)) (crossing_at cs j).place
      = ap (λ (e : Exit). curve_spot polygon outs (curve_entry polygon outs e)) (ap (exit_at outs) before ∙ out_at j lj)
      ∙ (ap (curve_spot polygon outs) (entry_is (crossing_at cs j) mj)
      ∙ spot_is (other_side (crossing_at cs j).side) (crossing_at cs j).place (named_other (crossing_at cs j).side (placed.named (crossing_at cs j) mj))) in
      let to : curve_spot polygon outs (exit_at outs i) ≡ path_spot page cs (crossing_at cs (following (length cs) j)).side (crossing_at cs (following (length cs) j)).place
      = ap (curve_spot polygon outs) (out_at i l)
      ∙ (spot_is (crossing_at cs i).side (crossing_at cs i).place (placed.named (crossing_at cs i) mi)
      ∙ ap (λ (k : ℕ). path_spot page cs (crossing_at cs k).side (crossing_at cs k).place) (sym back)) in
      ap₂ (λ a b. let x : Chord = record { from = a; to = b } in x) from to
    where
      follows : (n i : ℕ) → i < n → following n (previous n i) ≡ i
      follows n i l = elim (cases_eq i 0) [
        | inl e ↦ rw (eq-eqb i 0 e, eq-eqb (suc (n - 1)) n (omega arith)) (sym e)
        | inr ne ↦ rw (ne_eqb i 0 ne, ne_eqb (suc (i - 1)) n (λ q. omega arith)) (omega arith)
      ]

  -- where no two chords of a path cross, no two of the exits' do
  module _ (ok : IsPolygon polygon) (right : (label : ℕ) → label < length (labels_of page) → has_label_places cs label ≡ true)
      (clear : (i j : ℕ) → i < j → j < length cs → crosses (path_chord page cs i) (path_chord page cs j) ≡ false) where
    uncrossed : (a b : ℕ) → a < b → b < length outs → crosses (curve_chord polygon outs a) (curve_chord polygon outs b) ≡ false
    uncrossed a b l lb =
        let n : ℕ = length cs in
        let h : b < n = omega (arith, many) in
        elim (cases_eq a 0) [
          | inl e ↦
              let last : previous n a ≡ n - 1 = rw (eq-eqb a 0 e) refl in
              let before : previous n b ≡ b - 1 = rw (ne_eqb b 0 (λ z. omega arith)) refl in
              chords_turned polygon ok outs outs_in_range (outs_right right) a b (omega (arith, many)) lb (λ q. omega (arith, q))
              ∙ (ap₂ crosses (chord_is b h ∙ ap (path_chord page cs) before) (chord_is a (omega arith) ∙ ap (path_chord page cs) last)
              ∙ clear (b - 1) (n - 1) (omega arith) (omega arith))
          | inr ne ↦
              let one : previous n a ≡ a - 1 = rw (ne_eqb a 0 ne) refl in
              let two : previous n b ≡ b - 1 = rw (ne_eqb b 0 (λ z. omega arith)) refl in
              ap₂ crosses (chord_is a (omega arith) ∙ ap (path_chord page cs) one) (chord_is b h ∙ ap (path_chord page cs) two)
              ∙ clear (a - 1) (b - 1) (omega arith) (omega arith)
        ]

    -- so they are a curve
    pub outs_curve : IsCurve polygon outs
    outs_curve = record { in_range = outs_in_range; right = outs_right right; uncrossed = uncrossed }
