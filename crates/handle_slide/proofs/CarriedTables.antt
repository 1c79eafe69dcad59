-- A curve that is carried over a slide: its tables as they are read, and its points on the two sides in a row.
use Rattle.std.proofs.Common.{◌≡◌, ◌≢◌, ℕ, zero, suc, ◌+◌, ◌-◌, ◌<◌, ◌≤◌, Bool, true, false, cond, eqb, ◌&&◌, ◌||◌, not, List, [], ◌∷◌, ◌++◌, map, length, filter, take, get_or, replicate, set, Option, Some, None, refl, sym, subst, ap, ◌∙◌, ◌⊎◌, inl, inr, arith}
use Rattle.std.specs.List.{count_by, flat_map}
use Rattle.std.specs.Option.{option_map_or}
use Rattle.std.proofs.lemmas.Bool.{cases_Bool, cases_eq, cases_lt, eq-eqb, eqb-true, ne_eqb}
use Rattle.std.proofs.lemmas.List.{append_assoc, append-nil, get_or-map, get_or-set_other, get_or-set_same, get_or_append_left, get_or-append-add, length-append, length-map, length-set, same_lists, take_all}
use Rattle.std.proofs.lemmas.List.Concat.{flat_map-append}
use Rattle.std.proofs.lemmas.List.Folds.{list_any-append}
use Rattle.std.proofs.lemmas.List.FromFn.{get_or-map-range_with_len, length-map-range_with_len, length-range_with_len}
use Rattle.std.proofs.lemmas.List.Sums.{length-filter, sum_by-cons}
use Rattle.obd_base.specs.Lists.{Mem, below}
use Rattle.obd_base.specs.declared.points.Exit.{Exit}
use Rattle.obd_base.proofs.lists.Below.{below_push, bit}
use Rattle.obd_base.proofs.lists.Members.{mem_filter}
use Rattle.page_surface.specs.Drawing.{exit, is_at}
use Rattle.page_surface.specs.Polygon.{Polygon, partner, sides}
use Rattle.std.specs.Prelude.{All}
use Rattle.curve_paths.proofs.Members.{mem_get_or}
use Rattle.curve_paths.specs.Curves.{IsCurve, curve_entry, curve_points, exit_at, previous}
use Rattle.handle_slide.specs.Carried.{Carried, IsCarried, IsOnTwo, IsSliding, inside_marks, is_among, marked, row_number, staying_of, two_rows}
use Rattle.handle_slide.specs.Slide.{inside_ends, is_inside, is_slid, new_number, new_place, new_side_points, side_after, slid_exit}
use Rattle.handle_slide.proofs.SlidExits.{gone, own_exit, post, post_exit, pre, pre_exit}
use Rattle.handle_slide.proofs.SlidPassings.{entry_there, exit_there}
use Rattle.handle_slide.proofs.Steps.{flat_push}
use Rattle.handle_slide.proofs.NewSide.{new_of, new_point}
use Rattle.handle_slide.proofs.Order.{after_less, after_moves}
use Rattle.handle_slide.proofs.PointTables.{few_points}
use Rattle.curve_paths.proofs.CurvePoints.{at_itself, at_parts, exit_same, entry_in, exit_in, previous-less}

-- the tables, read
module _ (w : Carried) (numbers counts : List ℕ) (is : IsCarried w numbers counts) (s : ℕ) (l : s < sides w.polygon) where
  pub points_read : (s < length counts) × (get_or counts s 0 ≡ curve_points w.polygon w.exits s) × (curve_points w.polygon w.exits s ≤ 64)
  points_read = (
    omega (arith, l, ap length is.counts_are, length-map-range_with_len (curve_points w.polygon w.exits) 0 (sides w.polygon)),
    ap (λ xs. get_or xs s 0) is.counts_are ∙ get_or-map-range_with_len (curve_points w.polygon w.exits) 0 (sides w.polygon) s s 0 l (omega arith),
    (let f = few_points w.polygon w.exits s in omega (arith, f, is.sliding.few)),
  )

  pub number_read : (s < length numbers) × (get_or numbers s 0 ≡ new_number w.polygon w.side s)
  number_read = (
    omega (arith, l, ap length is.numbers_are, length-map-range_with_len (new_number w.polygon w.side) 0 (sides w.polygon)),
    ap (λ xs. get_or xs s 0) is.numbers_are ∙ get_or-map-range_with_len (new_number w.polygon w.side) 0 (sides w.polygon) s s 0 l (omega arith),
  )

-- the exits of a curve leave through sides
pub on_sides : (p : Polygon) (c : List Exit) → IsCurve p c → All (λ e. e.side < sides p) c
on_sides p c curve i d l = (curve.in_range (get_or c i d) (mem_get_or c i d l)).0

-- an exit is a point
pub exit_range : (w : Carried) → IsSliding w → (i : ℕ) → i < length w.exits → ((exit_at w.exits i).side < sides w.polygon) × ((exit_at w.exits i).place < curve_points w.polygon w.exits (exit_at w.exits i).side)
exit_range w s i l = exit_in w.polygon s.valid.pairs w.exits s.curve i l

-- items that pass a test, by how many before them do
kept_at : {X : Type 0} (t : X → Bool) (xs : List X) (r : ℕ) (d : X) → r < length xs → t (get_or xs r d) ≡ true
    → (count_by t (take r xs) < length (filter t xs)) × (get_or (filter t xs) (count_by t (take r xs)) d ≡ get_or xs r d)
kept_at t [] r d l h = absurd (omega arith)
kept_at t (x ∷ xs) zero d l h = rw h (omega arith, refl)
kept_at t (x ∷ xs) (suc r) d l h =
    let (a, b) = kept_at t xs r d (omega arith) h in
    elim (cases_Bool (t x)) [
      | inl y ↦
          let one : count_by t (x ∷ take r xs) ≡ suc (count_by t (take r xs)) = omega (arith, sum_by-cons (λ z. bit (t z)) x (take r xs), ap bit y) in
          rw one (rw y (omega (arith, a), b))
      | inr n ↦
          let none : count_by t (x ∷ take r xs) ≡ count_by t (take r xs) = omega (arith, sum_by-cons (λ z. bit (t z)) x (take r xs), ap bit n) in
          rw none (rw n (a, b))
    ]

-- counted in a map
count_not : {X : Type 0} (f : X → Bool) (xs : List X) (r : ℕ) → count_by not (take r (map f xs)) ≡ count_by (λ x. not (f x)) (take r xs)
count_not f [] zero = refl
count_not f [] (suc r) = refl
count_not f (x ∷ xs) zero = refl
count_not f (x ∷ xs) (suc r) = omega (arith, sum_by-cons (λ b. bit (not b)) (f x) (take r (map f xs)), sum_by-cons (λ y. bit (not (f y))) x (take r xs), count_not f xs r)

-- the marks at the ends of the first chords
abbrev pub marks_so_far : Carried → ℕ → List Bool
marks_so_far w i =
    map (is_among (flat_map (λ j. cond (is_inside w.polygon w.side w.exits j) (curve_entry w.polygon w.exits (exit_at w.exits (previous (length w.exits) j)) ∷ exit_at w.exits j ∷ []) []) (below i))) (two_rows w)

module _ (w : Carried) (s : IsSliding w) where
  abbrev p : Polygon
  p = w.polygon

  abbrev k : ℕ
  k = w.side

  abbrev k1 : ℕ
  k1 = side_after w.polygon w.side

  abbrev n0 : ℕ
  n0 = curve_points w.polygon w.exits w.side

  abbrev n1 : ℕ
  n1 = curve_points w.polygon w.exits (side_after w.polygon w.side)

  moves : k1 ≢ k
  moves = after_moves w.polygon s.valid w.side s.side s.slides

  pub next_less : side_after w.polygon w.side < sides w.polygon
  next_less = after_less w.polygon s.valid w.side s.side s.slides

  pub length-rows : length (two_rows w) ≡ curve_points w.polygon w.exits w.side + curve_points w.polygon w.exits (side_after w.polygon w.side)
  length-rows =
      omega (arith, length-append (map (exit k) (below n0)) (map (exit k1) (below n1)), length-map (below n0) (exit k), length-map (below n1) (exit k1), length-range_with_len 0 n0, length-range_with_len 0 n1)

  pub few_in_rows : length (two_rows w) ≤ 128
  few_in_rows = let a = few_points w.polygon w.exits w.side in let b = few_points w.polygon w.exits (side_after w.polygon w.side) in omega (arith, length-rows, a, b, s.few)

  -- the point with its number in the row
  pub row_at : (q : Exit) → IsOnTwo w q → (row_number w q < length (two_rows w)) × (get_or (two_rows w) (row_number w q) (exit 0 0) ≡ q)
  row_at q o = elim o.on_two [
    | inl e ↦
        let here : row_number w q ≡ q.place = ap (λ b. cond b q.place (n0 + q.place)) (eq-eqb q.side k e) in
        let l : q.place < n0 = subst (λ x. q.place < curve_points p w.exits x) e o.in_range in (
          omega (arith, here, l, length-rows),
          ap (λ i. get_or (two_rows w) i (exit 0 0)) here
              ∙ (get_or_append_left (map (exit k) (below n0)) (map (exit k1) (below n1)) (exit 0 0) q.place (omega (arith, l, length-map (below n0) (exit k), length-range_with_len 0 n0))
              ∙ (get_or-map-range_with_len (exit k) 0 n0 q.place q.place (exit 0 0) l (omega arith) ∙ ap (λ x. exit x q.place) (sym e))),
        )
    | inr e ↦
        let there : row_number w q ≡ n0 + q.place = ap (λ b. cond b q.place (n0 + q.place)) (ne_eqb q.side k (λ h. moves (sym e ∙ h))) in
        let l : q.place < n1 = subst (λ x. q.place < curve_points p w.exits x) e o.in_range in
        let at : row_number w q ≡ length (map (exit k) (below n0)) + q.place = omega (arith, there, length-map (below n0) (exit k), length-range_with_len 0 n0) in (
          omega (arith, there, l, length-rows),
          ap (λ i. get_or (two_rows w) i (exit 0 0)) at
              ∙ (get_or-append-add (map (exit k) (below n0)) (map (exit k1) (below n1)) q.place (exit 0 0)
              ∙ (get_or-map-range_with_len (exit k1) 0 n1 q.place q.place (exit 0 0) l (omega arith) ∙ ap (λ x. exit x q.place) (sym e))),
        )
  ]

  -- each point in the row is one of the two sides, and its number is where it stands
  pub row_of : (i : ℕ) → i < length (two_rows w) → IsOnTwo w (get_or (two_rows w) i (exit 0 0)) × (row_number w (get_or (two_rows w) i (exit 0 0)) ≡ i)
  row_of i l = elim (cases_lt i n0) [
    | inl h ↦
        let e : get_or (two_rows w) i (exit 0 0) ≡ exit k i
        = get_or_append_left (map (exit k) (below n0)) (map (exit k1) (below n1)) (exit 0 0) i (omega (arith, h, length-map (below n0) (exit k), length-range_with_len 0 n0))
        ∙ get_or-map-range_with_len (exit k) 0 n0 i i (exit 0 0) h (omega arith) in
        subst (λ q. IsOnTwo w q × (row_number w q ≡ i)) (sym e) (record { on_two = inl refl; in_range = h }, ap (λ b. cond b i (n0 + i)) (eq-eqb k k refl))
    | inr h ↦
        let j : ℕ = i - n0 in
        let lj : j < n1 = omega (arith, l, length-rows, h) in
        let at : i ≡ length (map (exit k) (below n0)) + j = omega (arith, h, length-map (below n0) (exit k), length-range_with_len 0 n0) in
        let e : get_or (two_rows w) i (exit 0 0) ≡ exit k1 j
        = ap (λ x. get_or (two_rows w) x (exit 0 0)) at
        ∙ (get_or-append-add (map (exit k) (below n0)) (map (exit k1) (below n1)) j (exit 0 0) ∙ get_or-map-range_with_len (exit k1) 0 n1 j j (exit 0 0) lj (omega arith)) in
        subst (λ q. IsOnTwo w q × (row_number w q ≡ i)) (sym e)
        (record { on_two = inr refl; in_range = lj }, ap (λ b. cond b j (n0 + j)) (ne_eqb k1 k moves) ∙ (let z : n0 + j ≡ i = omega (arith, h) in z))
  ]

  -- the number of a point, as it is found
  pub number_first : (q : Exit) → IsOnTwo w q → (x : ℕ) (b : Bool) → x ≡ w.side → b ≡ eqb q.side x → b ≡ true → (q.place < length (two_rows w)) × (q.place ≡ row_number w q)
  number_first q o x b ex eb t =
      let here : row_number w q ≡ q.place = ap (λ c. cond c q.place (n0 + q.place)) (ap (eqb q.side) (sym ex) ∙ (sym eb ∙ t)) in
      (omega (arith, here, (row_at q o).0), sym here)

  pub number_next : (q : Exit) → IsOnTwo w q → (x first : ℕ) (b : Bool) → x ≡ w.side → first ≡ curve_points w.polygon w.exits w.side → b ≡ eqb q.side x → b ≡ false
      → (first + q.place < length (two_rows w)) × (first + q.place ≡ row_number w q)
  number_next q o x first b ex ef eb t =
      let there : row_number w q ≡ n0 + q.place = ap (λ c. cond c q.place (n0 + q.place)) (ap (eqb q.side) (sym ex) ∙ (sym eb ∙ t)) in
      (omega (arith, there, ef, (row_at q o).0), omega (arith, there, ef))

  -- a point that stays is one of the two sides
  pub on_new : (q : Exit) → Mem q (new_side_points w.polygon w.side w.exits) → IsOnTwo w q
  on_new q m = let r = new_point p s.valid k moves s.side next_less w.exits s.curve q m in record { on_two = r.1; in_range = r.0.1 }

  abbrev stays : Exit → Bool
  stays q = not (is_among (inside_ends w.polygon w.side w.exits) q)

  staying_read : (marks : List Bool) (r : ℕ) → r < length marks + 1 → get_or (staying_of marks) r 0 ≡ count_by not (take r marks)
  staying_read marks r l = get_or-map-range_with_len (λ n. count_by not (take n marks)) 0 (length marks + 1) r r 0 l (omega arith)

  length-marks : length (inside_marks w) ≡ length (two_rows w)
  length-marks = length-map (two_rows w) (is_among (inside_ends w.polygon w.side w.exits))

  length-staying : length (staying_of (inside_marks w)) ≡ length (inside_marks w) + 1
  length-staying = length-map-range_with_len (λ n. count_by not (take n (inside_marks w))) 0 (length (inside_marks w) + 1)

  -- its place on the new side, read
  pub place_is : (staying : List ℕ) (q : Exit) (r : ℕ) → staying ≡ staying_of (inside_marks w) → Mem q (new_side_points w.polygon w.side w.exits) → r ≡ row_number w q
      → (r < length staying) × (get_or staying r 0 ≡ new_place w.polygon w.side w.exits q) × (get_or staying r 0 < length (new_side_points w.polygon w.side w.exits))
  place_is staying q r es m er =
      let o = on_new q m in
      let (a, b) = row_at q o in
      let (l, at) = kept_at stays (two_rows w) (row_number w q) (exit 0 0) a (ap stays b ∙ (mem_filter stays q (two_rows w) m).1) in
      let j : ℕ = count_by stays (take (row_number w q) (two_rows w)) in
      let read : get_or staying r 0 ≡ j
      = ap (λ xs. get_or xs r 0) es
      ∙ (ap (λ i. get_or (staying_of (inside_marks w)) i 0) er
      ∙ (staying_read (inside_marks w) (row_number w q) (omega (arith, a, length-marks)) ∙ count_not (is_among (inside_ends w.polygon w.side w.exits)) (two_rows w) (row_number w q))) in
      let place : new_place p k w.exits q ≡ j = ap (new_place p k w.exits) (sym b ∙ sym at) ∙ new_of p s.valid k moves s.side next_less w.exits s.curve j l in (
        omega (arith, er, a, length-marks, length-staying, ap length es),
        read ∙ sym place,
        omega (arith, read, l),
      )

  -- how many points stay, read
  pub total_is : (staying : List ℕ) → staying ≡ staying_of (inside_marks w) → (1 ≤ length staying) × (get_or staying (length staying - 1) 0 ≡ length (new_side_points w.polygon w.side w.exits))
  total_is staying es =
      let last : length staying - 1 ≡ length (two_rows w) = omega (arith, ap length es, length-staying, length-marks) in (
        omega (arith, ap length es, length-staying),
        ap (λ i. get_or staying i 0) last
            ∙ (ap (λ xs. get_or xs (length (two_rows w)) 0) es
            ∙ (staying_read (inside_marks w) (length (two_rows w)) (omega (arith, length-marks))
            ∙ (count_not (is_among (inside_ends w.polygon w.side w.exits)) (two_rows w) (length (two_rows w))
            ∙ (ap (count_by stays) (take_all (length (two_rows w)) (two_rows w) (omega arith)) ∙ sym (length-filter stays (two_rows w)))))),
      )

  -- the ends of a chord that runs between the two sides
  abbrev first_end : ℕ → Exit
  first_end i = curve_entry w.polygon w.exits (exit_at w.exits (previous (length w.exits) i))

  pub ends_on_two : (i : ℕ) → i < length w.exits → is_inside w.polygon w.side w.exits i ≡ true
      → IsOnTwo w (curve_entry w.polygon w.exits (exit_at w.exits (previous (length w.exits) i))) × IsOnTwo w (exit_at w.exits i)
  ends_on_two i l t =
      let (a, b) = both (is_slid p k (partner p (exit_at w.exits (previous (length w.exits) i)).side)) (is_slid p k (exit_at w.exits i).side) t in
      let before = exit_in p s.valid.pairs w.exits s.curve (previous (length w.exits) i) (previous-less (length w.exits) i l) in (
        record { on_two = one_of_two _ a; in_range = (entry_in p s.valid.pairs w.exits s.curve _ before).1 },
        record { on_two = one_of_two _ b; in_range = (exit_in p s.valid.pairs w.exits s.curve i l).1 },
      )
    where
      both : (a b : Bool) → (a && b) ≡ true → (a ≡ true) × (b ≡ true)
      both true true e = (refl, refl)
      both true false e = absurd (let bad = e in cc)
      both false b e = absurd (let bad = e in cc)

      one_of_two : (x : ℕ) → is_slid p k x ≡ true → (x ≡ k) ⊎ (x ≡ k1)
      one_of_two x e = go (eqb x k) (eqb x k1) refl refl e
        where
          go : (a b : Bool) → eqb x k ≡ a → eqb x k1 ≡ b → (a || b) ≡ true → (x ≡ k) ⊎ (x ≡ k1)
          go true b ea eb e = inl (eqb-true x k ea)
          go false true ea eb e = inr (eqb-true x k1 eb)
          go false false ea eb e = absurd (let bad = e in cc)

  abbrev ends_at : ℕ → List Exit
  ends_at i = cond (is_inside w.polygon w.side w.exits i) (first_end i ∷ exit_at w.exits i ∷ []) []

  -- one more end
  set_mark : (ends : List Exit) (q : Exit) → IsOnTwo w q → set (map (is_among ends) (two_rows w)) (row_number w q) true ≡ map (is_among (ends ++ q ∷ [])) (two_rows w)
  set_mark ends q o =
      let rows : List Exit = two_rows w in
      let (a, b) = row_at q o in
      same_lists _ _ (length-set (map (is_among ends) rows) (row_number w q) true ∙ (length-map rows (is_among ends) ∙ sym (length-map rows (is_among (ends ++ q ∷ [])))))
      (λ i d l.
      let li : i < length rows = omega (arith, l, length-set (map (is_among ends) rows) (row_number w q) true, length-map rows (is_among ends)) in
      let now : get_or (map (is_among (ends ++ q ∷ [])) rows) i d ≡ is_among (ends ++ q ∷ []) (get_or rows i (exit 0 0)) = get_or-map (is_among (ends ++ q ∷ [])) rows i (exit 0 0) d li in
      let more : is_among (ends ++ q ∷ []) (get_or rows i (exit 0 0)) ≡ (is_among ends (get_or rows i (exit 0 0)) || (is_at q (get_or rows i (exit 0 0)).side (get_or rows i (exit 0 0)).place || false))
      = list_any-append (λ (e : Exit). is_at e (get_or rows i (exit 0 0)).side (get_or rows i (exit 0 0)).place) ends (q ∷ []) in
      elim (cases_eq i (row_number w q)) [
        | inl e ↦
            let here : get_or rows i (exit 0 0) ≡ q = ap (λ x. get_or rows x (exit 0 0)) e ∙ b in
            ap (λ x. get_or (set (map (is_among ends) rows) (row_number w q) true) x d) e
            ∙ (get_or-set_same (map (is_among ends) rows) (row_number w q) true d (omega (arith, a, length-map rows (is_among ends)))
            ∙ sym (now ∙ (more ∙ yes (is_among ends (get_or rows i (exit 0 0))) (is_at q (get_or rows i (exit 0 0)).side (get_or rows i (exit 0 0)).place) (ap (λ (x : Exit). is_at q x.side x.place) here ∙ at_itself q))))
        | inr m ↦
            get_or-set_other (map (is_among ends) rows) (row_number w q) i true d m
            ∙ (get_or-map (is_among ends) rows i (exit 0 0) d li
            ∙ sym (now ∙ (more ∙ no (is_among ends (get_or rows i (exit 0 0))) (is_at q (get_or rows i (exit 0 0)).side (get_or rows i (exit 0 0)).place) refl (λ t.
            m (sym ((row_of i li).1) ∙ ap (row_number w) (exit_same (get_or rows i (exit 0 0)) _ _ refl refl ∙ sym (at_parts q _ _ t)))))))
      ])
    where
      yes : (a b : Bool) → b ≡ true → (a || (b || false)) ≡ true
      yes true b e = refl
      yes false b e = rw e refl

      no : (a b : Bool) {c : Bool} → b ≡ c → (b ≡ true → ⊥) → (a || (b || false)) ≡ a
      no true b e h = refl
      no false true e h = absurd (h refl)
      no false false e h = refl

  ends_more : (i : ℕ) → flat_map ends_at (below (i + 1)) ≡ flat_map ends_at (below i) ++ ends_at i
  ends_more i =
      ap (λ n. flat_map ends_at (below n)) (let z : i + 1 ≡ suc i = omega arith in z)
      ∙ (ap (flat_map ends_at) (below_push i) ∙ (flat_map-append ends_at (below i) (i ∷ []) ∙ ap (λ z. flat_map ends_at (below i) ++ z) (append-nil (ends_at i))))

  -- the marks of one more chord
  pub marks_more : (i : ℕ) (marks new : List Bool) → i < length w.exits → marks ≡ marks_so_far w i → new ≡ marked w i marks → new ≡ marks_so_far w (i + 1)
  marks_more i marks new l so_far more = elim (cases_Bool (is_inside w.polygon w.side w.exits i)) [
    | inl t ↦
        let (a, b) = ends_on_two i l t in
        let first : Exit = first_end i in
        let second : Exit = exit_at w.exits i in
        more
        ∙ (ap (λ c. cond c (set (set marks (row_number w first) true) (row_number w second) true) marks) t
        ∙ (ap (λ m. set (set m (row_number w first) true) (row_number w second) true) so_far
        ∙ (ap (λ m. set m (row_number w second) true) (set_mark (before) first a)
        ∙ (set_mark (before ++ first ∷ []) second b
        ∙ ap (λ es. map (is_among es) (two_rows w)) (append_assoc before (first ∷ []) (second ∷ [])
        ∙ sym (ends_more i ∙ ap (λ c. before ++ cond c (first ∷ second ∷ []) []) t))))))
    | inr f ↦
        more
        ∙ (ap (λ c. cond c (set (set marks (row_number w (first_end i)) true) (row_number w (exit_at w.exits i)) true) marks) f
        ∙ (so_far ∙ ap (λ es. map (is_among es) (two_rows w)) (sym (ends_more i ∙ (ap (λ c. before ++ cond c (first_end i ∷ exit_at w.exits i ∷ []) []) f ∙ append-nil before)))))
  ]
    where
      before : List Exit
      before = flat_map ends_at (below i)

  pub marks_all : (i : ℕ) (marks : List Bool) → i ≡ length w.exits → marks ≡ marks_so_far w i → marks ≡ inside_marks w
  marks_all i marks e so_far = so_far ∙ ap (marks_so_far w) e

  pub marks_long : (i : ℕ) (marks : List Bool) → marks ≡ marks_so_far w i → length marks ≡ length (two_rows w)
  marks_long i marks e = ap length e ∙ length-map (two_rows w) (is_among (flat_map ends_at (below i)))

  -- the points through which the curve leaves and enters are points of the new side
  pub exit_new : (i : ℕ) → i < length w.exits → pre w.polygon w.side w.exits i ≡ true → Mem (exit_at w.exits i) (new_side_points w.polygon w.side w.exits)
  exit_new i l t = exit_there p s.valid k s.side s.slides w.exits s.curve i l t

  pub entry_new : (i : ℕ) → i < length w.exits → post w.polygon w.side w.exits i ≡ true → Mem (curve_entry w.polygon w.exits (exit_at w.exits i)) (new_side_points w.polygon w.side w.exits)
  entry_new i l t = entry_there p s.valid k s.side s.slides w.exits s.curve i l t

-- the marks of a chord that runs between the two sides
pub marked_is : (w : Carried) (i : ℕ) (marks : List Bool) (x y : ℕ) → is_inside w.polygon w.side w.exits i ≡ true
    → x ≡ row_number w (curve_entry w.polygon w.exits (exit_at w.exits (previous (length w.exits) i))) → y ≡ row_number w (exit_at w.exits i)
    → set (set marks x true) y true ≡ marked w i marks
marked_is w i marks x y t ex ey =
    ap (λ a. set (set marks a true) y true) ex
    ∙ (ap (λ b. set (set marks (row_number w (curve_entry w.polygon w.exits (exit_at w.exits (previous (length w.exits) i)))) true) b true) ey
    ∙ sym (ap (λ c. cond c (set (set marks (row_number w (curve_entry w.polygon w.exits (exit_at w.exits (previous (length w.exits) i)))) true) (row_number w (exit_at w.exits i)) true) marks) t))

-- no marks
pub no_marks : (w : Carried) (n : ℕ) (marks : List Bool) → n ≡ length (two_rows w) → marks ≡ replicate n false → marks ≡ marks_so_far w 0
no_marks w n marks en e = e ∙ (ap (λ m. replicate m false) en ∙ none (two_rows w))
  where
    none : (qs : List Exit) → replicate (length qs) false ≡ map (is_among []) qs
    none [] = refl
    none (q ∷ qs) = ap (λ z. false ∷ z) (none qs)

-- the exits of one more exit
pub exits_more : (p : Polygon) (k : ℕ) (c : List Exit) (i : ℕ) (es e1 e2 e3 : List Exit) (x y z : Option Exit)
    → es ≡ flat_map (slid_exit p k c) (below i)
    → x ≡ cond (pre p k c i) (Some (pre_exit p k c i)) None → e1 ≡ es ++ option_map_or (λ e. e ∷ []) x []
    → y ≡ cond (gone p k c i) None (Some (own_exit p k c i)) → e2 ≡ e1 ++ option_map_or (λ e. e ∷ []) y []
    → z ≡ cond (post p k c i) (Some (post_exit p k c i)) None → e3 ≡ e2 ++ option_map_or (λ e. e ∷ []) z []
    → e3 ≡ flat_map (slid_exit p k c) (below (i + 1))
exits_more p k c i es e1 e2 e3 x y z so_far ex m1 ey m2 ez m3 =
    let one : (o : Option Exit) → List Exit = λ o. option_map_or (λ e. e ∷ []) o [] in
    m3 ∙ (ap (λ u. u ++ one z) (m2 ∙ ap (λ u. u ++ one y) m1)
    ∙ (append_assoc (es ++ one x) (one y) (one z)
    ∙ (append_assoc es (one x) (one y ++ one z)
    ∙ (ap (λ u. u ++ (one x ++ (one y ++ one z))) so_far
    ∙ (ap (λ u. flat_map (slid_exit p k c) (below i) ++ u) (parts (pre p k c i) (gone p k c i) (post p k c i) ex ey ez)
    ∙ sym (ap (λ n. flat_map (slid_exit p k c) (below n)) (let w : i + 1 ≡ suc i = omega arith in w) ∙ flat_push (slid_exit p k c) i))))))
  where
    parts : (a b d : Bool) → x ≡ cond a (Some (pre_exit p k c i)) None → y ≡ cond b None (Some (own_exit p k c i)) → z ≡ cond d (Some (post_exit p k c i)) None
        → option_map_or (λ e. e ∷ []) x [] ++ (option_map_or (λ e. e ∷ []) y [] ++ option_map_or (λ e. e ∷ []) z [])
        ≡ cond a (pre_exit p k c i ∷ []) [] ++ (cond b [] (own_exit p k c i ∷ []) ++ cond d (post_exit p k c i ∷ []) [])
    parts a b d ha hb hd = rw (ha, hb, hd) (go a b d)
      where
        go : (a b d : Bool)
            → option_map_or (λ e. e ∷ []) (cond a (Some (pre_exit p k c i)) None) [] ++ (option_map_or (λ e. e ∷ []) (cond b None (Some (own_exit p k c i))) [] ++ option_map_or (λ e. e ∷ []) (cond d (Some (post_exit p k c i)) None) [])
            ≡ cond a (pre_exit p k c i ∷ []) [] ++ (cond b [] (own_exit p k c i ∷ []) ++ cond d (post_exit p k c i ∷ []) [])
        go true true true = refl
        go true true false = refl
        go true false true = refl
        go true false false = refl
        go false true true = refl
        go false true false = refl
        go false false true = refl
        go false false false = refl

-- the exit through the partner, as it is found
pub post_found : (p : Polygon) (k : ℕ) (c : List Exit) (i : ℕ) (x last y : ℕ) → post p k c i ≡ true → x ≡ new_number p k (partner p k) → last ≡ length (new_side_points p k c)
    → y ≡ new_place p k c (curve_entry p c (exit_at c i)) → Some (exit x (last - 1 - y)) ≡ cond (post p k c i) (Some (post_exit p k c i)) None
post_found p k c i x last y t ex el ey =
    ap (λ n. Some (exit n (last - 1 - y))) ex ∙ (ap (λ n. Some (exit (new_number p k (partner p k)) (n - 1 - y))) el
    ∙ (ap (λ n. Some (exit (new_number p k (partner p k)) (length (new_side_points p k c) - 1 - n))) ey ∙ sym (ap (λ b. cond b (Some (post_exit p k c i)) None) t)))
