-- The exits after a slide have right places: what passes at each point after it.
use Rattle.std.proofs.Common.{◌≡◌, ◌≢◌, ℕ, suc, ◌+◌, ◌-◌, ◌<◌, Bool, true, false, cond, eqb, ◌||◌, List, map, length, reverse, get_or, refl, sym, subst, ap, ap₂, ◌∙◌, inl, inr, arith}
use Rattle.std.proofs.lemmas.Bool.{cases_eq, ne_eqb, false≢true}
use Rattle.std.proofs.lemmas.List.{get_or-map, length-map}
use Rattle.obd_base.specs.declared.points.Exit.{Exit}
use Rattle.obd_base.proofs.lists.Below.{bit}
use Rattle.page_surface.specs.Drawing.{exit}
use Rattle.page_surface.specs.Polygon.{IsPolygon, Polygon, partner, sides}
use Rattle.curve_paths.specs.Curves.{IsCurve, curve_entry, exit_at}
use Rattle.handle_slide.specs.Slide.{new_number, new_place, new_side_points, side_after, slid_exits, slid_polygon, slid_sides}
use Rattle.handle_slide.proofs.NewSide.{here, new_of, rows}
use Rattle.handle_slide.proofs.NewNumbers.{length-slid_polygon, new_less, new_old, old_less, slid_partner}
use Rattle.handle_slide.proofs.Order.{partner_less}
use Rattle.handle_slide.proofs.SlidExits.{Made, by_own, by_post, by_pre, gone, length-slid_exits, made_by, own_at, post_at, pre, pre_at, start}
use Rattle.curve_paths.proofs.Circle.{map_twice}
use Rattle.curve_paths.proofs.CurvePassings.{passing_entry, passing_exit}
use Rattle.curve_paths.proofs.NameWords.{map_reverse}
use Rattle.curve_paths.proofs.Passings.{IsPassed, Passing, across, all_across, at, at-all_across, into, length-all_across, out}
use Rattle.curve_paths.proofs.Members.{mem_get_or}
use Rattle.handle_slide.proofs.SlidPassings.{across_twice, moves, less, passed, many, new_passing_at, row_of_k, row_of_partner, row_of_other, at_new_number, exit_there, entry_there, Comes, comes, as_exit, as_entry}

module _ (p : Polygon) (is : IsPolygon p) (k : ℕ) (lk : k < sides p) (slides : side_after p k ≢ partner p k) (c : List Exit) (curve : IsCurve p c) where
  abbrev pk : ℕ
  pk = partner p k

  abbrev points : List Exit
  points = new_side_points p k c

  abbrev at_point : Exit → Passing
  at_point q = here p is k (moves p is k lk slides c curve) lk (less p is k lk slides c curve) c curve q

  abbrev row : ℕ → List Passing
  row s = rows p is k (moves p is k lk slides c curve) lk (less p is k lk slides c curve) c curve s

  abbrev on_new : Passing → Passing
  on_new a = record { number = cond a.leaves (start p k c a.number) (start p k c (suc a.number) - 1); leaves = a.leaves }

  abbrev as_own : Passing → Passing
  as_own a = record { number = start p k c a.number + bit (pre p k c a.number); leaves = a.leaves }

  abbrev new_passings : List Passing
  new_passings = map (λ q. on_new (at_point q)) (new_side_points p k c)

  abbrev row_after : ℕ → List Passing
  row_after s = cond (eqb s k) new_passings (cond (eqb s (partner p k)) (all_across new_passings) (map as_own (row s)))

  abbrev table_after : ℕ → List Passing
  table_after i = row_after (get_or (slid_sides p k) i 0)

  abbrev Listed : ℕ → Exit → Type 0
  Listed r e = (e.side < sides (slid_polygon p k)) × (e.place < length (table_after e.side)) × (at (table_after e.side) e.place ≡ out r)

  listed_at : (s j r : ℕ) → s < sides p → j < length (row_after s) → at (row_after s) j ≡ out r → Listed r (exit (new_number p k s) j)
  listed_at s j r l h e = (
    omega (arith, new_less p is k lk slides s l, length-slid_polygon p is k lk slides),
    omega (arith, h, ap length (at_new_number p is k lk slides c curve s l)),
    ap (λ xs. at xs j) (at_new_number p is k lk slides c curve s l) ∙ e,
  )

  all_listed : (r : ℕ) → Made p k c r → Listed r (exit_at (slid_exits p k c) r)
  all_listed r (by_pre i l t e) =
      let m = exit_there p is k lk slides c curve i l t in
      let x = new_passing_at p is k lk slides c curve (exit_at c i) m in
      subst (Listed r) (sym (ap (exit_at (slid_exits p k c)) (sym e) ∙ (pre_at p k c i l t).1))
      (listed_at k (new_place p k c (exit_at c i)) r lk (omega (arith, x.0, ap length (row_of_k p is k lk slides c curve)))
      (ap (λ xs. at xs (new_place p k c (exit_at c i))) (row_of_k p is k lk slides c curve) ∙ (x.1 ∙ (ap on_new (passing_exit p is.pairs c curve i l) ∙ ap out e))))
  all_listed r (by_own i l f e) =
      let (side, place, there) = (passed p is k lk slides c curve).listed i l in
      let s : ℕ = (exit_at c i).side in
      let (a, b) = neither (eqb s k) (eqb s pk) f in
      let own = row_of_other p is k lk slides c curve s a b in
      subst (Listed r) (sym (ap (exit_at (slid_exits p k c)) (sym e) ∙ (own_at p k c i l f).1))
      (listed_at s (exit_at c i).place r side (omega (arith, place, ap length own, length-map (row s) as_own))
      (ap (λ xs. at xs (exit_at c i).place) own ∙ (get_or-map as_own (row s) (exit_at c i).place (out 0) (out 0) place ∙ (ap as_own there ∙ ap out e))))
    where
      neither : (a b : Bool) → (a || b) ≡ false → (a ≡ false) × (b ≡ false)
      neither false false e = (refl, refl)
      neither true b e = absurd (false≢true (sym e))
      neither false true e = absurd (false≢true (sym e))
  all_listed r (by_post i l t e) =
      let m = entry_there p is k lk slides c curve i l t in
      let q = curve_entry p c (exit_at c i) in
      let x = new_passing_at p is k lk slides c curve q m in
      let j : ℕ = new_place p k c q in
      let last : ℕ = length points - 1 - j in
      let back : length new_passings - 1 - last ≡ j = omega (arith, x.0, (many p is k lk slides c curve)) in
      subst (Listed r) (sym (ap (exit_at (slid_exits p k c)) (sym e) ∙ (post_at p k c i l t).2))
      (listed_at pk last r (partner_less p is k lk slides) (omega (arith, x.0, (many p is k lk slides c curve), ap length (row_of_partner p is k lk slides c curve), length-all_across new_passings))
      (ap (λ xs. at xs last) (row_of_partner p is k lk slides c curve)
      ∙ (at-all_across new_passings last (omega (arith, x.0, (many p is k lk slides c curve)))
      ∙ (ap (λ y. across (at new_passings y)) back ∙ (ap across x.1 ∙ (ap (λ a. across (on_new a)) (passing_entry p is.pairs c curve i l) ∙ ap out e))))))

  abbrev Comes_back : ℕ → ℕ → ℕ → Type 0
  Comes_back i j r = (r < length (slid_exits p k c)) × (exit_at (slid_exits p k c) r ≡ exit i j)

  number_of : (a b : Passing) → a ≡ b → a.number ≡ b.number
  number_of a b e = ap (λ (x : Passing). x.number) e

  way_of : (a b : Passing) → a ≡ b → a.leaves ≡ b.leaves
  way_of a b e = ap (λ (x : Passing). x.leaves) e

  made_new : (i j r : ℕ) → i < sides p → get_or (slid_sides p k) i 0 ≡ k → j < length new_passings → at new_passings j ≡ out r → Comes_back i j r
  made_new i j r li s lj e =
      let h : j < length points = omega (arith, lj, (many p is k lk slides c curve)) in
      let q = get_or points j (exit 0 0) in
      let x : on_new (at_point q) ≡ out r = sym (get_or-map (λ q. on_new (at_point q)) points j (exit 0 0) (out 0) h) ∙ e in
      go q refl x (comes p is k lk slides c curve q (mem_get_or points j (exit 0 0) h)) h
    where
      go : (q : Exit) → q ≡ get_or points j (exit 0 0) → on_new (at_point q) ≡ out r → Comes p is k lk slides c curve q → j < length points
          → (r < length (slid_exits p k c)) × (exit_at (slid_exits p k c) r ≡ exit i j)
      go q same x (as_exit u l is_q t yes') h =
          let w : start p k c u ≡ r = number_of (on_new (out u)) (out r) (sym (ap on_new t) ∙ x) in
          let a = pre_at p k c u l yes' in
          let place : new_place p k c (exit_at c u) ≡ j = ap (new_place p k c) (sym is_q ∙ same) ∙ new_of p is k (moves p is k lk slides c curve) lk (less p is k lk slides c curve) c curve j h in
          let side : new_number p k k ≡ i = ap (new_number p k) (sym s) ∙ new_old p is k lk slides i li in
          (omega (arith, a.0, w, length-slid_exits p k c), ap (exit_at (slid_exits p k c)) (sym w) ∙ (a.1 ∙ ap₂ exit side place))
      go q same x (as_entry u l is_q t yes') h = absurd (false≢true (way_of (on_new (into u)) (out r) (sym (ap on_new t) ∙ x)))

  made_partner : (i j r : ℕ) → i < sides p → get_or (slid_sides p k) i 0 ≡ partner p k → j < length (all_across new_passings) → at (all_across new_passings) j ≡ out r → Comes_back i j r
  made_partner i j r li s lj e =
      let lj' : j < length new_passings = omega (arith, lj, length-all_across new_passings) in
      let last : ℕ = length new_passings - 1 - j in
      let h : last < length points = omega (arith, lj', (many p is k lk slides c curve)) in
      let q = get_or points last (exit 0 0) in
      let x : across (on_new (at_point q)) ≡ out r
      = sym (at-all_across new_passings j lj' ∙ ap across (get_or-map (λ q. on_new (at_point q)) points last (exit 0 0) (out 0) h)) ∙ e in
      go q refl x (comes p is k lk slides c curve q (mem_get_or points last (exit 0 0) h)) h lj'
    where
      go : (q : Exit) → q ≡ get_or points (length new_passings - 1 - j) (exit 0 0) → across (on_new (at_point q)) ≡ out r → Comes p is k lk slides c curve q → length new_passings - 1 - j < length points → j < length new_passings
          → (r < length (slid_exits p k c)) × (exit_at (slid_exits p k c) r ≡ exit i j)
      go q same x (as_entry u l is_q t yes') h lj' =
          let w : start p k c (suc u) - 1 ≡ r = number_of (across (on_new (into u))) (out r) (sym (ap (λ a. across (on_new a)) t) ∙ x) in
          let a = post_at p k c u l yes' in
          let place : new_place p k c (curve_entry p c (exit_at c u)) ≡ length new_passings - 1 - j
          = ap (new_place p k c) (sym is_q ∙ same) ∙ new_of p is k (moves p is k lk slides c curve) lk (less p is k lk slides c curve) c curve (length new_passings - 1 - j) h in
          let side : new_number p k pk ≡ i = ap (new_number p k) (sym s) ∙ new_old p is k lk slides i li in
          let back : length points - 1 - new_place p k c (curve_entry p c (exit_at c u)) ≡ j = omega (arith, place, (many p is k lk slides c curve), lj') in
          (omega (arith, a.1, w, length-slid_exits p k c), ap (exit_at (slid_exits p k c)) (sym w) ∙ (a.2 ∙ ap₂ exit side back))
      go q same x (as_exit u l is_q t yes') h lj' = absurd (false≢true (way_of (across (on_new (out u))) (out r) (sym (ap (λ a. across (on_new a)) t) ∙ x)))

  made_other : (i j r : ℕ) → i < sides p → (s : ℕ) → get_or (slid_sides p k) i 0 ≡ s → eqb s k ≡ false → eqb s (partner p k) ≡ false → j < length (map as_own (row s)) → at (map as_own (row s)) j ≡ out r → Comes_back i j r
  made_other i j r li s es' no_k no_pk lj e =
      let h : j < length (row s) = omega (arith, lj, length-map (row s) as_own) in
      let a = at (row s) j in
      let x : as_own a ≡ out r = sym (get_or-map as_own (row s) j (out 0) (out 0) h) ∙ e in
      let t : a ≡ out a.number = ap (λ (b : Bool). let x : Passing = record { number = a.number; leaves = b } in x) (way_of (as_own a) (out r) x) in
      let ls : s < sides p = omega (arith, es', old_less p is k lk slides i li) in
      let (l, m) = (passed p is k lk slides c curve).made s j a.number ls h t in
      let side : (exit_at c a.number).side ≡ s = ap (λ (y : Exit). y.side) m in
      let f : gone p k c a.number ≡ false = ap (λ y. eqb y k || eqb y pk) side ∙ (ap (λ b. b || eqb s pk) no_k ∙ no_pk) in
      let w : start p k c a.number + bit (pre p k c a.number) ≡ r = number_of (as_own a) (out r) x in
      let o = own_at p k c a.number l f in
      let new : new_number p k (exit_at c a.number).side ≡ i = ap (new_number p k) (side ∙ sym es') ∙ new_old p is k lk slides i li in
      (omega (arith, o.0, w, length-slid_exits p k c), ap (exit_at (slid_exits p k c)) (sym w) ∙ (o.1 ∙ ap₂ exit new (ap (λ (y : Exit). y.place) m)))

  -- the passings of the exits after the slide
  pub slid_passed : IsPassed (slid_polygon p k) (slid_exits p k c) table_after
  slid_passed = record {
    listed = λ r l. all_listed r (made_by p k c r (omega (arith, l, length-slid_exits p k c)));
    made = λ i j r li lj e.
        let h : i < sides p = omega (arith, li, length-slid_polygon p is k lk slides) in
        made_at i j r h (get_or (slid_sides p k) i 0) refl lj e;
    turned = λ i li.
        let h : i < sides p = omega (arith, li, length-slid_polygon p is k lk slides) in
        let s = get_or (slid_sides p k) i 0 in
        let ls = old_less p is k lk slides i h in
        ap (λ x. table_after x) (slid_partner p is k lk slides i h)
        ∙ (at_new_number p is k lk slides c curve (partner p s) (is.pairs.in_range s ls) ∙ turned_row s ls);
  }
    where
      made_at : (i j r : ℕ) → i < sides p → (s : ℕ) → get_or (slid_sides p k) i 0 ≡ s → j < length (row_after s) → at (row_after s) j ≡ out r
          → (r < length (slid_exits p k c)) × (exit_at (slid_exits p k c) r ≡ exit i j)
      made_at i j r h s w lj e = elim (cases_eq s k) [
        | inl q ↦
            let is_new = ap row_after q ∙ row_of_k p is k lk slides c curve in
            made_new i j r h (w ∙ q) (omega (arith, lj, ap length is_new)) (sym (ap (λ xs. at xs j) is_new) ∙ e)
        | inr no' ↦ elim (cases_eq s pk) [
          | inl q ↦
              let is_new = ap row_after q ∙ row_of_partner p is k lk slides c curve in
              made_partner i j r h (w ∙ q) (omega (arith, lj, ap length is_new)) (sym (ap (λ xs. at xs j) is_new) ∙ e)
          | inr nor ↦
              let is_own = row_of_other p is k lk slides c curve s (ne_eqb s k no') (ne_eqb s pk nor) in
              made_other i j r h s w (ne_eqb s k no') (ne_eqb s pk nor) (omega (arith, lj, ap length is_own)) (sym (ap (λ xs. at xs j) is_own) ∙ e)
        ]
      ]

      own_across : (xs : List Passing) → map as_own (all_across xs) ≡ all_across (map as_own xs)
      own_across xs = map_reverse as_own (map across xs) ∙ ap reverse (map_twice as_own across xs ∙ sym (map_twice across as_own xs))

      turned_row : (s : ℕ) → s < sides p → row_after (partner p s) ≡ all_across (row_after s)
      turned_row s ls = elim (cases_eq s k) [
        | inl q ↦ ap (λ x. row_after (partner p x)) q ∙ (row_of_partner p is k lk slides c curve ∙ ap all_across (sym (ap row_after q ∙ (row_of_k p is k lk slides c curve))))
        | inr no' ↦ elim (cases_eq s pk) [
          | inl q ↦
              ap row_after (ap (partner p) q ∙ is.pairs.twice k) ∙ (row_of_k p is k lk slides c curve ∙ (sym (across_twice new_passings) ∙ ap all_across (sym (ap row_after q ∙ (row_of_partner p is k lk slides c curve)))))
          | inr nor ↦
              let a : eqb (partner p s) k ≡ false = ne_eqb (partner p s) k (λ e. nor (sym (is.pairs.twice s) ∙ ap (partner p) e)) in
              let b : eqb (partner p s) pk ≡ false = ne_eqb (partner p s) pk (λ e. no' (sym (is.pairs.twice s) ∙ (ap (partner p) e ∙ is.pairs.twice k))) in
              (row_of_other p is k lk slides c curve) (partner p s) a b ∙ (ap (map as_own) ((passed p is k lk slides c curve).turned s ls) ∙ (own_across (row s) ∙ ap all_across (sym (row_of_other p is k lk slides c curve s (ne_eqb s k no') (ne_eqb s pk nor)))))
        ]
      ]
