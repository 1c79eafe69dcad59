-- The far edge of a row has the same points as the next row, so that the rules along the first row and along the far edges are all.
use Rattle.std.proofs.Common.{◌≡◌, ℕ, zero, suc, ◌+◌, ◌-◌, ◌≤◌, ◌<◌, inl, inr, Bool, true, cond, List, get_or, length, refl, sym, ap, ap₂, subst, arith, ◌∙◌}
use Rattle.std.specs.List.{list_all}
use Rattle.std.proofs.lemmas.Bool.{and_from, and_parts, cases_eq}
use Rattle.drawing.specs.Points.{crossings_of}
use Rattle.drawing.specs.Round.{arc_of, opposite, point_name, point_of}
use Rattle.empty_domains.proofs.AllBelow.{each_passes}
use Rattle.empty_domains.proofs.Along.{Names, named}
use Rattle.empty_domains.proofs.ArcPoints.{name_point, opp_point}
use Rattle.empty_domains.proofs.Begins.{IsChoice}
use Rattle.empty_domains.proofs.Collected.{chain_push}
use Rattle.empty_domains.proofs.Diagram.{IsCross, IsPoint, of_point, opp_cross, opp_next, opp_twice, other_of}
use Rattle.empty_domains.proofs.Grounded.{other_by, spot_same}
use Rattle.empty_domains.proofs.Places.{place_unique}
use Rattle.empty_domains.proofs.SpotRule.{same_test, stands_is}
use Rattle.empty_domains.proofs.StepRows.{on_chain, row_points, rows_known, start_on, starts_length, told_rows}
use Rattle.empty_domains.proofs.Strands.{other_point}
use Rattle.empty_domains.proofs.StripFacts.{row_from, side_by_side}
use Rattle.empty_domains.specs.Ground.{Ground, IsGround, IsStanding, spot_rule_by}
use Rattle.empty_domains.specs.Marks.{column_rule_by, edge_rule_by, edges_rule_by, row_rule_by, rows_rule_by}
use Rattle.empty_domains.specs.NearTest.{spot_rule}
use Rattle.empty_domains.specs.Strip.{Step, all_strips, stands}
use Rattle.empty_domains.specs.Sweep.{starts}
use Rattle.hkm_diagram.specs.Domains.{rule_at}
use Rattle.obd_base.proofs.lists.Below.{all_below}
use Rattle.obd_base.specs.Lists.{Mem}
use Rattle.page_surface.proofs.EmbeddedTest.{all_from, all_in}
use Rattle.page_surface.specs.Drawing.{Drawing, IsEmbedded, points_on}
use Rattle.page_surface.specs.Polygon.{arc_count}
use Rattle.region_table.proofs.EdgeWalk.{mem_of_place}

module _ (d : Drawing) (ok : IsEmbedded d) where
  -- a point before a point is a crossing point
  before_point : (x : ℕ) → IsPoint d x → IsPoint d (suc x) → IsCross d x
  before_point x (inl c) p = c
  before_point x (inr e) p =
      let (k, j, lk, lj, q) = of_point d (suc x) p in
      let u = place_unique d e.side k (suc (points_on d e.side)) j (omega arith) (omega arith) (omega (arith, e.number, q)) in
      let h : points_on d e.side ≡ points_on d k = ap (points_on d) u.0 in
      absurd (omega (arith, u.1, h, lj))

  -- the other names of crossing points in a row
  opposite_along : (b r : ℕ) → ((i : ℕ) → i ≤ r → IsCross d (b + i)) → (i : ℕ) → i ≤ r → opposite d (b + i) + i ≡ opposite d b
  opposite_along b r cross zero l = let z : b + 0 ≡ b = omega arith in rw z (omega arith)
  opposite_along b r cross (suc i) l =
      let z : b + suc i ≡ suc (b + i) = omega arith in
      let n = opp_next d ok (b + i) (cross i (omega arith)) (rw z at (cross (suc i) l)) in
      rw z (omega (arith, n, opposite_along b r cross i (omega arith)))

  -- the points behind a row are the other names of its far points
  behind_row : (c w : ℕ) → ((i : ℕ) → i ≤ w → IsPoint d (c + i)) → ((i : ℕ) → i ≤ w → other_of d (c + i) + i ≡ other_of d c)
      → ((i : ℕ) → i ≤ w → IsPoint d (opposite d (other_of d c) + i)) → (i : ℕ) → i ≤ w → opposite d (other_of d c) + i ≡ opposite d (other_of d (c + i))
  behind_row c zero points back next i l =
      let z : i ≡ 0 = omega arith in
      let h : c + 0 ≡ c = omega arith in
      rw (z, h) (omega arith)
  behind_row c (suc w) points back next i l =
      let t = opposite_along b (suc w) cross (suc w - i) (omega arith) in
      let s : opposite d (b + suc w) + suc w ≡ opposite d b = opposite_along b (suc w) cross (suc w) (omega arith) in
      let e : opposite d (b + suc w) ≡ opposite d (other_of d c) = ap (opposite d) (back (suc w) (omega arith)) in
      let f : opposite d (other_of d (c + i)) ≡ opposite d (b + (suc w - i)) = ap (opposite d) (omega (arith, back (suc w) (omega arith), back i l)) in
      omega (arith, t, s, e, f)
    where
      b : ℕ
      b = other_of d (c + suc w)

      far : (j : ℕ) → j ≤ suc w → IsPoint d (b + j)
      far j lj =
          let e : b + j ≡ other_of d (c + (suc w - j)) = omega (arith, back (suc w) (omega arith), back (suc w - j) (omega arith)) in
          subst (λ z. IsPoint d z) (sym e) (other_point d ok (c + (suc w - j)) (points (suc w - j) (omega arith)))

      first : IsPoint d c
      first = let z : c + 0 ≡ c = omega arith in rw z at (points 0 (omega arith))

      last : IsCross d (b + suc w)
      last =
          let a = opposite d (other_of d c) in
          let z : a + 0 ≡ a = omega arith in
          let o : a + 1 ≡ suc a = omega arith in
          let k = before_point a (rw z at (next 0 (omega arith))) (rw o at (next 1 (omega arith))) in
          let t = opp_twice d ok (other_of d c) (other_point d ok c first) in
          subst (λ z. IsCross d z) (t ∙ sym (back (suc w) (omega arith))) (opp_cross d ok a k)

      cross : (j : ℕ) → j ≤ suc w → IsCross d (b + j)
      cross j lj = elim (cases_eq j (suc w)) [
        | inl e ↦ subst (λ n. IsCross d (b + n)) (sym e) last
        | inr n ↦ (let e : b + suc j ≡ suc (b + j) = omega arith in before_point (b + j) (far j lj) (rw e at (far (suc j) (omega arith))))
      ]

  -- a generator stands at both names of a point or at none
  stands_opposite : (z : List ℕ) → IsChoice d z → (n : ℕ) → IsPoint d n → stands d z (opposite d n) ≡ stands d z n
  stands_opposite z choice n p =
      let (la, lj, m) = named d ok n p in
      stands_is d ok z choice (arc_of d n) (point_of d n) (opposite d n) la lj (turned la lj m) ∙ sym (stands_is d ok z choice (arc_of d n) (point_of d n) n la lj m)
    where
      turned : (la : arc_of d n < arc_count d.polygon) → point_of d n ≤ crossings_of d (arc_of d n) → Names d (arc_of d n) (point_of d n) n → Names d (arc_of d n) (point_of d n) (opposite d n)
      turned la lj (inl e) = inr (ap (opposite d) e)
      turned la lj (inr e) = inl (ap (opposite d) e ∙ opp_twice d ok (point_name d (arc_of d n) (point_of d n)) (name_point d ok (arc_of d n) (point_of d n) la lj))

  -- the rule at a point is the rule at its other name
  rule_opposite : (m : ℕ → Bool) (y x : List ℕ) → IsChoice d y → IsChoice d x → (n : ℕ) → IsPoint d n → spot_rule d m y x (opposite d n) ≡ spot_rule d m y x n
  rule_opposite m y x cy cx n p = go (opposite d (opposite d n)) (stands d y (opposite d n)) (stands d x (opposite d n)) (opp_twice d ok n p) (stands_opposite y cy n p) (stands_opposite x cx n p)
    where
      mark : ℕ → ℕ
      mark s = cond (m s) 1 0

      go : (k : ℕ) (b c : Bool) → k ≡ n → b ≡ stands d y n → c ≡ stands d x n → rule_at b c (mark (suc (opposite d n)) + mark (suc k)) (mark (opposite d n) + mark k) ≡ spot_rule d m y x n
      go k b c e1 e2 e3 =
          let u : mark (suc (opposite d n)) + mark (suc k) ≡ mark (suc n) + mark (suc (opposite d n)) = omega (arith, ap (λ s. mark (suc s)) e1) in
          let v : mark (opposite d n) + mark k ≡ mark n + mark (opposite d n) = omega (arith, ap mark e1) in
          ap₂ (λ p q. rule_at p q (mark (suc (opposite d n)) + mark (suc k)) (mark (opposite d n) + mark k)) e2 e3 ∙ ap₂ (rule_at (stands d y n) (stands d x n)) u v

module _ (d : Drawing) (ok : IsEmbedded d) (y : List ℕ) (cy : IsChoice d y) (g : Ground) (is : IsGround d g) (s : Step) (read : Mem s (all_strips d y)) (rs : List ℕ)
    (rs_are : rs ≡ starts (λ x. get_or g.other x 0) (λ x. get_or g.opposite x 0) s.by.start (suc s.steps)) where
  abbrev w : ℕ
  w = s.by.width

  abbrev row : ℕ → ℕ
  row m = row_from d s.by.start m

  told : rs ≡ starts (other_of d) (opposite d) s.by.start (suc s.steps)
  told = told_rows d ok y cy s read g is rs rs_are

  point : (m i : ℕ) → m ≤ s.steps → i ≤ w → IsPoint d (row m + i)
  point m i lm li = row_points d ok y cy s read m i lm li

  back : (m i : ℕ) → m ≤ s.steps → i ≤ w → other_of d (row m + i) + i ≡ other_of d (row m)
  back m i lm li = side_by_side d y (row m) w (λ j lj. (rows_known d ok y cy s read).each m lm j lj) i li

  other_at : (m i : ℕ) → m ≤ s.steps → i ≤ w → get_or g.other (row m + i) 0 ≡ other_of d (row m + i)
  other_at m i lm li = other_by d ok g is (row m + i) (point m i lm li)

  -- the far edge, from its start
  far_at : (m i : ℕ) → m ≤ s.steps → i ≤ w → get_or g.other (row m + w) 0 + i ≡ get_or g.other (row m + (w - i)) 0
  far_at m i lm li = omega (arith, other_at m w lm (omega arith), other_at m (w - i) lm (omega arith), back m w lm (omega arith), back m (w - i) lm (omega arith))

  -- the far edges run along points
  pub far_points : (a : ℕ) → Mem a rs → (i : ℕ) → i ≤ w → IsPoint d (get_or g.other (a + w) 0 + i)
  far_points a k i li =
      let (m, l, e) = on_chain (other_of d) (opposite d) s.by.start (suc s.steps) a (subst (λ zs. Mem a zs) told k) in
      let p = other_point d ok (row m + (w - i)) (point m (w - i) (omega arith) (omega arith)) in
      let f = far_at m i (omega arith) li ∙ other_at m (w - i) (omega arith) (omega arith) in
      subst (λ z. IsPoint d (get_or g.other (z + w) 0 + i)) (sym e) (subst (λ z. IsPoint d z) (sym f) p)

  row_mem : (m : ℕ) → m ≤ s.steps → Mem (row m) rs
  row_mem m lm =
      let n : length rs ≡ suc s.steps = ap length told ∙ starts_length (other_of d) (opposite d) s.by.start (suc s.steps) in
      let e : get_or rs m 0 ≡ row m = ap (λ zs. get_or zs m 0) told ∙ start_on (other_of d) (opposite d) s.by.start (suc s.steps) m (omega arith) in
      subst (λ z. Mem z rs) e (mem_of_place rs m 0 (omega arith))

  -- what holds of each row holds of each member
  each_row : (p : ℕ → Bool) → ((m : ℕ) → m ≤ s.steps → p (row m) ≡ true) → list_all p rs ≡ true
  each_row p h = all_from p rs (λ a k.
      let (m, l, e) = on_chain (other_of d) (opposite d) s.by.start (suc s.steps) a (subst (λ zs. Mem a zs) told k) in
      ap p e ∙ h m (omega arith))

  module _ (x from to : List ℕ) (cx : IsChoice d x) (fy : IsStanding d y from) (fx : IsStanding d x to) (marked : ℕ → Bool) where
    abbrev rule : ℕ → Bool
    rule = spot_rule_by g from to marked

    abbrev column : ℕ → Bool
    column = column_rule_by g from to marked

    -- the row behind a row
    next_row : (m i : ℕ) → suc m ≤ s.steps → i ≤ w → rule (row (suc m) + i) ≡ rule (get_or g.other (row m + i) 0)
    next_row m i lm li =
        let p = point m i (omega arith) li in
        let q = other_point d ok (row m + i) p in
        let c : row (suc m) ≡ opposite d (other_of d (row m)) = chain_push (other_of d) (opposite d) s.by.start m in
        let e : row (suc m) + i ≡ opposite d (other_of d (row m + i)) = ap (λ z. z + i) c
        ∙ behind_row d ok (row m) w (λ j lj. point m j (omega arith) lj) (λ j lj. back m j (omega arith) lj) (λ j lj. subst (λ z. IsPoint d (z + j)) c (point (suc m) j lm lj)) i li in
        ap rule e
        ∙ (spot_same d ok g is y x from to cy cx fy fx marked (opposite d (other_of d (row m + i))) (opp_point d ok (other_of d (row m + i)) q)
        ∙ (rule_opposite d ok marked y x cy cx (other_of d (row m + i)) q
        ∙ (sym (spot_same d ok g is y x from to cy cx fy fx marked (other_of d (row m + i)) q)
        ∙ ap rule (sym (other_at m i (omega arith) li)))))

    there : edges_rule_by g from to marked w s.by.start rs ≡ true → rows_rule_by g from to marked w rs ≡ true
    there h = each_row (row_rule_by g from to marked w) (λ m lm. each_passes (λ i. column (row m + i)) (suc w) (λ i li. and_from _ _ (near m i lm (omega arith)) (far m i lm (omega arith))))
      where
        far : (m i : ℕ) → m ≤ s.steps → i ≤ w → rule (get_or g.other (row m + i) 0) ≡ true
        far m i lm li =
            let a = all_in (λ c. edge_rule_by g from to marked w (get_or g.other (c + w) 0)) (row m) rs (and_parts (edge_rule_by g from to marked w s.by.start) _ h).1 (row_mem m lm) in
            let e : get_or g.other (row m + w) 0 + (w - i) ≡ get_or g.other (row m + i) 0 = far_at m (w - i) lm (omega arith) ∙ (let z : w - (w - i) ≡ i = omega arith in rw z refl) in
            ap rule (sym e) ∙ all_below (λ k. rule (get_or g.other (row m + w) 0 + k)) (suc w) a (w - i) (omega arith)

        near : (m i : ℕ) → m ≤ s.steps → i ≤ w → rule (row m + i) ≡ true
        near zero i lm li = all_below (λ k. rule (s.by.start + k)) (suc w) (and_parts (edge_rule_by g from to marked w s.by.start) _ h).0 i (omega arith)
        near (suc m) i lm li = next_row m i lm li ∙ far m i (omega arith) li

    back_again : rows_rule_by g from to marked w rs ≡ true → edges_rule_by g from to marked w s.by.start rs ≡ true
    back_again h = and_from _ _ (each_passes (λ k. rule (s.by.start + k)) (suc w) (λ i li. (both 0 i (omega arith) (omega arith)).0))
        (each_row (λ c. edge_rule_by g from to marked w (get_or g.other (c + w) 0)) (λ m lm. each_passes (λ k. rule (get_or g.other (row m + w) 0 + k)) (suc w)
        (λ i li. ap rule (far_at m i lm (omega arith)) ∙ (both m (w - i) lm (omega arith)).1)))
      where
        both : (m i : ℕ) → m ≤ s.steps → i ≤ w → (rule (row m + i) ≡ true) × (rule (get_or g.other (row m + i) 0) ≡ true)
        both m i lm li = and_parts (rule (row m + i)) _ (all_below (λ k. column (row m + k)) (suc w) (all_in (row_rule_by g from to marked w) (row m) rs h (row_mem m lm)) i (omega arith))

    -- the rules along the first row and all far edges are those along all rows
    pub edges_tell : edges_rule_by g from to marked w s.by.start rs ≡ rows_rule_by g from to marked w rs
    edges_tell = same_test _ _ there back_again
