-- The rules near the rows of a step, by the tables of a drawing and of two generators.
use Rattle.std.proofs.Common.{◌≡◌, ℕ, suc, ◌+◌, ◌≤◌, ◌<◌, Bool, true, false, cond, eqb, ◌&&◌, List, get_or, refl, sym, ap, ap₂, arith, ◌∙◌}
use Rattle.std.specs.List.{count_by, list_all}
use Rattle.drawing.specs.Pieces.{piece_table, span_count}
use Rattle.drawing.specs.Points.{is_generator}
use Rattle.drawing.specs.Round.{opposite, point_name}
use Rattle.empty_domains.proofs.AllBelow.{all_same, each_same}
use Rattle.empty_domains.proofs.ArcPoints.{name_point}
use Rattle.empty_domains.proofs.Begins.{IsChoice}
use Rattle.empty_domains.proofs.Diagram.{IsPoint, other_of}
use Rattle.empty_domains.proofs.Grounded.{other_by, spot_same}
use Rattle.empty_domains.proofs.Standing.{stand_first}
use Rattle.empty_domains.proofs.Strands.{other_point}
use Rattle.empty_domains.specs.Ground.{Ground, IsGround, IsStanding, spot_rule_by}
use Rattle.empty_domains.specs.Marks.{arcs_rule_by, marked_by, rows_rule_by}
use Rattle.empty_domains.specs.NearTest.{arc_rule, bigons, is_near, row_rule, spot_rule}
use Rattle.empty_domains.specs.Strip.{stands}
use Rattle.empty_domains.specs.Walk.{Try, rows}
use Rattle.hkm_diagram.specs.Domains.{rule_at}
use Rattle.obd_base.proofs.lists.Sums.{sum_same}
use Rattle.obd_base.specs.Lists.{Mem, below, has}
use Rattle.page_surface.specs.Drawing.{Drawing, IsEmbedded}
use Rattle.page_surface.specs.Polygon.{arc_count, first_side}

both : {a b u v : Bool} → a ≡ b → u ≡ v → (a && u) ≡ (b && v)
both h k = rw (h, k) refl

-- the same marks give the same rule
spot_ext : (d : Drawing) (m k : ℕ → Bool) (y x : List ℕ) (n : ℕ) → ((s : ℕ) → m s ≡ k s) → spot_rule d m y x n ≡ spot_rule d k y x n
spot_ext d m k y x n e =
    ap₂ (rule_at (stands d y n) (stands d x n))
    (ap₂ (λ u v. cond u 1 0 + cond v 1 0) (e (suc n)) (e (suc (opposite d n))))
    (ap₂ (λ u v. cond u 1 0 + cond v 1 0) (e n) (e (opposite d n)))

-- a count by two tests that tell the same of the members
pub count_same : (p q : ℕ → Bool) (xs : List ℕ) → ((x : ℕ) → Mem x xs → p x ≡ q x) → count_by p xs ≡ count_by q xs
count_same p q xs e = sum_same (λ x. cond (p x) 1 0) (λ x. cond (q x) 1 0) xs (λ x m. ap (λ b. cond b 1 0) (e x m))

module _ (d : Drawing) (ok : IsEmbedded d) (g : Ground) (is : IsGround d g) where
  -- pieces next to themselves, by the table of chords
  pub told_bigons : (found : List ℕ) → ((s : ℕ) → Mem s found → s < span_count d) → count_by (λ s. eqb (suc (get_or g.other s 0)) s) found ≡ bigons d found
  told_bigons found under = count_same _ _ found (λ s m. ap (λ z. eqb (suc z) s) (is.other_is s (under s m)))

  module _ (y x from to : List ℕ) (cy : IsChoice d y) (cx : IsChoice d x) (fy : IsStanding d y from) (fx : IsStanding d x to)
      (pieces found : List ℕ) (marks : List Bool) (pieces_are : pieces ≡ piece_table d) (marked : (p : ℕ) → get_or marks p false ≡ has found p) where
    -- the marks by first spans
    abbrev pub in_found : ℕ → Bool
    in_found s = has found (get_or (piece_table d) s 0)

    marks_same : (s : ℕ) → marked_by pieces marks s ≡ in_found s
    marks_same s = marked (get_or pieces s 0) ∙ ap (λ zs. has found (get_or zs s 0)) pieces_are

    -- the rule at a point
    told_spot : (n : ℕ) → IsPoint d n → spot_rule_by g from to (marked_by pieces marks) n ≡ spot_rule d in_found y x n
    told_spot n p = spot_same d ok g is y x from to cy cx fy fx (marked_by pieces marks) n p ∙ spot_ext d (marked_by pieces marks) in_found y x n marks_same

    -- at the points of both generators
    pub told_arcs : arcs_rule_by d g from to (marked_by pieces marks) ≡ list_all (arc_rule d in_found y x) (below (arc_count d.polygon))
    told_arcs = all_same _ _ (arc_count d.polygon) (λ a la.
        let f = first_side d.polygon a in
        let lf = ok.polygon.first_in_range a la in
        let u : get_or from f 0 ≡ point_name d a (get_or y a 0) = fy.each f lf ∙ stand_first d ok y cy a la in
        let v : get_or to f 0 ≡ point_name d a (get_or x a 0) = fx.each f lf ∙ stand_first d ok x cx a la in
        both (ap (spot_rule_by g from to (marked_by pieces marks)) u ∙ told_spot (point_name d a (get_or y a 0)) (name_point d ok a (get_or y a 0) la (cy.under a la)))
        (ap (spot_rule_by g from to (marked_by pieces marks)) v ∙ told_spot (point_name d a (get_or x a 0)) (name_point d ok a (get_or x a 0) la (cx.under a la))))

    -- and along rows
    pub told_rows_rule : (width : ℕ) (rs : List ℕ) → ((a : ℕ) → Mem a rs → (i : ℕ) → i ≤ width → IsPoint d (a + i))
        → rows_rule_by g from to (marked_by pieces marks) width rs ≡ list_all (row_rule d in_found y x width) rs
    told_rows_rule width rs points = each_same _ _ rs (λ a m. all_same _ _ (suc width) (λ i l.
        let p = points a m i (omega arith) in
        both (told_spot (a + i) p) (ap (spot_rule_by g from to (marked_by pieces marks)) (other_by d ok g is (a + i) p) ∙ told_spot (other_of d (a + i)) (other_point d ok (a + i) p))))

    -- so is the whole test near a set
    pub told_near : (t : Try) (rs : List ℕ) → rs ≡ rows d t → ((a : ℕ) → Mem a rs → (i : ℕ) → i ≤ t.width → IsPoint d (a + i)) → is_generator d x ≡ true
        → is_near d found y x t ≡ (eqb (bigons d found) (cond (eqb t.first t.second) 1 0)
        && (arcs_rule_by d g from to (marked_by pieces marks) && rows_rule_by g from to (marked_by pieces marks) t.width rs))
    told_near t rs e points gen =
        let a = told_arcs in
        let r = told_rows_rule t.width rs points ∙ ap (list_all (row_rule d in_found y x t.width)) e in
        both gen (ap₂ (λ u v. eqb (bigons d found) (cond (eqb t.first t.second) 1 0) && (u && v)) (sym a) (sym r))
