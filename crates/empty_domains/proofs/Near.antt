-- A try that a strip read off succeeds just where it passes the test near its set.
use Rattle.std.proofs.Common.{◌≡◌, ℕ, suc, ◌+◌, ◌*◌, ◌≤◌, ◌<◌, ◌⊎◌, inl, inr, Bool, true, false, cond, eqb, ◌&&◌, List, [], ◌∷◌, get_or, length, refl, sym, ap, ap₂, subst, arith, ◌∙◌}
use Rattle.std.specs.List.{list_all, sum_by}
use Rattle.std.proofs.lemmas.Bool.{and_from, and_parts, cases_Bool, cases_eq, eq-eqb, eqb-true, ne_eqb}
use Rattle.std.proofs.lemmas.List.Sums.{sum_by-cons}
use mathlib.Core.Path.{fun_ext}
use Rattle.drawing.specs.Pieces.{corners, inner_pieces, piece_table}
use Rattle.drawing.specs.Points.{crossings_of, is_generator}
use Rattle.drawing.specs.Round.{arc_of, opposite, point_name, point_of}
use Rattle.empty_domains.proofs.Along.{Names, named}
use Rattle.empty_domains.proofs.Begins.{IsChoice}
use Rattle.empty_domains.proofs.Diagram.{IsPoint, other_of}
use Rattle.empty_domains.proofs.DomainGeneral.{Rules, in_value, out_value}
use Rattle.empty_domains.proofs.LocalTest.{Near, at_x, at_y, leads_in, leads_out, rules_from_near}
use Rattle.empty_domains.proofs.Moved.{moved_target}
use Rattle.empty_domains.proofs.NiceSets.{inner_first, once_inner}
use Rattle.empty_domains.proofs.Rows.{found_inner, found_part, found_taken, inner_rows, marked_swept, row_at, swept_at, taken_found}
use Rattle.empty_domains.proofs.SameMembers.{same_has, same_length, same_sum}
use Rattle.empty_domains.proofs.SpotRule.{rule_tested, rule_told, same_test, spot_is}
use Rattle.empty_domains.proofs.StripFacts.{IsStrip}
use Rattle.empty_domains.proofs.Strands.{other_point}
use Rattle.empty_domains.proofs.Tries.{IsTry}
use Rattle.empty_domains.proofs.TwoSpans.{four_corners, two_corners}
use Rattle.empty_domains.proofs.WalkTheorem.{target_choice}
use Rattle.hkm_diagram.proofs.ContactColumn.{mark}
use Rattle.empty_domains.specs.NearTest.{IsCollected, arc_rule, bigons, is_near, near_rules, row_rule, spot_rule, swept}
use Rattle.empty_domains.specs.Strip.{Step}
use Rattle.empty_domains.specs.Walk.{found, on_rows, rows, succeeds, target}
use Rattle.hkm_diagram.proofs.Laws.{domain_test}
use Rattle.hkm_diagram.specs.Domains.{IsDomain, is_domain, keeps_rule, moved}
use Rattle.obd_base.proofs.lists.Members.{once_filter}
use Rattle.obd_base.specs.Lists.{Mem, Once, below, has, parts}
use Rattle.page_surface.specs.Drawing.{Drawing, IsEmbedded}
use Rattle.page_surface.specs.Polygon.{arc_count}
use Rattle.region_table.specs.Nice.{IsNice}
use Rattle.page_surface.proofs.EmbeddedTest.{all_from, all_in}
use Rattle.drawing.proofs.Lists.{has_mem, mem_has}
use Rattle.obd_base.proofs.lists.Below.{mem_range, range_mem}

-- four times as many as the corners, and two for each bigon
balance : (d : Drawing) (ps : List ℕ) → ((p : ℕ) → Mem p ps → corners d p + 2 * cond (eqb (suc (other_of d p)) p) 1 0 ≡ 4)
    → sum_by (corners d) ps + 2 * bigons d ps ≡ 4 * length ps
balance d [] h = refl
balance d (p ∷ ps) h =
    let ih = balance d ps (λ q m. h q (inr m)) in
    omega (arith, ih, h p (inl refl), sum_by-cons (corners d) p ps, sum_by-cons (λ q. cond {A = ℕ} (eqb (suc (other_of d q)) q) 1 0) p ps)

-- two equations of which each gives the other, as tests
same_equation : (a b c e : ℕ) → (a ≡ b → c ≡ e) → (c ≡ e → a ≡ b) → eqb a b ≡ eqb c e
same_equation a b c e h k = same_test (eqb a b) (eqb c e) (λ t. eq-eqb _ _ (h (eqb-true _ _ t))) (λ t. eq-eqb _ _ (k (eqb-true _ _ t)))

module _ (d : Drawing) (ok : IsEmbedded d) (nice : IsNice d) (y : List ℕ) (choice : IsChoice d y) (s : Step) (is_try : IsTry d y s.by) (strip : IsStrip d y s)
    (ps : List ℕ) (collected_all : IsCollected (piece_table d) (swept d s.by) ps) where
  -- the pieces that the try finds
  abbrev set : List ℕ
  set = found d s.by

  -- their marks as numbers
  abbrev f : ℕ → ℕ
  f = mark d (found d s.by)

  -- where the try leads
  abbrev x : List ℕ
  x = target d y s.by

  -- the marks by the pieces found
  abbrev marked : ℕ → Bool
  marked = λ z. has (found d s.by) (get_or (piece_table d) z 0)

  -- the marks by the pieces collected
  abbrev collected : ℕ → Bool
  collected = λ z. has ps (get_or (piece_table d) z 0)

  inner : (z : ℕ) → has (found d s.by) z ≡ true → has (inner_pieces d) z ≡ true
  inner = found_inner d ok nice y choice s is_try strip

  goal : IsChoice d (target d y s.by)
  goal = target_choice d ok y choice s.by is_try

  ps_found : (p : ℕ) → Mem p ps → Mem p (found d s.by)
  ps_found p m = taken_found d ok nice y choice s is_try strip p (collected_all.met p m)

  found_ps : (p : ℕ) → Mem p (found d s.by) → Mem p ps
  found_ps p m = collected_all.all p (found_taken d ok nice y choice s is_try strip p m)

  -- the marks by the collected pieces are those by the found ones
  same_marks : collected ≡ marked
  same_marks = fun_ext (λ z. same_has ps (found d s.by) ps_found found_ps (get_or (piece_table d) z 0))

  -- a found piece has four corners, or two where it is a bigon
  piece_corners : (p : ℕ) → Mem p ps → corners d p + 2 * cond (eqb (suc (other_of d p)) p) 1 0 ≡ 4
  piece_corners p m =
      let n = ps_found p m in
      let (t, under, _) = inner_first d p (mem_has (inner_pieces d) p (inner p (has_mem (found d s.by) p n))) in
      let h : has (found d s.by) (get_or (piece_table d) p 0) ≡ true = subst (λ z. has (found d s.by) z ≡ true) (sym t) (has_mem (found d s.by) p n) in
      let one : mark d (found d s.by) p ≡ 1 = rw h refl in
      elim (cases_eq (suc (other_of d p)) p) [
        | inl e ↦ (
            let c : corners d p ≡ 2 = subst (λ z. corners d z ≡ 2) t (two_corners d ok nice (found d s.by) inner p one e) in
            let b : eqb (suc (other_of d p)) p ≡ true = eq-eqb _ _ e in
            rw (c, b) refl)
        | inr e ↦ (
            let c : corners d p ≡ 4 = subst (λ z. corners d z ≡ 4) t (four_corners d ok nice (found d s.by) inner p one e) in
            let b : eqb (suc (other_of d p)) p ≡ false = ne_eqb _ _ e in
            rw (c, b) refl)
      ]

  -- the corners add up just where there are as many bigons as the moved points leave
  add_up : eqb (4 * length (found d s.by) + moved d y (target d y s.by)) (4 + sum_by (corners d) (found d s.by)) ≡ eqb (2 * bigons d ps + moved d y (target d y s.by)) 4
  add_up =
      let n : length ps ≡ length (found d s.by) = same_length ps (found d s.by) collected_all.once once_found ps_found found_ps in
      let c : sum_by (corners d) ps ≡ sum_by (corners d) (found d s.by) = same_sum (corners d) ps (found d s.by) collected_all.once once_found ps_found found_ps in
      let b = balance d ps piece_corners in
      same_equation _ _ _ _ (λ e. omega (arith, n, c, b, e)) (λ e. omega (arith, n, c, b, e))
    where
      once_found : Once (found d s.by)
      once_found = once_filter (on_rows d s.by) (inner_pieces d) (once_inner d)

  -- one bigon where two points are moved, none where four are
  fits : eqb (2 * bigons d ps + moved d y (target d y s.by)) 4 ≡ eqb (bigons d ps) (cond (eqb s.by.first s.by.second) 1 0)
  fits = elim (cases_Bool (eqb s.by.first s.by.second)) [
    | inl q ↦ (let m : moved d y (target d y s.by) ≡ 2 = rw q at (moved_target d ok y choice s.by is_try) in
        rw (m, q) (same_equation _ _ _ _ (λ e. omega arith) (λ e. omega arith)))
    | inr q ↦ (let m : moved d y (target d y s.by) ≡ 4 = rw q at (moved_target d ok y choice s.by is_try) in
        rw (m, q) (same_equation _ _ _ _ (λ e. omega arith) (λ e. omega arith)))
  ]

  -- the rule at a name is the rule at the point
  spot : (a j n : ℕ) → a < arc_count d.polygon → j ≤ crossings_of d a → Names d a j n → spot_rule d marked y x n ≡ keeps_rule d (piece_table d) y x set a j
  spot a j n la lj h = spot_is d ok (found d s.by) inner y (target d y s.by) choice goal a j n la lj h

  -- the rules at all points pass each test near the set
  all_near : ((a : ℕ) → a < arc_count d.polygon → (j : ℕ) → j < suc (crossings_of d a) → keeps_rule d (piece_table d) y x set a j ≡ true) → near_rules d marked y x s.by ≡ true
  all_near h = and_from (list_all (arc_rule d marked y x) (below (arc_count d.polygon))) _
      (all_from (arc_rule d marked y x) (below (arc_count d.polygon)) (λ a m.
      let la : a < arc_count d.polygon = (let r = mem_range 0 (arc_count d.polygon) a m in omega (arith, r)) in
      and_from (spot_rule d marked y x (point_name d a (get_or y a 0))) _
      (spot a (get_or y a 0) _ la (choice.under a la) (inl refl) ∙ h a la (get_or y a 0) (let l = choice.under a la in omega arith))
      (spot a (get_or x a 0) _ la (goal.under a la) (inl refl) ∙ h a la (get_or x a 0) (let l = goal.under a la in omega arith))))
      (all_from (row_rule d marked y x s.by.width) (rows d s.by) (λ a m.
      all_from (λ i. spot_rule d marked y x (a + i) && spot_rule d marked y x (other_of d (a + i))) (below (suc s.by.width)) (λ i l.
      let p = (row_at d ok nice y choice s is_try strip a m).point i (let r = mem_range 0 (suc s.by.width) i l in omega (arith, r)) in
      and_from (spot_rule d marked y x (a + i)) _ (at_point (a + i) p) (at_point (other_of d (a + i)) (other_point d ok (a + i) p)))))
    where
      at_point : (n : ℕ) → IsPoint d n → spot_rule d marked y x n ≡ true
      at_point n p = let (la, lj, k) = named d ok n p in spot (arc_of d n) (point_of d n) n la lj k ∙ h (arc_of d n) la (point_of d n) (omega arith)

  -- a point along the rows, or the other end of a chord there
  abbrev OnRows : ℕ → Type 0
  OnRows n = (a : ℕ) × (i : ℕ) × Mem a (rows d s.by) × (i ≤ s.by.width) × ((n ≡ a + i) ⊎ (n ≡ other_of d (a + i)))

  row_point : (a i n : ℕ) → Mem a (rows d s.by) → i ≤ s.by.width → (n ≡ a + i) ⊎ (n ≡ other_of d (a + i)) → OnRows n
  row_point a i n m l h = (a, i, m, l, h)

  -- the points at the two ends of a marked span are tested
  span_before : (n : ℕ) → f (suc n) ≡ 1 → OnRows n
  span_before n e =
      let (q, m, w) = marked_swept d ok nice y choice s is_try strip (suc n) e in
      let (a, i, k, l, v) = swept_at d ok nice y choice s is_try strip q m in
      elim w [
        | inl u ↦ row_point a i n k (omega arith) (inl (omega arith))
        | inr u ↦ row_point a (suc i) n k (omega arith) (inr (let z : q ≡ a + suc i = omega arith in let o : other_of d q ≡ other_of d (a + suc i) = ap (other_of d) z in omega arith))
      ]

  span_after : (n : ℕ) → f n ≡ 1 → OnRows n
  span_after n e =
      let (q, m, w) = marked_swept d ok nice y choice s is_try strip n e in
      let (a, i, k, l, v) = swept_at d ok nice y choice s is_try strip q m in
      let r = row_at d ok nice y choice s is_try strip a k in
      elim w [
        | inl u ↦ row_point a (suc i) n k (omega arith) (inl (omega arith))
        | inr u ↦ row_point a i n k (omega arith) (inr (
            let z : q ≡ a + suc i = omega arith in
            let o : other_of d q ≡ other_of d (a + suc i) = ap (other_of d) z in
            let b1 = r.back i (omega arith) in
            let b2 = r.back (suc i) (omega arith) in
            omega (arith, u, o, b1, b2)))
      ]

  bits : (z : ℕ) → (f z ≡ 0) ⊎ (f z ≡ 1)
  bits z = elim (cases_Bool (has (found d s.by) (get_or (piece_table d) z 0))) [ inl q ↦ inr (rw q refl) | inr q ↦ inl (rw q refl) ]

  some : (u v : ℕ) → 0 < f u + f v → (f u ≡ 1) ⊎ (f v ≡ 1)
  some u v l = elim (bits u) [ inr e ↦ inl e | inl e ↦ elim (bits v) [ inr k ↦ inr k | inl k ↦ absurd (omega arith) ] ]

  -- a try that passes near its set keeps the rules at all points
  near_all : near_rules d marked y x s.by ≡ true → Rules d y x set
  near_all h = rules_from_near d y x set (λ a la j lj near. rule_told _ _ _ _ (kept a la j (omega arith) near))
    where
      at_arcs : (a : ℕ) → a < arc_count d.polygon → arc_rule d marked y x a ≡ true
      at_arcs a la = all_in (arc_rule d marked y x) a (below (arc_count d.polygon)) (and_parts (list_all (arc_rule d marked y x) (below (arc_count d.polygon))) _ h).0 (range_mem 0 (arc_count d.polygon) a (omega arith) (omega arith))

      at_rows : (n : ℕ) → OnRows n → spot_rule d marked y x n ≡ true
      at_rows n (a, i, m, l, k) =
          let row = all_in (row_rule d marked y x s.by.width) a (rows d s.by) (and_parts (list_all (arc_rule d marked y x) (below (arc_count d.polygon))) _ h).1 m in
          let (u, v) = and_parts (spot_rule d marked y x (a + i)) _ (all_in (λ i. spot_rule d marked y x (a + i) && spot_rule d marked y x (other_of d (a + i))) i (below (suc s.by.width)) row (range_mem 0 (suc s.by.width) i (omega arith) (omega arith))) in
          elim k [ inl e ↦ subst (λ z. spot_rule d marked y x z ≡ true) (sym e) u | inr e ↦ subst (λ z. spot_rule d marked y x z ≡ true) (sym e) v ]

      by_name : (a j n : ℕ) → a < arc_count d.polygon → j ≤ crossings_of d a → Names d a j n → spot_rule d marked y x n ≡ true → keeps_rule d (piece_table d) y x set a j ≡ true
      by_name a j n la lj k t = sym (spot a j n la lj k) ∙ t

      kept : (a : ℕ) → a < arc_count d.polygon → (j : ℕ) → j ≤ crossings_of d a → Near d y x set a j → keeps_rule d (piece_table d) y x set a j ≡ true
      kept a la j lj (at_y e) = subst (λ i. keeps_rule d (piece_table d) y x set a i ≡ true) e
          (by_name a (get_or y a 0) _ la (choice.under a la) (inl refl) (and_parts (spot_rule d marked y x (point_name d a (get_or y a 0))) _ (at_arcs a la)).0)
      kept a la j lj (at_x e) = subst (λ i. keeps_rule d (piece_table d) y x set a i ≡ true) e
          (by_name a (get_or x a 0) _ la (goal.under a la) (inl refl) (and_parts (spot_rule d marked y x (point_name d a (get_or y a 0))) _ (at_arcs a la)).1)
      kept a la j lj (leads_out l) =
          let w = point_name d a j in
          let v = out_value d ok (found d s.by) inner a j la lj in
          elim (some (suc w) (suc (opposite d w)) (omega arith)) [
            | inl e ↦ by_name a j w la lj (inl refl) (at_rows w (span_before w e))
            | inr e ↦ by_name a j (opposite d w) la lj (inr refl) (at_rows (opposite d w) (span_before (opposite d w) e))
          ]
      kept a la j lj (leads_in l) =
          let w = point_name d a j in
          let v = in_value d ok (found d s.by) inner a j la lj in
          elim (some w (opposite d w) (omega arith)) [
            | inl e ↦ by_name a j w la lj (inl refl) (at_rows w (span_after w e))
            | inr e ↦ by_name a j (opposite d w) la lj (inr refl) (at_rows (opposite d w) (span_after (opposite d w) e))
          ]

  -- the literal test is the sum and the rules near the set
  domain_near : is_domain d (piece_table d) y x set ≡ (eqb (2 * bigons d ps + moved d y x) 4 && near_rules d marked y x s.by)
  domain_near = same_test _ _ there back
    where
      part : Mem (found d s.by) (parts (inner_pieces d))
      part = found_part d ok nice y choice s is_try strip

      there : is_domain d (piece_table d) y x set ≡ true → (eqb (2 * bigons d ps + moved d y x) 4 && near_rules d marked y x s.by) ≡ true
      there t =
          let dom = (domain_test d y (target d y s.by) (found d s.by) part).0 t in
          and_from (eqb (2 * bigons d ps + moved d y x) 4) _ (sym add_up ∙ eq-eqb _ _ dom.corners_add_up)
          (all_near (λ a la j lj. rule_tested _ _ _ _ (dom.rules a la j lj)))

      back : (eqb (2 * bigons d ps + moved d y x) 4 && near_rules d marked y x s.by) ≡ true → is_domain d (piece_table d) y x set ≡ true
      back t =
          let (e, n) = and_parts (eqb (2 * bigons d ps + moved d y x) 4) _ t in
          let dom : IsDomain d y (target d y s.by) (found d s.by) = record { inner = part; corners_add_up = eqb-true _ _ (add_up ∙ e); rules = near_all n } in
          (domain_test d y (target d y s.by) (found d s.by) part).1 dom

  -- a try that a strip read off succeeds just where it passes near its set
  pub near_succeeds : succeeds d y s.by ≡ is_near d ps y (target d y s.by) s.by
  near_succeeds =
      let one = strip.comes in
      let two = inner_rows d ok nice y choice s is_try strip in
      let three : succeeds d y s.by ≡ (is_generator d x && is_domain d (piece_table d) y x set) = rw (one, two) refl in
      let four : near_rules d collected y x s.by ≡ near_rules d marked y x s.by = ap (λ m. near_rules d m y x s.by) same_marks in
      three ∙ (ap (λ b. is_generator d x && b) (domain_near ∙ ap₂ (λ a b. a && b) fits (sym four)))
