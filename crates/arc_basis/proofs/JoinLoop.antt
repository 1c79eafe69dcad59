-- Joining label by label, by positions.
use Rattle.std.proofs.Common.{◌≡◌, ◌≢◌, ℕ, suc, ◌+◌, ◌-◌, ◌<◌, ◌≤◌, Bool, true, false, eqb, ◌&&◌, ◌||◌, not, List, [], ◌∷◌, ◌++◌, length, take, drop, get_or, set, Option, Some, refl, sym, ap, ap₂, ◌∙◌, inl, inr, arith, append-nil, append_assoc}
use Rattle.std.specs.List.{after_first, before_first, count_by, range_with_len, remove}
use Rattle.std.specs.Option.{IfSome}
use Rattle.std.proofs.lemmas.Bool.{cases_Bool, cases_eq, eq-eqb, ne_eqb}
use Rattle.obd_base.specs.Lists.{Mem}
use Rattle.obd_base.proofs.lists.Below.{bit}
use Rattle.obd_base.proofs.lists.Members.{mem_append}
use Rattle.page_surface.specs.declared.page.SideLabel.{SideLabel}
use Rattle.page_surface.specs.Joining.{Joined, has_side, is_side, is_split, join_all, joined, joined_along, round_after, side}
use Rattle.page_surface.specs.Labels.{Label, all_sides, labels_of, side_labels_of}
use Rattle.page_surface.specs.Page.{IsPage}
use Rattle.page_surface.proofs.FewSides.{few_sides}
use Rattle.page_surface.proofs.LabelNumbers.{first_below}
use Rattle.page_surface.proofs.Sides.{length-side_labels}
use Rattle.arc_basis.proofs.LabelCounts.{sides_in_row, stands}
use Rattle.arc_basis.proofs.Places.{any_counted}
use Rattle.arc_basis.specs.declared.joining.SidePlace.{SidePlace}
use Rattle.arc_basis.specs.SeamTables.{IsJoining, place_in, polygon_with, spliced}
use Rattle.arc_basis.proofs.Places.{mem_at}
use Rattle.arc_basis.proofs.Rows.{once_in_row, sides_of, had_mem, mem_had}
use Rattle.arc_basis.proofs.Joints.{apart, few_have, joint, step_is}
use Rattle.arc_basis.proofs.JoinAll.{joins, joint_stands, joint_sum, stays}
use Rattle.arc_basis.proofs.OneItem.{counted, one_there, only_one}
use Rattle.arc_basis.proofs.Whole.{length_sum, page_whole}

module _ (page : List (List Label)) (valid : IsPage page) where
  abbrev labels : ℕ
  labels = length (labels_of page)

  -- at the start no label is taken
  pub joining_none : IsJoining page 0 (side_labels_of [] page) []
  joining_none = record {
    polygons_are = ap (λ m. (join_all (range_with_len 0 m) (side_labels_of [] page)).polygons) (sym all);
    seams_are = ap (λ m. (join_all (range_with_len 0 m) (side_labels_of [] page)).seams) (sym all);
    once = λ number occurrence l h o. once_in_row page valid number occurrence h o;
    few = omega (arith, ap length (sides_in_row [] page), length-side_labels [] (all_sides page), few_sides page valid);
  }
    where
      all : labels - 0 ≡ labels
      all = omega arith

  -- at the end the polygons and the seams are what joining leaves
  pub joining_done : (label : ℕ) (polygons : List (List SideLabel)) (seams : List ℕ) → length (labels_of page) ≤ label → IsJoining page label polygons seams
      → (polygons ≡ (joined page).polygons) × (seams ≡ (joined page).seams)
  joining_done label polygons seams l i =
      let none : labels - label ≡ 0 = omega (arith, l) in (
        sym (i.polygons_are ∙ ap (λ m. (join_all (range_with_len label m) polygons).polygons) none),
        sym (i.seams_are ∙ (ap (λ m. seams ++ (join_all (range_with_len label m) polygons).seams) none ∙ append-nil seams)),
      )

  -- so one polygon is left, with the sides that joining leaves
  pub joining_whole : (label : ℕ) (polygons : List (List SideLabel)) (seams : List ℕ) → length (labels_of page) ≤ label → IsJoining page label polygons seams
      → polygons ≡ sides_of (joined page).polygons ∷ []
  joining_whole label polygons seams l i =
      (joining_done label polygons seams l i).0 ∙ ap (λ (j : Joined). j.polygons) (page_whole page valid).joined_is

  module _ (label : ℕ) (polygons : List (List SideLabel)) (seams : List ℕ) (i : IsJoining page label polygons seams) (l : label < length (labels_of page)) where
    one0 : stands label 0 (sides_of polygons) ≡ 1
    one0 = i.once label 0 (omega arith) l (omega arith)

    one1 : stands label 1 (sides_of polygons) ≡ 1
    one1 = i.once label 1 (omega arith) l (omega arith)

    next : range_with_len label (labels - label) ≡ label ∷ range_with_len (label + 1) (labels - (label + 1))
    next = ap (range_with_len label) (let e : labels - label ≡ suc (labels - (label + 1)) = omega (arith, l) in e)

    -- on just one polygon each of its sides stands
    pub one_has : (occurrence : ℕ) → occurrence ≤ 1 → count_by (has_side (side label occurrence)) polygons ≡ 1
    one_has occurrence o =
        let one = i.once label occurrence (omega arith) l o in
        let most = few_have (side label occurrence) polygons in
        let m = mem_had (side label occurrence) (sides_of polygons) (any_counted (is_side (side label occurrence)) (sides_of polygons) (omega (arith, one))) in
        let (p, mp, k) = on_one polygons m in
        let least = counted (has_side (side label occurrence)) p polygons mp (had_mem (side label occurrence) p k) in
        omega (arith, most, one, least)
      where
        on_one : (q : List (List SideLabel)) → Mem (side label occurrence) (sides_of q) → (p : List SideLabel) × Mem p q × Mem (side label occurrence) p
        on_one [] m = absurd m
        on_one (p ∷ q) m = elim (mem_append (side label occurrence) p (sides_of q) m) [
          | inl k ↦ (p, inl refl, k)
          | inr k ↦ (let (r, a, b) = on_one q k in (r, inr a, b))
        ]

    -- so both of its sides are found
    pub side_found : (occurrence : ℕ) → occurrence ≤ 1
        → (polygon_with (side label occurrence) polygons < length polygons)
        × (place_in (side label occurrence) polygons < length (get_or polygons (polygon_with (side label occurrence) polygons) []))
    side_found occurrence o =
        let r = one_there (has_side (side label occurrence)) polygons [] (one_has occurrence o) in
        (r.0, first_below (is_side (side label occurrence)) _ r.1)

    -- the label is split where they are found on two polygons
    pub split_by_places : is_split label polygons ≡ not (eqb (polygon_with (side label 0) polygons) (polygon_with (side label 1) polygons))
    split_by_places = elim (cases_eq (polygon_with (side label 0) polygons) (polygon_with (side label 1) polygons)) [
      | inl e ↦ no_split e ∙ sym (ap not (eq-eqb _ _ e))
      | inr n ↦ split n ∙ sym (ap not (ne_eqb _ _ n))
    ]
      where
        no_split : polygon_with (side label 0) polygons ≡ polygon_with (side label 1) polygons → is_split label polygons ≡ false
        no_split e = elim (cases_Bool (is_split label polygons)) [
          | inr f ↦ f
          | inl t ↦ absurd (apart label polygons t one0 one1 e)
        ]

        or_second : (a b : Bool) → b ≡ true → (a || b) ≡ true
        or_second true b e = refl
        or_second false b e = e

        any_one : (q : List (List SideLabel)) (p : List SideLabel) → Mem p q → (has_side (side label 0) p && not (has_side (side label 1) p)) ≡ true → is_split label q ≡ true
        any_one [] p m h = absurd m
        any_one (r ∷ q) p (inl e) h = ap (λ b. b || is_split label q) (ap (λ x. has_side (side label 0) x && not (has_side (side label 1) x)) (sym e) ∙ h)
        any_one (r ∷ q) p (inr m) h = or_second (has_side (side label 0) r && not (has_side (side label 1) r)) _ (any_one q p m h)

        split : polygon_with (side label 0) polygons ≢ polygon_with (side label 1) polygons → is_split label polygons ≡ true
        split n =
            let a = polygon_with (side label 0) polygons in
            let r = one_there (has_side (side label 0)) polygons [] (one_has 0 (omega arith)) in
            let p = get_or polygons a [] in
            let none : has_side (side label 1) p ≡ false = elim (cases_Bool (has_side (side label 1) p)) [
              | inr f ↦ f
              | inl t ↦ absurd (n (only_one (has_side (side label 1)) polygons [] a (one_has 1 (omega arith)) r.0 t))
            ] in
            any_one polygons p (mem_at polygons a [] r.0) (ap₂ (λ x y. x && not y) r.1 none)

    -- a label whose sides are found on one polygon is passed over
    pub joining_stays : is_split label polygons ≡ false → IsJoining page (label + 1) polygons seams
    joining_stays f =
        let now : join_all (range_with_len label (labels - label)) polygons ≡ join_all (range_with_len (label + 1) (labels - (label + 1))) polygons
        = ap (λ xs. join_all xs polygons) next ∙ stays label (range_with_len (label + 1) (labels - (label + 1))) polygons f in
        record {
          polygons_are = i.polygons_are ∙ ap (λ (j : Joined). j.polygons) now;
          seams_are = i.seams_are ∙ ap (λ (j : Joined). seams ++ j.seams) now;
          once = λ number occurrence h k o. i.once number occurrence (omega (arith, h)) k o;
          few = i.few;
        }

    -- a split label joins its two polygons and is a seam
    pub joining_more : is_split label polygons ≡ true → IsJoining page (label + 1) (joined_along label polygons) (seams ++ label ∷ [])
    joining_more t =
        let rest : List ℕ = range_with_len (label + 1) (labels - (label + 1)) in
        let now = ap (λ xs. join_all xs polygons) next ∙ joins label rest polygons t in
        let j = joint label polygons t one0 one1 in
        record {
          polygons_are = i.polygons_are ∙ ap (λ (j : Joined). j.polygons) now;
          seams_are = i.seams_are ∙ (ap (λ (j : Joined). seams ++ j.seams) now ∙ sym (append_assoc seams (label ∷ []) (join_all rest (joined_along label polygons)).seams));
          once = λ number occurrence h k o.
              let n : number ≢ label = λ e. omega (arith, e, h) in
              let none : bit (eqb number label) ≡ 0 = ap bit (ne_eqb number label n) in
              omega (arith, joint_stands label polygons (joined_along label polygons) j number occurrence o, i.once number occurrence (omega (arith, h)) k o, none);
          few =
              let fewer = joint_sum label polygons (joined_along label polygons) j (λ s. 1) in
              omega (arith, fewer, length_sum (sides_of polygons), length_sum (sides_of (joined_along label polygons)), i.few);
        }

    -- the joined polygons by positions
    pub spliced_is : is_split label polygons ≡ true → spliced label polygons ≡ joined_along label polygons
    spliced_is t =
        let a = polygon_with (side label 0) polygons in
        let first = get_or polygons a [] in
        let second = get_or polygons (polygon_with (side label 1) polygons) [] in
        let whole : take (place_in (side label 0) polygons) first
        ++ (drop (place_in (side label 1) polygons + 1) second ++ (take (place_in (side label 1) polygons) second ++ drop (place_in (side label 0) polygons + 1) first))
        ≡ (before_first (is_side (side label 0)) first ++ round_after (side label 1) second) ++ after_first (is_side (side label 0)) first
        = ap (λ z. before_first (is_side (side label 0)) first ++ z)
        (sym (append_assoc (after_first (is_side (side label 1)) second) (before_first (is_side (side label 1)) second) (after_first (is_side (side label 0)) first)))
        ∙ sym (append_assoc (before_first (is_side (side label 0)) first) (round_after (side label 1) second) (after_first (is_side (side label 0)) first)) in
        ap (λ p. remove (set polygons a p) (polygon_with (side label 1) polygons)) whole ∙ sym (step_is label polygons t one0 one1)

    -- the same of what is found
    module _ (number : ℕ) (n : number ≡ label) (q0 q1 : List (List SideLabel)) (d0 : q0 ≡ polygons) (d1 : q1 ≡ polygons) (r0 r1 : Option SidePlace)
        (h0 : IfSome r0 (λ a. a.polygon ≡ polygon_with (side number 0) q0)) (g0 : IfSome r0 (λ a. a.place ≡ place_in (side number 0) q0))
        (h1 : IfSome r1 (λ a. a.polygon ≡ polygon_with (side number 1) q1)) (g1 : IfSome r1 (λ a. a.place ≡ place_in (side number 1) q1))
        (a0 a1 : SidePlace) (u0 : r0 ≡ Some a0) (u1 : r1 ≡ Some a1) where
      at0 : (a0.polygon ≡ polygon_with (side label 0) polygons) × (a0.place ≡ place_in (side label 0) polygons)
      at0 = (
        (rw u0 at h0) ∙ ap₂ (λ k q. polygon_with (side k 0) q) n d0,
        (rw u0 at g0) ∙ ap₂ (λ k q. place_in (side k 0) q) n d0,
      )

      at1 : (a1.polygon ≡ polygon_with (side label 1) polygons) × (a1.place ≡ place_in (side label 1) polygons)
      at1 = (
        (rw u1 at h1) ∙ ap₂ (λ k q. polygon_with (side k 1) q) n d1,
        (rw u1 at g1) ∙ ap₂ (λ k q. place_in (side k 1) q) n d1,
      )

      pub in_range0 : (a0.polygon < length polygons) × (a0.place < length (get_or polygons a0.polygon []))
      in_range0 = rw (at0.0, at0.1) (side_found 0 (omega arith))

      pub in_range1 : (a1.polygon < length polygons) × (a1.place < length (get_or polygons a1.polygon []))
      in_range1 = rw (at1.0, at1.1) (side_found 1 (omega arith))

      pub stays_so : a0.polygon ≡ a1.polygon → IsJoining page (label + 1) polygons seams
      stays_so e = joining_stays (split_by_places ∙ ap not (eq-eqb _ _ (sym at0.0 ∙ (e ∙ at1.0))))

      pub more_so : a0.polygon ≢ a1.polygon → (qs : List (List SideLabel)) (ss : List ℕ)
          → qs ≡ remove (set polygons a0.polygon (take a0.place (get_or polygons a0.polygon []) ++ (drop (a1.place + 1) (get_or polygons a1.polygon [])
          ++ (take a1.place (get_or polygons a1.polygon []) ++ drop (a0.place + 1) (get_or polygons a0.polygon []))))) a1.polygon
          → ss ≡ seams ++ number ∷ [] → IsJoining page (label + 1) qs ss
      more_so ne qs ss q s =
          let t : is_split label polygons ≡ true = split_by_places ∙ ap not (ne_eqb _ _ (λ e. ne (at0.0 ∙ (e ∙ sym at1.0)))) in
          let made : qs ≡ joined_along label polygons = (rw (at0.0, at0.1, at1.0, at1.1) at q) ∙ spliced_is t in
          rw (made, s, n) (joining_more t)
