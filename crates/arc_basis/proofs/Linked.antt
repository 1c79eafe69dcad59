-- Polygons that are linked through labels: joining keeps them so, and at last one polygon is left.
use Rattle.std.proofs.Common.{◌≡◌, ℕ, ◌≤◌, Bool, true, false, cond, eqb, ◌||◌, List, [], ◌∷◌, ◌++◌, length, refl, sym, ap, subst, ◌∙◌, inl, inr, ◌≢◌, arith}
use Rattle.std.specs.List.{count_by}
use Rattle.std.proofs.lemmas.Bool.{cases_Bool, cases_eq, eq-eqb, false≢true}
use Rattle.obd_base.specs.Lists.{Mem}
use Rattle.obd_base.proofs.lists.Below.{bit}
use Rattle.obd_base.proofs.lists.Members.{mem_right}
use Rattle.obd_base.proofs.lists.Sums.{members_add}
use Rattle.page_surface.specs.declared.page.SideLabel.{SideLabel}
use Rattle.page_surface.specs.Joining.{has_side, is_side, side}
use Rattle.arc_basis.proofs.LabelCounts.{stands}
use Rattle.arc_basis.proofs.Rows.{itself, sides_of, had_mem, mem_had}
use Rattle.arc_basis.proofs.Joints.{few_have, stands_by}
use Rattle.arc_basis.proofs.JoinAll.{Keeps, joint_stands}
use Rattle.arc_basis.proofs.Together.{Together, stands_nowhere, still_on}
use Rattle.arc_basis.proofs.OneItem.{count_yes, counted}

-- colours of polygons that agree along each label
abbrev pub AgreeAlong : (List SideLabel → Bool) → List (List SideLabel) → Type 0
AgreeAlong colour q = (label : ℕ) (p r : List SideLabel) → Mem p q → Mem r q → Mem (side label 0) p → Mem (side label 1) r → colour p ≡ colour r

-- such colours are all the same
abbrev pub AreLinked : List (List SideLabel) → Type 0
AreLinked q = (colour : List SideLabel → Bool) → AgreeAlong colour q → (p r : List SideLabel) → Mem p q → Mem r q → colour p ≡ colour r

-- joining two polygons keeps all linked
pub linked_kept : (label : ℕ) → Keeps AreLinked label
linked_kept label before after j one two h colour agree p r m k =
    let (x, mx, ex) = was p m in
    let (y, my, ey) = was r k in
    sym ex ∙ (h old old_agree x y mx my ∙ ey)
  where
    whole : List SideLabel
    whole = j.a1 ++ ((j.b2 ++ j.b1) ++ j.a2)

    -- the two have the colour of what they become
    old : List SideLabel → Bool
    old q = cond (has_side (side label 0) q || has_side (side label 1) q) (colour (j.a1 ++ ((j.b2 ++ j.b1) ++ j.a2))) (colour q)

    first_old : (q : List SideLabel) → Mem (side label 0) q → old q ≡ colour (j.a1 ++ ((j.b2 ++ j.b1) ++ j.a2))
    first_old q m = ap (λ b. cond (b || has_side (side label 1) q) (colour (j.a1 ++ ((j.b2 ++ j.b1) ++ j.a2))) (colour q)) (had_mem (side label 0) q m)

    second_old : (q : List SideLabel) → Mem (side label 1) q → old q ≡ colour (j.a1 ++ ((j.b2 ++ j.b1) ++ j.a2))
    second_old q m = ap (λ b. cond b (colour (j.a1 ++ ((j.b2 ++ j.b1) ++ j.a2))) (colour q)) (or_true (has_side (side label 0) q) _ (had_mem (side label 1) q m))
      where
        or_true : (a b : Bool) → b ≡ true → (a || b) ≡ true
        or_true true b e = refl
        or_true false b e = e

    gone : (o : ℕ) → o ≤ 1 → stands label o (sides_of before) ≡ 1 → (q : List SideLabel) → Mem q after → has_side (side label o) q ≡ false
    gone o l e q m = elim (cases_Bool (has_side (side label o) q)) [
      | inr f ↦ f
      | inl t ↦
          let here : bit (eqb label label) ≡ 1 = ap bit (eq-eqb label label refl) in
          absurd (stands_nowhere label o after (omega (arith, joint_stands label before after j label o l, e, here)) q m (mem_had (side label o) q t))
    ]

    other_old : (q : List SideLabel) → Mem q after → old q ≡ colour q
    other_old q m = rw (gone 0 (omega arith) one q m, gone 1 (omega arith) two q m) refl

    -- what a polygon was
    was : (q : List SideLabel) → Mem q after → (x : List SideLabel) × Mem x before × (old x ≡ colour q)
    was q m = elim (j.from_after q m) [
      | inl e ↦ (j.a1 ++ (side label 0 ∷ j.a2), j.first_in, first_old _ (mem_right (side label 0) j.a1 (side label 0 ∷ j.a2) (inl refl)) ∙ ap colour (sym e))
      | inr k ↦ (q, k, other_old q m)
    ]

    -- what it becomes
    becomes : (q : List SideLabel) → Mem q before
        → (x : List SideLabel) × Mem x after × (old q ≡ colour x) × ((number o : ℕ) → number ≢ label → Mem (side number o) q → Mem (side number o) x)
    becomes q m = elim (j.from_before q m) [
      | inl e ↦ (
        j.a1 ++ ((j.b2 ++ j.b1) ++ j.a2),
        j.joined_in,
        first_old q (subst (λ x. Mem (side label 0) x) (sym e) (mem_right (side label 0) j.a1 (side label 0 ∷ j.a2) (inl refl))),
        λ number o n k. (still_on label number o j.a1 j.a2 j.b1 j.b2 n).0 (subst (λ x. Mem (side number o) x) e k),
      )
      | inr u ↦ elim u [
        | inl e ↦ (
          j.a1 ++ ((j.b2 ++ j.b1) ++ j.a2),
          j.joined_in,
          second_old q (subst (λ x. Mem (side label 1) x) (sym e) (mem_right (side label 1) j.b1 (side label 1 ∷ j.b2) (inl refl))),
          λ number o n k. (still_on label number o j.a1 j.a2 j.b1 j.b2 n).1 (subst (λ x. Mem (side number o) x) e k),
        )
        | inr k ↦ (q, k, other_old q k, λ number o n w. w)
      ]
    ]

    old_agree : AgreeAlong old before
    old_agree number p r m k a b = elim (cases_eq number label) [
      | inl e ↦ first_old p (subst (λ l. Mem (side l 0) p) e a) ∙ sym (second_old r (subst (λ l. Mem (side l 1) r) e b))
      | inr n ↦
          let (x, mx, ex, keep) = becomes p m in
          let (y, my, ey, keep') = becomes r k in
          ex ∙ (agree number x y mx my (keep number 0 n a) (keep' number 1 n b) ∙ sym ey)
    ]

-- two polygons with one side are one, so they have one colour
pub one_home : (q : List (List SideLabel)) (number o : ℕ) → stands number o (sides_of q) ≤ 1 → (colour : List SideLabel → Bool)
    → (x y : List SideLabel) → Mem x q → Mem y q → Mem (side number o) x → Mem (side number o) y → colour x ≡ colour y
one_home q number o few colour x y mx my a b = same (colour x) (colour y) refl refl
  where
    one : x ≢ y → ⊥
    one n =
        let f = λ (r : List SideLabel). stands number o r in
        let c = counted (is_side (side number o)) (side number o) x a (itself (side number o)) in
        let d = counted (is_side (side number o)) (side number o) y b (itself (side number o)) in
        let e = members_add f x y q mx my n in
        omega (arith, c, d, e, stands_by number o q, few)

    same : (u v : Bool) → colour x ≡ u → colour y ≡ v → u ≡ v
    same true true e f = refl
    same false false e f = refl
    same true false e f = absurd (one (λ q. false≢true (sym f ∙ (ap colour (sym q) ∙ e))))
    same false true e f = absurd (one (λ q. false≢true (sym e ∙ (ap colour q ∙ f))))

-- linked polygons on which the sides of each label stand together, with a side that stands once, are one
pub one_left : (q : List (List SideLabel)) → AreLinked q → ((label : ℕ) → Together label q) → ((label occurrence : ℕ) → occurrence ≤ 1 → stands label occurrence (sides_of q) ≤ 1)
    → (s : SideLabel) (p : List SideLabel) → Mem p q → Mem s p → s.occurrence ≤ 1 → length q ≤ 1
one_left q linked together few s p m k o =
    let all : (r : List SideLabel) → Mem r q → has_side s r ≡ true = λ r n. sym (linked (has_side s) agree p r m n) ∙ had_mem s p k in
    let many : count_by (has_side s) q ≡ length q = all_counted q all in
    omega (arith, many, few_have s q, few s.label s.occurrence o)
  where
    all_counted : (q : List (List SideLabel)) → ((r : List SideLabel) → Mem r q → has_side s r ≡ true) → count_by (has_side s) q ≡ length q
    all_counted [] h = refl
    all_counted (r ∷ q) h = omega (arith, count_yes (has_side s) r q (h r (inl refl)), all_counted q (λ x n. h x (inr n)))

    agree : AgreeAlong (has_side s) q
    agree label x y mx my a b = one_home q label 1 (few label 1 (omega arith)) (has_side s) x y mx my (together label x mx a) b
