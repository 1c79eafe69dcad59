-- All labels taken in turn: what is kept in each step is kept, and how many polygons, sides and labels are left.
use Rattle.std.proofs.Common.{◌≡◌, ℕ, ◌+◌, ◌≤◌, true, false, eqb, List, [], ◌∷◌, ◌++◌, length, refl, sym, subst, inl, inr, ◌≢◌, arith}
use Rattle.std.specs.List.{count_by, sum_by}
use Rattle.std.proofs.lemmas.Bool.{cases_Bool, cases_eq, ne_eqb}
use Rattle.std.proofs.lemmas.List.Sums.{sum_by-append, sum_by-cons}
use Rattle.obd_base.specs.Lists.{Mem, Once}
use Rattle.obd_base.proofs.lists.Below.{bit}
use Rattle.obd_base.proofs.lists.Sums.{sum_flat, sum_same}
use Rattle.page_surface.specs.declared.page.SideLabel.{SideLabel}
use Rattle.page_surface.specs.Joining.{Joined, is_side, is_split, join_all, joined_along, side}
use Rattle.arc_basis.proofs.LabelCounts.{stands}
use Rattle.arc_basis.proofs.Rows.{sides_of}
use Rattle.arc_basis.proofs.Joints.{Joint, joint}

-- the first label taken
pub joins : (label : ℕ) (labels : List ℕ) (q : List (List SideLabel)) → is_split label q ≡ true
    → join_all (label ∷ labels) q ≡ record { polygons = (join_all labels (joined_along label q)).polygons; seams = label ∷ (join_all labels (joined_along label q)).seams }
joins label labels q h = rw (join_all, h) refl

pub stays : (label : ℕ) (labels : List ℕ) (q : List (List SideLabel)) → is_split label q ≡ false → join_all (label ∷ labels) q ≡ join_all labels q
stays label labels q h = rw (join_all, h) refl

module _ (label : ℕ) (before after : List (List SideLabel)) (j : Joint label before after) where
  -- a sum over all sides loses those of the label
  pub joint_sum : (g : SideLabel → ℕ) → sum_by g (sides_of after) + (g (side label 0) + g (side label 1)) ≡ sum_by g (sides_of before)
  joint_sum g =
      let f = λ (p : List SideLabel). sum_by g p in
      let id = λ (p : List SideLabel). p in
      let s0 = side label 0 in
      let s1 = side label 1 in
      omega (
        arith,
        j.sums f,
        sum_flat g id before,
        sum_flat g id after,
        sum_by-append g j.a1 (s0 ∷ j.a2),
        sum_by-cons g s0 j.a2,
        sum_by-append g j.b1 (s1 ∷ j.b2),
        sum_by-cons g s1 j.b2,
        sum_by-append g j.a1 ((j.b2 ++ j.b1) ++ j.a2),
        sum_by-append g (j.b2 ++ j.b1) j.a2,
        sum_by-append g j.b2 j.b1,
      )

  -- a polygon less
  pub joint_less : length after + 1 ≡ length before
  joint_less =
      omega (arith, j.sums one, ones before, ones after)
    where
      one : List SideLabel → ℕ
      one p = 1

      at_one : (p : List SideLabel) → one p ≡ 1
      at_one p = refl

      ones : (ps : List (List SideLabel)) → sum_by one ps ≡ length ps
      ones [] = refl
      ones (p ∷ ps) = omega (arith, sum_by-cons one p ps, ones ps, at_one p)

-- a label's side is one of the two
pub one_of_label : (number occurrence label : ℕ) → occurrence ≤ 1
    → bit (is_side (side number occurrence) (side label 0)) + bit (is_side (side number occurrence) (side label 1)) ≡ bit (eqb number label)
one_of_label number occurrence label o = elim (cases_Bool (eqb number label)) [
  | inr n ↦ rw n refl
  | inl y ↦ rw y (elim (cases_eq occurrence 0) [
    | inl e ↦ rw e refl
    | inr n ↦ (let e : occurrence ≡ 1 = omega arith in rw e refl)
  ])
]

-- each side of these labels stands once
abbrev pub StandOnce : List ℕ → List (List SideLabel) → Type 0
StandOnce labels q = (label occurrence : ℕ) → Mem label labels → occurrence ≤ 1 → stands label occurrence (sides_of q) ≡ 1

-- a side of another label stands as often as before, and one of the label no longer
pub joint_stands : (label : ℕ) (before after : List (List SideLabel)) → Joint label before after → (number occurrence : ℕ) → occurrence ≤ 1
    → stands number occurrence (sides_of after) + bit (eqb number label) ≡ stands number occurrence (sides_of before)
joint_stands label before after j number occurrence o =
    let s = joint_sum label before after j (λ t. bit (is_side (side number occurrence) t)) in
    omega (arith, s, one_of_label number occurrence label o)

-- so the rest of the labels stand once after the first is taken
pub rest_once : (label : ℕ) (labels : List ℕ) (q r : List (List SideLabel)) → Once (label ∷ labels) → StandOnce (label ∷ labels) q → Joint label q r → StandOnce labels r
rest_once label labels q r (fresh, once) h j number occurrence m o =
    let n : number ≢ label = λ e. fresh (subst (λ x. Mem x labels) e m) in
    let zero' : bit (eqb number label) ≡ 0 = rw (ne_eqb number label n) refl in
    omega (arith, joint_stands label q r j number occurrence o, h number occurrence (inr m) o, zero')

pub make_joint : (label : ℕ) (labels : List ℕ) (q : List (List SideLabel)) → StandOnce (label ∷ labels) q → is_split label q ≡ true → Joint label q (joined_along label q)
make_joint label labels q h t = joint label q t (h label 0 (inl refl) (omega arith)) (h label 1 (inl refl) (omega arith))

-- what one step keeps
abbrev pub Keeps : (List (List SideLabel) → Type 0) → ℕ → Type 0
Keeps Inv label = (before after : List (List SideLabel)) → Joint label before after → stands label 0 (sides_of before) ≡ 1 → stands label 1 (sides_of before) ≡ 1 → Inv before → Inv after

module _ (Inv : List (List SideLabel) → Type 0) where
  -- all steps keep
  pub all_keep : (labels : List ℕ) (q : List (List SideLabel)) → Once labels → StandOnce labels q
      → ((label : ℕ) → Mem label (join_all labels q).seams → Keeps Inv label) → Inv q → Inv (join_all labels q).polygons
  all_keep [] q once h step i = i
  all_keep (label ∷ labels) q once h step i = elim (cases_Bool (is_split label q)) [
    | inl t ↦
        let e = joins label labels q t in
        let j = make_joint label labels q h t in
        let step' : (l : ℕ) → Mem l (label ∷ (join_all labels (joined_along label q)).seams) → Keeps Inv l = λ l m. step l (subst (λ (x : Joined). Mem l x.seams) (sym e) m) in
        subst (λ (x : Joined). Inv x.polygons) (sym e)
        (all_keep labels (joined_along label q) once.1 (rest_once label labels q (joined_along label q) once h j) (λ l m. step' l (inr m))
        (step' label (inl refl) q (joined_along label q) j (h label 0 (inl refl) (omega arith)) (h label 1 (inl refl) (omega arith)) i))
    | inr f ↦
        let e = stays label labels q f in
        subst (λ (x : Joined). Inv x.polygons) (sym e)
        (all_keep labels q once.1 (λ l o m. h l o (inr m)) (λ l m. step l (subst (λ (x : Joined). Mem l x.seams) (sym e) m)) i)
  ]

-- what joining leaves, counted
pub record Left (labels : List ℕ) (q : List (List SideLabel)) (j : Joined) : Type 0 where
  pub polygons : length j.polygons + length j.seams ≡ length q
  pub sums : (g : SideLabel → ℕ) → sum_by g (sides_of j.polygons) + sum_by (λ l. g (side l 0) + g (side l 1)) j.seams ≡ sum_by g (sides_of q)
  pub among : (label : ℕ) → Mem label j.seams → Mem label labels

pub left : (labels : List ℕ) (q : List (List SideLabel)) → Once labels → StandOnce labels q → Left labels q (join_all labels q)
left [] q once h = record { polygons = omega arith; sums = λ g. omega arith; among = λ l m. m }
left (label ∷ labels) q once h = elim (cases_Bool (is_split label q)) [
  | inl t ↦
      let j = make_joint label labels q h t in
      let r = left labels (joined_along label q) once.1 (rest_once label labels q (joined_along label q) once h j) in
      let rest : Joined = join_all labels (joined_along label q) in
      subst (λ (x : Joined). Left (label ∷ labels) q x) (sym (joins label labels q t)) (record {
        polygons = omega (arith, r.polygons, joint_less label q (joined_along label q) j);
        sums = λ g. omega (arith, r.sums g, joint_sum label q (joined_along label q) j g, sum_by-cons (λ (l : ℕ). g (side l 0) + g (side l 1)) label rest.seams);
        among = λ l m. elim m [ inl e ↦ inl e | inr k ↦ inr (r.among l k) ];
      })
  | inr f ↦
      let r = left labels q once.1 (λ l o m. h l o (inr m)) in
      subst (λ (x : Joined). Left (label ∷ labels) q x) (sym (stays label labels q f)) (record {
        polygons = r.polygons;
        sums = r.sums;
        among = λ l m. inr (r.among l m);
      })
]

-- how often a label is among the seams
pub seam_times : (seams : List ℕ) (number occurrence : ℕ) → occurrence ≤ 1
    → sum_by (λ l. bit (is_side (side number occurrence) (side l 0)) + bit (is_side (side number occurrence) (side l 1))) seams ≡ count_by (eqb number) seams
seam_times seams number occurrence o = sum_same _ _ seams (λ l m. one_of_label number occurrence l o)
