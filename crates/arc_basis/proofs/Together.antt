-- Labels whose two sides stand on one polygon: they stay together, and after joining all do.
use Rattle.std.proofs.Common.{◌≡◌, ℕ, Bool, true, false, eqb, ◌&&◌, not, List, [], ◌∷◌, ◌++◌, refl, sym, ap, subst, ◌∙◌, ◌⊎◌, inl, inr, ◌≢◌, arith}
use Rattle.std.proofs.lemmas.Bool.{cases_Bool, eq-eqb, false≢true}
use Rattle.obd_base.specs.Lists.{Mem, Once}
use Rattle.obd_base.proofs.lists.Below.{bit}
use Rattle.obd_base.proofs.lists.Members.{mem_append, mem_left, mem_right}
use Rattle.page_surface.specs.declared.page.SideLabel.{SideLabel}
use Rattle.page_surface.specs.Joining.{Joined, has_side, is_side, is_split, join_all, joined_along, side}
use Rattle.arc_basis.proofs.LabelCounts.{stands}
use Rattle.arc_basis.proofs.Rows.{itself, sides_of, had_mem, mem_had}
use Rattle.arc_basis.proofs.OneItem.{counted}
use Rattle.arc_basis.proofs.JoinAll.{Keeps, StandOnce, all_keep, joins, joint_stands, left, make_joint, rest_once, stays}

-- the first side of a label stands with its second
abbrev pub Together : ℕ → List (List SideLabel) → Type 0
Together label q = (p : List SideLabel) → Mem p q → Mem (side label 0) p → Mem (side label 1) p

-- a side of another label is on the joined polygon where it was on one of the two
pub still_on : (label number occurrence : ℕ) (a1 a2 b1 b2 : List SideLabel) → number ≢ label
    → (Mem (side number occurrence) (a1 ++ (side label 0 ∷ a2)) → Mem (side number occurrence) (a1 ++ ((b2 ++ b1) ++ a2)))
    × (Mem (side number occurrence) (b1 ++ (side label 1 ∷ b2)) → Mem (side number occurrence) (a1 ++ ((b2 ++ b1) ++ a2)))
still_on label number occurrence a1 a2 b1 b2 n = (
  λ m. elim (mem_append s a1 (side label 0 ∷ a2) m) [
    | inl k ↦ mem_left s a1 ((b2 ++ b1) ++ a2) k
    | inr k ↦ elim k [
      | inl e ↦ absurd (n (ap (λ (x : SideLabel). x.label) e))
      | inr u ↦ mem_right s a1 ((b2 ++ b1) ++ a2) (mem_right s (b2 ++ b1) a2 u)
    ]
  ],
  λ m. elim (mem_append s b1 (side label 1 ∷ b2) m) [
    | inl k ↦ mem_right s a1 ((b2 ++ b1) ++ a2) (mem_left s (b2 ++ b1) a2 (mem_right s b2 b1 k))
    | inr k ↦ elim k [
      | inl e ↦ absurd (n (ap (λ (x : SideLabel). x.label) e))
      | inr u ↦ mem_right s a1 ((b2 ++ b1) ++ a2) (mem_left s (b2 ++ b1) a2 (mem_left s b2 b1 u))
    ]
  ],
)
  where
    s : SideLabel
    s = side number occurrence

-- a side of the joined polygon was on one of the two
pub was_on : (label : ℕ) (s : SideLabel) (a1 a2 b1 b2 : List SideLabel) → Mem s (a1 ++ ((b2 ++ b1) ++ a2))
    → Mem s (a1 ++ (side label 0 ∷ a2)) ⊎ Mem s (b1 ++ (side label 1 ∷ b2))
was_on label s a1 a2 b1 b2 m = elim (mem_append s a1 ((b2 ++ b1) ++ a2) m) [
  | inl k ↦ inl (mem_left s a1 (side label 0 ∷ a2) k)
  | inr k ↦ elim (mem_append s (b2 ++ b1) a2 k) [
    | inr u ↦ inl (mem_right s a1 (side label 0 ∷ a2) (inr u))
    | inl u ↦ elim (mem_append s b2 b1 u) [
      | inl v ↦ inr (mem_right s b1 (side label 1 ∷ b2) (inr v))
      | inr v ↦ inr (mem_left s b1 (side label 1 ∷ b2) v)
    ]
  ]
]

-- a label whose sides stand together keeps them together
together_kept : (number label : ℕ) → number ≢ label → Keeps (Together number) label
together_kept number label n before after j one two h p m f = elim (j.from_after p m) [
  | inr k ↦ h p k f
  | inl e ↦
      let s = still_on label number 1 j.a1 j.a2 j.b1 j.b2 n in
      let goal : Mem (side number 1) (j.a1 ++ ((j.b2 ++ j.b1) ++ j.a2)) = elim (was_on label (side number 0) j.a1 j.a2 j.b1 j.b2 (subst (λ q. Mem (side number 0) q) e f)) [
        | inl k ↦ s.0 (h _ j.first_in k)
        | inr k ↦ s.1 (h _ j.second_in k)
      ] in
      subst (λ q. Mem (side number 1) q) (sym e) goal
]

not_split : (label : ℕ) (q : List (List SideLabel)) → is_split label q ≡ false → Together label q
not_split label [] f p m k = absurd m
not_split label (p ∷ q) f r m k =
    elim (cases_Bool (has_side (side label 0) p && not (has_side (side label 1) p))) [
      | inl t ↦ absurd (false≢true (sym (rw t at f)))
      | inr g ↦ elim m [
        | inl e ↦ mem_had (side label 1) r (told (has_side (side label 0) r) (has_side (side label 1) r) (had_mem (side label 0) r k) (ap (λ x. has_side (side label 0) x && not (has_side (side label 1) x)) e ∙ g))
        | inr n ↦ not_split label q (rw g at f) r n k
      ]
    ]
  where
    told : (a b : Bool) → a ≡ true → (a && not b) ≡ false → b ≡ true
    told true true h g = refl
    told true false h g = sym g
    told false b h g = absurd (false≢true h)

-- nothing that stands nowhere is a member
pub stands_nowhere : (number occurrence : ℕ) (q : List (List SideLabel)) → stands number occurrence (sides_of q) ≡ 0 → (p : List SideLabel) → Mem p q → Mem (side number occurrence) p → ⊥
stands_nowhere number occurrence q e p m k =
    let c = counted (is_side (side number occurrence)) (side number occurrence) (sides_of q) (inside q m) (itself (side number occurrence)) in omega (arith, c, e)
  where
    inside : (q : List (List SideLabel)) → Mem p q → Mem (side number occurrence) (sides_of q)
    inside [] m = absurd m
    inside (r ∷ q) (inl e) = mem_left _ r (sides_of q) (subst (λ x. Mem (side number occurrence) x) e k)
    inside (r ∷ q) (inr m) = mem_right _ r (sides_of q) (inside q m)

-- after joining the sides of each label stand together
pub settled : (labels : List ℕ) (q : List (List SideLabel)) → Once labels → StandOnce labels q → (label : ℕ) → Mem label labels → Together label (join_all labels q).polygons
settled [] q once h number m = absurd m
settled (label ∷ labels) q once h number m = elim (cases_Bool (is_split label q)) [
  | inl t ↦
      let j = make_joint label labels q h t in
      let h' = rest_once label labels q (joined_along label q) once h j in
      subst (λ (x : Joined). Together number x.polygons) (sym (joins label labels q t)) (elim m [
        | inr k ↦ settled labels (joined_along label q) once.1 h' number k
        | inl e ↦
            let l = left labels (joined_along label q) once.1 h' in
            let s = l.sums (λ u. bit (is_side (side number 0) u)) in
            let one : bit (eqb number label) ≡ 1 = rw (eq-eqb number label e) refl in
            let start = joint_stands label q (joined_along label q) j number 0 (omega arith) in
            let was : stands number 0 (sides_of q) ≡ 1 = h number 0 (inl e) (omega arith) in
            λ p n k. absurd (stands_nowhere number 0 (join_all labels (joined_along label q)).polygons (omega (arith, s, one, start, was)) p n k)
      ])
  | inr f ↦
      subst (λ (x : Joined). Together number x.polygons) (sym (stays label labels q f)) (elim m [
        | inr k ↦ settled labels q once.1 (λ l o n. h l o (inr n)) number k
        | inl e ↦
            all_keep (Together number) labels q once.1 (λ l o n. h l o (inr n))
            (λ l n. together_kept number l (λ r. once.0 (subst (λ x. Mem x labels) (sym r ∙ e) ((left labels q once.1 (λ l o n. h l o (inr n))).among l n))))
            (subst (λ x. Together x q) (sym e) (not_split label q f))
      ])
]
