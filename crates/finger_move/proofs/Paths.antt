-- A path through glued segments that never goes back over its entry meets no piece twice.
use Rattle.std.proofs.Common.{◌≡◌, ℕ, suc, ◌+◌, ◌≤◌, List, [], ◌∷◌, ◌++◌, map, length, refl, sym, ◌∙◌, ap, subst, arith, ◌⊎◌, inl, inr, ◌≢◌}
use Rattle.std.proofs.lemmas.List.{length-append, length-map}
use Rattle.obd_base.specs.Lists.{Mem, Once}
use Rattle.obd_base.proofs.lists.Members.{mem_append, mem_left, mem_right, split, no_longer}
use Rattle.finger_move.proofs.Trees.{Edge, Joined, there, along, back, few_labels}

-- an edge joins a segment and the one glued to it, in either direction
abbrev pub Joins : (ℕ → ℕ) → Edge → ℕ → Type 0
Joins glue e s = ((e.one ≡ s) × (e.other ≡ glue s)) ⊎ ((e.other ≡ s) × (e.one ≡ glue s))

-- pieces joined by glued segments form a tree: they hang together, and there is one link fewer
pub record IsTree (piece glue : ℕ → ℕ) (IsSegment : ℕ → Type 0) : Type 0 where
  pub links : List Edge
  pub pieces : List ℕ
  pub root : ℕ
  pub link : (s : ℕ) → IsSegment s → (e : Edge) × Mem e links × Joins glue e s
  pub once : Once pieces
  pub joined : (z : ℕ) → Mem z pieces → Joined piece links root z
  pub count : length pieces ≡ suc (length links)

-- each segment lies in the piece that the one before leads to, and isn't the one by which that piece was entered
abbrev pub IsPath : (ℕ → ℕ) → (ℕ → ℕ) → (ℕ → Type 0) → List ℕ → Type 0
IsPath piece glue P [] = Unit {0}
IsPath piece glue P (s ∷ []) = P s
IsPath piece glue P (s ∷ r ∷ ss) = P s × (piece r ≡ piece (glue s)) × (r ≢ glue s) × IsPath piece glue P (r ∷ ss)

-- the pieces on the way
abbrev pub met : (ℕ → ℕ) → (ℕ → ℕ) → List ℕ → List ℕ
met piece glue [] = []
met piece glue (s ∷ ss) = piece s ∷ map (λ t. piece (glue t)) (s ∷ ss)

joined_on : (f : ℕ → ℕ) (es : List Edge) (w x z : ℕ) → Joined f es w x → Joined f es x z → Joined f es w z
joined_on f es w x z j there = j
joined_on f es w x z j (along e m q k) = along e m q (joined_on f es w x (f e.other) j k)
joined_on f es w x z j (back e m q k) = back e m q (joined_on f es w x (f e.one) j k)

pub mem_middle : {A : Type 0} (z x : A) (a b : List A) → Mem z (a ++ (x ∷ b)) → (z ≢ x) → Mem z (a ++ b)
mem_middle z x a b m ne = elim (mem_append z a (x ∷ b) m) [
  | inl k ↦ mem_left z a b k
  | inr k ↦ elim k [ inl e ↦ absurd (ne e) | inr j ↦ mem_right z a b j ]
]

-- an edge of which the ends are joined without it can be left out
without : (f : ℕ → ℕ) (e : Edge) (a b : List Edge) (w z : ℕ) → Joined f (a ++ b) (f e.one) (f e.other) → Joined f (a ++ b) (f e.other) (f e.one)
    → Joined f (a ++ (e ∷ b)) w z → Joined f (a ++ b) w z
without f e a b w z h k there = there
without f e a b w z h k (along g m q j) =
    let r = without f e a b w (f g.other) h k j in
    elim (mem_append g a (e ∷ b) m) [
      | inl i ↦ along g (mem_left g a b i) q r
      | inr i ↦ elim i [
        | inl i ↦ subst (λ y. Joined f (a ++ b) w y) (sym (q ∙ ap (λ (v : Edge). f v.one) i))
            (joined_on f (a ++ b) w (f e.other) (f e.one) (subst (λ y. Joined f (a ++ b) w y) (ap (λ (v : Edge). f v.other) i) r) k)
        | inr i ↦ along g (mem_right g a b i) q r
      ]
    ]
without f e a b w z h k (back g m q j) =
    let r = without f e a b w (f g.one) h k j in
    elim (mem_append g a (e ∷ b) m) [
      | inl i ↦ back g (mem_left g a b i) q r
      | inr i ↦ elim i [
        | inl i ↦ subst (λ y. Joined f (a ++ b) w y) (sym (q ∙ ap (λ (v : Edge). f v.other) i))
            (joined_on f (a ++ b) w (f e.one) (f e.other) (subst (λ y. Joined f (a ++ b) w y) (ap (λ (v : Edge). f v.one) i) r) h)
        | inr i ↦ back g (mem_right g a b i) q r
      ]
    ]

module _ (piece glue : ℕ → ℕ) (P : ℕ → Type 0) (tree : IsTree piece glue P) where
  -- no edge of a tree can be left out
  no_spare : (e : Edge) (a b : List Edge) → tree.links ≡ a ++ (e ∷ b) → Joined piece (a ++ b) (piece e.one) (piece e.other) → Joined piece (a ++ b) (piece e.other) (piece e.one) → ⊥
  no_spare e a b q h k =
      let few = few_labels (a ++ b) piece tree.root tree.pieces tree.once
      (λ z m. without piece e a b tree.root z h k (subst (λ w. Joined piece w tree.root z) q (tree.joined z m))) in
      let l : length tree.links ≡ length a + suc (length b) = ap length q ∙ length-append a (e ∷ b) in
      absurd {A = ⊥} (omega (arith, few, tree.count, l, length-append a b))

  -- a later segment lies in a piece that was met
  later_met : (s : ℕ) (ss : List ℕ) → IsPath piece glue P (s ∷ ss) → (t : ℕ) → Mem t ss → Mem (piece t) (map (λ r. piece (glue r)) (s ∷ ss))
  later_met s (r ∷ ss) h t (inl q) = inl (ap piece q ∙ h.1)
  later_met s (r ∷ ss) h t (inr m) = inr (later_met r ss h.3 t m)
  later_met s [] h t m = absurd m

  on_path : (s : ℕ) (ss : List ℕ) → IsPath piece glue P (s ∷ ss) → P s
  on_path s [] h = h
  on_path s (r ∷ ss) h = h.0

  -- one step that isn't the edge
  one_step : (e : Edge) (a b : List Edge) → tree.links ≡ a ++ (e ∷ b) → (s : ℕ) → Joins glue e s → (r : ℕ) → P r → r ≢ s → r ≢ glue s
      → Joined piece (a ++ b) (piece r) (piece (glue r)) × Joined piece (a ++ b) (piece (glue r)) (piece r)
  one_step e a b q s w r p rs rg =
      let (g, i, v) = tree.link r p in
      step g (mem_middle g e a b (subst (λ y. Mem g y) q i) (λ k. clash g k v)) v
    where
      clash : (g : Edge) → g ≡ e → Joins glue g r → ⊥
      clash g k (inl v) = elim w [ inl x ↦ rs (sym v.0 ∙ ap (λ (y : Edge). y.one) k ∙ x.0) | inr x ↦ rg (sym v.0 ∙ ap (λ (y : Edge). y.one) k ∙ x.1) ]
      clash g k (inr v) = elim w [ inl x ↦ rg (sym v.0 ∙ ap (λ (y : Edge). y.other) k ∙ x.1) | inr x ↦ rs (sym v.0 ∙ ap (λ (y : Edge). y.other) k ∙ x.0) ]

      step : (g : Edge) → Mem g (a ++ b) → Joins glue g r → Joined piece (a ++ b) (piece r) (piece (glue r)) × Joined piece (a ++ b) (piece (glue r)) (piece r)
      step g j (inl v) = (
        back g j (ap piece (sym v.1)) (subst (λ y. Joined piece (a ++ b) (piece r) y) (ap piece (sym v.0)) there),
        along g j (ap piece (sym v.0)) (subst (λ y. Joined piece (a ++ b) (piece (glue r)) y) (ap piece (sym v.1)) there),
      )
      step g j (inr v) = (
        along g j (ap piece (sym v.1)) (subst (λ y. Joined piece (a ++ b) (piece r) y) (ap piece (sym v.0)) there),
        back g j (ap piece (sym v.0)) (subst (λ y. Joined piece (a ++ b) (piece (glue r)) y) (ap piece (sym v.1)) there),
      )

  -- along a path that avoids an edge
  reach : (e : Edge) (a b : List Edge) → tree.links ≡ a ++ (e ∷ b) → (s : ℕ) → Joins glue e s
      → (r : ℕ) (ss : List ℕ) → IsPath piece glue P (r ∷ ss) → Once (met piece glue (r ∷ ss)) → Mem (piece s) (map (λ t. piece (glue t)) (r ∷ ss))
      → ((t : ℕ) → Mem t (r ∷ ss) → t ≢ glue s) → Joined piece (a ++ b) (piece r) (piece s) × Joined piece (a ++ b) (piece s) (piece r)
  reach e a b q s w r ss h o (inl k) n =
      let one = one_step e a b q s w r (on_path r ss h) (λ j. o.0 (subst (λ y. Mem y (map (λ t. piece (glue t)) (r ∷ ss))) (ap piece (sym j)) (inl k))) (n r (inl refl)) in
      (subst (λ y. Joined piece (a ++ b) (piece r) y) (sym k) one.0, subst (λ y. Joined piece (a ++ b) y (piece r)) (sym k) one.1)
  reach e a b q s w r [] h o (inr m) n = absurd m
  reach e a b q s w r (p ∷ ss) h o (inr m) n =
      let one = one_step e a b q s w r h.0 (λ j. o.0 (subst (λ y. Mem y (map (λ t. piece (glue t)) (r ∷ p ∷ ss))) (ap piece (sym j)) (inr m))) (n r (inl refl)) in
      let rest = reach e a b q s w p ss h.3 (subst (λ y. Once (y ∷ map (λ t. piece (glue t)) (p ∷ ss))) (sym h.1) o.1) m (λ t i. n t (inr i)) in (
        joined_on piece (a ++ b) (piece r) (piece (glue r)) (piece s) one.0 (subst (λ y. Joined piece (a ++ b) y (piece s)) h.1 rest.0),
        joined_on piece (a ++ b) (piece s) (piece (glue r)) (piece r) (subst (λ y. Joined piece (a ++ b) (piece s) y) h.1 rest.1) one.1,
      )

  -- no segment is glued to one of its own piece
  pub loop_at : (s : ℕ) → P s → piece s ≡ piece (glue s) → ⊥
  loop_at s h k =
      let (e, i, w) = tree.link s h in
      let (a, b, q) = split e tree.links i in
      cut e a b q w
    where
      cut : (e : Edge) (a b : List Edge) → tree.links ≡ a ++ (e ∷ b) → Joins glue e s → ⊥
      cut e a b q (inl w) =
          let z : piece e.one ≡ piece e.other = ap piece w.0 ∙ k ∙ ap piece (sym w.1) in
          no_spare e a b q (subst (λ y. Joined piece (a ++ b) (piece e.one) y) z there) (subst (λ y. Joined piece (a ++ b) y (piece e.one)) z there)
      cut e a b q (inr w) =
          let z : piece e.other ≡ piece e.one = ap piece w.0 ∙ k ∙ ap piece (sym w.1) in
          no_spare e a b q (subst (λ y. Joined piece (a ++ b) y (piece e.other)) z there) (subst (λ y. Joined piece (a ++ b) (piece e.other) y) z there)

  -- a path meets no piece twice
  pub meets_once : (ss : List ℕ) → IsPath piece glue P ss → Once (met piece glue ss)
  meets_once [] h = tt
  meets_once (s ∷ []) h = (λ m. elim m [ inl k ↦ loop_at s h k | inr m ↦ m ], (λ m. m, tt))
  meets_once (s ∷ r ∷ ss) h =
      let ih = meets_once (r ∷ ss) h.3 in
      (λ m. circle ih m, subst (λ y. Once (y ∷ map (λ t. piece (glue t)) (r ∷ ss))) h.1 ih)
    where
      circle : Once (met piece glue (r ∷ ss)) → Mem (piece s) (map (λ t. piece (glue t)) (s ∷ r ∷ ss)) → ⊥
      circle o (inl k) = loop_at s h.0 k
      circle o (inr m) =
          let (e, i, w) = tree.link s h.0 in
          let (a, b, q) = split e tree.links i in
          let avoid : (t : ℕ) → Mem t (r ∷ ss) → t ≢ glue s = λ t j k. elim j [
            | inl x ↦ h.2 (sym x ∙ k)
            | inr j ↦ o.0 (subst (λ y. Mem y (map (λ t. piece (glue t)) (r ∷ ss))) (ap piece k ∙ sym h.1) (later_met r ss h.3 t j))
          ] in
          let way = reach e a b q s w r ss h.3 o m avoid in
          cut e a b q w (subst (λ y. Joined piece (a ++ b) y (piece s)) h.1 way.0) (subst (λ y. Joined piece (a ++ b) (piece s) y) h.1 way.1)
        where
          cut : (e : Edge) (a b : List Edge) → tree.links ≡ a ++ (e ∷ b) → Joins glue e s → Joined piece (a ++ b) (piece (glue s)) (piece s) → Joined piece (a ++ b) (piece s) (piece (glue s)) → ⊥
          cut e a b q (inl w) x y = no_spare e a b q (subst (λ z. Joined piece (a ++ b) (piece z) (piece e.other)) (sym w.0) (subst (λ z. Joined piece (a ++ b) (piece s) (piece z)) (sym w.1) y))
              (subst (λ z. Joined piece (a ++ b) (piece z) (piece e.one)) (sym w.1) (subst (λ z. Joined piece (a ++ b) (piece (glue s)) (piece z)) (sym w.0) x))
          cut e a b q (inr w) x y = no_spare e a b q (subst (λ z. Joined piece (a ++ b) (piece z) (piece e.other)) (sym w.1) (subst (λ z. Joined piece (a ++ b) (piece (glue s)) (piece z)) (sym w.0) x))
              (subst (λ z. Joined piece (a ++ b) (piece z) (piece e.one)) (sym w.0) (subst (λ z. Joined piece (a ++ b) (piece s) (piece z)) (sym w.1) y))

  -- so a path has fewer segments than there are pieces
  pub path_ends : (ss : List ℕ) → IsPath piece glue P ss → ((z : ℕ) → Mem z (met piece glue ss) → Mem z tree.pieces) → length ss ≤ length tree.pieces
  path_ends [] h inside = omega arith
  path_ends (s ∷ ss) h inside =
      let l = no_longer (met piece glue (s ∷ ss)) tree.pieces (meets_once (s ∷ ss) h) inside in
      omega (arith, l, length-map (s ∷ ss) (λ t. piece (glue t)))
