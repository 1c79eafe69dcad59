-- Segments on their way through fingers: each has its first number and its number now.
use Rattle.std.proofs.Common.{◌≡◌, ℕ, ◌+◌, ◌≤◌, List, [], ◌∷◌, ◌++◌, map, refl, sym, ◌∙◌, subst, arith, ◌⊎◌, inl, inr, ◌≢◌}
use Rattle.obd_base.specs.declared.points.Exit.{Exit}
use Rattle.obd_base.specs.Lists.{Mem}
use Rattle.obd_base.proofs.lists.Members.{mem_append, mem_left, mem_map, mem_right}
use Rattle.nice_plan.proofs.closed.Raised.{lift_in, raised, middle_of, Apart, own_low, lift_kept, lift_into, lift_from, up_within, middle_within, apart_kept, apart_middle}

-- a segment with its first number and its number now
pub record Seg : Type 0 where
  pub first : Exit
  pub now : Exit

-- by the two
abbrev pub seg : Exit → Exit → Seg
seg a b = record { first = a; now = b }

-- each two are apart
abbrev pub Pairwise : (ℕ → ℕ) → (ℕ → ℕ) → List Seg → Type 0
Pairwise p m [] = Unit {0}
Pairwise p m (x ∷ xs) = ((y : Seg) → Mem y xs → Apart p m x.now y.now × Apart p m y.now x.now) × Pairwise p m xs

-- what stands before what, as it did first
pub record Standing (p m : ℕ → ℕ) (first_lift : Exit → Exit → ℕ) (xs : List Seg) : Type 0 where
  pub lifts : (x y : Seg) → Mem x xs → Mem y xs → lift_in p m x.now y.now ≡ first_lift x.first y.first
  pub apart : Pairwise p m xs
  pub within : (x : Seg) → Mem x xs → x.now.place ≤ m x.now.side
  pub moves : (x : Seg) → Mem x xs → p x.now.side ≢ x.now.side

-- a member is apart from the others
pub pair_with : (p m : ℕ → ℕ) (P : List Seg) (x : Seg) (Q : List Seg) → Pairwise p m (P ++ (x ∷ Q)) → (y : Seg) → Mem y P ⊎ Mem y Q → Apart p m y.now x.now
pair_with p m [] x Q h y (inl i) = absurd i
pair_with p m [] x Q h y (inr i) = (h.0 y i).1
pair_with p m (z ∷ P) x Q h y (inl (inl q)) = subst (λ (w : Seg). Apart p m w.now x.now) (sym q) (h.0 x (mem_right x P (x ∷ Q) (inl refl))).0
pair_with p m (z ∷ P) x Q h y (inl (inr i)) = pair_with p m P x Q h.1 y (inl i)
pair_with p m (z ∷ P) x Q h y (inr i) = pair_with p m P x Q h.1 y (inr i)

module _ (p m n : ℕ → ℕ) (twice : (k : ℕ) → p (p k) ≡ k) (first_lift : Exit → Exit → ℕ) (P : List Seg) (x : Seg) (Q : List Seg)
    (st : Standing p m first_lift (P ++ (x ∷ Q)))
    (grown : n x.now.side ≡ m x.now.side + 2) (grown_glued : n (p x.now.side) ≡ m x.now.side + 2) (level : m (p x.now.side) ≡ m x.now.side)
    (others : (k : ℕ) → k ≢ x.now.side → k ≢ p x.now.side → n k ≡ m k) where
  abbrev t : Exit
  t = x.now

  x_in : Mem x (P ++ (x ∷ Q))
  x_in = mem_right x P (x ∷ Q) (inl refl)

  moved : p x.now.side ≢ x.now.side
  moved = st.moves x x_in

  inside : x.now.place ≤ m x.now.side
  inside = st.within x x_in

  -- after a finger
  abbrev pub carry_seg : Seg → Seg
  carry_seg y = seg y.first (raised p m x.now y.now)

  -- the segment between the two new points
  abbrev pub middle_seg : Seg
  middle_seg = seg x.first (middle_of x.now)

  -- all segments then
  abbrev pub segs_after : List Seg
  segs_after = map carry_seg P ++ (middle_seg ∷ map carry_seg Q)

  beside : (y : Seg) → Mem y P ⊎ Mem y Q → Mem y (P ++ (x ∷ Q)) × Apart p m y.now x.now
  beside y i = (elim i [ inl j ↦ mem_left y P (x ∷ Q) j | inr j ↦ mem_right y P (x ∷ Q) (inr j) ], pair_with p m P x Q st.apart y i)

  comes_from : (z : Seg) → Mem z segs_after → (z ≡ middle_seg) ⊎ ((y : Seg) × (Mem y P ⊎ Mem y Q) × (z ≡ carry_seg y))
  comes_from z i = elim (mem_append z (map carry_seg P) (middle_seg ∷ map carry_seg Q) i) [
    | inl j ↦ (let (y, k, e) = mem_map carry_seg z P j in inr (y, inl k, e))
    | inr j ↦ elim j [ inl e ↦ inl e | inr j ↦ (let (y, k, e) = mem_map carry_seg z Q j in inr (y, inr k, e)) ]
  ]

  own_none : first_lift x.first x.first ≡ 0
  own_none = sym (st.lifts x x x_in x_in) ∙ own_low p m t t refl (omega arith)

  lifts_after : (z w : Seg) → Mem z segs_after → Mem w segs_after → lift_in p n z.now w.now ≡ first_lift z.first w.first
  lifts_after z w i j = elim (comes_from z i) [
    | inl e ↦ elim (comes_from w j) [
      | inl f ↦ subst (λ (a : Seg). lift_in p n a.now w.now ≡ first_lift a.first w.first) (sym e)
          (subst (λ (b : Seg). lift_in p n (middle_of t) b.now ≡ first_lift x.first b.first) (sym f) (own_low p n (middle_of t) (middle_of t) refl (omega arith) ∙ sym own_none))
      | inr v ↦ (let (b, k, f) = v in
          subst (λ (a : Seg). lift_in p n a.now w.now ≡ first_lift a.first w.first) (sym e)
          (subst (λ (b : Seg). lift_in p n (middle_of t) b.now ≡ first_lift x.first b.first) (sym f)
          (lift_from p m n twice t moved grown grown_glued level others inside b.now ∙ st.lifts x b x_in (beside b k).0)))
    ]
    | inr u ↦ (let (a, h, e) = u in elim (comes_from w j) [
      | inl f ↦ subst (λ (a : Seg). lift_in p n a.now w.now ≡ first_lift a.first w.first) (sym e)
          (subst (λ (b : Seg). lift_in p n (raised p m t a.now) b.now ≡ first_lift a.first b.first) (sym f)
          (lift_into p m n twice t moved grown grown_glued level others inside a.now (beside a h).1 (st.within a (beside a h).0) ∙ st.lifts a x (beside a h).0 x_in))
      | inr v ↦ (let (b, k, f) = v in
          subst (λ (a : Seg). lift_in p n a.now w.now ≡ first_lift a.first w.first) (sym e)
          (subst (λ (b : Seg). lift_in p n (raised p m t a.now) b.now ≡ first_lift a.first b.first) (sym f)
          (lift_kept p m n twice t moved grown grown_glued level others inside a.now b.now (beside a h).1 (st.within a (beside a h).0)
          ∙ st.lifts a b (beside a h).0 (beside b k).0)))
    ])
  ]

  carried_apart : (ys : List Seg) → Pairwise p m ys → ((y : Seg) → Mem y ys → Apart p m y.now x.now) → Pairwise p n (map carry_seg ys)
  carried_apart [] h c = tt
  carried_apart (y ∷ ys) h c = (
    λ z i. let (w, j, e) = mem_map carry_seg z ys i in
        subst (λ (v : Seg). Apart p n (raised p m t y.now) v.now × Apart p n v.now (raised p m t y.now)) (sym e) (
          apart_kept p m n twice t moved grown grown_glued level others inside y.now w.now (h.0 w j).0 (c y (inl refl)) (c w (inr j)),
          apart_kept p m n twice t moved grown grown_glued level others inside w.now y.now (h.0 w j).1 (c w (inr j)) (c y (inl refl)),
        ),
    carried_apart ys h.1 (λ w i. c w (inr i)),
  )

  segs_apart : (R : List Seg) → Pairwise p m (R ++ (x ∷ Q)) → ((y : Seg) → Mem y R ⊎ Mem y Q → Apart p m y.now x.now) → Pairwise p n (map carry_seg R ++ (middle_seg ∷ map carry_seg Q))
  segs_apart [] h c = (
    λ z i. let (w, j, e) = mem_map carry_seg z Q i in
        let v = apart_middle p m n twice t moved grown grown_glued level others inside w.now in
        subst (λ (v : Seg). Apart p n (middle_of t) v.now × Apart p n v.now (middle_of t)) (sym e) (v.1, v.0),
    carried_apart Q h.1 (λ y i. c y (inr i)),
  )
  segs_apart (y ∷ R) h c = (
    λ z i. elim (mem_append z (map carry_seg R) (middle_seg ∷ map carry_seg Q) i) [
      | inl j ↦ (let (w, k, e) = mem_map carry_seg z R j in both y w (h.0 w (mem_left w R (x ∷ Q) k)) (c y (inl (inl refl))) (c w (inl (inr k))) z e)
      | inr j ↦ elim j [
        | inl e ↦ (let v = apart_middle p m n twice t moved grown grown_glued level others inside y.now in
            subst (λ (v : Seg). Apart p n (raised p m t y.now) v.now × Apart p n v.now (raised p m t y.now)) (sym e) v)
        | inr j ↦ (let (w, k, e) = mem_map carry_seg z Q j in both y w (h.0 w (mem_right w R (x ∷ Q) (inr k))) (c y (inl (inl refl))) (c w (inr k)) z e)
      ]
    ],
    segs_apart R h.1 (λ w i. elim i [ inl j ↦ c w (inl (inr j)) | inr j ↦ c w (inr j) ]),
  )
    where
      both : (y w : Seg) → Apart p m y.now w.now × Apart p m w.now y.now → Apart p m y.now x.now → Apart p m w.now x.now → (z : Seg) → z ≡ carry_seg w
          → Apart p n (raised p m t y.now) z.now × Apart p n z.now (raised p m t y.now)
      both y w h a b z e = subst (λ (v : Seg). Apart p n (raised p m t y.now) v.now × Apart p n v.now (raised p m t y.now)) (sym e) (
        apart_kept p m n twice t moved grown grown_glued level others inside y.now w.now h.0 a b,
        apart_kept p m n twice t moved grown grown_glued level others inside w.now y.now h.1 b a,
      )

  -- a finger across x keeps what stands before what; x is now its middle
  pub standing_after : Standing p n first_lift segs_after
  standing_after = record {
    lifts = lifts_after;
    apart = segs_apart P st.apart (λ y i. (beside y i).1);
    within = λ z i. elim (comes_from z i) [
      | inl e ↦ subst (λ (v : Seg). v.now.place ≤ n v.now.side) (sym e) (middle_within p m n twice t moved grown grown_glued level others inside)
      | inr u ↦ (let (a, h, e) = u in subst (λ (v : Seg). v.now.place ≤ n v.now.side) (sym e) (up_within p m n twice t moved grown grown_glued level others inside a.now (st.within a (beside a h).0)))
    ];
    moves = λ z i. elim (comes_from z i) [
      | inl e ↦ subst (λ (v : Seg). p v.now.side ≢ v.now.side) (sym e) moved
      | inr u ↦ (let (a, h, e) = u in subst (λ (v : Seg). p v.now.side ≢ v.now.side) (sym e) (st.moves a (beside a h).0))
    ];
  }

  -- what a raised segment gains is as it was first
  pub gained : (y : Seg) → Mem y P ⊎ Mem y Q → lift_in p m x.now y.now ≡ first_lift x.first y.first
  gained y i = st.lifts x y x_in (beside y i).0

  -- a segment is not raised by itself
  pub gained_own : first_lift x.first x.first ≡ 0
  gained_own = own_none
