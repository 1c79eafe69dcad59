-- A piece as the cyclic list of its spans, each followed by the next one.
use Rattle.std.proofs.Common.{◌≡◌, ℕ, zero, suc, ◌+◌, ◌<◌, ◌≤◌, true, List, [], ◌∷◌, ◌++◌, length, refl, sym, ◌∙◌, ap, subst, arith, ◌⊎◌, inl, inr}
use Rattle.std.specs.List.{filter}
use Rattle.std.proofs.lemmas.Bool.{cases_lt}
use Rattle.obd_base.proofs.lists.Below.{once_range, range_mem}
use Rattle.obd_base.specs.Lists.{below, Mem, Once}
use Rattle.obd_base.proofs.lists.Members.{no_longer, once_filter, filter_mem, mem_filter}
use Rattle.page_surface.specs.Drawing.{Chord}
use Rattle.drawing.specs.Pieces.{same_piece}
use Rattle.drawing.proofs.SamePiece.{same_piece_sym, same_piece_same}
use Rattle.drawing.proofs.fingers.Arranged.{Arranged}
use Rattle.finger_move.proofs.PushedNext.{next}
use Rattle.finger_move.proofs.Walk.{next_same, next_up, next_down}

-- the first of some numbers, or another one where there are none
abbrev pub head_or : List ℕ → ℕ → ℕ
head_or [] z = z
head_or (x ∷ xs) z = x

-- each member goes to the one after it, and the last one to z
abbrev pub Leads : (ℕ → ℕ) → List ℕ → ℕ → Type 0
Leads f [] z = Unit {0}
Leads f (x ∷ xs) z = (f x ≡ head_or xs z) × Leads f xs z

-- each leads to the next one, the last to the first, and none stands twice
pub record IsCycle (f : ℕ → ℕ) (xs : List ℕ) : Type 0 where
  pub leads : Leads f xs (head_or xs 0)
  pub once : Once xs

-- lying in one piece goes on
pub same_trans : (cs : List Chord) (s t u : ℕ) → same_piece cs s t ≡ true → same_piece cs t u ≡ true → same_piece cs s u ≡ true
same_trans cs s t u h k = same_piece_same cs s t u h ∙ k

-- lists that lead on to one another
pub leads_append : (f : ℕ → ℕ) (xs ys : List ℕ) (z : ℕ) → Leads f xs (head_or ys z) → Leads f ys z → Leads f (xs ++ ys) z
leads_append f [] ys z h k = k
leads_append f (x ∷ []) ys z h k = (h.0, k)
leads_append f (x ∷ y ∷ xs) ys z h k = (h.0, leads_append f (y ∷ xs) ys z h.1 k)

-- the first part of a list leads on to the second
pub leads_left : (f : ℕ → ℕ) (xs ys : List ℕ) (z : ℕ) → Leads f (xs ++ ys) z → Leads f xs (head_or ys z)
leads_left f [] ys z h = tt
leads_left f (x ∷ []) ys z h = (h.0, tt)
leads_left f (x ∷ y ∷ xs) ys z h = (h.0, leads_left f (y ∷ xs) ys z h.1)

-- and the second to what the whole leads to
pub leads_right : (f : ℕ → ℕ) (xs ys : List ℕ) (z : ℕ) → Leads f (xs ++ ys) z → Leads f ys z
leads_right f [] ys z h = h
leads_right f (x ∷ xs) ys z h = leads_right f xs ys z h.1

-- the first of joined lists
pub head_or_append : (xs ys : List ℕ) (z : ℕ) → head_or (xs ++ ys) z ≡ head_or xs (head_or ys z)
head_or_append [] ys z = refl
head_or_append (x ∷ xs) ys z = refl

-- every member's next is a member or the end
leads_next : (f : ℕ → ℕ) (xs : List ℕ) (z x : ℕ) → Leads f xs z → Mem x xs → Mem (f x) xs ⊎ (f x ≡ z)
leads_next f [] z x h m = absurd m
leads_next f (y ∷ []) z x h (inl q) = inr (ap f q ∙ h.0)
leads_next f (y ∷ w ∷ xs) z x h (inl q) = inl (inr (inl (ap f q ∙ h.0)))
leads_next f (y ∷ xs) z x h (inr m) = elim (leads_next f xs z x h.1 m) [ inl k ↦ inl (inr k) | inr k ↦ inr k ]

-- in a circle what follows a member is one
pub cycle_next : (f : ℕ → ℕ) (xs : List ℕ) → IsCycle f xs → (x : ℕ) → Mem x xs → Mem (f x) xs
cycle_next f [] c x m = absurd m
cycle_next f (y ∷ xs) c x m = elim (leads_next f (y ∷ xs) y x c.leads m) [ inl k ↦ k | inr k ↦ inl k ]

-- every member but the first is the next of a member; what the last one leads to is the next of a member
leads_before : (f : ℕ → ℕ) (xs : List ℕ) (z x : ℕ) → Leads f xs z → Mem x xs → (head_or xs z ≡ x) ⊎ ((y : ℕ) × Mem y xs × (f y ≡ x))
leads_before f [] z x h m = absurd m
leads_before f (y ∷ xs) z x h (inl q) = inl (sym q)
leads_before f (y ∷ xs) z x h (inr m) = elim (leads_before f xs z x h.1 m) [
  | inl q ↦ inr (y, inl refl, h.0 ∙ q)
  | inr w ↦ (let (v, k, q) = w in inr (v, inr k, q))
]

leads_end : (f : ℕ → ℕ) (x : ℕ) (xs : List ℕ) (z : ℕ) → Leads f (x ∷ xs) z → (y : ℕ) × Mem y (x ∷ xs) × (f y ≡ z)
leads_end f x [] z h = (x, inl refl, h.0)
leads_end f x (w ∷ xs) z h = let (y, m, q) = leads_end f w xs z h.1 in (y, inr m, q)

-- and each member follows one
pub cycle_before : (f : ℕ → ℕ) (xs : List ℕ) → IsCycle f xs → (x : ℕ) → Mem x xs → (y : ℕ) × Mem y xs × (f y ≡ x)
cycle_before f [] c x m = absurd m
cycle_before f (w ∷ xs) c x m = elim (leads_before f (w ∷ xs) w x c.leads m) [
  | inl q ↦ (let (y, k, e) = leads_end f w xs w c.leads in (y, k, e ∙ q))
  | inr k ↦ k
]

least_member : (x : ℕ) (xs : List ℕ) → (l : ℕ) × Mem l (x ∷ xs) × ((y : ℕ) → Mem y (x ∷ xs) → l ≤ y)
least_member x [] = (x, inl refl, λ y m. elim m [ inl q ↦ omega (arith, q) | inr m ↦ absurd m ])
least_member x (w ∷ xs) =
    let (l, m, h) = least_member w xs in
    elim (cases_lt l x) [
      | inl k ↦ (l, inr m, λ y n. elim n [ inl q ↦ omega (arith, q, k) | inr n ↦ h y n ])
      | inr k ↦ (x, inl refl, λ y n. elim n [ inl q ↦ omega (arith, q) | inr n ↦ (let r = h y n in omega (arith, r, k)) ])
    ]

module _ (cs : List Chord) (ok : Arranged cs) where
  -- all members lie in one piece
  leads_same : (xs : List ℕ) (z x : ℕ) → Leads (next cs) xs z → Mem x xs → same_piece cs x z ≡ true
  leads_same [] z x h m = absurd m
  leads_same (y ∷ []) z x h (inl q) = subst (λ w. same_piece cs w z ≡ true) (sym q) (subst (λ w. same_piece cs y w ≡ true) h.0 (next_same cs ok y))
  leads_same (y ∷ v ∷ xs) z x h (inl q) =
      subst (λ w. same_piece cs w z ≡ true) (sym q)
      (same_trans cs y v z (subst (λ w. same_piece cs y w ≡ true) h.0 (next_same cs ok y)) (leads_same (v ∷ xs) z v h.1 (inl refl)))
  leads_same (y ∷ xs) z x h (inr m) = leads_same xs z x h.1 m

  -- the spans of a circle lie in one piece
  pub cycle_same : (xs : List ℕ) → IsCycle (next cs) xs → (x y : ℕ) → Mem x xs → Mem y xs → same_piece cs x y ≡ true
  cycle_same xs c x y m n =
      let z = head_or xs 0 in
      same_trans cs x z y (leads_same xs z x c.leads m) (same_piece_sym cs y z (leads_same xs z y c.leads n))

  climb : (xs : List ℕ) → IsCycle (next cs) xs → (n s t : ℕ) → Mem s xs → same_piece cs s t ≡ true → s ≤ t → t ≤ s + n → Mem t xs
  climb xs c zero s t m h l k = subst (λ w. Mem w xs) (let e : s ≡ t = omega arith in e) m
  climb xs c (suc n) s t m h l k = elim (cases_lt s t) [
    | inr g ↦ subst (λ w. Mem w xs) (let e : s ≡ t = omega arith in e) m
    | inl g ↦ (let u = next_up cs ok s t h g in
        climb xs c n (next cs s) t (cycle_next (next cs) xs c s m)
        (same_trans cs (next cs s) s t (same_piece_sym cs s (next cs s) (next_same cs ok s)) h) u.1 (omega (arith, u, k)))
  ]

  -- a cycle holds every span of its piece
  pub cycle_whole : (xs : List ℕ) → IsCycle (next cs) xs → (s t : ℕ) → Mem s xs → same_piece cs s t ≡ true → Mem t xs
  cycle_whole [] c s t m h = absurd m
  cycle_whole (x ∷ xs) c s t m h =
      let (l, k, least) = least_member x xs in
      let (p, n, e) = cycle_before (next cs) (x ∷ xs) c l k in
      let pt : same_piece cs p t ≡ true = same_trans cs p s t (cycle_same (x ∷ xs) c p s n m) h in
      let lp = least p n in
      let turns : next cs p ≤ p = omega (arith, lp, e) in
      let lt = next_down cs ok p t pt turns in
      climb (x ∷ xs) c t l t k (same_trans cs l s t (cycle_same (x ∷ xs) c l s k m) h) (omega (arith, lt, e)) (omega arith)

  -- two cycles of one piece are of one length
  pub cycle_length : (xs ys : List ℕ) → IsCycle (next cs) xs → IsCycle (next cs) ys → (s : ℕ) → Mem s xs → Mem s ys → length xs ≡ length ys
  cycle_length xs ys c d s m n = omega (
    arith,
    no_longer xs ys c.once (λ z k. cycle_whole ys d s z n (cycle_same xs c s z m k)),
    no_longer ys xs d.once (λ z k. cycle_whole xs c s z m (cycle_same ys d s z n k)),
  )

-- as many spans below T lie in the piece
pub cycle_size : (cs : List Chord) → Arranged cs → (xs : List ℕ) → IsCycle (next cs) xs → (T : ℕ) → ((x : ℕ) → Mem x xs → x < T)
    → (s : ℕ) → Mem s xs → length (filter (same_piece cs s) (below T)) ≡ length xs
cycle_size cs ok xs c T inside s m =
    let ys = filter (same_piece cs s) (below T) in
    omega (
      arith,
      no_longer xs ys c.once (λ z k. filter_mem (same_piece cs s) z (below T) (range_mem 0 T z (omega arith) (let i = inside z k in omega (arith, i))) (cycle_same cs ok xs c s z m k)),
      no_longer ys xs (once_filter (same_piece cs s) (below T) (once_range 0 T)) (λ z k. cycle_whole cs ok xs c s z m (mem_filter (same_piece cs s) z (below T) k).1),
    )
