-- Distances of spans from the gaps; a door exists, and labels of marked pieces bound distances from above.
use Rattle.std.proofs.Common.{◌≡◌, ℕ, zero, suc, ◌+◌, ◌≤◌, Bool, true, false, cond, List, [], ◌∷◌, map, length, refl, sym, ◌∙◌, ap, subst, arith, ◌⊎◌, inl, inr, ◌≢◌}
use Rattle.std.specs.List.{count_by}
use Rattle.std.proofs.lemmas.Bool.{false≢true, true≢false, lt-ltb, le-ltb, cases_lt}
use Rattle.std.proofs.lemmas.List.Sums.{sum_by-cons, count_by-le-length}
use Rattle.obd_base.specs.Lists.{Mem}
use Rattle.page_surface.specs.Drawing.{Drawing, Chord, chords, beyond, differ}
use Rattle.drawing.specs.Pieces.{same_piece, separates, separated_by, least_of, distance, gaps}
use Rattle.drawing.specs.Round.{other_end}
use Rattle.drawing.proofs.ChordTree.{same_from_each, beyond-suc}
use Rattle.drawing.proofs.fingers.Arranged.{Arranged, alike}
use Rattle.finger_move.proofs.Walk.{between, EndOf}

-- the distance of a span from some gaps
abbrev pub dist : List Chord → List ℕ → ℕ → ℕ
dist cs gs s = least_of (length cs) (map (separated_by cs s) gs)

-- it is the definition's distance
pub distance_is : (d : Drawing) (s : ℕ) → distance d s ≡ dist (chords d) (gaps d) s
distance_is d s = refl

least_le : (n : ℕ) (f : ℕ → ℕ) (gs : List ℕ) (g : ℕ) → Mem g gs → least_of n (map f gs) ≤ f g
least_le n f [] g m = absurd m
least_le n f (h ∷ gs) g (inl q) = rw q (omega arith)
least_le n f (h ∷ gs) g (inr m) = let r = least_le n f gs g m in omega (arith, r)

least_at : (n : ℕ) (f : ℕ → ℕ) (gs : List ℕ) → ((g : ℕ) → f g ≤ n) → (h : ℕ) → Mem h gs → (g : ℕ) × Mem g gs × (least_of n (map f gs) ≡ f g)
least_at n f [] b h m = absurd m
least_at n f (g ∷ []) b h m = (g, inl refl, let r = b g in omega (arith, r))
least_at n f (g ∷ k ∷ gs) b h m =
    let (w, i, q) = least_at n f (k ∷ gs) b k (inl refl) in
    elim (cases_lt (f g) (f w)) [
      | inl l ↦ (g, inl refl, omega (arith, q, l))
      | inr l ↦ (w, inr i, omega (arith, q, l))
    ]

-- no gap is nearer
pub dist_le : (cs : List Chord) (gs : List ℕ) (s g : ℕ) → Mem g gs → dist cs gs s ≤ separated_by cs s g
dist_le cs gs s g m = least_le (length cs) (separated_by cs s) gs g m

-- some gap is the nearest
pub nearest : (cs : List Chord) (gs : List ℕ) (s h : ℕ) → Mem h gs → (g : ℕ) × Mem g gs × (dist cs gs s ≡ separated_by cs s g)
nearest cs gs s h m = least_at (length cs) (separated_by cs s) gs (λ g. count_by-le-length (λ c. separates c s g) cs) h m

count_cons : (p : Chord → Bool) (c : Chord) (cs : List Chord) → count_by p (c ∷ cs) ≡ cond (p c) 1 0 + count_by p cs
count_cons p c cs = sum_by-cons (λ x. cond (p x) 1 0) c cs

count_alike : (p q : Chord → Bool) (cs : List Chord) → ((c : Chord) → Mem c cs → p c ≡ q c) → count_by p cs ≡ count_by q cs
count_alike p q [] h = refl
count_alike p q (c ∷ cs) h =
    let r = count_alike p q cs (λ e i. h e (inr i)) in
    let k : cond {A = ℕ} (p c) 1 0 ≡ cond (q c) 1 0 = ap (λ b. cond {A = ℕ} b 1 0) (h c (inl refl)) in
    omega (arith, r, k, count_cons p c cs, count_cons q c cs)

-- spans of one piece have one distance
pub separated_same : (cs : List Chord) (s t g : ℕ) → same_piece cs s t ≡ true → separated_by cs s g ≡ separated_by cs t g
separated_same cs s t g h = count_alike (λ c. separates c s g) (λ c. separates c t g) cs (λ c i. ap (λ b. differ b (beyond c g)) (alike cs s t h c i))

-- spans of one piece have one distance
pub dist_same : (cs : List Chord) (gs : List ℕ) (s t : ℕ) → same_piece cs s t ≡ true → dist cs gs s ≡ dist cs gs t
dist_same cs gs s t h = go gs
  where
    go : (gs : List ℕ) → least_of (length cs) (map (separated_by cs s) gs) ≡ least_of (length cs) (map (separated_by cs t) gs)
    go [] = refl
    go (g ∷ gs) = let r = go gs in let e = separated_same cs s t g h in omega (arith, r, e)

-- one chord tells s and t apart, all others see both alike
pub record OneApart (cs : List Chord) (c : Chord) (s t : ℕ) : Type 0 where
  pub one : beyond c s ≢ beyond c t
  pub others : (e : Chord) → Mem e cs → (e ≡ c) ⊎ (beyond e s ≡ beyond e t)

one_count : (b d g : Bool) → b ≢ d → (cond {A = ℕ} (differ b g) 1 0 ≡ suc (cond (differ d g) 1 0)) × (differ b g ≡ true) ⊎ (suc (cond {A = ℕ} (differ b g) 1 0) ≡ cond (differ d g) 1 0) × (differ b g ≡ false)
one_count true true g n = absurd (n refl)
one_count true false true n = inr (refl, refl)
one_count true false false n = inl (refl, refl)
one_count false true true n = inl (refl, refl)
one_count false true false n = inr (refl, refl)
one_count false false g n = absurd (n refl)

-- the numbers of chords between them and a gap differ by one: one less behind a chord that lies between
pub crossed_count : (cs : List Chord) → Arranged cs → (c : Chord) → Mem c cs → (s t g : ℕ) → OneApart cs c s t
    → ((separated_by cs s g ≡ suc (separated_by cs t g)) × (separates c s g ≡ true)) ⊎ ((suc (separated_by cs s g) ≡ separated_by cs t g) × (separates c s g ≡ false))
crossed_count [] ok c i s t g a = absurd i
crossed_count (x ∷ cs) ok c i s t g a = elim i [
  | inl q ↦
      let o : beyond x s ≢ beyond x t = λ h. a.one (subst (λ w. beyond w s ≡ beyond w t) (sym q) h) in
      let r = count_alike (λ e. separates e s g) (λ e. separates e t g) cs (λ e j. elim (a.others e (inr j)) [
        | inl k ↦ absurd (let cl = (ok.1 e j).apart in cl.0 (ap (λ (w : Chord). w.from) (sym q ∙ sym k)))
        | inr k ↦ ap (λ b. differ b (beyond e g)) k
      ]) in
      let u = count_cons (λ e. separates e s g) x cs in
      let v = count_cons (λ e. separates e t g) x cs in
      elim (one_count (beyond x s) (beyond x t) (beyond x g) o) [
        | inl k ↦ inl (omega (arith, k.0, r, u, v), subst (λ w. separates w s g ≡ true) (sym q) k.1)
        | inr k ↦ inr (omega (arith, k.0, r, u, v), subst (λ w. separates w s g ≡ false) (sym q) k.1)
      ]
  | inr j ↦
      let e : beyond x s ≡ beyond x t = elim (a.others x (inl refl)) [
        | inl k ↦ absurd (let cl = (ok.1 c j).apart in cl.0 (ap (λ (w : Chord). w.from) k))
        | inr k ↦ k
      ] in
      let w : cond {A = ℕ} (separates x s g) 1 0 ≡ cond (separates x t g) 1 0 = ap (λ b. cond {A = ℕ} (differ b (beyond x g)) 1 0) e in
      let u = count_cons (λ e. separates e s g) x cs in
      let v = count_cons (λ e. separates e t g) x cs in
      elim (crossed_count cs ok.2 c j s t g (record { one = a.one; others = λ e k. a.others e (inr k) })) [
        | inl k ↦ inl (omega (arith, k.0, w, u, v), k.1)
        | inr k ↦ inr (omega (arith, k.0, w, u, v), k.1)
      ]
]

-- the two spans at a chord's end are told apart by this chord alone
pub end_apart : (cs : List Chord) (c : Chord) (p q : ℕ) → EndOf cs c p q → OneApart cs c p (suc p)
end_apart cs c p q e = record {
  one = λ h. tests (sym (e.test p) ∙ h ∙ e.test (suc p));
  others = λ x i. elim (e.away x i) [ inl k ↦ inl k | inr k ↦ inr (sym (beyond-suc x p k.0 k.1)) ];
}
  where
    apart : p ≢ q
    apart = e.apart

    tests : between p q p ≡ between p q (suc p) → ⊥
    tests h = elim (cases_lt p q) [
      | inl l ↦ false≢true (rw (le-ltb p p (omega arith), le-ltb q p (omega arith), lt-ltb p (suc p) (omega arith), le-ltb q (suc p) (omega arith)) at h)
      | inr l ↦ true≢false (rw (le-ltb p p (omega arith), lt-ltb q p (omega arith), lt-ltb p (suc p) (omega arith), lt-ltb q (suc p) (omega arith)) at h)
    ]

-- a chord lies on the border of the piece of span s, with its end p there; behind it the piece of suc p
pub record IsBorder (cs : List Chord) (s p : ℕ) : Type 0 where
  pub chord : Chord
  pub side : same_piece cs s p ≡ true
  pub ending : EndOf cs chord p (other_end cs p)

-- distances on the two sides of a chord differ by at most one
pub border_near : (cs : List Chord) → Arranged cs → (gs : List ℕ) (h : ℕ) → Mem h gs → (s p : ℕ) → IsBorder cs s p → dist cs gs s ≤ suc (dist cs gs (suc p))
border_near cs ok gs h m s p b =
    let (g, i, e) = nearest cs gs (suc p) h m in
    let l = dist_le cs gs s g i in
    let k = separated_same cs s p g b.side in
    elim (crossed_count cs ok b.chord b.ending.in_list p (suc p) g (end_apart cs b.chord p (other_end cs p) b.ending)) [
      | inl q ↦ omega (arith, e, l, k, q.0)
      | inr q ↦ omega (arith, e, l, k, q.0)
    ]

-- labels of marked spans bound distances: label 0 lies at a gap, a label e + 1 has a border to a label e
pub data Marked (cs : List Chord) (gs : List ℕ) : ℕ → ℕ → Type 0 where
  base : {s : ℕ} (g : ℕ) → Mem g gs → same_piece cs s g ≡ true → Marked cs gs zero s
  -- behind its own end of the chord
  step : {e s : ℕ} (p : ℕ) → IsBorder cs s p → Marked cs gs e (suc p) → Marked cs gs (suc e) s

-- no chord separates spans of one piece
pub separated_none : (cs : List Chord) (s g : ℕ) → same_piece cs s g ≡ true → separated_by cs s g ≡ 0
separated_none [] s g h = refl
separated_none (c ∷ cs) s g h =
    let e = separated_none cs s g (same_from_each cs s g (λ e i. alike (c ∷ cs) s g h e (inr i))) in
    let k : differ (beyond c s) (beyond c g) ≡ false = rw (alike (c ∷ cs) s g h c (inl refl)) (twin (beyond c g)) in
    let v : cond {A = ℕ} (separates c s g) 1 0 ≡ 0 = ap (λ b. cond {A = ℕ} b 1 0) k in
    omega (arith, e, v, count_cons (λ e. separates e s g) c cs)
  where
    twin : (b : Bool) → differ b b ≡ false
    twin true = refl
    twin false = refl

-- labels bound distances
pub label_bound : (cs : List Chord) → Arranged cs → (gs : List ℕ) (h : ℕ) → Mem h gs → (e s : ℕ) → Marked cs gs e s → dist cs gs s ≤ e
label_bound cs ok gs h m zero s (base g i q) = omega (arith, dist_le cs gs s g i, separated_none cs s g q)
label_bound cs ok gs h m (suc e) s (step p b k) = omega (arith, border_near cs ok gs h m s p b, label_bound cs ok gs h m e (suc p) k)
