-- Distances: a chord crossed changes them by at most one, and labels that lead down to the base bound them.
use Rattle.std.proofs.Common.{◌≡◌, ℕ, zero, suc, ◌+◌, ◌<◌, ◌≤◌, Bool, true, false, not, min, List, [], ◌∷◌, map, length, refl, sym, ◌∙◌, ap, subst, arith, ◌⊎◌, inl, inr, ◌≢◌}
use Rattle.std.specs.List.{sum_by, list_any}
use Rattle.std.proofs.lemmas.Bool.{cases_lt, cases_Bool, lt-ltb, le-ltb, true≢false, not-true, or_parts}
use Rattle.std.proofs.lemmas.List.Sums.{sum_by-cons, count_by-le-length}
use Rattle.obd_base.specs.Lists.{Mem, Once, below}
use Rattle.obd_base.proofs.lists.Below.{below_mem, bit, mem_below}
use Rattle.obd_base.proofs.lists.Members.{mem_map}
use Rattle.obd_base.proofs.lists.Sums.{member_adds, sum_none, sum_same}
use Rattle.page_surface.specs.Polygon.{sides}
use Rattle.page_surface.specs.Drawing.{Chord, Drawing, IsEmbedded, beyond, chords, differ}
use Rattle.drawing.specs.Pieces.{distance, gap, gaps, is_base, least_of, same_piece, separated_by, separates}
use Rattle.drawing.proofs.ChordTree.{beyond-suc}
use Rattle.drawing.proofs.Lists.{mem_to_map}
use Rattle.drawing.proofs.Placed.{ends_at, ends_of}
use Rattle.drawing.proofs.Mates.{Joins, ends_apart, ends_from, proper}
use Rattle.drawing.proofs.Diagram.{at_most_one_end, simple}
use Rattle.drawing.proofs.RoundPiece.{gap_of_base}

-- chords of which no two share an end are different
once_chords : (cs : List Chord) → ((x : ℕ) → ends_at cs x ≤ 1) → Once cs
once_chords [] h = tt
once_chords (c ∷ cs) h = (
  (λ m. absurd (omega (arith, sum_by-cons (λ k. ends_of k c.from) c cs, member_adds (λ k. ends_of k c.from) c cs m, ends_from c, h c.from))),
  once_chords cs (λ x. omega (arith, sum_by-cons (λ k. ends_of k x) c cs, h x)),
)

-- sums that differ at one member only
sum_but_one : (f g : Chord → ℕ) (c : Chord) (cs : List Chord) → Once cs → Mem c cs → ((e : Chord) → Mem e cs → e ≢ c → f e ≡ g e) → sum_by f cs + g c ≡ sum_by g cs + f c
sum_but_one f g c [] o m h = absurd m
sum_but_one f g c (e ∷ cs) o (inl q) h =
    let rest = sum_same f g cs (λ x n. h x (inr n) (λ z. o.0 (subst (λ y. Mem y cs) (z ∙ q) n))) in
    let a : f c ≡ f e = ap f q in
    let b : g c ≡ g e = ap g q in
    omega (arith, sum_by-cons f e cs, sum_by-cons g e cs, rest, a, b)
sum_but_one f g c (e ∷ cs) o (inr m) h =
    let here = h e (inl refl) (λ z. o.0 (subst (λ y. Mem y cs) (sym z) m)) in
    omega (arith, sum_by-cons f e cs, sum_by-cons g e cs, here, sum_but_one f g c cs o.1 m (λ x n. h x (inr n)))

-- turning one of two tests turns their difference
differ_not : (b c : Bool) → differ (not b) c ≡ not (differ b c)
differ_not true true = refl
differ_not true false = refl
differ_not false true = refl
differ_not false false = refl

-- an end of a chord lies on the other side of it than the span after it
beyond_flips : (c : Chord) (x y : ℕ) → c.from ≢ c.to → Joins c x y → beyond c (suc x) ≡ not (beyond c x)
beyond_flips c x y ne (inl (p, q)) = elim (cases_lt c.to c.from) [
  | inl l ↦ rw (lt-ltb c.from (suc x) (omega arith), lt-ltb c.to (suc x) (omega arith), le-ltb c.from x (omega arith), lt-ltb c.to x (omega arith)) refl
  | inr l ↦ rw (lt-ltb c.from (suc x) (omega arith), le-ltb c.to (suc x) (omega arith), le-ltb c.from x (omega arith), le-ltb c.to x (omega arith)) refl
]
beyond_flips c x y ne (inr (p, q)) = elim (cases_lt c.from c.to) [
  | inl l ↦ rw (lt-ltb c.from (suc x) (omega arith), lt-ltb c.to (suc x) (omega arith), lt-ltb c.from x (omega arith), le-ltb c.to x (omega arith)) refl
  | inr l ↦ rw (le-ltb c.from (suc x) (omega arith), lt-ltb c.to (suc x) (omega arith), le-ltb c.from x (omega arith), le-ltb c.to x (omega arith)) refl
]

-- the least number is no greater than any
least_le : (n : ℕ) (xs : List ℕ) (x : ℕ) → Mem x xs → least_of n xs ≤ x
least_le n [] x m = absurd m
least_le n (y ∷ xs) x (inl q) = omega arith
least_le n (y ∷ xs) x (inr m) = omega (arith, least_le n xs x m)

-- it is the bound or one of them
least_met : (n : ℕ) (xs : List ℕ) → (least_of n xs ≡ n) ⊎ Mem (least_of n xs) xs
least_met n [] = inl refl
least_met n (y ∷ xs) = elim (cases_lt y (least_of n xs)) [
  | inl l ↦ inr (inl (omega arith))
  | inr l ↦ (let e : min y (least_of n xs) ≡ least_of n xs = omega arith in
      elim (least_met n xs) [ inl q ↦ inl (e ∙ q) | inr m ↦ inr (inr (subst (λ z. Mem z xs) (sym e) m)) ])
]

-- what is no greater than any is no greater than the least
least_above : (n m : ℕ) (xs : List ℕ) → m ≤ n → ((x : ℕ) → Mem x xs → m ≤ x) → m ≤ least_of n xs
least_above n m [] l h = l
least_above n m (y ∷ xs) l h = omega (arith, h y (inl refl), least_above n m xs l (λ x k. h x (inr k)))

-- spans of one piece are as far from a gap
pub separated_same : (cs : List Chord) (s t g : ℕ) → same_piece cs s t ≡ true → separated_by cs s g ≡ separated_by cs t g
separated_same cs s t g h = go cs (not-true _ h)
  where
    go : (cs : List Chord) → list_any (λ c. separates c s t) cs ≡ false → separated_by cs s g ≡ separated_by cs t g
    go [] h = refl
    go (c ∷ cs) h =
        let r = or_parts (separates c s t) (list_any (λ c. separates c s t) cs) h in
        let b : separates c s g ≡ separates c t g = ap (λ x. differ x (beyond c g)) (equal (beyond c s) (beyond c t) r.0) in
        let b' : bit (separates c s g) ≡ bit (separates c t g) = ap bit b in
        omega (arith, sum_by-cons (λ c. bit (separates c s g)) c cs, sum_by-cons (λ c. bit (separates c t g)) c cs, b', go cs r.1)
      where
        equal : (x y : Bool) → differ x y ≡ false → x ≡ y
        equal true true h = refl
        equal true false h = absurd (true≢false h)
        equal false y h = sym h

module _ (d : Drawing) (ok : IsEmbedded d) where
  -- the chords
  abbrev cs : List Chord
  cs = chords d

  -- how many chords separate a span from a gap
  abbrev pub from_gap : ℕ → ℕ → ℕ
  from_gap s g = separated_by (chords d) s g

  -- over the chord at the end of a span the chords towards a gap become one more or one fewer
  pub crossed : (c : Chord) (x y g : ℕ) → Mem c (chords d) → Joins c x y
      → ((separates c x g ≡ true) × (from_gap x g ≡ from_gap (suc x) g + 1)) ⊎ ((separates c x g ≡ false) × (from_gap x g + 1 ≡ from_gap (suc x) g))
  crossed c x y g m join =
      let flip : separates c (suc x) g ≡ not (separates c x g) = ap (λ b. differ b (beyond c g)) (beyond_flips c x y (proper cs (simple d ok) c m) join) ∙ differ_not (beyond c x) (beyond c g) in
      let others = sum_but_one (λ e. bit (separates e x g)) (λ e. bit (separates e (suc x) g)) c cs (once_chords cs (at_most_one_end d ok)) m (λ e n ne.
      let apart = ends_apart cs (simple d ok) e c n m ne in
      let same : beyond e (suc x) ≡ beyond e x = elim join [
        | inl w ↦ beyond-suc e x (λ q. apart.0 (q ∙ sym w.0)) (λ q. apart.2 (q ∙ sym w.0))
        | inr w ↦ beyond-suc e x (λ q. apart.1 (q ∙ sym w.0)) (λ q. apart.3 (q ∙ sym w.0))
      ] in
      ap (λ b. bit (differ b (beyond e g))) (sym same)) in
      elim (cases_Bool (separates c x g)) [
        | inl q ↦ inl (q, let a : bit (separates c x g) ≡ 1 = rw q refl in let b : bit (separates c (suc x) g) ≡ 0 = rw (flip, q) refl in omega (arith, others, a, b))
        | inr q ↦ inr (q, let a : bit (separates c x g) ≡ 0 = rw q refl in let b : bit (separates c (suc x) g) ≡ 1 = rw (flip, q) refl in omega (arith, others, a, b))
      ]

  -- no gap is nearer than the distance says
  pub distance_le : (s k : ℕ) → k < sides d.polygon → distance d s ≤ from_gap s (gap d k)
  distance_le s k l = least_le (length cs) (map (separated_by cs s) (gaps d)) (from_gap s (gap d k))
      (mem_to_map (separated_by cs s) (gap d k) (gaps d) (mem_to_map (gap d) k (below (sides d.polygon)) (below_mem (sides d.polygon) k l)))

  -- some gap is as near as the distance says
  pub nearest_gap : 0 < sides d.polygon → (s : ℕ) → (k : ℕ) × (k < sides d.polygon) × (from_gap s (gap d k) ≡ distance d s)
  nearest_gap pos s = elim (least_met (length cs) (map (separated_by cs s) (gaps d))) [
    | inl q ↦
        (let l = distance_le s 0 pos in
        let c : from_gap s (gap d 0) ≤ length cs = count_by-le-length (λ c. separates c s (gap d 0)) cs in
        let e : distance d s ≡ length cs = q in
        (0, pos, omega (arith, l, c, e)))
    | inr m ↦
        (let (g, i, e) = mem_map (separated_by cs s) (distance d s) (gaps d) m in
        let (k, j, f) = mem_map (gap d) g (below (sides d.polygon)) i in
        (k, mem_below (sides d.polygon) k j, sym (e ∙ ap (separated_by cs s) f)))
  ]

  -- spans of one piece have one distance
  pub distance_same : 0 < sides d.polygon → (s t : ℕ) → same_piece (chords d) s t ≡ true → distance d s ≡ distance d t
  distance_same pos s t h =
      let (k, lk, e) = nearest_gap pos s in
      let (j, lj, f) = nearest_gap pos t in
      omega (arith, e, f, distance_le s j lj, distance_le t k lk, separated_same cs s t (gap d k) h, separated_same cs s t (gap d j) h)

  -- over a chord the distance changes by at most one
  pub distance_crossed : 0 < sides d.polygon → (c : Chord) (x y : ℕ) → Mem c (chords d) → Joins c x y → (distance d x ≤ distance d (suc x) + 1) × (distance d (suc x) ≤ distance d x + 1)
  distance_crossed pos c x y m join =
      let (k, lk, e) = nearest_gap pos x in
      let (j, lj, f) = nearest_gap pos (suc x) in (
        elim (crossed c x y (gap d j) m join) [ inl w ↦ omega (arith, w.1, f, distance_le x j lj) | inr w ↦ omega (arith, w.1, f, distance_le x j lj) ],
        elim (crossed c x y (gap d k) m join) [ inl w ↦ omega (arith, w.1, e, distance_le (suc x) k lk) | inr w ↦ omega (arith, w.1, e, distance_le (suc x) k lk) ],
      )

  -- spans marked with labels, where label 0 is base only and a greater label has a lesser one behind a chord, have at most that distance
  pub label_bounds : 0 < sides d.polygon → (marked : ℕ → ℕ → Type 0)
      → ((s : ℕ) → marked s 0 → is_base d s ≡ true)
      → ((s e : ℕ) → marked s (suc e) → (r : ℕ) × (c : Chord) × (y : ℕ) × Mem c (chords d) × Joins c r y × (same_piece (chords d) s r ≡ true) × marked (suc r) e)
      → (e s : ℕ) → marked s e → distance d s ≤ e
  label_bounds pos marked zeros steps zero s h =
      let (k, lk, same) = gap_of_base d ok s (zeros s h) in
      omega (arith, distance_le s k lk, separated_same cs s (gap d k) (gap d k) same, separated_self (gap d k))
    where
      separated_self : (g : ℕ) → from_gap g g ≡ 0
      separated_self g = sum_none (λ c. bit (separates c g g)) cs (λ c m. ap bit (differ_self (beyond c g)))
        where
          differ_self : (b : Bool) → differ b b ≡ false
          differ_self true = refl
          differ_self false = refl
  label_bounds pos marked zeros steps (suc e) s h =
      let (r, c, y, m, join, same, next) = steps s e h in
      let ih = label_bounds pos marked zeros steps e (suc r) next in
      omega (arith, distance_same pos s r same, (distance_crossed pos c r y m join).0, ih)
