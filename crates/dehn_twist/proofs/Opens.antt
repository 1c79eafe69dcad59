-- The strands' points that one chord parts from their mates: as many as chords cross it, and how they are numbered.
use Rattle.std.proofs.Common.{◌≡◌, ℕ, zero, suc, ◌+◌, ◌-◌, ◌<◌, ◌≤◌, Bool, true, false, cond, eqb, ltb, not, ◌&&◌, List, [], ◌∷◌, refl, sym, ◌∙◌, ap, inl, inr, arith}
use Rattle.std.specs.List.{count_by, filter, flat_map, range_with_len, sum_by}
use Rattle.std.proofs.lemmas.Bool.{cases_lt, false≢true, ltb-true, lt-ltb, le-ltb}
use Rattle.std.proofs.lemmas.List.Sums.{sum_by-cons}
use Rattle.obd_base.specs.Lists.{Mem, below}
use Rattle.obd_base.proofs.lists.Below.{below_mem, bit, count_suc, mem_below}
use Rattle.obd_base.proofs.lists.Members.{filter_mem, mem_filter}
use Rattle.obd_base.proofs.lists.Sums.{sum_add, sum_below_push, sum_flat, sum_same}
use Rattle.page_surface.specs.Drawing.{Chord, beyond, crosses, differ}
use Rattle.drawing.proofs.Lists.{flat_mem}
use Rattle.dehn_twist.specs.Surgery.{inner_end}
use Rattle.dehn_twist.proofs.Arranged.{sum_arranged, sum_filter}
use Rattle.dehn_twist.proofs.Blocks.{filter_rises, range_rises}
use Rattle.dehn_twist.proofs.TwoLists.{end_is, from_counts, is_end, to_counts}
use Rattle.drawing.proofs.Placed.{ends_at}

-- a sum over the numbers that pass, by how many pass before them
pub rank_sum : (p : ℕ → Bool) (g : ℕ → ℕ) (n : ℕ) → sum_by (λ z. cond (p z) (g (count_by p (below z))) 0) (below n) ≡ sum_by g (below (count_by p (below n)))
rank_sum p g zero = refl
rank_sum p g (suc n) =
    let ih = rank_sum p g n in
    let a = sum_below_push (λ z. cond (p z) (g (count_by p (below z))) 0) n in
    go (p n) refl a ih
  where
    go : (b : Bool) → p n ≡ b → sum_by (λ z. cond (p z) (g (count_by p (below z))) 0) (below (suc n)) ≡ sum_by (λ z. cond (p z) (g (count_by p (below z))) 0) (below n) + cond (p n) (g (count_by p (below n))) 0
        → sum_by (λ z. cond (p z) (g (count_by p (below z))) 0) (below n) ≡ sum_by g (below (count_by p (below n)))
        → sum_by (λ z. cond (p z) (g (count_by p (below z))) 0) (below (suc n)) ≡ sum_by g (below (count_by p (below (suc n))))
    go true e a ih =
        let s : cond (p n) (g (count_by p (below n))) 0 ≡ g (count_by p (below n)) = rw e refl in
        let w : bit (p n) ≡ 1 = ap bit e in
        let k : count_by p (below (suc n)) ≡ suc (count_by p (below n)) = omega (arith, count_suc p n, w) in
        let q : sum_by g (below (count_by p (below (suc n)))) ≡ sum_by g (below (count_by p (below n))) + g (count_by p (below n)) = ap (λ z. sum_by g (below z)) k ∙ sum_below_push g (count_by p (below n)) in
        omega (arith, a, ih, s, q)
    go false e a ih =
        let s : cond (p n) (g (count_by p (below n))) 0 ≡ 0 = rw e refl in
        let w : bit (p n) ≡ 0 = ap bit e in
        let k : count_by p (below (suc n)) ≡ count_by p (below n) = omega (arith, count_suc p n, w) in
        let q : sum_by g (below (count_by p (below (suc n)))) ≡ sum_by g (below (count_by p (below n))) = ap (λ z. sum_by g (below z)) k in
        omega (arith, a, ih, s, q)

-- a sum over the numbers below n, from the last one on
pub sum_down : (g : ℕ → ℕ) (n : ℕ) → sum_by (λ i. g (n - 1 - i)) (below n) ≡ sum_by g (below n)
sum_down g zero = refl
sum_down g (suc n) =
    let a = sum_by-cons (λ i. g (suc n - 1 - i)) 0 (range_with_len (0 + 1) n) in
    let f : g (suc n - 1 - 0) ≡ g n = ap g (let z : suc n - 1 - 0 ≡ n = omega arith in z) in
    let b = shift n 0 (λ i. suc n - 1 - i) in
    let e : sum_by (λ i. g (suc n - 1 - suc i)) (range_with_len 0 n) ≡ sum_by (λ i. g (n - 1 - i)) (below n) = sum_same _ _ (below n) (λ i m. ap g (let z : suc n - 1 - suc i ≡ n - 1 - i = omega arith in z)) in
    omega (arith, a, f, b, e, sum_down g n, sum_below_push g n)
  where
    shift : (r a : ℕ) (h : ℕ → ℕ) → sum_by (λ i. g (h i)) (range_with_len (a + 1) r) ≡ sum_by (λ i. g (h (suc i))) (range_with_len a r)
    shift zero a h = refl
    shift (suc r) a h =
        let o : a + 1 ≡ suc a = omega arith in
        let z : g (h (a + 1)) ≡ g (h (suc a)) = ap (λ i. g (h i)) o in
        omega (arith, sum_by-cons (λ i. g (h i)) (a + 1) (range_with_len (a + 1 + 1) r), sum_by-cons (λ i. g (h (suc i))) a (range_with_len (a + 1) r), z, shift r (a + 1) h)

module _ (size : ℕ) (ss : List Chord) (mate : ℕ → ℕ) (once : (x : ℕ) → ends_at ss x ≤ 1) (small : (t : Chord) → Mem t ss → (t.from < size) × (t.to < size))
    (mates : (t : Chord) → Mem t ss → (mate t.from ≡ t.to) × (mate t.to ≡ t.from)) where
  -- a sum over all ends of chords
  posts_sum : (f : ℕ → ℕ) → sum_by (λ t. f t.from + f t.to) ss ≡ sum_by (λ z. cond (is_end ss z) (f z) 0) (below size)
  posts_sum f =
      let ends = λ (t : Chord). t.from ∷ t.to ∷ [] in
      let pair : (g : ℕ → ℕ) (t : Chord) → sum_by g (ends t) ≡ g t.from + g t.to = λ g t.
      omega (arith, sum_by-cons g t.from (t.to ∷ []), sum_by-cons g t.to []) in
      let one : sum_by f (flat_map ends ss) ≡ sum_by (λ t. f t.from + f t.to) ss = sum_flat f ends ss ∙ sum_same _ _ ss (λ t m. pair f t) in
      let count : (y : ℕ) → sum_by (λ z. bit (eqb z y)) (flat_map ends ss) ≡ ends_at ss y = λ y. sum_flat (λ z. bit (eqb z y)) ends ss ∙ sum_same _ _ ss (λ t m. pair (λ z. bit (eqb z y)) t) in
      sym one ∙ (sum_arranged (λ z. z) f (flat_map ends ss) (filter (is_end ss) (below size)) (filter_rises (is_end ss) (below size) (range_rises 0 size))
      (λ z m. let (t, k, e) = flat_mem ends ss z m in
      let s = small t k in
      elim e [
        | inl q ↦ filter_mem (is_end ss) z (below size) (below_mem size z (omega (arith, q, s.0))) (ap (is_end ss) q ∙ end_is ss t.from (from_counts t ss k))
        | inr q ↦ elim q [
          | inl q ↦ filter_mem (is_end ss) z (below size) (below_mem size z (omega (arith, q, s.1))) (ap (is_end ss) q ∙ end_is ss t.to (to_counts t ss k))
          | inr q ↦ absurd q
        ]
      ])
      (λ y m. let r = mem_filter (is_end ss) y (below size) m in omega (arith, count y, ltb-true 0 (ends_at ss y) r.1, once y))
      ∙ sum_filter (is_end ss) f (below size))

  module _ (a : Chord) where
    -- the end of a strand's chord, on one side of the given chord, its mate on the other
    abbrev pub opens : ℕ → Bool
    opens z = is_end ss z && (beyond a z && not (beyond a (mate z)))

    -- a sum over the chords that cross it
    pub crossing_sum : (f : ℕ → ℕ) → sum_by (λ t. cond (crosses a t) (f (inner_end a t)) 0) ss ≡ sum_by (λ z. cond (opens z) (f z) 0) (below size)
    crossing_sum f =
        let g = λ (z : ℕ). cond (beyond a z && not (beyond a (mate z))) (f z) 0 in
        sum_same _ (λ t. g t.from + g t.to) ss (λ t m. each t (mates t m))
        ∙ (posts_sum g ∙ sum_same _ _ (below size) (λ z m. both (is_end ss z) (beyond a z && not (beyond a (mate z))) (f z)))
      where
        both : (b e : Bool) (x : ℕ) → cond b (cond e x 0) 0 ≡ cond (b && e) x 0
        both true e x = refl
        both false e x = refl

        split : (u v : Bool) (x y : ℕ) → cond (differ u v) (f (cond u x y)) 0 ≡ cond (u && not v) (f x) 0 + cond (v && not u) (f y) 0
        split true true x y = refl
        split true false x y = omega arith
        split false true x y = omega arith
        split false false x y = refl

        each : (t : Chord) → (mate t.from ≡ t.to) × (mate t.to ≡ t.from)
            → cond (crosses a t) (f (inner_end a t)) 0 ≡ cond (beyond a t.from && not (beyond a (mate t.from))) (f t.from) 0 + cond (beyond a t.to && not (beyond a (mate t.to))) (f t.to) 0
        each t h = rw (h.0, h.1) (split (beyond a t.from) (beyond a t.to) t.from t.to)

    -- how many cross it
    pub crossing_count : count_by (crosses a) ss ≡ count_by opens (below size)
    crossing_count = crossing_sum (λ z. 1)

    -- how many cross it with an inner end before a number
    pub crossing_before : (x : ℕ) → x ≤ size → count_by (λ s. crosses a s && ltb (inner_end a s) x) ss ≡ count_by opens (below x)
    crossing_before x l =
        sum_same _ _ ss (λ s m. both (crosses a s) (ltb (inner_end a s) x))
        ∙ (crossing_sum (λ z. bit (ltb z x)) ∙ upto size l)
      where
        both : (b e : Bool) → bit (b && e) ≡ cond b (bit e) 0
        both true e = refl
        both false e = refl

        upto : (n : ℕ) → x ≤ n → sum_by (λ z. cond (opens z) (bit (ltb z x)) 0) (below n) ≡ count_by opens (below x)
        upto n h = let e : n ≡ x + (n - x) = omega (arith, h) in ap (λ z. sum_by (λ z. cond (opens z) (bit (ltb z x)) 0) (below z)) e ∙ more (n - x)
          where
            more : (r : ℕ) → sum_by (λ z. cond (opens z) (bit (ltb z x)) 0) (below (x + r)) ≡ count_by opens (below x)
            more zero = let e : x + 0 ≡ x = omega arith in
                ap (λ z. sum_by (λ z. cond (opens z) (bit (ltb z x)) 0) (below z)) e
                ∙ sum_same _ _ (below x) (λ z m. let t = lt-ltb z x (mem_below x z m) in rw t refl)
            more (suc r) =
                let e : x + suc r ≡ suc (x + r) = omega arith in
                let o : cond (opens (x + r)) (bit (ltb (x + r) x)) 0 ≡ 0 = (let h : x ≤ x + r = omega arith in rw (le-ltb (x + r) x h) (same (opens (x + r)))) in
                ap (λ z. sum_by (λ z. cond (opens z) (bit (ltb z x)) 0) (below z)) e
                ∙ omega (arith, sum_below_push (λ z. cond (opens z) (bit (ltb z x)) 0) (x + r), o, more r)
              where
                same : (b : Bool) → cond {A = ℕ} b 0 0 ≡ 0
                same true = refl
                same false = refl

    -- how many cross it with an inner end after a number
    pub crossing_after : (x : ℕ) → x < size → count_by (λ s. crosses a s && ltb x (inner_end a s)) ss + count_by opens (below (suc x)) ≡ count_by opens (below size)
    crossing_after x l =
        let f = λ (s : Chord). bit (crosses a s && ltb x (inner_end a s)) in
        let g = λ (s : Chord). bit (crosses a s && ltb (inner_end a s) (suc x)) in
        let one : sum_by (λ s. f s + g s) ss ≡ sum_by (λ s. bit (crosses a s)) ss = sum_same _ _ ss (λ s m. each (crosses a s) (inner_end a s)) in
        omega (arith, one, sum_add f g ss, crossing_before (suc x) l, crossing_count)
      where
        each : (b : Bool) (y : ℕ) → bit (b && ltb x y) + bit (b && ltb y (suc x)) ≡ bit b
        each false y = refl
        each true y = elim (cases_lt x y) [
          | inl h ↦ (let k : suc x ≤ y = omega (arith, h) in rw (lt-ltb x y h, le-ltb y (suc x) k) refl)
          | inr h ↦ (let k : y < suc x = omega (arith, h) in rw (le-ltb x y h, lt-ltb y (suc x) k) refl)
        ]

    -- the inner end of a chord that crosses it
    pub inner_open : (t : Chord) → Mem t ss → crosses a t ≡ true → (opens (inner_end a t) ≡ true) × (inner_end a t < size)
    inner_open t m h = go (beyond a t.from) (beyond a t.to) refl refl h
      where
        k : (mate t.from ≡ t.to) × (mate t.to ≡ t.from)
        k = mates t m

        go : (u v : Bool) → beyond a t.from ≡ u → beyond a t.to ≡ v → differ (beyond a t.from) (beyond a t.to) ≡ true → (opens (inner_end a t) ≡ true) × (inner_end a t < size)
        go true true e f h = absurd (false≢true (let w = h in rw (e, f) at w))
        go false false e f h = absurd (false≢true (let w = h in rw (e, f) at w))
        go true false e f h = rw e ((rw (end_is ss t.from (from_counts t ss m), e, k.0, f) refl), (small t m).0)
        go false true e f h = rw e ((rw (end_is ss t.to (to_counts t ss m), f, k.1, e) refl), (small t m).1)
