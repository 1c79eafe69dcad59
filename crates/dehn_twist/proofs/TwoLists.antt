-- Two lists of chords on one circle, each without crossing: they make two kinds of points.
use Rattle.std.proofs.Common.{◌≡◌, ◌≢◌, ℕ, ◌+◌, ◌<◌, ◌≤◌, Bool, true, false, ltb, List, ◌++◌, sym, ◌∙◌, ap, subst, inl, inr, arith}
use Rattle.std.proofs.lemmas.Bool.{cases_eq, eq-eqb, lt-ltb, le-ltb, true≢false}
use Rattle.std.proofs.lemmas.List.Sums.{sum_by-append}
use Rattle.obd_base.specs.Lists.{Mem}
use Rattle.obd_base.proofs.lists.Members.{mem_left, mem_right}
use Rattle.obd_base.proofs.lists.Sums.{member_adds}
use Rattle.page_surface.specs.Drawing.{Chord, no_two_cross}
use Rattle.drawing.specs.Round.{other_end}
use Rattle.dehn_twist.proofs.Circle.{TwoKinds}
use Rattle.curve_paths.proofs.ChordEnds.{HasEnds, apart, apart_other}
use Rattle.drawing.proofs.Mates.{Joins, chord_cases, chord_here, ends_from, ends_to, other_joins, other_stays, other_twice, pair_uncrossed}
use Rattle.drawing.proofs.Placed.{ends_at, ends_of}

-- a chord of the list ends at a number
abbrev pub is_end : List Chord → ℕ → Bool
is_end cs x = ltb 0 (ends_at cs x)

-- where it does
pub end_is : (cs : List Chord) (x : ℕ) → ends_at cs x ≢ 0 → is_end cs x ≡ true
end_is cs x n = lt-ltb 0 (ends_at cs x) (omega (arith, n))

-- and where none does
pub no_end_is : (cs : List Chord) (x : ℕ) → ends_at cs x ≡ 0 → is_end cs x ≡ false
no_end_is cs x e = let h : ends_at cs x ≤ 0 = omega (arith, e) in le-ltb 0 (ends_at cs x) h

-- a member's ends
pub from_counts : (c : Chord) (cs : List Chord) → Mem c cs → ends_at cs c.from ≢ 0
from_counts c cs m e = let a = member_adds (λ k. ends_of k c.from) c cs m in let b = ends_from c in omega (arith, a, b, e)

-- for its end
pub to_counts : (c : Chord) (cs : List Chord) → Mem c cs → ends_at cs c.to ≢ 0
to_counts c cs m e = let a = member_adds (λ k. ends_of k c.to) c cs m in let b = ends_to c in omega (arith, a, b, e)

-- for both
pub joined_counts : (c : Chord) (cs : List Chord) (x y : ℕ) → Mem c cs → Joins c x y → (ends_at cs x ≢ 0) × (ends_at cs y ≢ 0)
joined_counts c cs x y m (inl (p, q)) = (subst (λ z. ends_at cs z ≢ 0) p (from_counts c cs m), subst (λ z. ends_at cs z ≢ 0) q (to_counts c cs m))
joined_counts c cs x y m (inr (p, q)) = (subst (λ z. ends_at cs z ≢ 0) p (to_counts c cs m), subst (λ z. ends_at cs z ≢ 0) q (from_counts c cs m))

-- a chord by its two ends
pub has_ends : (c : Chord) (x y : ℕ) → Joins c x y → HasEnds c x y
has_ends c x y (inl (p, q)) = inl (sym p, sym q)
has_ends c x y (inr (p, q)) = inr (sym p, sym q)

-- a chord with both ends at a number ends there twice
pub ends_twice : (c : Chord) (x : ℕ) → Joins c x x → 2 ≤ ends_of c x
ends_twice c x (inl (a, b)) = rw (eq-eqb c.from x a, eq-eqb c.to x b) (omega arith)
ends_twice c x (inr (a, b)) = rw (eq-eqb c.from x b, eq-eqb c.to x a) (omega arith)

module _ (size : ℕ) (ks ss : List Chord) (once : (x : ℕ) → ends_at (ks ++ ss) x ≤ 1) (small : (c : Chord) → Mem c (ks ++ ss) → (c.from < size) × (c.to < size))
    (ks_apart : no_two_cross ks ≡ true) (ss_apart : no_two_cross ss ≡ true) where
  -- the other end of the chord at a number
  abbrev pub mate_of : ℕ → ℕ
  mate_of x = other_end (ks ++ ss) x

  -- the ends in both lists
  pub ends_both : (x : ℕ) → ends_at (ks ++ ss) x ≡ ends_at ks x + ends_at ss x
  ends_both x = sum_by-append (λ c. ends_of c x) ks ss

  -- the chord at a curve's point, and at a strand's point
  pub curve_here : (x : ℕ) → ends_at ks x ≢ 0 → (c : Chord) × Mem c ks × Joins c x (mate_of x)
  curve_here x n =
      let (c, m, j) = chord_here ks x n in
      let e = other_joins (ks ++ ss) once c x (other_end ks x) (mem_left c ks ss m) j in
      (c, m, subst (λ y. Joins c x y) (sym e) j)

  -- at a point of the second kind
  pub strand_here : (x : ℕ) → ends_at ss x ≢ 0 → (c : Chord) × Mem c ss × Joins c x (mate_of x)
  strand_here x n =
      let (c, m, j) = chord_here ss x n in
      let e = other_joins (ks ++ ss) once c x (other_end ss x) (mem_right c ks ss m) j in
      (c, m, subst (λ y. Joins c x y) (sym e) j)

  -- a point of one of the two kinds, or of none
  data Kind (x : ℕ) : Type 0 where
    of_curve : ends_at ks x ≢ 0 → Kind x
    of_strand : ends_at ks x ≡ 0 → ends_at ss x ≢ 0 → Kind x
    idle : ends_at ks x ≡ 0 → mate_of x ≡ x → Kind x

  which_kind : (x : ℕ) → Kind x
  which_kind x = elim (cases_eq (ends_at ks x) 0) [
    | inr n ↦ of_curve n
    | inl e ↦ elim (cases_eq (ends_at ss x) 0) [
      | inr n ↦ of_strand e n
      | inl f ↦ idle e (other_stays (ks ++ ss) x (omega (arith, ends_both x, e, f)))
    ]
  ]

  same_kind : (x : ℕ) → is_end ks (mate_of x) ≡ is_end ks x
  same_kind x = go (which_kind x)
    where
      go : Kind x → is_end ks (mate_of x) ≡ is_end ks x
      go (of_curve n) = let (c, m, j) = curve_here x n in let k = joined_counts c ks x (mate_of x) m j in end_is ks (mate_of x) k.1 ∙ sym (end_is ks x k.0)
      go (of_strand e n) =
          let (c, m, j) = strand_here x n in
          let k = joined_counts c ss x (mate_of x) m j in
          no_end_is ks (mate_of x) (omega (arith, ends_both (mate_of x), k.1, once (mate_of x))) ∙ sym (no_end_is ks x e)
      go (idle e q) = ap (is_end ks) q

  moves : (x : ℕ) → is_end ks x ≡ true → mate_of x ≢ x
  moves x e q = elim (cases_eq (ends_at ks x) 0) [
    | inl z ↦ true≢false (sym e ∙ no_end_is ks x z)
    | inr n ↦
        let (c, m, j) = curve_here x n in
        let l = member_adds (λ k. ends_of k x) c ks m in
        let both = ends_twice c x (subst (λ y. Joins c x y) q j) in
        omega (arith, l, both, ends_both x, once x)
  ]

  stays : (x : ℕ) → x < size → mate_of x < size
  stays x l = elim (cases_eq (ends_at (ks ++ ss) x) 0) [
    | inl e ↦ (let q = other_stays (ks ++ ss) x e in omega (arith, q, l))
    | inr n ↦ (let (c, m, j) = chord_here (ks ++ ss) x n in in_range c (small c m) j)
  ]
    where
      in_range : (c : Chord) → (c.from < size) × (c.to < size) → Joins c x (mate_of x) → mate_of x < size
      in_range c s (inl (a, b)) = omega (arith, s.1, b)
      in_range c s (inr (a, b)) = omega (arith, s.0, b)

  -- two chords of a list without crossing
  of_list : (cs : List Chord) → no_two_cross cs ≡ true → (x y : ℕ) → (c e : Chord) → Mem c cs → Mem e cs → Joins c x (mate_of x) → Joins e y (mate_of y)
      → x < y → y < mate_of x → (x < mate_of y) × (mate_of y < mate_of x)
  of_list cs h x y c e mc me jc je l r = elim (chord_cases c e) [
    | inl q ↦ absurd (same e (subst (λ z. Joins z x (mate_of x)) q jc) je)
    | inr ne ↦ elim (pair_uncrossed c e cs h mc me ne) [
      | inl f ↦ apart c e x (mate_of x) y (mate_of y) (has_ends c x (mate_of x) jc) (has_ends e y (mate_of y) je) f l r n1
      | inr f ↦ apart_other c e x (mate_of x) y (mate_of y) (has_ends c x (mate_of x) jc) (has_ends e y (mate_of y) je) f l r n0 n1
    ]
  ]
    where
      tx : mate_of (mate_of x) ≡ x
      tx = other_twice (ks ++ ss) once x

      ty : mate_of (mate_of y) ≡ y
      ty = other_twice (ks ++ ss) once y

      n0 : mate_of y ≢ x
      n0 q = let f : y ≡ mate_of x = sym ty ∙ ap mate_of q in omega (arith, f, r)

      n1 : mate_of y ≢ mate_of x
      n1 q = let f : y ≡ x = sym ty ∙ (ap mate_of q ∙ tx) in omega (arith, f, l)

      same : (e : Chord) → Joins e x (mate_of x) → Joins e y (mate_of y) → ⊥
      same e (inl (a, b)) (inl (a', b')) = omega (arith, a, a', l)
      same e (inl (a, b)) (inr (a', b')) = omega (arith, b, a', r)
      same e (inr (a, b)) (inl (a', b')) = omega (arith, b, a', r)
      same e (inr (a, b)) (inr (a', b')) = omega (arith, a, a', l)

  uncrossed : (x y : ℕ) → is_end ks x ≡ is_end ks y → x < y → y < mate_of x → (x < mate_of y) × (mate_of y < mate_of x)
  uncrossed x y e l r = go (which_kind x) (which_kind y)
    where
      clash : (a b : ℕ) → ends_at ks a ≢ 0 → ends_at ks b ≡ 0 → is_end ks a ≡ is_end ks b → ⊥
      clash a b n z q = true≢false (sym (end_is ks a n) ∙ (q ∙ no_end_is ks b z))

      go : Kind x → Kind y → (x < mate_of y) × (mate_of y < mate_of x)
      go (idle z q) k = absurd (omega (arith, q, l, r))
      go k (idle z q) = (omega (arith, q, l), omega (arith, q, r))
      go (of_curve n) (of_curve m) = let (c, mc, jc) = curve_here x n in let (f, mf, jf) = curve_here y m in of_list ks ks_apart x y c f mc mf jc jf l r
      go (of_strand z n) (of_strand w m) = let (c, mc, jc) = strand_here x n in let (f, mf, jf) = strand_here y m in of_list ss ss_apart x y c f mc mf jc jf l r
      go (of_curve n) (of_strand w m) = absurd (clash x y n w e)
      go (of_strand z n) (of_curve m) = absurd (clash y x m z (sym e))

  -- they are of two kinds
  pub two_kinds : TwoKinds size (is_end ks) (other_end (ks ++ ss))
  two_kinds = record {
    stays = stays;
    twice = λ x l. other_twice (ks ++ ss) once x;
    moves = λ x l s. moves x s;
    kind = λ x l. same_kind x;
    uncrossed = λ x y lx ly e l r. uncrossed x y e l r;
  }
