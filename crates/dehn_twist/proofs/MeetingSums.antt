-- The meetings are numbered from 0: a sum over the meetings of all strands' chords is one over all numbers below how many there are.
use Rattle.std.proofs.Common.{◌≡◌, ◌≢◌, ℕ, zero, suc, ◌+◌, ◌-◌, ◌<◌, ◌≤◌, Bool, true, false, cond, not, ◌&&◌, List, [], ◌∷◌, ◌++◌, map, reverse, length, refl, sym, ◌∙◌, ap, ap₂, inl, inr, arith}
use Rattle.std.specs.List.{count_by, filter, sum_by}
use Rattle.std.proofs.lemmas.Bool.{cases_lt, true≢false}
use Rattle.std.proofs.lemmas.List.{reverse-append}
use Rattle.std.proofs.lemmas.List.Sums.{sum_by-append, sum_by-cons}
use Rattle.obd_base.specs.Lists.{Mem, below}
use Rattle.obd_base.specs.declared.points.Exit.{Exit}
use Rattle.obd_base.proofs.lists.Below.{bit, count_suc, mem_below}
use Rattle.obd_base.proofs.lists.Members.{mem_right}
use Rattle.obd_base.proofs.lists.Sums.{sum_below_push, sum_same, sum_swap}
use Rattle.page_surface.specs.Drawing.{Chord, Drawing, IsEmbedded, beyond, crosses, differ}
use Rattle.curve_paths.specs.Curves.{IsCurve}
use Rattle.dehn_twist.specs.Surgery.{chord_at, chord_end, chord_start, curve_number, curve_ring, goes_up, inner_end, meeting_count, meeting_number, meetings, meetings_upto, meets_at, merged_chords, merged_curve, met_before}
use Rattle.dehn_twist.proofs.Arranged.{sum_filter}
use Rattle.dehn_twist.proofs.CurveRing.{chord_at_end, chord_at_start, end_in, mate_end, mate_start, ring_sum, start_in}
use Rattle.dehn_twist.proofs.Merged.{ends_within, one_end_each, size}
use Rattle.dehn_twist.proofs.MergedCircle.{at_curve, from_strand, is_curve, mate, mate_from, mate_to, to_strand}
use Rattle.dehn_twist.proofs.Opens.{crossing_after, crossing_before, crossing_count, crossing_sum, inner_open, opens, rank_sum, sum_down}
use Rattle.drawing.proofs.Mates.{crosses_sym}
use Rattle.drawing.proofs.Placed.{ends_at, ends_of}

-- a sum over a list turned round
pub sum_reverse : {X : Type 0} (f : X → ℕ) (xs : List X) → sum_by f (reverse xs) ≡ sum_by f xs
sum_reverse f [] = refl
sum_reverse f (x ∷ xs) =
    ap (sum_by f) (reverse-append (x ∷ []) xs)
    ∙ omega (arith, sum_by-append f (reverse xs) (x ∷ []), sum_by-cons f x [], sum_reverse f xs, sum_by-cons f x xs)

-- a sum over the numbers below a sum
sum_below_add : (f : ℕ → ℕ) (x r : ℕ) → sum_by f (below (x + r)) ≡ sum_by f (below x) + sum_by (λ i. f (x + i)) (below r)
sum_below_add f x zero = let e : x + 0 ≡ x = omega arith in ap (λ z. sum_by f (below z)) e ∙ (let z : sum_by f (below x) ≡ sum_by f (below x) + 0 = omega arith in z)
sum_below_add f x (suc r) =
    let e : x + suc r ≡ suc (x + r) = omega arith in
    ap (λ z. sum_by f (below z)) e ∙ omega (arith, sum_below_push f (x + r), sum_below_add f x r, sum_below_push (λ i. f (x + i)) r)

module _ (d : Drawing) (dok : IsEmbedded d) (c : List Exit) (curve : IsCurve d.polygon c) where
  abbrev ss : List Chord
  ss = merged_chords d c

  abbrev ks : List Chord
  ks = map (merged_curve d c) (below (length c))

  abbrev mate' : ℕ → ℕ
  mate' = mate d dok c curve

  abbrev size' : ℕ
  size' = size d dok c curve

  -- each number is the end of one strand's chord at most
  pub strands_once : (x : ℕ) → ends_at (merged_chords d c) x ≤ 1
  strands_once x = let e : ends_at (ks ++ ss) x ≡ ends_at ks x + ends_at ss x = sum_by-append (λ c. ends_of c x) ks ss in let o = one_end_each d dok c curve x in omega (arith, e, o)

  -- the ends lie on the circle
  pub strands_within : (t : Chord) → Mem t (merged_chords d c) → (t.from < size d dok c curve) × (t.to < size d dok c curve)
  strands_within t m = ends_within d dok c curve t (mem_right t ks ss m)

  -- each end is the other's mate
  pub strands_mates : (t : Chord) → Mem t (merged_chords d c) → (mate d dok c curve t.from ≡ t.to) × (mate d dok c curve t.to ≡ t.from)
  strands_mates t m = (mate_from d dok c curve t m, mate_to d dok c curve t m)

  -- the strands' points that a chord of the curve parts from their mates
  abbrev pub parted : ℕ → ℕ → Bool
  parted a z = opens (size d dok c curve) (merged_chords d c) (mate d dok c curve) strands_once strands_within strands_mates (merged_curve d c a) z

  -- how many chords cross it
  abbrev pub crossings : ℕ → ℕ
  crossings a = count_by (crosses (merged_curve d c a)) (merged_chords d c)

  -- as many as the strands' points that it parts from their mates
  pub crossings_are : (a : ℕ) → crossings a ≡ count_by (parted a) (below (size d dok c curve))
  crossings_are a = crossing_count size' ss mate' strands_once strands_within strands_mates (merged_curve d c a)

  -- with one chord more
  pub upto_suc : (a : ℕ) → meetings_upto d c (suc a) ≡ meetings_upto d c a + crossings a
  upto_suc a = sum_below_push crossings a

  -- more chords, no fewer meetings
  pub upto_more : (a b : ℕ) → a ≤ b → meetings_upto d c a ≤ meetings_upto d c b
  upto_more a zero l = let e : a ≡ 0 = omega (arith, l) in rw e (omega arith)
  upto_more a (suc b) l = elim (cases_lt b a) [
    | inl h ↦ (let e : a ≡ suc b = omega (arith, h, l) in let z : meetings_upto d c a ≡ meetings_upto d c (suc b) = ap (meetings_upto d c) e in omega (arith, z))
    | inr h ↦ (let r = upto_more a b h in omega (arith, r, upto_suc b))
  ]

  -- the place of a chord among those that cross chord a
  abbrev pub place_met : ℕ → Chord → ℕ
  place_met a t = count_by (λ s. met_before (merged_curve d c a) s t) (merged_chords d c)

  -- the same by the inner end
  abbrev pub place_of_end : ℕ → ℕ → ℕ
  place_of_end a x = cond (goes_up (merged_curve d c a)) (count_by (parted a) (below x)) (crossings a - 1 - count_by (parted a) (below x))

  -- the place is told by the inner end
  pub place_met_is : (a : ℕ) (t : Chord) → Mem t (merged_chords d c) → crosses (merged_curve d c a) t ≡ true → place_met a t ≡ place_of_end a (inner_end (merged_curve d c a) t)
  place_met_is a t m h = go (goes_up (merged_curve d c a)) refl
    where
      x : ℕ
      x = inner_end (merged_curve d c a) t

      k : (parted a x ≡ true) × (x < size')
      k = inner_open size' ss mate' strands_once strands_within strands_mates (merged_curve d c a) t m h

      go : (b : Bool) → goes_up (merged_curve d c a) ≡ b → place_met a t ≡ place_of_end a (inner_end (merged_curve d c a) t)
      go true e = rw e (crossing_before size' ss mate' strands_once strands_within strands_mates (merged_curve d c a) x (let l = k.1 in omega (arith, l)))
      go false e =
          let f = crossing_after size' ss mate' strands_once strands_within strands_mates (merged_curve d c a) x k.1 in
          let w : bit (parted a x) ≡ 1 = ap bit k.0 in
          rw e (omega (arith, f, count_suc (parted a) x, w, crossings_are a))

  -- a sum over the chords that cross chord a, by their places
  pub sum_met : (a : ℕ) (g : ℕ → ℕ) → sum_by (λ t. cond (crosses (merged_curve d c a) t) (g (place_met a t)) 0) (merged_chords d c) ≡ sum_by g (below (crossings a))
  sum_met a g =
      sum_same _ (λ t. cond (crosses (merged_curve d c a) t) (g (place_of_end a (inner_end (merged_curve d c a) t))) 0) ss (λ t m. each t m (crosses (merged_curve d c a) t) refl)
      ∙ (crossing_sum size' ss mate' strands_once strands_within strands_mates (merged_curve d c a) (λ x. g (place_of_end a x)) ∙ go (goes_up (merged_curve d c a)) refl)
    where
      each : (t : Chord) → Mem t ss → (b : Bool) → crosses (merged_curve d c a) t ≡ b
          → cond (crosses (merged_curve d c a) t) (g (place_met a t)) 0 ≡ cond (crosses (merged_curve d c a) t) (g (place_of_end a (inner_end (merged_curve d c a) t))) 0
      each t m true e = rw e (ap g (place_met_is a t m e))
      each t m false e = rw e refl

      go : (b : Bool) → goes_up (merged_curve d c a) ≡ b → sum_by (λ z. cond (parted a z) (g (place_of_end a z)) 0) (below size') ≡ sum_by g (below (crossings a))
      go true e = rw e (rank_sum (parted a) g size' ∙ ap (λ z. sum_by g (below z)) (sym (crossings_are a)))
      go false e =
          rw e (rank_sum (parted a) (λ i. g (crossings a - 1 - i)) size'
          ∙ (ap (λ z. sum_by (λ i. g (crossings a - 1 - i)) (below z)) (sym (crossings_are a)) ∙ sum_down g (crossings a)))

  -- a sum over all numbers, chord by chord
  pub sum_numbers : (n : ℕ) (g : ℕ → ℕ) → sum_by (λ a. sum_by (λ i. g (meetings_upto d c a + i)) (below (crossings a))) (below n) ≡ sum_by g (below (meetings_upto d c n))
  sum_numbers zero g = refl
  sum_numbers (suc n) g =
      let e : sum_by g (below (meetings_upto d c (suc n))) ≡ sum_by g (below (meetings_upto d c n + crossings n)) = ap (λ z. sum_by g (below z)) (upto_suc n) in
      omega (
        arith,
        sum_below_push (λ a. sum_by (λ i. g (meetings_upto d c a + i)) (below (crossings a))) n,
        sum_numbers n g,
        e,
        sum_below_add g (meetings_upto d c n) (crossings n),
      )

  -- the two ends of a chord of the curve and of a strand's chord are apart
  ends_apart : (t : Chord) → Mem t (merged_chords d c) → (a : ℕ) → a < length c
      → (t.from ≢ (merged_curve d c a).from) × (t.from ≢ (merged_curve d c a).to) × (t.to ≢ (merged_curve d c a).from) × (t.to ≢ (merged_curve d c a).to)
  ends_apart t m a l =
      let u = at_curve d dok c curve (chord_start d.polygon c a) (start_in d.polygon dok.polygon.pairs c curve a l) in
      let v = at_curve d dok c curve (chord_end c a) (end_in d.polygon dok.polygon.pairs c curve a l) in
      let f = from_strand d dok c curve t m in
      let g = to_strand d dok c curve t m in (
        λ e. true≢false (sym u ∙ (ap (is_curve d dok c curve) (sym e) ∙ f)),
        λ e. true≢false (sym v ∙ (ap (is_curve d dok c curve) (sym e) ∙ f)),
        λ e. true≢false (sym u ∙ (ap (is_curve d dok c curve) (sym e) ∙ g)),
        λ e. true≢false (sym v ∙ (ap (is_curve d dok c curve) (sym e) ∙ g)),
      )

  -- it is all one which of the two comes first
  pub crosses_either : (t : Chord) → Mem t (merged_chords d c) → (a : ℕ) → a < length c → crosses t (merged_curve d c a) ≡ crosses (merged_curve d c a) t
  crosses_either t m a l = crosses_sym t (merged_curve d c a) (ends_apart t m a l)

  -- a sum over the meetings of a strand's chord is one over the chords of the curve that cross it
  pub sum_meetings : (t : Chord) → Mem t (merged_chords d c) → (g : ℕ → ℕ)
      → sum_by (λ q. g (chord_at d.polygon c q)) (meetings d c t) ≡ sum_by (λ a. cond (crosses (merged_curve d c a) t) (g a) 0) (below (length c))
  sum_meetings t m g =
      turn (goes_up t) (filter (meets_at d c t) (curve_ring d.polygon c))
      ∙ (sum_filter (meets_at d c t) f (curve_ring d.polygon c)
      ∙ (ring_sum d.polygon dok.polygon.pairs c curve (λ q. cond (meets_at d c t q) (f q) 0)
      ∙ sum_same _ _ (below (length c)) (λ a k. let l = mem_below (length c) a k in each a l ∙ ap (λ z. cond z (g a) 0) (crosses_either t m a l))))
    where
      f : Exit → ℕ
      f q = g (chord_at d.polygon c q)

      turn : (b : Bool) (xs : List Exit) → sum_by f (cond b xs (reverse xs)) ≡ sum_by f xs
      turn true xs = refl
      turn false xs = sum_reverse f xs

      split : (u v : Bool) (x : ℕ) → cond (v && not u) x 0 + cond (u && not v) x 0 ≡ cond (differ u v) x 0
      split true true x = refl
      split true false x = omega arith
      split false true x = omega arith
      split false false x = refl

      each : (a : ℕ) → a < length c
          → cond (meets_at d c t (chord_end c a)) (f (chord_end c a)) 0 + cond (meets_at d c t (chord_start d.polygon c a)) (f (chord_start d.polygon c a)) 0
          ≡ cond (crosses t (merged_curve d c a)) (g a) 0
      each a l =
          let v = mate_end d.polygon dok.polygon.pairs c curve a l in
          let u = mate_start d.polygon dok.polygon.pairs c curve a l in
          let x = chord_at_end d.polygon dok.polygon.pairs c curve a l in
          let y = chord_at_start d.polygon dok.polygon.pairs c curve a l in
          ap₂ (λ z k. cond z (g k) 0 + cond (meets_at d c t (chord_start d.polygon c a)) (f (chord_start d.polygon c a)) 0)
          (ap (λ z. beyond t (curve_number d c (chord_end c a)) && not (beyond t (curve_number d c z))) v) x
          ∙ (ap₂ (λ z k. cond (beyond t (curve_number d c (chord_end c a)) && not (beyond t (curve_number d c (chord_start d.polygon c a)))) (g a) 0 + cond z (g k) 0)
          (ap (λ z. beyond t (curve_number d c (chord_start d.polygon c a)) && not (beyond t (curve_number d c z))) u) y
          ∙ split (beyond t (curve_number d c (chord_start d.polygon c a))) (beyond t (curve_number d c (chord_end c a))) (g a))

  -- a sum over the meetings of all strands' chords, by their numbers
  pub sum_all_meetings : (g : ℕ → ℕ)
      → sum_by (λ t. sum_by (λ q. g (meeting_number d c (chord_at d.polygon c q) t)) (meetings d c t)) (merged_chords d c) ≡ sum_by g (below (meeting_count d c))
  sum_all_meetings g =
      sum_same _ (λ t. sum_by (λ a. cond (crosses (merged_curve d c a) t) (g (meeting_number d c a t)) 0) (below (length c))) ss (λ t m. sum_meetings t m (λ a. g (meeting_number d c a t)))
      ∙ (sum_swap (λ t a. cond (crosses (merged_curve d c a) t) (g (meeting_number d c a t)) 0) ss (below (length c))
      ∙ (sum_same _ (λ a. sum_by (λ i. g (meetings_upto d c a + i)) (below (crossings a))) (below (length c)) (λ a k. sum_met a (λ i. g (meetings_upto d c a + i)))
      ∙ sum_numbers (length c) g))
