-- The identity drawing of a polygon is embedded, and has one point on each side.
use Rattle.std.proofs.Common.{◌≡◌, ℕ, suc, ◌+◌, ◌<◌, ◌≤◌, ◌^◌, Bool, true, false, eqb, ltb, not, ◌&&◌, List, [], ◌∷◌, map, length, refl, sym, ◌∙◌, ap, subst, arith, zero-add, ◌⊎◌, inl, inr, ◌≢◌}
use Rattle.std.specs.List.{sum_by, list_all}
use Rattle.std.proofs.lemmas.Bool.{eq-eqb, lt-ltb, and_from}
use Rattle.std.proofs.lemmas.List.Sums.{sum_by-cons}
use Rattle.std.proofs.lemmas.List.FromFn.{length-map-range_with_len, get_or-map-range_with_len}
use Rattle.obd_base.specs.Lists.{below, Mem}
use Rattle.obd_base.specs.declared.points.Exit.{Exit}
use Rattle.obd_base.proofs.lists.Below.{bit, mem_below}
use Rattle.obd_base.proofs.lists.Members.{mem_map}
use Rattle.obd_base.proofs.lists.Sums.{sum_same, sum_add, sum_flat, sum_map, sum_ones, count_below, member_adds}
use Rattle.page_surface.specs.Polygon.{Polygon, IsPolygon, partner, sides, arc, arc_count, first_side, second_side}
use Rattle.page_surface.specs.Drawing.{Drawing, exit, end_of, offset, points_on, all_exits, stands_at, strand_exits, strand_chords, cut_strand, Chord, chords, beyond, crosses, differ, no_two_cross, identity, IsPlaced, IsEmbedded}
use Rattle.page_surface.proofs.EmbeddedTest.{all_from}
use Rattle.drawing.specs.Layout.{drawn}
use Rattle.drawing.proofs.ChordTree.{beyond-suc}
use Rattle.drawing.proofs.Lists.{flat_mem, length_sum}
use Rattle.drawing.proofs.Mates.{end_here, ends_from, ends_to}
use Rattle.drawing.proofs.Placed.{one_arc, ends_of, ends_at, at_most_one_end-placed}

-- a chord between two numbers that follow one another
abbrev IsShort : Chord → Type 0
IsShort c = (o : ℕ) × (((c.from ≡ suc o) × (c.to ≡ o)) ⊎ ((c.from ≡ o) × (c.to ≡ suc o)))

-- a test doesn't differ from itself
differ_self : (b : Bool) → differ b b ≡ false
differ_self true = refl
differ_self false = refl

-- such chords cross nothing that has no end in common with them
short_uncrossed : (cs : List Chord) → ((c : Chord) → Mem c cs → IsShort c) → ((x : ℕ) → ends_at cs x ≤ 1) → no_two_cross cs ≡ true
short_uncrossed [] short once = refl
short_uncrossed (c ∷ cs) short once =
    and_from (list_all (λ e. not (crosses c e)) cs) (no_two_cross cs)
    (all_from (λ e. not (crosses c e)) cs (λ e m. one e (short e (inr m)) (apart e m)))
    (short_uncrossed cs (λ e m. short e (inr m)) (λ x. omega (arith, sum_by-cons (λ k. ends_of k x) c cs, once x)))
  where
    apart : (e : Chord) → Mem e cs → (c.from ≢ e.from) × (c.to ≢ e.from) × (c.from ≢ e.to) × (c.to ≢ e.to)
    apart e m =
        let a = end_here c e.from (omega (arith, sum_by-cons (λ k. ends_of k e.from) c cs, member_adds (λ k. ends_of k e.from) e cs m, ends_from e, once e.from)) in
        let b = end_here c e.to (omega (arith, sum_by-cons (λ k. ends_of k e.to) c cs, member_adds (λ k. ends_of k e.to) e cs m, ends_to e, once e.to)) in
        (a.0, a.1, b.0, b.1)

    one : (e : Chord) → IsShort e → (c.from ≢ e.from) × (c.to ≢ e.from) × (c.from ≢ e.to) × (c.to ≢ e.to) → not (crosses c e) ≡ true
    one e (o, inl (p, q)) (a, b, f, g) =
        let same : beyond c e.from ≡ beyond c e.to = ap (beyond c) p ∙ (beyond-suc c o (λ z. f (z ∙ sym q)) (λ z. g (z ∙ sym q)) ∙ ap (beyond c) (sym q)) in
        rw same (ap not (differ_self (beyond c e.to)))
    one e (o, inr (p, q)) (a, b, f, g) =
        let same : beyond c e.to ≡ beyond c e.from = ap (beyond c) q ∙ (beyond-suc c o (λ z. a (z ∙ sym p)) (λ z. b (z ∙ sym p)) ∙ ap (beyond c) (sym p)) in
        rw same (ap not (differ_self (beyond c e.from)))

module _ (p : Polygon) (ok : IsPolygon p) where
  -- the identity drawing
  abbrev d : Drawing
  d = identity p

  -- how many arcs
  abbrev n : ℕ
  n = arc_count p

  -- the one exit of a strand
  abbrev single : ℕ → Exit
  single i = exit (second_side p i) 0

  -- a sum over all exits is one over the arcs
  sum_exits : (f : Exit → ℕ) → sum_by f (all_exits d) ≡ sum_by (λ i. f (single i)) (below n)
  sum_exits f =
      sum_flat f (λ s. s) d.strands
      ∙ (sum_map (λ s. sum_by f s) (λ i. single i ∷ []) (below n)
      ∙ sum_same (λ i. sum_by f (single i ∷ [])) (λ i. f (single i)) (below n) (λ i m. omega (arith, sum_by-cons f (single i) [])))

  -- each exit is one of them
  exit_of : (e : Exit) → Mem e (all_exits d) → (i : ℕ) × (i < n) × (e ≡ single i)
  exit_of e m =
      let (s, ms, me) = flat_mem (λ s. s) d.strands e m in
      let (i, mi, q) = mem_map (λ i. single i ∷ []) s (below n) ms in
      let k : Mem e (single i ∷ []) = subst (Mem e) q me in
      (i, mem_below n i mi, elim k [ inl r ↦ r | inr z ↦ absurd z ])

  -- as many exits as arcs
  pub exit_count : length (all_exits d) ≡ n
  exit_count = length_sum (all_exits d) ∙ (sum_exits (λ e. 1) ∙ sum_ones n)

  -- a side is left or entered once
  one_each : (k : ℕ) → k < sides p → sum_by (λ i. bit (eqb (second_side p i) k) + bit (eqb (partner p (second_side p i)) k)) (below n) ≡ 1
  one_each k l =
      let in_range : bit (ltb (arc p k) n) ≡ 1 = ap bit (lt-ltb (arc p k) n (ok.ends k l).arc_in_range) in
      sum_same (λ i. bit (eqb (second_side p i) k) + bit (eqb (partner p (second_side p i)) k)) (λ i. bit (eqb (arc p k) i)) (below n)
      (λ i m. ap (λ s. bit (eqb (second_side p i) k) + bit (eqb s k)) (ok.pairs.twice (first_side p i)) ∙ one_arc p ok k i l (mem_below n i m))
      ∙ (count_below (arc p k) n ∙ in_range)

  -- so it has one point
  pub one_point : (k : ℕ) → k < sides p → points_on (identity p) k ≡ 1
  one_point k l =
      let a = sum_add (λ e. bit (eqb e.side k)) (λ e. bit (eqb (partner p e.side) k)) (all_exits d) in
      let b = sum_exits (λ e. bit (eqb e.side k) + bit (eqb (partner p e.side) k)) in
      omega (arith, a, b, one_each k l)

  -- which stands at place 0
  right_at : (k j : ℕ) → k < sides p → j ≡ 0 → points_on d k ≡ 1 → sum_by (λ e. stands_at d e k j) (all_exits d) ≡ 1
  right_at k j l e m =
      sum_exits (λ e. stands_at d e k j)
      ∙ (sum_same (λ i. stands_at d (single i) k j) (λ i. bit (eqb (second_side p i) k) + bit (eqb (partner p (second_side p i)) k)) (below n) (λ i im.
      let a : eqb 0 j ≡ true = eq-eqb 0 j (sym e) in
      let b : eqb (suc (0 + j)) (points_on d k) ≡ true = eq-eqb (suc (0 + j)) (points_on d k) (omega (arith, e, m)) in
      let c : bit (eqb (second_side p i) k && eqb 0 j) ≡ bit (eqb (second_side p i) k) = and_true (eqb (second_side p i) k) (eqb 0 j) a in
      let f : bit (eqb (partner p (second_side p i)) k && eqb (suc (0 + j)) (points_on d k)) ≡ bit (eqb (partner p (second_side p i)) k)
      = and_true (eqb (partner p (second_side p i)) k) (eqb (suc (0 + j)) (points_on d k)) b in
      omega (arith, c, f))
      ∙ one_each k l)
    where
      and_true : (a b : Bool) → b ≡ true → bit (a && b) ≡ bit a
      and_true true b h = ap bit h
      and_true false b h = refl

  -- places are right
  identity_placed : IsPlaced (identity p)
  identity_placed = record {
    polygon = ok;
    strand_count = length-map-range_with_len (λ i. single i ∷ []) 0 n;
    on_sides = all_from (λ e. ltb e.side (sides p)) (all_exits d) (λ e m.
        let (i, l, q) = exit_of e m in
        ap (λ (x : Exit). ltb x.side (sides p)) q ∙ lt-ltb (second_side p i) (sides p) (ok.pairs.in_range _ (ok.first_in_range i l)));
    places = λ k lk j lj. let m = one_point k lk in right_at k j lk (omega (arith, m, lj)) m;
  }

  -- the exits of a strand are its one exit
  strand_is : (i : ℕ) → i < n → strand_exits d i ≡ single i ∷ []
  strand_is i l = get_or-map-range_with_len (λ i. single i ∷ []) 0 n i i [] l (zero-add i)

  -- each chord goes from an end of a side to the point beside it
  short : (c : Chord) → Mem c (chords d) → IsShort c
  short c m =
      let (i, im, k) = flat_mem (strand_chords d) (below n) c m in
      go i (mem_below n i im) k
    where
      go : (i : ℕ) → i < n → Mem c (strand_chords d i) → IsShort c
      go i l k =
          let f = first_side p i in
          let g = second_side p i in
          let lf = ok.first_in_range i l in
          let lg = ok.pairs.in_range f lf in
          let mf = one_point f lf in
          let mg = one_point g lg in
          let back : partner p g ≡ f = ok.pairs.twice f in
          let o : offset d (partner p g) ≡ offset d f = ap (offset d) back in
          let k' : Mem c (cut_strand d (end_of d g) (single i ∷ []) (end_of d f)) = subst (λ es. Mem c (cut_strand d (end_of d g) es (end_of d f))) (strand_is i l) k in
          elim k' [
            | inl q ↦ (offset d g, inl (ap (λ (k : Chord). k.from) q ∙ omega (arith, mg), ap (λ (k : Chord). k.to) q ∙ omega arith))
            | inr r ↦ elim r [
              | inl q ↦ (offset d f, inr (ap (λ (k : Chord). k.from) q ∙ omega (arith, mg, o), ap (λ (k : Chord). k.to) q ∙ omega (arith, mf)))
              | inr z ↦ absurd z
            ]
          ]

  -- the identity drawing is embedded
  pub identity_embedded : IsEmbedded (identity p)
  identity_embedded = record {
    polygon = ok;
    strand_count = identity_placed.strand_count;
    on_sides = identity_placed.on_sides;
    places = identity_placed.places;
    uncrossed = short_uncrossed (chords d) short (at_most_one_end-placed d identity_placed);
  }

-- a drawing with the strands of the identity drawing, on a copy of its polygon
module _ (p copy : Polygon) (strands : List (List Exit)) (ok : IsPolygon p) (few : sides p ≤ 16) (same : copy ≡ p)
    (is : strands ≡ map (λ i. exit (second_side p i) 0 ∷ []) (below (arc_count p))) where
  -- is the identity drawing
  pub copy_is : drawn copy strands ≡ identity p
  copy_is = rw (same, is) refl

  -- as many strands as arcs
  pub copy_strands : length strands ≡ arc_count copy
  copy_strands = ap (λ (d : Drawing). length d.strands) copy_is ∙ ((identity_embedded p ok).strand_count ∙ ap arc_count (sym same))

  -- exits on sides
  pub copy_on_sides : list_all (λ e. ltb e.side (sides copy)) (all_exits (drawn copy strands)) ≡ true
  copy_on_sides = subst (λ (d : Drawing). list_all (λ e. ltb e.side (sides d.polygon)) (all_exits d) ≡ true) (sym copy_is) (identity_embedded p ok).on_sides

  -- few of them
  pub copy_few : length (all_exits (drawn copy strands)) < 2 ^ 28
  copy_few = let e = ap (λ (d : Drawing). length (all_exits d)) copy_is in omega (arith, e, exit_count p ok, few)

  -- and embedded
  pub copy_embedded : IsEmbedded (drawn copy strands)
  copy_embedded = subst (λ (d : Drawing). IsEmbedded d) (sym copy_is) (identity_embedded p ok)
