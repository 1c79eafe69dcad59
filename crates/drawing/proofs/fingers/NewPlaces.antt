-- A drawing after a finger: its strands, and how many points each side has.
use Rattle.std.proofs.Common.{◌≡◌, ℕ, ◌+◌, ◌-◌, ◌*◌, ◌<◌, ◌≤◌, cond, eqb, List, [], ◌∷◌, ◌++◌, map, length, get_or, take, drop, refl, sym, ◌∙◌, ap, subst, arith, zero-add, inl, inr, ◌≢◌}
use Rattle.std.specs.List.{sum_by, enumerate_from}
use Rattle.std.proofs.lemmas.Bool.{cases_eq, eq-eqb, ne_eqb}
use Rattle.std.proofs.lemmas.List.{length-map, get_or-map, take-append-drop}
use Rattle.std.proofs.lemmas.List.Sums.{sum_by-cons, sum_by-append}
use Rattle.std.proofs.lemmas.List.FromFn.{length-enumerate_from, get_or-enumerate_from}
use Rattle.obd_base.specs.Lists.{below}
use Rattle.obd_base.specs.declared.points.Exit.{Exit}
use Rattle.obd_base.proofs.lists.Below.{bit, mem_below}
use Rattle.obd_base.proofs.lists.Sums.{sum_same, sum_add, sum_map, sum_rows}
use Rattle.page_surface.specs.Drawing.{Drawing, IsEmbedded, all_exits, exit, points_on, strand_exits}
use Rattle.page_surface.specs.Polygon.{arc_count, partner}
use Rattle.page_surface.proofs.Partners.{points_partner}
use Rattle.drawing.specs.declared.finger.Finger.{Finger}
use Rattle.drawing.specs.Fingers.{InRange, carried, with_letters}
use Rattle.obd_base.proofs.lists.Maps.{sum_one}

module _ (d : Drawing) (ok : IsEmbedded d) (f : Finger) (o : ℕ) (small : o ≤ 1) (r : InRange d f) where
  -- the drawing with the two letters
  abbrev pub new : Drawing
  new = with_letters d f o

  -- the partner of the finger's side
  abbrev pub far_side : ℕ
  far_side = partner d.polygon f.side

  -- the segment that is glued to the finger's
  abbrev pub far_segment : ℕ
  far_segment = points_on d f.side - f.segment

  -- the two new exits
  abbrev pub way_out : Exit
  way_out = exit f.side (f.segment + o)

  -- and the second one
  abbrev pub way_back : Exit
  way_back = exit far_side (far_segment + o)

  -- the two put into a strand
  abbrev pub put_in : List Exit → List Exit
  put_in old = take f.chord old ++ (way_out ∷ way_back ∷ drop f.chord old)

  -- how many strands there are
  abbrev n : ℕ
  n = arc_count d.polygon

  -- the exits of a strand
  pub strand_new : (i : ℕ) → i < arc_count d.polygon
      → strand_exits new i ≡ cond (eqb i f.strand) (put_in (map (carried d f) (strand_exits d i))) (map (carried d f) (strand_exits d i))
  strand_new i l =
      let g : ℕ × List Exit → List Exit = λ s. let old = map (carried d f) s.1 in cond (eqb s.0 f.strand) (put_in old) old in
      let len : i < length d.strands = omega (arith, l, ok.strand_count) in
      let one : get_or new.strands i [] ≡ g (get_or (enumerate_from 0 d.strands) i (0, [])) = get_or-map g (enumerate_from 0 d.strands) i (0, []) [] (omega (arith, len, length-enumerate_from 0 d.strands)) in
      let two : get_or (enumerate_from 0 d.strands) i (0, []) ≡ (0 + i, get_or d.strands i []) = get_or-enumerate_from 0 d.strands i (0, []) len in
      one ∙ (ap g two ∙ ap (λ q. g (q, get_or d.strands i [])) (zero-add i))

  -- of another strand
  pub strand_other : (i : ℕ) → i < arc_count d.polygon → i ≢ f.strand → strand_exits new i ≡ map (carried d f) (strand_exits d i)
  strand_other i l ne = let z : cond (eqb i f.strand) (put_in (map (carried d f) (strand_exits d i))) (map (carried d f) (strand_exits d i)) ≡ map (carried d f) (strand_exits d i) = rw (ne_eqb i f.strand ne) refl in strand_new i l ∙ z

  -- of the finger's strand
  pub strand_own : strand_exits new f.strand ≡ put_in (map (carried d f) (strand_exits d f.strand))
  strand_own =
      let i = f.strand in
      let z : cond (eqb i f.strand) (put_in (map (carried d f) (strand_exits d i))) (map (carried d f) (strand_exits d i)) ≡ put_in (map (carried d f) (strand_exits d i)) = rw (eq-eqb i f.strand refl) refl in
      strand_new i r.strand ∙ z

  -- there are as many strands as arcs
  pub count_new : length new.strands ≡ arc_count d.polygon
  count_new = length-map (enumerate_from 0 d.strands) _ ∙ (length-enumerate_from 0 d.strands ∙ ok.strand_count)

  -- what the two new exits add to a sum
  put_sum : (g : Exit → ℕ) (xs : List Exit) → sum_by g (put_in xs) ≡ sum_by g xs + (g way_out + g way_back)
  put_sum g xs =
      let a = sum_by-append g (take f.chord xs) (way_out ∷ way_back ∷ drop f.chord xs) in
      let b = sum_by-append g (take f.chord xs) (drop f.chord xs) in
      let c = ap (sum_by g) (take-append-drop f.chord xs) in
      omega (arith, a, b, c, sum_by-cons g way_out (way_back ∷ drop f.chord xs), sum_by-cons g way_back (drop f.chord xs))

  -- a sum over all exits
  pub sum_new : (g : Exit → ℕ) → sum_by g (all_exits new) ≡ sum_by (λ x. g (carried d f x)) (all_exits d) + (g way_out + g way_back)
  sum_new g =
      let h : Exit → ℕ = λ x. g (carried d f x) in
      let more : ℕ → ℕ = λ i. cond (eqb i f.strand) (g way_out + g way_back) 0 in
      let one = sum_rows g new.strands n count_new in
      let two = sum_same (λ i. sum_by g (strand_exits new i)) (λ i. sum_by h (strand_exits d i) + more i) (below n) (λ i m.
      let l = mem_below n i m in
      elim (cases_eq i f.strand) [
        | inl e ↦ (let a : more i ≡ g way_out + g way_back = rw (eq-eqb i f.strand e) refl in
            let b : strand_exits new i ≡ put_in (map (carried d f) (strand_exits d i)) = subst (λ w. strand_exits new w ≡ put_in (map (carried d f) (strand_exits d w))) (sym e) strand_own in
            omega (arith, a, ap (sum_by g) b, put_sum g (map (carried d f) (strand_exits d i)), sum_map g (carried d f) (strand_exits d i)))
        | inr ne ↦ (let a : more i ≡ 0 = rw (ne_eqb i f.strand ne) refl in
            omega (arith, a, ap (sum_by g) (strand_other i l ne), sum_map g (carried d f) (strand_exits d i)))
      ]) in
      let three = sum_add (λ i. sum_by h (strand_exits d i)) more (below n) in
      let four = sum_rows h d.strands n ok.strand_count in
      let five : more f.strand ≡ g way_out + g way_back = rw (eq-eqb f.strand f.strand refl) refl in
      let pick = sum_one more f.strand n r.strand (λ i l ne. rw (ne_eqb i f.strand ne) refl) in
      omega (arith, one, two, three, four, pick, five)

  -- the partner is another side
  pub sides_apart : far_side ≢ f.side
  sides_apart q = ok.polygon.pairs.moves f.side r.side q

  -- whose partner is the finger's side
  pub partner_back : partner d.polygon far_side ≡ f.side
  partner_back = ok.polygon.pairs.twice f.side

  -- two points more on the finger's side, and on its partner
  pub points_new : (l : ℕ) → points_on new l ≡ points_on d l + (2 * bit (eqb f.side l) + 2 * bit (eqb far_side l))
  points_new l =
      let g : Exit → ℕ = λ x. bit (eqb x.side l) + bit (eqb (partner d.polygon x.side) l) in
      let a = sum_add (λ x. bit (eqb x.side l)) (λ x. bit (eqb (partner d.polygon x.side) l)) (all_exits d) in
      let b = sum_add (λ x. bit (eqb x.side l)) (λ x. bit (eqb (partner d.polygon x.side) l)) (all_exits new) in
      let c = sum_new g in
      let out : g way_out ≡ bit (eqb f.side l) + bit (eqb far_side l) = refl in
      let back : g way_back ≡ bit (eqb far_side l) + bit (eqb f.side l) = ap (λ x. bit (eqb far_side l) + bit (eqb x l)) partner_back in
      omega (arith, a, b, c, out, back)

  -- the finger's segment, and the one glued to it, are there
  pub far_in : far_segment ≤ points_on d far_side
  far_in = omega (arith, points_partner d ok.polygon f.side)

  -- two points more on the finger's side
  pub points_near : points_on new f.side ≡ points_on d f.side + 2
  points_near =
      let a : bit (eqb f.side f.side) ≡ 1 = rw (eq-eqb f.side f.side refl) refl in
      let b : bit (eqb far_side f.side) ≡ 0 = rw (ne_eqb far_side f.side sides_apart) refl in
      omega (arith, points_new f.side, a, b)

  -- two more on its partner
  pub points_far : points_on new far_side ≡ points_on d far_side + 2
  points_far =
      let a : bit (eqb f.side far_side) ≡ 0 = rw (ne_eqb f.side far_side (λ q. sides_apart (sym q))) refl in
      let b : bit (eqb far_side far_side) ≡ 1 = rw (eq-eqb far_side far_side refl) refl in
      omega (arith, points_new far_side, a, b)

  -- as many on each other side
  pub points_else : (l : ℕ) → l ≢ f.side → l ≢ far_side → points_on new l ≡ points_on d l
  points_else l p q =
      let a : bit (eqb f.side l) ≡ 0 = rw (ne_eqb f.side l (λ z. p (sym z))) refl in
      let b : bit (eqb far_side l) ≡ 0 = rw (ne_eqb far_side l (λ z. q (sym z))) refl in
      omega (arith, points_new l, a, b)
