-- A drawing without a turn: its strands, its points, and that the exits that are kept stand at none of the turn's places.
use Rattle.std.proofs.Common.{◌≡◌, ℕ, suc, ◌+◌, ◌-◌, ◌*◌, ◌<◌, ◌≤◌, cond, eqb, ◌&&◌, List, [], ◌∷◌, ◌++◌, map, length, get_or, refl, sym, ◌∙◌, ap, subst, arith, zero-add, ◌⊎◌, inl, inr, ◌≢◌}
use Rattle.std.specs.List.{sum_by, enumerate_from}
use Rattle.std.proofs.lemmas.Bool.{cases_eq, eq-eqb, ne_eqb}
use Rattle.std.proofs.lemmas.List.{length-map, get_or-map}
use Rattle.std.proofs.lemmas.List.Sums.{sum_by-cons, sum_by-append}
use Rattle.std.proofs.lemmas.List.FromFn.{length-enumerate_from, get_or-enumerate_from}
use Rattle.obd_base.proofs.lists.Below.{bit, mem_below, below_mem}
use Rattle.obd_base.proofs.lists.Members.{mem_left, mem_right, mem_append}
use Rattle.obd_base.proofs.lists.Sums.{sum_same, sum_add, sum_map, sum_rows, member_adds}
use Rattle.obd_base.specs.Lists.{below, Mem}
use Rattle.obd_base.specs.declared.points.Exit.{Exit}
use Rattle.page_surface.specs.Drawing.{Drawing, points_on, all_exits, strand_exits, stands_at, IsEmbedded}
use Rattle.page_surface.specs.Polygon.{partner, sides, arc_count}
use Rattle.drawing.specs.Turns.{IsTurn, without_turn, lowered, turn_place, far_place}
use Rattle.drawing.proofs.Ends.{place_in, side_in, same_count}
use Rattle.obd_base.proofs.lists.Maps.{sum_one}
use Rattle.drawing.proofs.Lists.{mem_row}

-- a sum with two neighbours apart
sum_split : (f : Exit → ℕ) (us : List Exit) (u v : Exit) (vs : List Exit) → sum_by f (us ++ (u ∷ v ∷ vs)) ≡ sum_by f (us ++ vs) + (f u + f v)
sum_split f us u v vs = omega (arith, sum_by-append f us (u ∷ v ∷ vs), sum_by-append f us vs, sum_by-cons f u (v ∷ vs), sum_by-cons f v vs)

module _ (d : Drawing) (ok : IsEmbedded d) (i : ℕ) (us : List Exit) (u v : Exit) (vs : List Exit) (turn : IsTurn d i us u v vs) where
  -- the drawing without the turn
  abbrev pub new : Drawing
  new = without_turn d i us u v vs

  -- an exit that is kept, in that drawing
  abbrev pub low : Exit → Exit
  low = lowered d u v

  -- how many strands there are
  abbrev n : ℕ
  n = arc_count d.polygon

  -- the exits of a strand that are kept
  abbrev pub row : ℕ → List Exit
  row j = cond (eqb j i) (us ++ vs) (strand_exits d j)

  -- the exits of a strand without the turn
  pub strand_new : (j : ℕ) → j < arc_count d.polygon → strand_exits new j ≡ map low (row j)
  strand_new j l =
      let f : ℕ × List Exit → List Exit = λ s. map low (cond (eqb s.0 i) (us ++ vs) s.1) in
      let len : j < length d.strands = omega (arith, l, ok.strand_count) in
      let one : get_or new.strands j [] ≡ f (get_or (enumerate_from 0 d.strands) j (0, [])) = get_or-map f (enumerate_from 0 d.strands) j (0, []) [] (omega (arith, len, length-enumerate_from 0 d.strands)) in
      let two : get_or (enumerate_from 0 d.strands) j (0, []) ≡ (0 + j, get_or d.strands j []) = get_or-enumerate_from 0 d.strands j (0, []) len in
      one ∙ (ap f two ∙ ap (λ q. f (q, get_or d.strands j [])) (zero-add j))

  -- there are as many strands as arcs
  pub count_new : length new.strands ≡ arc_count d.polygon
  count_new = length-map (enumerate_from 0 d.strands) _ ∙ (length-enumerate_from 0 d.strands ∙ ok.strand_count)

  -- of the strand of the turn those before and after it are kept
  pub row_there : row i ≡ us ++ vs
  row_there = rw (eq-eqb i i refl) refl

  -- what is kept was there
  pub row_kept : (j : ℕ) (x : Exit) → Mem x (row j) → Mem x (strand_exits d j)
  row_kept j x m = elim (cases_eq j i) [
    | inl e ↦
        (let k : Mem x (us ++ vs) = subst (λ w. Mem x w) (let z : row j ≡ us ++ vs = rw (eq-eqb j i e) refl in z) m in
        subst (λ w. Mem x w) (sym (ap (strand_exits d) e ∙ turn.splits)) (elim (mem_append x us vs k) [ inl a ↦ mem_left x us (u ∷ v ∷ vs) a | inr b ↦ mem_right x us (u ∷ v ∷ vs) (inr (inr b)) ]))
    | inr ne ↦ subst (λ w. Mem x w) (let z : row j ≡ strand_exits d j = rw (ne_eqb j i ne) refl in z) m
  ]

  -- a sum over all exits, with the two of the turn apart
  pub sum_old : (f : Exit → ℕ) → sum_by f (all_exits d) ≡ sum_by (λ j. sum_by f (row j)) (below (arc_count d.polygon)) + (f u + f v)
  sum_old f =
      let one = sum_rows f d.strands n ok.strand_count in
      let two = sum_same (λ j. sum_by f (strand_exits d j)) (λ j. sum_by f (row j) + cond {A = ℕ} (eqb j i) (f u + f v) 0) (below n) (λ j m. elim (cases_eq j i) [
        | inl e ↦ (let a : row j ≡ us ++ vs = rw (eq-eqb j i e) refl in
            let b : cond {A = ℕ} (eqb j i) (f u + f v) 0 ≡ f u + f v = rw (eq-eqb j i e) refl in
            omega (arith, ap (sum_by f) (ap (strand_exits d) e ∙ turn.splits), sum_split f us u v vs, ap (sum_by f) a, b))
        | inr ne ↦ (let a : row j ≡ strand_exits d j = rw (ne_eqb j i ne) refl in
            let b : cond {A = ℕ} (eqb j i) (f u + f v) 0 ≡ 0 = rw (ne_eqb j i ne) refl in
            omega (arith, ap (sum_by f) a, b))
      ]) in
      let three = sum_add (λ j. sum_by f (row j)) (λ j. cond {A = ℕ} (eqb j i) (f u + f v) 0) (below n) in
      let four : cond {A = ℕ} (eqb i i) (f u + f v) 0 ≡ f u + f v = rw (eq-eqb i i refl) refl in
      let pick = sum_one (λ j. cond {A = ℕ} (eqb j i) (f u + f v) 0) i n turn.arc (λ j l ne. rw (ne_eqb j i ne) refl) in
      omega (arith, one, two, three, pick, four)

  -- a sum over all exits of the new drawing, strand by strand
  pub sum_new : (f : Exit → ℕ) → sum_by f (all_exits new) ≡ sum_by (λ j. sum_by (λ x. f (low x)) (row j)) (below (arc_count d.polygon))
  sum_new f =
      sym (sum_rows f new.strands n count_new)
      ∙ sum_same (λ j. sum_by f (strand_exits new j)) (λ j. sum_by (λ x. f (low x)) (row j)) (below n) (λ j m. ap (sum_by f) (strand_new j (mem_below n j m)) ∙ sum_map f low (row j))

  -- a sum over all exits of the new drawing
  pub sum_both : (f g : Exit → ℕ) → ((j : ℕ) (x : Exit) → j < arc_count d.polygon → Mem x (row j) → g (low x) ≡ f x) → sum_by g (all_exits new) + (f u + f v) ≡ sum_by f (all_exits d)
  sum_both f g same =
      let a = sum_new g in
      let b = sum_same (λ j. sum_by (λ x. g (low x)) (row j)) (λ j. sum_by f (row j)) (below n) (λ j m. sum_same (λ x. g (low x)) f (row j) (λ x k. same j x (mem_below n j m) k)) in
      omega (arith, a, b, sum_old f)

  -- the side that the turn leaves through
  abbrev pub k : ℕ
  k = u.side

  -- its partner
  abbrev pub e : ℕ
  e = partner d.polygon u.side

  -- the lesser place of the turn on the side
  abbrev pub s : ℕ
  s = turn_place d u v

  -- and on the partner
  abbrev pub t : ℕ
  t = far_place d u v

  -- the turn goes out by an exit
  pub u_in : Mem u (all_exits d)
  u_in = mem_row d.strands i u (subst (λ es. Mem u es) (sym turn.splits) (mem_right u us (u ∷ v ∷ vs) (inl refl)))

  -- and comes back by an exit
  pub v_in : Mem v (all_exits d)
  v_in = mem_row d.strands i v (subst (λ es. Mem v es) (sym turn.splits) (mem_right v us (u ∷ v ∷ vs) (inr (inl refl))))

  -- it leaves through a side
  pub k_in : k < sides d.polygon
  k_in = side_in d ok u u_in

  -- whose partner is a side
  pub e_in : e < sides d.polygon
  e_in = ok.polygon.pairs.in_range k k_in

  -- and another one
  pub k_and_e : e ≢ k
  k_and_e q = ok.polygon.pairs.moves k k_in q

  -- with as many points
  pub far_count : points_on d e ≡ points_on d k
  far_count = same_count d ok k

  -- the place of the way out
  pub u_place : u.place < points_on d k
  u_place = place_in d ok u u_in

  -- and of the way back
  pub v_place : v.place < points_on d k
  v_place = let w : points_on d v.side ≡ points_on d k = ap (points_on d) turn.turns.returns ∙ far_count in omega (arith, w, place_in d ok v v_in)

  -- the two places on each side
  pub places : ((u.place ≡ suc s) × (v.place ≡ suc t)) ⊎ ((u.place ≡ s) × (v.place ≡ t))
  places = elim turn.turns.neighbours [
    | inl q ↦ inl (omega (arith, u_place, v_place, q), omega (arith, u_place, v_place, q))
    | inr q ↦ inr (omega (arith, u_place, v_place, q), omega (arith, u_place, v_place, q))
  ]

  -- the places of the turn on the two sides are the same points
  pub places_meet : s + t + 2 ≡ points_on d k
  places_meet = elim turn.turns.neighbours [ inl q ↦ omega (arith, u_place, v_place, q) | inr q ↦ omega (arith, u_place, v_place, q) ]

  -- two points fewer on the two sides of the turn
  pub points_new : (l : ℕ) → points_on d l ≡ points_on new l + (2 * bit (eqb k l) + 2 * bit (eqb e l))
  points_new l =
      let f : Exit → ℕ = λ x. bit (eqb x.side l) + bit (eqb (partner d.polygon x.side) l) in
      let a = sum_add (λ x. bit (eqb x.side l)) (λ x. bit (eqb (partner d.polygon x.side) l)) (all_exits d) in
      let b = sum_add (λ x. bit (eqb x.side l)) (λ x. bit (eqb (partner d.polygon x.side) l)) (all_exits new) in
      let c = sum_both f f (λ j x lj m. refl) in
      let fu : f u ≡ bit (eqb k l) + bit (eqb e l) = refl in
      let fv : f v ≡ bit (eqb e l) + bit (eqb k l) = ap (λ x. bit (eqb x l) + bit (eqb (partner d.polygon x) l)) turn.turns.returns ∙ ap (λ x. bit (eqb e l) + bit (eqb x l)) (ok.polygon.pairs.twice k) in
      omega (arith, a, b, c, fu, fv)

  -- what an exit that is kept and the two of the turn add to a sum
  row_adds : (f : Exit → ℕ) (j : ℕ) (x : Exit) → j < n → Mem x (row j) → f x + (f u + f v) ≤ sum_by f (all_exits d)
  row_adds f j x l m = omega (arith, sum_old f, member_adds f x (row j) m, member_adds (λ j. sum_by f (row j)) j (below n) (below_mem n j l))

  -- an exit that is kept does not stand where an exit of the turn does
  kept_apart : (j : ℕ) (x : Exit) (l q : ℕ) → j < n → Mem x (row j) → l < sides d.polygon → q < points_on d l → 1 ≤ stands_at d u l q + stands_at d v l q → x.side ≡ l → x.place ≢ q
  kept_apart j x l q lj m ll lq h es ep =
      let one = ok.places l ll q lq in
      let r = row_adds (λ y. stands_at d y l q) j x lj m in
      let z : cond {A = ℕ} (eqb x.side l && eqb x.place q) 1 0 ≡ 1 = rw (eq-eqb x.side l es, eq-eqb x.place q ep) refl in
      absurd (omega (arith, one, r, z, h))

  -- an exit stands at its place
  out_stands : (y : Exit) → 1 ≤ stands_at d y y.side y.place
  out_stands y = let z : cond {A = ℕ} (eqb y.side y.side && eqb y.place y.place) 1 0 ≡ 1 = rw (eq-eqb y.side y.side refl, eq-eqb y.place y.place refl) refl in omega arith

  -- and at the place of its entry
  in_stands : (y : Exit) (l q : ℕ) → partner d.polygon y.side ≡ l → suc (y.place + q) ≡ points_on d l → 1 ≤ stands_at d y l q
  in_stands y l q a b = let z : cond {A = ℕ} (eqb (partner d.polygon y.side) l && eqb (suc (y.place + q)) (points_on d l)) 1 0 ≡ 1 = rw (eq-eqb (partner d.polygon y.side) l a, eq-eqb (suc (y.place + q)) (points_on d l) b) refl in omega arith

  -- on the side the turn leaves through
  pub kept_near : (j : ℕ) (x : Exit) → j < arc_count d.polygon → Mem x (row j) → x.side ≡ k → (x.place ≢ s) × (x.place ≢ suc s)
  kept_near j x lj m es =
      let a = kept_apart j x k u.place lj m k_in u_place (omega (arith, out_stands u)) es in
      let vp : partner d.polygon v.side ≡ k = ap (partner d.polygon) turn.turns.returns ∙ ok.polygon.pairs.twice k in
      let b = kept_apart j x k (points_on d k - 1 - v.place) lj m k_in (omega (arith, v_place)) (omega (arith, in_stands v k (points_on d k - 1 - v.place) vp (omega (arith, v_place)))) es in
      let g = places_meet in
      elim places [
        | inl w ↦ (let c : points_on d k - 1 - v.place ≡ s = omega (arith, w, g) in ((λ z. b (z ∙ sym c)), (λ z. a (z ∙ sym w.0))))
        | inr w ↦ (let c : points_on d k - 1 - v.place ≡ suc s = omega (arith, w, g) in ((λ z. a (z ∙ sym w.0)), (λ z. b (z ∙ sym c))))
      ]

  -- on its partner
  pub kept_far : (j : ℕ) (x : Exit) → j < arc_count d.polygon → Mem x (row j) → x.side ≡ e → (x.place ≢ t) × (x.place ≢ suc t)
  kept_far j x lj m es =
      let vs : 1 ≤ stands_at d v e v.place = subst (λ y. 1 ≤ stands_at d v y v.place) turn.turns.returns (out_stands v) in
      let a = kept_apart j x e v.place lj m e_in (omega (arith, v_place, far_count)) (omega (arith, vs)) es in
      let b = kept_apart j x e (points_on d k - 1 - u.place) lj m e_in (omega (arith, u_place, far_count)) (omega (arith, in_stands u e (points_on d k - 1 - u.place) refl (omega (arith, u_place, far_count)))) es in
      let g = places_meet in
      elim places [
        | inl w ↦ (let c : points_on d k - 1 - u.place ≡ t = omega (arith, w, g) in ((λ z. b (z ∙ sym c)), (λ z. a (z ∙ sym w.1))))
        | inr w ↦ (let c : points_on d k - 1 - u.place ≡ suc t = omega (arith, w, g) in ((λ z. a (z ∙ sym w.1)), (λ z. b (z ∙ sym c))))
      ]
