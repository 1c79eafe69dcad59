-- The fingers of a burst are those of the closed form: numbers of the drawing before it alone.
use Rattle.std.proofs.Common.{◌≡◌, ℕ, suc, ◌+◌, ◌*◌, ◌<◌, ◌≤◌, cond, eqb, ltb, ◌&&◌, List, [], ◌∷◌, ◌++◌, map, length, refl, sym, ◌∙◌, ap, subst, arith, inl, inr, ◌≢◌}
use Rattle.std.specs.List.{sum_by, count_by}
use Rattle.std.proofs.lemmas.Bool.{cases_eq, eq-eqb, ne_eqb}
use Rattle.std.proofs.lemmas.List.{length-map}
use Rattle.std.proofs.lemmas.List.Sums.{sum_by-cons}
use native.Mathlib.Nat.{add-mul}
use Rattle.page_surface.specs.Polygon.{Polygon, partner, sides, Pairs}
use Rattle.obd_base.specs.declared.points.Exit.{Exit}
use Rattle.page_surface.specs.Drawing.{exit, Drawing, points_on, all_exits, chords}
use Rattle.drawing.specs.Pieces.{distance}
use Rattle.drawing.specs.Fingers.{finger}
use Rattle.nice_plan.specs.declared.chord_name.ChordName.{ChordName}
use Rattle.nice_plan.specs.Burst.{push_row, push_rows, burst, named_chords, chord_ending}
use Rattle.nice_plan.specs.Path.{chosen, before_door, path_from, doors_from}
use Rattle.drawing.specs.Round.{next_segment}
use Rattle.finger_move.specs.Glued.{segment_of}
use Rattle.obd_base.specs.Lists.{Mem}
use Rattle.nice_plan.specs.Numbers.{lift, chord_lift, row_fingers, rows_fingers, burst_fingers, AreApart}
use Rattle.nice_plan.proofs.closed.RowNumbers.{Seg, seg, Standing, Pairwise}
use Rattle.nice_plan.proofs.closed.PushedRow.{chord_name, now_of, enter, segs_left, fingers_along, map_joined, row_done}
use Rattle.nice_plan.proofs.closed.ChordLift.{chord_after, lifts_last}
use Rattle.obd_base.proofs.lists.Members.{mem_map}
use Rattle.obd_base.proofs.lists.Maps.{map_same}
use Rattle.finger_move.proofs.GluedTree.{map_map}

-- partner sides have as many points
pub points_level : (d : Drawing) → ((k : ℕ) → partner d.polygon (partner d.polygon k) ≡ k) → (k : ℕ) → points_on d (partner d.polygon k) ≡ points_on d k
points_level d twice k =
    let a = alike (all_exits d) in
    omega (arith, a)
  where
    flip : (a b : ℕ) → eqb a (partner d.polygon b) ≡ eqb (partner d.polygon a) b
    flip a b = elim (cases_eq a (partner d.polygon b)) [
      | inl q ↦ eq-eqb _ _ q ∙ sym (eq-eqb _ _ (ap (partner d.polygon) q ∙ twice b))
      | inr q ↦ ne_eqb _ _ q ∙ sym (ne_eqb _ _ (λ r. q (sym (twice a) ∙ ap (partner d.polygon) r)))
    ]

    alike : (es : List Exit) → (count_by (λ e. eqb e.side (partner d.polygon k)) es ≡ count_by (λ e. eqb (partner d.polygon e.side) k) es)
        × (count_by (λ e. eqb (partner d.polygon e.side) (partner d.polygon k)) es ≡ count_by (λ e. eqb e.side k) es)
    alike [] = (refl, refl)
    alike (e ∷ es) =
        let r = alike es in
        let a : cond {A = ℕ} (eqb e.side (partner d.polygon k)) 1 0 ≡ cond (eqb (partner d.polygon e.side) k) 1 0 = ap (λ v. cond {A = ℕ} v 1 0) (flip e.side k) in
        let b : cond {A = ℕ} (eqb (partner d.polygon e.side) (partner d.polygon k)) 1 0 ≡ cond (eqb e.side k) 1 0
        = ap (λ v. cond {A = ℕ} v 1 0) (flip (partner d.polygon e.side) k ∙ ap (λ v. eqb v k) (twice e.side)) in
        let one = sum_by-cons (λ (e : Exit). cond (eqb e.side (partner d.polygon k)) 1 0) e es in
        let two = sum_by-cons (λ (e : Exit). cond (eqb (partner d.polygon e.side) k) 1 0) e es in
        let three = sum_by-cons (λ (e : Exit). cond (eqb (partner d.polygon e.side) (partner d.polygon k)) 1 0) e es in
        let four = sum_by-cons (λ (e : Exit). cond (eqb e.side k) 1 0) e es in
        (omega (arith, r, a, one, two), omega (arith, r, b, three, four))

-- segments of a drawing, each two of them apart
abbrev pub AllApart : Drawing → List Exit → Type 0
AllApart d [] = Unit {0}
AllApart d (s ∷ ss) = ((e : Exit) → Mem e ss → AreApart d s e) × AllApart d ss

-- segments of the drawing of which no two are one, or glued
pub record AreSegments (d : Drawing) (segments : List Exit) : Type 0 where
  pub on_sides : (s : Exit) → Mem s segments → s.side < sides d.polygon
  pub in_range : (s : Exit) → Mem s segments → s.place ≤ points_on d s.side
  pub apart : AllApart d segments

module _ (o : Drawing) (pairs : Pairs o.polygon) (all : List Exit) (ok : AreSegments o all) where
  abbrev p : ℕ → ℕ
  p k = partner o.polygon k

  -- a segment before row q
  abbrev stand : ℕ → Exit → Seg
  stand q s = seg s (exit s.side (s.place + (q + q * sum_by (λ e. lift o e s) all)))

  sum_mapped : {A B : Type 0} (h : B → ℕ) (f : A → B) (xs : List A) → sum_by h (map f xs) ≡ sum_by (λ x. h (f x)) xs
  sum_mapped h f [] = refl
  sum_mapped h f (x ∷ xs) = let r = sum_mapped h f xs in let a = sum_by-cons h (f x) (map f xs) in let b = sum_by-cons (λ x. h (f x)) x xs in omega (arith, r, a, b)

  along_is : (q i c : ℕ) (before ss : List Exit) → fingers_along (lift o) i c (map (stand q) before) (map (stand q) ss) ≡ row_fingers o all q i c before ss
  along_is q i c before [] = refl
  along_is q i c before (s ∷ ss) =
      let k = sum_mapped (λ (y : Seg). lift o y.first s) (stand q) before in
      let e : s.place + (q + q * sum_by (λ e. lift o e s) all) + sum_by (λ (y : Seg). lift o y.first s) (map (stand q) before)
      ≡ s.place + (q + (q * sum_by (λ e. lift o e s) all + sum_by (λ e. lift o e s) before)) = omega (arith, k) in
      ap (λ v. finger i c s.side v ∷ fingers_along (lift o) i (c + 1) (map (stand q) before ++ (stand q s ∷ [])) (map (stand q) ss)) e
      ∙ ap (λ v. finger i c s.side (s.place + (q + (q * sum_by (λ e. lift o e s) all + sum_by (λ e. lift o e s) before))) ∷ v)
      (ap (λ v. fingers_along (lift o) i (c + 1) v (map (stand q) ss)) (sym (map_joined (stand q) before (s ∷ []))) ∙ along_is q i (c + 1) (before ++ (s ∷ [])) ss)

  next_row : (q : ℕ) → map (enter (lift o) (map (stand q) all)) (map (stand q) all) ≡ map (stand (suc q)) all
  next_row q = map_map (stand q) (enter (lift o) (map (stand q) all)) all ∙ map_same (λ s. enter (lift o) (map (stand q) all) (stand q s)) (stand (suc q)) all (λ s i.
      let total = sum_by (λ e. lift o e s) all in
      let k = sum_mapped (λ (y : Seg). lift o y.first s) (stand q) all in
      let e : s.place + (q + q * total) + 1 + sum_by (λ (y : Seg). lift o y.first s) (map (stand q) all) ≡ s.place + (suc q + suc q * total)
      = let w : suc q * total ≡ (1 + q) * total = ap (λ v. v * total) (let e : suc q ≡ 1 + q = omega arith in e) in omega (arith, k, add-mul 1 q total, w) in
      ap (λ v. seg s (exit s.side v)) e)

  rows_closed : (cs : List ChordName) (q : ℕ) (before : List ChordName) (d : Drawing) → d.polygon ≡ o.polygon → ((k : ℕ) → points_on d (p k) ≡ points_on d k)
      → ((c : ChordName) → Mem c cs → c.strand < length d.strands)
      → (now : ChordName → ChordName) → ((e : ChordName) → now e ≡ chord_name e.strand (e.chord + sum_by (λ b. chord_lift (length all) b e) before))
      → Standing p (points_on d) (lift o) (map (stand q) all)
      → push_rows d cs now (map now_of (map (stand q) all)) ≡ rows_fingers o all q before cs
  rows_closed [] q before d same level strands now at st = refl
  rows_closed (c ∷ cs) q before d same level strands now at st =
      let row = push_row d (now c) (map now_of (map (stand q) all)) (λ e. e) [] in
      let c0 : (now c).strand ≡ c.strand = ap (λ (v : ChordName). v.strand) (at c) in
      let c1 : (now c).chord ≡ c.chord + sum_by (λ b. chord_lift (length all) b c) before = ap (λ (v : ChordName). v.chord) (at c) in
      let own : map (λ (z : Seg). seg z.first z.now) (map (stand q) all) ≡ map (stand q) all = map_map (stand q) (λ (z : Seg). seg z.first z.now) all in
      let done = row_done o.polygon pairs.twice (lift o) (map (stand q) all) d same (now c) (let l = strands c (inl refl) in omega (arith, l, c0)) level (λ e. e) [] [] refl
      (subst (λ w. Standing p (points_on d) (lift o) w) (sym own) st) in
      let left : segs_left (lift o) [] (map (λ (z : Seg). seg z.first z.now) (map (stand q) all)) ≡ map (stand (suc q)) all = ap (λ w. segs_left (lift o) [] w) own ∙ next_row q in
      let counted : length (map (stand q) all) ≡ length all = length-map all (stand q) in
      let first : row.fingers ≡ row_fingers o all q c.strand (c.chord + sum_by (λ b. chord_lift (length all) b c) before) [] all
      = done.fingers ∙ ap (λ w. fingers_along (lift o) (now c).strand (now c).chord [] w) own ∙ along_is q (now c).strand (now c).chord [] all
      ∙ ap (λ v. row_fingers o all q v (now c).chord [] all) c0 ∙ ap (λ v. row_fingers o all q c.strand v [] all) c1 in
      let next_level : (k : ℕ) → points_on row.drawing (p k) ≡ points_on row.drawing k = λ k.
      subst (λ (v : Polygon). points_on row.drawing (partner v k) ≡ points_on row.drawing k) done.polygon
      (points_level row.drawing (λ j. subst (λ (v : Polygon). partner v (partner v j) ≡ j) (sym done.polygon) (pairs.twice j)) k) in
      let carried : (e : ChordName) → row.carry (now e) ≡ chord_name e.strand (e.chord + sum_by (λ b. chord_lift (length all) b e) (before ++ (c ∷ []))) = λ e.
      done.carry (now e) ∙ go e (now e) (at e) (now c) (at c) (length (map (stand q) all)) counted in
      let rest = rows_closed cs (suc q) (before ++ (c ∷ [])) row.drawing done.polygon next_level (λ g i. let l = strands g (inr i) in let s = done.strands in omega (arith, l, s))
      (λ e. row.carry (now e)) carried (subst (λ w. Standing p (points_on row.drawing) (lift o) w) left done.standing) in
      ap (λ w. w ++ push_rows row.drawing cs (λ e. row.carry (now e)) row.between) first
      ∙ ap (λ w. row_fingers o all q c.strand (c.chord + sum_by (λ b. chord_lift (length all) b c) before) [] all ++ w)
      (ap (λ w. push_rows row.drawing cs (λ e. row.carry (now e)) w) (done.between ∙ ap (map now_of) left) ∙ rest)
    where
      go : (e ne : ChordName) → ne ≡ chord_name e.strand (e.chord + sum_by (λ b. chord_lift (length all) b e) before)
          → (nc : ChordName) → nc ≡ chord_name c.strand (c.chord + sum_by (λ b. chord_lift (length all) b c) before) → (n : ℕ) → n ≡ length all
          → chord_name ne.strand (ne.chord + cond (eqb ne.strand nc.strand && ltb nc.chord ne.chord) (n + n) 0) ≡ chord_name e.strand (e.chord + sum_by (λ b. chord_lift (length all) b e) (before ++ (c ∷ [])))
      go e ne a nc b n l =
          ap (λ (v : ChordName). chord_name v.strand (v.chord + cond (eqb v.strand nc.strand && ltb nc.chord v.chord) (n + n) 0)) a
          ∙ ap (λ (v : ChordName). chord_name e.strand (e.chord + sum_by (λ b. chord_lift (length all) b e) before + cond (eqb e.strand v.strand && ltb v.chord (e.chord + sum_by (λ b. chord_lift (length all) b e) before)) (n + n) 0)) b
          ∙ ap (λ v. chord_name e.strand (e.chord + sum_by (λ b. chord_lift (length all) b e) before
          + cond (eqb e.strand c.strand && ltb (c.chord + sum_by (λ b. chord_lift (length all) b c) before) (e.chord + sum_by (λ b. chord_lift (length all) b e) before)) (v + v) 0)) l
          ∙ ap (λ v. chord_name e.strand v) (let x = chord_after (length all) before c e in let y = lifts_last (length all) before c e in omega (arith, x, y))

  starts : map (stand 0) all ≡ map (λ s. seg s s) all
  starts = map_same (stand 0) (λ s. seg s s) all (λ s i. ap (λ v. seg s (exit s.side v)) (let e : s.place + (0 + 0 * sum_by (λ e. lift o e s) all) ≡ s.place = omega arith in e))

  first_standing : Standing p (points_on o) (lift o) (map (λ s. seg s s) all)
  first_standing = record {
    lifts = λ x y i j.
        let (s, k, e) = mem_map (λ s. seg s s) x all i in
        let (r, l, f) = mem_map (λ s. seg s s) y all j in
        subst (λ (v : Seg). lift o v.now y.now ≡ lift o v.first y.first) (sym e) (subst (λ (w : Seg). lift o s w.now ≡ lift o s w.first) (sym f) refl);
    apart = pairwise all ok.apart;
    within = λ x i. let (s, k, e) = mem_map (λ s. seg s s) x all i in subst (λ (v : Seg). v.now.place ≤ points_on o v.now.side) (sym e) (ok.in_range s k);
    moves = λ x i. let (s, k, e) = mem_map (λ s. seg s s) x all i in subst (λ (v : Seg). p v.now.side ≢ v.now.side) (sym e) (pairs.moves s.side (ok.on_sides s k));
  }
    where
      turned : (a b : Exit) → AreApart o a b → AreApart o b a
      turned a b h = (
        λ q r. h.0 (sym q) (sym r),
        λ q r. h.1 (sym (pairs.twice a.side) ∙ ap p (sym q))
            (let l = points_level o pairs.twice a.side in let m : points_on o b.side ≡ points_on o (p a.side) = ap (points_on o) q in omega (arith, r, l, m)),
      )

      pairwise : (ss : List Exit) → AllApart o ss → Pairwise p (points_on o) (map (λ s. seg s s) ss)
      pairwise [] h = tt
      pairwise (s ∷ ss) h = (
        λ y i. let (e, j, k) = mem_map (λ s. seg s s) y ss i in
            subst (λ (v : Seg). AreApart o s v.now × AreApart o v.now s) (sym k) (h.0 e j, turned s e (h.0 e j)),
        pairwise ss h.1,
      )

  -- chords pushed one after another along the segments, in numbers of the drawing before
  pub pushed_rows_closed : (cs : List ChordName) → ((c : ChordName) → Mem c cs → c.strand < length o.strands) → push_rows o cs (λ e. e) all ≡ burst_fingers o cs all
  pushed_rows_closed cs strands =
      let listed : map now_of (map (stand 0) all) ≡ all = ap (map now_of) starts ∙ map_map (λ s. seg s s) now_of all ∙ own all in
      ap (λ w. push_rows o cs (λ e. e) w) (sym listed)
      ∙ rows_closed cs 0 [] o refl (points_level o pairs.twice) strands (λ e. e) (λ e. ap (λ v. chord_name e.strand v) (let q : e.chord ≡ e.chord + 0 = omega arith in q))
      (subst (λ w. Standing p (points_on o) (lift o) w) (sym starts) first_standing)
    where
      own : (ss : List Exit) → map (λ s. s) ss ≡ ss
      own [] = refl
      own (s ∷ ss) = ap (λ w. s ∷ w) (own ss)

-- the chords and the segments of the next burst
abbrev pub burst_chords : Drawing → List ChordName
burst_chords d = let s = chosen d in map (chord_ending (named_chords d)) (doors_from d (distance d s) s)

-- the segments of its path
abbrev pub burst_path : Drawing → List Exit
burst_path d = let s = chosen d in map (segment_of d) (path_from d (distance d s) (length (chords d)) (next_segment d (next_segment d (before_door d s))))

-- the next burst
pub burst_closed : (d : Drawing) → Pairs d.polygon → AreSegments d (burst_path d) → ((c : ChordName) → Mem c (burst_chords d) → c.strand < length d.strands)
    → burst d ≡ burst_fingers d (burst_chords d) (burst_path d)
burst_closed d pairs ok strands = pushed_rows_closed d pairs (burst_path d) ok (burst_chords d) strands
