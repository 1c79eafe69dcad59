-- The strand of a point, read from a drawing.
use Rattle.std.proofs.Common.{◌≡◌, ◌≢◌, ℕ, suc, ◌+◌, ◌-◌, ◌^◌, ◌<◌, ◌≤◌, Bool, true, false, cond, eqb, ltb, ◌&&◌, ◌||◌, List, [], ◌∷◌, ◌++◌, length, map, get_or, refl, sym, ◌∙◌, ap, ap₂, subst, arith, inl, inr}
use Rattle.std.specs.List.{All, position_or_len, sum_by}
use Rattle.std.proofs.lemmas.Bool.{and_parts, and_from, cases_Bool, cases_lt, eq-eqb, eqb-true, lt-ltb}
use Rattle.std.proofs.lemmas.List.FromFn.{length-range_with_len, map-range_with_len_more}
use Rattle.std.proofs.lemmas.List.{length-map}
use Rattle.std.proofs.lemmas.List.Elements.{All-map}
use Rattle.std.proofs.lemmas.List.Sums.{count_by-le-length}
use Rattle.obd_base.specs.Lists.{below, Mem}
use Rattle.obd_base.specs.declared.points.Exit.{Exit}
use Rattle.obd_base.proofs.lists.Below.{mem_below}
use Rattle.obd_base.proofs.lists.Sums.{some_adds, sum_rows}
use Rattle.page_surface.specs.Drawing.{Drawing, IsEmbedded, IsPlaced, all_exits, entry, is_at, points_on, stands_at, strand_exits}
use Rattle.page_surface.specs.Polygon.{arc_count, first_side, partner, sides}
use Rattle.drawing.specs.Points.{crossings_of, strand_of}
use Rattle.drawing.specs.Strands.{passes, strand_at}
use Rattle.drawing.proofs.Generators.{contact_on_own}
use Rattle.drawing.proofs.Placed.{same_count-placed}
use Rattle.drawing.proofs.StrandTables.{any_of, of_strand}
use Rattle.generator_list.specs.Search.{AreSmall, all_strands, arc_strands}
use Rattle.generator_list.proofs.Members.{mem_at}

-- a list of what a function gives, with one more
pub map_next : {X : Type 0} (f : ℕ → X) (n : ℕ) (old after : List X) (x : X) → old ≡ map f (below n) → x ≡ f n → after ≡ old ++ x ∷ [] → after ≡ map f (below (n + 1))
map_next f n old after x so_far is grown = grown ∙ (ap₂ (λ ys y. ys ++ y ∷ []) so_far is ∙ sym (map-range_with_len_more f 0 n n (omega arith)))

-- a crossing point lies on the strand through its place
pub crossing_strand : (d : Drawing) (a j : ℕ) → j < crossings_of d a → strand_at d (first_side d.polygon a) j ≡ strand_of d a j
crossing_strand d a j l = let e : ltb j (crossings_of d a) ≡ true = lt-ltb j (crossings_of d a) l in rw e refl

-- a member that passes comes before the end
passes_before : (p : ℕ → Bool) (x : ℕ) (xs : List ℕ) → Mem x xs → p x ≡ true → position_or_len p xs < length xs
passes_before p x [] m h = absurd m
passes_before p x (y ∷ xs) (inl e) h = let k : p y ≡ true = ap p (sym e) ∙ h in rw k (omega arith)
passes_before p x (y ∷ xs) (inr m) h = elim (cases_Bool (p y)) [ inl k ↦ rw k (omega arith) | inr k ↦ rw k (omega (arith, passes_before p x xs m h)) ]

some_cond : (b : Bool) → 0 + cond b 1 0 ≢ 0 → b ≡ true
some_cond true h = refl
some_cond false h = absurd (h refl)

-- what stands at a place leaves or enters there
stands_passes : (d : Drawing) (ok : IsPlaced d) (k j : ℕ) (e : Exit) → Mem e (all_exits d) → stands_at d e k j ≢ 0 → (is_at e k j || is_at (entry d e) k j) ≡ true
stands_passes d ok k j e m h = elim (cases_Bool (is_at e k j)) [
  | inl t ↦ rw t refl
  | inr f ↦
      let b : (eqb (partner d.polygon e.side) k && eqb (suc (e.place + j)) (points_on d k)) ≡ true = some_cond _ (rw f at h) in
      let (p, q) = and_parts (eqb (partner d.polygon e.side) k) _ b in
      let side : partner d.polygon e.side ≡ k = eqb-true _ _ p in
      let sum : suc (e.place + j) ≡ points_on d k = eqb-true _ _ q in
      let count : points_on d k ≡ points_on d e.side = ap (points_on d) (sym side) ∙ same_count-placed d ok e.side in
      let there : points_on d e.side - 1 - e.place ≡ j = omega (arith, sum, count) in
      rw f (and_from (eqb (partner d.polygon e.side) k) _ p (eq-eqb _ _ there))
]

-- some strand passes through each point of a side
some_passes : (d : Drawing) (ok : IsPlaced d) (k j : ℕ) → k < sides d.polygon → j < points_on d k → (i : ℕ) × Mem i (below (arc_count d.polygon)) × (passes d k j i ≡ true)
some_passes d ok k j lk lj =
    let f = λ (e : Exit). stands_at d e k j in
    let total : sum_by (λ i. sum_by f (strand_exits d i)) (below (arc_count d.polygon)) ≡ 1 = sum_rows f d.strands (arc_count d.polygon) ok.strand_count ∙ ok.places k lk j lj in
    let (i, m, n) = some_adds (λ i. sum_by f (strand_exits d i)) (below (arc_count d.polygon)) (λ z. absurd (omega (arith, z, total))) in
    let (e, me, s) = some_adds f (strand_exits d i) n in
    (i, m, any_of (λ e. is_at e k j || is_at (entry d e) k j) e (strand_exits d i) me (stands_passes d ok k j e (of_strand d ok i e me) s))

-- each point lies on one of the strands
pub strand_below : (d : Drawing) → IsEmbedded d → (a j : ℕ) → a < arc_count d.polygon → j ≤ crossings_of d a → strand_of d a j < arc_count d.polygon
strand_below d ok a j la lj = elim (cases_lt j (crossings_of d a)) [
  | inl l ↦
      let (i, m, h) = some_passes d (record { polygon = ok.polygon; strand_count = ok.strand_count; on_sides = ok.on_sides; places = ok.places }) (first_side d.polygon a) j (ok.polygon.first_in_range a la) l in
      let before = passes_before (passes d (first_side d.polygon a) j) i (below (arc_count d.polygon)) m h in
      omega (arith, before, crossing_strand d a j l, length-range_with_len 0 (arc_count d.polygon))
  | inr g ↦ let e : j ≡ crossings_of d a = omega arith in let own : strand_of d a j ≡ a = ap (strand_of d a) e ∙ contact_on_own d a la in omega (arith, own)
]

-- a side has few points
few_points : (d : Drawing) (k : ℕ) → length (all_exits d) < 2 ^ 28 → points_on d k < 2 ^ 29
few_points d k few =
    let a = count_by-le-length (λ (e : Exit). eqb e.side k) (all_exits d) in
    let b = count_by-le-length (λ (e : Exit). eqb (partner d.polygon e.side) k) (all_exits d) in
    omega (arith, few, a, b)

-- what the points of the arcs are on is small
pub strands_small : (d : Drawing) (arcs : List (List ℕ)) → IsEmbedded d → length (all_exits d) < 2 ^ 28 → sides d.polygon ≤ 16 → arcs ≡ all_strands d → AreSmall arcs
strands_small d arcs ok few sixteen is = subst AreSmall (sym is) (record {
  few = All-map (λ ss. length ss < 2 ^ 32) (arc_strands d) (below (arc_count d.polygon)) (λ k e l. (
      let m = few_points d (first_side d.polygon (get_or (below (arc_count d.polygon)) k e)) few in
      let size = length-map (below (suc (crossings_of d (get_or (below (arc_count d.polygon)) k e)))) (strand_of d (get_or (below (arc_count d.polygon)) k e)) in
      let numbers = length-range_with_len 0 (suc (crossings_of d (get_or (below (arc_count d.polygon)) k e))) in
      omega (arith, m, size, numbers)));
  strands = All-map (All (λ s. s < 8)) (arc_strands d) (below (arc_count d.polygon)) (λ k e l. one (get_or (below (arc_count d.polygon)) k e) (mem_below _ _ (mem_at (below (arc_count d.polygon)) k e l)));
})
  where
    one : (a : ℕ) → a < arc_count d.polygon → All (λ s. s < 8) (arc_strands d a)
    one a la = All-map (λ s. s < 8) (strand_of d a) (below (suc (crossings_of d a))) (λ k e l.
        let j = get_or (below (suc (crossings_of d a))) k e in
        let lj : j < suc (crossings_of d a) = mem_below _ _ (mem_at (below (suc (crossings_of d a))) k e l) in
        let s = strand_below d ok a j la (omega (arith, lj)) in
        omega (arith, s, ok.polygon.even, sixteen))

-- there are at most 8 arcs
pub few_arcs : (d : Drawing) (arcs : List (List ℕ)) → IsEmbedded d → sides d.polygon ≤ 16 → arcs ≡ all_strands d → length arcs ≤ 8
few_arcs d arcs ok sixteen is =
    let size = ap length is ∙ (length-map (below (arc_count d.polygon)) (arc_strands d) ∙ length-range_with_len 0 (arc_count d.polygon)) in
    omega (arith, size, ok.polygon.even, sixteen)
