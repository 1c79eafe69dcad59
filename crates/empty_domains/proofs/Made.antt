-- The tables of a drawing, as they are made number by number.
use Rattle.std.proofs.Common.{◌≡◌, ℕ, suc, ◌+◌, ◌-◌, ◌<◌, ◌≤◌, ◌^◌, inl, inr, ◌⊎◌, Bool, true, false, cond, ltb, eqb, not, ◌&&◌, List, get_or, length, map, set, refl, sym, ap, subst, arith, zero-add, ◌∙◌}
use Rattle.std.proofs.lemmas.Bool.{cases_eq, cases_lt, lt-ltb, le-ltb}
use Rattle.std.proofs.lemmas.List.{get_or-set_other, get_or-set_same, length-set}
use Rattle.std.proofs.lemmas.List.FromFn.{get_or-map-range_with_len, length-map-range_with_len}
use Rattle.drawing.proofs.Spots.{offset_suc}
use Rattle.drawing.specs.Layout.{offsets_of}
use Rattle.drawing.specs.Pieces.{is_base, span_count, spans}
use Rattle.drawing.specs.Round.{opposite, other_end, side_of}
use Rattle.drawing.proofs.Ends.{no_end_at_gap}
use Rattle.drawing.proofs.Mates.{other_stays}
use Rattle.drawing.proofs.Placed.{ends_at}
use Rattle.empty_domains.proofs.Diagram.{IsCross, IsPoint, other_of, partner_on, partner_points, point_at}
use Rattle.empty_domains.proofs.PieceMark.{point_under, side_under}
use Rattle.empty_domains.proofs.Places.{place_exists, side_is}
use Rattle.empty_domains.proofs.Runs.{run_end, run_step}
use Rattle.empty_domains.proofs.Strands.{other_point}
use Rattle.empty_domains.specs.Ground.{IsGround}
use Rattle.empty_domains.specs.Kept.{IsClosed, IsRuns, tables}
use Rattle.empty_domains.specs.Strip.{run, runs_on}
use Rattle.obd_base.specs.Lists.{below}
use Rattle.page_surface.specs.Drawing.{Drawing, IsEmbedded, chords, offset, points_on}
use Rattle.page_surface.specs.Polygon.{arc, partner, sides}
use Rattle.region_table.proofs.ChordTables.{start_read}

-- an entry of a list of what a function says of the first numbers
pub entry_at : (f : ℕ → ℕ) (n : ℕ) (table : List ℕ) → table ≡ map f (below n) → (x : ℕ) → x < n → get_or table x 0 ≡ f x
entry_at f n table is x l = ap (λ xs. get_or xs x 0) is ∙ get_or-map-range_with_len f 0 n x x 0 l (zero-add x)

-- how many entries it has
pub entries : (f : ℕ → ℕ) (n : ℕ) (table : List ℕ) → table ≡ map f (below n) → length table ≡ n
entries f n table is = ap length is ∙ length-map-range_with_len f 0 n

module _ (d : Drawing) (starts : List ℕ) (is : starts ≡ offsets_of d) where
  -- the points of a side by where it begins and where the next one does
  pub points_read : (k n : ℕ) → k < sides d.polygon → n ≡ suc k → get_or starts n 0 ≡ get_or starts k 0 + (points_on d k + 2)
  points_read k n l e =
      let s = start_read d starts is k (omega arith) in
      let t = start_read d starts is n (omega arith) in
      omega (arith, s, t, offset_suc d k, ap (offset d) e)

  -- a side that ends before a number isn't the last
  pub side_next : (at side next : ℕ) → at < span_count d → side < sides d.polygon → next ≡ suc side → get_or starts next 0 ≤ at → next < sides d.polygon
  side_next at side next l k e h = elim (cases_eq next (sides d.polygon)) [
    | inl q ↦ absurd (let t = start_read d starts is next (omega arith) in omega (arith, t, ap (offset d) q))
    | inr n ↦ omega arith
  ]

  -- the side that begins at most at a number and ends behind it is the number's
  pub side_found : (at side next : ℕ) → side < sides d.polygon → next ≡ suc side → get_or starts side 0 ≤ at → at < get_or starts next 0 → side_of d at ≡ side
  side_found at side next k e h l =
      let s = start_read d starts is side (omega arith) in
      let t = points_read side next k e in
      let w : at ≡ offset d side + (at - offset d side) = omega (arith, s) in
      subst (λ z. side_of d z ≡ side) (sym w) (side_is d side (at - offset d side) k (omega (arith, s, t)))

-- the other name of a number by its side and place
pub opposite_told : (d : Drawing) (at side place points : ℕ) → side ≡ side_of d at → place ≡ at - offset d side → points ≡ points_on d side
    → opposite d at ≡ offset d (partner d.polygon side) + cond (ltb place points) (points - 1 - place) points
opposite_told d at side place points e p q = rw (p, q, e) refl

-- by where sides begin: a place that isn't the last
pub opposite_less : (d : Drawing) (starts : List ℕ) → starts ≡ offsets_of d → (at side number points : ℕ) → side < sides d.polygon → partner d.polygon side < sides d.polygon → side ≡ side_of d at
    → number ≡ partner d.polygon side → points ≡ points_on d side → at - get_or starts side 0 < points → get_or starts number 0 + (points - 1 - (at - get_or starts side 0)) ≡ opposite d at
opposite_less d starts is at side number points lk lp s n p h =
    let a = start_read d starts is side (omega arith) in
    let b = start_read d starts is number (omega (arith, n)) in
    let e = opposite_told d at side (at - offset d side) points s refl p in
    let t : ltb (at - offset d side) points ≡ true = lt-ltb _ _ (omega (arith, a)) in
    let f : opposite d at ≡ offset d (partner d.polygon side) + (points - 1 - (at - offset d side)) = rw t at e in
    omega (arith, a, b, f, ap (offset d) n)

-- and the last one
pub opposite_last : (d : Drawing) (starts : List ℕ) → starts ≡ offsets_of d → (at side number points : ℕ) → side < sides d.polygon → partner d.polygon side < sides d.polygon → side ≡ side_of d at
    → number ≡ partner d.polygon side → points ≡ points_on d side → points ≤ at - get_or starts side 0 → get_or starts number 0 + points ≡ opposite d at
opposite_last d starts is at side number points lk lp s n p h =
    let a = start_read d starts is side (omega arith) in
    let b = start_read d starts is number (omega (arith, n)) in
    let e = opposite_told d at side (at - offset d side) points s refl p in
    let t : ltb (at - offset d side) points ≡ false = le-ltb _ _ (omega (arith, a)) in
    let f : opposite d at ≡ offset d (partner d.polygon side) + points = rw t at e in
    omega (arith, b, f, ap (offset d) n)

-- whether rows run on, by the table of chords
pub runs_read : (d : Drawing) (other : List ℕ) → other ≡ map (other_end (chords d)) (spans d) → (at next : ℕ) → next ≡ suc at → suc at < span_count d → is_base d next ≡ false
    → eqb (get_or other next 0 + 1) (get_or other at 0) ≡ runs_on d at 0
runs_read d other is at next e l h =
    let z : suc (at + 0) ≡ next = omega arith in
    let w : next ≡ at + suc 0 = omega arith in
    let p : get_or other next 0 ≡ other_end (chords d) (at + suc 0) = entry_at (other_end (chords d)) (span_count d) other is next (omega arith) ∙ ap (other_end (chords d)) w in
    let q = entry_at (other_end (chords d)) (span_count d) other is at (omega arith) in
    let b : is_base d (suc (at + 0)) ≡ false = ap (is_base d) z ∙ h in
    go (is_base d (suc (at + 0))) (get_or other next 0) (get_or other at 0) b p q
  where
    go : (b : Bool) (u v : ℕ) → b ≡ false → u ≡ other_end (chords d) (at + suc 0) → v ≡ other_end (chords d) at
        → eqb (u + 1) v ≡ (not b && eqb (other_end (chords d) (at + suc 0) + suc 0) (other_end (chords d) at))
    go b u v f p q = rw (f, p, q) refl

-- one of two numbers is at most the greater
cond_most : (b : Bool) (u v : ℕ) → u ≤ v → cond b u v ≤ v
cond_most true u v l = l
cond_most false u v l = omega arith

module _ (d : Drawing) (ok : IsEmbedded d) where
  -- the side of a number is one
  pub side_inside : (at : ℕ) → at < span_count d → side_of d at < sides d.polygon
  side_inside at l =
      let (k, j, lk, lj, e) = place_exists d (sides d.polygon) at l in
      subst (λ z. z < sides d.polygon) (sym (ap (side_of d) e ∙ side_is d k j lk lj)) lk

  -- it begins at the number at most
  pub side_before : (at : ℕ) → at < span_count d → offset d (side_of d at) ≤ at
  side_before at l =
      let (k, j, lk, lj, e) = place_exists d (sides d.polygon) at l in
      let s : side_of d at ≡ k = ap (side_of d) e ∙ side_is d k j lk lj in
      omega (arith, e, ap (offset d) s)

  -- the other name of any number is a number
  pub opposite_inside : (at : ℕ) → at < span_count d → opposite d at < span_count d
  opposite_inside at l =
      let k = side_of d at in
      let m = points_on d k in
      let j = at - offset d k in
      let lk = side_inside at l in
      let e = opposite_told d at k j m refl refl refl in
      let p = side_under d ok (partner d.polygon k) (partner_on d ok k lk) in
      let w : cond (ltb j m) (m - 1 - j) m ≤ m = cond_most (ltb j m) (m - 1 - j) m (omega arith) in
      omega (arith, e, p, partner_points d ok k, w)

  -- so is the other end of the chord there
  pub other_inside : (at : ℕ) → at < span_count d → other_end (chords d) at < span_count d
  other_inside at l =
      let (k, j, lk, lj, e) = place_exists d (sides d.polygon) at l in
      elim (cases_le j (points_on d k)) [
        | inl h ↦ (
            let p = subst (λ z. IsPoint d z) (sym e) (point_at d k j lk h) in
            let u = point_under d ok (other_of d at) (other_point d ok at p) in
            omega arith)
        | inr h ↦ (
            let q : at ≡ offset d k + (points_on d k + 1) = omega (arith, e) in
            let s = other_stays (chords d) at (subst (λ z. ends_at (chords d) z ≡ 0) (sym q) (no_end_at_gap d ok k)) in
            omega (arith, s))
      ]
    where
      cases_le : (a b : ℕ) → (a ≤ b) ⊎ (b < a)
      cases_le a b = elim (cases_lt b a) [ inl h ↦ inr h | inr h ↦ inl (omega arith) ]

  -- a number before the end of its side is a crossing point
  pub cross_told : (at : ℕ) → at < span_count d → at < offset d (side_of d at) + points_on d (side_of d at) → IsCross d at
  cross_told at l h = record {
    side = side_of d at;
    place = at - offset d (side_of d at);
    on = side_inside at l;
    under = omega (arith, side_before at l, h);
    number = omega (arith, side_before at l);
  }

  -- at the end of a side and at a gap no row runs
  pub runs_not : (at : ℕ) → offset d (side_of d at) + points_on d (side_of d at) ≤ at → run d at ≡ 0
  runs_not at h = run_end d ok at (omega (arith, h))

  -- where a number's side ends, by the tables of sides and ends
  pub end_read : (side ends : List ℕ) → side ≡ map (side_of d) (spans d) → ends ≡ map (λ k. offset d k + points_on d k) (below (sides d.polygon)) → (at : ℕ) → at < span_count d
      → (get_or side at 0 < length ends) × (get_or ends (get_or side at 0) 0 ≡ offset d (side_of d at) + points_on d (side_of d at))
  end_read side ends s n at l =
      let a = entry_at (side_of d) (span_count d) side s at l in
      let k = side_inside at l in
      let e = entry_at (λ k. offset d k + points_on d k) (sides d.polygon) ends n (side_of d at) k in
      let m = entries (λ k. offset d k + points_on d k) (sides d.polygon) ends n in
      (omega (arith, a, k, m), ap (λ z. get_or ends z 0) a ∙ e)

  -- at first nothing is told
  pub runs_begin : (table : List ℕ) (n : ℕ) → n ≡ span_count d → length table ≡ n → IsRuns d n table
  runs_begin table n e l = record {
    size = l ∙ e;
    within = λ x h k. absurd (omega (arith, e));
    told = λ x h k. absurd (omega (arith, e));
  }

  -- one number more
  pub runs_more : (at next v : ℕ) (table : List ℕ) → next ≡ suc at → at < span_count d → IsRuns d next table → v ≡ run d at → v + at ≤ span_count d → IsRuns d at (set table at v)
  runs_more at next v table e l is value most = record {
    size = length-set table at v ∙ is.size;
    within = λ x h k. elim (cases_eq x at) [
      | inl q ↦ (let r : get_or (set table at v) x 0 ≡ v = ap (λ z. get_or (set table at v) z 0) q ∙ here in omega (arith, r, q))
      | inr n ↦ (let r = get_or-set_other table at x v 0 n in omega (arith, r, is.within x (omega (arith, e)) k))
    ];
    told = λ x h k. elim (cases_eq x at) [
      | inl q ↦ subst (λ n. get_or (set table at v) n 0 ≡ run d n) (sym q) (here ∙ value)
      | inr n ↦ get_or-set_other table at x v 0 n ∙ is.told x (omega (arith, e)) k
    ];
  }
    where
      here : get_or (set table at v) at 0 ≡ v
      here = get_or-set_same table at v 0 (omega (arith, is.size))

  -- rows run on from a crossing point as far as from the next number, and one piece more
  pub run_on : (at next : ℕ) (table : List ℕ) → next ≡ suc at → at < span_count d → at < offset d (side_of d at) + points_on d (side_of d at) → IsRuns d next table → runs_on d at 0 ≡ true
      → (next < span_count d) × (get_or table next 0 + 1 ≡ run d at)
  run_on at next table e l h is on =
      let x = cross_told at l h in
      let u = point_under d ok at (inl x) in
      let c : run d at ≡ cond (runs_on d at 0) (suc (run d (suc at))) 0 = run_step d ok at x in
      let c' : run d at ≡ suc (run d (suc at)) = rw on at c in
      let t = is.told next (omega arith) (omega (arith, e)) in
      (omega (arith, e), omega (arith, c', t, ap (run d) e))

  -- and not at all where they don't run on
  pub run_off : (at : ℕ) → at < span_count d → at < offset d (side_of d at) + points_on d (side_of d at) → runs_on d at 0 ≡ false → run d at ≡ 0
  run_off at l h off =
      let c : run d at ≡ cond (runs_on d at 0) (suc (run d (suc at))) 0 = run_step d ok at (cross_told at l h) in
      rw off at c

  -- the number behind a crossing point is one
  pub cross_under : (at : ℕ) → at < span_count d → at < offset d (side_of d at) + points_on d (side_of d at) → suc at < span_count d
  cross_under at l h = point_under d ok at (inl (cross_told at l h))

  module _ (other opposites side runs ends arcs : List ℕ) (others : other ≡ map (other_end (chords d)) (spans d)) (opposites_are : opposites ≡ map (opposite d) (spans d))
      (side_are : side ≡ map (side_of d) (spans d)) (runs_are : IsRuns d 0 runs) (ends_are : ends ≡ map (λ k. offset d k + points_on d k) (below (sides d.polygon)))
      (arcs_are : arcs ≡ map (arc d.polygon) (below (sides d.polygon))) where
    -- the tables are the drawing's
    pub made : IsGround d (tables other opposites side runs ends arcs)
    made = record {
      other_size = entries _ (span_count d) other others;
      opposite_size = entries _ (span_count d) opposites opposites_are;
      side_size = entries _ (span_count d) side side_are;
      run_size = runs_are.size;
      ends_size = entries _ (sides d.polygon) ends ends_are;
      arcs_size = entries _ (sides d.polygon) arcs arcs_are;
      other_is = entry_at _ (span_count d) other others;
      opposite_is = λ k j lk lj. entry_at _ (span_count d) opposites opposites_are (offset d k + j) (under k j lk lj);
      side_is = λ k j lk lj. entry_at _ (span_count d) side side_are (offset d k + j) (under k j lk lj) ∙ side_is d k j lk (omega arith);
      run_is = λ k j lk lj. runs_are.told (offset d k + j) (omega arith) (under k j lk lj);
      ends_are = entry_at _ (sides d.polygon) ends ends_are;
      arcs_are = entry_at _ (sides d.polygon) arcs arcs_are;
    }
      where
        under : (k j : ℕ) → k < sides d.polygon → j ≤ points_on d k → offset d k + j < span_count d
        under k j lk lj = omega (arith, side_under d ok k lk)

    -- and nothing in them leads out of them
    pub closed : span_count d < 2 ^ 30 → IsClosed (tables other opposites side runs ends arcs)
    closed few =
        let n = entries _ (span_count d) other others in
        let m = entries _ (sides d.polygon) ends ends_are in
        record {
          few = omega (arith, n, few);
          opposite_size = omega (arith, n, made.opposite_size);
          side_size = omega (arith, n, made.side_size);
          run_size = omega (arith, n, runs_are.size);
          arcs_size = omega (arith, m, made.arcs_size);
          other_in = λ x l. (let e = made.other_is x (omega (arith, n)) in let u = other_inside x (omega (arith, n)) in omega (arith, e, u, n));
          opposite_in = λ x l. (let e = entry_at _ (span_count d) opposites opposites_are x (omega (arith, n)) in let u = opposite_inside x (omega (arith, n)) in omega (arith, e, u, n));
          side_in = λ x l. (let e = entry_at _ (span_count d) side side_are x (omega (arith, n)) in let u = side_inside x (omega (arith, n)) in omega (arith, e, u, m));
        }
