-- A burst lowers the weight by one at least.
use Rattle.std.proofs.Common.{◌≡◌, ℕ, zero, suc, ◌+◌, ◌-◌, ◌<◌, ◌≤◌, Bool, true, false, List, [], ◌∷◌, map, length, refl, sym, ◌∙◌, ap, subst, arith, inl, ◌≢◌}
use Rattle.std.proofs.lemmas.List.{length-append}
use Rattle.obd_base.specs.Lists.{below}
use Rattle.obd_base.proofs.lists.Below.{below_mem}
use Rattle.page_surface.specs.Drawing.{Chord, Drawing, IsEmbedded, chords, offset, points_on}
use Rattle.page_surface.specs.Polygon.{sides}
use Rattle.drawing.specs.Fingers.{replayed}
use Rattle.drawing.specs.Pieces.{distance, gap, gaps, span_count}
use Rattle.drawing.proofs.Lists.{mem_to_map}
use Rattle.drawing.proofs.TreeLaws.{no_end_at_gap}
use Rattle.region_table.specs.Nice.{is_nice, weight}
use Rattle.finger_move.specs.Glued.{glued_to}
use Rattle.drawing.proofs.Spots.{offset_suc}
use Rattle.drawing.proofs.fingers.NewEmbedded.{arranged}
use Rattle.finger_move.proofs.PushedNext.{far, near}
use Rattle.finger_move.proofs.Segments.{glued_segment_of}
use Rattle.nice_plan.specs.Burst.{burst}
use Rattle.nice_plan.specs.Path.{chosen, stops_in}
use Rattle.nice_plan.proofs.AnyBurst.{open_burst_made}
use Rattle.nice_plan.proofs.BurstLegal.{burst_finished, planned}
use Rattle.nice_plan.proofs.ChosenPiece.{chosen_is}
use Rattle.nice_plan.proofs.Distance.{dist}
use Rattle.nice_plan.proofs.DoorChain.{Levels, ends_inside}
use Rattle.nice_plan.proofs.PathDoors.{last_glued, passes, passes_order}
use Rattle.nice_plan.proofs.PathEnds.{last_or, whole_path}
use Rattle.nice_plan.proofs.RowLegal.{Stop}
use Rattle.nice_plan.proofs.PushDoor.{carry_by}
use Rattle.nice_plan.proofs.Rows.{Door, LaterRows, carry_door, done, row}
use Rattle.nice_plan.proofs.Tracing.{rows_carried, rows_final}
use Rattle.nice_plan.proofs.falling.BurstFalls.{Rows, Side, carry_side, no_row, one_row}
use Rattle.nice_plan.proofs.falling.Reordered.{dist_order, turned}
use Rattle.nice_plan.proofs.falling.Start.{Sound}
use Rattle.nice_plan.proofs.falling.Stops.{last_of}
use Rattle.nice_plan.proofs.falling.WeightFalls.{Nearer, burst_lowers_weight}

-- the last gap comes after the ends of all chords
pub sound : (d : Drawing) → IsEmbedded d → Sound d
sound d ok =
    let m = sides d.polygon - 1 in
    let e : sides d.polygon ≡ suc m = (let z = ok.polygon.not_empty in omega (arith, z)) in
    let count : span_count d ≡ offset d m + (points_on d m + 2) = ap (offset d) e ∙ offset_suc d m in
    let next : span_count d ≡ suc (gap d m) = omega (arith, count) in
    record {
      arranged = arranged d ok;
      framed = record {
        top = gap d m;
        is_gap = mem_to_map (gap d) m (below (sides d.polygon)) (below_mem (sides d.polygon) m (omega (arith, e)));
        ends = λ c i.
            let l = ends_inside d ok c i in
            let n = no_end_at_gap d ok c m i in
            (under c.from (gap d m) l.0 n.0 next, under c.to (gap d m) l.1 n.1 next);
        within = omega (arith, count);
      };
    }
  where
    under : (x g : ℕ) → x < span_count d → x ≢ g → span_count d ≡ suc g → x < g
    under x g l n q = omega (arith, l, n, q)

-- a door as a chord pushed towards one side
abbrev pub side_of : Door → Side
side_of d = record { chord = d.chord; out = d.out }

sides_carried : (k : ℕ → ℕ) (doors : List Door) → map side_of (map (carry_door k) doors) ≡ map (carry_side k) (map side_of doors)
sides_carried k [] = refl
sides_carried k (d ∷ doors) = ap (λ x. carry_side k (side_of d) ∷ x) (sides_carried k doors)

-- the rows of doors as rows of sides
as_rows : {ds : List Chord} {b m e : ℕ} {strips : List Stop} {doors : List Door} → (rows : LaterRows ds b m e strips doors) → Rows ds m e strips (map side_of doors) (rows_final rows) (rows_carried rows)
as_rows done = no_row
as_rows (row {b = b} {d = d} {doors = doors} {new = new} {k = k} {m' = m'} {e' = e'} {strips' = strips'} s r rs) =
    one_row s r (let z = length-append d.right (b ∷ []) in omega (arith, z)) (let z = length-append d.left (far d.out d.chord ∷ []) in omega (arith, z))
    (subst (λ w. Rows new m' e' strips' w (rows_final rs) (rows_carried rs)) (sides_carried k doors) (as_rows rs))

-- doors by their chords and sides
grown_sides : (k : ℕ → ℕ) (later doors : List Door) → map (λ (x : Door). x.chord) later ≡ map (λ (x : Door). carry_by k x.chord) doors → map (λ (x : Door). x.out) later ≡ map (λ (x : Door). x.out) doors
    → map side_of later ≡ map (carry_side k) (map side_of doors)
grown_sides k [] [] p q = refl
grown_sides k [] (y ∷ ys) p q = absurd (let z = ap length p in let w : ⊥ = omega (arith, z) in w)
grown_sides k (x ∷ xs) [] p q = absurd (let z = ap length p in let w : ⊥ = omega (arith, z) in w)
grown_sides k (x ∷ xs) (y ∷ ys) p q =
    same_side (head_chord _ _ _ _ p) (head_out _ _ _ _ q) (grown_sides k xs ys (tail_chord _ _ _ _ p) (tail_out _ _ _ _ q))
  where
    head_chord : (a b : Chord) (xs' ys' : List Chord) → a ∷ xs' ≡ b ∷ ys' → a ≡ b
    head_chord a b xs' ys' h = cc

    tail_chord : (a b : Chord) (xs' ys' : List Chord) → a ∷ xs' ≡ b ∷ ys' → xs' ≡ ys'
    tail_chord a b xs' ys' h = cc

    head_out : (a b : Bool) (xs' ys' : List Bool) → a ∷ xs' ≡ b ∷ ys' → a ≡ b
    head_out a b xs' ys' h = cc

    tail_out : (a b : Bool) (xs' ys' : List Bool) → a ∷ xs' ≡ b ∷ ys' → xs' ≡ ys'
    tail_out a b xs' ys' h = cc

    same_side : {c e : Chord} {o v : Bool} {ss ts : List Side} → c ≡ e → o ≡ v → ss ≡ ts → record { chord = c; out = o } ∷ ss ≡ record { chord = e; out = v } ∷ ts
    same_side {c} {e} {o} {v} {ss} {ts} p q r = ap (λ x. record { chord = x; out = o } ∷ ss) p ∙ (ap (λ x. record { chord = e; out = x } ∷ ss) q ∙ ap (λ xs. record { chord = e; out = v } ∷ xs) r)

-- the pieces behind the doors come nearer one by one
nearer_of : (d : Drawing) (es : List Chord) → ((z : ℕ) → dist es (gaps d) z ≡ distance d z) → (n : ℕ) (doors : List Door) → Levels d n doors → length doors ≡ suc n
    → Nearer es (gaps d) (suc n) (map side_of doors)
nearer_of d es h n [] l q = absurd (let w : ⊥ = omega (arith, q) in w)
nearer_of d es h zero (g ∷ gs) l q =
    let x = near g.out g.chord in
    let z : dist es (gaps d) x ≡ 0 = h x ∙ l.0.0 x (inl refl) in
    (ap suc (sym z), subst (λ w. Nearer es (gaps d) (dist es (gaps d) x) (map side_of w)) (sym l.1) z)
nearer_of d es h (suc n) (g ∷ gs) l q =
    let x = near g.out g.chord in
    let z : dist es (gaps d) x ≡ suc n = h x ∙ l.0.0 x (inl refl) in
    (ap suc (sym z), subst (λ w. Nearer es (gaps d) w (map side_of gs)) (sym z) (nearer_of d es h n gs l.1 (omega (arith, q))))

-- the weight after the burst is lower by one at least
pub burst_lowers : (d : Drawing) → IsEmbedded d → is_nice d ≡ false → suc (weight (replayed d (burst d))) ≤ weight d
burst_lowers d ok bad =
    let p = planned d ok bad in
    let cs = p.first.chord ∷ p.others in
    let u = glued_to d p.t in
    let made = open_burst_made p.t u p.first p.others p.front p.back p.stops p.later p.plan in
    let fin = burst_finished d ok bad in
    let arr = p.plan.first.arranged in
    let level : (z : ℕ) → dist cs (gaps d) z ≡ distance d z = λ z. sym (dist_order (chords d) cs (arranged d ok) arr p.same (gaps d) z) in
    let ch = chosen_is d bad in
    let most : (z : ℕ) → distance d z ≤ distance d (chosen d) → distance d z ≤ suc p.behind_far = λ z l. let q = p.far_is in omega (arith, q, l) in
    burst_lowers_weight d (replayed d (burst d)) (sound d ok) (sound (replayed d (burst d)) fin.embedded) (suc p.behind_far) (map side_of p.later)
    (record {
      same = p.same;
      positive = omega arith;
      level = level p.t ∙ p.t_far;
      greatest = λ z m l. most z (ch.greatest z m (λ q. omega (arith, q, l)));
      front = p.front_long;
      back = p.back_long;
      nearer = nearer_of d cs level p.behind_far (p.first ∷ p.later) p.levels p.count;
      way = p.plan.way;
      apart = p.plan.apart;
      passes = passes_order (chords d) cs (arranged d ok) arr p.same (gaps d) (suc p.behind_far) u p.stops
          (passes d ok p.behind_far (λ z m n. most z (ch.greatest z m n)) u p.stops (glued_segment_of d ok p.t p.segment) p.way p.glued p.as_far p.leaves
          (path_stops d ok bad));
    })
    made.left.row
    (subst (λ w. Rows made.left.chords made.left.middle made.left.tip made.left.strips w (rows_final made.rows) (rows_carried made.rows))
    (grown_sides made.left.carried made.later p.later made.grows made.outs) (as_rows made.rows))
    (turned fin.same) fin.gaps_are
  where
    path_stops : (d : Drawing) (ok : IsEmbedded d) (bad : is_nice d ≡ false)
        → (let p = planned d ok bad in stops_in d (suc p.behind_far) (last_of (glued_to d p.t) p.stops) ≡ true)
    path_stops d ok bad =
        let p = planned d ok bad in
        let e = (whole_path d ok bad).ends in
        ap (λ x. stops_in d x (last_of (glued_to d p.t) p.stops)) (sym p.far_is)
        ∙ (ap (stops_in d (distance d (chosen d))) (sym (ap (λ w. glued_to d (last_or 0 w)) p.path_is ∙ last_glued d p.t p.stops p.glued)) ∙ e)
