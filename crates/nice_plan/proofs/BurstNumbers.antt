-- The fingers of a burst in closed form, by numbers of the drawing before it.
use Rattle.std.proofs.Common.{◌≡◌, ℕ, ◌+◌, ◌-◌, ◌<◌, ◌≤◌, false, List, [], ◌∷◌, map, sym, ◌∙◌, ap, subst, arith, inl, inr, ◌≢◌}
use Rattle.obd_base.specs.Lists.{Mem}
use Rattle.obd_base.specs.declared.points.Exit.{Exit}
use Rattle.page_surface.specs.Drawing.{Drawing, IsEmbedded, offset, points_on, spot}
use Rattle.page_surface.specs.Polygon.{arc_count, partner, sides}
use Rattle.page_surface.proofs.Partners.{points_partner}
use Rattle.region_table.specs.Nice.{is_nice}
use Rattle.finger_move.specs.Glued.{glued_segment, glued_to, segment_of}
use Rattle.finger_move.proofs.PushedNext.{next}
use Rattle.nice_plan.specs.declared.chord_name.ChordName.{ChordName}
use Rattle.nice_plan.specs.Burst.{burst, doors, path}
use Rattle.nice_plan.specs.Numbers.{AreApart, burst_fingers}
use Rattle.nice_plan.proofs.BurstLegal.{planned}
use Rattle.nice_plan.proofs.PathSegments.{AllStand, Far, Pair, SegsApart, pairs, segs_apart}
use Rattle.nice_plan.proofs.RowLegal.{Stop}
use Rattle.nice_plan.proofs.Rows.{Door}
use Rattle.nice_plan.proofs.Stepping.{Stands}
use Rattle.nice_plan.proofs.Tracing.{AllNamed}
use Rattle.nice_plan.proofs.closed.Closed.{AllApart, burst_closed}

-- no pair is entered by an earlier one
abbrev FarList : List Pair → Type 0
FarList [] = Unit {0}
FarList (p ∷ ps) = Far p.0 p.1 ps × FarList ps

far_list : (t u : ℕ) (ss : List Stop) → SegsApart t u ss → FarList ((t, u) ∷ pairs ss)
far_list t u [] h = (tt, tt)
far_list t u (s ∷ ss) h = (h.0, far_list s.seg s.beyond ss h.1)

-- segments that stand at different numbers, and aren't glued
apart_of : (d : Drawing) → IsEmbedded d → (a b : Exit) (v w x y : ℕ) → Stands d a v w → Stands d b x y → x ≢ v → x ≢ w → AreApart d a b
apart_of d ok a b v w x y ha hb p q = (first, second)
  where
    first : a.side ≡ b.side → a.place ≢ b.place
    first s e =
        let z : spot d b ≡ spot d a = ap (λ k. offset d k + b.place) (sym s) ∙ ap (λ j. offset d a.side + j) (sym e) in
        p (sym hb.at ∙ (z ∙ ha.at))

    second : a.side ≡ partner d.polygon b.side → a.place + b.place ≢ points_on d b.side
    second s e =
        let back : partner d.polygon a.side ≡ b.side = ap (partner d.polygon) s ∙ ok.polygon.pairs.twice b.side in
        let count : points_on d a.side ≡ points_on d b.side = ap (points_on d) s ∙ points_partner d ok.polygon b.side in
        let place : points_on d a.side - a.place ≡ b.place = omega (arith, e, count) in
        let z : spot d b ≡ spot d (glued_segment d a) = ap (λ k. offset d k + b.place) (sym back) ∙ ap (λ j. offset d (partner d.polygon a.side) + j) (sym place) in
        q (sym hb.at ∙ (z ∙ ha.beyond))

all_apart : (d : Drawing) → IsEmbedded d → (es : List Exit) (ps : List Pair) → AllStand d es ps → FarList ps → AllApart d es
all_apart d ok [] ps h f = tt
all_apart d ok (e ∷ es) [] h f = absurd h
all_apart d ok (e ∷ es) (p ∷ ps) h f = (others es ps h.1 f.0, all_apart d ok es ps h.1 f.1)
  where
    others : (es : List Exit) (ps : List Pair) → AllStand d es ps → Far p.0 p.1 ps → (x : Exit) → Mem x es → AreApart d e x
    others [] ps h f x m = absurd m
    others (y ∷ es) [] h f x m = absurd h
    others (y ∷ es) (r ∷ ps) k f x (inl q) = subst (λ w. AreApart d e w) (sym q) (apart_of d ok e y p.0 p.1 r.0 r.1 h.0 k.0 f.0.0 f.0.1)
    others (y ∷ es) (r ∷ ps) k f x (inr m) = others es ps k.1 f.1 x m

stands_in : (d : Drawing) (es : List Exit) (ps : List Pair) → AllStand d es ps → (e : Exit) → Mem e es → (e.side < sides d.polygon) × (e.place ≤ points_on d e.side)
stands_in d [] ps h e m = absurd m
stands_in d (x ∷ es) [] h e m = absurd h
stands_in d (x ∷ es) (p ∷ ps) h e (inl q) = subst (λ (w : Exit). (w.side < sides d.polygon) × (w.place ≤ points_on d w.side)) (sym q) (h.0.side, h.0.place)
stands_in d (x ∷ es) (p ∷ ps) h e (inr m) = stands_in d es ps h.1 e m

named_in : (d : Drawing) (ns : List ChordName) (gs : List Door) → AllNamed d (λ e. e) ns gs → (c : ChordName) → Mem c ns → c.strand < arc_count d.polygon
named_in d [] gs h c m = absurd m
named_in d (n ∷ ns) [] h c m = absurd h
named_in d (n ∷ ns) (g ∷ gs) h c (inl q) = subst (λ (w : ChordName). w.strand < arc_count d.polygon) (sym q) h.0.strand
named_in d (n ∷ ns) (g ∷ gs) h c (inr m) = named_in d ns gs h.1 c m

-- the burst's fingers are those of the closed form
pub burst_numbers : (d : Drawing) → IsEmbedded d → is_nice d ≡ false → burst d ≡ burst_fingers d (doors d) (map (segment_of d) (path d))
burst_numbers d ok bad =
    let p = planned d ok bad in
    let apart = segs_apart (next (p.first.chord ∷ p.others)) p.t (glued_to d p.t) p.stops p.plan.way p.plan.apart.0 p.plan.apart.2 in
    let ps = (p.t, glued_to d p.t) ∷ pairs p.stops in
    burst_closed d ok.polygon.pairs
    (record {
      on_sides = λ e m. (stands_in d (map (segment_of d) (path d)) ps p.stand e m).0;
      in_range = λ e m. (stands_in d (map (segment_of d) (path d)) ps p.stand e m).1;
      apart = all_apart d ok (map (segment_of d) (path d)) ps p.stand (far_list p.t (glued_to d p.t) p.stops apart);
    })
    (λ c m. let l = named_in d (doors d) (p.first ∷ p.later) p.named c m in omega (arith, l, ok.strand_count))
