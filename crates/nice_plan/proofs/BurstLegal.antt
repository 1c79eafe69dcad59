-- All fingers of the burst of a drawing that isn't nice are legal, one after another.
use Rattle.std.proofs.Common.{◌≡◌, ℕ, zero, suc, ◌<◌, ◌≤◌, Bool, true, false, List, [], ◌∷◌, ◌++◌, map, length, refl, sym, ◌∙◌, ap, subst, arith, inl, inr}
use Rattle.std.proofs.lemmas.Bool.{false≢true}
use Rattle.std.proofs.lemmas.List.{length-map}
use Rattle.obd_base.specs.Lists.{Mem}
use Rattle.page_surface.specs.Drawing.{Chord, Drawing, IsEmbedded, chords}
use Rattle.drawing.specs.Fingers.{replayed}
use Rattle.drawing.specs.Pieces.{distance, is_base, same_piece, segments_in}
use Rattle.drawing.specs.Round.{other_end}
use Rattle.drawing.proofs.SamePiece.{same_piece_sym}
use Rattle.region_table.specs.Nice.{is_nice}
use Rattle.drawing.proofs.fingers.Arranged.{Arranged}
use Rattle.finger_move.proofs.Cycles.{IsCycle, cycle_next, head_or, same_trans}
use Rattle.drawing.proofs.fingers.NewEmbedded.{arranged}
use Rattle.finger_move.proofs.PushedNext.{far, near, next, other_at}
use Rattle.nice_plan.specs.Burst.{burst, chord_ending, doors, named_chords, path}
use Rattle.finger_move.specs.Glued.{glued_to, segment_of}
use Rattle.nice_plan.specs.Path.{before_door, chosen, doors_from, path_from}
use Rattle.drawing.specs.Fingers.{AllLegal}
use Rattle.nice_plan.proofs.AnyBurst.{EndClean, OpenPlan, open_carried, open_final, plan_finished}
use Rattle.nice_plan.proofs.BurstLength.{doors_length}
use Rattle.nice_plan.proofs.ChordNames.{doors_named}
use Rattle.nice_plan.proofs.ChosenPiece.{IsChosen, chosen_is}
use Rattle.nice_plan.proofs.DoorChain.{At, at_of, chained, lower_of, later_of, ordered_of, Levels}
use Rattle.nice_plan.proofs.DoorSearch.{door_at}
use Rattle.nice_plan.proofs.PathStops.{AsFar, Glued, Leaves, glued_apart, near_missed, near_passed, path_made, path_stands, segs, simple_path}
use Rattle.nice_plan.proofs.PieceRounds.{Round, base_same, distance_same, round_of, segments_same, zero_base}
use Rattle.nice_plan.proofs.Pushing.{SameChords, same_cycle, same_other}
use Rattle.nice_plan.proofs.RowLast.{Passes}
use Rattle.nice_plan.proofs.RowLegal.{Stop, Way}
use Rattle.nice_plan.proofs.PushDoor.{pulled}
use Rattle.nice_plan.proofs.Rows.{Chain, Door, Ordered, behind, chain_same, one_unless, usual, way_same}
use Rattle.finger_move.proofs.Segments.{IsSegment, inner_segment}
use Rattle.nice_plan.proofs.PathSegments.{AllStand, pairs}
use Rattle.nice_plan.proofs.Tracing.{AllNamed, Finished}

-- the chords of doors are the drawing's
chain_chords : (cs : List Chord) (q : List ℕ) (gs : List Door) → Chain cs q gs → (g : Door) → Mem g gs → Mem g.chord cs
chain_chords cs q [] h g m = absurd m
chain_chords cs q (x ∷ gs) h g (inl e) = subst (λ (y : Door). Mem y.chord cs) (sym e) h.1
chain_chords cs q (x ∷ gs) h g (inr m) = chain_chords cs x.rest gs h.3 g m

-- the near end of a chord of the drawing
near_other : (cs : List Chord) → Arranged cs → (out : Bool) (c : Chord) → Mem c cs → near out c ≡ other_end cs (far out c)
near_other cs ok true c m = sym (other_at cs ok c m).0
near_other cs ok false c m = sym (other_at cs ok c m).1

-- a list with a member isn't empty
not_none : {A : Type 0} (xs : List A) (x : A) → Mem x xs → (n : ℕ) × (length xs ≡ suc n)
not_none [] x m = absurd m
not_none (y ∷ xs) x m = (length xs, refl)

-- nearer pieces behind doors aren't entered by the first row, but perhaps by its last finger
clean_of : (d : Drawing) (far t u : ℕ) (stops : List Stop) → AsFar d far u stops → far ≤ distance d t → (gs : List Door)
    → ((g : Door) → Mem g gs → (z : ℕ) → Mem z (behind g) → distance d z < far) → EndClean t u stops gs
clean_of d far t u stops h l [] low = tt
clean_of d far t u stops h l (g ∷ gs) low = (
  usual gs ((Mem t (behind g) → ⊥) × Passes u stops (behind g))
      ((λ m. let k = low g (inl refl) t m in omega (arith, k, l)), near_passed d far u stops (behind g) h (low g (inl refl))),
  clean_of d far t u stops h l gs (λ e m. low e (inr m)),
)

-- a drawing's burst, taken apart: the plan that the rows of fingers need, from the definitions
pub record Planned (d : Drawing) : Type 0 where
  pub t : ℕ
  pub first : Door
  pub others : List Chord
  pub front : List ℕ
  pub back : List ℕ
  pub stops : List Stop
  pub later : List Door
  pub plan : OpenPlan t (glued_to d t) first others front back stops later
  pub same : SameChords (chords d) (first.chord ∷ others)
  pub segment : IsSegment d t
  pub path_is : path d ≡ t ∷ segs stops
  pub from_t : path d ≡ path_from d (distance d (chosen d)) (length (chords d)) t
  pub named : AllNamed d (λ e. e) (doors d) (first ∷ later)
  pub behind_far : ℕ
  pub far_is : distance d (chosen d) ≡ suc behind_far
  pub t_far : distance d t ≡ suc behind_far
  pub front_long : 1 ≤ length front
  pub back_long : 1 ≤ length back
  pub levels : Levels d behind_far (first ∷ later)
  pub count : length (first ∷ later) ≡ suc behind_far
  pub way : Way (next (chords d)) (glued_to d t) stops
  pub glued : Glued d stops
  pub as_far : AsFar d (suc behind_far) (glued_to d t) stops
  pub leaves : Leaves d (glued_to d t) stops
  pub stand : AllStand d (map (segment_of d) (path d)) ((t, glued_to d t) ∷ pairs stops)

-- each drawing that is not nice has a plan
pub planned : (d : Drawing) → IsEmbedded d → is_nice d ≡ false → Planned d
planned d ok bad = go (distance d s) refl
  where
    cs : List Chord
    cs = chords d

    arr : Arranged cs
    arr = arranged d ok

    s : ℕ
    s = chosen d

    ch : IsChosen d s
    ch = chosen_is d bad

    go : (e : ℕ) → distance d s ≡ e → Planned d
    go zero q = absurd (false≢true (sym ch.inner ∙ zero_base d ok s q))
    go (suc e) q =
        let b = before_door d s in
        let at = door_at d ok s e ch.inside q in
        let c = chained d ok e s ch.inside q (b ∷ []) (inl refl) in
        let g = c.door in
        let far_is : far g.out g.chord ≡ b = head_is (far g.out g.chord) b _ _ c.spans in
        let (es, new, same) = pulled cs arr g.chord c.chain.1 in
        let base_b : is_base d b ≡ false = sym (base_same d s b at.same) ∙ ch.inner in
        let rb = round_of d ok b at.inside base_b in
        let n0 = next cs b in
        let n0_in = rb.inside n0 (cycle_next (next cs) (b ∷ rb.rest) rb.cycle b (inl refl)) in
        let base_n : is_base d n0 ≡ false = sym (base_same d b n0 n0_in.1) ∙ base_b in
        let r = round_of d ok n0 n0_in.0 base_n in
        let big : 3 ≤ length (segments_in d n0) = (let w = ap length (segments_same d s b at.same ∙ segments_same d b n0 n0_in.1) in let z = ch.bad in omega (arith, w, z)) in
        let (ys, rest_is) = second n0 r (omega (arith, big, r.size)) in
        let t = next cs n0 in
        let t_in = r.inside t (inr (subst (λ xs. Mem t xs) (sym rest_is) (inl refl))) in
        let seg = inner_segment d t t_in.0 (sym (base_same d n0 t t_in.1) ∙ base_n) in
        let (fuel, fuel_is) = not_none cs g.chord c.chain.1 in
        let made = path_made d ok (suc e) fuel t seg in
        let u = glued_to d t in
        let simple = simple_path d ok t made.stops made.way made.glued made.is_path in
        let path_is : path d ≡ t ∷ segs made.stops = ap (λ x. path_from d x (length cs) t) q ∙ (ap (λ x. path_from d (suc e) x t) fuel_is ∙ made.path_is) in
        let nexts : (x : ℕ) → next cs x ≡ next (g.chord ∷ es) x = λ x. ap suc (same_other cs (g.chord ∷ es) arr new same x) in
        let cycle : IsCycle (next cs) ((n0 ∷ []) ++ (t ∷ ys)) = subst (λ xs. IsCycle (next cs) (n0 ∷ xs)) rest_is r.cycle in
        let dt : distance d t ≡ suc e = sym (distance_same d n0 t t_in.1) ∙ (sym (distance_same d b n0 n0_in.1) ∙ (sym (distance_same d s b at.same) ∙ q)) in
        let here = at_of d e g c.later c.levels in
        let low = lower_of d e g c.later c.levels in
        let own_low : (z : ℕ) → Mem z (behind g) → distance d z < suc e = λ z m. let k = here.0 z m in omega (arith, k) in
        record {
          t = t;
          first = g;
          others = es;
          front = n0 ∷ [];
          back = ys;
          stops = made.stops;
          later = c.later;
          plan = record {
            first = record {
              arranged = new;
              cycle = same_cycle (next cs) (next (g.chord ∷ es)) _ nexts cycle;
              starts = ap suc (ap (other_end cs) (sym far_is) ∙ sym (near_other cs arr g.out g.chord c.chain.1));
              outside = λ m. glued_apart d ok t seg (same_trans cs t n0 u (back_same cs t n0 t_in.1) (r.inside u (subst (λ xs. Mem u (n0 ∷ xs)) (sym rest_is) m)).1);
            };
            way = way_same cs (g.chord ∷ es) arr new same u made.stops made.way;
            apart = (simple.0, near_missed d (suc e) (near g.out g.chord) u made.stops made.as_far (own_low (near g.out g.chord) (inl refl)), simple.1);
            piece = one_unless c.later (IsCycle (next cs) (behind g)) (IsCycle (next (g.chord ∷ es)) (behind g)) c.chain.2 (same_cycle (next cs) (next (g.chord ∷ es)) (behind g) nexts);
            outside = usual c.later ((Mem t (behind g) → ⊥) × Passes u made.stops (behind g))
                ((λ m. let k = own_low t m in omega (arith, k, dt)), near_passed d (suc e) u made.stops (behind g) made.as_far own_low);
            chain = chain_same cs (g.chord ∷ es) arr new same g.rest c.later c.chain.3;
            ordered = (later_of d e g here c.later low, ordered_rest e g c.later c.levels);
            clean = clean_of d (suc e) t u made.stops made.as_far (omega (arith, dt)) c.later (λ f m z i. lower_low e f (low f m) z i);
          };
          same = same;
          segment = seg;
          behind_far = e;
          far_is = q;
          t_far = dt;
          front_long = omega arith;
          back_long = (let w = ap length rest_is in let z = r.size in omega (arith, w, z, big));
          levels = c.levels;
          count = counted (far_of g) c.later e c.spans;
          way = made.way;
          glued = made.glued;
          as_far = made.as_far;
          leaves = made.leaves;
          path_is = path_is;
          from_t = refl;
          named = subst (λ w. AllNamed d (λ e. e) (map (chord_ending (named_chords d)) (doors_from d w s)) (g ∷ c.later)) (sym q)
              (doors_named d ok (doors_from d (suc e) s) (g ∷ c.later) (chain_chords cs (b ∷ []) (g ∷ c.later) c.chain) c.spans);
          stand = subst (λ w. AllStand d (map (segment_of d) w) ((t, u) ∷ pairs made.stops)) (sym path_is) (path_stands d t made.stops seg made.glued);
        }
      where
        far_of : Door → ℕ
        far_of g = far g.out g.chord

        counted : (x : ℕ) (gs : List Door) (n : ℕ) → x ∷ map (λ (g : Door). far g.out g.chord) gs ≡ doors_from d (suc n) s → suc (length gs) ≡ suc n
        counted x gs n h = let a = ap length h in let b = length-map gs (λ (g : Door). far g.out g.chord) in omega (arith, a, b, doors_length d (suc n) s)

        head_is : (x y : ℕ) (xs ys : List ℕ) → x ∷ xs ≡ y ∷ ys → x ≡ y
        head_is x y xs ys q = cc

        back_same : (all : List Chord) (t n : ℕ) → same_piece all n t ≡ true → same_piece all t n ≡ true
        back_same all t n h = same_piece_sym all n t h

        second : (n0 : ℕ) (r : Round d ok n0) → 1 ≤ length r.rest → (ys : List ℕ) × (r.rest ≡ next cs n0 ∷ ys)
        second n0 r l = split_first r.rest refl
          where
            split_first : (xs : List ℕ) → r.rest ≡ xs → (ys : List ℕ) × (r.rest ≡ next cs n0 ∷ ys)
            split_first [] p = absurd (let w = ap length p in let v : ⊥ = omega (arith, w, l) in v)
            split_first (y ∷ ys) p = (ys, p ∙ ap (λ w. w ∷ ys) (sym (subst (λ zs. next cs n0 ≡ head_or zs n0) p r.cycle.leads.0)))

        ordered_rest : (n : ℕ) (g : Door) (gs : List Door) → Levels d n (g ∷ gs) → Ordered gs
        ordered_rest n g gs h = (ordered_of d n (g ∷ gs) h).1

        lower_low : (n : ℕ) (f : Door) → ((k : ℕ) × (k < n) × At d k f) → (z : ℕ) → Mem z (behind f) → distance d z < suc n
        lower_low n f (k, l, a) z m = let w = a.0 z m in omega (arith, w, l)

-- the burst, finished
pub burst_finished : (d : Drawing) (ok : IsEmbedded d) (bad : is_nice d ≡ false)
    → (let p = planned d ok bad in Finished d (burst d) (open_final p.t (glued_to d p.t) p.first p.others p.front p.back p.stops p.later p.plan)
    (open_carried p.t (glued_to d p.t) p.first p.others p.front p.back p.stops p.later p.plan))
burst_finished d ok bad =
    let p = planned d ok bad in
    plan_finished d ok p.t (glued_to d p.t) p.first p.others p.front p.back p.stops p.later p.plan p.same (doors d) p.named (map (segment_of d) (path d)) p.stand

-- all fingers of the burst are legal, each in the drawing that the ones before it leave
pub burst_legal : (d : Drawing) → IsEmbedded d → is_nice d ≡ false → AllLegal d (burst d)
burst_legal d ok bad = (burst_finished d ok bad).legal

-- and the drawing after it is embedded
pub burst_embedded : (d : Drawing) → IsEmbedded d → is_nice d ≡ false → IsEmbedded (replayed d (burst d))
burst_embedded d ok bad = (burst_finished d ok bad).embedded
