-- Segments by side and number, and what they are glued to, on their way through the fingers of a row.
use Rattle.std.proofs.Common.{◌≡◌, ℕ, suc, List, [], ◌∷◌, ◌++◌, map, refl, sym, ◌∙◌, ap, subst, inl, inr, ◌≢◌}
use Rattle.obd_base.specs.Lists.{Mem}
use Rattle.obd_base.proofs.lists.Members.{mem_right}
use Rattle.obd_base.specs.declared.points.Exit.{Exit}
use Rattle.page_surface.specs.Drawing.{Drawing}
use Rattle.drawing.proofs.fingers.Shift.{shift, early, shift_new}
use Rattle.drawing.proofs.fingers.Finger.{shift_apart}
use Rattle.nice_plan.proofs.RowLegal.{Stop, Misses, Simple, Way, carry_stop, spans_from}
use Rattle.nice_plan.proofs.Stepping.{Stands}

-- two spans that are glued
abbrev pub Pair : Type 0
Pair = ℕ × ℕ

-- segments that have these numbers, and are glued to those
abbrev pub AllStand : Drawing → List Exit → List Pair → Type 0
AllStand d [] [] = Unit {0}
AllStand d [] (p ∷ ps) = ⊥
AllStand d (e ∷ es) [] = ⊥
AllStand d (e ∷ es) (p ∷ ps) = Stands d e p.0 p.1 × AllStand d es ps

-- the segments by which a path leaves its pieces, with what they are glued to
abbrev pub pairs : List Stop → List Pair
pairs ss = map (λ (s : Stop). (s.seg, s.beyond)) ss

-- none of them is t or u
abbrev pub Far : ℕ → ℕ → List Pair → Type 0
Far t u [] = Unit {0}
Far t u (p ∷ ps) = ((p.0 ≢ t) × (p.0 ≢ u)) × Far t u ps

-- no segment of the path is entered by an earlier finger of the row
abbrev pub SegsApart : ℕ → ℕ → List Stop → Type 0
SegsApart t u [] = Unit {0}
SegsApart t u (s ∷ ss) = Far t u (pairs (s ∷ ss)) × SegsApart s.seg s.beyond ss

-- some segments are entered by no finger of the row
abbrev pub FarFromAll : ℕ → ℕ → List Stop → List Pair → Type 0
FarFromAll t u [] ps = Far t u ps
FarFromAll t u (s ∷ ss) ps = Far t u ps × FarFromAll s.seg s.beyond ss ps

-- both after a finger
abbrev pub shift_pair : ℕ → ℕ → Pair → Pair
shift_pair a b p = (shift a b p.0, shift a b p.1)

-- joined lists
pub far_append : (t u : ℕ) (ps qs : List Pair) → Far t u ps → Far t u qs → Far t u (ps ++ qs)
far_append t u [] qs h k = k
far_append t u (p ∷ ps) qs h k = (h.0, far_append t u ps qs h.1 k)

-- after a finger elsewhere
pub far_shift : (a b t u : ℕ) (ps : List Pair) → Far t u ps → Far (shift a b t) (shift a b u) (map (shift_pair a b) ps)
far_shift a b t u [] h = tt
far_shift a b t u (p ∷ ps) h = ((shift_apart a b p.0 t h.0.0, shift_apart a b p.0 u h.0.1), far_shift a b t u ps h.1)

-- the middle span of a finger is no carried one
pub far_middle : (a b t u : ℕ) → Far (shift a b t) (shift a b u) ((suc (early a b), suc (early b a)) ∷ [])
far_middle a b t u = ((λ q. (shift_new a b t).1 (sym q), λ q. (shift_new a b u).1 (sym q)), tt)

-- the segments of a path after a finger
pub pairs_shift : (a b : ℕ) (ss : List Stop) → map (shift_pair a b) (pairs ss) ≡ pairs (map (carry_stop a b) ss)
pairs_shift a b [] = refl
pairs_shift a b (s ∷ ss) = ap (λ w. (shift a b s.seg, shift a b s.beyond) ∷ w) (pairs_shift a b ss)

-- a path enters no segment twice after a finger either
pub segs_shift : (a b t u : ℕ) (ss : List Stop) → SegsApart t u ss → SegsApart (shift a b t) (shift a b u) (map (carry_stop a b) ss)
segs_shift a b t u [] h = tt
segs_shift a b t u (s ∷ ss) h =
    (subst (λ w. Far (shift a b t) (shift a b u) w) (pairs_shift a b (s ∷ ss)) (far_shift a b t u (pairs (s ∷ ss)) h.0), segs_shift a b s.seg s.beyond ss h.1)

-- nor are other segments entered
pub all_shift : (a b t u : ℕ) (ss : List Stop) (ps : List Pair) → FarFromAll t u ss ps
    → FarFromAll (shift a b t) (shift a b u) (map (carry_stop a b) ss) (map (shift_pair a b) ps ++ ((suc (early a b), suc (early b a)) ∷ []))
all_shift a b t u [] ps h = far_append _ _ (map (shift_pair a b) ps) _ (far_shift a b t u ps h) (far_middle a b t u)
all_shift a b t u (s ∷ ss) ps h = (far_append _ _ (map (shift_pair a b) ps) _ (far_shift a b t u ps h.0) (far_middle a b t u), all_shift a b s.seg s.beyond ss ps h.1)

-- no segments
pub far_all : (t u : ℕ) (ss : List Stop) → FarFromAll t u ss []
far_all t u [] = tt
far_all t u (s ∷ ss) = (tt, far_all s.seg s.beyond ss)

-- a path that meets no piece twice enters no segment twice
seg_in : (s : Stop) (e : ℕ) → Mem s.seg (spans_from e s)
seg_in s e = inr (mem_right s.seg s.before (s.seg ∷ s.after) (inl refl))

missed_segs : (z e : ℕ) (ss : List Stop) → Misses z e ss → (s : Stop) → Mem s ss → s.seg ≢ z
missed_segs z e [] h s m = absurd m
missed_segs z e (r ∷ ss) h s (inl q) = λ p. h.0 (subst (λ w. Mem w (spans_from e r)) (ap (λ (x : Stop). x.seg) (sym q) ∙ p) (seg_in r e))
missed_segs z e (r ∷ ss) h s (inr m) = missed_segs z r.beyond ss h.1 s m

far_from : (t u : ℕ) (ss : List Stop) → ((s : Stop) → Mem s ss → (s.seg ≢ t) × (s.seg ≢ u)) → Far t u (pairs ss)
far_from t u [] h = tt
far_from t u (s ∷ ss) h = (h s (inl refl), far_from t u ss (λ r m. h r (inr m)))

-- so it enters none twice
pub segs_apart : (g : ℕ → ℕ) (t u : ℕ) (ss : List Stop) → Way g u ss → Misses t u ss → Simple u ss → SegsApart t u ss
segs_apart g t u [] w m p = tt
segs_apart g t u (s ∷ ss) w m p =
    (far_from t u (s ∷ ss) (λ r i. (missed_segs t u (s ∷ ss) m r i, entry r i)), segs_apart g s.seg s.beyond ss w.2 p.1 p.2)
  where
    entry : (r : Stop) → Mem r (s ∷ ss) → r.seg ≢ u
    entry r (inl q) = λ e. w.0.once.0 (subst (λ z. Mem z (s.before ++ (s.seg ∷ s.after))) (ap (λ (x : Stop). x.seg) (sym q) ∙ e) (mem_right s.seg s.before (s.seg ∷ s.after) (inl refl)))
    entry r (inr i) = missed_segs u s.beyond ss p.0 r i

-- joined lists
pub stand_append : (d : Drawing) (es es' : List Exit) (ps qs : List Pair) → AllStand d es ps → AllStand d es' qs → AllStand d (es ++ es') (ps ++ qs)
stand_append d [] es' [] qs h k = k
stand_append d [] es' (p ∷ ps) qs h k = absurd h
stand_append d (e ∷ es) es' [] qs h k = absurd h
stand_append d (e ∷ es) es' (p ∷ ps) qs h k = (h.0, stand_append d es es' ps qs h.1 k)

-- segments that a finger doesn't enter
pub stand_on : (d new : Drawing) (g : Exit → Exit) (t u : ℕ) → ((e : Exit) (v w : ℕ) → Stands d e v w → v ≢ t → v ≢ u → Stands new (g e) (shift t u v) (shift t u w))
    → (es : List Exit) (ps : List Pair) → AllStand d es ps → Far t u ps → AllStand new (map g es) (map (shift_pair t u) ps)
stand_on d new g t u h [] [] a b = tt
stand_on d new g t u h [] (p ∷ ps) a b = absurd a
stand_on d new g t u h (e ∷ es) [] a b = absurd a
stand_on d new g t u h (e ∷ es) (p ∷ ps) a b = (h e p.0 p.1 a.0 b.0.0 b.0.1, stand_on d new g t u h es ps a.1 b.1)

-- both in new numbers
abbrev pub pair_by : (ℕ → ℕ) → Pair → Pair
pair_by k p = (k p.0, k p.1)
