-- The ways on and back from each letter of a strand.
use Rattle.std.proofs.Common.{◌≡◌, ℕ, ◌-◌, ◌<◌, List, [], ◌∷◌, ◌++◌, map, refl, sym, ◌∙◌, ap, subst, arith, append_assoc, inl, inr, ◌≢◌}
use Rattle.std.proofs.lemmas.Bool.{eqb-false}
use Rattle.std.proofs.lemmas.List.{reverse-append}
use Rattle.obd_base.specs.Lists.{Mem}
use Rattle.obd_base.specs.declared.points.Exit.{Exit}
use Rattle.page_surface.proofs.WordLaws.{Free}
use Rattle.page_surface.specs.Drawing.{Drawing, entry, end_of, spot, points_on, Chord, chords, cut_strand, all_exits, IsEmbedded}
use Rattle.page_surface.specs.Polygon.{Polygon, partner, sides, Pairs}
use Rattle.page_surface.specs.Words.{inverse}
use Rattle.drawing.specs.Round.{other_end}
use Rattle.drawing.proofs.Diagram.{at_most_one_end}
use Rattle.drawing.proofs.Ends.{place_in, side_in, same_count}
use Rattle.drawing.proofs.Mates.{other_from, other_to}
use Rattle.drawing.proofs.tight.Ways.{Way, NoTurn}

-- the letters of some exits
abbrev pub letters : List Exit → List ℕ
letters es = map (λ e. e.side) es

-- the way back of a longer word ends with the partner of its first letter
inverse_cons : (p : Polygon) (x : ℕ) (w v : List ℕ) → inverse p (x ∷ w) ++ v ≡ inverse p w ++ (partner p x ∷ v)
inverse_cons p x w v =
    let r : inverse p (x ∷ w) ≡ inverse p w ++ (partner p x ∷ []) = reverse-append (partner p x ∷ []) (map (partner p) w) in
    let s : (inverse p w ++ (partner p x ∷ [])) ++ v ≡ inverse p w ++ (partner p x ∷ v) = append_assoc (inverse p w) (partner p x ∷ []) v in
    ap (λ u. u ++ v) r ∙ s

-- on through a letter of a free word there is no turning back
pub on_straight : (p : Polygon) (s : ℕ) (w : List ℕ) → Free p (s ∷ w) → NoTurn p (partner p s) w
on_straight p s [] h = tt
on_straight p s (t ∷ w) h = ((λ q. eqb-false _ _ h.0 (sym q)), on_straight p t w h.1)

-- the first letter of a word, or what comes after it
abbrev pub first_of : List ℕ → ℕ → ℕ
first_of [] s = s
first_of (u ∷ us) s = u

-- nor back from it
pub back_straight : (p : Polygon) (ok : Pairs p) (us : List ℕ) (s : ℕ) (vs v : List ℕ) → Free p (us ++ (s ∷ vs)) → NoTurn p (first_of us s) v → NoTurn p s (inverse p us ++ v)
back_straight p ok [] s vs v h t = t
back_straight p ok (u ∷ us) s vs v h t =
    subst (λ x. NoTurn p s x) (sym (inverse_cons p u us v))
    (back_straight p ok us s vs (partner p u ∷ v) h.1 (clear us h, subst (λ x. NoTurn p x v) (sym (ok.twice u)) t))
  where
    clear : (us : List ℕ) → Free p (u ∷ (us ++ (s ∷ vs))) → partner p u ≢ first_of us s
    clear [] h q = absurd (eqb-false _ _ h.0 q)
    clear (x ∷ us) h q = absurd (eqb-false _ _ h.0 q)

module _ (d : Drawing) (ok : IsEmbedded d) where
  -- along the rest of a strand
  pub on_way : (a : Exit) (es : List Exit) (f : ℕ) → f < sides d.polygon → ((c : Chord) → Mem c (cut_strand d a es (end_of d f)) → Mem c (chords d))
      → ((e : Exit) → Mem e es → Mem e (all_exits d)) → Way d a (letters es) f
  on_way a [] f lf h g = (lf, other_from (chords d) (record { from = spot d a; to = spot d (end_of d f) }) (at_most_one_end d ok) (h _ (inl refl)))
  on_way a (e ∷ es) f lf h g = (
    e.place,
    side_in d ok e (g e (inl refl)),
    place_in d ok e (g e (inl refl)),
    other_from (chords d) (record { from = spot d a; to = spot d e }) (at_most_one_end d ok) (h _ (inl refl)),
    on_way (entry d e) es f lf (λ c m. h c (inr m)) (λ x m. g x (inr m)),
  )

  -- along a strand from the entry of an exit
  pub way_on : (a : Exit) (us : List Exit) (e : Exit) (vs : List Exit) (f : ℕ) → f < sides d.polygon
      → ((c : Chord) → Mem c (cut_strand d a (us ++ (e ∷ vs)) (end_of d f)) → Mem c (chords d))
      → ((x : Exit) → Mem x (us ++ (e ∷ vs)) → Mem x (all_exits d)) → Way d (entry d e) (letters vs) f
  way_on a [] e vs f lf h g = on_way (entry d e) vs f lf (λ c m. h c (inr m)) (λ x m. g x (inr m))
  way_on a (u ∷ us) e vs f lf h g = way_on (entry d u) us e vs f lf (λ c m. h c (inr m)) (λ x m. g x (inr m))

  -- back along a strand: v leads back from whatever is joined to the start
  pub way_back : (a : Exit) (us : List Exit) (e : Exit) (vs : List Exit) (z : Exit) (v : List ℕ) (s : ℕ)
      → ((c : Chord) → Mem c (cut_strand d a (us ++ (e ∷ vs)) z) → Mem c (chords d))
      → ((x : Exit) → Mem x (us ++ (e ∷ vs)) → Mem x (all_exits d))
      → ((b : Exit) → other_end (chords d) (spot d b) ≡ spot d a → Way d b v s)
      → Way d e (inverse d.polygon (letters us) ++ v) s
  way_back a [] e vs z v s h g back =
      back e (other_to (chords d) (record { from = spot d a; to = spot d e }) (at_most_one_end d ok) (h _ (inl refl)))
  way_back a (u ∷ us) e vs z v s h g back =
      let k = u.side in
      let lk = side_in d ok u (g u (inl refl)) in
      let lu = place_in d ok u (g u (inl refl)) in
      let here : Way d u v s = back u (other_to (chords d) (record { from = spot d a; to = spot d u }) (at_most_one_end d ok) (h _ (inl refl))) in
      let same = same_count d ok k in
      let place : points_on d (partner d.polygon k) - 1 - (points_on d k - 1 - u.place) ≡ u.place = omega (arith, same, lu) in
      let again : entry d (entry d u) ≡ u = rw (ok.polygon.pairs.twice k, place) refl in
      subst (λ x. Way d e x s) (sym (inverse_cons d.polygon k (letters us) v))
      (way_back (entry d u) us e vs z (partner d.polygon k ∷ v) s (λ c m. h c (inr m)) (λ x m. g x (inr m))
      (λ b q. (points_on d k - 1 - u.place, ok.polygon.pairs.in_range k lk, omega (arith, same, lu), q, subst (λ x. Way d x v s) (sym again) here)))
