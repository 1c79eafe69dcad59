-- The words of the surgery: reduced, they are those of the twist.
use Rattle.std.proofs.Common.{◌≡◌, ℕ, suc, ◌+◌, ◌-◌, ◌<◌, Bool, true, false, cond, eqb, not, ◌||◌, List, [], ◌∷◌, ◌++◌, map, length, get_or, refl, sym, ◌∙◌, ap, subst, inl, inr, arith, append_assoc}
use Rattle.std.specs.List.{enumerate_from, flat_map, range_with_len}
use Rattle.std.proofs.lemmas.Bool.{eq-eqb, ne_eqb}
use Rattle.std.proofs.lemmas.List.{get_or-map, length-map, map-append}
use Rattle.obd_base.specs.Lists.{Mem, below}
use Rattle.obd_base.specs.declared.points.Exit.{Exit}
use Rattle.obd_base.specs.declared.points.Sign.{Sign}
use Rattle.obd_base.proofs.lists.Members.{mem_map}
use Rattle.page_surface.specs.Drawing.{Drawing, IsEmbedded, all_exits, end_of, entry, exit, points_on, strand_exits, words}
use Rattle.page_surface.specs.Polygon.{Pairs, Polygon, arc_count, first_side, partner, second_side, sides}
use Rattle.page_surface.specs.Words.{reduced}
use Rattle.curve_paths.specs.Curves.{IsCurve, curve_points, image, twisted}
use Rattle.curve_paths.specs.Alphabet.{Alike, Alphabet, back, cancelled}
use Rattle.path_words.proofs.SideLetters.{reduced_is, side_letters}
use Rattle.dehn_twist.specs.Surgery.{is_lower, kept_point, loops, meeting_count, surgery, surgery_strand}
use Rattle.dehn_twist.proofs.CopyPlaces.{lower_across}
use Rattle.dehn_twist.proofs.Fronts.{front, front_end, place_across, placed_letter}
use Rattle.dehn_twist.proofs.LoopWords.{chord_word}
use Rattle.dehn_twist.proofs.Merged.{Stands, ends_stand, exits_in, is_placed'}
use Rattle.dehn_twist.proofs.NewCircle.{map-map}
use Rattle.dehn_twist.proofs.Passing.{placed, placed_place}
use Rattle.curve_paths.proofs.CurvePoints.{exit_same, points_partner}
use Rattle.path_words.proofs.ImageProduct.{image_is, moved, upto}
use Rattle.drawing.proofs.Placed.{place_in-placed, same_count-placed, side_in-placed}
use Rattle.curve_paths.proofs.Reduction.{alike_after, alike_back, alike_join, alike_middle}

abbrev side_of : Exit → ℕ
side_of e = e.side

module _ (d : Drawing) (dok : IsEmbedded d) (c : List Exit) (curve : IsCurve d.polygon c) where
  abbrev p : Polygon
  p = d.polygon

  abbrev ok : Pairs d.polygon
  ok = dok.polygon.pairs

  abbrev L : Alphabet ℕ
  L = side_letters d.polygon dok.polygon.pairs

  abbrev before : Sign → Exit → List ℕ
  before g e = front d.polygon dok.polygon.pairs c curve g (placed d dok c curve e)

  -- a strand's point on the partner has the same place among the curve's points
  across : (g : Sign) (e : Exit) → Mem e (all_exits d) → place_across p ok c curve g (placed d dok c curve e) ≡ placed d dok c curve (entry d e)
  across g e m =
      let k = e.side in
      let l = side_in-placed d (is_placed' d dok c curve) e m in
      let h = place_in-placed d (is_placed' d dok c curve) e m in
      let s = same_count-placed d (is_placed' d dok c curve) k in
      let here : eqb e.place (points_on d k) ≡ false = ne_eqb e.place (points_on d k) (λ q. omega (arith, q, h)) in
      let there : eqb (points_on d k - 1 - e.place) (points_on d (partner p k)) ≡ false = ne_eqb (points_on d k - 1 - e.place) (points_on d (partner p k)) (λ q. omega (arith, q, h, s)) in
      let m' = points_partner p ok c curve k in
      exit_same (place_across p ok c curve g (placed d dok c curve e)) (partner p k) (placed d dok c curve (entry d e)).place refl
      (go (is_lower p k) (is_lower p (partner p k)) (eqb e.place (points_on d k)) (eqb (points_on d k - 1 - e.place) (points_on d (partner p k))) (lower_across p ok k l) here there m')
    where
      go : (b b' t t' : Bool) → b' ≡ not b → t ≡ false → t' ≡ false → curve_points p c (partner p e.side) ≡ curve_points p c e.side
          → curve_points p c e.side - cond (b || t) (curve_points p c e.side) 0 ≡ cond (b' || t') (curve_points p c (partner p e.side)) 0
      go true b' t t' x y z m' = rw (x, z) (omega arith)
      go false b' t t' x y z m' = rw (x, y) (omega (arith, m'))

  -- a strand with its loops
  strand_word : (g : Sign) (total : ℕ) (es : List Exit) (a z : Exit) → Stands d dok c curve a → Stands d dok c curve z → ((e : Exit) → Mem e es → Mem e (all_exits d))
      → Alike L (map side_of (surgery_strand d c g total a es z)) (back L (before g a) ++ (flat_map (moved p ok c curve g) (map side_of es) ++ before g z))
  strand_word g total [] a z ha hz h = chord_word d dok c curve a z ha hz g total
  strand_word g total (e ∷ es) a z ha hz h =
      let m = h e (inl refl) in
      let l = side_in-placed d (is_placed' d dok c curve) e m in
      let i = place_in-placed d (is_placed' d dok c curve) e m in
      let s = same_count-placed d (is_placed' d dok c curve) e.side in
      let he : Stands d dok c curve e = (l, omega (arith, i)) in
      let hx : Stands d dok c curve (entry d e) = (ok.in_range e.side l, omega (arith, s, i)) in
      let x = back L (before g a) in
      let y = before g e in
      let u = back L (before g (entry d e)) in
      let r = flat_map (moved p ok c curve g) (map side_of es) in
      let v = before g z in
      let rest = surgery_strand d c g total (entry d e) es z in
      let ih = strand_word g total es (entry d e) z hx hz (λ f k. h f (inr k)) in
      let letter : Alike L (y ++ (e.side ∷ u)) (moved p ok c curve g e.side)
      = ap (λ f. cancelled L (y ++ (e.side ∷ back L (front p ok c curve g f)))) (sym (across g e m)) ∙ placed_letter p ok c curve g (placed d dok c curve e) (placed_place d dok c curve e l) in
      ap (cancelled L) (map-append side_of (loops d c g total a e) (kept_point d c total e ∷ rest))
      ∙ (alike_join L (map side_of (loops d c g total a e)) (x ++ y) (e.side ∷ map side_of rest) (e.side ∷ (u ++ (r ++ v)))
      (chord_word d dok c curve a e ha he g total) (alike_after L (e.side ∷ []) (map side_of rest) (u ++ (r ++ v)) ih)
      ∙ (ap (cancelled L) (shuffle x y u r v e.side)
      ∙ (alike_middle L x (y ++ (e.side ∷ u)) (moved p ok c curve g e.side) (r ++ v) letter
      ∙ ap (λ q. cancelled L (x ++ q)) (sym (append_assoc (moved p ok c curve g e.side) r v)))))
    where
      shuffle : (x y u r v : List ℕ) (s : ℕ) → (x ++ y) ++ (s ∷ (u ++ (r ++ v))) ≡ x ++ ((y ++ (s ∷ u)) ++ (r ++ v))
      shuffle x y u r v s = simp append_assoc

  -- at the end of a side
  before_end : (g : Sign) (k : ℕ) → k < sides p → Alike L (before g (end_of d k)) (upto p ok c curve g k)
  before_end g k l = ap (λ e. cancelled L (front p ok c curve g e)) (ap (exit k) (go (is_lower p k))) ∙ front_end p ok c curve g k l
    where
      go : (b : Bool) → cond (b || eqb (points_on d k) (points_on d k)) (curve_points p c k) 0 ≡ curve_points p c k
      go true = refl
      go false = rw (eq-eqb (points_on d k) (points_on d k) refl) refl

  -- the surgery's word of a strand is the image of its word, up to reduction
  pub surgery_word : (g : Sign) (i : ℕ) → i < arc_count d.polygon
      → reduced d.polygon (map side_of (surgery_strand d c g (meeting_count d c) (end_of d (second_side d.polygon i)) (strand_exits d i) (end_of d (first_side d.polygon i))))
      ≡ reduced d.polygon (image d.polygon c g (map side_of (strand_exits d i)) (second_side d.polygon i) (first_side d.polygon i))
  surgery_word g i l =
      let u = second_side p i in
      let v = first_side p i in
      let lv = dok.polygon.first_in_range i l in
      let lu = ok.in_range v lv in
      let s = ends_stand d dok c curve i l in
      let es = strand_exits d i in
      let all = exits_in d dok c curve i in
      let new = map side_of (surgery_strand d c g (meeting_count d c) (end_of d u) es (end_of d v)) in
      let r = flat_map (moved p ok c curve g) (map side_of es) in
      let letters = λ (s : ℕ) (k : Mem s (map side_of es)). (let t = mem_map side_of s es k in subst (λ x. x < sides p) (sym t.2) (side_in-placed d (is_placed' d dok c curve) t.0 (all t.0 t.1))) in
      reduced_is p ok new
      ∙ (strand_word g (meeting_count d c) es (end_of d u) (end_of d v) s.0 s.1 all
      ∙ (alike_join L (back L (before g (end_of d u))) (back L (upto p ok c curve g u)) (r ++ before g (end_of d v)) (r ++ upto p ok c curve g v)
      (alike_back L (before g (end_of d u)) (upto p ok c curve g u) (before_end g u lu)) (alike_after L r (before g (end_of d v)) (upto p ok c curve g v) (before_end g v lv))
      ∙ (sym (image_is p ok c curve g (map side_of es) u v letters lu lv) ∙ sym (reduced_is p ok (image p c g (map side_of es) u v)))))

  map_numbers : {X Y : Type 0} (f : ℕ → Y) (k : ℕ × X → Y) (a : ℕ) (xs : List X) (s : X) → ((i : ℕ) → i < length xs → f (a + i) ≡ k (a + i, get_or xs i s)) → map f (range_with_len a (length xs)) ≡ map k (enumerate_from a xs)
  map_numbers f k a [] s h = refl
  map_numbers f k a (x ∷ xs) s h =
      let z : a + 0 ≡ a = omega arith in
      let e : f a ≡ k (a, x) = ap f (sym z) ∙ (h 0 (omega arith) ∙ ap (λ i. k (i, x)) z) in
      rw e (ap (λ r. k (a, x) ∷ r) (map_numbers f k (a + 1) xs s (λ i l.
      let y : a + suc i ≡ (a + 1) + i = omega arith in
      ap f (sym y) ∙ (h (suc i) (omega (arith, l)) ∙ ap (λ n. k (n, get_or xs i s)) y))))

  -- the reduced words of the surgery are those of the twist
  pub surgery_words : (g : Sign) → map (reduced d.polygon) (words (surgery d c g)) ≡ twisted d.polygon c g (words d)
  surgery_words g =
      let strand = λ (i : ℕ). surgery_strand d c g (meeting_count d c) (end_of d (second_side p i)) (strand_exits d i) (end_of d (first_side p i)) in
      let f = λ (i : ℕ). reduced p (map side_of (strand i)) in
      let k = λ (e : ℕ × List ℕ). reduced p (image p c g e.1 (second_side p e.0) (first_side p e.0)) in
      let count : length (words d) ≡ arc_count p = length-map d.strands (map side_of) ∙ dok.strand_count in
      ap (map (reduced p)) (map-map (map side_of) strand (below (arc_count p)))
      ∙ (map-map (reduced p) (λ i. map side_of (strand i)) (below (arc_count p))
      ∙ (ap (λ n. map f (below n)) (sym count)
      ∙ map_numbers f k 0 (words d) [] (λ i l.
      let li : i < arc_count p = omega (arith, l, count) in
      let z : 0 + i ≡ i = omega arith in
      let here : f i ≡ k (i, get_or (words d) i [])
      = surgery_word g i li ∙ ap (λ x. reduced p (image p c g x (second_side p i) (first_side p i))) (sym (get_or-map (map side_of) d.strands i [] [] (let w = dok.strand_count in omega (arith, li, w)))) in
      ap f z ∙ (here ∙ ap (λ n. k (n, get_or (words d) i [])) (sym z)))))
