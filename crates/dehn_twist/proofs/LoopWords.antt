-- The words of the loops, and of a strand's chord with its loops.
use Rattle.std.proofs.Common.{◌≡◌, ◌≢◌, ℕ, suc, ◌+◌, ◌-◌, ◌<◌, ◌≤◌, Bool, true, false, cond, leb, ltb, not, ◌&&◌, List, [], ◌∷◌, ◌++◌, map, reverse, length, take, drop, refl, sym, ◌∙◌, ap, ap₂, inl, inr, arith, append_assoc, append-nil}
use Rattle.std.specs.List.{filter, flat_map}
use Rattle.std.proofs.lemmas.Bool.{and_from, and_parts, cases_lt, le-leb, le-ltb, leb-true, lt-leb, lt-ltb, ltb-true, not-false, not-true, true≢false}
use Rattle.std.proofs.lemmas.List.{drop-map, get_or-map, length-map, map-append, take-map}
use Rattle.std.proofs.lemmas.List.Concat.{flat_map-append}
use Rattle.std.proofs.lemmas.List.FromFn.{fill_by_all}
use Rattle.obd_base.specs.Lists.{Mem, below}
use Rattle.obd_base.specs.declared.points.Exit.{Exit}
use Rattle.obd_base.specs.declared.points.Sign.{Sign}
use Rattle.obd_base.specs.declared.points.Sign.TheVariants.{Minus, Plus}
use Rattle.obd_base.proofs.lists.Members.{filter_mem, mem_filter}
use Rattle.page_surface.specs.Drawing.{Chord, Drawing, IsEmbedded, beyond, exit}
use Rattle.page_surface.specs.Polygon.{Pairs, Polygon, partner}
use Rattle.page_surface.specs.Words.{inverse}
use Rattle.curve_paths.specs.Curves.{IsCurve, curve_entry, curve_spot, exit_at, previous, rho, signed, turned}
use Rattle.curve_paths.specs.Alphabet.{Alike, Alphabet, back, cancelled}
use Rattle.path_words.proofs.SideLetters.{side_letters}
use Rattle.dehn_twist.specs.Surgery.{chord_at, copy_of, curve_mate, curve_number, curve_ring, goes_up, is_chord_end, is_forward, is_plus, line_index, loop_along, loop_at, loops, meeting_number, meetings, meetings_upto, meets_at, strand_number}
use Rattle.dehn_twist.proofs.Blocks.{filter_same, filter_twice}
use Rattle.dehn_twist.proofs.RisingLists.{flat_reverse, rises_filter}
use Rattle.dehn_twist.proofs.ChordRuns.{ring_rises}
use Rattle.dehn_twist.proofs.CopySums.{mem_meetings}
use Rattle.dehn_twist.proofs.CurveRing.{EndOf, at_end, at_start, chord_at_end, chord_at_start, in_ring, is_first, is_last, mate_is, ring_in, which_end}
use Rattle.dehn_twist.proofs.Fronts.{front}
use Rattle.dehn_twist.proofs.LineOrder.{map_turned_back}
use Rattle.dehn_twist.proofs.Merged.{Stands, curve_number_is, curve_rises, kinds_apart}
use Rattle.dehn_twist.proofs.NewCircle.{map-map}
use Rattle.dehn_twist.proofs.BetweenEnds.{beyond_in, beyond_out, least, most}
use Rattle.dehn_twist.proofs.Passing.{filter_split, flat_map_same', front_number, map_flat_map, placed}
use Rattle.curve_paths.proofs.CurvePlanar.{all_points, curve_planar}
use Rattle.curve_paths.proofs.CurvePoints.{In, following-previous, mate, previous-less}
use Rattle.path_words.proofs.CurveWords.{point_word, product_once, read_entry, read_exit, turned_following}
use Rattle.curve_paths.proofs.Planar.{Interval, Tells}
use Rattle.curve_paths.proofs.Reduction.{alike_back, back-append, back-back, back_and_word, null_out}
use Rattle.page_surface.specs.Drawing.{differ}

map-turned : {A B : Type 0} (f : A → B) (i : ℕ) (xs : List A) → map f (turned i xs) ≡ turned i (map f xs)
map-turned f i xs = map-append f (drop i xs) (take i xs) ∙ (ap (λ z. z ++ map f (take i xs)) (sym (drop-map f i xs)) ∙ ap (λ z. drop i (map f xs) ++ z) (sym (take-map f i xs)))

abbrev side_of : Exit → ℕ
side_of e = e.side

module _ (d : Drawing) (dok : IsEmbedded d) (c : List Exit) (curve : IsCurve d.polygon c) where
  abbrev p : Polygon
  p = d.polygon

  abbrev ok : Pairs d.polygon
  ok = dok.polygon.pairs

  abbrev L : Alphabet ℕ
  L = side_letters d.polygon dok.polygon.pairs

  abbrev w : List ℕ
  w = map (λ e. e.side) c

  abbrev num : Exit → ℕ
  num q = curve_number d c q

  abbrev word : Sign → Exit → List ℕ
  word g q = point_word d.polygon dok.polygon.pairs c curve g q

  sides_by_number : map (λ b. (exit_at c b).side) (below (length c)) ≡ w
  sides_by_number = sym (fill_by_all (λ b. (exit_at c b).side) w (length c) 0 (length-map c (λ e. e.side)) (λ k l. get_or-map (λ e. e.side) c k (exit 0 0) 0 l))

  forward_sides : (g : Sign) (total a n : ℕ) → map side_of (loop_along d c g true total a n) ≡ turned a w
  forward_sides g total a n =
      map-map side_of (λ b. copy_of d c total (exit_at c b) (line_index g total (meetings_upto d c (suc b)) n)) (turned a (below (length c)))
      ∙ (map-turned (λ b. (exit_at c b).side) a (below (length c)) ∙ ap (turned a) sides_by_number)

  backward_sides : (g : Sign) (total a n : ℕ) → map side_of (loop_along d c g false total a n) ≡ inverse p (turned a w)
  backward_sides g total a n =
      let f = λ (b : ℕ). copy_of d c total (curve_entry p c (exit_at c b)) (total - 1 - line_index g total (meetings_upto d c (suc b)) n) in
      let ys = turned a (below (length c)) in
      map_turned_back side_of (map f ys)
      ∙ ap reverse (map-map side_of f ys
      ∙ (sym (map-map (partner p) (λ b. (exit_at c b).side) ys) ∙ ap (map (partner p)) (map-turned (λ b. (exit_at c b).side) a (below (length c)) ∙ ap (turned a) sides_by_number)))

  -- the loop at a meeting reads the curve's word from there
  pub loop_word : (g : Sign) (total : ℕ) (t : Chord) (q : Exit) → In p ok c curve q → map side_of (loop_at d c g total t q) ≡ cond (goes_up t) (word g q) (back L (word g q))
  loop_word g total t q h = go (which_end p ok c curve q h)
    where
      W : ℕ → List ℕ
      W a = turned a w

      -- by the direction of the loop
      along : (g : Sign) (b : Bool) (a n : ℕ) → map side_of (loop_along d c g b total a n) ≡ cond b (turned a w) (inverse p (turned a w))
      along g true a n = forward_sides g total a n
      along g false a n = backward_sides g total a n

      at_last : (g : Sign) (up : Bool) (x : List ℕ) → cond (differ (is_plus g) (differ up true)) x (inverse p x) ≡ cond up (signed p g x) (back L (signed p g x))
      at_last Plus true x = refl
      at_last Plus false x = refl
      at_last Minus true x = refl
      at_last Minus false x = sym (back-back L x)

      at_first : (g : Sign) (up : Bool) (x : List ℕ) → cond (differ (is_plus g) (differ up false)) x (inverse p x) ≡ cond up (signed p g (inverse p x)) (back L (signed p g (inverse p x)))
      at_first Plus true x = refl
      at_first Plus false x = sym (back-back L x)
      at_first Minus true x = sym (back-back L x)
      at_first Minus false x = sym (back-back L (inverse p x))

      go : EndOf p ok c curve q → map side_of (loop_at d c g total t q) ≡ cond (goes_up t) (word g q) (back L (word g q))
      go (is_last a l e) =
          let ends : is_chord_end c q ≡ true = ap (is_chord_end c) e ∙ at_end p ok c curve a l in
          let ca : chord_at p c q ≡ a = ap (chord_at p c) e ∙ chord_at_end p ok c curve a l in
          let read : rho p c q.side q.place ≡ turned a w = ap (λ z. rho p c z.side z.place) e ∙ read_exit p ok c curve a l in
          ap₂ (λ b s. map side_of (loop_along d c g (is_forward g t b) total s (meeting_number d c s t))) ends ca
          ∙ (along g (is_forward g t true) a (meeting_number d c a t)
          ∙ (at_last g (goes_up t) (turned a w) ∙ ap (λ x. cond (goes_up t) (signed p g x) (back L (signed p g x))) (sym read)))
      go (is_first a l e) =
          let i = previous (length c) a in
          let li = previous-less (length c) a l in
          let ends : is_chord_end c q ≡ false = ap (is_chord_end c) e ∙ at_start p ok c curve a l in
          let ca : chord_at p c q ≡ a = ap (chord_at p c) e ∙ chord_at_start p ok c curve a l in
          let turn : turned (i + 1) w ≡ turned a w = sym (turned_following p ok c curve i li) ∙ ap (λ z. turned z w) (following-previous (length c) a l) in
          let read : rho p c q.side q.place ≡ inverse p (turned a w) = ap (λ z. rho p c z.side z.place) e ∙ (read_entry p ok c curve i li ∙ ap (inverse p) turn) in
          ap₂ (λ b s. map side_of (loop_along d c g (is_forward g t b) total s (meeting_number d c s t))) ends ca
          ∙ (along g (is_forward g t false) a (meeting_number d c a t)
          ∙ (at_first g (goes_up t) (turned a w) ∙ ap (λ x. cond (goes_up t) (signed p g x) (back L (signed p g x))) (sym read)))

  -- the product of inverse words from the last point on
  back_product : (g : Sign) (qs : List Exit) → flat_map (λ q. back L (word g q)) (reverse qs) ≡ back L (flat_map (word g) qs)
  back_product g [] = refl
  back_product g (q ∷ qs) = flat_reverse (λ q. back L (word g q)) q qs ∙ (ap (λ z. z ++ back L (word g q)) (back_product g qs) ∙ sym (back-append L (word g q) (flat_map (word g) qs)))

  module _ (a b : Exit) (ha : Stands d dok c curve a) (hb : Stands d dok c curve b) where
    abbrev t : Chord
    t = record { from = strand_number d c a; to = strand_number d c b }

    abbrev ring : List Exit
    ring = curve_ring d.polygon c

    abbrev found : List Exit
    found = filter (meets_at d c t) ring

    -- the curve's points between the ends of the chord
    abbrev between : ℕ → ℕ → List Exit
    between l h = filter (λ q. leb l (num q) && ltb (num q) h) ring

    -- points with merged numbers between two strands' points
    module _ (l h : ℕ) (order : l ≤ h) (apart : (q : Exit) → Mem q ring → (num q ≢ l) × (num q ≢ h)) (low : least t ≡ l) (high : most t ≡ h) where
      between_test : (q : Exit) → Mem q ring → (leb l (num q) && ltb (num q) h) ≡ beyond t (num q)
      between_test q m = elim (cases_lt (num q) l) [
        | inl u ↦ ap (λ z. z && ltb (num q) h) (lt-leb l (num q) u) ∙ sym (beyond_out t (num q) (omega (arith, low, high, order)) (inl (omega (arith, u, low))))
        | inr u ↦ elim (cases_lt (num q) h) [
          | inl v ↦ ap₂ (λ x y. x && y) (le-leb l (num q) u) (lt-ltb (num q) h v) ∙ sym (beyond_in t (num q) (let n = (apart q m).0 in omega (arith, u, low, n)) (omega (arith, v, high)))
          | inr v ↦ ap₂ (λ x y. x && y) (le-leb l (num q) u) (le-ltb (num q) h v) ∙ sym (beyond_out t (num q) (omega (arith, low, high, order)) (inr (let n = (apart q m).1 in omega (arith, v, high, n))))
        ]
      ]

      in_between : (q : Exit) → In p ok c curve q → l ≤ num q → num q < h → Mem q (between l h)
      in_between q i u v = filter_mem (λ q. leb l (num q) && ltb (num q) h) q ring (in_ring p ok c curve q i) (and_from (leb l (num q)) (ltb (num q) h) (le-leb l (num q) u) (lt-ltb (num q) h v))

      from_between : (q : Exit) → Mem q (between l h) → Mem q ring × (l ≤ num q) × (num q < h)
      from_between q m =
          let r = mem_filter (λ q. leb l (num q) && ltb (num q) h) q ring m in
          let s = and_parts (leb l (num q)) (ltb (num q) h) r.1 in
          (r.0, leb-true l (num q) s.0, ltb-true (num q) h s.1)

      less_num : (x y : Exit) → In p ok c curve x → In p ok c curve y → curve_spot p c x < curve_spot p c y → num x < num y
      less_num x y i j s =
          let u = curve_number_is d dok c curve x i in
          let v = curve_number_is d dok c curve y j in
          let r = curve_rises d dok c curve (curve_spot p c x) (curve_spot p c y) s in
          omega (arith, u, v, r)

      interval : Interval (In p ok c curve) (curve_spot p c) (mate p ok c curve) (curve_planar p ok c curve) (between l h)
      interval = record {
        inside = λ x m. ring_in p ok c curve x (from_between x m).0;
        rises = rises_filter (curve_spot p c) (λ q. leb l (num q) && ltb (num q) h) ring (all_points p ok c curve).rises;
        between = λ x y z mx mz iy u v.
            let fx = from_between x mx in
            let fz = from_between z mz in
            let r = less_num x y (ring_in p ok c curve x fx.0) iy u in
            let s = less_num y z iy (ring_in p ok c curve z fz.0) v in
            in_between y iy (omega (arith, fx.1, r)) (omega (arith, fz.2, s));
      }

      abbrev away : Exit → Bool
      away q = not (beyond t (num (curve_mate p c q)))

      tells : Tells (In p ok c curve) (curve_spot p c) (mate p ok c curve) (curve_planar p ok c curve) away (between l h)
      tells = record {
        far = λ q m e k.
            let i = ring_in p ok c curve q (from_between q m).0 in
            let f = from_between (mate p ok c curve q) k in
            let s = sym (between_test (mate p ok c curve q) f.0) ∙ and_from (leb l (num (mate p ok c curve q))) (ltb (num (mate p ok c curve q)) h) (le-leb l (num (mate p ok c curve q)) f.1) (lt-ltb (num (mate p ok c curve q)) h f.2) in
            true≢false (sym s ∙ (ap (λ z. beyond t (num z)) (sym (mate_is p ok c curve q i)) ∙ not-true (beyond t (num (curve_mate p c q))) e));
        near = λ q m e.
            let i = ring_in p ok c curve q (from_between q m).0 in
            let j = (curve_planar p ok c curve).stays q i in
            let s = ap (λ z. beyond t (num z)) (sym (mate_is p ok c curve q i)) ∙ not-false (beyond t (num (curve_mate p c q))) e in
            let v = and_parts (leb l (num (mate p ok c curve q))) (ltb (num (mate p ok c curve q)) h) (between_test (mate p ok c curve q) (in_ring p ok c curve (mate p ok c curve q) j) ∙ s) in
            in_between (mate p ok c curve q) j (leb-true l (num (mate p ok c curve q)) v.0) (ltb-true (num (mate p ok c curve q)) h v.1);
      }

      -- their product is that over the meetings
      between_product : (g : Sign) → Alike L (flat_map (word g) (between l h)) (flat_map (word g) found)
      between_product g =
          product_once p ok c curve g away (between l h) interval tells
          ∙ ap (λ qs. cancelled L (flat_map (word g) qs))
          (filter_twice away (λ q. leb l (num q) && ltb (num q) h) ring ∙ filter_same (λ q. (leb l (num q) && ltb (num q) h) && away q) (meets_at d c t) ring (λ q m. ap (λ z. z && away q) (between_test q m)))

    -- a strand's chord with its loops reads what lies before its start undone, and what lies before its end
    pub chord_word : (g : Sign) (total : ℕ) → Alike L (map side_of (loops d c g total a b)) (back L (front p ok c curve g (placed d dok c curve a)) ++ front p ok c curve g (placed d dok c curve b))
    chord_word g total = go (goes_up t) refl
      where
        A : ℕ
        A = strand_number d c a

        B : ℕ
        B = strand_number d c b

        fa : front p ok c curve g (placed d dok c curve a) ≡ flat_map (word g) (filter (λ q. ltb (num q) A) ring)
        fa = front_number d dok c curve g a ha

        fb : front p ok c curve g (placed d dok c curve b) ≡ flat_map (word g) (filter (λ q. ltb (num q) B) ring)
        fb = front_number d dok c curve g b hb

        free : (q : Exit) → Mem q ring → (num q ≢ A) × (num q ≢ B)
        free q m = let i = ring_in p ok c curve q m in (kinds_apart d dok c curve q a i ha, kinds_apart d dok c curve q b i hb)

        words : map side_of (loops d c g total a b) ≡ flat_map (λ q. cond (goes_up t) (word g q) (back L (word g q))) (meetings d c t)
        words =
            map_flat_map side_of (loop_at d c g total t) (meetings d c t)
            ∙ flat_map_same' (λ q. map side_of (loop_at d c g total t q)) (λ q. cond (goes_up t) (word g q) (back L (word g q))) (meetings d c t)
            (λ q m. loop_word g total t q (ring_in p ok c curve q (mem_meetings d c t q m).0))

        go : (e : Bool) → goes_up t ≡ e → Alike L (map side_of (loops d c g total a b)) (back L (front p ok c curve g (placed d dok c curve a)) ++ front p ok c curve g (placed d dok c curve b))
        go true e =
            let l : A < B = ltb-true A B e in
            let o : A ≤ B = omega (arith, l) in
            let x = flat_map (word g) (filter (λ q. ltb (num q) A) ring) in
            let y = flat_map (word g) (between A B) in
            let part : flat_map (word g) (filter (λ q. ltb (num q) B) ring) ≡ x ++ y
            = ap (flat_map (word g)) (filter_split (λ q. num q) A B ring o (ring_rises d dok c curve g)) ∙ flat_map-append (word g) (filter (λ q. ltb (num q) A) ring) (between A B) in
            let low : least t ≡ A = ap (λ z. cond z A B) e in
            let high : most t ≡ B = ap (λ z. cond z B A) e in
            let prod = between_product A B o free low high g in
            ap (cancelled L) (words ∙ ap (λ z. flat_map (λ q. cond z (word g q) (back L (word g q))) (cond z found (reverse found))) e)
            ∙ (sym prod
            ∙ sym (ap (cancelled L) (ap₂ (λ u v. back L u ++ v) fa (fb ∙ part)) ∙ (ap (cancelled L) (sym (append_assoc (back L x) x y)) ∙ null_out L [] (back L x ++ x) y (back_and_word L x))))
        go false e =
            let o : B ≤ A = elim (cases_lt A B) [ inl h ↦ absurd (true≢false (sym (lt-ltb A B h) ∙ e)) | inr h ↦ h ] in
            let x = flat_map (word g) (filter (λ q. ltb (num q) B) ring) in
            let y = flat_map (word g) (between B A) in
            let part : flat_map (word g) (filter (λ q. ltb (num q) A) ring) ≡ x ++ y
            = ap (flat_map (word g)) (filter_split (λ q. num q) B A ring o (ring_rises d dok c curve g)) ∙ flat_map-append (word g) (filter (λ q. ltb (num q) B) ring) (between B A) in
            let low : least t ≡ B = ap (λ z. cond z A B) e in
            let high : most t ≡ A = ap (λ z. cond z B A) e in
            let prod = between_product B A o (λ q m. let f = free q m in (f.1, f.0)) low high g in
            ap (cancelled L) (words ∙ (ap (λ z. flat_map (λ q. cond z (word g q) (back L (word g q))) (cond z found (reverse found))) e ∙ back_product g found))
            ∙ (sym (alike_back L y (flat_map (word g) found) prod)
            ∙ sym (ap (cancelled L) (ap₂ (λ u v. back L u ++ v) (fa ∙ part) fb ∙ (ap (λ z. z ++ x) (back-append L x y) ∙ append_assoc (back L y) (back L x) x))
            ∙ (ap (λ z. cancelled L (back L y ++ z)) (sym (append-nil (back L x ++ x))) ∙ (null_out L (back L y) (back L x ++ x) [] (back_and_word L x) ∙ ap (cancelled L) (append-nil (back L y))))))
