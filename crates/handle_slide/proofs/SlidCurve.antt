-- A curve stays a curve in a slide.
use Rattle.std.proofs.Common.{◌≡◌, ◌≢◌, ℕ, ◌<◌, Bool, true, false, cond, eqb, not, List, [], ◌∷◌, ◌++◌, map, length, filter, reverse, get_or, refl, sym, subst, ap, ap₂, ◌∙◌, ◌⊎◌, inl, inr, append_assoc}
use Rattle.std.specs.List.{flat_map}
use Rattle.std.proofs.lemmas.Bool.{eq-eqb, ne_eqb, or_left, or_right}
use Rattle.std.proofs.lemmas.List.{map-append}
use Rattle.std.proofs.lemmas.List.Concat.{flat_map-append}
use Rattle.std.proofs.lemmas.List.Folds.{flat_map-map}
use Rattle.obd_base.specs.Lists.{Mem, below}
use Rattle.obd_base.specs.declared.points.Exit.{Exit}
use Rattle.obd_base.proofs.lists.Members.{mem_append, mem_filter, mem_map}
use Rattle.obd_base.proofs.lists.Sums.{by_entries}
use Rattle.page_surface.specs.Polygon.{IsPolygon, Polygon, partner, sides}
use Rattle.curve_paths.specs.Alphabet.{Alike, Null, back, cancelled}
use Rattle.curve_paths.specs.Curves.{IsCurve}
use Rattle.handle_slide.specs.Slide.{is_inside, is_slid, side_after, slid_exits, slid_polygon, slid_sides}
use Rattle.handle_slide.proofs.NewSide.{new_row}
use Rattle.handle_slide.proofs.NewNumbers.{length-slid, length-slid_polygon, slid_pairs}
use Rattle.handle_slide.proofs.Order.{Round, after_less, after_moves, not_own, partner_less, rest_other, round, turned_parts}
use Rattle.handle_slide.proofs.SlidChords.{Passes, after_chord, far_chord, far_part, glued_chord, main_part, new_chord, other_chord, other_stays, passes}
use Rattle.handle_slide.proofs.SlidExits.{length-slid_exits, start}
use Rattle.handle_slide.proofs.SlidPassed.{slid_passed}
use Rattle.handle_slide.proofs.SlidPassings.{as_own, at_point, less, moves, new_passings, on_new, points, row, row_after, row_of_k, row_of_other, row_of_partner, table_after}
use Rattle.curve_paths.proofs.Circle.{chord_of, circle, curve_from_null, map_twice}
use Rattle.curve_paths.proofs.CurvePassings.{curve_null, curve_passed}
use Rattle.curve_paths.proofs.NameWords.{all_kept, back_is, flat_same, kept_as, map_reverse, map_same, null_kept, null_turned}
use Rattle.curve_paths.proofs.Passings.{Passing, across, all_across}
use Rattle.curve_paths.proofs.Reduction.{alike_before, alike_middle, null_second, word_and_back}
use Rattle.curve_paths.proofs.Homs.{alike_renamed}
use Rattle.curve_paths.proofs.NameWords.{names}
use Rattle.curve_paths.proofs.Reduction.{null_first}

-- the letters that are kept, one by one
kept_filter : {A : Type 0} (keep : ℕ → Bool) (f : ℕ → ℕ) (g : A → ℕ) (xs : List A) → flat_map (kept_as keep f) (map g xs) ≡ map (λ a. f (g a)) (filter (λ a. keep (g a)) xs)
kept_filter keep f g [] = refl
kept_filter keep f g (x ∷ xs) = go (keep (g x)) (kept_filter keep f g xs)
  where
    go : (b : Bool) → flat_map (kept_as keep f) (map g xs) ≡ map (λ a. f (g a)) (filter (λ a. keep (g a)) xs)
        → cond b (f (g x) ∷ []) [] ++ flat_map (kept_as keep f) (map g xs) ≡ map (λ a. f (g a)) (cond b (x ∷ filter (λ a. keep (g a)) xs) (filter (λ a. keep (g a)) xs))
    go true ih = ap (λ z. f (g x) ∷ z) ih
    go false ih = ih

-- where u w reduces to x, and x stands before r q s, and q is u backwards, x stands as well before r w x-backwards s
gone_over : (u w x y r s : List ℕ) → Alike names (u ++ w) x → Null names (y ++ (r ++ (reverse u ++ s))) → Null names (y ++ (r ++ (w ++ (reverse x ++ s))))
gone_over u w x y r s h null =
    let all : Null names (u ++ (w ++ back names x)) = ap (cancelled names) (sym (append_assoc u w (back names x))) ∙ (alike_before names (u ++ w) x (back names x) h ∙ word_and_back names x) in
    let far : Alike names (w ++ back names x) (back names u) = null_second names u (w ++ back names x) all in
    let there : Alike names (w ++ reverse x) (reverse u) = subst (λ z. Alike names (w ++ z) (reverse u)) (back_is x) (subst (λ z. Alike names (w ++ back names x) z) (back_is u) far) in
    let old : (y ++ r) ++ (reverse u ++ s) ≡ y ++ (r ++ (reverse u ++ s)) = append_assoc y r (reverse u ++ s) in
    let new : (y ++ r) ++ ((w ++ reverse x) ++ s) ≡ y ++ (r ++ (w ++ (reverse x ++ s))) = append_assoc y r ((w ++ reverse x) ++ s) ∙ ap (λ z. y ++ (r ++ z)) (append_assoc w (reverse x) s) in
    ap (cancelled names) (sym new) ∙ (alike_middle names (y ++ r) (w ++ reverse x) (reverse u) s there ∙ (ap (cancelled names) old ∙ null))

module _ (p : Polygon) (is : IsPolygon p) (k : ℕ) (lk : k < sides p) (slides : side_after p k ≢ partner p k) (c : List Exit) (curve : IsCurve p c) where
  abbrev n : ℕ
  n = length c

  abbrev pk : ℕ
  pk = partner p k

  abbrev k1 : ℕ
  k1 = side_after p k

  abbrev many : ℕ
  many = start p k c (length c)

  abbrev line : ℕ → List Passing
  line s = row p is k lk slides c curve s

  abbrev chord : Passing → ℕ
  chord a = chord_of (length c) a

  abbrev phi : ℕ → ℕ
  phi j = main_part p is k lk slides c curve j

  abbrev psi : ℕ → ℕ
  psi j = far_part p is k lk slides c curve j

  abbrev keep : ℕ → Bool
  keep j = not (is_inside p k c j)

  -- the chords at the points of a side
  abbrev word : ℕ → List ℕ
  word s = map chord (line s)

  abbrev r : Round p is k lk slides
  r = round p is k lk slides

  abbrev two : List Passing
  two = line k ++ line k1

  abbrev new_line : List Passing
  new_line = filter (λ a. keep (chord a)) two

  lk1 : k1 < sides p
  lk1 = after_less p is k lk slides

  lpk : pk < sides p
  lpk = partner_less p is k lk slides

  -- the word round the polygon, read from side k
  round_null : Null names (word k ++ (word k1 ++ (flat_map word r.r1 ++ (word pk ++ flat_map word r.r2))))
  round_null =
      let (a, b, e, t) = turned_parts p is k lk slides in
      let whole : Null names (flat_map word (a ++ b)) = subst (λ xs. Null names (flat_map word xs)) e (curve_null p is.pairs c curve) in
      let cut : Null names (flat_map word b ++ flat_map word a) = null_turned (flat_map word a) (flat_map word b) (subst (λ z. Null names z) (flat_map-append word a b) whole) in
      let again : Null names (flat_map word (k ∷ k1 ∷ (r.r1 ++ (pk ∷ r.r2)))) = subst (λ xs. Null names (flat_map word xs)) (sym t ∙ r.round) (subst (λ z. Null names z) (sym (flat_map-append word b a)) cut) in
      subst (λ z. Null names (word k ++ (word k1 ++ z))) (flat_map-append word r.r1 (pk ∷ r.r2)) again

  passing_of : (s : ℕ) → s < sides p → (a : Passing) → Mem a (line s) → Passes p is k lk slides c curve s a
  passing_of s l a m = passes p is k lk slides c curve s l a m

  -- at the other sides all is kept
  other_kept : (f : ℕ → ℕ) (s : ℕ) → s < sides p → s ≢ k → s ≢ k1 → flat_map (kept_as keep f) (word s) ≡ map (λ a. f (chord a)) (line s)
  other_kept f s l x y =
      all_kept keep f (word s) (λ j m.
      let (a, ma, e) = mem_map chord j (line s) m in
      ap keep e ∙ ap not (other_stays p is k lk slides c curve s a (passing_of s l a ma) x y))
      ∙ map_twice f chord (line s)

  others_kept : (f : ℕ → ℕ) (xs : List ℕ) → ((s : ℕ) → Mem s xs → (s < sides p) × (s ≢ k) × (s ≢ k1) × (s ≢ pk)) → flat_map (kept_as keep f) (flat_map word xs) ≡ flat_map (λ s. map (λ a. f (chord a)) (line s)) xs
  others_kept f [] h = refl
  others_kept f (x ∷ xs) h =
      let o = h x (inl refl) in
      flat_map-append (kept_as keep f) (word x) (flat_map word xs) ∙ ap₂ (λ u v. u ++ v) (other_kept f x o.0 o.1 o.2) (others_kept f xs (λ s m. h s (inr m)))

  -- the word with the inside chords left out
  abbrev part : (ℕ → ℕ) → ℕ → List ℕ
  part f s = map (λ a. f (chord a)) (line s)

  left_null : (f : ℕ → ℕ) → Null names (map (λ a. f (chord a)) new_line ++ (flat_map (part f) r.r1 ++ (part f pk ++ flat_map (part f) r.r2)))
  left_null f =
      let h = kept_as keep f in
      let rest1 = others_kept f r.r1 (λ s m. rest_other p is k lk slides s (inl m)) in
      let rest2 = others_kept f r.r2 (λ s m. rest_other p is k lk slides s (inr m)) in
      let partner_part = other_kept f pk lpk (not_own p is k lk slides) (λ q. slides (sym q)) in
      let first : flat_map h (word k) ++ flat_map h (word k1) ≡ map (λ a. f (chord a)) new_line
      = sym (flat_map-append h (word k) (word k1)) ∙ (ap (flat_map h) (sym (map-append chord (line k) (line k1))) ∙ kept_filter keep f chord two) in
      let parts : flat_map h (word k ++ (word k1 ++ (flat_map word r.r1 ++ (word pk ++ flat_map word r.r2))))
      ≡ map (λ a. f (chord a)) new_line ++ (flat_map (part f) r.r1 ++ (part f pk ++ flat_map (part f) r.r2))
      = flat_map-append h (word k) (word k1 ++ (flat_map word r.r1 ++ (word pk ++ flat_map word r.r2)))
      ∙ (ap (λ z. flat_map h (word k) ++ z) (flat_map-append h (word k1) (flat_map word r.r1 ++ (word pk ++ flat_map word r.r2))
      ∙ ap (λ z. flat_map h (word k1) ++ z) (flat_map-append h (flat_map word r.r1) (word pk ++ flat_map word r.r2)
      ∙ ap₂ (λ u v. u ++ v) rest1 (flat_map-append h (word pk) (flat_map word r.r2) ∙ ap₂ (λ u v. u ++ v) partner_part rest2)))
      ∙ (sym (append_assoc (flat_map h (word k)) (flat_map h (word k1)) _) ∙ ap (λ z. z ++ (flat_map (part f) r.r1 ++ (part f pk ++ flat_map (part f) r.r2))) first)) in
      subst (λ z. Null names z) parts (null_kept keep f _ round_null)

  -- the two sides together are the new side
  sides_alike : Alike names (word k ++ word k1) (map chord new_line)
  sides_alike =
      let same : flat_map (part (λ j. j)) r.r1 ++ (part (λ j. j) pk ++ flat_map (part (λ j. j)) r.r2) ≡ flat_map word r.r1 ++ (word pk ++ flat_map word r.r2) = refl in
      let rest : List ℕ = flat_map word r.r1 ++ (word pk ++ flat_map word r.r2) in
      null_first names (word k ++ word k1) (flat_map word r.r1 ++ (word pk ++ flat_map word r.r2))
      (subst (λ z. Null names z) (sym (append_assoc (word k) (word k1) (flat_map word r.r1 ++ (word pk ++ flat_map word r.r2)))) round_null)
      ∙ sym (null_first names (map chord new_line) (flat_map word r.r1 ++ (word pk ++ flat_map word r.r2)) (left_null (λ j. j)))

  far_alike : Alike names (map psi (word k) ++ map psi (word k1)) (map psi (map chord new_line))
  far_alike = subst (λ z. Alike names z (map psi (map chord new_line))) (map-append psi (word k) (word k1)) (alike_renamed names names psi (λ x. refl) (word k ++ word k1) (map chord new_line) sides_alike)

  -- the words of the sides after the slide
  abbrev word_after : ℕ → List ℕ
  word_after s = map (chord_of many) (row_after p is k lk slides c curve s)

  two_slid : (s : ℕ) → (s ≡ k) ⊎ (s ≡ k1) → is_slid p k s ≡ true
  two_slid s (inl e) = or_left (eqb s k) (eqb s k1) (eq-eqb s k e)
  two_slid s (inr e) = or_right (eqb s k) (eqb s k1) (eq-eqb s k1 e)

  not_true : (b : Bool) → not b ≡ true → b ≡ false
  not_true false e = refl
  not_true true e = sym e

  -- a passing of the new side is one of the two
  new_passing : (a : Passing) → Mem a new_line → (s : ℕ) × Passes p is k lk slides c curve s a × (is_slid p k s ≡ true) × (is_inside p k c (chord a) ≡ false)
  new_passing a m =
      let (m', t) = mem_filter (λ a. keep (chord a)) a two m in
      let f = not_true (is_inside p k c (chord a)) t in
      elim (mem_append a (line k) (line k1) m') [
        | inl u ↦ (k, passing_of k lk a u, two_slid k (inl refl), f)
        | inr u ↦ (k1, passing_of k1 lk1 a u, two_slid k1 (inr refl), f)
      ]

  new_is : new_passings p is k lk slides c curve ≡ map (λ a. on_new p is k lk slides c curve a) new_line
  new_is =
      sym (map_twice (λ a. on_new p is k lk slides c curve a) (λ q. at_point p is k lk slides c curve q) (points p is k lk slides c curve))
      ∙ ap (map (λ a. on_new p is k lk slides c curve a)) (new_row p is k (moves p is k lk slides c curve) lk (less p is k lk slides c curve) c curve)

  word_new : word_after k ≡ map (λ a. phi (chord a)) new_line
  word_new =
      ap (map (chord_of many)) (row_of_k p is k lk slides c curve ∙ new_is)
      ∙ (map_twice (chord_of many) (λ a. on_new p is k lk slides c curve a) new_line
      ∙ map_same _ (λ a. phi (chord a)) new_line (λ a m. let (s, h, t, f) = new_passing a m in new_chord p is k lk slides c curve s a h t f))

  word_partner : word_after pk ≡ reverse (map psi (map chord new_line))
  word_partner =
      ap (map (chord_of many)) (row_of_partner p is k lk slides c curve ∙ ap all_across new_is)
      ∙ (map_reverse (chord_of many) (map across (map (λ a. on_new p is k lk slides c curve a) new_line))
      ∙ ap reverse (ap (map (chord_of many)) (map_twice across (λ a. on_new p is k lk slides c curve a) new_line)
      ∙ (map_twice (chord_of many) (λ a. across (on_new p is k lk slides c curve a)) new_line
      ∙ (map_same _ (λ a. psi (chord a)) new_line (λ a m. let (s, h, t, f) = new_passing a m in far_chord p is k lk slides c curve s a h t f)
      ∙ sym (map_twice psi chord new_line)))))

  word_k1 : word_after k1 ≡ map psi (word k1)
  word_k1 =
      ap (map (chord_of many)) (row_of_other p is k lk slides c curve k1 (ne_eqb k1 k (after_moves p is k lk slides)) (ne_eqb k1 pk slides))
      ∙ (map_twice (chord_of many) (λ a. as_own p is k lk slides c curve a) (line k1)
      ∙ (map_same _ (λ a. psi (chord a)) (line k1) (λ a m. after_chord p is k lk slides c curve a (passing_of k1 lk1 a m)) ∙ sym (map_twice psi chord (line k1))))

  words_other : (xs : List ℕ) → ((s : ℕ) → Mem s xs → (s < sides p) × (s ≢ k) × (s ≢ k1) × (s ≢ pk)) → flat_map word_after xs ≡ flat_map (part phi) xs
  words_other xs h = flat_same word_after (part phi) xs (λ s m.
      let o = h s m in
      ap (map (chord_of many)) (row_of_other p is k lk slides c curve s (ne_eqb s k o.1) (ne_eqb s pk o.3))
      ∙ (map_twice (chord_of many) (λ a. as_own p is k lk slides c curve a) (line s)
      ∙ map_same _ (λ a. phi (chord a)) (line s) (λ a ma. other_chord p is k lk slides c curve s a (passing_of s o.0 a ma) o.1 o.2 o.3)))

  -- the partner's word, in the parts behind it
  partner_word : part phi pk ≡ reverse (map psi (word k))
  partner_word =
      ap (map (λ a. phi (chord a))) ((curve_passed p is.pairs c curve).turned k lk)
      ∙ (map_reverse (λ a. phi (chord a)) (map across (line k))
      ∙ ap reverse (map_twice (λ a. phi (chord a)) across (line k)
      ∙ (map_same _ (λ a. psi (chord a)) (line k) (λ a m. glued_chord p is k lk slides c curve a (passing_of k lk a m)) ∙ sym (map_twice psi chord (line k)))))

  slid_null : Null names (flat_map word_after (slid_sides p k))
  slid_null =
      let main : Null names (map (λ a. phi (chord a)) new_line ++ (flat_map (part phi) r.r1 ++ (reverse (map psi (word k)) ++ flat_map (part phi) r.r2)))
      = subst (λ z. Null names (map (λ a. phi (chord a)) new_line ++ (flat_map (part phi) r.r1 ++ (z ++ flat_map (part phi) r.r2)))) partner_word (left_null phi) in
      let over = gone_over (map psi (word k)) (map psi (word k1)) (map psi (map chord new_line)) (map (λ a. phi (chord a)) new_line) (flat_map (part phi) r.r1) (flat_map (part phi) r.r2) far_alike main in
      let parts : flat_map word_after (slid_sides p k)
      ≡ map (λ a. phi (chord a)) new_line ++ (flat_map (part phi) r.r1 ++ (map psi (word k1) ++ (reverse (map psi (map chord new_line)) ++ flat_map (part phi) r.r2)))
      = ap (flat_map word_after) r.slid
      ∙ (ap₂ (λ u v. u ++ v) word_new (flat_map-append word_after r.r1 (k1 ∷ pk ∷ r.r2)
      ∙ ap₂ (λ u v. u ++ v) (words_other r.r1 (λ s m. rest_other p is k lk slides s (inl m)))
      (ap₂ (λ u v. u ++ v) word_k1 (ap₂ (λ u v. u ++ v) word_partner (words_other r.r2 (λ s m. rest_other p is k lk slides s (inr m)))))))
      in
      subst (λ z. Null names z) (sym parts) over

  circle_is : circle (length (slid_exits p k c)) (sides (slid_polygon p k)) (λ i. table_after p is k lk slides c curve i) ≡ flat_map word_after (slid_sides p k)
  circle_is =
      ap₂ (λ m u. circle m u (λ i. table_after p is k lk slides c curve i)) (length-slid_exits p k c) (length-slid_polygon p is k lk slides ∙ sym (length-slid p is k lk slides))
      ∙ (sym (flat_map-map word_after (λ i. get_or (slid_sides p k) i 0) (below (length (slid_sides p k))))
      ∙ ap (flat_map word_after) (sym (by_entries 0 (slid_sides p k) (length (slid_sides p k)) refl)))

  -- the exits after a slide are a curve of the polygon after it
  pub slid_curve_is : IsCurve (slid_polygon p k) (slid_exits p k c)
  slid_curve_is =
      curve_from_null (slid_polygon p k) (slid_pairs p is k lk slides) (slid_exits p k c) (λ i. table_after p is k lk slides c curve i) (slid_passed p is k lk slides c curve)
      (subst (λ z. Null names z) (sym circle_is) slid_null)
