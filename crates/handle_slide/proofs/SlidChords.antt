-- What becomes of each chord of a curve in a slide: the part that is left of it, and the part that goes over to side k + 1.
use Rattle.std.proofs.Common.{◌≡◌, ◌≢◌, ℕ, suc, ◌+◌, ◌-◌, ◌<◌, ◌≤◌, Bool, true, false, cond, eqb, ◌&&◌, not, List, length, refl, sym, ap, ap₂, ◌∙◌, inl, inr, arith}
use Rattle.std.proofs.lemmas.Bool.{cases_Bool, eq-eqb, ne_eqb, or_left, or_right, or_from}
use Rattle.obd_base.specs.Lists.{Mem, below}
use Rattle.obd_base.specs.declared.points.Exit.{Exit}
use Rattle.obd_base.proofs.lists.Below.{bit, mem_below}
use Rattle.obd_base.proofs.lists.Members.{mem_map}
use Rattle.page_surface.specs.Drawing.{exit}
use Rattle.page_surface.specs.Polygon.{IsPolygon, Polygon, partner, sides}
use Rattle.curve_paths.specs.Curves.{IsCurve, curve_points, exit_at, previous}
use Rattle.handle_slide.specs.Slide.{is_inside, is_slid, side_after, slid_exit}
use Rattle.handle_slide.proofs.Order.{after_moves, not_own}
use Rattle.handle_slide.proofs.SlidExits.{gone, own_at, post, post_at, pre, pre_at, start, start_suc}
use Rattle.handle_slide.proofs.SlidPassings.{as_own, on_new, row}
use Rattle.handle_slide.proofs.Steps.{before, before_following, wrap, wrap_following, wrap_less}
use Rattle.curve_paths.proofs.Circle.{chord_of}
use Rattle.curve_paths.proofs.CurvePassings.{passing, passing_entry, passing_exit}
use Rattle.curve_paths.proofs.Passings.{Passing, across, into, out}
use Rattle.curve_paths.proofs.CurvePoints.{Made, entering, following, leaving, made, previous-following}
use Rattle.curve_paths.proofs.Members.{mem_get_or}

module _ (p : Polygon) (is : IsPolygon p) (k : ℕ) (lk : k < sides p) (slides : side_after p k ≢ partner p k) (c : List Exit) (curve : IsCurve p c) where
  abbrev n : ℕ
  n = length c

  abbrev pk : ℕ
  pk = partner p k

  abbrev k1 : ℕ
  k1 = side_after p k

  abbrev letter : ℕ → ℕ
  letter i = (exit_at c i).side

  abbrev many : ℕ
  many = start p k c (length c)

  abbrev round_to : ℕ → ℕ
  round_to b = wrap (length c) (λ j. length (slid_exit p k c j)) b

  abbrev one_before : ℕ → ℕ
  one_before b = before (length c) (λ j. length (slid_exit p k c j)) b

  -- the chord that ends at the next exit after the slide
  abbrev pub main_part : ℕ → ℕ
  main_part j = wrap (length c) (λ j. length (slid_exit p k c j)) (start p k c j)

  -- the chord that runs to or from the new side behind it
  abbrev pub far_part : ℕ → ℕ
  far_part j =
      cond (is_inside p k c j) (wrap (length c) (λ j. length (slid_exit p k c j)) (start p k c j))
      (cond (is_slid p k (exit_at c j).side) (wrap (length c) (λ j. length (slid_exit p k c j)) (suc (start p k c j))) (before (length c) (λ j. length (slid_exit p k c j)) (start p k c j)))

  -- a passing through a side is that of an exit there, or of an entry
  pub data Passes (s : ℕ) (a : Passing) : Type 0 where
    leaves_by : (i : ℕ) → i < length c → a ≡ out i → (exit_at c i).side ≡ s → Passes s a
    enters_by : (i : ℕ) → i < length c → a ≡ into i → partner p (exit_at c i).side ≡ s → Passes s a

  pub passes : (s : ℕ) → s < sides p → (a : Passing) → Mem a (row p is k lk slides c curve s) → Passes s a
  passes s ls a m =
      let (j, mj, e) = mem_map (λ j. passing p is.pairs c curve (exit s j)) a (below (curve_points p c s)) m in
      go (exit s j) refl e (made p is.pairs c curve (exit s j) (ls, mem_below _ j mj))
    where
      go : (q : Exit) → q.side ≡ s → a ≡ passing p is.pairs c curve q → Made p is.pairs c curve q → Passes s a
      go q side e (leaving i l t) = leaves_by i l (e ∙ (ap (passing p is.pairs c curve) t ∙ passing_exit p is.pairs c curve i l)) (ap (λ (x : Exit). x.side) (sym t) ∙ side)
      go q side e (entering i l t) = enters_by i l (e ∙ (ap (passing p is.pairs c curve) t ∙ passing_entry p is.pairs c curve i l)) (ap (λ (x : Exit). x.side) (sym t) ∙ side)

  slid_k : is_slid p k k ≡ true
  slid_k = or_left (eqb k k) (eqb k k1) (eq-eqb k k refl)

  slid_after : is_slid p k (side_after p k) ≡ true
  slid_after = or_right (eqb k1 k) (eqb k1 k1) (eq-eqb k1 k1 refl)

  slid_not : (s : ℕ) → s ≢ k → s ≢ side_after p k → is_slid p k s ≡ false
  slid_not s a b = or_from (eqb s k) (eqb s k1) (ne_eqb s k a) (ne_eqb s k1 b)

  -- a letter that isn't slid doesn't come first, and an entry that isn't slid doesn't come last
  pre_no : (i : ℕ) → is_slid p k (letter i) ≡ false → bit (pre p k c i) ≡ 0
  pre_no i f = ap (λ b. bit (b && not (is_inside p k c i))) f

  post_no : (i : ℕ) → is_slid p k (partner p (letter i)) ≡ false → bit (post p k c i) ≡ 0
  post_no i f = ap (λ b. bit (b && not (is_inside p k c (following n i)))) f

  pre_is : (i : ℕ) (b : Bool) → is_slid p k (letter i) ≡ true → is_inside p k c i ≡ b → pre p k c i ≡ not b
  pre_is i b t f = ap₂ (λ x y. x && not y) t f

  post_is : (i : ℕ) (b : Bool) → is_slid p k (partner p (letter i)) ≡ true → is_inside p k c (following n i) ≡ b → post p k c i ≡ not b
  post_is i b t f = ap₂ (λ x y. x && not y) t f

  -- the next chord begins at the entry of this exit
  next_inside : (i : ℕ) → i < n → is_inside p k c (following n i) ≡ (is_slid p k (partner p (letter i)) && is_slid p k (letter (following n i)))
  next_inside i l = ap (λ x. is_slid p k (partner p (letter x)) && is_slid p k (letter (following n i))) (previous-following n i l)

  next_out : (i : ℕ) → i < n → is_slid p k (partner p (letter i)) ≡ true → is_inside p k c (following n i) ≡ false → is_slid p k (letter (following n i)) ≡ false
  next_out i l t f = sym (ap (λ b. b && is_slid p k (letter (following n i))) t) ∙ (sym (next_inside i l) ∙ f)

  -- the chords at other sides aren't inside
  pub other_stays : (s : ℕ) (a : Passing) → Passes s a → s ≢ k → s ≢ side_after p k → is_inside p k c (chord_of (length c) a) ≡ false
  other_stays s a (leaves_by i l e t) x y =
      ap (λ b. is_inside p k c (chord_of n b)) e
      ∙ (ap (λ b. is_slid p k (partner p (letter (previous n i))) && b) (ap (is_slid p k) t ∙ slid_not s x y) ∙ and_false (is_slid p k (partner p (letter (previous n i)))))
    where
      and_false : (b : Bool) → (b && false) ≡ false
      and_false true = refl
      and_false false = refl
  other_stays s a (enters_by i l e t) x y =
      ap (λ b. is_inside p k c (chord_of n b)) e ∙ (next_inside i l ∙ ap (λ b. b && is_slid p k (letter (following n i))) (ap (is_slid p k) t ∙ slid_not s x y))

  wrap_next : (i : ℕ) → i < n → main_part (following n i) ≡ round_to (start p k c (suc i))
  wrap_next i l = wrap_following n (λ j. length (slid_exit p k c j)) i l

  before_next : (i : ℕ) → i < n → 1 ≤ start p k c (suc i) → one_before (start p k c (following n i)) ≡ start p k c (suc i) - 1
  before_next i l h = before_following n (λ j. length (slid_exit p k c j)) i l h

  round_less : (b : ℕ) → b < many → round_to b ≡ b
  round_less b l = wrap_less n (λ j. length (slid_exit p k c j)) b l

  not_gone : (i : ℕ) → letter i ≢ k → letter i ≢ pk → gone p k c i ≡ false
  not_gone i a b = or_from (eqb (letter i) k) (eqb (letter i) pk) (ne_eqb (letter i) k a) (ne_eqb (letter i) pk b)

  far_inside : (j : ℕ) → is_inside p k c j ≡ true → far_part j ≡ round_to (start p k c j)
  far_inside j t = ap (λ b. cond b (round_to (start p k c j)) (cond (is_slid p k (letter j)) (round_to (suc (start p k c j))) (one_before (start p k c j)))) t

  far_leaving : (j : ℕ) → is_inside p k c j ≡ false → is_slid p k (letter j) ≡ true → far_part j ≡ round_to (suc (start p k c j))
  far_leaving j f t =
      ap (λ b. cond b (round_to (start p k c j)) (cond (is_slid p k (letter j)) (round_to (suc (start p k c j))) (one_before (start p k c j)))) f
      ∙ ap (λ b. cond b (round_to (suc (start p k c j))) (one_before (start p k c j))) t

  far_entering : (j : ℕ) → is_inside p k c j ≡ false → is_slid p k (letter j) ≡ false → far_part j ≡ one_before (start p k c j)
  far_entering j f t =
      ap (λ b. cond b (round_to (start p k c j)) (cond (is_slid p k (letter j)) (round_to (suc (start p k c j))) (one_before (start p k c j)))) f
      ∙ ap (λ b. cond b (round_to (suc (start p k c j))) (one_before (start p k c j))) t

  -- the chord at a passing through a side that stays
  pub other_chord : (s : ℕ) (a : Passing) → Passes s a → s ≢ k → s ≢ side_after p k → s ≢ partner p k
      → chord_of (start p k c (length c)) (as_own p is k lk slides c curve a) ≡ main_part (chord_of (length c) a)
  other_chord s a (leaves_by i l e t) x y z =
      let none = pre_no i (ap (is_slid p k) t ∙ slid_not s x y) in
      let f = not_gone i (λ q. x (sym t ∙ q)) (λ q. z (sym t ∙ q)) in
      let o = own_at p k c i l f in
      ap (λ b. chord_of many (as_own p is k lk slides c curve b)) e
      ∙ ((let w : start p k c i + bit (pre p k c i) ≡ start p k c i = omega (arith, none) in w)
      ∙ (sym (round_less (start p k c i) (omega (arith, o.0, none))) ∙ sym (ap (λ b. main_part (chord_of n b)) e)))
  other_chord s a (enters_by i l e t) x y z =
      let no_post = post_no i (ap (is_slid p k) t ∙ slid_not s x y) in
      let f = not_gone i (λ q. z (sym t ∙ ap (partner p) q)) (λ q. x (sym t ∙ (ap (partner p) q ∙ is.pairs.twice k))) in
      let own : bit (not (gone p k c i)) ≡ 1 = ap (λ b. bit (not b)) f in
      let w : suc (start p k c i + bit (pre p k c i)) ≡ start p k c (suc i) = omega (arith, start_suc p k c i, no_post, own) in
      ap (λ b. chord_of many (as_own p is k lk slides c curve b)) e
      ∙ (ap round_to w ∙ (sym (wrap_next i l) ∙ sym (ap (λ b. main_part (chord_of n b)) e)))

  -- the chord at a passing through the new side
  pub new_chord : (s : ℕ) (a : Passing) → Passes s a → is_slid p k s ≡ true → is_inside p k c (chord_of (length c) a) ≡ false
      → chord_of (start p k c (length c)) (on_new p is k lk slides c curve a) ≡ main_part (chord_of (length c) a)
  new_chord s a (leaves_by i l e t) h f =
      let g : is_inside p k c i ≡ false = sym (ap (λ b. is_inside p k c (chord_of n b)) e) ∙ f in
      let first = pre_is i false (ap (is_slid p k) t ∙ h) g in
      let r = pre_at p k c i l first in
      ap (λ b. chord_of many (on_new p is k lk slides c curve b)) e ∙ (sym (round_less (start p k c i) r.0) ∙ sym (ap (λ b. main_part (chord_of n b)) e))
  new_chord s a (enters_by i l e t) h f =
      let g : is_inside p k c (following n i) ≡ false = sym (ap (λ b. is_inside p k c (chord_of n b)) e) ∙ f in
      let last = post_is i false (ap (is_slid p k) t ∙ h) g in
      let r = post_at p k c i l last in
      let w : suc (start p k c (suc i) - 1) ≡ start p k c (suc i) = omega (arith, r.0) in
      ap (λ b. chord_of many (on_new p is k lk slides c curve b)) e
      ∙ (ap round_to w ∙ (sym (wrap_next i l) ∙ sym (ap (λ b. main_part (chord_of n b)) e)))

  -- and behind it
  pub far_chord : (s : ℕ) (a : Passing) → Passes s a → is_slid p k s ≡ true → is_inside p k c (chord_of (length c) a) ≡ false
      → chord_of (start p k c (length c)) (across (on_new p is k lk slides c curve a)) ≡ far_part (chord_of (length c) a)
  far_chord s a (leaves_by i l e t) h f =
      let g : is_inside p k c i ≡ false = sym (ap (λ b. is_inside p k c (chord_of n b)) e) ∙ f in
      ap (λ b. chord_of many (across (on_new p is k lk slides c curve b))) e
      ∙ (sym (far_leaving i g (ap (is_slid p k) t ∙ h)) ∙ sym (ap (λ b. far_part (chord_of n b)) e))
  far_chord s a (enters_by i l e t) h f =
      let g : is_inside p k c (following n i) ≡ false = sym (ap (λ b. is_inside p k c (chord_of n b)) e) ∙ f in
      let u = ap (is_slid p k) t ∙ h in
      let last = post_is i false u g in
      let r = post_at p k c i l last in
      ap (λ b. chord_of many (across (on_new p is k lk slides c curve b))) e
      ∙ (sym (before_next i l r.0) ∙ (sym (far_entering (following n i) g (next_out i l u g)) ∙ sym (ap (λ b. far_part (chord_of n b)) e)))

  -- the chord at a passing through side k + 1, which has gone over
  pub after_chord : (a : Passing) → Passes (side_after p k) a
      → chord_of (start p k c (length c)) (as_own p is k lk slides c curve a) ≡ far_part (chord_of (length c) a)
  after_chord a (leaves_by i l e t) =
      let f = not_gone i (λ q. after_moves p is k lk slides (sym t ∙ q)) (λ q. slides (sym t ∙ q)) in
      let o = own_at p k c i l f in
      let slid = ap (is_slid p k) t ∙ slid_after in
      ap (λ b. chord_of many (as_own p is k lk slides c curve b)) e
      ∙ (elim (cases_Bool (is_inside p k c i)) [
        | inl w ↦
            let none : bit (pre p k c i) ≡ 0 = ap bit (pre_is i true slid w) in
            let z : start p k c i + bit (pre p k c i) ≡ start p k c i = omega (arith, none) in
            z ∙ (sym (round_less (start p k c i) (omega (arith, o.0, none))) ∙ sym (far_inside i w))
        | inr w ↦
            let one : bit (pre p k c i) ≡ 1 = ap bit (pre_is i false slid w) in
            let z : start p k c i + bit (pre p k c i) ≡ suc (start p k c i) = omega (arith, one) in
            z ∙ (sym (round_less (suc (start p k c i)) (omega (arith, o.0, one))) ∙ sym (far_leaving i w slid))
      ]
      ∙ sym (ap (λ b. far_part (chord_of n b)) e))
  after_chord a (enters_by i l e t) =
      let no_k : letter i ≢ k = λ q. slides (sym t ∙ ap (partner p) q) in
      let no_k1 : letter i ≢ k1 = λ q. is.pairs.moves (letter i) (letter_less i l) (t ∙ sym q) in
      let no_pk : letter i ≢ pk = λ q. after_moves p is k lk slides (sym t ∙ (ap (partner p) q ∙ is.pairs.twice k)) in
      let none = pre_no i (slid_not (letter i) no_k no_k1) in
      let own : bit (not (gone p k c i)) ≡ 1 = ap (λ b. bit (not b)) (not_gone i no_k no_pk) in
      let slid = ap (is_slid p k) t ∙ slid_after in
      let z : suc (start p k c i + bit (pre p k c i)) ≡ suc (start p k c i) = omega (arith, none) in
      ap (λ b. chord_of many (as_own p is k lk slides c curve b)) e
      ∙ (ap round_to z
      ∙ (elim (cases_Bool (is_inside p k c (following n i))) [
        | inl w ↦
            let no_last : bit (post p k c i) ≡ 0 = ap bit (post_is i true slid w) in
            let y : suc (start p k c i) ≡ start p k c (suc i) = omega (arith, start_suc p k c i, none, own, no_last) in
            ap round_to y ∙ (sym (wrap_next i l) ∙ sym (far_inside (following n i) w))
        | inr w ↦
            let last = post_is i false slid w in
            let r = post_at p k c i l last in
            let one : bit (post p k c i) ≡ 1 = ap bit last in
            let y : suc (start p k c i) ≡ start p k c (suc i) - 1 = omega (arith, start_suc p k c i, none, own, one) in
            round_less (suc (start p k c i)) (omega (arith, r.1, y)) ∙ (y ∙ (sym (before_next i l r.0) ∙ sym (far_entering (following n i) w (next_out i l slid w))))
      ]
      ∙ sym (ap (λ b. far_part (chord_of n b)) e)))
    where
      letter_less : (i : ℕ) → i < n → letter i < sides p
      letter_less i l = (curve.in_range (exit_at c i) (mem_get_or c i (exit 0 0) l)).0

  -- the chord at a passing through side k, from the other side
  pub glued_chord : (a : Passing) → Passes k a → main_part (chord_of (length c) (across a)) ≡ far_part (chord_of (length c) a)
  glued_chord a (leaves_by i l e t) =
      let no_post = post_no i (ap (λ s. is_slid p k (partner p s)) t ∙ slid_not pk (not_own p is k lk slides) (λ q. slides (sym q))) in
      let all_gone : bit (not (gone p k c i)) ≡ 0 = ap (λ b. bit (not b)) (or_left (eqb (letter i) k) (eqb (letter i) pk) (eq-eqb (letter i) k t)) in
      let slid = ap (is_slid p k) t ∙ slid_k in
      ap (λ b. main_part (chord_of n (across b))) e
      ∙ (wrap_next i l
      ∙ (elim (cases_Bool (is_inside p k c i)) [
        | inl w ↦
            let none : bit (pre p k c i) ≡ 0 = ap bit (pre_is i true slid w) in
            let y : start p k c (suc i) ≡ start p k c i = omega (arith, start_suc p k c i, none, all_gone, no_post) in
            ap round_to y ∙ sym (far_inside i w)
        | inr w ↦
            let one : bit (pre p k c i) ≡ 1 = ap bit (pre_is i false slid w) in
            let y : start p k c (suc i) ≡ suc (start p k c i) = omega (arith, start_suc p k c i, one, all_gone, no_post) in
            ap round_to y ∙ sym (far_leaving i w slid)
      ]
      ∙ sym (ap (λ b. far_part (chord_of n b)) e)))
  glued_chord a (enters_by i l e t) =
      let is_pk : letter i ≡ pk = sym (is.pairs.twice (letter i)) ∙ ap (partner p) t in
      let none = pre_no i (ap (is_slid p k) is_pk ∙ slid_not pk (not_own p is k lk slides) (λ q. slides (sym q))) in
      let all_gone : bit (not (gone p k c i)) ≡ 0 = ap (λ b. bit (not b)) (or_right (eqb (letter i) k) (eqb (letter i) pk) (eq-eqb (letter i) pk is_pk)) in
      let slid = ap (is_slid p k) t ∙ slid_k in
      ap (λ b. main_part (chord_of n (across b))) e
      ∙ (elim (cases_Bool (is_inside p k c (following n i))) [
        | inl w ↦
            let no_last : bit (post p k c i) ≡ 0 = ap bit (post_is i true slid w) in
            let y : start p k c i ≡ start p k c (suc i) = omega (arith, start_suc p k c i, none, all_gone, no_last) in
            ap round_to y ∙ (sym (wrap_next i l) ∙ sym (far_inside (following n i) w))
        | inr w ↦
            let last = post_is i false slid w in
            let r = post_at p k c i l last in
            let one : bit (post p k c i) ≡ 1 = ap bit last in
            let y : start p k c i ≡ start p k c (suc i) - 1 = omega (arith, start_suc p k c i, none, all_gone, one) in
            round_less (start p k c i) (omega (arith, r.1, y)) ∙ (y ∙ (sym (before_next i l r.0) ∙ sym (far_entering (following n i) w (next_out i l slid w))))
      ]
      ∙ sym (ap (λ b. far_part (chord_of n b)) e))
