-- What one strand's chord with its loops reads: what lies before its start among the curve's points undone, and what lies before its end.
use Rattle.std.proofs.Common.{◌≡◌, ℕ, ◌+◌, ◌-◌, ◌<◌, ◌≤◌, Bool, true, false, cond, eqb, leb, ltb, ◌&&◌, ◌||◌, List, [], ◌∷◌, ◌++◌, map, refl, sym, ◌∙◌, ap, ap₂, inl, inr, arith, append-nil}
use Rattle.std.specs.List.{filter, flat_map}
use Rattle.std.proofs.lemmas.Bool.{eqb-true, cases_lt, le-leb, le-ltb, lt-leb, lt-ltb}
use Rattle.std.proofs.lemmas.List.{map-append}
use Rattle.std.proofs.lemmas.List.Elements.{filter-append}
use Rattle.obd_base.specs.Lists.{Mem}
use Rattle.obd_base.specs.declared.points.Exit.{Exit}
use Rattle.obd_base.specs.declared.points.Sign.{Sign}
use Rattle.obd_base.proofs.lists.Members.{mem_append}
use Rattle.page_surface.specs.Drawing.{Drawing, IsEmbedded, exit, points_on}
use Rattle.page_surface.specs.Polygon.{Pairs, Polygon, sides}
use Rattle.curve_paths.specs.Curves.{IsCurve, curve_points}
use Rattle.curve_paths.specs.Alphabet.{Alphabet}
use Rattle.path_words.proofs.SideLetters.{side_letters}
use Rattle.dehn_twist.specs.Surgery.{curve_number, curve_ring, is_lower, strand_number}
use Rattle.dehn_twist.proofs.Fronts.{front, points_before, points_split}
use Rattle.dehn_twist.proofs.Merged.{Stands}
use Rattle.path_words.proofs.CurveWords.{point_word}
use Rattle.curve_paths.proofs.Members.{Rises}
use Rattle.curve_paths.proofs.PointPlaces.{from_points, from_points_from, points_from, points_of, start_of, starts_rise}

-- what passes nowhere
filter_none : {X : Type 0} (f : X → Bool) (xs : List X) → ((x : X) → Mem x xs → f x ≡ false) → filter f xs ≡ []
filter_none f [] h = refl
filter_none f (x ∷ xs) h = rw (h x (inl refl)) (filter_none f xs (λ y m. h y (inr m)))

-- and everywhere
filter_all : {X : Type 0} (f : X → Bool) (xs : List X) → ((x : X) → Mem x xs → f x ≡ true) → filter f xs ≡ xs
filter_all f [] h = refl
filter_all f (x ∷ xs) h = rw (h x (inl refl)) (ap (λ z. x ∷ z) (filter_all f xs (λ y m. h y (inr m))))

-- of rising points those before a place, and those from there to a later one
pub filter_split : {X : Type 0} (num : X → ℕ) (a b : ℕ) (xs : List X) → a ≤ b → Rises num xs
    → filter (λ x. ltb (num x) b) xs ≡ filter (λ x. ltb (num x) a) xs ++ filter (λ x. leb a (num x) && ltb (num x) b) xs
filter_split num a b [] l r = refl
filter_split num a b (x ∷ xs) l r = elim (cases_lt (num x) a) [
  | inl h ↦
      let e : ltb (num x) b ≡ true = lt-ltb (num x) b (omega (arith, h, l)) in
      rw (e, lt-ltb (num x) a h, lt-leb a (num x) h) (ap (λ z. x ∷ z) (filter_split num a b xs l r.1))
  | inr h ↦
      let none : filter (λ x. ltb (num x) a) xs ≡ [] = filter_none (λ x. ltb (num x) a) xs (λ y m. let k = r.0 y m in let w : a ≤ num y = omega (arith, k, h) in le-ltb (num y) a w) in
      let ih : filter (λ x. ltb (num x) b) xs ≡ filter (λ x. leb a (num x) && ltb (num x) b) xs = filter_split num a b xs l r.1 ∙ ap (λ z. z ++ filter (λ x. leb a (num x) && ltb (num x) b) xs) none in
      rw (le-ltb (num x) a h, none, le-leb a (num x) h) (ap (λ z. cond (ltb (num x) b) (x ∷ z) z) ih)
]

-- joined lists that agree on the members
pub flat_map_same' : {X Y : Type 0} (f g : X → List Y) (xs : List X) → ((x : X) → Mem x xs → f x ≡ g x) → flat_map f xs ≡ flat_map g xs
flat_map_same' f g [] h = refl
flat_map_same' f g (x ∷ xs) h = ap₂ (λ a b. a ++ b) (h x (inl refl)) (flat_map_same' f g xs (λ y m. h y (inr m)))

-- a map over joined lists
pub map_flat_map : {X Y Z : Type 0} (f : Y → Z) (h : X → List Y) (xs : List X) → map f (flat_map h xs) ≡ flat_map (λ x. map f (h x)) xs
map_flat_map f h [] = refl
map_flat_map f h (x ∷ xs) = map-append f (h x) (flat_map h xs) ∙ ap (λ z. map f (h x) ++ z) (map_flat_map f h xs)

module _ (d : Drawing) (dok : IsEmbedded d) (c : List Exit) (curve : IsCurve d.polygon c) where
  abbrev p : Polygon
  p = d.polygon

  abbrev ok : Pairs d.polygon
  ok = dok.polygon.pairs

  abbrev L : Alphabet ℕ
  L = side_letters d.polygon dok.polygon.pairs

  abbrev mc : ℕ → ℕ
  mc k = curve_points d.polygon c k

  abbrev ms : ℕ → ℕ
  ms k = points_on d k

  abbrev w : List ℕ
  w = map (λ e. e.side) c

  abbrev ring : List Exit
  ring = curve_ring d.polygon c

  abbrev num : Exit → ℕ
  num q = curve_number d c q

  abbrev word : Sign → Exit → List ℕ
  word g q = point_word d.polygon dok.polygon.pairs c curve g q

  -- the place of a strand's point among the curve's points
  abbrev pub placed : Exit → Exit
  placed e = exit e.side (cond (is_lower d.polygon e.side || eqb e.place (points_on d e.side)) (curve_points d.polygon c e.side) 0)

  -- it is one
  pub placed_place : (e : Exit) → e.side < sides d.polygon → ((placed e).side < sides d.polygon) × ((placed e).place ≤ curve_points d.polygon c (placed e).side)
  placed_place e l = (l, go (is_lower p e.side || eqb e.place (ms e.side)))
    where
      go : (b : Bool) → cond b (mc e.side) 0 ≤ mc e.side
      go true = omega arith
      go false = omega arith

  -- the curve's points before it have lesser merged numbers, the others greater ones
  points_before_is : (e : Exit) → Stands d dok c curve e → points_before (curve_points d.polygon c) (placed e) ≡ filter (λ q. ltb (num q) (strand_number d c e)) ring
  points_before_is e h =
      let k = e.side in
      let b = (placed e).place in
      let pl = placed_place e h.0 in
      let front_part = points_before mc (placed e) in
      let rest = points_from mc k b (mc k - b) ++ points_of mc (k + 1) (sides p - 1 - k) in
      let split = points_split mc (sides p) (placed e) pl.0 pl.1 in
      let f = λ (q : Exit). ltb (num q) (strand_number d c e) in
      let one : filter f front_part ≡ front_part = filter_all f front_part (λ q m. lt-ltb (num q) (strand_number d c e)
      (elim (mem_append q (points_of mc 0 k) (points_from mc k 0 b) m) [
        | inl i ↦ (let r = from_points mc 0 k q i in earlier q (omega (arith, r.1)) r.2)
        | inr i ↦ (let r = from_points_from mc k 0 b q i in before_here q r.0 (is_lower p k) (eqb e.place (ms k)) refl (omega (arith, r.2)))
      ])) in
      let two : filter f rest ≡ [] = filter_none f rest (λ q m. le-ltb (num q) (strand_number d c e)
      (elim (mem_append q (points_from mc k b (mc k - b)) (points_of mc (k + 1) (sides p - 1 - k)) m) [
        | inl i ↦ (let r = from_points_from mc k b (mc k - b) q i in after_here q r.0 (is_lower p k) (eqb e.place (ms k)) refl refl r.1 (let l = pl.1 in omega (arith, r.2, l)))
        | inr i ↦ (let r = from_points mc (k + 1) (sides p - 1 - k) q i in later q (omega (arith, r.0)))
      ])) in
      sym (ap (filter f) split ∙ (filter-append f front_part rest ∙ (ap₂ (λ x y. x ++ y) one two ∙ append-nil front_part)))
    where
      count : ℕ → ℕ
      count i = mc i + ms i

      own : cond (is_lower p e.side || eqb e.place (ms e.side)) (mc e.side + e.place) e.place ≤ mc e.side + ms e.side
      own = let l = h.1 in go (is_lower p e.side || eqb e.place (ms e.side)) l
        where
          go : (b : Bool) → e.place ≤ ms e.side → cond b (mc e.side + e.place) e.place ≤ mc e.side + ms e.side
          go true l = omega (arith, l)
          go false l = omega (arith, l)

      slot : (q : Exit) → q.place < mc q.side → cond (is_lower p q.side) q.place (ms q.side + q.place) < mc q.side + ms q.side
      slot q l = go (is_lower p q.side)
        where
          go : (b : Bool) → cond b q.place (ms q.side + q.place) < mc q.side + ms q.side
          go true = omega (arith, l)
          go false = omega (arith, l)

      earlier : (q : Exit) → q.side < e.side → q.place < mc q.side → num q < strand_number d c e
      earlier q l i = let r = starts_rise count q.side e.side l in let s = slot q i in omega (arith, r, s)

      later : (q : Exit) → e.side < q.side → strand_number d c e ≤ num q
      later q l = let r = starts_rise count e.side q.side l in let s = own in omega (arith, r, s)

      start_same : (q : Exit) → q.side ≡ e.side → num q ≡ start_of count e.side + cond (is_lower p e.side) q.place (ms e.side + q.place)
      start_same q s = ap (λ k. start_of count k + cond (is_lower p k) q.place (ms k + q.place)) s

      -- on its own side
      before_here : (q : Exit) → q.side ≡ e.side → (low last : Bool) → eqb e.place (ms e.side) ≡ last → q.place < cond (is_lower p e.side || eqb e.place (ms e.side)) (mc e.side) 0
          → num q < strand_number d c e
      before_here q s low last el l = go (is_lower p e.side) (eqb e.place (ms e.side)) refl l (start_same q s)
        where
          go : (b t : Bool) → eqb e.place (ms e.side) ≡ t → q.place < cond (b || t) (mc e.side) 0 → num q ≡ start_of count e.side + cond b q.place (ms e.side + q.place)
              → num q < start_of count e.side + cond (b || t) (mc e.side + e.place) e.place
          go true t et l n = omega (arith, l, n)
          go false true et l n = let z = eqb-true e.place (ms e.side) et in omega (arith, l, n, z)
          go false false et l n = absurd (omega (arith, l))

      after_here : (q : Exit) → q.side ≡ e.side → (low last : Bool) → eqb e.place (ms e.side) ≡ last → is_lower p e.side ≡ low → cond (is_lower p e.side || eqb e.place (ms e.side)) (mc e.side) 0 ≤ q.place
          → q.place < mc e.side → strand_number d c e ≤ num q
      after_here q s low last el lw l i = go (is_lower p e.side) (eqb e.place (ms e.side)) l (start_same q s)
        where
          go : (b t : Bool) → cond (b || t) (mc e.side) 0 ≤ q.place → num q ≡ start_of count e.side + cond b q.place (ms e.side + q.place)
              → start_of count e.side + cond (b || t) (mc e.side + e.place) e.place ≤ num q
          go true t l n = absurd (omega (arith, l, i))
          go false true l n = absurd (omega (arith, l, i))
          go false false l n = (let j = h.1 in omega (arith, n, j))

  -- the product over the curve's points with lesser numbers
  pub front_number : (g : Sign) (e : Exit) → Stands d dok c curve e
      → front d.polygon dok.polygon.pairs c curve g (placed e) ≡ flat_map (point_word d.polygon dok.polygon.pairs c curve g) (filter (λ q. ltb (curve_number d c q) (strand_number d c e)) (curve_ring d.polygon c))
  front_number g e h = ap (flat_map (word g)) (points_before_is e h)
