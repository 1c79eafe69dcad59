-- On a stretch with whole chords of the curve: parts that leave two successive stretches are those that leave both together.
use Rattle.std.proofs.Common.{◌≢◌, ◌≡◌, ℕ, zero, suc, ◌+◌, ◌-◌, ◌<◌, ◌≤◌, Bool, true, false, cond, ltb, leb, not, ◌&&◌, ◌||◌, List, [], ◌∷◌, ◌++◌, map, length, refl, sym, ◌∙◌, ap, subst, ◌⊎◌, inl, inr, arith}
use Rattle.std.specs.List.{filter, range_with_len}
use Rattle.std.proofs.lemmas.Bool.{false≢true, true≢false, and_parts, or_cases, ltb-true, leb-true, lt-ltb, le-ltb, le-leb, lt-leb, cases_lt, not-true}
use Rattle.std.proofs.lemmas.List.{map-append}
use Rattle.std.proofs.lemmas.List.Concat.{flat_map_single}
use Rattle.std.proofs.lemmas.List.Elements.{filter-append}
use Rattle.dehn_twist.proofs.Circle.{TwoKinds, leaving_end, leaving_parts, open_points, outside}
use Rattle.curve_paths.proofs.Members.{Rises, rises_join}
use Rattle.curve_paths.proofs.PointPlaces.{range_join}
use Rattle.curve_paths.proofs.Planar.{Interval, Planar, Tells, interval_once}
use Rattle.obd_base.proofs.lists.Below.{mem_range, range_mem}
use Rattle.obd_base.proofs.lists.Members.{mem_append, mem_filter, mem_left, mem_right}
use Rattle.obd_base.specs.Lists.{Mem}
use Rattle.curve_paths.specs.Alphabet.{Alike, Alphabet, cancelled}

to_filter : {A : Type 0} (p : A → Bool) (z : A) (xs : List A) → Mem z xs → p z ≡ true → Mem z (filter p xs)
to_filter p z [] m e = absurd m
to_filter p z (x ∷ xs) m e = go (p x) refl (to_filter p z xs)
  where
    go : (b : Bool) → p x ≡ b → (Mem z xs → p z ≡ true → Mem z (filter p xs)) → Mem z (cond b (x ∷ filter p xs) (filter p xs))
    go true q ih = elim m [ inl s ↦ inl s | inr k ↦ inr (ih k e) ]
    go false q ih = elim m [ inl s ↦ absurd (false≢true (sym q ∙ (ap p (sym s) ∙ e))) | inr k ↦ ih k e ]

-- tests that agree on the members
pub filter_same : {A : Type 0} (p q : A → Bool) (xs : List A) → ((x : A) → Mem x xs → p x ≡ q x) → filter p xs ≡ filter q xs
filter_same p q [] h = refl
filter_same p q (x ∷ xs) h = rw (h x (inl refl)) (ap (λ z. cond (q x) (x ∷ z) z) (filter_same p q xs (λ y m. h y (inr m))))

-- two filters are one
pub filter_twice : {A : Type 0} (a p : A → Bool) (xs : List A) → filter a (filter p xs) ≡ filter (λ x. p x && a x) xs
filter_twice a p [] = refl
filter_twice a p (x ∷ xs) = go (p x) (filter_twice a p xs)
  where
    go : (b : Bool) → filter a (filter p xs) ≡ filter (λ x. p x && a x) xs
        → filter a (cond b (x ∷ filter p xs) (filter p xs)) ≡ cond (b && a x) (x ∷ filter (λ x. p x && a x) xs) (filter (λ x. p x && a x) xs)
    go true e = ap (λ z. cond (a x) (x ∷ z) z) e
    go false e = e

map_same : {A B : Type 0} (f g : A → B) (xs : List A) → ((x : A) → Mem x xs → f x ≡ g x) → map f xs ≡ map g xs
map_same f g [] h = refl
map_same f g (x ∷ xs) h = rw (h x (inl refl)) (ap (λ z. g x ∷ z) (map_same f g xs (λ y m. h y (inr m))))

-- a range rises
pub range_rises : (a n : ℕ) → Rises (λ x. x) (range_with_len a n)
range_rises a zero = tt
range_rises a (suc n) = ((λ y m. let r = mem_range (a + 1) n y m in omega (arith, r.0)), range_rises (a + 1) n)

-- a part of a rising list rises
pub filter_rises : (p : ℕ → Bool) (xs : List ℕ) → Rises (λ x. x) xs → Rises (λ x. x) (filter p xs)
filter_rises p [] r = tt
filter_rises p (x ∷ xs) r = go (p x) (filter_rises p xs r.1)
  where
    go : (b : Bool) → Rises (λ x. x) (filter p xs) → Rises (λ x. x) (cond b (x ∷ filter p xs) (filter p xs))
    go true s = ((λ y m. r.0 y (mem_filter p y xs m).0), s)
    go false s = s

-- what is outside lies before or after
pub outside_parts : (lo hi z : ℕ) → outside lo hi z ≡ true → (z < lo) ⊎ (hi ≤ z)
outside_parts lo hi z e = elim (or_cases (ltb z lo) (leb hi z) e) [ inl q ↦ inl (ltb-true z lo q) | inr q ↦ inr (leb-true hi z q) ]

-- what lies before is outside
pub outside_below : (lo hi z : ℕ) → z < lo → outside lo hi z ≡ true
outside_below lo hi z l = rw (lt-ltb z lo l) refl

-- so is what lies after
pub outside_above : (lo hi z : ℕ) → hi ≤ z → outside lo hi z ≡ true
outside_above lo hi z l = rw (le-leb hi z l) (go (ltb z lo))
  where
    go : (b : Bool) → (b || true) ≡ true
    go true = refl
    go false = refl

-- what lies between is not
pub outside_not : (lo hi z : ℕ) → lo ≤ z → z < hi → outside lo hi z ≡ false
outside_not lo hi z l h = rw (le-ltb z lo l, lt-leb hi z h) refl

-- and the other way
pub outside_no : (lo hi z : ℕ) → outside lo hi z ≡ false → (lo ≤ z) × (z < hi)
outside_no lo hi z e = (
  elim (cases_lt z lo) [ inl l ↦ absurd (true≢false (sym (outside_below lo hi z l) ∙ e)) | inr l ↦ l ],
  elim (cases_lt z hi) [ inl l ↦ l | inr l ↦ absurd (true≢false (sym (outside_above lo hi z l) ∙ e)) ],
)

module _ (size : ℕ) (is_curve : ℕ → Bool) (mate : ℕ → ℕ) (two : TwoKinds size is_curve mate) where
  -- a stretch of the circle with whole curve chords
  pub record Block (lo hi : ℕ) : Type 0 where
    pub order : lo ≤ hi
    pub fits : hi ≤ size
    pub closed : (x : ℕ) → lo ≤ x → x < hi → is_curve x ≡ true → (lo ≤ mate x) × (mate x < hi)

  module _ {A : Type 0} (L : Alphabet A) (name : ℕ → ℕ → A) (lines : ℕ → List A) where
    -- both ends of a strand chord give a part inverse names, and a part goes past a stretch with whole curve chords
    pub record IsName : Type 0 where
      pub across : (x y : ℕ) → x < size → is_curve x ≡ false → name (mate x) y ≡ L.inv (name x y)
      pub past : (x lo hi : ℕ) → x < size → is_curve x ≡ false → Block lo hi → x < lo → hi ≤ mate x → name x lo ≡ name x hi

    abbrev parts : ℕ → ℕ → List A
    parts = leaving_parts L is_curve mate name lines

    abbrev opens : ℕ → ℕ → List ℕ
    opens = open_points L is_curve mate name lines

    module _ (named : IsName) where
      -- a part goes past a stretch, seen from either end of its chord
      past_back : (x lo hi : ℕ) → x < size → is_curve x ≡ false → Block lo hi → mate x < lo → hi ≤ x → name x lo ≡ name x hi
      past_back x lo hi l s b u v =
          let t = two.twice x l in
          let sm : is_curve (mate x) ≡ false = two.kind x l ∙ s in
          let lm = two.stays x l in
          let at : (y : ℕ) → name x y ≡ L.inv (name (mate x) y) = λ y. ap (λ z. name z y) (sym t) ∙ named.across (mate x) y lm sm in
          let e = named.past (mate x) lo hi lm sm b u (subst (λ z. hi ≤ z) (sym t) v) in
          at lo ∙ (ap L.inv e ∙ sym (at hi))

      module _ (lo mid hi : ℕ) (first : Block lo mid) (second : Block mid hi) where
        abbrev In' : ℕ → Type 0
        In' x = (x < size) × (is_curve x ≡ false) × (lo ≤ x → x < mid → lo ≤ mate x → mate x < mid → ⊥) × (mid ≤ x → x < hi → mid ≤ mate x → mate x < hi → ⊥) × (mate x ≢ x)

        planar : Planar In' (λ x. x) mate
        planar = record {
          stays = λ x h.
              let t = two.twice x h.0 in (
                two.stays x h.0,
                two.kind x h.0 ∙ h.1,
                (λ a b c d. h.2 (rw t at c) (rw t at d) a b),
                (λ a b c d. h.3 (rw t at c) (rw t at d) a b),
                (λ q. h.4 (sym q ∙ t)),
              );
          twice = λ x h. two.twice x h.0;
          moves = λ x h. h.4;
          uncrossed = λ x y h k l r. two.uncrossed x y h.0 k.0 (h.1 ∙ sym k.1) l r;
        }

        abbrev zs : List ℕ
        zs = opens lo mid ++ opens mid hi

        -- what a point of a part of the stretch is
        from_open : (a b x : ℕ) → a ≤ b → Mem x (opens a b) → (a ≤ x) × (x < b) × (is_curve x ≡ false) × (outside a b (mate x) ≡ true)
        from_open a b x l m =
            let k = mem_filter (λ x. not (is_curve x) && outside a b (mate x)) x (range_with_len a (b - a)) m in
            let r = mem_range a (b - a) x k.0 in
            let q = and_parts (not (is_curve x)) (outside a b (mate x)) k.1 in
            (r.0, omega (arith, r.1, l), not-true (is_curve x) q.0, q.1)

        to_open : (a b x : ℕ) → a ≤ x → x < b → is_curve x ≡ false → outside a b (mate x) ≡ true → Mem x (opens a b)
        to_open a b x l h s o = to_filter (λ x. not (is_curve x) && outside a b (mate x)) x (range_with_len a (b - a)) (range_mem a (b - a) x l (omega (arith, h, l)))
            (rw (s, o) refl)

        -- what lies inside isn't outside
        stay : (a b x : ℕ) → a ≤ x → x < b → outside a b (mate x) ≡ true → mate x ≢ x
        stay a b x l h o q = false≢true (sym (outside_not a b (mate x) (omega (arith, q, l)) (omega (arith, q, h))) ∙ o)

        -- the strands' points of the stretch whose chords leave their part of it
        from_zs : (x : ℕ) → Mem x zs → In' x × (lo ≤ x) × (x < hi)
        from_zs x m = elim (mem_append x (opens lo mid) (opens mid hi) m) [
          | inl k ↦ (let r = from_open lo mid x first.order k in (
            (
              omega (arith, r.1, second.order, second.fits),
              r.2,
              (λ a b c d. false≢true (sym (outside_not lo mid (mate x) c d) ∙ r.3)),
              (λ a b c d. omega (arith, a, r.1)),
              (λ q. stay lo mid x r.0 r.1 r.3 q),
            ),
            r.0,
            omega (arith, r.1, second.order),
          ))
          | inr k ↦ (let r = from_open mid hi x second.order k in (
            (
              omega (arith, r.1, second.fits),
              r.2,
              (λ a b c d. omega (arith, b, r.0)),
              (λ a b c d. false≢true (sym (outside_not mid hi (mate x) c d) ∙ r.3)),
              (λ q. stay mid hi x r.0 r.1 r.3 q),
            ),
            omega (arith, r.0, first.order),
            r.1,
          ))
        ]

        outside_from : (a b z : ℕ) → (a ≤ z → z < b → ⊥) → outside a b z ≡ true
        outside_from a b z h = elim (cases_lt z a) [
          | inl l ↦ outside_below a b z l
          | inr l ↦ elim (cases_lt z b) [ inl k ↦ absurd (h l k) | inr k ↦ outside_above a b z k ]
        ]

        to_zs : (x : ℕ) → In' x → lo ≤ x → x < hi → Mem x zs
        to_zs x i l h = elim (cases_lt x mid) [
          | inl u ↦ mem_left x (opens lo mid) (opens mid hi) (to_open lo mid x l u i.1 (outside_from lo mid (mate x) (λ a b. i.2 l u a b)))
          | inr u ↦ mem_right x (opens lo mid) (opens mid hi) (to_open mid hi x u h i.1 (outside_from mid hi (mate x) (λ a b. i.3 u h a b)))
        ]

        interval : Interval In' (λ x. x) mate planar zs
        interval = record {
          inside = λ x m. (from_zs x m).0;
          rises = rises_join (λ x. x) (opens lo mid) (opens mid hi)
              (filter_rises (λ x. not (is_curve x) && outside lo mid (mate x)) (range_with_len lo (mid - lo)) (range_rises lo (mid - lo)))
              (filter_rises (λ x. not (is_curve x) && outside mid hi (mate x)) (range_with_len mid (hi - mid)) (range_rises mid (hi - mid)))
              (λ x y m k. let r = from_open lo mid x first.order m in let q = from_open mid hi y second.order k in omega (arith, r.1, q.0));
          between = λ x y z mx mz iy l r. let f = from_zs x mx in let t = from_zs z mz in to_zs y iy (omega (arith, f.1, l)) (omega (arith, t.2, r));
        }

        abbrev away : ℕ → Bool
        away x = outside lo hi (mate x)

        tells : Tells In' (λ x. x) mate planar away zs
        tells = record {
          far = λ x m e k. let r = from_zs (mate x) k in false≢true (sym (outside_not lo hi (mate x) r.1 r.2) ∙ e);
          near = λ x m e. let r = outside_no lo hi (mate x) e in to_zs (mate x) (planar.stays x (from_zs x m).0) r.0 r.1;
        }

        -- the part at a point, at the end of its own part of the stretch
        abbrev label : ℕ → A
        label x = cond (ltb x mid) (name x (leaving_end L is_curve mate name lines lo mid x)) (name x (leaving_end L is_curve mate name lines mid hi x))

        label_first : (x : ℕ) → x < mid → label x ≡ name x (leaving_end L is_curve mate name lines lo mid x)
        label_first x l = rw (lt-ltb x mid l) refl

        label_second : (x : ℕ) → mid ≤ x → label x ≡ name x (leaving_end L is_curve mate name lines mid hi x)
        label_second x l = rw (le-ltb x mid l) refl

        end_low : (a b x : ℕ) → mate x < a → leaving_end L is_curve mate name lines a b x ≡ a
        end_low a b x l = rw (lt-ltb (mate x) a l) refl

        end_high : (a b x : ℕ) → a ≤ mate x → leaving_end L is_curve mate name lines a b x ≡ b
        end_high a b x l = rw (le-ltb (mate x) a l) refl

        -- both at the place between the two parts
        label_pair : (x : ℕ) → Mem x zs → Mem (mate x) zs → label (mate x) ≡ L.inv (label x)
        label_pair x m k =
            let r = from_zs x m in
            let q = from_zs (mate x) k in
            let t = two.twice x r.0.0 in
            elim (cases_lt x mid) [
              | inl u ↦ elim (cases_lt (mate x) mid) [
                | inl v ↦ absurd (r.0.2 r.1 u q.1 v)
                | inr v ↦ (
                    label_second (mate x) v ∙ (ap (name (mate x)) (end_low mid hi (mate x) (subst (λ z. z < mid) (sym t) u))
                    ∙ (named.across x mid r.0.0 r.0.1 ∙ ap L.inv (sym (label_first x u ∙ ap (name x) (end_high lo mid x (omega (arith, v, first.order))))))))
              ]
              | inr u ↦ elim (cases_lt (mate x) mid) [
                | inl v ↦ (
                    label_first (mate x) v ∙ (ap (name (mate x)) (end_high lo mid (mate x) (subst (λ z. lo ≤ z) (sym t) r.1))
                    ∙ (named.across x mid r.0.0 r.0.1 ∙ ap L.inv (sym (label_second x u ∙ ap (name x) (end_low mid hi x v))))))
                | inr v ↦ absurd (r.0.3 u r.2 v q.2)
              ]
            ]

        kept : filter away zs ≡ opens lo hi
        kept =
            let p = λ (x : ℕ). not (is_curve x) && outside lo mid (mate x) in
            let q = λ (x : ℕ). not (is_curve x) && outside mid hi (mate x) in
            let w = λ (x : ℕ). not (is_curve x) && outside lo hi (mate x) in
            let xs = range_with_len lo (mid - lo) in
            let ys = range_with_len mid (hi - mid) in
            let one : filter away (opens lo mid) ≡ filter w xs =
            filter_twice away p xs ∙ filter_same (λ x. p x && away x) w xs (λ x m. narrower (not (is_curve x)) (outside lo mid (mate x)) (outside lo hi (mate x))
            (λ e. elim (outside_parts lo hi (mate x) e) [ inl l ↦ outside_below lo mid (mate x) l | inr l ↦ outside_above lo mid (mate x) (omega (arith, l, second.order)) ])) in
            let two' : filter away (opens mid hi) ≡ filter w ys =
            filter_twice away q ys ∙ filter_same (λ x. q x && away x) w ys (λ x m. narrower (not (is_curve x)) (outside mid hi (mate x)) (outside lo hi (mate x))
            (λ e. elim (outside_parts lo hi (mate x) e) [ inl l ↦ outside_below mid hi (mate x) (omega (arith, l, first.order)) | inr l ↦ outside_above mid hi (mate x) l ])) in
            let e : hi - lo ≡ (mid - lo) + (hi - mid) = omega (arith, first.order, second.order) in
            let f : lo + (mid - lo) ≡ mid = omega (arith, first.order) in
            filter-append away (opens lo mid) (opens mid hi) ∙ (ap (λ z. z ++ filter away (opens mid hi)) one ∙ (ap (λ z. filter w xs ++ z) two'
            ∙ (sym (filter-append w xs ys) ∙ ap (filter w) (sym (ap (range_with_len lo) e ∙ (range_join lo (mid - lo) (hi - mid) ∙ ap (λ z. xs ++ range_with_len z (hi - mid)) f))))))
          where
            narrower : (a b d : Bool) → (d ≡ true → b ≡ true) → ((a && b) && d) ≡ (a && d)
            narrower true true d h = refl
            narrower true false true h = absurd (false≢true (h refl))
            narrower true false false h = refl
            narrower false b d h = refl

        -- the parts that leave the whole stretch are the same at its ends
        label_whole : (x : ℕ) → Mem x (opens lo hi) → label x ≡ name x (leaving_end L is_curve mate name lines lo hi x)
        label_whole x m =
            let r = from_open lo hi x (omega (arith, first.order, second.order)) m in
            let lx : x < size = omega (arith, r.1, second.fits) in
            elim (cases_lt x mid) [
              | inl u ↦ elim (outside_parts lo hi (mate x) r.3) [
                | inl l ↦ label_first x u ∙ (ap (name x) (end_low lo mid x l) ∙ ap (name x) (sym (end_low lo hi x l)))
                | inr l ↦ label_first x u ∙ (ap (name x) (end_high lo mid x (omega (arith, l, first.order, second.order)))
                    ∙ (named.past x mid hi lx r.2 second u l ∙ ap (name x) (sym (end_high lo hi x (omega (arith, l, first.order, second.order))))))
              ]
              | inr u ↦ elim (outside_parts lo hi (mate x) r.3) [
                | inl l ↦ label_second x u ∙ (ap (name x) (end_low mid hi x (omega (arith, l, first.order)))
                    ∙ (sym (past_back x lo mid lx r.2 first l u) ∙ ap (name x) (sym (end_low lo hi x l))))
                | inr l ↦ label_second x u ∙ (ap (name x) (end_high mid hi x (omega (arith, l, second.order))) ∙ ap (name x) (sym (end_high lo hi x (omega (arith, l, first.order, second.order)))))
              ]
            ]

        -- what leaves two successive stretches is what leaves both together
        pub parts_join : Alike L (parts lo mid ++ parts mid hi) (parts lo hi)
        parts_join =
            let e1 : map label (opens lo mid) ≡ parts lo mid = map_same label (λ x. name x (leaving_end L is_curve mate name lines lo mid x)) (opens lo mid)
            (λ x m. label_first x (from_open lo mid x first.order m).1) in
            let e2 : map label (opens mid hi) ≡ parts mid hi = map_same label (λ x. name x (leaving_end L is_curve mate name lines mid hi x)) (opens mid hi)
            (λ x m. label_second x (from_open mid hi x second.order m).0) in
            let e3 : map label (opens lo hi) ≡ parts lo hi = map_same label (λ x. name x (leaving_end L is_curve mate name lines lo hi x)) (opens lo hi) label_whole in
            let once = interval_once In' (λ x. x) mate planar L (λ x. label x ∷ []) (length zs) away zs (omega arith) interval tells (λ x m k. ap (λ z. z ∷ []) (label_pair x m k)) in
            ap (cancelled L) (sym (flat_map_single label zs ∙ (map-append label (opens lo mid) (opens mid hi) ∙ (ap (λ z. z ++ map label (opens mid hi)) e1 ∙ ap (λ z. parts lo mid ++ z) e2))))
            ∙ (once ∙ ap (cancelled L) (flat_map_single label (filter away zs) ∙ (ap (map label) kept ∙ e3)))
