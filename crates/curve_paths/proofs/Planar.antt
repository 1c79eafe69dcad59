-- A list of points paired off without crossing: the letters on an interval of it reduce to those whose mates stand elsewhere.
use Rattle.std.proofs.Common.{◌≡◌, ℕ, zero, suc, ◌<◌, ◌≤◌, Bool, true, false, cond, List, [], ◌∷◌, ◌++◌, length, refl, sym, ◌∙◌, ap, subst, inl, inr, ◌≢◌, arith, append_assoc, length-append}
use Rattle.std.proofs.lemmas.Bool.{false≢true}
use Rattle.std.specs.List.{filter, flat_map}
use Rattle.std.proofs.lemmas.List.Concat.{flat_map-append}
use Rattle.std.proofs.lemmas.List.Elements.{filter-append}
use Rattle.obd_base.proofs.lists.Members.{mem_append, mem_left, mem_right, split}
use Rattle.obd_base.specs.Lists.{Mem}
use Rattle.curve_paths.specs.Alphabet.{Alphabet, cancelled, back, Alike, Null}
use Rattle.curve_paths.proofs.Reduction.{alike_after, null_out, word_and_back}
use Rattle.curve_paths.proofs.Members.{Rises, rises_first, rises_second, rises_across}

-- points with numbers, paired off without crossing
pub record Planar {P : Type 0} (In : P → Type 0) (spot : P → ℕ) (mate : P → P) : Type 0 where
  pub stays : (x : P) → In x → In (mate x)
  pub twice : (x : P) → In x → mate (mate x) ≡ x
  pub moves : (x : P) → In x → mate x ≢ x
  pub uncrossed : (x y : P) → In x → In y → spot x < spot y → spot y < spot (mate x) → (spot x < spot (mate y)) × (spot (mate y) < spot (mate x))

module _ {P : Type 0} (In : P → Type 0) (spot : P → ℕ) (mate : P → P) (planar : Planar In spot mate) where
  -- a list of points with all points between two of its own
  pub record Interval (xs : List P) : Type 0 where
    pub inside : (x : P) → Mem x xs → In x
    pub rises : Rises spot xs
    pub between : (x y z : P) → Mem x xs → Mem z xs → In y → spot x < spot y → spot y < spot z → Mem y xs

  -- the part between a first point and its mate
  within : (x : P) (a b : List P) → Interval (x ∷ (a ++ (mate x ∷ b))) → (y : P) → Mem y a → Mem (mate y) a
  within x a b h y m =
      let m' : Mem y (a ++ (mate x ∷ b)) = mem_left y a (mate x ∷ b) m in
      let u : spot x < spot y = h.rises.0 y m' in
      let v : spot y < spot (mate x) = rises_across spot a (mate x ∷ b) h.rises.1 y (mate x) m (inl refl) in
      let ix = h.inside x (inl refl) in
      let iy = h.inside y (inr m') in
      let c = planar.uncrossed x y ix iy u v in
      let k = h.between x (mate y) (mate x) (inl refl) (inr (mem_right (mate x) a (mate x ∷ b) (inl refl))) (planar.stays y iy) c.0 c.1 in
      elim k [
        | inl e ↦ (let q : spot (mate y) ≡ spot x = ap spot e in absurd (omega (arith, q, c.0)))
        | inr n ↦ elim (mem_append (mate y) a (mate x ∷ b) n) [
          | inl w ↦ w
          | inr w ↦ elim w [
            | inl e ↦ (let q : spot (mate y) ≡ spot (mate x) = ap spot e in absurd (omega (arith, q, c.1)))
            | inr t ↦ (let l : spot (mate x) < spot (mate y) = (rises_second spot a (mate x ∷ b) h.rises.1).0 (mate y) t in absurd (omega (arith, l, c.1)))
          ]
        ]
      ]

  -- the part after the mate of a first point
  beyond : (x : P) (a b : List P) → Interval (x ∷ (a ++ (mate x ∷ b))) → (y : P) → Mem y b → Mem (mate y) (x ∷ (a ++ (mate x ∷ b))) → Mem (mate y) b
  beyond x a b h y m k =
      let last = rises_second spot a (mate x ∷ b) h.rises.1 in
      let v : spot (mate x) < spot y = last.0 y m in
      let my : Mem y (a ++ (mate x ∷ b)) = mem_right y a (mate x ∷ b) (inr m) in
      let iy = h.inside y (inr my) in
      let ix = h.inside x (inl refl) in
      let u : spot x < spot y = h.rises.0 y my in
      elim k [
        | inl e ↦ (let q : spot y ≡ spot (mate x) = ap spot (sym (planar.twice y iy) ∙ ap mate e) in absurd (omega (arith, q, v)))
        | inr n ↦ elim (mem_append (mate y) a (mate x ∷ b) n) [
          | inl w ↦ (let z : Mem y a = subst (λ t. Mem t a) (planar.twice y iy) (within x a b h (mate y) w) in
              let l : spot y < spot (mate x) = rises_across spot a (mate x ∷ b) h.rises.1 y (mate x) z (inl refl) in absurd (omega (arith, l, v)))
          | inr w ↦ elim w [
            | inl e ↦ (let q : spot y ≡ spot x = ap spot (sym (planar.twice y iy) ∙ (ap mate e ∙ planar.twice x ix)) in absurd (omega (arith, q, u)))
            | inr t ↦ t
          ]
        ]
      ]

  interval_first : (x : P) (a b : List P) → Interval (x ∷ (a ++ (mate x ∷ b))) → Interval a
  interval_first x a b h = record {
    inside = λ y m. h.inside y (inr (mem_left y a (mate x ∷ b) m));
    rises = rises_first spot a (mate x ∷ b) h.rises.1;
    between = λ y z w my mw iz l r.
        let k = h.between y z w (inr (mem_left y a (mate x ∷ b) my)) (inr (mem_left w a (mate x ∷ b) mw)) iz l r in
        let u : spot x < spot y = h.rises.0 y (mem_left y a (mate x ∷ b) my) in
        elim k [
          | inl e ↦ (let q : spot z ≡ spot x = ap spot e in absurd (omega (arith, q, u, l)))
          | inr n ↦ elim (mem_append z a (mate x ∷ b) n) [
            | inl t ↦ t
            | inr t ↦ (let v : spot w < spot z = rises_across spot a (mate x ∷ b) h.rises.1 w z mw t in absurd (omega (arith, v, r)))
          ]
        ];
  }

  -- the rest of an interval is one
  pub interval_rest : (xs ys : List P) → Interval (xs ++ ys) → Interval ys
  interval_rest xs ys h = record {
    inside = λ y m. h.inside y (mem_right y xs ys m);
    rises = rises_second spot xs ys h.rises;
    between = λ y z w my mw iz l r.
        elim (mem_append z xs ys (h.between y z w (mem_right y xs ys my) (mem_right w xs ys mw) iz l r)) [
          | inl t ↦ (let v : spot z < spot y = rises_across spot xs ys h.rises z y t my in absurd (omega (arith, v, l)))
          | inr t ↦ t
        ];
  }

  -- the test tells whether a point's mate stands in the list
  pub record Tells (away : P → Bool) (xs : List P) : Type 0 where
    pub far : (x : P) → Mem x xs → away x ≡ true → Mem (mate x) xs → ⊥
    pub near : (x : P) → Mem x xs → away x ≡ false → Mem (mate x) xs

  none_kept : (away : P → Bool) (xs : List P) → ((x : P) → Mem x xs → away x ≡ false) → filter away xs ≡ []
  none_kept away [] h = refl
  none_kept away (x ∷ xs) h = rw (h x (inl refl)) (none_kept away xs (λ y m. h y (inr m)))

  not_true : (b : Bool) → (b ≡ true → ⊥) → b ≡ false
  not_true true h = absurd (h refl)
  not_true false h = refl

  module _ {A : Type 0} (L : Alphabet A) (word : P → List A) where
    -- the words at the two ends of a pair of the list are inverse
    abbrev pub Turned : List P → Type 0
    Turned xs = (x : P) → Mem x xs → Mem (mate x) xs → Alike L (word (mate x)) (back L (word x))

    -- up to reduction, the product over an interval is the product over its points whose mates stand elsewhere
    pub interval_once : (n : ℕ) (away : P → Bool) (xs : List P) → length xs ≤ n → Interval xs → Tells away xs → Turned xs → Alike L (flat_map word xs) (flat_map word (filter away xs))
    interval_once n away [] l h t d = refl
    interval_once zero away (x ∷ xs) l h t d = absurd (omega arith)
    interval_once (suc n) away (x ∷ xs) l h t d = go (interval_once n away) (away x) refl
      where
        stay : away x ≡ true → Tells away xs
        stay e = record {
          far = λ y m k c. t.far y (inr m) k (inr c);
          near = λ y m k. elim (t.near y (inr m) k) [
            | inl q ↦ absurd (t.far x (inl refl) e (inr (subst (λ z. Mem z xs) (sym (planar.twice y (h.inside y (inr m))) ∙ ap mate q) m)))
            | inr c ↦ c
          ];
        }

        leave : ((zs : List P) → length zs ≤ n → Interval zs → Tells away zs → Turned zs → Alike L (flat_map word zs) (flat_map word (filter away zs))) → (a b : List P) → xs ≡ a ++ (mate x ∷ b) → Alike L (flat_map word (x ∷ xs)) (flat_map word (filter away xs))
        leave ih a b e =
            let h' : Interval (x ∷ (a ++ (mate x ∷ b))) = subst (λ z. Interval (x ∷ z)) e h in
            let d' : Turned (x ∷ (a ++ (mate x ∷ b))) = subst (λ z. Turned (x ∷ z)) e d in
            let t' : Tells away (x ∷ (a ++ (mate x ∷ b))) = subst (λ z. Tells away (x ∷ z)) e t in
            let la : length a ≤ n = (let q : length xs ≡ length (a ++ (mate x ∷ b)) = ap length e in omega (arith, q, l, length-append a (mate x ∷ b))) in
            let lb : length b ≤ n = (let q : length xs ≡ length (a ++ (mate x ∷ b)) = ap length e in omega (arith, q, l, length-append a (mate x ∷ b))) in
            let ix : In x = h.inside x (inl refl) in
            let in_a : (y : P) → Mem y a → away y ≡ false = λ y m. not_true (away y) (λ q. t'.far y (inr (mem_left y a (mate x ∷ b) m)) q
            (inr (mem_left (mate y) a (mate x ∷ b) (within x a b h' y m)))) in
            let at_mate : away (mate x) ≡ false = not_true (away (mate x)) (λ q. t'.far (mate x) (inr (mem_right (mate x) a (mate x ∷ b) (inl refl))) q
            (inl (planar.twice x ix))) in
            let empty_a : filter away a ≡ [] = none_kept away a in_a in
            let null_a : Null L (flat_map word a) = ih a la (interval_first x a b h') (record {
              far = λ y m q c. false≢true (sym (in_a y m) ∙ q);
              near = λ y m q. within x a b h' y m;
            })
            (λ y m k. d' y (inr (mem_left y a (mate x ∷ b) m)) (inr (mem_left (mate y) a (mate x ∷ b) k))) ∙ ap (λ z. cancelled L (flat_map word z)) empty_a in
            let rest : Alike L (flat_map word b) (flat_map word (filter away b)) = ih b lb
            (interval_rest (x ∷ (a ++ (mate x ∷ []))) b (subst Interval (ap (λ z. x ∷ z) (sym (append_assoc a (mate x ∷ []) b))) h')) (record {
              far = λ y m q c. t'.far y (inr (mem_right y a (mate x ∷ b) (inr m))) q (inr (mem_right (mate y) a (mate x ∷ b) (inr c)));
              near = λ y m q. beyond x a b h' y m (t'.near y (inr (mem_right y a (mate x ∷ b) (inr m))) q);
            })
            (λ y m k. d' y (inr (mem_right y a (mate x ∷ b) (inr m))) (inr (mem_right (mate y) a (mate x ∷ b) (inr k)))) in
            let kept : filter away xs ≡ filter away b = ap (filter away) e ∙ (filter-append away a (mate x ∷ b) ∙ (rw (empty_a, at_mate) refl)) in
            let parts : flat_map word (x ∷ xs) ≡ word x ++ (flat_map word a ++ (word (mate x) ++ flat_map word b)) =
            ap (λ z. word x ++ z) (ap (flat_map word) e ∙ flat_map-append word a (mate x ∷ b)) in
            let pair : Alike L (word x ++ (word (mate x) ++ flat_map word b)) (flat_map word b) =
            ap (cancelled L) (sym (append_assoc (word x) (word (mate x)) (flat_map word b)))
            ∙ null_out L [] (word x ++ word (mate x)) (flat_map word b) (alike_after L (word x) (word (mate x)) (back L (word x)) (d' x (inl refl) (inr (mem_right (mate x) a (mate x ∷ b) (inl refl)))) ∙ word_and_back L (word x)) in
            ap (cancelled L) parts ∙ (null_out L (word x) (flat_map word a) (word (mate x) ++ flat_map word b) null_a
            ∙ (pair ∙ (rest ∙ ap (λ z. cancelled L (flat_map word z)) (sym kept))))

        go : ((zs : List P) → length zs ≤ n → Interval zs → Tells away zs → Turned zs → Alike L (flat_map word zs) (flat_map word (filter away zs))) → (b : Bool) → away x ≡ b → Alike L (flat_map word (x ∷ xs)) (flat_map word (cond b (x ∷ filter away xs) (filter away xs)))
        go ih true e = alike_after L (word x) (flat_map word xs) (flat_map word (filter away xs)) (ih xs (omega (arith, l)) (interval_rest (x ∷ []) xs h) (stay e) (λ y m k. d y (inr m) (inr k)))
        go ih false e = elim (t.near x (inl refl) e) [
          | inl q ↦ absurd (planar.moves x (h.inside x (inl refl)) q)
          | inr c ↦ (let s = split (mate x) xs c in leave ih s.0 s.1 s.2)
        ]
