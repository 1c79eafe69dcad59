-- A word that reduces to nothing pairs its letters off without crossing.
use Rattle.std.proofs.Common.{◌≡◌, ℕ, zero, suc, ◌<◌, ◌≤◌, Bool, true, false, cond, List, [], ◌∷◌, ◌++◌, map, length, refl, sym, ◌∙◌, ap, subst, inl, inr, arith, append_assoc, length-append}
use Rattle.std.specs.List.{filter}
use Rattle.std.proofs.lemmas.Bool.{false≢true}
use Rattle.std.proofs.lemmas.List.{map-append}
use Rattle.std.proofs.lemmas.List.Concat.{flat_map_single}
use Rattle.obd_base.proofs.lists.Members.{mem_append, mem_left, mem_right}
use Rattle.obd_base.specs.Lists.{Mem}
use Rattle.curve_paths.proofs.Members.{Rises, rises_across, rises_first, rises_second}
use Rattle.curve_paths.proofs.Planar.{Interval, Planar, Tells, interval_once}
use Rattle.curve_paths.proofs.Reduction.{null_out, pair_out}
use Rattle.curve_paths.specs.Alphabet.{Alike, Alphabet, Null, cancelled, push}

module _ {P A : Type 0} (L : Alphabet A) (letter : P → A) where
  -- points whose first part reduces to nothing, then a point, then the rest
  pub record Cut (y : A) (r : List A) (xs : List P) : Type 0 where
    pub front : List P
    pub point : P
    pub rest : List P
    pub whole : xs ≡ front ++ (point ∷ rest)
    pub is_letter : letter point ≡ y
    pub front_null : Null L (map letter front)
    pub rest_is : cancelled L (map letter rest) ≡ r

  head_of : {x y : A} {u v : List A} → x ∷ u ≡ y ∷ v → x ≡ y
  head_of e = cc

  tail_of : {x y : A} {u v : List A} → x ∷ u ≡ y ∷ v → u ≡ v
  tail_of e = cc

  -- where the first letter of a reduced form stands in the word
  first_kept : (n : ℕ) (xs : List P) → length xs ≤ n → (y : A) (r : List A) → cancelled L (map letter xs) ≡ y ∷ r → Cut y r xs
  first_kept n [] l y r e = absurd (let q : [] ≡ y ∷ r = e in let z : length {A = A} [] ≡ length (y ∷ r) = ap length q in omega (arith, z))
  first_kept zero (x ∷ xs) l y r e = absurd (omega (arith, l))
  first_kept (suc n) (x ∷ xs) l y r e = go (cancelled L (map letter xs)) refl e (first_kept n)
    where
      here : (v : List A) → cancelled L (map letter xs) ≡ v → letter x ∷ v ≡ y ∷ r → Cut y r (x ∷ xs)
      here v q e = record { front = []; point = x; rest = xs; whole = refl; is_letter = head_of e; front_null = refl; rest_is = q ∙ tail_of e }

      join : (t : A) → t ≡ L.inv (letter x) → (k : Cut t (y ∷ r) xs) → Cut y r k.rest → Cut y r (x ∷ xs)
      join t s k h = record {
        front = x ∷ (k.front ++ (k.point ∷ h.front));
        point = h.point;
        rest = h.rest;
        whole = ap (λ z. x ∷ z) (k.whole ∙ (ap (λ z. k.front ++ (k.point ∷ z)) h.whole ∙ sym (append_assoc k.front (k.point ∷ h.front) (h.point ∷ h.rest))));
        is_letter = h.is_letter;
        front_null =
            ap (λ z. cancelled L (letter x ∷ z)) (map-append letter k.front (k.point ∷ h.front) ∙ ap (λ z. map letter k.front ++ (z ∷ map letter h.front)) (k.is_letter ∙ s))
            ∙ (null_out L (letter x ∷ []) (map letter k.front) (L.inv (letter x) ∷ map letter h.front) k.front_null
            ∙ (pair_out L [] (letter x) (map letter h.front) ∙ h.front_null));
        rest_is = h.rest_is;
      }

      go : (v : List A) → cancelled L (map letter xs) ≡ v → push L (letter x) v ≡ y ∷ r
          → ((zs : List P) → length zs ≤ n → (y : A) (r : List A) → cancelled L (map letter zs) ≡ y ∷ r → Cut y r zs) → Cut y r (x ∷ xs)
      go [] q e ih = here [] q e
      go (t ∷ v) q e ih = test (L.same (L.inv (letter x)) t) refl e
        where
          test : (b : Bool) → L.same (L.inv (letter x)) t ≡ b → cond b v (letter x ∷ t ∷ v) ≡ y ∷ r → Cut y r (x ∷ xs)
          test true s e =
              let k : Cut t (y ∷ r) xs = ih xs (omega (arith, l)) t (y ∷ r) (q ∙ ap (λ z. t ∷ z) e) in
              let len : length k.rest ≤ n = (let z : length xs ≡ length (k.front ++ (k.point ∷ k.rest)) = ap length k.whole in omega (arith, z, l, length-append k.front (k.point ∷ k.rest))) in
              join t (sym (L.same_true _ _ s)) k (ih k.rest len y r k.rest_is)
          test false s e = here (t ∷ v) q e

  -- The first letter of a word that reduces to nothing has its inverse later, with such words between and after
  pub parsed : (x : P) (xs : List P) → Null L (map letter (x ∷ xs)) → Cut (L.inv (letter x)) [] xs
  parsed x xs e = go (cancelled L (map letter xs)) refl e
    where
      go : (v : List A) → cancelled L (map letter xs) ≡ v → push L (letter x) v ≡ [] → Cut (L.inv (letter x)) [] xs
      go [] q e = absurd (let z : length (letter x ∷ []) ≡ length {A = A} [] = ap length e in omega (arith, z))
      go (t ∷ v) q e = test (L.same (L.inv (letter x)) t) refl e
        where
          test : (b : Bool) → L.same (L.inv (letter x)) t ≡ b → cond b v (letter x ∷ t ∷ v) ≡ [] → Cut (L.inv (letter x)) [] xs
          test true s e = first_kept (length xs) xs (omega arith) (L.inv (letter x)) [] (q ∙ (ap (λ z. z ∷ v) (sym (L.same_true _ _ s)) ∙ ap (λ z. L.inv (letter x) ∷ z) e))
          test false s e = absurd (let z : length (letter x ∷ t ∷ v) ≡ length {A = A} [] = ap length e in omega (arith, z))

  module _ (spot : P → ℕ) (mate : P → P) where
    -- the pairing of a list of points stays in it and doesn't cross
    pub record Good (xs : List P) : Type 0 where
      pub stays : (x : P) → Mem x xs → Mem (mate x) xs
      pub uncrossed : (x y : P) → Mem x xs → Mem y xs → spot x < spot y → spot y < spot (mate x) → (spot x < spot (mate y)) × (spot (mate y) < spot (mate x))

    -- where a point of such a list stands
    data Where (x m : P) (a b : List P) (z : P) : Type 0 where
      first : z ≡ x → Where x m a b z
      inner : Mem z a → Where x m a b z
      second : z ≡ m → Where x m a b z
      after : Mem z b → Where x m a b z

    place : (x m : P) (a b : List P) (z : P) → Mem z (x ∷ (a ++ (m ∷ b))) → Where x m a b z
    place x m a b z k = elim k [
      | inl q ↦ first q
      | inr t ↦ elim (mem_append z a (m ∷ b) t) [
        | inl u ↦ inner u
        | inr u ↦ elim u [ inl q ↦ second q | inr v ↦ after v ]
      ]
    ]

    good_join : (x m : P) (a b : List P) → m ≡ mate x → mate m ≡ x → Rises spot (x ∷ (a ++ (m ∷ b))) → Good a → Good b → Good (x ∷ (a ++ (m ∷ b)))
    good_join x m a b e e' h ga gb = record {
      stays = λ z k. stay z (place x m a b z k);
      uncrossed = λ y z k t l r. apart y z (place x m a b y k) (place x m a b z t) l r;
    }
      where
        in_a : (z : P) → Mem z a → (spot x < spot z) × (spot z < spot m)
        in_a z k = (h.0 z (mem_left z a (m ∷ b) k), rises_across spot a (m ∷ b) h.1 z m k (inl refl))

        in_b : (z : P) → Mem z b → spot m < spot z
        in_b z k = (rises_second spot a (m ∷ b) h.1).0 z k

        order : spot x < spot m
        order = h.0 m (mem_right m a (m ∷ b) (inl refl))

        stay : (z : P) → Where x m a b z → Mem (mate z) (x ∷ (a ++ (m ∷ b)))
        stay z (first q) = inr (mem_right (mate z) a (m ∷ b) (inl (ap mate q ∙ sym e)))
        stay z (inner u) = inr (mem_left (mate z) a (m ∷ b) (ga.stays z u))
        stay z (second q) = inl (ap mate q ∙ e')
        stay z (after v) = inr (mem_right (mate z) a (m ∷ b) (inr (gb.stays z v)))

        apart : (y z : P) → Where x m a b y → Where x m a b z → spot y < spot z → spot z < spot (mate y) → (spot y < spot (mate z)) × (spot (mate z) < spot (mate y))
        apart y z (first q) w l r =
            from_first w
          where
            from_first : Where x m a b z → (spot y < spot (mate z)) × (spot (mate z) < spot (mate y))
            from_first (first s) = let f : spot y ≡ spot x = ap spot q in let t : spot z ≡ spot x = ap spot s in absurd (omega (arith, f, t, l))
            from_first (inner u) =
                let f : spot y ≡ spot x = ap spot q in
                let g : spot (mate y) ≡ spot m = ap spot (ap mate q ∙ sym e) in
                let k = in_a (mate z) (ga.stays z u) in (omega (arith, f, k.0), omega (arith, g, k.1))
            from_first (second s) = let g : spot (mate y) ≡ spot m = ap spot (ap mate q ∙ sym e) in let t : spot z ≡ spot m = ap spot s in absurd (omega (arith, g, t, r))
            from_first (after v) = let g : spot (mate y) ≡ spot m = ap spot (ap mate q ∙ sym e) in absurd (let k = in_b z v in omega (arith, g, k, r))
        apart y z (inner u) w l r = from_inner w
          where
            from_inner : Where x m a b z → (spot y < spot (mate z)) × (spot (mate z) < spot (mate y))
            from_inner (first s) = absurd (let t : spot z ≡ spot x = ap spot s in let k = in_a y u in omega (arith, t, k.0, l))
            from_inner (inner v) = ga.uncrossed y z u v l r
            from_inner (second s) = absurd (let t : spot z ≡ spot m = ap spot s in let k = in_a (mate y) (ga.stays y u) in omega (arith, t, k.1, r))
            from_inner (after v) = absurd (let t = in_b z v in let k = in_a (mate y) (ga.stays y u) in omega (arith, t, k.1, r))
        apart y z (second q) w l r = absurd (let f : spot y ≡ spot m = ap spot q in let g : spot (mate y) ≡ spot x = ap spot (ap mate q ∙ e') in let o = order in omega (arith, f, g, o, l, r))
        apart y z (after v) w l r = from_after w
          where
            from_after : Where x m a b z → (spot y < spot (mate z)) × (spot (mate z) < spot (mate y))
            from_after (first s) = absurd (let t : spot z ≡ spot x = ap spot s in let k = in_b y v in let o = order in omega (arith, t, k, o, l))
            from_after (inner u) = absurd (let t = in_a z u in let k = in_b y v in omega (arith, t.1, k, l))
            from_after (second s) = absurd (let t : spot z ≡ spot m = ap spot s in let k = in_b y v in omega (arith, t, k, l))
            from_after (after u) = gb.uncrossed y z v u l r

    -- where the letters reduce to nothing, the pairing doesn't cross
    pub good_from_null : (n : ℕ) (xs : List P) → length xs ≤ n → Rises spot xs → ((x : P) → Mem x xs → mate (mate x) ≡ x)
        → ((x y : P) → Mem x xs → Mem y xs → spot x < spot y → letter y ≡ L.inv (letter x) → y ≡ mate x)
        → Null L (map letter xs) → Good xs
    good_from_null n [] l h t d e = record { stays = λ x k. absurd k; uncrossed = λ x y k. absurd k }
    good_from_null zero (x ∷ xs) l h t d e = absurd (omega (arith, l))
    good_from_null (suc n) (x ∷ xs) l h t d e =
        let k = parsed x xs e in
        let a = k.front in
        let m = k.point in
        let b = k.rest in
        let la : length a ≤ n = (let z : length xs ≡ length (a ++ (m ∷ b)) = ap length k.whole in omega (arith, z, l, length-append a (m ∷ b))) in
        let lb : length b ≤ n = (let z : length xs ≡ length (a ++ (m ∷ b)) = ap length k.whole in omega (arith, z, l, length-append a (m ∷ b))) in
        let back_to : (z : P) → Mem z (a ++ (m ∷ b)) → Mem z xs = λ z q. subst (Mem z) (sym k.whole) q in
        let h' : Rises spot (x ∷ (a ++ (m ∷ b))) = subst (λ z. Rises spot (x ∷ z)) k.whole h in
        let mx : Mem m xs = back_to m (mem_right m a (m ∷ b) (inl refl)) in
        let is_mate : m ≡ mate x = d x m (inl refl) (inr mx) (h.0 m mx) k.is_letter in
        let ga = good_from_null n a la (rises_first spot a (m ∷ b) h'.1) (λ z q. t z (inr (back_to z (mem_left z a (m ∷ b) q))))
        (λ z y q r. d z y (inr (back_to z (mem_left z a (m ∷ b) q))) (inr (back_to y (mem_left y a (m ∷ b) r)))) k.front_null in
        let gb = good_from_null n b lb (rises_second spot a (m ∷ b) h'.1).1 (λ z q. t z (inr (back_to z (mem_right z a (m ∷ b) (inr q)))))
        (λ z y q r. d z y (inr (back_to z (mem_right z a (m ∷ b) (inr q)))) (inr (back_to y (mem_right y a (m ∷ b) (inr r))))) k.rest_is in
        subst (λ z. Good (x ∷ z)) (sym k.whole) (good_join x m a b is_mate (ap mate is_mate ∙ t x (inl refl)) h' ga gb)

module _ {P A : Type 0} (In : P → Type 0) (spot : P → ℕ) (mate : P → P) (planar : Planar In spot mate) (L : Alphabet A) (letter : P → A)
    (turns : (x : P) → In x → letter (mate x) ≡ L.inv (letter x)) where
  once_letters : (away : P → Bool) (xs : List P) → Interval In spot mate planar xs → Tells In spot mate planar away xs
      → Alike L (map letter xs) (map letter (filter away xs))
  once_letters away xs h t =
      ap (cancelled L) (sym (flat_map_single letter xs))
      ∙ (interval_once In spot mate planar L (λ x. letter x ∷ []) (length xs) away xs (omega arith) h t (λ x m k. ap (λ z. z ∷ []) (turns x (h.inside x m)))
      ∙ ap (cancelled L) (flat_map_single letter (filter away xs)))

  nothing_kept : (xs : List P) → filter (λ x. false) xs ≡ []
  nothing_kept [] = refl
  nothing_kept (x ∷ xs) = nothing_kept xs

  -- where the pairing does not cross, the letters of a closed interval reduce to nothing
  pub null_closed : (xs : List P) → Interval In spot mate planar xs → ((x : P) → Mem x xs → Mem (mate x) xs) → Null L (map letter xs)
  null_closed xs h s =
      once_letters (λ x. false) xs h (record { far = λ x m q k. false≢true q; near = λ x m q. s x m }) ∙ ap (λ z. cancelled L (map letter z)) (nothing_kept xs)
