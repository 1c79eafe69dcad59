-- The sides after a slide, in order: each old number once.
use Rattle.std.proofs.Common.{◌≡◌, ◌≢◌, ℕ, suc, ◌+◌, ◌-◌, ◌<◌, ◌≤◌, false, cond, eqb, List, [], ◌∷◌, ◌++◌, length, take, drop, refl, sym, subst, ap, ap₂, ◌∙◌, ◌⊎◌, inl, inr, arith}
use Rattle.std.specs.List.{count_by, flat_map, range_with_len, sum_by}
use Rattle.std.proofs.lemmas.Bool.{cases_Bool, cases_eq, eq-eqb, eqb-true, ne_eqb, false≢true}
use Rattle.std.proofs.lemmas.List.Concat.{flat_map-append}
use Rattle.std.proofs.lemmas.List.FromFn.{length-range_with_len}
use Rattle.std.proofs.lemmas.List.Sums.{sum_by-append, sum_by-cons}
use Rattle.obd_base.specs.Lists.{Mem, below}
use Rattle.obd_base.proofs.lists.Below.{bit}
use Rattle.obd_base.proofs.lists.Counts.{count_one, some_counted}
use Rattle.obd_base.proofs.lists.Members.{mem_left, mem_right, split}
use Rattle.page_surface.specs.Polygon.{IsPolygon, Polygon, partner, sides}
use Rattle.curve_paths.specs.Curves.{turned}
use Rattle.handle_slide.specs.Slide.{side_after, slid_sides}
use Rattle.arc_basis.proofs.OneItem.{counted, none_counted}
use Rattle.curve_paths.proofs.PointPlaces.{range_join}

-- a list turned round after its first part
turned_cut : (a b : List ℕ) → turned (length a) (a ++ b) ≡ b ++ a
turned_cut a b = ap₂ (λ x y. x ++ y) (dropped a b) (taken a b)
  where
    dropped : (a b : List ℕ) → drop (length a) (a ++ b) ≡ b
    dropped [] b = refl
    dropped (x ∷ a) b = dropped a b

    taken : (a b : List ℕ) → take (length a) (a ++ b) ≡ a
    taken [] [] = refl
    taken [] (y ∷ b) = refl
    taken (x ∷ a) b = ap (λ z. x ∷ z) (taken a b)

pub turned_range : (n k : ℕ) → k < n → turned k (below n) ≡ range_with_len k (n - k) ++ below k
turned_range n k l =
    let e : n ≡ k + (n - k) = omega arith in
    let whole : below n ≡ below k ++ range_with_len k (n - k) = ap below e ∙ (range_join 0 k (n - k) ∙ ap (λ a. below k ++ range_with_len a (n - k)) (let z : 0 + k ≡ k = omega arith in z)) in
    ap₂ turned (sym (length-range_with_len 0 k)) whole ∙ turned_cut (below k) (range_with_len k (n - k))

module _ (p : Polygon) (is : IsPolygon p) (k : ℕ) (lk : k < sides p) (slides : side_after p k ≢ partner p k) where
  abbrev n : ℕ
  n = sides p

  abbrev pub k1 : ℕ
  k1 = side_after p k

  abbrev pub pk : ℕ
  pk = partner p k

  pub partner_less : partner p k < sides p
  partner_less = is.pairs.in_range k lk

  pub not_own : partner p k ≢ k
  not_own = is.pairs.moves k lk

  two_sides : 2 ≤ sides p
  two_sides = let a = partner_less in let b = not_own in omega (arith, a, b, lk)

  pub after_less : side_after p k < sides p
  after_less = let h = two_sides in elim (cases_eq (suc k) (sides p)) [
    | inl e ↦ rw (eq-eqb (suc k) (sides p) e) (omega (arith, h))
    | inr m ↦ rw (ne_eqb (suc k) (sides p) m) (omega (arith, m, lk))
  ]

  pub after_moves : side_after p k ≢ k
  after_moves = let h = two_sides in elim (cases_eq (suc k) (sides p)) [
    | inl e ↦ (λ q. let z : 0 ≡ k = sym (ap (λ b. cond b 0 (suc k)) (eq-eqb (suc k) (sides p) e)) ∙ q in omega (arith, z, e, h))
    | inr m ↦ (λ q. let z : suc k ≡ k = sym (ap (λ b. cond b 0 (suc k)) (ne_eqb (suc k) (sides p) m)) ∙ q in omega (arith, z))
  ]

  -- the sides from k round
  first_two : (r : List ℕ) × (turned k (below (sides p)) ≡ k ∷ side_after p k ∷ r)
  first_two = let h = two_sides in elim (cases_eq (suc k) (sides p)) [
    | inl e ↦
        let one : n - k ≡ 1 = omega (arith, e) in
        let after : side_after p k ≡ 0 = ap (λ b. cond b 0 (suc k)) (eq-eqb (suc k) (sides p) e) in
        let some : k ≡ suc (k - 1) = omega (arith, e, h) in (
          range_with_len (0 + 1) (k - 1),
          turned_range n k lk ∙ (ap (λ m. range_with_len k m ++ below k) one ∙ (ap (λ m. k ∷ range_with_len 0 m) some ∙ ap (λ m. k ∷ m ∷ range_with_len (0 + 1) (k - 1)) (sym after))),
        )
    | inr m ↦
        let two : n - k ≡ suc (suc (n - k - 2)) = omega (arith, m, lk) in
        let after : side_after p k ≡ suc k = ap (λ b. cond b 0 (suc k)) (ne_eqb (suc k) (sides p) m) in
        let next : k + 1 ≡ suc k = omega arith in (
          range_with_len (k + 1 + 1) (n - k - 2) ++ below k,
          turned_range n k lk ∙ (ap (λ m. range_with_len k m ++ below k) two ∙ ap (λ m. k ∷ m ∷ (range_with_len (k + 1 + 1) (n - k - 2) ++ below k)) (next ∙ sym after)),
        )
  ]

  -- a sum over the sides, read round from k
  turned_sum : (f : ℕ → ℕ) → sum_by f (turned k (below n)) ≡ sum_by f (below n)
  turned_sum f =
      let e : n ≡ k + (n - k) = omega (arith, lk) in
      let whole : below n ≡ below k ++ range_with_len k (n - k) = ap below e ∙ (range_join 0 k (n - k) ∙ ap (λ a. below k ++ range_with_len a (n - k)) (let z : 0 + k ≡ k = omega arith in z)) in
      omega (
        arith,
        ap (sum_by f) (turned_range n k lk),
        sum_by-append f (range_with_len k (n - k)) (below k),
        ap (sum_by f) whole,
        sum_by-append f (below k) (range_with_len k (n - k)),
      )

  -- the rest, cut at the partner of k
  pub record Round : Type 0 where
    pub r1 : List ℕ
    pub r2 : List ℕ
    pub round : turned k (below (sides p)) ≡ k ∷ side_after p k ∷ (r1 ++ (partner p k ∷ r2))
    pub slid : slid_sides p k ≡ k ∷ (r1 ++ (side_after p k ∷ partner p k ∷ r2))

  once_below : (s : ℕ) → s < n → count_by (eqb s) (below n) ≡ 1
  once_below s l = count_one (eqb s) 0 n s (omega arith) (omega (arith, l)) (eq-eqb s s refl) (λ x a h e. sym (eqb-true _ _ e))

  pub round : Round
  round =
      let (r, e) = first_two in
      let m : Mem pk (turned k (below n)) = in_turned (partner_less) in
      let there : Mem pk r = elim (subst (λ xs. Mem pk xs) e m) [
        | inl q ↦ absurd (not_own q)
        | inr u ↦ elim u [ inl q ↦ absurd (slides (sym q)) | inr v ↦ v ]
      ] in
      let (r1, r2, q) = split pk r there in
      let whole : turned k (below n) ≡ k ∷ k1 ∷ (r1 ++ (pk ∷ r2)) = e ∙ ap (λ z. k ∷ k1 ∷ z) q in
      let one : count_by (eqb pk) (k ∷ k1 ∷ (r1 ++ (pk ∷ r2))) ≡ 1 = ap (count_by (eqb pk)) (sym whole) ∙ (turned_sum (λ x. bit (eqb pk x)) ∙ once_below pk partner_less) in
      let f = λ (x : ℕ). bit (eqb pk x) in
      let here : bit (eqb pk pk) ≡ 1 = ap bit (eq-eqb pk pk refl) in
      let s1 = sum_by-cons f k (k1 ∷ (r1 ++ (pk ∷ r2))) in
      let s2 = sum_by-cons f k1 (r1 ++ (pk ∷ r2)) in
      let s3 = sum_by-append f r1 (pk ∷ r2) in
      let s4 = sum_by-cons f pk r2 in
      let none1 = none_counted (eqb pk) r1 (omega (arith, one, s1, s2, s3, s4, here)) in
      let none2 = none_counted (eqb pk) r2 (omega (arith, one, s1, s2, s3, s4, here)) in
      let g = λ (s : ℕ). cond (eqb s pk) (k1 ∷ s ∷ []) (s ∷ []) in
      record {
        r1 = r1;
        r2 = r2;
        round = whole;
        slid = ap (λ xs. k ∷ flat_map g (drop 2 xs)) whole
            ∙ ap (λ z. k ∷ z) (flat_map-append g r1 (pk ∷ r2) ∙ ap₂ (λ x y. x ++ y) (alone r1 none1)
            (ap (λ b. cond b (k1 ∷ pk ∷ []) (pk ∷ []) ++ flat_map g r2) (eq-eqb pk pk refl) ∙ ap (λ z. k1 ∷ pk ∷ z) (alone r2 none2)));
      }
    where
      in_turned : {s : ℕ} → s < n → Mem s (turned k (below n))
      in_turned {s} l =
          let c = ap (count_by (eqb s)) (turned_range n k lk) in
          let e = turned_sum (λ x. bit (eqb s x)) in
          let o = once_below s l in
          member s (turned k (below n)) (omega (arith, e, o))
        where
          member : (s : ℕ) (xs : List ℕ) → 1 ≤ count_by (eqb s) xs → Mem s xs
          member s [] h = absurd (omega (arith, h))
          member s (x ∷ xs) h = elim (cases_Bool (eqb s x)) [
            | inl t ↦ inl (eqb-true s x t)
            | inr f ↦ inr (member s xs (let z : bit (eqb s x) ≡ 0 = ap bit f in omega (arith, h, z, sum_by-cons (λ y. bit (eqb s y)) x xs)))
          ]

      alone : (xs : List ℕ) → ((x : ℕ) → Mem x xs → eqb pk x ≡ false) → flat_map (λ s. cond (eqb s pk) (k1 ∷ s ∷ []) (s ∷ [])) xs ≡ xs
      alone [] h = refl
      alone (x ∷ xs) h =
          let no : eqb x pk ≡ false = ne_eqb x pk (λ e. false≢true (sym (h x (inl refl)) ∙ eq-eqb pk x (sym e))) in
          ap (λ b. cond b (k1 ∷ x ∷ []) (x ∷ []) ++ flat_map (λ s. cond (eqb s pk) (k1 ∷ s ∷ []) (s ∷ [])) xs) no ∙ ap (λ z. x ∷ z) (alone xs (λ y m. h y (inr m)))

  -- the sides in order, and read round from k
  pub turned_parts : (a : List ℕ) × (b : List ℕ) × (below (sides p) ≡ a ++ b) × (turned k (below (sides p)) ≡ b ++ a)
  turned_parts =
      let e : n ≡ k + (n - k) = omega (arith, lk) in (
        below k,
        range_with_len k (n - k),
        ap below e ∙ (range_join 0 k (n - k) ∙ ap (λ a. below k ++ range_with_len a (n - k)) (let z : 0 + k ≡ k = omega arith in z)),
        turned_range n k lk,
      )

  -- a sum over the sides after the slide
  pub slid_sum : (f : ℕ → ℕ) → sum_by f (slid_sides p k) ≡ sum_by f (below (sides p))
  slid_sum f =
      let r = round in
      omega (
        arith,
        sym (turned_sum f),
        ap (sum_by f) r.round,
        ap (sum_by f) r.slid,
        sum_by-cons f k (k1 ∷ (r.r1 ++ (pk ∷ r.r2))),
        sum_by-cons f k1 (r.r1 ++ (pk ∷ r.r2)),
        sum_by-append f r.r1 (pk ∷ r.r2),
        sum_by-cons f k (r.r1 ++ (k1 ∷ pk ∷ r.r2)),
        sum_by-append f r.r1 (k1 ∷ pk ∷ r.r2),
        sum_by-cons f k1 (pk ∷ r.r2),
      )

  -- each old side stands once
  pub slid_once : (s : ℕ) → s < sides p → count_by (eqb s) (slid_sides p k) ≡ 1
  slid_once s l = slid_sum (λ x. bit (eqb s x)) ∙ once_below s l

  -- and nothing else
  pub slid_less : (s : ℕ) → Mem s (slid_sides p k) → s < sides p
  slid_less s m =
      let c = counted (eqb s) s (slid_sides p k) m (eq-eqb s s refl) in
      let e = slid_sum (λ x. bit (eqb s x)) in
      let (x, a, b, t) = some_counted (eqb s) 0 n (omega (arith, c, e)) in
      omega (arith, b, eqb-true s x t)

  -- the rest are other sides
  pub rest_other : (s : ℕ) → Mem s ((round).r1) ⊎ Mem s ((round).r2) → (s < sides p) × (s ≢ k) × (s ≢ side_after p k) × (s ≢ partner p k)
  rest_other s m = (slid_less s there, apart k lk (inl refl), apart k1 after_less (inr (inl refl)), apart pk partner_less (inr (inr refl)))
    where
      r : Round
      r = round

      there : Mem s (slid_sides p k)
      there = subst (λ xs. Mem s xs) (sym (round).slid) (inr (elim m [
        | inl u ↦ mem_left s (round).r1 (k1 ∷ pk ∷ (round).r2) u
        | inr u ↦ mem_right s (round).r1 (k1 ∷ pk ∷ (round).r2) (inr (inr u))
      ]))

      apart : (x : ℕ) → x < n → (x ≡ k) ⊎ ((x ≡ k1) ⊎ (x ≡ pk)) → s ≢ x
      apart x l h e =
          let f = λ (y : ℕ). bit (eqb x y) in
          let one : sum_by f (k ∷ ((round).r1 ++ (k1 ∷ pk ∷ (round).r2))) ≡ 1 = ap (sum_by f) (sym (round).slid) ∙ slid_once x l in
          let s1 = sum_by-cons f k ((round).r1 ++ (k1 ∷ pk ∷ (round).r2)) in
          let s2 = sum_by-append f (round).r1 (k1 ∷ pk ∷ (round).r2) in
          let s3 = sum_by-cons f k1 (pk ∷ (round).r2) in
          let s4 = sum_by-cons f pk (round).r2 in
          let here : 1 ≤ f k + (f k1 + f pk) = elim h [
            | inl q ↦ (let z : f k ≡ 1 = ap bit (eq-eqb x k q) in omega (arith, z))
            | inr u ↦ elim u [
              | inl q ↦ (let z : f k1 ≡ 1 = ap bit (eq-eqb x k1 q) in omega (arith, z))
              | inr q ↦ (let z : f pk ≡ 1 = ap bit (eq-eqb x pk q) in omega (arith, z))
            ]
          ] in
          elim m [
            | inl u ↦ (let c = counted (eqb x) s (round).r1 u (eq-eqb x s (sym e)) in omega (arith, one, s1, s2, s3, s4, here, c))
            | inr u ↦ (let c = counted (eqb x) s (round).r2 u (eq-eqb x s (sym e)) in omega (arith, one, s1, s2, s3, s4, here, c))
          ]
