-- A part by itself is a curve, and the products along its sides are those that the part sets.
use Rattle.std.proofs.Common.{◌≡◌, ℕ, zero, suc, ◌+◌, ◌-◌, ◌<◌, Bool, true, false, cond, eqb, ltb, ◌&&◌, List, [], ◌∷◌, ◌++◌, map, length, refl, sym, ◌∙◌, ap, ap₂, subst, ◌⊎◌, inl, inr, arith, append-nil, add-one}
use Rattle.std.specs.List.{sum_by, count_by, flat_map}
use Rattle.std.proofs.lemmas.Bool.{cases_Bool, cases_eq, cases_order, eq-eqb, ne_eqb, lt-ltb, le-ltb}
use Rattle.std.proofs.lemmas.List.{length-map, get_or-map}
use Rattle.std.proofs.lemmas.List.Concat.{flat_map-append}
use Rattle.obd_base.specs.Lists.{Mem, below}
use Rattle.obd_base.specs.declared.points.Exit.{Exit}
use Rattle.obd_base.specs.declared.points.Sign.{Sign}
use Rattle.obd_base.proofs.lists.Below.{below_push, bit, count_less, count_suc, passing_of, same_of_count}
use Rattle.obd_base.proofs.lists.Members.{mem_map}
use Rattle.obd_base.proofs.lists.Sums.{member_adds, sum_map, sum_same}
use Rattle.page_surface.specs.Drawing.{crosses, exit, is_at}
use Rattle.page_surface.specs.Polygon.{Pairs, Polygon, partner, sides}
use Rattle.page_surface.specs.Words.{inverse}
use Rattle.curve_paths.specs.Curves.{IsCurve, curve_chord, curve_entry, curve_points, curve_spot, curve_stands, exit_at, previous, push_at, rho, signed, turned}
use Rattle.tight_curves.specs.Closed.{word_of}
use Rattle.tight_curves.specs.Parts.{IsPart, has_point, part_chord, part_exits, place_among}
use Rattle.tight_curves.proofs.PartPlaces.{alone_partner, met, moved, moved_in, moved_other, place_across, points_alone, same_test}
use Rattle.tight_curves.proofs.PartPoints.{In, Made, N, entering, exit_in, has_entry, has_exit, leaving, other, other_in, same_number, some_part, standing, stands_in, stands_out}
use Rattle.tight_curves.proofs.PartPoints as P
use Rattle.tight_curves.proofs.PartWords.{push_part, word_at, word_entry, word_exit, word_none}
use Rattle.curve_paths.proofs.CurvePoints.{exit_same, points_partner, previous-less}
use Rattle.path_words.proofs.CurveWords.{read_entry, read_exit}
use Rattle.curve_paths.proofs.ChordEnds.{chord}
use Rattle.curve_paths.proofs.PointPlaces.{less_number}

-- a product over numbers of which only those that pass have a factor, numbered among these
pub product_passing : {A : Type 0} (t : ℕ → Bool) (f g : ℕ → List A) (m : ℕ) → ((j : ℕ) → j < m → t j ≡ false → f j ≡ []) → ((j : ℕ) → j < m → t j ≡ true → f j ≡ g (count_by t (below j)))
    → flat_map f (below m) ≡ flat_map g (below (count_by t (below m)))
product_passing t f g zero fails passes = refl
product_passing t f g (suc m) fails passes =
    let ih = product_passing t f g m (λ j l. fails j (omega (arith, l))) (λ j l. passes j (omega (arith, l))) in
    let last : m < suc m = omega arith in
    ap (flat_map f) (below_push m) ∙ (flat_map-append f (below m) (m ∷ []) ∙ (ap₂ (λ x y. x ++ y) ih (append-nil (f m)) ∙ elim (cases_Bool (t m)) [
      | inl e ↦ (let n : count_by t (below (suc m)) ≡ suc (count_by t (below m)) = (let z : bit (t m) ≡ 1 = ap bit e in omega (arith, count_suc t m, z)) in
          ap (λ x. flat_map g (below (count_by t (below m))) ++ x) (passes m last e ∙ sym (append-nil (g (count_by t (below m)))))
          ∙ (sym (flat_map-append g (below (count_by t (below m))) (count_by t (below m) ∷ [])) ∙ ap (flat_map g) (sym (below_push (count_by t (below m))) ∙ ap below (sym n))))
      | inr e ↦ (let n : count_by t (below (suc m)) ≡ count_by t (below m) = (let z : bit (t m) ≡ 0 = ap bit e in omega (arith, count_suc t m, z)) in
          ap (λ x. flat_map g (below (count_by t (below m))) ++ x) (fails m last e) ∙ (append-nil (flat_map g (below (count_by t (below m)))) ∙ ap (λ k. flat_map g (below k)) (sym n)))
    ]))

module _ (p : Polygon) (ok : Pairs p) (c : List Exit) (curve : IsCurve p c) (s : List Exit) (part : IsPart p c s) where
  -- the part by itself
  abbrev pub d : List Exit
  d = part_exits p c s

  abbrev mv : Exit → Exit
  mv = moved p ok c curve s part

  abbrev In' : Exit → Type 0
  In' = In p ok c curve

  -- a point that the part has
  abbrev Has : Exit → Type 0
  Has e = has_point p c s e.side e.place ≡ true

  -- members of the part are points that it has
  mem_has : (e : Exit) → Mem e s → has_point p c s e.side e.place ≡ true
  mem_has e m =
      let f = λ (x : Exit). curve_stands p c x e.side e.place in
      lt-ltb 0 (sum_by f s) (omega (arith, member_adds f e s m, stands_out p ok c curve e))

  entry_has : (e : Exit) → Mem e s → has_point p c s (other p ok c curve e).side (other p ok c curve e).place ≡ true
  entry_has e m =
      let f = λ (x : Exit). curve_stands p c x (other p ok c curve e).side (other p ok c curve e).place in
      lt-ltb 0 (sum_by f s) (omega (arith, member_adds f e s m, stands_in p ok c curve e (part.inside e m)))

  -- an exit of the part by itself stands where the exit stands
  stands_moved : (e : Exit) (k j : ℕ) → Mem e s → k < sides p → j < curve_points p c k → has_point p c s k j ≡ true
      → curve_stands p (part_exits p c s) (mv e) k (place_among p c s k j) ≡ curve_stands p c e k j
  stands_moved e k j m lk lj t = ap₂ (λ a b. cond {A = ℕ} a 1 0 + cond b 1 0) out into
    where
      h : (e.side < sides p) × (e.place < curve_points p c e.side)
      h = part.inside e m

      out : is_at (mv e) k (place_among p c s k j) ≡ is_at e k j
      out = elim (cases_eq e.side k) [
        | inl q ↦ (let w = eq-eqb e.side k q in
            let has : has_point p c s k e.place ≡ true = subst (λ x. has_point p c s x e.place ≡ true) q (mem_has e m) in
            rw w (subst (λ x. eqb (place_among p c s x e.place) (place_among p c s k j) ≡ eqb e.place j) (sym q)
            (same_test (place_among p c s k e.place) (place_among p c s k j) e.place j (same_of_count (has_point p c s k) e.place j has t) (ap (place_among p c s k)))))
        | inr n ↦ (let w = ne_eqb e.side k n in rw w refl)
      ]

      into : (eqb (partner p e.side) k && eqb (suc ((mv e).place + place_among p c s k j)) (curve_points p (part_exits p c s) k)) ≡ (eqb (partner p e.side) k && eqb (suc (e.place + j)) (curve_points p c k))
      into = elim (cases_eq (partner p e.side) k) [
        | inl q ↦ (let w = eq-eqb (partner p e.side) k q in
            let x : ℕ = curve_points p c e.side - 1 - e.place in
            let has : has_point p c s k x ≡ true = subst (λ y. has_point p c s y x ≡ true) q (entry_has e m) in
            let across : place_among p c s k x + ((mv e).place + 1) ≡ curve_points p (part_exits p c s) e.side
            = ap (λ y. place_among p c s y x + ((mv e).place + 1)) (sym q) ∙ (place_across p ok c curve s part e.side e.place h.0 h.1 (mem_has e m) ∙ sym (points_alone p ok c curve s part e.side h.0)) in
            let many : curve_points p (part_exits p c s) k ≡ curve_points p (part_exits p c s) e.side = ap (curve_points p (part_exits p c s)) (sym q) ∙ alone_partner p ok c curve s part e.side in
            let n : curve_points p c k ≡ curve_points p c e.side = ap (curve_points p c) (sym q) ∙ points_partner p ok c curve e.side in
            rw w (same_test (suc ((mv e).place + place_among p c s k j)) (curve_points p (part_exits p c s) k) (suc (e.place + j)) (curve_points p c k)
            (λ r. let z = same_of_count (has_point p c s k) j x t has (omega (arith, r, across, many)) in omega (arith, z, n, h.1))
            (λ r. let z : j ≡ x = omega (arith, r, n) in let y : place_among p c s k j ≡ place_among p c s k x = ap (place_among p c s k) z in omega (arith, y, across, many))))
        | inr n ↦ (let w = ne_eqb (partner p e.side) k n in rw w refl)
      ]

  -- numbers of points of the part keep their order
  order_kept : (x y : Exit) → In' x → In' y → Has x → Has y → ltb (curve_spot p (part_exits p c s) (mv x)) (curve_spot p (part_exits p c s) (mv y)) ≡ ltb (curve_spot p c x) (curve_spot p c y)
  order_kept x y hx hy tx ty = elim (compare x y hx hy tx ty) [
    | inl e ↦ (let q : curve_spot p c x ≡ curve_spot p c y = ap (curve_spot p c) e in let r : curve_spot p (part_exits p c s) (mv x) ≡ curve_spot p (part_exits p c s) (mv y) = ap (λ z. curve_spot p (part_exits p c s) (mv z)) e in
        le-ltb _ _ (omega arith) ∙ sym (le-ltb _ _ (omega arith)))
    | inr o ↦ elim o [
      | inl l ↦ lt-ltb _ _ l.0 ∙ sym (lt-ltb _ _ l.1)
      | inr l ↦ le-ltb _ _ (omega (arith, l.0)) ∙ sym (le-ltb _ _ (omega (arith, l.1)))
    ]
  ]
    where
      less : (x y : Exit) → In' x → In' y → Has x → (x.side < y.side) ⊎ ((x.side ≡ y.side) × (x.place < y.place))
          → (curve_spot p (part_exits p c s) (mv x) < curve_spot p (part_exits p c s) (mv y)) × (curve_spot p c x < curve_spot p c y)
      less x y hx hy tx l =
          let i = moved_in p ok c curve s part x hx tx in (
            less_number (curve_points p (part_exits p c s)) (mv x) (mv y) (omega (arith, i.1)) (elim l [
              | inl u ↦ inl u
              | inr u ↦ inr (u.0, subst (λ k. place_among p c s x.side x.place < place_among p c s k y.place) u.0 (count_less (has_point p c s x.side) x.place y.place tx u.1))
            ]),
            less_number (curve_points p c) x y (omega (arith, hx.1)) l,
          )

      compare : (x y : Exit) → In' x → In' y → Has x → Has y → (x ≡ y)
          ⊎ (((curve_spot p (part_exits p c s) (mv x) < curve_spot p (part_exits p c s) (mv y)) × (curve_spot p c x < curve_spot p c y))
          ⊎ ((curve_spot p (part_exits p c s) (mv y) < curve_spot p (part_exits p c s) (mv x)) × (curve_spot p c y < curve_spot p c x)))
      compare x y hx hy tx ty = elim (cases_order x.side y.side) [
        | inl q ↦ elim (cases_order x.place y.place) [
          | inl r ↦ inl (exit_same x y.side y.place q r)
          | inr o ↦ elim o [
            | inl l ↦ inr (inl (less x y hx hy tx (inr (q, l))))
            | inr l ↦ inr (inr (less y x hy hx ty (inr (sym q, l))))
          ]
        ]
        | inr o ↦ elim o [
          | inl l ↦ inr (inl (less x y hx hy tx (inl l)))
          | inr l ↦ inr (inr (less y x hy hx ty (inl l)))
        ]
      ]

  -- the exits of the part by itself
  pub exit_alone : (i : ℕ) → i < length s → exit_at (part_exits p c s) i ≡ moved p ok c curve s part (exit_at s i)
  exit_alone i l = get_or-map mv s i (exit 0 0) (exit 0 0) l

  -- as many as the part has
  pub long_alone : length (part_exits p c s) ≡ length s
  long_alone = length-map s mv

  -- and their entries
  pub entry_alone : (i : ℕ) → i < length s → curve_entry p (part_exits p c s) (exit_at (part_exits p c s) i) ≡ moved p ok c curve s part (other p ok c curve (exit_at s i))
  entry_alone i l = ap (curve_entry p (part_exits p c s)) (exit_alone i l) ∙ moved_other p ok c curve s part (exit_at s i) (exit_in p ok c curve s part i l) (has_exit p ok c curve s part i l)

  chord_alone : (i : ℕ) → i < length s → curve_chord p (part_exits p c s) i
      ≡ chord (curve_spot p (part_exits p c s) (mv (other p ok c curve (exit_at s (previous (length s) i))))) (curve_spot p (part_exits p c s) (mv (exit_at s i)))
  chord_alone i l =
      ap₂ (λ x y. chord (curve_spot p (part_exits p c s) x) (curve_spot p (part_exits p c s) y))
      (ap (λ n. curve_entry p (part_exits p c s) (exit_at (part_exits p c s) (previous n i))) long_alone ∙ entry_alone (previous (length s) i) (previous-less (length s) i l)) (exit_alone i l)

  cross_alone : (a b : ℕ) → a < length s → b < length s → crosses (curve_chord p (part_exits p c s) a) (curve_chord p (part_exits p c s) b) ≡ crosses (part_chord p c s a) (part_chord p c s b)
  cross_alone a b la lb =
      let n = length s in
      let pa = previous-less n a la in
      let pb = previous-less n b lb in
      let fa = other p ok c curve (exit_at s (previous n a)) in
      let fb = other p ok c curve (exit_at s (previous n b)) in
      let ta = exit_at s a in
      let tb = exit_at s b in
      let ia = other_in p ok c curve s part (previous n a) pa in
      let ib = other_in p ok c curve s part (previous n b) pb in
      let ja = exit_in p ok c curve s part a la in
      let jb = exit_in p ok c curve s part b lb in
      let ha = has_entry p ok c curve s part (previous n a) pa in
      let hb = has_entry p ok c curve s part (previous n b) pb in
      let ga = has_exit p ok c curve s part a la in
      let gb = has_exit p ok c curve s part b lb in
      ap₂ crosses (chord_alone a la) (chord_alone b lb) ∙ rw (order_kept fa fb ia ib ha hb, order_kept ta fb ja ib ga hb, order_kept fa tb ia jb ha gb, order_kept ta tb ja jb ga gb) refl

  -- the part by itself is a curve
  pub part_curve : IsCurve p (part_exits p c s)
  part_curve = record {
    in_range = λ e m. (let (x, k, q) = mem_map mv e s m in subst (λ (z : Exit). (z.side < sides p) × (z.place < curve_points p (part_exits p c s) z.side)) (sym q) (moved_in p ok c curve s part x (part.inside x k) (mem_has x k)));
    right = λ k a lk la. (let (j, lj, t, e) = passing_of (has_point p c s k) (curve_points p c k) a (omega (arith, la, points_alone p ok c curve s part k lk)) in
        let one : bit (has_point p c s k j) ≡ 1 = ap bit t in
        sum_map (λ e. curve_stands p (part_exits p c s) e k a) mv s
        ∙ (sum_same (λ x. curve_stands p (part_exits p c s) (mv x) k a) (λ x. curve_stands p c x k j) s
        (λ x m. ap (curve_stands p (part_exits p c s) (mv x) k) (sym e) ∙ stands_moved x k j m lk lj t) ∙ (met p ok c curve s part k j lk lj ∙ one)));
    uncrossed = λ a b l lb. (let lb' : b < length s = omega (arith, lb, long_alone) in
        cross_alone a b (omega (arith, l, lb')) lb' ∙ part.uncrossed a b (λ q. omega (arith, q, l)) (omega (arith, l, lb')) lb');
  }

  -- its word is the part's
  pub word_alone : word_of (part_exits p c s) ≡ word_of s
  word_alone = go s
    where
      go : (xs : List Exit) → map (λ (e : Exit). e.side) (map mv xs) ≡ map (λ (e : Exit). e.side) xs
      go [] = refl
      go (x ∷ xs) = ap (λ w. x.side ∷ w) (go xs)

  -- at the points of the part it reads what the part sets
  read_alone : (g : Sign) (k j : ℕ) → k < sides p → j < curve_points p c k → has_point p c s k j ≡ true → word_at p ok c curve g s k j ≡ signed p g (rho p (part_exits p c s) k (place_among p c s k j))
  read_alone g k j lk lj t = go (P.made p ok c curve s part k j t)
    where
      go : Made p ok c curve s part (exit k j) → word_at p ok c curve g s k j ≡ signed p g (rho p (part_exits p c s) k (place_among p c s k j))
      go (leaving i l e) =
          let l' : i < length (part_exits p c s) = omega (arith, l, long_alone) in
          ap (λ (x : Exit). word_at p ok c curve g s x.side x.place) e
          ∙ (word_exit p ok c curve g s part i l ∙ sym (ap (λ (x : Exit). signed p g (rho p (part_exits p c s) x.side x.place)) (ap mv e ∙ sym (exit_alone i l))
          ∙ (ap (signed p g) (read_exit p ok (part_exits p c s) part_curve i l') ∙ ap (λ w. signed p g (turned i w)) word_alone)))
      go (entering i l e) =
          let l' : i < length (part_exits p c s) = omega (arith, l, long_alone) in
          ap (λ (x : Exit). word_at p ok c curve g s x.side x.place) e
          ∙ (word_entry p ok c curve g s part i l ∙ sym (ap (λ (x : Exit). signed p g (rho p (part_exits p c s) x.side x.place)) (ap mv e ∙ sym (entry_alone i l))
          ∙ (ap (signed p g) (read_entry p ok (part_exits p c s) part_curve i l') ∙ (ap (λ w. signed p g (inverse p (turned (i + 1) w))) word_alone
          ∙ ap (λ n. signed p g (inverse p (turned n (word_of s)))) (add-one i)))))

  -- so the products along its sides are those that the part sets
  pub push_alone : (g : Sign) (k : ℕ) → k < sides p → push_part p ok c curve g s k ≡ push_at p (part_exits p c s) g k
  push_alone g k lk =
      product_passing (has_point p c s k) (word_at p ok c curve g s k) (λ j. signed p g (rho p (part_exits p c s) k j)) (curve_points p c k)
      (λ j lj t. word_none p ok c curve g s part k j (let z : bit (has_point p c s k j) ≡ 0 = ap bit t in met p ok c curve s part k j lk lj ∙ z))
      (λ j lj t. read_alone g k j lk lj t)
      ∙ ap (λ n. flat_map (λ j. signed p g (rho p (part_exits p c s) k j)) (below n)) (sym (points_alone p ok c curve s part k lk))
