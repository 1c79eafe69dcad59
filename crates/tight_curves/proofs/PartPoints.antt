-- The points of a part of a curve: each is made by one exit, as exit or as entry, and both sides of a pair see the same.
use Rattle.std.proofs.Common.{◌≡◌, ℕ, suc, ◌+◌, ◌-◌, ◌<◌, ◌≤◌, Bool, true, false, cond, eqb, ◌&&◌, List, [], ◌∷◌, length, get_or, take, refl, sym, ◌∙◌, ap, subst, ◌⊎◌, inl, inr, ◌≢◌, arith}
use Rattle.std.specs.List.{sum_by}
use Rattle.std.proofs.lemmas.Bool.{eqb-true, eq-eqb, and_parts, and_from, lt-ltb, ltb-true, cases_lt, cases_order}
use Rattle.std.proofs.lemmas.List.Sums.{sum_by-cons, sum_by_more_le, get_or-le-sum_by}
use Rattle.std.proofs.lemmas.List.{get_or-take, length-take}
use Rattle.obd_base.specs.declared.points.Exit.{Exit}
use Rattle.page_surface.specs.Drawing.{exit, is_at}
use Rattle.page_surface.specs.Polygon.{Pairs, Polygon, partner, sides}
use Rattle.curve_paths.specs.Curves.{IsCurve, curve_entry, curve_points, curve_spot, curve_stands, exit_at}
use Rattle.tight_curves.specs.Parts.{IsPart, has_point}
use Rattle.curve_paths.proofs.CurvePoints.{at_itself, at_parts, entry_in, entry-entry, exit_same, points_partner}
use Rattle.curve_paths.proofs.Members.{mem_get_or}
use Rattle.curve_paths.proofs.PointPlaces.{number_same}

-- a sum with a part has a member that adds
pub some_part : {A : Type 0} (s : A → ℕ) (d : A) (xs : List A) → 0 < sum_by s xs → (i : ℕ) × (i < length xs) × (1 ≤ s (get_or xs i d))
some_part s d [] l = absurd (omega arith)
some_part s d (x ∷ xs) l = elim (cases_lt 0 (s x)) [
  | inl u ↦ (0, omega arith, omega arith)
  | inr u ↦ (let r = some_part s d xs (omega (arith, sum_by-cons s x xs)) in (suc r.0, omega (arith, r.1), r.2))
]

-- a sum of at most one has no two parts
no_two_parts : {A : Type 0} (s : A → ℕ) (d : A) (xs : List A) (i k : ℕ) → i < k → k < length xs → sum_by s xs ≤ 1 → 1 ≤ s (get_or xs i d) → 1 ≤ s (get_or xs k d) → ⊥
no_two_parts s d xs i k l h e g f =
    let a = sum_by_more_le s xs k d h in
    let t : get_or (take k xs) i d ≡ get_or xs i d = get_or-take k xs i d l in
    let n : i < length (take k xs) = omega (arith, length-take k xs, l, h) in
    let b = get_or-le-sum_by s (take k xs) i d n in
    let c : s (get_or (take k xs) i d) ≡ s (get_or xs i d) = ap s t in
    omega (arith, a, b, c, e, f, g)

pub one_part : {A : Type 0} (s : A → ℕ) (d : A) (xs : List A) (i k : ℕ) → i < length xs → k < length xs → sum_by s xs ≤ 1 → 1 ≤ s (get_or xs i d) → 1 ≤ s (get_or xs k d) → i ≡ k
one_part s d xs i k l h e g f = elim (cases_order i k) [
  | inl q ↦ q
  | inr r ↦ elim r [
    | inl u ↦ absurd (no_two_parts s d xs i k u h e g f)
    | inr u ↦ absurd (no_two_parts s d xs k i u l e f g)
  ]
]

module _ (p : Polygon) (ok : Pairs p) (c : List Exit) (curve : IsCurve p c) where
  -- a point of the curve
  abbrev pub In : Exit → Type 0
  In e = (e.side < sides p) × (e.place < curve_points p c e.side)

  -- its number in the place order
  abbrev pub N : Exit → ℕ
  N e = curve_spot p c e

  -- the point's other name
  abbrev pub other : Exit → Exit
  other e = curve_entry p c e

  -- points with one number are one
  pub same_number : (x y : Exit) → In x → In y → N x ≡ N y → x ≡ y
  same_number x y g h e = number_same (curve_points p c) x y (omega (arith, g.1)) (omega (arith, h.1)) e

  -- an exit stands at its place
  pub stands_out : (e : Exit) → 1 ≤ curve_stands p c e e.side e.place
  stands_out e = rw (at_itself e) (omega arith)

  as_entry : (e : Exit) (k j : ℕ) → In e → other e ≡ exit k j → (eqb (partner p e.side) k && eqb (suc (e.place + j)) (curve_points p c k)) ≡ true
  as_entry e k j h q =
      let a : partner p e.side ≡ k = ap (λ z. z.side) q in
      let b : curve_points p c e.side - 1 - e.place ≡ j = ap (λ z. z.place) q in
      let d : curve_points p c k ≡ curve_points p c e.side = ap (curve_points p c) (sym a) ∙ points_partner p ok c curve e.side in
      and_from (eqb (partner p e.side) k) (eqb (suc (e.place + j)) (curve_points p c k)) (eq-eqb (partner p e.side) k a) (eq-eqb (suc (e.place + j)) (curve_points p c k) (omega (arith, b, d, h.1)))

  -- and at that of its other name
  pub stands_in : (e : Exit) → In e → 1 ≤ curve_stands p c e (other e).side (other e).place
  stands_in e h = rw (as_entry e (other e).side (other e).place h refl) (omega arith)

  -- where it stands, it is the point or the point's other name
  pub standing : (e : Exit) (k j : ℕ) → 1 ≤ curve_stands p c e k j → (e ≡ exit k j) ⊎ (other e ≡ exit k j)
  standing e k j l = elim (either (is_at e k j) (eqb (partner p e.side) k && eqb (suc (e.place + j)) (curve_points p c k)) l) [
    | inl q ↦ inl (at_parts e k j q)
    | inr q ↦ (let t = and_parts (eqb (partner p e.side) k) (eqb (suc (e.place + j)) (curve_points p c k)) q in
        let a : partner p e.side ≡ k = eqb-true _ _ t.0 in
        let b : suc (e.place + j) ≡ curve_points p c k = eqb-true _ _ t.1 in
        let d : curve_points p c k ≡ curve_points p c e.side = ap (curve_points p c) (sym a) ∙ points_partner p ok c curve e.side in
        inr (exit_same (other e) k j a (omega (arith, b, d))))
  ]
    where
      either : (a b : Bool) → 1 ≤ cond {A = ℕ} a 1 0 + cond b 1 0 → (a ≡ true) ⊎ (b ≡ true)
      either true b l = inl refl
      either false true l = inr refl
      either false false l = absurd (omega (arith, l))

  module _ (s : List Exit) (part : IsPart p c s) where
    -- an exit of the part is a point
    pub exit_in : (i : ℕ) → i < length s → In (exit_at s i)
    exit_in i l = part.inside (exit_at s i) (mem_get_or s i (exit 0 0) l)

    -- and so is its other name
    pub other_in : (i : ℕ) → i < length s → In (other (exit_at s i))
    other_in i l = entry_in p ok c curve (exit_at s i) (exit_in i l)

    -- two exits that both make a point are one
    pub one_exit : (i k : ℕ) (e : Exit) → i < length s → k < length s → In e → 1 ≤ curve_stands p c (exit_at s i) e.side e.place → 1 ≤ curve_stands p c (exit_at s k) e.side e.place → i ≡ k
    one_exit i k e li lk h a b = one_part (λ x. curve_stands p c x e.side e.place) (exit 0 0) s i k li lk (part.once e.side e.place h.0 h.1) a b

    -- exits stand at different points
    pub exits_differ : (i k : ℕ) → i < length s → k < length s → exit_at s i ≡ exit_at s k → i ≡ k
    exits_differ i k li lk e =
        one_exit i k (exit_at s k) li lk (exit_in k lk) (subst (λ (z : Exit). 1 ≤ curve_stands p c (exit_at s i) z.side z.place) e (stands_out (exit_at s i))) (stands_out (exit_at s k))

    -- and so do entries
    pub entries_differ : (i k : ℕ) → i < length s → k < length s → other (exit_at s i) ≡ other (exit_at s k) → i ≡ k
    entries_differ i k li lk e =
        exits_differ i k li lk (sym (entry-entry p ok c curve (exit_at s i) (exit_in i li)) ∙ (ap other e ∙ entry-entry p ok c curve (exit_at s k) (exit_in k lk)))

    -- no exit stands at an entry
    pub exit_no_entry : (i k : ℕ) → i < length s → k < length s → exit_at s i ≢ other (exit_at s k)
    exit_no_entry i k li lk e =
        let same : i ≡ k = one_exit i k (other (exit_at s k)) li lk (other_in k lk)
        (subst (λ (z : Exit). 1 ≤ curve_stands p c (exit_at s i) z.side z.place) e (stands_out (exit_at s i))) (stands_in (exit_at s k) (exit_in k lk)) in
        ok.moves (exit_at s i).side (exit_in i li).0 (ap (λ n. partner p (exit_at s n).side) same ∙ sym (ap (λ (z : Exit). z.side) e))

    -- the part has the points that its exits make
    pub has_exit : (i : ℕ) → i < length s → has_point p c s (exit_at s i).side (exit_at s i).place ≡ true
    has_exit i l =
        let f = λ (x : Exit). curve_stands p c x (exit_at s i).side (exit_at s i).place in
        lt-ltb 0 (sum_by f s) (omega (arith, get_or-le-sum_by f s i (exit 0 0) l, stands_out (exit_at s i)))

    -- as exits and as entries
    pub has_entry : (i : ℕ) → i < length s → has_point p c s (other (exit_at s i)).side (other (exit_at s i)).place ≡ true
    has_entry i l =
        let f = λ (x : Exit). curve_stands p c x (other (exit_at s i)).side (other (exit_at s i)).place in
        lt-ltb 0 (sum_by f s) (omega (arith, get_or-le-sum_by f s i (exit 0 0) l, stands_in (exit_at s i) (exit_in i l)))

    -- a point of the part is made by an exit, as exit or as entry
    pub data Made (e : Exit) : Type 0 where
      leaving : (i : ℕ) → i < length s → e ≡ exit_at s i → Made e
      entering : (i : ℕ) → i < length s → e ≡ other (exit_at s i) → Made e

    -- each point of the part is one of the two
    pub made : (k j : ℕ) → has_point p c s k j ≡ true → Made (exit k j)
    made k j h =
        let r = some_part (λ x. curve_stands p c x k j) (exit 0 0) s (ltb-true 0 (sum_by (λ x. curve_stands p c x k j) s) h) in
        elim (standing (exit_at s r.0) k j r.2) [ inl e ↦ leaving r.0 r.1 (sym e) | inr e ↦ entering r.0 r.1 (sym e) ]

    -- the part has a point where it has its other name
    pub has_across : (k j : ℕ) → k < sides p → j < curve_points p c k → has_point p c s k j ≡ has_point p c s (partner p k) (curve_points p c k - 1 - j)
    has_across k j lk lj =
        let i = exit k j in
        both _ _
        (λ h. go (made k j h))
        (λ h. elim (back (made (partner p k) (curve_points p c k - 1 - j) h)) [ inl z ↦ z | inr z ↦ z ])
      where
        both : (a b : Bool) → (a ≡ true → b ≡ true) → (b ≡ true → a ≡ true) → a ≡ b
        both true true f g = refl
        both true false f g = sym (f refl)
        both false true f g = g refl
        both false false f g = refl

        twice : other (other (exit k j)) ≡ exit k j
        twice = entry-entry p ok c curve (exit k j) (lk, lj)

        go : Made (exit k j) → has_point p c s (partner p k) (curve_points p c k - 1 - j) ≡ true
        go (leaving i l e) = subst (λ (z : Exit). has_point p c s (other z).side (other z).place ≡ true) (sym e) (has_entry i l)
        go (entering i l e) =
            subst (λ (z : Exit). has_point p c s z.side z.place ≡ true) (sym (ap other e ∙ entry-entry p ok c curve (exit_at s i) (exit_in i l))) (has_exit i l)

        back : Made (other (exit k j)) → (has_point p c s k j ≡ true) ⊎ (has_point p c s k j ≡ true)
        back (leaving i l e) = inl (subst (λ (z : Exit). has_point p c s z.side z.place ≡ true) (sym (sym twice ∙ ap other e)) (has_entry i l))
        back (entering i l e) =
            inr (subst (λ (z : Exit). has_point p c s z.side z.place ≡ true) (sym (sym twice ∙ (ap other e ∙ entry-entry p ok c curve (exit_at s i) (exit_in i l)))) (has_exit i l))
