-- The points of a curve: each is made by one exit, as exit or as entry; the other end of its chord; the chords don't cross.
use Rattle.std.proofs.Common.{◌≡◌, ℕ, suc, ◌+◌, ◌-◌, ◌<◌, ◌≤◌, Bool, true, false, cond, eqb, ltb, ◌&&◌, List, [], ◌∷◌, length, get_or, take, refl, sym, ◌∙◌, ap, subst, ◌⊎◌, inl, inr, ◌≢◌, arith}
use Rattle.std.specs.List.{sum_by, count_by, position_or_len}
use Rattle.std.proofs.lemmas.Bool.{eqb-true, eq-eqb, ne_eqb, and_parts, and_from, lt-ltb, le-ltb, cases_lt, cases_eq, cases_order}
use Rattle.std.proofs.lemmas.List.Sums.{sum_by-cons, sum_by_more_le, get_or-le-sum_by, position_or_len_is}
use Rattle.std.proofs.lemmas.List.{get_or-take, length-take}
use mathlib.Core.Path.{fun_ext}
use Rattle.curve_paths.proofs.Members.{mem_get_or}
use Rattle.curve_paths.specs.Curves.{curve_points, curve_entry, curve_stands, exit_at, previous, IsCurve}
use Rattle.obd_base.specs.declared.points.Exit.{Exit}
use Rattle.page_surface.specs.Drawing.{exit, is_at}
use Rattle.page_surface.specs.Polygon.{Polygon, sides, partner, Pairs}

-- a sum of one has a part
some_part : {A : Type 0} (s : A → ℕ) (d : A) (xs : List A) → sum_by s xs ≡ 1 → (i : ℕ) × (i < length xs) × (1 ≤ s (get_or xs i d))
some_part s d [] e = absurd (omega (arith, e))
some_part s d (x ∷ xs) e = elim (cases_lt 0 (s x)) [
  | inl u ↦ (0, omega arith, omega (arith, u))
  | inr u ↦ (let f : sum_by s xs ≡ 1 = omega (arith, e, sum_by-cons s x xs, u) in let r = some_part s d xs f in (suc r.0, omega (arith, r.1), r.2))
]

-- a sum of one has no two parts
no_two_parts : {A : Type 0} (s : A → ℕ) (d : A) (xs : List A) (i k : ℕ) → i < k → k < length xs → sum_by s xs ≡ 1 → 1 ≤ s (get_or xs i d) → 1 ≤ s (get_or xs k d) → ⊥
no_two_parts s d xs i k l h e g f =
    let a = sum_by_more_le s xs k d h in
    let t : get_or (take k xs) i d ≡ get_or xs i d = get_or-take k xs i d l in
    let n : i < length (take k xs) = omega (arith, length-take k xs, l, h) in
    let b = get_or-le-sum_by s (take k xs) i d n in
    let c : s (get_or (take k xs) i d) ≡ s (get_or xs i d) = ap s t in
    omega (arith, a, b, c, e, f, g)

one_part : {A : Type 0} (s : A → ℕ) (d : A) (xs : List A) (i k : ℕ) → i < length xs → k < length xs → sum_by s xs ≡ 1 → 1 ≤ s (get_or xs i d) → 1 ≤ s (get_or xs k d) → i ≡ k
one_part s d xs i k l h e g f = elim (cases_order i k) [
  | inl q ↦ q
  | inr r ↦ elim r [
    | inl u ↦ absurd (no_two_parts s d xs i k u h e g f)
    | inr u ↦ absurd (no_two_parts s d xs k i u l e f g)
  ]
]

count_same : {A : Type 0} (f g : A → Bool) (xs : List A) → ((x : A) → f x ≡ g x) → count_by f xs ≡ count_by g xs
count_same f g xs h = ap (λ t. count_by t xs) (fun_ext h)

either_part : (a b : Bool) → 1 ≤ cond {A = ℕ} a 1 0 + cond b 1 0 → (a ≡ true) ⊎ (b ≡ true)
either_part true b l = inl refl
either_part false true l = inr refl
either_part false false l = absurd (omega (arith, l))

not_so : (b : Bool) → (b ≡ true → ⊥) → b ≡ false
not_so true h = absurd (h refl)
not_so false h = refl

-- an exit is its side and its place
pub exit_same : (e : Exit) (k j : ℕ) → e.side ≡ k → e.place ≡ j → e ≡ exit k j
exit_same e k j q s = ap (λ x. exit x e.place) q ∙ ap (exit k) s

-- what is at a place of a side
pub at_parts : (e : Exit) (k j : ℕ) → is_at e k j ≡ true → e ≡ exit k j
at_parts e k j h = let r = and_parts (eqb e.side k) (eqb e.place j) h in exit_same e k j (eqb-true _ _ r.0) (eqb-true _ _ r.1)

-- an exit is at its own place
pub at_itself : (e : Exit) → is_at e e.side e.place ≡ true
at_itself e = rw (eq-eqb e.side e.side refl, eq-eqb e.place e.place refl) refl

-- a side is a partner where its partner is the side
pub twice_eqb : (p : Polygon) (ok : Pairs p) (a k : ℕ) → eqb a (partner p k) ≡ eqb (partner p a) k
twice_eqb p ok a k = elim (cases_eq a (partner p k)) [
  | inl e ↦ (rw (eq-eqb a (partner p k) e, eq-eqb (partner p a) k (ap (partner p) e ∙ ok.twice k)) refl)
  | inr n ↦ (rw (ne_eqb a (partner p k) n, ne_eqb (partner p a) k (λ q. n (sym (ok.twice a) ∙ ap (partner p) q))) refl)
]

-- the exit after exit i, read cyclically
abbrev pub following : ℕ → ℕ → ℕ
following n i = cond (eqb (suc i) n) 0 (suc i)

-- the exits before and after are exits
pub previous-less : (n i : ℕ) → i < n → previous n i < n
previous-less n i l = elim (cases_eq i 0) [
  | inl e ↦ rw (eq-eqb i 0 e) (omega arith)
  | inr h ↦ rw (ne_eqb i 0 h) (omega arith)
]

-- and so is the one after
pub following-less : (n i : ℕ) → i < n → following n i < n
following-less n i l = elim (cases_eq (suc i) n) [
  | inl e ↦ rw (eq-eqb (suc i) n e) (omega arith)
  | inr h ↦ rw (ne_eqb (suc i) n h) (omega arith)
]

-- each undoes the other
pub previous-following : (n i : ℕ) → i < n → previous n (following n i) ≡ i
previous-following n i l = elim (cases_eq (suc i) n) [
  | inl e ↦ rw (eq-eqb (suc i) n e) (omega arith)
  | inr h ↦ rw (ne_eqb (suc i) n h) (let q : suc i ≢ 0 = λ t. omega (arith, t) in rw (ne_eqb (suc i) 0 q) (omega arith))
]

-- in both orders
pub following-previous : (n i : ℕ) → i < n → following n (previous n i) ≡ i
following-previous n i l = elim (cases_eq i 0) [
  | inl e ↦ rw (eq-eqb i 0 e) (let q : suc (n - 1) ≡ n = omega arith in rw (eq-eqb (suc (n - 1)) n q) (sym e))
  | inr h ↦ rw (ne_eqb i 0 h) (let q : suc (i - 1) ≢ n = λ t. omega (arith, t, l) in let s : suc (i - 1) ≡ i = omega arith in rw (ne_eqb (suc (i - 1)) n q) s)
]

module _ (p : Polygon) (ok : Pairs p) (c : List Exit) (curve : IsCurve p c) where
  abbrev R : ℕ
  R = length c

  abbrev m : ℕ → ℕ
  m k = curve_points p c k

  -- a point of the curve
  abbrev pub In : Exit → Type 0
  In e = (e.side < sides p) × (e.place < curve_points p c e.side)

  -- both sides of a pair have as many points
  pub points_partner : (k : ℕ) → curve_points p c (partner p k) ≡ curve_points p c k
  points_partner k =
      let a : count_by (λ e. eqb e.side (partner p k)) c ≡ count_by (λ e. eqb (partner p e.side) k) c =
      count_same (λ e. eqb e.side (partner p k)) (λ e. eqb (partner p e.side) k) c (λ e. twice_eqb p ok e.side k) in
      let b : count_by (λ e. eqb (partner p e.side) (partner p k)) c ≡ count_by (λ e. eqb e.side k) c =
      count_same (λ e. eqb (partner p e.side) (partner p k)) (λ e. eqb e.side k) c
      (λ e. twice_eqb p ok (partner p e.side) k ∙ ap (λ z. eqb z k) (ok.twice e.side)) in
      omega (arith, a, b)

  -- an exit is a point of the curve
  pub exit_in : (i : ℕ) → i < R → In (exit_at c i)
  exit_in i l = curve.in_range (exit_at c i) (mem_get_or c i (exit 0 0) l)

  -- the other name of a point is a point, and its other name is the point
  pub entry_in : (e : Exit) → In e → In (curve_entry p c e)
  entry_in e h = (ok.in_range e.side h.0, omega (arith, points_partner e.side, h.1))

  -- the entry of an entry is the exit
  pub entry-entry : (e : Exit) → In e → curve_entry p c (curve_entry p c e) ≡ e
  entry-entry e h = exit_same (curve_entry p c (curve_entry p c e)) e.side e.place (ok.twice e.side) (omega (arith, points_partner e.side, h.1))

  stands_exit : (i : ℕ) → 1 ≤ curve_stands p c (exit_at c i) (exit_at c i).side (exit_at c i).place
  stands_exit i = let q = at_itself (exit_at c i) in rw q (omega arith)

  as_entry : (e : Exit) (k j : ℕ) → In e → curve_entry p c e ≡ exit k j → (eqb (partner p e.side) k && eqb (suc (e.place + j)) (m k)) ≡ true
  as_entry e k j h q =
      let a : partner p e.side ≡ k = ap (λ z. z.side) q in
      let b : m e.side - 1 - e.place ≡ j = ap (λ z. z.place) q in
      let d : m k ≡ m e.side = ap m (sym a) ∙ points_partner e.side in
      and_from (eqb (partner p e.side) k) (eqb (suc (e.place + j)) (m k)) (eq-eqb (partner p e.side) k a) (eq-eqb (suc (e.place + j)) (m k) (omega (arith, b, d, h.1)))

  stands_entry : (e : Exit) (k j : ℕ) → In e → curve_entry p c e ≡ exit k j → 1 ≤ curve_stands p c e k j
  stands_entry e k j h q = let t = as_entry e k j h q in rw t (omega arith)

  -- exits stand at different points
  pub exits_differ : (i k : ℕ) → i < R → k < R → exit_at c i ≡ exit_at c k → i ≡ k
  exits_differ i k l h e =
      let g = exit_in k h in
      one_part (λ x. curve_stands p c x (exit_at c k).side (exit_at c k).place) (exit 0 0) c i k l h (curve.right (exit_at c k).side (exit_at c k).place g.0 g.1)
      (subst (λ z. 1 ≤ curve_stands p c (exit_at c i) z.side z.place) e (stands_exit i)) (stands_exit k)

  -- and so do entries
  pub entries_differ : (i k : ℕ) → i < R → k < R → curve_entry p c (exit_at c i) ≡ curve_entry p c (exit_at c k) → i ≡ k
  entries_differ i k l h e = exits_differ i k l h (sym (entry-entry (exit_at c i) (exit_in i l)) ∙ (ap (curve_entry p c) e ∙ entry-entry (exit_at c k) (exit_in k h)))

  -- no exit stands at an entry
  pub exit_no_entry : (i k : ℕ) → i < R → k < R → exit_at c i ≢ curve_entry p c (exit_at c k)
  exit_no_entry i k l h e =
      let q = exit_in i l in
      let r = curve.right (exit_at c i).side (exit_at c i).place q.0 q.1 in
      let s = λ (x : Exit). curve_stands p c x (exit_at c i).side (exit_at c i).place in
      let same : i ≡ k = one_part s (exit 0 0) c i k l h r (stands_exit i) (stands_entry (exit_at c k) (exit_at c i).side (exit_at c i).place (exit_in k h) (sym e)) in
      let two : 2 ≤ s (exit_at c i) =
      (let a = at_itself (exit_at c i) in
      let b = as_entry (exit_at c i) (exit_at c i).side (exit_at c i).place q (ap (λ t. curve_entry p c (exit_at c t)) same ∙ sym e) in
      rw (a, b) (omega arith)) in
      let most = get_or-le-sum_by s c i (exit 0 0) l in
      omega (arith, two, most, r)

  -- each point is made by an exit, as exit or as entry
  pub data Made (e : Exit) : Type 0 where
    leaving : (i : ℕ) → i < R → e ≡ exit_at c i → Made e
    entering : (i : ℕ) → i < R → e ≡ curve_entry p c (exit_at c i) → Made e

  -- each point is one of the two
  pub made : (e : Exit) → In e → Made e
  made e h =
      let r = some_part (λ x. curve_stands p c x e.side e.place) (exit 0 0) c (curve.right e.side e.place h.0 h.1) in
      let x = exit_at c r.0 in
      elim (either_part (is_at x e.side e.place) (eqb (partner p x.side) e.side && eqb (suc (x.place + e.place)) (m e.side)) r.2) [
        | inl q ↦ leaving r.0 r.1 (sym (at_parts x e.side e.place q))
        | inr q ↦ (let t = and_parts (eqb (partner p x.side) e.side) (eqb (suc (x.place + e.place)) (m e.side)) q in
            let a : partner p x.side ≡ e.side = eqb-true _ _ t.0 in
            let b : suc (x.place + e.place) ≡ m e.side = eqb-true _ _ t.1 in
            let d : m e.side ≡ m x.side = ap m (sym a) ∙ points_partner x.side in
            entering r.0 r.1 (sym (exit_same (curve_entry p c x) e.side e.place a (omega (arith, b, d)))))
      ]

  -- the places that the rotation reads: the exit that leaves at a point, and the exit that enters at it
  abbrev pub leaves : Exit → ℕ
  leaves e = position_or_len (λ x. is_at x e.side e.place) c

  -- the exit that enters at a point
  abbrev pub enters : Exit → ℕ
  enters e = position_or_len (λ x. is_at (curve_entry p c x) e.side e.place) c

  -- at an exit leaves that exit
  pub leaves_exit : (i : ℕ) → i < R → leaves (exit_at c i) ≡ i
  leaves_exit i l =
      let e = exit_at c i in
      position_or_len_is (λ x. is_at x e.side e.place) c i (exit 0 0) (omega arith)
      (λ k h. not_so (is_at (exit_at c k) e.side e.place) (λ q. let s : k ≡ i = exits_differ k i (omega arith) l (at_parts (exit_at c k) e.side e.place q) in omega (arith, s, h)))
      (λ h. at_itself e)

  -- at an entry leaves none
  pub leaves_entry : (i : ℕ) → i < R → leaves (curve_entry p c (exit_at c i)) ≡ R
  leaves_entry i l =
      let e = curve_entry p c (exit_at c i) in
      position_or_len_is (λ x. is_at x e.side e.place) c R (exit 0 0) (omega arith)
      (λ k h. not_so (is_at (exit_at c k) e.side e.place) (λ q. exit_no_entry k i h l (at_parts (exit_at c k) e.side e.place q)))
      (λ h. absurd (omega (arith, h)))

  -- at an entry enters its exit
  pub enters_entry : (i : ℕ) → i < R → enters (curve_entry p c (exit_at c i)) ≡ i
  enters_entry i l =
      let e = curve_entry p c (exit_at c i) in
      position_or_len_is (λ x. is_at (curve_entry p c x) e.side e.place) c i (exit 0 0) (omega arith)
      (λ k h. not_so (is_at (curve_entry p c (exit_at c k)) e.side e.place) (λ q. let s : k ≡ i = entries_differ k i (omega arith) l (at_parts (curve_entry p c (exit_at c k)) e.side e.place q) in omega (arith, s, h)))
      (λ h. at_itself e)

  -- the other end of the curve's chord at a point
  abbrev pub mate : Exit → Exit
  mate e = cond (ltb (leaves e) R) (curve_entry p c (exit_at c (previous R (leaves e)))) (exit_at c (following R (enters e)))

  -- from an exit the chord leads to the entry of the exit before
  pub mate_exit : (i : ℕ) → i < R → mate (exit_at c i) ≡ curve_entry p c (exit_at c (previous R i))
  mate_exit i l = rw (leaves_exit i l, lt-ltb i R l) refl

  -- from an entry to the next exit
  pub mate_entry : (i : ℕ) → i < R → mate (curve_entry p c (exit_at c i)) ≡ exit_at c (following R i)
  mate_entry i l = let h : R ≤ R = omega arith in rw (leaves_entry i l, le-ltb R R h, enters_entry i l) refl
