-- What a row leaves of a piece that its last finger may enter: that span has a first part then.
use Rattle.std.proofs.Common.{◌≡◌, ℕ, suc, Bool, true, false, cond, eqb, List, [], ◌∷◌, ◌++◌, map, append_assoc, refl, sym, ◌∙◌, ap, subst, arith, ◌⊎◌, inl, inr, ◌≢◌}
use Rattle.std.proofs.lemmas.Bool.{cases_eq, eq-eqb, ne_eqb}
use Rattle.obd_base.specs.Lists.{Mem}
use Rattle.obd_base.proofs.lists.Members.{mem_append}
use Rattle.page_surface.specs.Drawing.{Chord}
use Rattle.drawing.proofs.fingers.Shift.{shift, early, shift_new, shift_swap}
use Rattle.drawing.proofs.fingers.Finger.{pushed, shift_apart, new_apart}
use Rattle.finger_move.proofs.PushedNext.{next, near}
use Rattle.finger_move.proofs.Cycles.{IsCycle}
use Rattle.finger_move.proofs.Spread.{rotate, spread, spread_all}
use Rattle.nice_plan.proofs.Pushing.{apart, carried_cycle, other_after, same_cycle, turned_same}
use Rattle.nice_plan.proofs.RowLegal.{Stop, carry_stop, near_is, still_missing, tip_missing}
use Rattle.nice_plan.proofs.RowEnd.{Avoids, Row, last, middle_cycle, more}

-- the segment that the last finger of a row comes out of
abbrev pub last_entry : ℕ → List Stop → ℕ
last_entry u [] = u
last_entry u (s ∷ ss) = last_entry s.beyond ss

last_shift : (a b u : ℕ) (ss : List Stop) → last_entry (shift a b u) (map (carry_stop a b) ss) ≡ shift a b (last_entry u ss)
last_shift a b u [] = refl
last_shift a b u (s ∷ ss) = last_shift a b s.beyond ss

-- no span of the list is entered by a finger, but perhaps the last entry
abbrev pub Passes : ℕ → List Stop → List ℕ → Type 0
Passes u [] zs = Unit {0}
Passes u (s ∷ ss) zs = (Mem u zs → ⊥) × (Mem s.seg zs → ⊥) × Passes s.beyond ss zs

passes_shift : (a b u : ℕ) (ss : List Stop) (zs : List ℕ) → Passes u ss zs → Passes (shift a b u) (map (carry_stop a b) ss) (map (shift a b) zs)
passes_shift a b u [] zs h = tt
passes_shift a b u (s ∷ ss) zs h = (still_missing a b u zs h.0, still_missing a b s.seg zs h.1, passes_shift a b s.beyond ss zs h.2)

-- b before w
abbrev pub first_part : ℕ → ℕ → ℕ → List ℕ
first_part w b z = cond (eqb z w) (b ∷ []) []

-- spans at their new numbers, with b before that of w
abbrev pub grown : (ℕ → ℕ) → ℕ → ℕ → List ℕ → List ℕ
grown k w b [] = []
grown k w b (z ∷ zs) = first_part w b z ++ (k z ∷ grown k w b zs)

-- where a first part stands is where its span does
shift_test : (s t x y : ℕ) → eqb (shift s t x) (shift s t y) ≡ eqb x y
shift_test s t x y = elim (cases_eq x y) [
  | inl q ↦ rw (eq-eqb x y q, eq-eqb (shift s t x) (shift s t y) (ap (shift s t) q)) refl
  | inr n ↦ rw (ne_eqb x y n, ne_eqb (shift s t x) (shift s t y) (shift_apart s t x y n)) refl
]

grown_twice : (s t : ℕ) (k : ℕ → ℕ) (w b : ℕ) (zs : List ℕ) → grown k (shift s t w) b (map (shift s t) zs) ≡ grown (λ z. k (shift s t z)) w b zs
grown_twice s t k w b [] = refl
grown_twice s t k w b (z ∷ zs) = rw (shift_test s t z w, grown_twice s t k w b zs) refl

-- joined lists
pub grown_append : (k : ℕ → ℕ) (w b : ℕ) (xs ys : List ℕ) → grown k w b (xs ++ ys) ≡ grown k w b xs ++ grown k w b ys
grown_append k w b [] ys = refl
grown_append k w b (x ∷ xs) ys = ap (λ z. first_part w b x ++ (k x ∷ z)) (grown_append k w b xs ys) ∙ sym (append_assoc (first_part w b x) (k x ∷ grown k w b xs) (grown k w b ys))

-- the first part alone
pub mem_first : (w b z y : ℕ) → Mem y (first_part w b z) → y ≡ b
mem_first w b z y m = go (eqb z w) m
  where
    go : (t : Bool) → Mem y (cond t (b ∷ []) []) → y ≡ b
    go true (inl q) = q
    go true (inr i) = absurd i
    go false i = absurd i

-- the members of a grown list
pub mem_grown : (k : ℕ → ℕ) (w b y : ℕ) (zs : List ℕ) → Mem y (grown k w b zs) → Mem y (map k zs) ⊎ (y ≡ b)
mem_grown k w b y [] m = absurd m
mem_grown k w b y (z ∷ zs) m = elim (mem_append y (first_part w b z) (k z ∷ grown k w b zs) m) [
  | inl i ↦ inr (mem_first w b z y i)
  | inr (inl q) ↦ inl (inl q)
  | inr (inr i) ↦ elim (mem_grown k w b y zs i) [ inl j ↦ inl (inr j) | inr e ↦ inr e ]
]

-- the number of the first part
abbrev pub row_entry : {t u : ℕ} {out : Bool} {c : Chord} {es : List Chord} {xs ys : List ℕ} {ss : List Stop} {ds : List Chord} {k : ℕ → ℕ} {m e : ℕ} {strips : List Stop}
    → Row t u out c es xs ys ss ds k m e strips → ℕ
row_entry (last {t} {u} p) = early u t
row_entry (more p r) = row_entry r

-- without the near end a piece grows by the first part alone
spread_grown : (t u x : ℕ) (zs : List ℕ) → (Mem x zs → ⊥) → spread_all t u x zs ≡ grown (shift t u) u (early u t) zs
spread_grown t u x [] n = refl
spread_grown t u x (z ∷ zs) n =
    let q : eqb z x ≡ false = ne_eqb z x (λ e. n (inl (sym e))) in
    let one : spread t u x z ≡ first_part u (early u t) z ++ (shift t u z ∷ []) = rw q refl in
    ap (λ w. w ++ spread_all t u x zs) one
    ∙ (append_assoc (first_part u (early u t) z) (shift t u z ∷ []) (spread_all t u x zs)
    ∙ ap (λ w. first_part u (early u t) z ++ (shift t u z ∷ w)) (spread_grown t u x zs (λ i. n (inr i))))

-- a piece that the row doesn't touch, but perhaps its last finger
pub row_carry_last : {t u : ℕ} {out : Bool} {c : Chord} {es : List Chord} {xs ys : List ℕ} {ss : List Stop} {ds : List Chord} {k : ℕ → ℕ} {m e : ℕ} {strips : List Stop}
    → (r : Row t u out c es xs ys ss ds k m e strips) → (zs : List ℕ) → IsCycle (next (c ∷ es)) zs → (Mem t zs → ⊥) → (Mem (near out c) zs → ⊥) → Passes u ss zs
    → IsCycle (next ds) (grown k (last_entry u ss) (row_entry r) zs)
row_carry_last (last {t} {u} {out} {c} {es} {xs} {ys} p) zs i nt nx a =
    same_cycle _ _ _ (turned_same t u out c es xs ys p)
    (subst (λ w. IsCycle (next (pushed t u out c es)) w) (spread_grown t u (near out c) zs nx) (other_after t u out c es xs ys p zs i nt))
row_carry_last {ss = ss'} {k = k'} (more {t} {u} {out} {c} {es} {xs} {ys} {s} {ss} {ds} {k} p r) zs i nt nx a =
    let ih = row_carry_last r (map (shift t u) zs) (carried_cycle t u out c es xs ys p zs i nt a.0 nx) (still_missing t u s.seg zs a.1)
    (λ w. tip_missing t u zs (subst (λ v. Mem v (map (shift t u) zs)) (near_is t u out) w)) (passes_shift t u s.beyond ss zs a.2) in
    subst (λ w. IsCycle (next ds) w)
    (ap (λ w. grown k w (row_entry r) (map (shift t u) zs)) (last_shift t u s.beyond ss) ∙ grown_twice t u k (last_entry s.beyond ss) (row_entry r) zs) ih

-- the piece behind the pushed chord gains the middle span, and perhaps the first part
pub row_behind_last : {t u : ℕ} {out : Bool} {c : Chord} {es : List Chord} {xs ys : List ℕ} {ss : List Stop} {ds : List Chord} {k : ℕ → ℕ} {m e : ℕ} {strips : List Stop}
    → (r : Row t u out c es xs ys ss ds k m e strips) → (q : List ℕ) → IsCycle (next (c ∷ es)) (near out c ∷ q) → (Mem t (near out c ∷ q) → ⊥) → Passes u ss (near out c ∷ q)
    → IsCycle (next ds) (k (near out c) ∷ m ∷ (grown k (last_entry u ss) (row_entry r) q ++ first_part (last_entry u ss) (row_entry r) (near out c)))
row_behind_last (last {t} {u} {out} {c} {es} {xs} {ys} p) q i nt a =
    let x = near out c in
    let b = early u t in
    let head : spread t u x x ≡ first_part u b x ++ (shift t u x ∷ suc (early t u) ∷ []) = rw (eq-eqb x x refl) refl in
    let all : spread_all t u x (x ∷ q) ≡ first_part u b x ++ (shift t u x ∷ suc (early t u) ∷ grown (shift t u) u b q)
    = ap (λ w. w ++ spread_all t u x q) head
    ∙ (append_assoc (first_part u b x) (shift t u x ∷ suc (early t u) ∷ []) (spread_all t u x q)
    ∙ ap (λ w. first_part u b x ++ (shift t u x ∷ suc (early t u) ∷ w)) (spread_grown t u x q i.once.0)) in
    same_cycle _ _ _ (turned_same t u out c es xs ys p)
    (rotate (next (pushed t u out c es)) (first_part u b x) (shift t u x ∷ suc (early t u) ∷ grown (shift t u) u b q)
    (subst (λ w. IsCycle (next (pushed t u out c es)) w) all (other_after t u out c es xs ys p (x ∷ q) i nt)))
row_behind_last (more {t} {u} {out} {c} {es} {xs} {ys} {s} {ss} {ds} {k} p r) q i nt a =
    let x = near out c in
    let zs = shift t u x ∷ suc (early t u) ∷ map (shift t u) q in
    let w = last_entry s.beyond ss in
    let b = row_entry r in
    let ih = row_carry_last r zs (middle_cycle t u out c es xs ys q p i nt a.0)
    (miss s.seg a.1) (λ w. tip_out (subst (λ v. Mem v zs) (near_is t u out) w)) (passes s.beyond ss a.2) in
    let ne : eqb (suc (early t u)) (shift t u w) ≡ false = ne_eqb _ _ (λ e. (shift_new t u w).1 (sym e)) in
    let mid : first_part (shift t u w) b (suc (early t u)) ≡ [] = rw ne refl in
    let one : grown k (last_entry (shift t u s.beyond) (map (carry_stop t u) ss)) b zs
    ≡ first_part w b x ++ (k (shift t u x) ∷ k (suc (early t u)) ∷ grown (λ z. k (shift t u z)) w b q)
    = ap (λ v. grown k v b zs) (last_shift t u s.beyond ss)
    ∙ (ap (λ v. cond v (b ∷ []) [] ++ (k (shift t u x) ∷ (first_part (shift t u w) b (suc (early t u)) ++ (k (suc (early t u)) ∷ grown k (shift t u w) b (map (shift t u) q))))) (shift_test t u x w)
    ∙ (ap (λ v. first_part w b x ++ (k (shift t u x) ∷ (v ++ (k (suc (early t u)) ∷ grown k (shift t u w) b (map (shift t u) q))))) mid
    ∙ ap (λ v. first_part w b x ++ (k (shift t u x) ∷ k (suc (early t u)) ∷ v)) (grown_twice t u k w b q))) in
    rotate (next ds) (first_part w b x) (k (shift t u x) ∷ k (suc (early t u)) ∷ grown (λ z. k (shift t u z)) w b q)
    (subst (λ v. IsCycle (next ds) v) one ih)
  where
    miss : (z : ℕ) → (Mem z (near out c ∷ q) → ⊥) → Mem (shift t u z) (shift t u (near out c) ∷ suc (early t u) ∷ map (shift t u) q) → ⊥
    miss z n (inl e) = still_missing t u z (near out c ∷ q) n (inl e)
    miss z n (inr (inl e)) = (shift_new t u z).1 e
    miss z n (inr (inr i)) = still_missing t u z (near out c ∷ q) n (inr i)

    passes : (v : ℕ) (ss : List Stop) → Passes v ss (near out c ∷ q) → Passes (shift t u v) (map (carry_stop t u) ss) (shift t u (near out c) ∷ suc (early t u) ∷ map (shift t u) q)
    passes v [] h = tt
    passes v (s ∷ ss) h = (miss v h.0, miss s.seg h.1, passes s.beyond ss h.2)

    tip_out : Mem (suc (early u t)) (shift t u (near out c) ∷ suc (early t u) ∷ map (shift t u) q) → ⊥
    tip_out (inl z) = tip_missing t u (near out c ∷ q) (inl z)
    tip_out (inr (inl z)) = (new_apart t u (apart t u out c es xs ys p)).3 (sym z)
    tip_out (inr (inr z)) = tip_missing t u (near out c ∷ q) (inr z)

-- the first part is neither a carried span, nor the middle span, nor the tip, nor in a strip
pub row_entry_new : {t u : ℕ} {out : Bool} {c : Chord} {es : List Chord} {xs ys : List ℕ} {ss : List Stop} {ds : List Chord} {k : ℕ → ℕ} {m e : ℕ} {strips : List Stop}
    → (r : Row t u out c es xs ys ss ds k m e strips) → ((z : ℕ) → k z ≢ row_entry r) × (m ≢ row_entry r) × (e ≢ row_entry r) × Avoids strips (row_entry r ∷ [])
row_entry_new (last {t} {u} {out} {c} {es} {xs} {ys} p) =
    ((λ z q. (shift_new u t z).0 (sym (shift_swap t u z) ∙ q)), (new_apart t u (apart t u out c es xs ys p)).2, (λ q. own q), tt)
  where
    own : {x : ℕ} → suc x ≡ x → ⊥
    own q = omega (arith, q)
row_entry_new (more {t} {u} p r) =
    let i = row_entry_new r in
    ((λ z. i.0 (shift t u z)), i.0 (suc (early t u)), i.0 (suc (early u t)), ((λ m. elim m [ inl q ↦ i.1 q | inr n ↦ n ]), (λ m. elim m [ inl q ↦ i.2 q | inr n ↦ n ]), i.3))
