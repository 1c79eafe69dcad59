-- What a row of fingers leaves: the strips, which are the path of the next row, and the piece behind with its middle span.
use Rattle.std.proofs.Common.{◌≡◌, ℕ, zero, suc, Bool, List, [], ◌∷◌, ◌++◌, map, length, refl, sym, ◌∙◌, ap, subst, arith, inl, inr, ◌≢◌}
use Rattle.std.proofs.lemmas.Bool.{eq-eqb, ne_eqb}
use Rattle.std.proofs.lemmas.List.{length-map}
use Rattle.obd_base.specs.Lists.{Mem}
use Rattle.page_surface.specs.Drawing.{Chord}
use Rattle.drawing.proofs.fingers.Shift.{shift, early, shift_new, shift_swap}
use Rattle.drawing.proofs.fingers.Finger.{turn, pushed, shift_apart, new_apart}
use Rattle.finger_move.proofs.PushedNext.{next, near}
use Rattle.finger_move.proofs.Cycles.{IsCycle}
use Rattle.finger_move.proofs.Spread.{spread, spread_all}
use Rattle.nice_plan.proofs.Pushing.{Push, apart, others, push_on, carried_cycle, other_after, tip_after, turned_same, same_cycle, spread_plain}
use Rattle.nice_plan.proofs.RowLegal.{Stop, Way, Misses, Simple, carry_stop, still_missing, tip_missing, carry_misses, tip_misses, carry_simple, carry_way, near_is}

-- a row of fingers, each ready in what the ones before it leave. After it: the chords ds, old numbers z at k z,
-- the first middle span m, the first tip e, and the strips from the first tip on
pub data Row : ℕ → ℕ → Bool → Chord → List Chord → List ℕ → List ℕ → List Stop → List Chord → (ℕ → ℕ) → ℕ → ℕ → List Stop → Type 0 where
  last : {t u : ℕ} {out : Bool} {c : Chord} {es : List Chord} {xs ys : List ℕ} → Push t u out c es xs ys
      → Row t u out c es xs ys [] (turn t u out ∷ others t u out c es) (shift t u) (suc (early t u)) (suc (early u t)) []
  more : {t u : ℕ} {out : Bool} {c : Chord} {es : List Chord} {xs ys : List ℕ} {s : Stop} {ss : List Stop} {ds : List Chord} {k : ℕ → ℕ} {m e : ℕ} {strips : List Stop}
      → Push t u out c es xs ys
      → Row (shift t u s.seg) (shift t u s.beyond) out (turn t u out) (others t u out c es)
      (shift t u u ∷ map (shift t u) s.before) (map (shift t u) s.after ++ (early u t ∷ [])) (map (carry_stop t u) ss) ds k m e strips
      → Row t u out c es xs ys (s ∷ ss) ds (λ z. k (shift t u z)) (k (suc (early t u))) (k (suc (early u t)))
      (record { before = []; seg = m; after = []; beyond = e } ∷ strips)

-- what a row leaves
pub record Left (t u : ℕ) (out : Bool) (c : Chord) (es : List Chord) (xs ys : List ℕ) (ss : List Stop) : Type 0 where
  pub chords : List Chord
  pub carried : ℕ → ℕ
  pub middle : ℕ
  pub tip : ℕ
  pub strips : List Stop
  pub row : Row t u out c es xs ys ss chords carried middle tip strips

-- the whole row can be made
pub row_made : (n t u : ℕ) (out : Bool) (c : Chord) (es : List Chord) (xs ys : List ℕ) (ss : List Stop) → length ss ≡ n
    → Push t u out c es xs ys → Way (next (c ∷ es)) u ss → Misses t u ss → Misses (near out c) u ss → Simple u ss → Left t u out c es xs ys ss
row_made zero t u out c es xs ys [] l p w mt mx q = record { chords = _; carried = _; middle = _; tip = _; strips = _; row = last p }
row_made zero t u out c es xs ys (s ∷ ss) l p w mt mx q = absurd (let z : ⊥ = omega (arith, l) in z)
row_made (suc n) t u out c es xs ys [] l p w mt mx q = record { chords = _; carried = _; middle = _; tip = _; strips = _; row = last p }
row_made (suc n) t u out c es xs ys (s ∷ ss) l p w mt mx q =
    let r = row_made n (shift t u s.seg) (shift t u s.beyond) out (turn t u out) (others t u out c es)
    (shift t u u ∷ map (shift t u) s.before) (map (shift t u) s.after ++ (early u t ∷ [])) (map (carry_stop t u) ss)
    (omega (arith, l, length-map ss (carry_stop t u)))
    (push_on t u out c es xs ys p s.before s.after s.seg s.beyond w.0 mt.0 mx.0 w.1)
    (carry_way t u out c es xs ys p s.beyond ss w.2 mt.1 q.0 mx.1)
    (carry_misses t u s.seg s.beyond ss q.1)
    (subst (λ z. Misses z (shift t u s.beyond) (map (carry_stop t u) ss)) (sym (near_is t u out)) (tip_misses t u s.beyond ss))
    (carry_simple t u s.beyond ss q.2) in
    record { chords = _; carried = _; middle = _; tip = _; strips = _; row = more p r.row }

-- carrying keeps numbers apart
pub row_apart : {t u : ℕ} {out : Bool} {c : Chord} {es : List Chord} {xs ys : List ℕ} {ss : List Stop} {ds : List Chord} {k : ℕ → ℕ} {m e : ℕ} {strips : List Stop}
    → Row t u out c es xs ys ss ds k m e strips → (a b : ℕ) → a ≢ b → k a ≢ k b
row_apart (last {t} {u} p) a b n = shift_apart t u a b n
row_apart (more {t} {u} p r) a b n = row_apart r (shift t u a) (shift t u b) (shift_apart t u a b n)

-- no old number is the middle span, the tip, or in a strip
pub row_fresh : {t u : ℕ} {out : Bool} {c : Chord} {es : List Chord} {xs ys : List ℕ} {ss : List Stop} {ds : List Chord} {k : ℕ → ℕ} {m e : ℕ} {strips : List Stop}
    → Row t u out c es xs ys ss ds k m e strips → (z : ℕ) → (k z ≢ m) × (k z ≢ e) × Misses (k z) e strips
row_fresh (last {t} {u} p) z = ((shift_new t u z).1, λ q. (shift_new u t z).1 (sym (shift_swap t u z) ∙ q), tt)
row_fresh (more {t} {u} p r) z =
    let i = row_fresh r (shift t u z) in
    let a = row_apart r (shift t u z) (suc (early t u)) (shift_new t u z).1 in
    let b = row_apart r (shift t u z) (suc (early u t)) (λ q. (shift_new u t z).1 (sym (shift_swap t u z) ∙ q)) in
    (a, b, (λ w. elim w [ inl q ↦ b q | inr w ↦ elim w [ inl q ↦ i.0 q | inr w ↦ w ] ], i.2))

-- nor is the middle span in a strip, or the tip
pub row_middle : {t u : ℕ} {out : Bool} {c : Chord} {es : List Chord} {xs ys : List ℕ} {ss : List Stop} {ds : List Chord} {k : ℕ → ℕ} {m e : ℕ} {strips : List Stop}
    → Row t u out c es xs ys ss ds k m e strips → (m ≢ e) × Misses m e strips
row_middle (last {t} {u} {out} {c} {es} {xs} {ys} p) = ((new_apart t u (apart t u out c es xs ys p)).3, tt)
row_middle (more {t} {u} {out} {c} {es} {xs} {ys} p r) =
    let i = row_fresh r (suc (early t u)) in
    let b = row_apart r (suc (early t u)) (suc (early u t)) (new_apart t u (apart t u out c es xs ys p)).3 in
    (b, (λ w. elim w [ inl q ↦ b q | inr w ↦ elim w [ inl q ↦ i.0 q | inr w ↦ w ] ], i.2))

-- the strips are met once each
pub row_simple : {t u : ℕ} {out : Bool} {c : Chord} {es : List Chord} {xs ys : List ℕ} {ss : List Stop} {ds : List Chord} {k : ℕ → ℕ} {m e : ℕ} {strips : List Stop}
    → Row t u out c es xs ys ss ds k m e strips → Simple e strips
row_simple (last p) = tt
row_simple (more {t} {u} p r) = ((row_fresh r (suc (early u t))).2, (row_middle r).1, row_simple r)

-- no span of a list is the exit of a later stop, or glued to it
abbrev pub Avoids : List Stop → List ℕ → Type 0
Avoids [] zs = Unit {0}
Avoids (s ∷ ss) zs = (Mem s.seg zs → ⊥) × (Mem s.beyond zs → ⊥) × Avoids ss zs

carry_avoids : (t u : ℕ) (ss : List Stop) (zs : List ℕ) → Avoids ss zs → Avoids (map (carry_stop t u) ss) (map (shift t u) zs)
carry_avoids t u [] zs a = tt
carry_avoids t u (s ∷ ss) zs a = (still_missing t u s.seg zs a.0, still_missing t u s.beyond zs a.1, carry_avoids t u ss zs a.2)

-- a list mapped twice
pub map_twice : (f g : ℕ → ℕ) (zs : List ℕ) → map g (map f zs) ≡ map (λ z. g (f z)) zs
map_twice f g [] = refl
map_twice f g (z ∷ zs) = ap (λ w. g (f z) ∷ w) (map_twice f g zs)

-- a piece that the row doesn't touch is carried
pub row_carry : {t u : ℕ} {out : Bool} {c : Chord} {es : List Chord} {xs ys : List ℕ} {ss : List Stop} {ds : List Chord} {k : ℕ → ℕ} {m e : ℕ} {strips : List Stop}
    → Row t u out c es xs ys ss ds k m e strips → (zs : List ℕ) → IsCycle (next (c ∷ es)) zs → (Mem t zs → ⊥) → (Mem u zs → ⊥) → (Mem (near out c) zs → ⊥) → Avoids ss zs
    → IsCycle (next ds) (map k zs)
row_carry (last {t} {u} {out} {c} {es} {xs} {ys} p) zs i nt nu nx a = carried_cycle t u out c es xs ys p zs i nt nu nx
row_carry (more {t} {u} {out} {c} {es} {xs} {ys} {s} {ss} {ds} {k} p r) zs i nt nu nx a =
    subst (λ w. IsCycle (next ds) w) (map_twice (shift t u) k zs)
    (row_carry r (map (shift t u) zs) (carried_cycle t u out c es xs ys p zs i nt nu nx)
    (still_missing t u s.seg zs a.0) (still_missing t u s.beyond zs a.1)
    (λ w. tip_missing t u zs (subst (λ v. Mem v (map (shift t u) zs)) (near_is t u out) w)) (carry_avoids t u ss zs a.2))

avoids_middle : (t u x : ℕ) (ss : List Stop) (q : List ℕ) → Avoids ss (x ∷ q) → Avoids (map (carry_stop t u) ss) (shift t u x ∷ suc (early t u) ∷ map (shift t u) q)
avoids_middle t u x [] q a = tt
avoids_middle t u x (s ∷ ss) q a = (miss s.seg a.0, miss s.beyond a.1, avoids_middle t u x ss q a.2)
  where
    miss : (z : ℕ) → (Mem z (x ∷ q) → ⊥) → Mem (shift t u z) (shift t u x ∷ suc (early t u) ∷ map (shift t u) q) → ⊥
    miss z n (inl e) = still_missing t u z (x ∷ q) n (inl e)
    miss z n (inr (inl e)) = (shift_new t u z).1 e
    miss z n (inr (inr i)) = still_missing t u z (x ∷ q) n (inr i)

-- the piece behind gains the middle span after its near end
pub middle_cycle : (t u : ℕ) (out : Bool) (c : Chord) (es : List Chord) (xs ys q : List ℕ) → Push t u out c es xs ys → IsCycle (next (c ∷ es)) (near out c ∷ q)
    → (Mem t (near out c ∷ q) → ⊥) → (Mem u (near out c ∷ q) → ⊥)
    → IsCycle (next (turn t u out ∷ others t u out c es)) (shift t u (near out c) ∷ suc (early t u) ∷ map (shift t u) q)
middle_cycle t u out c es xs ys q p i nt nu =
    let x = near out c in
    let head : spread t u x x ≡ shift t u x ∷ suc (early t u) ∷ [] = rw (ne_eqb x u (λ e. nu (inl (sym e))), eq-eqb x x refl) refl in
    same_cycle _ _ _ (turned_same t u out c es xs ys p)
    (subst (λ w. IsCycle (next (pushed t u out c es)) w)
    (ap (λ w. w ++ spread_all t u x q) head ∙ ap (λ w. shift t u x ∷ suc (early t u) ∷ w) (spread_plain t u out c es xs ys p q (λ j. nu (inr j)) i.once.0))
    (other_after t u out c es xs ys p (x ∷ q) i nt))

-- the piece behind the pushed chord gains the first middle span
pub row_behind : {t u : ℕ} {out : Bool} {c : Chord} {es : List Chord} {xs ys : List ℕ} {ss : List Stop} {ds : List Chord} {k : ℕ → ℕ} {m e : ℕ} {strips : List Stop}
    → Row t u out c es xs ys ss ds k m e strips → (q : List ℕ) → IsCycle (next (c ∷ es)) (near out c ∷ q)
    → (Mem t (near out c ∷ q) → ⊥) → (Mem u (near out c ∷ q) → ⊥) → Avoids ss (near out c ∷ q)
    → IsCycle (next ds) (k (near out c) ∷ m ∷ map k q)
row_behind (last {t} {u} {out} {c} {es} {xs} {ys} p) q i nt nu a = middle_cycle t u out c es xs ys q p i nt nu
row_behind (more {t} {u} {out} {c} {es} {xs} {ys} {s} {ss} {ds} {k} p r) q i nt nu a =
    let x = near out c in
    let av = avoids_middle t u x (s ∷ ss) q a in
    subst (λ w. IsCycle (next ds) (k (shift t u x) ∷ k (suc (early t u)) ∷ w)) (map_twice (shift t u) k q)
    (row_carry r (shift t u x ∷ suc (early t u) ∷ map (shift t u) q) (middle_cycle t u out c es xs ys q p i nt nu)
    av.0 av.1 (λ w. tip_out (subst (λ v. Mem v (shift t u x ∷ suc (early t u) ∷ map (shift t u) q)) (near_is t u out) w)) av.2)
  where
    tip_out : Mem (suc (early u t)) (shift t u (near out c) ∷ suc (early t u) ∷ map (shift t u) q) → ⊥
    tip_out (inl z) = tip_missing t u (near out c ∷ q) (inl z)
    tip_out (inr (inl z)) = (new_apart t u (apart t u out c es xs ys p)).3 (sym z)
    tip_out (inr (inr z)) = tip_missing t u (near out c ∷ q) (inr z)

avoids_tip : (t u : ℕ) (ss : List Stop) → Avoids (map (carry_stop t u) ss) (suc (early u t) ∷ [])
avoids_tip t u [] = tt
avoids_tip t u (s ∷ ss) = (λ w. elim w [ inl q ↦ tip_missing t u (s.seg ∷ []) (inl (sym q)) | inr w ↦ w ], λ w. elim w [ inl q ↦ tip_missing t u (s.beyond ∷ []) (inl (sym q)) | inr w ↦ w ], avoids_tip t u ss)

-- the strips are pieces of two spans, each leading to the next: the path of the next row
pub row_way : {t u : ℕ} {out : Bool} {c : Chord} {es : List Chord} {xs ys : List ℕ} {ss : List Stop} {ds : List Chord} {k : ℕ → ℕ} {m e : ℕ} {strips : List Stop}
    → Row t u out c es xs ys ss ds k m e strips → Way (next ds) e strips
row_way (last p) = tt
row_way (more {t} {u} {out} {c} {es} {xs} {ys} {s} {ss} {ds} {k} {m} {e} p r) =
    let tip = suc (early u t) in
    let one : IsCycle (next (turn t u out ∷ others t u out c es)) (near out (turn t u out) ∷ [])
    = subst (λ w. IsCycle (next (turn t u out ∷ others t u out c es)) (w ∷ [])) (sym (near_is t u out))
    (same_cycle _ _ _ (turned_same t u out c es xs ys p) (tip_after t u out c es xs ys p)) in
    let av = avoids_tip t u (s ∷ ss) in
    let to : (w : ℕ) → (Mem w (tip ∷ []) → ⊥) → Mem w (near out (turn t u out) ∷ []) → ⊥ = λ w n i. n (subst (λ v. Mem w (v ∷ [])) (near_is t u out) i) in
    let two = row_behind r [] one (to (shift t u s.seg) av.0) (to (shift t u s.beyond) av.1) (subst (λ v. Avoids (map (carry_stop t u) ss) (v ∷ [])) (sym (near_is t u out)) av.2) in (
      subst (λ w. IsCycle (next ds) (k w ∷ m ∷ [])) (near_is t u out) two,
      λ w. elim w [ inl q ↦ (row_fresh r tip).1 (sym q) | inr w ↦ elim w [ inl q ↦ (row_middle r).0 (sym q) | inr w ↦ w ] ],
      row_way r,
    )
