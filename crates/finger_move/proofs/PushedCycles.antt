-- What a finger makes of the cyclic lists of spans.
use Rattle.std.proofs.Common.{◌≡◌, ℕ, suc, Bool, true, false, cond, eqb, List, [], ◌∷◌, ◌++◌, map, refl, sym, ◌∙◌, ap, subst, arith, inl, inr, ◌≢◌}
use Rattle.std.proofs.lemmas.Bool.{cases_eq, eq-eqb, ne_eqb}
use Rattle.obd_base.specs.Lists.{Mem, Once}
use Rattle.obd_base.proofs.lists.Members.{mem_left, mem_map, mem_right}
use Rattle.page_surface.specs.Drawing.{Chord}
use Rattle.drawing.specs.Round.{other_end}
use Rattle.drawing.proofs.fingers.Shift.{shift, early, shift_new}
use Rattle.drawing.proofs.fingers.Arranged.{Arranged}
use Rattle.drawing.proofs.fingers.Finger.{pushed, shift_apart}
use Rattle.finger_move.proofs.PushedNext.{next, near, far, entered, other_at, other_twice, Table, table, after_carried, next_kept}
use Rattle.finger_move.proofs.Cycles.{head_or, Leads, IsCycle, leads_append, leads_left, leads_right}
use Rattle.finger_move.proofs.Spread.{once_left, once_right, once_apart, spread, spread_all, shape, spread_shape, spread_all_once, shift_own, shift_other}
use Rattle.obd_base.proofs.lists.Parts.{once_append}

shift_once : (t u : ℕ) (xs : List ℕ) → Once xs → Once (map (shift t u) xs)
shift_once t u [] o = tt
shift_once t u (x ∷ xs) o = (
  λ m. let (y, k, e) = mem_map (shift t u) (shift t u x) xs m in
      elim (cases_eq x y) [ inl q ↦ o.0 (subst (λ w. Mem w xs) (sym q) k) | inr q ↦ shift_apart t u x y q e ],
  shift_once t u xs o.1,
)

-- a span that is not entered is carried
pub entered_plain : (t u s : ℕ) → s ≢ t → s ≢ u → entered t u s ≡ shift t u s
entered_plain t u s n m = rw (ne_eqb s t n, ne_eqb s u m) refl

-- the entered span is met by its first part
pub entered_split : (t u : ℕ) → entered t u t ≡ early t u
entered_split t u = rw (eq-eqb t t refl) refl

module _ (t u : ℕ) (out : Bool) (c : Chord) (es : List Chord) (ne : t ≢ u) (old : Arranged (c ∷ es)) (new : Arranged (pushed t u out c es)) where
  abbrev x : ℕ
  x = near out c

  abbrev y : ℕ
  y = far out c

  abbrev f : ℕ → ℕ
  f = next (c ∷ es)

  abbrev g : ℕ → ℕ
  g = next (pushed t u out c es)

  old_near : other_end (c ∷ es) x ≡ y
  old_near = let o = other_at (c ∷ es) old c (inl refl) in go out o
    where
      go : (out : Bool) → (other_end (c ∷ es) c.from ≡ c.to) × (other_end (c ∷ es) c.to ≡ c.from) → other_end (c ∷ es) (near out c) ≡ far out c
      go true o = o.1
      go false o = o.0

  old_far : other_end (c ∷ es) y ≡ x
  old_far = ap (other_end (c ∷ es)) (sym old_near) ∙ other_twice (c ∷ es) old x

  -- what leads to the span after the near end
  pub old_next_far : f y ≡ suc x
  old_next_far = ap suc old_far

  -- only the far end goes to suc x
  only_far : (s : ℕ) → f s ≡ suc x → s ≡ y
  only_far s q =
      let e : other_end (c ∷ es) s ≡ x = omega (arith, q) in
      sym (other_twice (c ∷ es) old s) ∙ (ap (other_end (c ∷ es)) e ∙ old_near)

  tab : Table t u out c es
  tab = table t u out c es new

  new_near : g (shift t u x) ≡ suc (early t u)
  new_near = ap suc tab.at_near

  new_early : g (early t u) ≡ entered t u (suc x)
  new_early = ap suc tab.at_early ∙ after_carried t u x ne

  new_far : g (shift t u y) ≡ shift t u t
  new_far = ap suc tab.at_far ∙ sym (shift_own t u)

  new_late : g (suc (early t u)) ≡ entered t u (suc y)
  new_late = ap suc tab.at_late ∙ after_carried t u y ne

  new_tip : g (suc (early u t)) ≡ suc (early u t)
  new_tip = ap suc tab.at_tip

  new_beyond : g (early u t) ≡ shift t u u
  new_beyond = ap suc tab.at_beyond ∙ sym (shift_other t u)

  ends_other : (out : Bool) (s : ℕ) → s ≢ near out c → s ≢ far out c → (c.from ≢ s) × (c.to ≢ s)
  ends_other true s n m = (λ q. m (sym q), λ q. n (sym q))
  ends_other false s n m = (λ q. n (sym q), λ q. m (sym q))

  new_kept : (s : ℕ) → s ≢ x → s ≢ y → g (shift t u s) ≡ entered t u (f s)
  new_kept s n m = let o = ends_other out s n m in next_kept t u out c es s ne o.0 o.1

  -- the tip of the finger
  pub tip_cycle : IsCycle g (suc (early u t) ∷ [])
  tip_cycle = record { leads = (new_tip, tt); once = (λ m. m, tt) }

  spread_leads : (s : ℕ) → s ≢ y → Leads g (spread t u x s) (entered t u (f s))
  spread_leads s n =
      let (p, pt, pf, (q, qt, qf, e)) = spread_shape t u x s in
      subst (λ w. Leads g w (entered t u (f s))) (sym e) (go p q pt qt qf)
    where
      first : s ≡ u → g (early u t) ≡ shift t u s
      first h = subst (λ w. g (early u t) ≡ shift t u w) (sym h) new_beyond

      middle : s ≡ x → g (shift t u s) ≡ suc (early t u)
      middle h = subst (λ w. g (shift t u w) ≡ suc (early t u)) (sym h) new_near

      end : s ≡ x → g (suc (early t u)) ≡ entered t u (f s)
      end h = new_late ∙ ap (entered t u) (ap suc (sym old_near) ∙ ap f (sym h))

      go : (p q : Bool) → (p ≡ true → s ≡ u) → (q ≡ true → s ≡ x) → (q ≡ false → s ≢ x) → Leads g (shape p q (early u t) (shift t u s) (suc (early t u))) (entered t u (f s))
      go true true a b d = (first (a refl), (middle (b refl), (end (b refl), tt)))
      go true false a b d = (first (a refl), (new_kept s (d refl) n, tt))
      go false true a b d = (middle (b refl), (end (b refl), tt))
      go false false a b d = (new_kept s (d refl) n, tt)

  spread_head : (s : ℕ) (zs : List ℕ) → s ≢ t → (z : ℕ) → head_or (spread t u x s ++ zs) z ≡ entered t u s
  spread_head s zs n z = rw (ne_eqb s t n) (go (eqb s u) (eqb s x))
    where
      go : (p q : Bool) → head_or ((cond p (early u t ∷ []) [] ++ (shift t u s ∷ cond q (suc (early t u) ∷ []) [])) ++ zs) z ≡ cond p (early u t) (shift t u s)
      go true q = refl
      go false q = refl

  all_head : (ss : List ℕ) (z : ℕ) → (Mem t ss → ⊥) → head_or (spread_all t u x ss) (entered t u z) ≡ entered t u (head_or ss z)
  all_head [] z n = refl
  all_head (s ∷ ss) z n = spread_head s (spread_all t u x ss) (λ q. n (inl (sym q))) (entered t u z)

  all_leads : (ss : List ℕ) (z : ℕ) → (Mem t ss → ⊥) → (Mem y ss → ⊥) → Leads f ss z → Leads g (spread_all t u x ss) (entered t u z)
  all_leads [] z n m h = tt
  all_leads (s ∷ ss) z n m h =
      let e : entered t u (f s) ≡ head_or (spread_all t u x ss) (entered t u z) = ap (entered t u) h.0 ∙ sym (all_head ss z (λ i. n (inr i))) in
      leads_append g (spread t u x s) (spread_all t u x ss) (entered t u z)
      (subst (λ w. Leads g (spread t u x s) w) e (spread_leads s (λ q. m (inl (sym q)))))
      (all_leads ss z (λ i. n (inr i)) (λ i. m (inr i)) h.1)

  -- a piece without t (and so without the far end of the chord) keeps its spans and gains one for u and one for the near end
  pub kept_cycle : (ss : List ℕ) → (Mem t ss → ⊥) → (Mem y ss → ⊥) → IsCycle f ss → IsCycle g (spread_all t u x ss)
  kept_cycle [] n m k = record { leads = tt; once = tt }
  kept_cycle (s ∷ ss) n m k = record {
    leads = subst (λ w. Leads g (spread_all t u x (s ∷ ss)) w)
        (sym (spread_head s (spread_all t u x ss) (λ q. n (inl (sym q))) 0)) (all_leads (s ∷ ss) s n m k.leads);
    once = spread_all_once t u x ne (s ∷ ss) k.once;
  }

  -- inside the split piece, away from the ends
  inner_leads : (s : ℕ) (ss : List ℕ) (z : ℕ) → Leads f (s ∷ ss) z → ((r : ℕ) → Mem r (s ∷ ss) → r ≢ x) → z ≢ suc x
      → ((r : ℕ) → Mem r ss → (r ≢ suc x) × (r ≢ t) × (r ≢ u)) → Leads g (map (shift t u) (s ∷ ss)) (entered t u z)
  inner_leads s [] z h n nz m =
      (new_kept s (n s (inl refl)) (λ q. nz (sym h.0 ∙ (ap f q ∙ old_next_far))) ∙ ap (entered t u) h.0, tt)
  inner_leads s (r ∷ ss) z h n nz m =
      let a = m r (inl refl) in (
        new_kept s (n s (inl refl)) (λ q. a.0 (sym h.0 ∙ (ap f q ∙ old_next_far))) ∙ (ap (entered t u) h.0 ∙ entered_plain t u r a.1 a.2),
        inner_leads r ss z h.1 (λ w i. n w (inr i)) nz (λ w i. m w (inr i)),
      )

  last_leads : (s : ℕ) (ss : List ℕ) → Leads f (s ∷ ss) (suc x) → ((r : ℕ) → Mem r (s ∷ ss) → r ≢ x)
      → ((r : ℕ) → Mem r ss → (r ≢ suc x) × (r ≢ t) × (r ≢ u)) → Leads g (map (shift t u) (s ∷ ss)) (shift t u t)
  last_leads s [] h n m = (ap (λ w. g (shift t u w)) (only_far s h.0) ∙ new_far, tt)
  last_leads s (r ∷ ss) h n m =
      let a = m r (inl refl) in (
        new_kept s (n s (inl refl)) (λ q. a.0 (sym h.0 ∙ (ap f q ∙ old_next_far))) ∙ (ap (entered t u) h.0 ∙ entered_plain t u r a.1 a.2),
        last_leads r ss h.1 (λ w i. n w (inr i)) (λ w i. m w (inr i)),
      )

  -- the piece of t, listed from the span after the near end on, is split at t
  pub split_front : (xs ys : List ℕ) → IsCycle f (xs ++ (t ∷ ys)) → head_or (xs ++ (t ∷ ys)) 0 ≡ suc x
      → (Mem x (xs ++ (t ∷ ys)) → ⊥) → (Mem u (xs ++ (t ∷ ys)) → ⊥) → IsCycle g (map (shift t u) xs ++ (early t u ∷ []))
  split_front [] ys k h n m = record { leads = (new_early ∙ (ap (entered t u) (sym h) ∙ entered_split t u), tt); once = (λ m. m, tt) }
  split_front (s ∷ xs) ys k h n m =
      let apart : (t ≢ suc x) × (u ≢ suc x)
      = (λ q. k.once.0 (subst (λ w. Mem w (xs ++ (t ∷ ys))) (q ∙ sym h) (mem_right t xs (t ∷ ys) (inl refl))), λ q. m (inl (q ∙ sym h))) in
      let front : Leads f (s ∷ xs) t = leads_left f (s ∷ xs) (t ∷ ys) s k.leads in
      let inner = inner_leads s xs t front (λ r i q. n (mem_left x (s ∷ xs) (t ∷ ys) (subst (λ w. Mem w (s ∷ xs)) q i))) apart.0
      (λ r i. (
        λ q. k.once.0 (mem_left s xs (t ∷ ys) (subst (λ w. Mem w xs) (q ∙ sym h) i)),
        λ q. once_apart (s ∷ xs) (t ∷ ys) k.once t (inr (subst (λ w. Mem w xs) q i)) (inl refl),
        λ q. m (mem_left u (s ∷ xs) (t ∷ ys) (inr (subst (λ w. Mem w xs) q i))),
      )) in
      let close : g (early t u) ≡ shift t u s = new_early ∙ (entered_plain t u (suc x) (λ q. apart.0 (sym q)) (λ q. apart.1 (sym q)) ∙ ap (shift t u) (sym h)) in
      record {
        leads = leads_append g (map (shift t u) (s ∷ xs)) (early t u ∷ []) (shift t u s)
            (subst (λ w. Leads g (map (shift t u) (s ∷ xs)) w) (entered_split t u) inner) (close, tt);
        once = once_append (map (shift t u) (s ∷ xs)) (early t u ∷ []) (shift_once t u (s ∷ xs) (once_left (s ∷ xs) (t ∷ ys) k.once)) (λ m. m, tt)
            (λ z i j. let (r, l, e) = mem_map (shift t u) z (s ∷ xs) i in elim j [ inl q ↦ (shift_new t u r).0 (sym e ∙ q) | inr j ↦ absurd j ]);
      }

  -- and its second part
  pub split_back : (xs ys : List ℕ) → IsCycle f (xs ++ (t ∷ ys)) → head_or (xs ++ (t ∷ ys)) 0 ≡ suc x
      → (Mem x (xs ++ (t ∷ ys)) → ⊥) → (Mem u (xs ++ (t ∷ ys)) → ⊥) → IsCycle g (map (shift t u) (t ∷ ys))
  split_back xs ys k h n m = record {
    leads = last_leads t ys (subst (λ w. Leads f (t ∷ ys) w) h (leads_right f xs (t ∷ ys) (head_or (xs ++ (t ∷ ys)) 0) k.leads))
        (λ r i q. n (mem_right x xs (t ∷ ys) (subst (λ w. Mem w (t ∷ ys)) q i)))
        (λ r i. (
          λ q. first xs k.once h (subst (λ w. Mem w ys) q i),
          λ q. (once_right xs (t ∷ ys) k.once).0 (subst (λ w. Mem w ys) q i),
          λ q. m (mem_right u xs (t ∷ ys) (inr (subst (λ w. Mem w ys) q i))),
        ));
    once = shift_once t u (t ∷ ys) (once_right xs (t ∷ ys) k.once);
  }
    where
      first : (xs : List ℕ) → Once (xs ++ (t ∷ ys)) → head_or (xs ++ (t ∷ ys)) 0 ≡ suc x → Mem (suc x) ys → ⊥
      first [] o h i = o.0 (subst (λ w. Mem w ys) (sym h) i)
      first (s ∷ xs) o h i = o.0 (subst (λ w. Mem w (xs ++ (t ∷ ys))) (sym h) (mem_right (suc x) xs (t ∷ ys) (inr i)))
