-- Chords that don't cross, where two that end at neighbouring numbers become one.
use Rattle.std.proofs.Common.{◌≡◌, ℕ, suc, ◌+◌, ◌≤◌, Bool, true, false, ltb, not, ◌&&◌, List, [], ◌∷◌, ◌++◌, refl, sym, ◌∙◌, ap, subst, arith, ◌⊎◌, inl, inr, ◌≢◌}
use Rattle.std.specs.List.{list_all}
use Rattle.std.proofs.lemmas.Bool.{cases_lt, lt-ltb, le-ltb, and_parts, and_from, not-true}
use Rattle.std.proofs.lemmas.List.Sums.{sum_by-cons}
use Rattle.obd_base.proofs.lists.Below.{bit}
use Rattle.obd_base.proofs.lists.Sums.{member_adds}
use Rattle.obd_base.specs.Lists.{Mem}
use Rattle.page_surface.specs.Drawing.{Chord, beyond, crosses, differ, no_two_cross}
use Rattle.drawing.proofs.ChordTree.{beyond-suc}
use Rattle.drawing.proofs.SweepTest.{chord}
use Rattle.drawing.proofs.Mates.{end_here, ends_from, ends_to}
use Rattle.drawing.proofs.Placed.{ends_of, ends_at}

-- neither of two numbers is an end
abbrev Avoids : Chord → ℕ → ℕ → Type 0
Avoids e u v = (e.from ≢ u) × (e.to ≢ u) × (e.from ≢ v) × (e.to ≢ v)

-- two neighbours lie on the same side of any other number
ltb_near : (u v y : ℕ) → (u ≡ suc v) ⊎ (v ≡ suc u) → y ≢ u → y ≢ v → ltb u y ≡ ltb v y
ltb_near u v y near a b = elim (cases_lt u y) [
  | inl l ↦ rw (lt-ltb u y l, lt-ltb v y (elim near [ inl q ↦ omega arith | inr q ↦ omega arith ])) refl
  | inr l ↦ rw (le-ltb u y l, le-ltb v y (elim near [ inl q ↦ omega arith | inr q ↦ omega arith ])) refl
]

-- and so beyond the same chords
beyond_near : (e : Chord) (u v : ℕ) → (u ≡ suc v) ⊎ (v ≡ suc u) → Avoids e u v → beyond e u ≡ beyond e v
beyond_near e u v (inl q) (a, b, c, f) = ap (beyond e) q ∙ beyond-suc e v c f
beyond_near e u v (inr q) (a, b, c, f) = sym (ap (beyond e) q ∙ beyond-suc e u a b)

-- two tests that agree with a third one agree
third : (b c f : Bool) → differ b c ≡ false → differ c f ≡ false → differ b f ≡ false
third true true true p q = refl
third true true false p q = q
third true false f p q = absurd (true_false p)
  where
    true_false : true ≡ false → ⊥
    true_false h = let z : bit true ≡ bit false = ap bit h in absurd (omega arith)
third false true f p q = absurd (true_false p)
  where
    true_false : true ≡ false → ⊥
    true_false h = let z : bit true ≡ bit false = ap bit h in absurd (omega arith)
third false false f p q = q

-- what crosses neither of two chords with neighbouring ends doesn't cross the chord between their other ends
crosses_joined : (e : Chord) (x u v y : ℕ) → (u ≡ suc v) ⊎ (v ≡ suc u) → Avoids e u v → crosses e (chord x u) ≡ false → crosses e (chord v y) ≡ false → crosses e (chord x y) ≡ false
crosses_joined e x u v y near free p q =
    third (beyond e x) (beyond e u) (beyond e y) p (subst (λ b. differ b (beyond e y) ≡ false) (sym (beyond_near e u v near free)) q)

-- four tests compared in pairs
swap_parts : (a b c f : Bool) → differ (differ a b) (differ c f) ≡ differ (differ a c) (differ b f)
swap_parts true true true true = refl
swap_parts true true true false = refl
swap_parts true true false true = refl
swap_parts true true false false = refl
swap_parts true false true true = refl
swap_parts true false true false = refl
swap_parts true false false true = refl
swap_parts true false false false = refl
swap_parts false true true true = refl
swap_parts false true true false = refl
swap_parts false true false true = refl
swap_parts false true false false = refl
swap_parts false false true true = refl
swap_parts false false true false = refl
swap_parts false false false true = refl
swap_parts false false false false = refl

-- and the other way about
joined_crosses : (e : Chord) (x u v y : ℕ) → (u ≡ suc v) ⊎ (v ≡ suc u) → Avoids e u v → crosses (chord x u) e ≡ false → crosses (chord v y) e ≡ false → crosses (chord x y) e ≡ false
joined_crosses e x u v y near free p q =
    let p' = sym (swap_parts (ltb x e.from) (ltb u e.from) (ltb x e.to) (ltb u e.to)) in
    let q' = sym (swap_parts (ltb v e.from) (ltb y e.from) (ltb v e.to) (ltb y e.to)) in
    let same : differ (ltb u e.from) (ltb u e.to) ≡ differ (ltb v e.from) (ltb v e.to)
    = rw (ltb_near u v e.from near free.0 free.2, ltb_near u v e.to near free.1 free.3) refl in
    swap_parts (ltb x e.from) (ltb y e.from) (ltb x e.to) (ltb y e.to)
    ∙ third (differ (ltb x e.from) (ltb x e.to)) (differ (ltb u e.from) (ltb u e.to)) (differ (ltb y e.from) (ltb y e.to))
    (p' ∙ p) (subst (λ b. differ b (differ (ltb y e.from) (ltb y e.to)) ≡ false) (sym same) (q' ∙ q))

module _ (x u v y a b : ℕ) (near : (u ≡ suc v) ⊎ (v ≡ suc u)) where
  -- the chord to the first neighbour
  abbrev first : Chord
  first = chord x u

  -- the chord of the turn
  abbrev turn : Chord
  turn = chord a b

  -- the chord from the second neighbour
  abbrev second : Chord
  second = chord v y

  -- the one chord in their place
  abbrev whole : Chord
  whole = chord x y

  -- what all chords pass, each part does
  all_parts : (p : Chord → Bool) (pre post : List Chord) → list_all p (pre ++ (first ∷ turn ∷ second ∷ post)) ≡ true
      → (list_all p pre ≡ true) × (p first ≡ true) × (p second ≡ true) × (list_all p post ≡ true)
  all_parts p [] post h =
      let r = and_parts (p first) (p turn && (p second && list_all p post)) h in
      let s = and_parts (p turn) (p second && list_all p post) r.1 in
      let t = and_parts (p second) (list_all p post) s.1 in
      (refl, r.0, t.0, t.1)
  all_parts p (c ∷ pre) post h =
      let r = and_parts (p c) (list_all p (pre ++ (first ∷ turn ∷ second ∷ post))) h in
      let s = all_parts p pre post r.1 in
      (and_from (p c) (list_all p pre) r.0 s.0, s.1, s.2, s.3)

  -- and the other way, with the one chord
  all_again : (p : Chord → Bool) (pre post : List Chord) → list_all p pre ≡ true → p whole ≡ true → list_all p post ≡ true → list_all p (pre ++ (whole ∷ post)) ≡ true
  all_again p [] post h w k = and_from (p whole) (list_all p post) w k
  all_again p (c ∷ pre) post h w k =
      let r = and_parts (p c) (list_all p pre) h in
      and_from (p c) (list_all p (pre ++ (whole ∷ post))) r.0 (all_again p pre post r.1 w k)

  -- the one chord crosses none of the chords after it
  whole_last : (post : List Chord) → ((e : Chord) → Mem e post → Avoids e u v) → list_all (λ e. not (crosses first e)) post ≡ true → list_all (λ e. not (crosses second e)) post ≡ true
      → list_all (λ e. not (crosses whole e)) post ≡ true
  whole_last [] free h k = refl
  whole_last (e ∷ post) free h k =
      let r = and_parts (not (crosses first e)) (list_all (λ e. not (crosses first e)) post) h in
      let s = and_parts (not (crosses second e)) (list_all (λ e. not (crosses second e)) post) k in
      and_from (not (crosses whole e)) (list_all (λ e. not (crosses whole e)) post)
      (ap not (joined_crosses e x u v y near (free e (inl refl)) (not-true _ r.0) (not-true _ s.0)))
      (whole_last post (λ e m. free e (inr m)) r.1 s.1)

  -- the two chords and the turn between them become one
  pub merged_uncrossed : (pre post : List Chord) → ((e : Chord) → Mem e (pre ++ post) → Avoids e u v)
      → no_two_cross (pre ++ (first ∷ turn ∷ second ∷ post)) ≡ true → no_two_cross (pre ++ (whole ∷ post)) ≡ true
  merged_uncrossed [] post free h =
      let r = and_parts (list_all (λ e. not (crosses first e)) (turn ∷ second ∷ post)) (no_two_cross (turn ∷ second ∷ post)) h in
      let f = and_parts (not (crosses first turn)) (list_all (λ e. not (crosses first e)) (second ∷ post)) r.0 in
      let g = and_parts (not (crosses first second)) (list_all (λ e. not (crosses first e)) post) f.1 in
      let s = and_parts (list_all (λ e. not (crosses turn e)) (second ∷ post)) (no_two_cross (second ∷ post)) r.1 in
      let t = and_parts (list_all (λ e. not (crosses second e)) post) (no_two_cross post) s.1 in
      and_from (list_all (λ e. not (crosses whole e)) post) (no_two_cross post) (whole_last post free g.1 t.0) t.1
  merged_uncrossed (c ∷ pre) post free h =
      let r = and_parts (list_all (λ e. not (crosses c e)) (pre ++ (first ∷ turn ∷ second ∷ post))) (no_two_cross (pre ++ (first ∷ turn ∷ second ∷ post))) h in
      let s = all_parts (λ e. not (crosses c e)) pre post r.0 in
      and_from (list_all (λ e. not (crosses c e)) (pre ++ (whole ∷ post))) (no_two_cross (pre ++ (whole ∷ post)))
      (all_again (λ e. not (crosses c e)) pre post s.0 (ap not (crosses_joined c x u v y near (free c (inl refl)) (not-true _ s.1) (not-true _ s.2))) s.3)
      (merged_uncrossed pre post (λ e m. free e (inr m)) r.1)

  -- the ends of all chords, part by part
  ends_parts : (n : ℕ) (pre post : List Chord) → ends_at (pre ++ (first ∷ turn ∷ second ∷ post)) n ≡ ends_of first n + ends_of turn n + ends_of second n + ends_at (pre ++ post) n
  ends_parts n [] post =
      omega (arith, sum_by-cons (λ c. ends_of c n) first (turn ∷ second ∷ post), sum_by-cons (λ c. ends_of c n) turn (second ∷ post), sum_by-cons (λ c. ends_of c n) second post)
  ends_parts n (c ∷ pre) post =
      omega (arith, sum_by-cons (λ c. ends_of c n) c (pre ++ (first ∷ turn ∷ second ∷ post)), sum_by-cons (λ c. ends_of c n) c (pre ++ post), ends_parts n pre post)

  -- the other chords don't end where these two did
  pub others_avoid : (pre post : List Chord) → ((n : ℕ) → ends_at (pre ++ (first ∷ turn ∷ second ∷ post)) n ≤ 1) → (e : Chord) → Mem e (pre ++ post) → Avoids e u v
  others_avoid pre post once e m =
      let a = end_here e u (omega (arith, ends_parts u pre post, ends_to first, once u, member_adds (λ c. ends_of c u) e (pre ++ post) m)) in
      let b = end_here e v (omega (arith, ends_parts v pre post, ends_from second, once v, member_adds (λ c. ends_of c v) e (pre ++ post) m)) in
      (a.0, a.1, b.0, b.1)
