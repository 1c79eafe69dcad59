-- The piece that a burst starts from: a bad piece of the greatest distance.
use Rattle.std.proofs.Common.{◌≡◌, ℕ, ◌<◌, ◌≤◌, Bool, true, false, eqb, not, List, [], ◌∷◌, map, filter, get_or, refl, sym, ◌∙◌, ap, arith, inl, inr, ◌≢◌}
use Rattle.std.specs.List.{list_all}
use Rattle.std.proofs.lemmas.Bool.{cases_lt, eqb-true, eq-eqb, ne_eqb, false≢true, true≢false, not-true}
use Rattle.obd_base.specs.Lists.{Mem}
use Rattle.obd_base.proofs.lists.Below.{mem_below}
use Rattle.obd_base.proofs.lists.Members.{filter_mem, mem_filter, mem_to_map}
use Rattle.page_surface.specs.Drawing.{Drawing}
use Rattle.drawing.specs.Pieces.{badness, distance, inner_pieces, is_base, piece_table, pieces, span_count, spans}
use Rattle.region_table.specs.Nice.{is_nice}
use Rattle.nice_plan.specs.Path.{bad_pieces, chosen, greatest}

-- a member that fails a test that doesn't pass for all
some_fails : (p : ℕ → Bool) (xs : List ℕ) → list_all p xs ≡ false → (x : ℕ) × Mem x xs × (p x ≡ false)
some_fails p [] h = absurd (true≢false h)
some_fails p (x ∷ xs) h = go (p x) refl (λ k. some_fails p xs k)
  where
    go : (b : Bool) → p x ≡ b → (list_all p xs ≡ false → (x : ℕ) × Mem x xs × (p x ≡ false)) → (y : ℕ) × Mem y (x ∷ xs) × (p y ≡ false)
    go true q ih = let (y, m, r) = ih (rw q at h) in (y, inr m, r)
    go false q ih = (x, inl refl, q)

-- no member is above the greatest
greatest_above : (xs : List ℕ) (x : ℕ) → Mem x xs → x ≤ greatest xs
greatest_above [] x m = absurd m
greatest_above (y ∷ xs) x (inl q) = omega (arith, q)
greatest_above (y ∷ xs) x (inr m) = omega (arith, greatest_above xs x m)

-- which one of them is
greatest_among : (f : ℕ → ℕ) (x : ℕ) (xs : List ℕ) → Mem x xs → (y : ℕ) × Mem y xs × (f y ≡ greatest (map f xs))
greatest_among f x [] m = absurd m
greatest_among f x (y ∷ []) m = (y, inl refl, omega arith)
greatest_among f x (y ∷ z ∷ xs) m =
    let (w, i, q) = greatest_among f z (z ∷ xs) (inl refl) in
    elim (cases_lt (f y) (f w)) [
      | inl l ↦ (w, inr i, omega (arith, q, l))
      | inr l ↦ (y, inl refl, omega (arith, q, l))
    ]

first_member : (xs : List ℕ) (x : ℕ) → Mem x xs → Mem (get_or xs 0 0) xs
first_member [] x m = absurd m
first_member (y ∷ xs) x m = inl refl

-- a bad piece that is not base, with none of the bad pieces farther
pub record IsChosen (d : Drawing) (s : ℕ) : Type 0 where
  pub inside : s < span_count d
  pub inner : is_base d s ≡ false
  pub listed : Mem s (inner_pieces d)
  pub far : greatest (map (distance d) (bad_pieces d)) ≡ distance d s
  pub bad : badness d s ≢ 0
  pub greatest : (r : ℕ) → Mem r (inner_pieces d) → badness d r ≢ 0 → distance d r ≤ distance d s

-- where the drawing isn't nice
pub chosen_is : (d : Drawing) → is_nice d ≡ false → IsChosen d (chosen d)
chosen_is d h =
    let (x, m, q) = some_fails (λ s. eqb (badness d s) 0) (inner_pieces d) h in
    let xb : Mem x (bad_pieces d) = filter_mem (λ s. not (eqb (badness d s) 0)) x (inner_pieces d) m (ap not q) in
    let (y, i, r) = greatest_among (distance d) x (bad_pieces d) xb in
    let ym = filter_mem (λ s. eqb (distance d s) (greatest (map (distance d) (bad_pieces d)))) y (bad_pieces d) i (eq-eqb _ _ r) in
    let c : Mem (chosen d) (filter (λ s. eqb (distance d s) (greatest (map (distance d) (bad_pieces d)))) (bad_pieces d)) = first_member _ y ym in
    let (cb, far) = mem_filter (λ s. eqb (distance d s) (greatest (map (distance d) (bad_pieces d)))) (chosen d) (bad_pieces d) c in
    let (ci, bad) = mem_filter (λ s. not (eqb (badness d s) 0)) (chosen d) (inner_pieces d) cb in
    let (cp, inner) = mem_filter (λ s. not (is_base d s)) (chosen d) (pieces d) ci in
    let (cs, named) = mem_filter (λ s. eqb (get_or (piece_table d) s 0) s) (chosen d) (spans d) cp in
    record {
      inside = mem_below (span_count d) (chosen d) cs;
      inner = not-true _ inner;
      listed = ci;
      far = sym (eqb-true _ _ far);
      bad = λ z. false≢true (sym (ap not (eq-eqb (badness d (chosen d)) 0 z)) ∙ bad);
      greatest = λ r m ne.
          let rb : Mem r (bad_pieces d) = filter_mem (λ s. not (eqb (badness d s) 0)) r (inner_pieces d) m (ap not (ne_eqb (badness d r) 0 ne)) in
          let l = greatest_above (map (distance d) (bad_pieces d)) (distance d r) (mem_to_map (distance d) r (bad_pieces d) rb) in
          let e = eqb-true _ _ far in
          omega (arith, l, e);
    }
