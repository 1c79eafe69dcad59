-- Flags of base pieces, and the names of the others, as code writes them one by one.
use Rattle.std.proofs.Common.{◌≡◌, ℕ, suc, ◌+◌, ◌<◌, Bool, true, false, cond, eqb, ◌||◌, List, [], ◌∷◌, ◌++◌, filter, map, length, get_or, set, refl, sym, ◌∙◌, ap, ap₂, subst, arith, inl, inr}
use Rattle.std.specs.List.{list_any}
use Rattle.std.proofs.lemmas.Bool.{cases_eq, eq-eqb, ne_eqb}
use Rattle.std.proofs.lemmas.List.{append-nil, get_or_default, get_or-set_other, get_or-set_same, length-set, map_push}
use Rattle.std.proofs.lemmas.List.Folds.{list_any-append}
use Rattle.obd_base.specs.Lists.{below}
use Rattle.obd_base.proofs.lists.Below.{below_push, filter_suc}
use Rattle.page_surface.specs.Drawing.{Drawing, offset}
use Rattle.page_surface.specs.Polygon.{sides}
use Rattle.drawing.specs.Layout.{offsets_of}
use Rattle.drawing.specs.Pieces.{gap, span_count}
use Rattle.drawing.proofs.Spots.{offset_rises, offset_suc}
use Rattle.region_table.specs.Table.{Region, region_in}
use Rattle.region_table.proofs.ChordTables.{start_read, starts_size}

module _ (d : Drawing) (starts : List ℕ) (is : starts ≡ offsets_of d) (k : ℕ) (l : k < sides d.polygon) where
  -- the next side begins after the gap of this one
  pub gap_read : get_or starts (k + 1) 0 ≡ gap d k + 1
  gap_read =
      let e : suc k ≡ k + 1 = omega arith in
      omega (arith, start_read d starts is (k + 1) (omega arith), ap (offset d) e, offset_suc d k)

  -- which is a span
  pub gap_inside : gap d k < span_count d
  gap_inside = omega (arith, offset_rises d k (sides d.polygon) l)

  pub next_side_known : k + 1 < length starts
  next_side_known = omega (arith, starts_size d starts is)

-- a value or a true one, a value or a false one
or_true : (b : Bool) → (b || true) ≡ true
or_true true = refl
or_true false = refl

or_false : (b : Bool) → (b || false) ≡ b
or_false true = refl
or_false false = refl

-- whether one of some numbers passes, or one more
any_push : (p : ℕ → Bool) (f : ℕ → ℕ) (n : ℕ) → list_any p (map f (below (n + 1))) ≡ (list_any p (map f (below n)) || p (f n))
any_push p f n =
    let e : n + 1 ≡ suc n = omega arith in
    ap (λ k. list_any p (map f (below k))) e
    ∙ (ap (λ xs. list_any p (map f xs)) (below_push n)
    ∙ (ap (list_any p) (map_push f (below n) n)
    ∙ (list_any-append p (map f (below n)) (f n ∷ []) ∙ ap (λ b. list_any p (map f (below n)) || b) (or_false (p (f n))))))

-- the name of one gap more is marked
pub mark_more : (name gap : ℕ → ℕ) (n at : ℕ) (bases : List Bool) → at ≡ name (gap n) → at < length bases
    → ((p : ℕ) → p < length bases → get_or bases p false ≡ list_any (λ g. eqb (name g) p) (map gap (below n)))
    → (p : ℕ) → p < length (set bases at true) → get_or (set bases at true) p false ≡ list_any (λ g. eqb (name g) p) (map gap (below (n + 1)))
mark_more name gap n at bases is fits marked p l =
    let lp : p < length bases = omega (arith, l, length-set bases at true) in
    let more = any_push (λ g. eqb (name g) p) gap n in
    elim (cases_eq p at) [
      | inl e ↦
          let here : get_or (set bases at true) p false ≡ true = subst (λ r. get_or (set bases at true) r false ≡ true) (sym e) (get_or-set_same bases at true false fits) in
          let met : eqb (name (gap n)) p ≡ true = eq-eqb (name (gap n)) p (sym (e ∙ is)) in
          here ∙ sym (more ∙ (ap (λ b. list_any (λ g. eqb (name g) p) (map gap (below n)) || b) met ∙ or_true _))
      | inr ne ↦
          let other : eqb (name (gap n)) p ≡ false = ne_eqb (name (gap n)) p (λ q. ne (sym q ∙ sym is)) in
          get_or-set_other bases at p true false ne ∙ (marked p lp ∙ sym (more ∙ (ap (λ b. list_any (λ g. eqb (name g) p) (map gap (below n)) || b) other ∙ or_false _)))
    ]

-- whether a piece is base, as it is read
pub region_read : (regions : List Region) (n : ℕ) (seen x : Region) → seen ≡ x → x ≡ get_or regions n x → n < length regions → seen.base ≡ (region_in regions n).base
region_read regions n seen x same is l = ap (λ (r : Region). r.base) (same ∙ (is ∙ get_or_default regions n x (record { base = false; first = 0; size = 0; distance = 0 }) l))

module _ (p : ℕ → Bool) (n : ℕ) where
  next_is : suc n ≡ n + 1
  next_is = omega arith

  -- a number that passes is put last
  pub passing_more : (x : ℕ) (old after : List ℕ) → old ≡ filter p (below n) → x ≡ n → p n ≡ true → after ≡ old ++ x ∷ [] → after ≡ filter p (below (n + 1))
  passing_more x old after so_far is pass grown =
      grown ∙ (ap₂ (λ xs y. xs ++ y ∷ []) so_far is
      ∙ sym (ap (λ k. filter p (below k)) (sym next_is) ∙ (filter_suc p n ∙ ap (λ b. filter p (below n) ++ cond b (n ∷ []) []) pass)))

  -- another is left out
  pub failing_more : (old : List ℕ) → old ≡ filter p (below n) → p n ≡ false → old ≡ filter p (below (n + 1))
  failing_more old so_far fail =
      so_far
      ∙ sym (ap (λ k. filter p (below k)) (sym next_is) ∙ (filter_suc p n ∙ (ap (λ b. filter p (below n) ++ cond b (n ∷ []) []) fail ∙ append-nil (filter p (below n)))))
