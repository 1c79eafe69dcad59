-- The search for the piece that is chosen, as code does it: over the names of pieces that aren't base.
use Rattle.std.proofs.Common.{◌≡◌, ℕ, zero, suc, ◌+◌, ◌<◌, ◌≤◌, Bool, true, false, eqb, not, List, [], ◌∷◌, ◌++◌, filter, map, take, length, get_or, refl, sym, ◌∙◌, ap, subst, arith, zero-add, inl, inr, ◌≢◌}
use Rattle.std.specs.Prelude.{IfNone, IfSome, Option, Some, None}
use Rattle.std.proofs.Math.Seq.{take-suc}
use Rattle.std.specs.List.{list_all, range_with_len}
use Rattle.std.proofs.lemmas.Bool.{cases_Bool, cases_lt, eq-eqb, eqb-true, false≢true, le-leb, lt-leb, ne_eqb, not-true}
use Rattle.std.proofs.lemmas.List.FromFn.{get_or-map-range_with_len}
use Rattle.obd_base.specs.Lists.{Mem}
use Rattle.obd_base.proofs.lists.Below.{mem_below, mem_range}
use Rattle.obd_base.proofs.lists.Members.{filter_mem, mem_append, mem_filter, mem_left, mem_right}
use Rattle.page_surface.specs.Drawing.{Drawing}
use Rattle.drawing.specs.Pieces.{badness, distance, inner_pieces, is_base, piece_of, piece_table, pieces, segments_in, span_count, spans}
use Rattle.drawing.proofs.Laws.{name_listed}
use Rattle.region_table.specs.Nice.{is_nice}
use Rattle.region_table.specs.Table.{name_at, region}
use Rattle.nice_plan.specs.Measured.{IsInner, IsMeasured, Measured, better, goes_before, home}
use Rattle.nice_plan.specs.Path.{bad_pieces, chosen, greatest}
use Rattle.nice_plan.proofs.ChosenPiece.{chosen_is}
use Rattle.nice_plan.proofs.MeasuredReads.{home_at, home_is, inner_at}
use Rattle.nice_plan.proofs.RaisedRows.{mem_take, take_whole}
use Rattle.nice_plan.proofs.GoesBefore.{after_numbers, before_numbers, before_then}

-- no number is less than one that stands before it
abbrev Rises : List ℕ → Type 0
Rises [] = Unit {0}
Rises (x ∷ xs) = ((y : ℕ) → Mem y xs → x ≤ y) × Rises xs

rises_range : (a n : ℕ) → Rises (range_with_len a n)
rises_range a zero = tt
rises_range a (suc n) = ((λ y m. let (l, h) = mem_range (a + 1) n y m in omega (arith, l)), rises_range (a + 1) n)

rises_filter : (p : ℕ → Bool) (xs : List ℕ) → Rises xs → Rises (filter p xs)
rises_filter p [] r = tt
rises_filter p (x ∷ xs) r = go (p x) refl (rises_filter p xs r.1)
  where
    go : (b : Bool) → p x ≡ b → Rises (filter p xs) → Rises (filter p (x ∷ xs))
    go true q rest = rw q ((λ y m. r.0 y (mem_filter p y xs m).0), rest)
    go false q rest = rw q rest

first_least : (xs : List ℕ) → Rises xs → (y : ℕ) → Mem y xs → get_or xs 0 0 ≤ y
first_least [] r y m = absurd m
first_least (x ∷ xs) r y (inl q) = omega (arith, q)
first_least (x ∷ xs) r y (inr m) = omega (arith, r.0 y m)

-- a test that all members pass
all_pass : (p : ℕ → Bool) (xs : List ℕ) → ((x : ℕ) → Mem x xs → p x ≡ true) → list_all p xs ≡ true
all_pass p [] h = refl
all_pass p (x ∷ xs) h = rw (h x (inl refl)) (all_pass p xs (λ y m. h y (inr m)))

-- and one that all pass each passes
each_passes : (p : ℕ → Bool) (xs : List ℕ) → list_all p xs ≡ true → (x : ℕ) → Mem x xs → p x ≡ true
each_passes p [] h x m = absurd m
each_passes p (y ∷ xs) h x m = go (p y) refl (λ k i. each_passes p xs k x i)
  where
    go : (b : Bool) → p y ≡ b → (list_all p xs ≡ true → Mem x xs → p x ≡ true) → p x ≡ true
    go false q ih = absurd (false≢true (rw q at h))
    go true q ih = elim m [ inl e ↦ ap p e ∙ q | inr i ↦ ih (rw q at h) i ]

-- a piece is named by its first span
piece_first : (d : Drawing) (s : ℕ) → Mem s (pieces d) → piece_of d s ≡ s
piece_first d s m =
    let (i, q) = mem_filter (λ s. eqb (get_or (piece_table d) s 0) s) s (spans d) m in
    sym (get_or-map-range_with_len (piece_of d) 0 (span_count d) s s 0 (mem_below (span_count d) s i) (zero-add s)) ∙ eqb-true _ _ q

-- the chosen piece comes first among those as far
chosen_first : (d : Drawing) (far : ℕ) → greatest (map (distance d) (bad_pieces d)) ≡ far → (s : ℕ) → Mem s (bad_pieces d) → distance d s ≡ far → chosen d ≤ s
chosen_first d far g s m e =
    let p : ℕ → Bool = λ s. eqb (distance d s) (greatest (map (distance d) (bad_pieces d))) in
    let r = rises_filter p (bad_pieces d) (rises_filter _ (inner_pieces d) (rises_filter _ (pieces d) (rises_filter _ (spans d) (rises_range 0 (span_count d))))) in
    first_least (filter p (bad_pieces d)) r s (filter_mem p s (bad_pieces d) m (eq-eqb _ _ (e ∙ sym g)))

-- what is chosen of some pieces: a bad one that none of the bad ones goes before, or nothing where none is bad
abbrev pub IsBest : Measured → List ℕ → Option ℕ → Type 0
IsBest m ps None = (p : ℕ) → Mem p ps → (region m.table p).size ≤ 2
IsBest m ps (Some b) = Mem b ps × (2 < (region m.table b).size) × ((p : ℕ) → Mem p ps → 2 < (region m.table p).size → goes_before m p b ≡ false)

-- of one piece more
best_new : (m : Measured) (ps : List ℕ) (p : ℕ) → 2 < (region m.table p).size → ((q : ℕ) → Mem q ps → 2 < (region m.table q).size → goes_before m q p ≡ false) → IsBest m (ps ++ (p ∷ [])) (Some p)
best_new m ps p l old = (mem_right p ps (p ∷ []) (inl refl), l, λ q i k. elim (mem_append q ps (p ∷ []) i) [ inl j ↦ old q j k | inr j ↦ elim j [ inl e ↦ itself q e | inr n ↦ absurd n ] ])
  where
    itself : (q : ℕ) → q ≡ p → goes_before m q p ≡ false
    itself q e = elim (cases_Bool (goes_before m q p)) [
      | inr z ↦ z
      | inl z ↦ absurd (let a = ap (λ x. (region m.table x).distance) e in let b = ap (home m) e in let w : ⊥ = omega (arith, before_numbers m q p z, a, b) in w)
    ]

best_old : (m : Measured) (ps : List ℕ) (p b : ℕ) → (2 < (region m.table p).size → goes_before m p b ≡ false) → IsBest m ps (Some b) → IsBest m (ps ++ (p ∷ [])) (Some b)
best_old m ps p b h w = (
  mem_left b ps (p ∷ []) w.0,
  w.1,
  λ q i k. elim (mem_append q ps (p ∷ []) i) [
    | inl j ↦ w.2 q j k
    | inr j ↦ elim j [ inl e ↦ (let z = ap (λ x. (region m.table x).size) e in subst (λ x. goes_before m x b ≡ false) (sym e) (h (omega (arith, z, k)))) | inr n ↦ absurd n ]
  ],
)

pub best_more : (m : Measured) (ps : List ℕ) (p : ℕ) (best : Option ℕ) → IsBest m ps best → IsBest m (ps ++ (p ∷ [])) (better m best p)
best_more m ps p None w = elim (cases_lt 2 (region m.table p).size) [
  | inl l ↦ rw (lt-leb (region m.table p).size 2 l) (best_new m ps p l (λ q j k. absurd (let z = w q j in let v : ⊥ = omega (arith, z, k) in v)))
  | inr l ↦ rw (le-leb (region m.table p).size 2 l) (λ q i. elim (mem_append q ps (p ∷ []) i) [ inl j ↦ w q j | inr j ↦ elim j [ inl e ↦ subst (λ x. (region m.table x).size ≤ 2) (sym e) l | inr n ↦ absurd n ] ])
]
best_more m ps p (Some b) w = elim (cases_lt 2 (region m.table p).size) [
  | inr l ↦ rw (le-leb (region m.table p).size 2 l) (best_old m ps p b (λ k. absurd (let v : ⊥ = omega (arith, l, k) in v)) w)
  | inl l ↦ elim (cases_Bool (goes_before m p b)) [
    | inl h ↦ rw (lt-leb (region m.table p).size 2 l, h) (best_new m ps p l (λ q j k. before_then m q p b h (w.2 q j k)))
    | inr h ↦ rw (lt-leb (region m.table p).size 2 l, h) (best_old m ps p b (λ k. h) w)
  ]
]

-- what is chosen so far is a piece that isn't base
pub best_inner : (m : Measured) → IsMeasured m.drawing m.table → (ps : List ℕ) (b : ℕ) → ((p : ℕ) → Mem p ps → Mem p m.table.inner) → IsBest m ps (Some b) → IsInner m b
best_inner m k ps b f w = let l = k.table.listed_inner b (f b w.0) in record { listed = l.0; inner = l.1 }

module _ (m : Measured) (k : IsMeasured m.drawing m.table) where
  -- a piece that isn't base, by its first span
  inner_named : (s : ℕ) → Mem s (inner_pieces m.drawing) → (p : ℕ) × Mem p m.table.inner × (home m p ≡ s) × ((region m.table p).size ≡ length (segments_in m.drawing s)) × ((region m.table p).distance ≡ distance m.drawing s)
  inner_named s i =
      let (j, h) = mem_filter (λ s. not (is_base m.drawing s)) s (pieces m.drawing) i in
      let l = mem_below (span_count m.drawing) s (mem_filter (λ s. eqb (get_or (piece_table m.drawing) s 0) s) s (spans m.drawing) j).0 in
      let p = name_at m.table s in
      let inner = inner_at m k s l (not-true _ h) p refl in
      let home_s : home m p ≡ s = home_at m k s l (not-true _ h) p refl ∙ piece_first m.drawing s j in
      let w = home_is m k p inner in
      (p, k.table.inner_listed p inner.listed inner.inner, home_s, w.size ∙ ap (λ x. length (segments_in m.drawing x)) home_s, w.distance ∙ ap (distance m.drawing) home_s)

  -- and the other way
  home_listed : (p : ℕ) → IsInner m p → Mem (home m p) (inner_pieces m.drawing)
  home_listed p i =
      let h = home_is m k p i in
      filter_mem (λ s. not (is_base m.drawing s)) (home m p) (pieces m.drawing) (subst (λ x. Mem x (pieces m.drawing)) h.first (name_listed m.drawing (home m p) h.inside)) (ap not h.inner)

  -- where none is bad the drawing is nice
  pub none_bad : IsBest m m.table.inner None → is_nice m.drawing ≡ true
  none_bad w = all_pass (λ s. eqb (badness m.drawing s) 0) (inner_pieces m.drawing) (λ s i.
      let (p, j, h, size, far) = inner_named s i in
      let l = w p j in
      eq-eqb (badness m.drawing s) 0 (omega (arith, l, size)))

  -- where one is bad it isn't
  pub some_bad : (b : ℕ) → IsBest m m.table.inner (Some b) → is_nice m.drawing ≡ false
  some_bad b w = elim (cases_Bool (is_nice m.drawing)) [
    | inr e ↦ e
    | inl e ↦
        (let l = k.table.listed_inner b w.0 in
        let i : IsInner m b = record { listed = l.0; inner = l.1 } in
        let z = eqb-true _ _ (each_passes (λ s. eqb (badness m.drawing s) 0) (inner_pieces m.drawing) e (home m b) (home_listed b i)) in
        absurd (let v : ⊥ = omega (arith, z, (home_is m k b i).size, w.1) in v))
  ]

  -- and the best is the chosen one
  pub best_chosen : (b : ℕ) → IsBest m m.table.inner (Some b) → home m b ≡ chosen m.drawing
  best_chosen b w =
      let bad = some_bad b w in
      let c = chosen_is m.drawing bad in
      let i = best_inner m k m.table.inner b (λ p j. j) w in
      let h = home_is m k b i in
      let listed = home_listed b i in
      let bad_home : badness m.drawing (home m b) ≢ 0 = λ z. let v : ⊥ = omega (arith, z, h.size, w.1) in v in
      let home_bad : Mem (home m b) (bad_pieces m.drawing) = filter_mem (λ s. not (eqb (badness m.drawing s) 0)) (home m b) (inner_pieces m.drawing) listed (ap not (ne_eqb (badness m.drawing (home m b)) 0 bad_home)) in
      let far = c.greatest (home m b) listed bad_home in
      let (p, j, home_p, size, distance_p) = inner_named (chosen m.drawing) c.listed in
      let not_small : 2 < (region m.table p).size = omega (arith, size, c.bad) in
      let order = after_numbers m p b (w.2 p j not_small) in
      let same : distance m.drawing (home m b) ≡ distance m.drawing (chosen m.drawing) = omega (arith, order, far, h.distance, distance_p) in
      let first = chosen_first m.drawing _ c.far (home m b) home_bad same in
      omega (arith, order, far, h.distance, distance_p, first, home_p)

  -- what is chosen of all, as an option
  pub chosen_nice : (best : Option ℕ) → IsBest m m.table.inner best → IfNone best (is_nice m.drawing ≡ true)
  chosen_nice None w = none_bad w
  chosen_nice (Some b) w = tt

  pub chosen_bad : (best : Option ℕ) → IsBest m m.table.inner best → IfSome best (λ _. is_nice m.drawing ≡ false)
  chosen_bad None w = tt
  chosen_bad (Some b) w = some_bad b w

  pub chosen_inner : (ps : List ℕ) (best : Option ℕ) → ((p : ℕ) → Mem p ps → Mem p m.table.inner) → IsBest m ps best → IfSome best (λ b. IsInner m b)
  chosen_inner ps None f w = tt
  chosen_inner ps (Some b) f w = best_inner m k ps b f w

  pub chosen_home : (best : Option ℕ) → IsBest m m.table.inner best → IfSome best (λ b. home m b ≡ chosen m.drawing)
  chosen_home None w = tt
  chosen_home (Some b) w = best_chosen b w

  -- all of the pieces that aren't base
  pub best_all : (inner : List ℕ) (n : ℕ) (best : Option ℕ) → inner ≡ m.table.inner → length inner ≤ n → IsBest m (take n inner) best → IsBest m m.table.inner best
  best_all inner n best e l w = subst (λ ps. IsBest m ps best) (take_whole inner n l ∙ e) w

  -- and a beginning of them
  pub part_inner : (inner : List ℕ) (n : ℕ) → inner ≡ m.table.inner → (p : ℕ) → Mem p (take n inner) → Mem p m.table.inner
  part_inner inner n e p i = subst (λ ps. Mem p ps) e (mem_take n inner p i)

-- one step of code
pub best_step : (m : Measured) (inner : List ℕ) (n p : ℕ) (best next : Option ℕ) → n < length inner → p ≡ get_or inner n p → next ≡ better m best p
    → IsBest m (take n inner) best → IsBest m (take (n + 1) inner) next
best_step m inner n p best next l is q w =
    let one : suc n ≡ n + 1 = omega arith in
    let e : take n inner ++ (p ∷ []) ≡ take (n + 1) inner = ap (λ x. take n inner ++ (x ∷ [])) is ∙ (sym (take-suc inner n p l) ∙ ap (λ k. take k inner) one) in
    subst (λ ps. IsBest m ps next) e (subst (λ b. IsBest m (take n inner ++ (p ∷ [])) b) (sym q) (best_more m (take n inner) p best w))
