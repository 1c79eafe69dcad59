-- Where places are right one strand passes through each point, and how its table is filled.
use Rattle.std.proofs.Common.{◌≡◌, ℕ, ◌+◌, ◌-◌, ◌<◌, ◌≤◌, Bool, true, false, cond, eqb, ◌||◌, List, [], ◌∷◌, length, get_or, set, take, refl, sym, ◌∙◌, ap, ap₂, subst, arith, inl, inr, ◌≢◌}
use Rattle.std.specs.List.{list_any, sum_by}
use Rattle.std.proofs.lemmas.Bool.{cases_Bool, cases_eq, eq-eqb, ne_eqb, false≢true}
use Rattle.std.proofs.lemmas.List.{get_or-set_same, get_or-set_other, length-set}
use Rattle.std.proofs.lemmas.List.Folds.{list_any_more}
use Rattle.obd_base.specs.Lists.{below, Mem}
use Rattle.obd_base.specs.declared.points.Exit.{Exit}
use Rattle.obd_base.proofs.lists.Below.{below_mem, bit, mem_below}
use Rattle.obd_base.proofs.lists.Sums.{member_adds, members_add, some_adds, sum_rows, sum_same}
use Rattle.page_surface.specs.Drawing.{Drawing, IsPlaced, all_exits, entry, is_at, offset, points_on, spot, stands_at, strand_exits}
use Rattle.page_surface.specs.Polygon.{arc_count, partner, sides}
use Rattle.drawing.specs.Pieces.{span_count}
use Rattle.drawing.specs.Strands.{IsStrandTable, meets, passes, strand_at}
use Rattle.drawing.proofs.Lists.{first_is, mem_at, mem_row}
use Rattle.drawing.proofs.Placed.{exit_at, exit_stands, inside, place_in-placed, same_count-placed, side_in-placed, spot_test}

-- a member that passes is found
pub any_of : {X : Type 0} (p : X → Bool) (x : X) (xs : List X) → Mem x xs → p x ≡ true → list_any p xs ≡ true
any_of p x [] m h = absurd m
any_of p x (y ∷ xs) (inl e) h = let k : p y ≡ true = ap p (sym e) ∙ h in rw k refl
any_of p x (y ∷ xs) (inr m) h = elim (cases_Bool (p y)) [ inl k ↦ rw k refl | inr k ↦ rw k (any_of p x xs m h) ]

-- and what is found is a member
pub any_found : {X : Type 0} (p : X → Bool) (xs : List X) → list_any p xs ≡ true → (x : X) × Mem x xs × (p x ≡ true)
any_found p [] h = absurd (false≢true h)
any_found p (y ∷ xs) h = elim (cases_Bool (p y)) [
  | inl k ↦ (y, inl refl, k)
  | inr k ↦ (let r : list_any p xs ≡ true = rw k at h in let (x, m, q) = any_found p xs r in (x, inr m, q))
]

-- tests that agree on the members
any_same : {X : Type 0} (p q : X → Bool) (xs : List X) → ((x : X) → Mem x xs → p x ≡ q x) → list_any p xs ≡ list_any q xs
any_same p q [] h = refl
any_same p q (x ∷ xs) h = rw (h x (inl refl), any_same p q xs (λ y m. h y (inr m))) refl

-- one of two tests, counted
either_counts : (a b : Bool) → (a || b) ≡ true → bit a + bit b ≢ 0
either_counts true b h e = absurd (omega arith)
either_counts false true h e = absurd (omega arith)
either_counts false false h e = absurd (false≢true h)

counts_either : (a b : Bool) → bit a + bit b ≢ 0 → (a || b) ≡ true
counts_either true b h = refl
counts_either false true h = refl
counts_either false false h = absurd (h refl)

-- the table of the first strands
pub record IsSetBelow (d : Drawing) (n : ℕ) (table : List ℕ) : Type 0 where
  pub size : length table ≡ span_count d
  pub each : (i k j : ℕ) → i < n → k < sides d.polygon → j < points_on d k → meets d (strand_exits d i) (offset d k + j) ≡ true → get_or table (offset d k + j) 0 ≡ i

module _ (d : Drawing) (ok : IsPlaced d) where
  -- an exit of a strand is one of all
  pub of_strand : (i : ℕ) (e : Exit) → Mem e (strand_exits d i) → Mem e (all_exits d)
  of_strand i e m = mem_row d.strands i e m

  -- where it and its entry stand
  pub exit_there : (i n : ℕ) (e : Exit) (exits : List Exit) → exits ≡ strand_exits d i → n < length exits → e ≡ get_or exits n e
      → (e.side < sides d.polygon) × (e.place < points_on d e.side)
  exit_there i n e exits is l read =
      let m = of_strand i e (subst (λ (xs : List Exit). Mem e xs) is (mem_at exits n e l read)) in
      (side_in-placed d ok e m, place_in-placed d ok e m)

  -- and its entry
  pub entry_there : (e x : Exit) → (e.side < sides d.polygon) × (e.place < points_on d e.side) → x ≡ entry d e → (x.side < sides d.polygon) × (x.place < points_on d x.side)
  entry_there e x h is =
      let there : (partner d.polygon e.side < sides d.polygon) × (points_on d e.side - 1 - e.place < points_on d (partner d.polygon e.side))
      = (ok.polygon.pairs.in_range _ h.0, omega (arith, h, same_count-placed d ok e.side)) in
      subst (λ (y : Exit). (y.side < sides d.polygon) × (y.place < points_on d y.side)) (sym is) there

  -- how often the exits and entries of a strand have a number
  abbrev at_strand : ℕ → ℕ → ℕ
  at_strand x i = sum_by (exit_at d x) (strand_exits d i)

  -- a strand meets a point's number where it passes through the point
  meets_passes : (i k j : ℕ) → j < points_on d k → meets d (strand_exits d i) (offset d k + j) ≡ passes d k j i
  meets_passes i k j l =
      any_same (λ e. eqb (spot d e) (offset d k + j) || eqb (spot d (entry d e)) (offset d k + j)) (λ e. is_at e k j || is_at (entry d e) k j) (strand_exits d i) (λ e m.
      let p = place_in-placed d ok e (of_strand i e m) in
      ap₂ (λ a b. a || b) (spot_test d e.side e.place k j (omega arith) (omega arith))
      (spot_test d (partner d.polygon e.side) (points_on d e.side - 1 - e.place) k j (omega (arith, same_count-placed d ok e.side)) (omega arith)))

  -- at each point it is met once
  one_there : (k j : ℕ) → k < sides d.polygon → j < points_on d k → sum_by (at_strand (offset d k + j)) (below (arc_count d.polygon)) ≡ 1
  one_there k j lk lj =
      sum_rows (exit_at d (offset d k + j)) d.strands (arc_count d.polygon) ok.strand_count
      ∙ (sum_same (exit_at d (offset d k + j)) (λ e. stands_at d e k j) (all_exits d) (λ e m. exit_stands d ok.polygon k j lj e (place_in-placed d ok e m))
      ∙ ok.places k lk j lj)

  -- a strand that meets a number has an exit or entry there
  meeting_counts : (i x : ℕ) → meets d (strand_exits d i) x ≡ true → at_strand x i ≢ 0
  meeting_counts i x h =
      let (e, m, t) = any_found (λ e. eqb (spot d e) x || eqb (spot d (entry d e)) x) (strand_exits d i) h in
      λ z. absurd (let a = member_adds (exit_at d x) e (strand_exits d i) m in let b = either_counts (eqb (spot d e) x) (eqb (spot d (entry d e)) x) t in b (omega (arith, a, z)))

  -- and the other way
  counting_meets : (i x : ℕ) → at_strand x i ≢ 0 → meets d (strand_exits d i) x ≡ true
  counting_meets i x h =
      let (e, m, t) = some_adds (exit_at d x) (strand_exits d i) h in
      any_of (λ e. eqb (spot d e) x || eqb (spot d (entry d e)) x) e (strand_exits d i) m (counts_either (eqb (spot d e) x) (eqb (spot d (entry d e)) x) t)

  -- two strands that meet one point are one
  pub one_strand : (i l k j : ℕ) → i < arc_count d.polygon → l < arc_count d.polygon → k < sides d.polygon → j < points_on d k
      → meets d (strand_exits d i) (offset d k + j) ≡ true → meets d (strand_exits d l) (offset d k + j) ≡ true → i ≡ l
  one_strand i l k j hi hl lk lj a b = elim (cases_eq i l) [
    | inl e ↦ e
    | inr ne ↦
        let x = offset d k + j in
        let both = members_add (at_strand x) i l (below (arc_count d.polygon)) (below_mem _ i hi) (below_mem _ l hl) ne in
        let one = meeting_counts i x a in
        let other = meeting_counts l x b in
        absurd (one (elim (cases_eq (at_strand x i) 0) [ inl z ↦ z | inr n ↦ absurd (other (omega (arith, both, n, one_there k j lk lj))) ]))
  ]

  -- some strand meets each point
  pub some_strand : (k j : ℕ) → k < sides d.polygon → j < points_on d k → (i : ℕ) × (i < arc_count d.polygon) × (meets d (strand_exits d i) (offset d k + j) ≡ true)
  some_strand k j lk lj =
      let x = offset d k + j in
      let one = one_there k j lk lj in
      let (i, m, n) = some_adds (at_strand x) (below (arc_count d.polygon)) (λ z. absurd (omega (arith, z, one))) in
      (i, mem_below _ i m, counting_meets i x n)

  -- the strand at a point is the one that meets it
  pub strand_there : (i k j : ℕ) → i < arc_count d.polygon → k < sides d.polygon → j < points_on d k → meets d (strand_exits d i) (offset d k + j) ≡ true → strand_at d k j ≡ i
  strand_there i k j l lk lj h =
      first_is (passes d k j) (arc_count d.polygon) i l (sym (meets_passes i k j lj) ∙ h) (λ t lt. elim (cases_Bool (passes d k j t)) [
        | inl p ↦ absurd (let e = one_strand t i k j (omega arith) l lk lj (meets_passes t k j lj ∙ p) h in omega (arith, e, lt))
        | inr p ↦ p
      ])

  -- one strand more
  set_more : (n : ℕ) (old new : List ℕ) → n < arc_count d.polygon → IsSetBelow d n old → length new ≡ length old
      → ((x : ℕ) → x < span_count d → get_or new x 0 ≡ cond (meets d (strand_exits d n) x) n (get_or old x 0)) → IsSetBelow d (n + 1) new
  set_more n old new l h size more = record {
    size = size ∙ h.size;
    each = λ i k j li lk lj m.
        let x = offset d k + j in
        let step = more x (inside d ok k j lk (omega arith)) in
        elim (cases_Bool (meets d (strand_exits d n) x)) [
          | inl t ↦ step ∙ (rw t (one_strand n i k j l (omega arith) lk lj t m))
          | inr f ↦ step ∙ (rw f (h.each i k j (elim (cases_eq i n) [ inl e ↦ absurd (false≢true (sym f ∙ subst (λ (z : ℕ). meets d (strand_exits d z) x ≡ true) e m)) | inr ne ↦ omega arith ]) lk lj m))
        ];
  }

  -- the same of the number that the code has
  pub set_next : (n s : ℕ) (old new : List ℕ) → n < arc_count d.polygon → s ≡ n → length new ≡ length old → IsSetBelow d n old
      → ((x : ℕ) → x < span_count d → get_or new x 0 ≡ cond (meets d (strand_exits d s) x) s (get_or old x 0)) → IsSetBelow d (n + 1) new
  set_next n s old new l same size h step =
      set_more n old new l h size (subst (λ (i : ℕ). (x : ℕ) → x < span_count d → get_or new x 0 ≡ cond (meets d (strand_exits d i) x) i (get_or old x 0)) same step)

  -- the table of all strands
  pub set_all : (n : ℕ) (table : List ℕ) → arc_count d.polygon ≤ n → IsSetBelow d n table → IsStrandTable d table
  set_all n table e h = record {
    size = h.size;
    each = λ k j lk lj. let (i, l, m) = some_strand k j lk lj in h.each i k j (omega arith) lk lj m ∙ sym (strand_there i k j l lk lj m);
  }

-- a table where a strand is set at an exit and its entry
pub set_both : (d : Drawing) (exits : List Exit) (i : ℕ) (e : Exit) (strand a b : ℕ) (start table : List ℕ) → i < length exits → e ≡ get_or exits i e
    → a ≡ spot d e → b ≡ spot d (entry d e)
    → ((x : ℕ) → x < length start → get_or table x 0 ≡ cond (meets d (take i exits) x) strand (get_or start x 0))
    → length table ≡ length start
    → (x : ℕ) → x < length start → get_or (set (set table a strand) b strand) x 0 ≡ cond (meets d (take (i + 1) exits) x) strand (get_or start x 0)
set_both d exits i e strand a b start table l is at back so_far size x lx =
    let more = list_any_more (λ (e : Exit). eqb (spot d e) x || eqb (spot d (entry d e)) x) exits i e l in
    let here : (eqb (spot d (get_or exits i e)) x || eqb (spot d (entry d (get_or exits i e))) x) ≡ (eqb a x || eqb b x)
    = ap (λ (y : Exit). eqb (spot d y) x || eqb (spot d (entry d y)) x) (sym is) ∙ ap₂ (λ (p q : ℕ). eqb p x || eqb q x) (sym at) (sym back) in
    let goal : get_or (set (set table a strand) b strand) x 0 ≡ cond (meets d (take i exits) x || (eqb a x || eqb b x)) strand (get_or start x 0) =
    elim (cases_eq b x) [
      | inl q ↦ subst (λ (y : ℕ). get_or (set (set table a strand) b strand) y 0 ≡ cond (meets d (take i exits) x || (eqb a x || eqb b x)) strand (get_or start x 0)) q
          (get_or-set_same (set table a strand) b strand 0 (omega (arith, length-set table a strand, size, q)) ∙ sym (rw (eq-eqb b x q) (late (meets d (take i exits) x) (eqb a x))))
      | inr n ↦ get_or-set_other (set table a strand) b x strand 0 (λ q. n (sym q)) ∙ elim (cases_eq a x) [
        | inl q ↦ subst (λ (y : ℕ). get_or (set table a strand) y 0 ≡ cond (meets d (take i exits) x || (eqb a x || eqb b x)) strand (get_or start x 0)) q
            (get_or-set_same table a strand 0 (omega (arith, size, q)) ∙ sym (rw (eq-eqb a x q) (mid (meets d (take i exits) x))))
        | inr k ↦ get_or-set_other table a x strand 0 (λ q. k (sym q)) ∙ (so_far x lx ∙ sym (rw (ne_eqb a x k, ne_eqb b x n) (none (meets d (take i exits) x))))
      ]
    ] in
    goal ∙ ap (λ (t : Bool). cond t strand (get_or start x 0)) (ap (λ (t : Bool). meets d (take i exits) x || t) (sym here) ∙ sym more)
  where
    late : (m c : Bool) → cond (m || (c || true)) strand (get_or start x 0) ≡ strand
    late true c = refl
    late false true = refl
    late false false = refl

    mid : (m : Bool) → cond (m || true) strand (get_or start x 0) ≡ strand
    mid true = refl
    mid false = refl

    none : (m : Bool) → cond (m || (false || false)) strand (get_or start x 0) ≡ cond m strand (get_or start x 0)
    none true = refl
    none false = refl
