-- The list of generators holds the generators and no other lists of points, each once.
use Rattle.std.proofs.Common.{◌≡◌, ℕ, zero, suc, ◌+◌, ◌<◌, ◌≤◌, true, List, [], ◌∷◌, ◌++◌, map, filter, length, get_or, add-zero, append_assoc, le_refl, refl, sym, ◌∙◌, ap, subst, arith, zero-add, inl, inr}
use Rattle.std.specs.List.{flat_map}
use Rattle.std.proofs.lemmas.List.{length-map}
use Rattle.std.proofs.lemmas.List.FromFn.{get_or-map-range_with_len, length-range_with_len}
use Rattle.obd_base.specs.Lists.{Mem, Once, below}
use Rattle.obd_base.proofs.lists.Members.{filter_mem, mem_filter, mem_map, once_filter}
use Rattle.obd_base.proofs.lists.Parts.{once_append}
use Rattle.obd_base.proofs.lists.Below.{below_mem, below_push, mem_below, once_range}
use Rattle.page_surface.specs.Drawing.{Drawing}
use Rattle.page_surface.specs.Polygon.{arc_count}
use Rattle.drawing.specs.Points.{IsGenerator, all_lists, contact_generator, crossings_of, generators, is_generator, is_on, strand_of, strands_of}
use Rattle.std.specs.List.{enumerate_from, range_with_len}
use Rattle.std.proofs.lemmas.Bool.{eq-eqb, le-ltb, ne_eqb}
use Rattle.std.proofs.lemmas.List.{append-nil, map-append}
use Rattle.std.proofs.lemmas.List.Concat.{flat_map-append}
use Rattle.std.proofs.lemmas.List.Elements.{filter-append}
use Rattle.drawing.proofs.Lists.{first_is, flat_mem, mem_flat, mem_to_map}
use Rattle.drawing.proofs.Tests.{generator_from_test, test_from_generator, test_from_once}

-- one number for each bound, none above it
pub record IsBounded (bounds xs : List ℕ) : Type 0 where
  pub one_each : length xs ≡ length bounds
  pub in_range : (i : ℕ) → i < length bounds → get_or xs i 0 ≤ get_or bounds i 0

-- a listed list has one number up to each bound
pub bounded : (bounds xs : List ℕ) → Mem xs (all_lists bounds) → IsBounded bounds xs
bounded [] xs (inl e) = record { one_each = ap length e; in_range = λ i l. absurd (omega arith) }
bounded [] xs (inr m) = absurd m
bounded (b ∷ bounds) xs m =
    let (j, n, k) = flat_mem (λ j. map (λ list. j ∷ list) (all_lists bounds)) (below (suc b)) xs m in
    let (ys, i, e) = mem_map (λ list. j ∷ list) xs (all_lists bounds) k in
    step j ys (mem_below (suc b) j n) (bounded bounds ys i) e
  where
    step : (j : ℕ) (ys : List ℕ) → j < suc b → IsBounded bounds ys → xs ≡ j ∷ ys → IsBounded (b ∷ bounds) xs
    step j ys l ok e = subst (λ zs. IsBounded (b ∷ bounds) zs) (sym e) (record { one_each = ap suc ok.one_each; in_range = at })
      where
        at : (i : ℕ) → i < suc (length bounds) → get_or (j ∷ ys) i 0 ≤ get_or (b ∷ bounds) i 0
        at zero h = omega arith
        at (suc i) h = ok.in_range i (omega arith)

-- and each such list is listed
listed : (bounds xs : List ℕ) → IsBounded bounds xs → Mem xs (all_lists bounds)
listed [] [] ok = inl refl
listed [] (x ∷ xs) ok = absurd (let e = ok.one_each in omega arith)
listed (b ∷ bounds) [] ok = absurd (let e = ok.one_each in omega arith)
listed (b ∷ bounds) (x ∷ xs) ok =
    let e = ok.one_each in
    let z = ok.in_range 0 (omega arith) in
    let rest : IsBounded bounds xs = record { one_each = omega arith; in_range = λ i l. ok.in_range (suc i) (omega arith) } in
    mem_flat (λ j. map (λ list. j ∷ list) (all_lists bounds)) (below (suc b)) x (x ∷ xs) (below_mem (suc b) x (omega arith))
    (mem_to_map (λ list. x ∷ list) xs (all_lists bounds) (listed bounds xs rest))

-- there is one bound for each arc
pub bound_count : (d : Drawing) → length (map (crossings_of d) (below (arc_count d.polygon))) ≡ arc_count d.polygon
bound_count d = length-map (below (arc_count d.polygon)) (crossings_of d) ∙ length-range_with_len 0 (arc_count d.polygon)

-- each is that of its arc
pub bound_at : (d : Drawing) (a : ℕ) → a < arc_count d.polygon → get_or (map (crossings_of d) (below (arc_count d.polygon))) a 0 ≡ crossings_of d a
bound_at d a l = get_or-map-range_with_len (crossings_of d) 0 (arc_count d.polygon) a a 0 l (zero-add a)

-- a listed list of points is a generator
pub listed_is_generator : (d : Drawing) (points : List ℕ) → Mem points (generators d) → IsGenerator d points
listed_is_generator d points m =
    let r = mem_filter (is_generator d) points (all_lists (map (crossings_of d) (below (arc_count d.polygon)))) m in
    let ok = bounded (map (crossings_of d) (below (arc_count d.polygon))) points r.0 in
    generator_from_test d points (ok.one_each ∙ bound_count d)
    (λ a l. subst (λ b. get_or points a 0 ≤ b) (bound_at d a l) (ok.in_range a (subst (λ n. a < n) (sym (bound_count d)) l))) r.1

-- each generator is listed
pub generator_is_listed : (d : Drawing) (points : List ℕ) → IsGenerator d points → Mem points (generators d)
generator_is_listed d points ok =
    filter_mem (is_generator d) points (all_lists (map (crossings_of d) (below (arc_count d.polygon))))
    (listed (map (crossings_of d) (below (arc_count d.polygon))) points (record {
      one_each = ok.one_each ∙ sym (bound_count d);
      in_range = λ a l. let k : a < arc_count d.polygon = subst (λ n. a < n) (bound_count d) l in subst (λ b. get_or points a 0 ≤ b) (sym (bound_at d a k)) (ok.in_range a k);
    }))
    (test_from_generator d points ok)

-- lists that begin with one number are different where their ends are
once_begun : (x : ℕ) (ls : List (List ℕ)) → Once ls → Once (map (λ list. x ∷ list) ls)
once_begun x [] o = tt
once_begun x (s ∷ ls) o =
    (λ m. let (t, k, e) = mem_map (λ list. x ∷ list) (x ∷ s) ls m in o.0 (let q : s ≡ t = cc in subst (λ w. Mem w ls) (sym q) k), once_begun x ls o.1)

-- lists that begin with different numbers are different
once_joined : (xs : List ℕ) (ls : List (List ℕ)) → Once xs → Once ls → Once (flat_map (λ x. map (λ list. x ∷ list) ls) xs)
once_joined [] ls o q = tt
once_joined (x ∷ xs) ls o q =
    once_append (map (λ list. x ∷ list) ls) (flat_map (λ x. map (λ list. x ∷ list) ls) xs) (once_begun x ls q) (once_joined xs ls o.1 q)
    (λ z m n.
    let (s, i, e) = mem_map (λ list. x ∷ list) z ls m in
    let (y, j, k) = flat_mem (λ x. map (λ list. x ∷ list) ls) xs z n in
    let (t, h, f) = mem_map (λ list. y ∷ list) z ls k in
    o.0 (let r : x ≡ y = first x y s t (sym e ∙ f) in subst (λ w. Mem w xs) (sym r) j))
  where
    first : (x y : ℕ) (s t : List ℕ) → x ∷ s ≡ y ∷ t → x ≡ y
    first x y s t e = cc

-- no list is listed twice
once_lists : (bounds : List ℕ) → Once (all_lists bounds)
once_lists [] = (λ m. m, tt)
once_lists (b ∷ bounds) = once_joined (below (suc b)) (all_lists bounds) (once_range 0 (suc b)) (once_lists bounds)

-- no generator is listed twice
pub generators_once : (d : Drawing) → Once (generators d)
generators_once d =
    once_filter (is_generator d) (all_lists (map (crossings_of d) (below (arc_count d.polygon)))) (once_lists (map (crossings_of d) (below (arc_count d.polygon))))

-- of all lists up to some bounds the bounds come last
bounds_last : (bounds : List ℕ) → (before : List (List ℕ)) × (all_lists bounds ≡ before ++ bounds ∷ [])
bounds_last [] = ([], refl)
bounds_last (b ∷ bounds) =
    let (before, is) = bounds_last bounds in
    let begun = λ (j : ℕ). map (λ list. j ∷ list) (all_lists bounds) in
    let last : begun b ≡ map (λ list. b ∷ list) before ++ (b ∷ bounds) ∷ [] = ap (map (λ list. b ∷ list)) is ∙ map-append (λ list. b ∷ list) before (bounds ∷ []) in (
      flat_map begun (below b) ++ map (λ list. b ∷ list) before,
      ap (flat_map begun) (below_push b) ∙ (flat_map-append begun (below b) (b ∷ [])
          ∙ (ap (λ lists. flat_map begun (below b) ++ lists) (append-nil (begun b) ∙ last) ∙ sym (append_assoc (flat_map begun (below b)) (map (λ list. b ∷ list) before) ((b ∷ bounds) ∷ [])))),
    )

-- the contact point of an arc is on the arc's own strand
pub contact_on_own : (d : Drawing) (a : ℕ) → a < arc_count d.polygon → strand_of d a (crossings_of d a) ≡ a
contact_on_own d a l =
    first_is (λ i. is_on d i a (crossings_of d a)) (arc_count d.polygon) a l
    (rw (le-ltb (crossings_of d a) (crossings_of d a) (le_refl _)) (eq-eqb a a refl))
    (λ i h. rw (le-ltb (crossings_of d a) (crossings_of d a) (le_refl _)) (ne_eqb i a (λ e. omega arith)))

-- points on their arcs' own strands, on arcs that are counted from a number on
pub own_strands : (f : ℕ → ℕ → ℕ) (n : ℕ) (points : List ℕ) → ((i : ℕ) → i < length points → f (n + i) (get_or points i 0) ≡ n + i)
    → map (λ e. f e.0 e.1) (enumerate_from n points) ≡ range_with_len n (length points)
own_strands f n [] own = refl
own_strands f n (point ∷ points) own =
    let first : f n point ≡ n = (let z : f (n + 0) point ≡ n + 0 = own 0 (omega arith) in rw add-zero at z) in
    rw first (ap (λ strands. n ∷ strands) (own_strands f (n + 1) points (λ i l. shifted i (own (suc i) (omega arith)))))
  where
    shifted : (i : ℕ) → f (n + suc i) (get_or points i 0) ≡ n + suc i → f (n + 1 + i) (get_or points i 0) ≡ n + 1 + i
    shifted i own = let e : n + suc i ≡ n + 1 + i = omega arith in rw e at own

-- a listed list of points whose points are on their arcs' own strands passes
pub own_is_generator : (d : Drawing) (points : List ℕ) → length points ≡ arc_count d.polygon
    → ((a : ℕ) → a < arc_count d.polygon → strand_of d a (get_or points a 0) ≡ a) → is_generator d points ≡ true
own_is_generator d points one own =
    let strands : strands_of d points ≡ below (length points) = own_strands (strand_of d) 0 points (λ i l. rw (zero-add i) (own i (omega arith))) in
    rw strands (test_from_once (below (length points)) (once_range 0 (length points)))

-- of all generators the contact generator comes last
pub contact_comes_last : (d : Drawing) → (before : List (List ℕ)) × (generators d ≡ before ++ contact_generator d ∷ [])
contact_comes_last d =
    let bounds = contact_generator d in
    let (before, is) = bounds_last bounds in
    let passes : is_generator d bounds ≡ true = own_is_generator d bounds (bound_count d) (λ a l. ap (strand_of d a) (bound_at d a l) ∙ contact_on_own d a l) in
    (filter (is_generator d) before, ap (filter (is_generator d)) is ∙ (filter-append (is_generator d) before (bounds ∷ []) ∙ ap (λ kept. filter (is_generator d) before ++ kept) (rw passes refl)))
