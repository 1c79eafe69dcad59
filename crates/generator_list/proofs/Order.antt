-- All lists and generators come in lexicographic order.
use Rattle.std.proofs.Common.{◌≡◌, ℕ, zero, suc, ◌+◌, Bool, true, false, cond, List, [], ◌∷◌, ◌++◌, map, refl, sym, subst, arith, inl, inr, filter}
use Rattle.std.specs.List.{flat_map, range_with_len}
use Rattle.obd_base.specs.Lists.{below, Mem}
use Rattle.page_surface.specs.Polygon.{arc_count}
use Rattle.page_surface.specs.Drawing.{Drawing}
use Rattle.drawing.specs.Points.{all_lists, is_generator, generators, crossings_of}
use Rattle.obd_base.proofs.lists.Members.{mem_append, mem_map, mem_filter}
use Rattle.generator_list.specs.Packed.{Before, InOrder}
use Rattle.obd_base.proofs.lists.Below.{mem_range}

in_order_append : (xs ys : List (List ℕ)) → InOrder xs → InOrder ys → ((x y : List ℕ) → Mem x xs → Mem y ys → Before x y) → InOrder (xs ++ ys)
in_order_append [] ys o q h = q
in_order_append (x ∷ xs) ys o q h =
    (λ y m. elim (mem_append y xs ys m) [ inl k ↦ o.0 y k | inr k ↦ h x y (inl refl) k ], in_order_append xs ys o.1 q (λ w y m n. h w y (inr m) n))

in_order_cons : (j : ℕ) (rs : List (List ℕ)) → InOrder rs → InOrder (map (λ r. j ∷ r) rs)
in_order_cons j [] o = tt
in_order_cons j (r ∷ rs) o =
    (λ y m. let (w, k, e) = mem_map (λ r. j ∷ r) y rs m in subst (λ z. Before (j ∷ r) z) (sym e) (inr (refl, o.0 w k)), in_order_cons j rs o.1)

mem_blocks : (rest : List (List ℕ)) (r : List ℕ) (js : List ℕ) → Mem r (flat_map (λ j. map (λ w. j ∷ w) rest) js) → (j : ℕ) × Mem j js × ((w : List ℕ) × Mem w rest × (r ≡ j ∷ w))
mem_blocks rest r [] m = absurd m
mem_blocks rest r (j ∷ js) m = elim (mem_append r (map (λ w. j ∷ w) rest) _ m) [
  | inl k ↦ (j, inl refl, mem_map (λ w. j ∷ w) r rest k)
  | inr k ↦ let (i, l, more) = mem_blocks rest r js k in (i, inr l, more)
]

in_order_blocks : (rest : List (List ℕ)) (a n : ℕ) → InOrder rest → InOrder (flat_map (λ j. map (λ r. j ∷ r) rest) (range_with_len a n))
in_order_blocks rest a zero o = tt
in_order_blocks rest a (suc n) o =
    in_order_append (map (λ r. a ∷ r) rest) _ (in_order_cons a rest o) (in_order_blocks rest (a + 1) n o)
    (λ x y m k.
    let (w, i, e) = mem_map (λ r. a ∷ r) x rest m in
    let (j, l, (u, v, f)) = mem_blocks rest y (range_with_len (a + 1) n) k in
    let r = mem_range (a + 1) n j l in
    subst (λ z. Before z y) (sym e) (subst (λ z. Before (a ∷ w) z) (sym f) (inl (omega arith))))

pub all_lists_in_order : (ms : List ℕ) → InOrder (all_lists ms)
all_lists_in_order [] = (λ y m. absurd m, tt)
all_lists_in_order (m ∷ ms) = in_order_blocks (all_lists ms) 0 (suc m) (all_lists_in_order ms)

pub in_order_filter : (p : List ℕ → Bool) (xs : List (List ℕ)) → InOrder xs → InOrder (filter p xs)
in_order_filter p [] o = tt
in_order_filter p (x ∷ xs) o = go (p x) (in_order_filter p xs o.1)
  where
    go : (b : Bool) → InOrder (filter p xs) → InOrder (cond b (x ∷ filter p xs) (filter p xs))
    go true q = (λ y m. o.0 y (mem_filter p y xs m).0, q)
    go false q = q

-- the generators in lexicographic order
pub generators_in_order : (d : Drawing) → InOrder (generators d)
generators_in_order d = in_order_filter (is_generator d) (all_lists (map (crossings_of d) (below (arc_count d.polygon)))) (all_lists_in_order (map (crossings_of d) (below (arc_count d.polygon))))
