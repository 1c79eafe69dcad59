-- 'The arcs that are left can meet the strands that are left' is a sound test for the generator search.
use Rattle.std.proofs.Common.{◌≡◌, ℕ, suc, ◌+◌, Bool, true, false, eqb, ◌&&◌, ◌||◌, not, List, [], ◌∷◌, ◌++◌, length, map, refl, sym, ◌∙◌, ap, subst, arith, inl, inr}
use Rattle.std.specs.List.{flat_map, list_any, enumerate_from}
use Rattle.std.proofs.lemmas.Bool.{true≢false, and_parts, and_from, eqb-true, eq-eqb, not-true, not_from_false, false_from_ne_true}
use Rattle.obd_base.specs.Lists.{below, has, Mem}
use Rattle.page_surface.specs.Drawing.{Drawing}
use Rattle.drawing.specs.Points.{all_lists, all_different, strand_of, is_generator, generators, crossings_of}
use Rattle.page_surface.specs.Polygon.{arc_count}
use Rattle.obd_base.proofs.lists.Members.{mem_append, mem_map}
use Rattle.generator_list.proofs.Members.{any_mem}
use Rattle.drawing.proofs.Lists.{mem_to_map}
use Rattle.generator_list.proofs.PrunedSearch.{IsSound, search_from, search_all}

-- the strands of the points r, the first on arc a
abbrev pub strands_from : (ℕ → ℕ → ℕ) → ℕ → List ℕ → List ℕ
strands_from strand a [] = []
strands_from strand a (j ∷ r) = strand a j ∷ strands_from strand (suc a) r

-- for each arc from a on the strands that have a point on it, by the arcs' last points
abbrev pub offers : (ℕ → ℕ → ℕ) → ℕ → List ℕ → List (List ℕ)
offers strand a [] = []
offers strand a (m ∷ ms) = map (strand a) (below (suc m)) ∷ offers strand (suc a) ms

-- the arcs can be given different strands that aren't used
abbrev pub can_meet : List (List ℕ) → List ℕ → Bool
can_meet [] used = true
can_meet (ss ∷ rest) used = list_any (λ s. not (has used s) && can_meet rest (s ∷ used)) ss

-- a beginning is kept where its strands are different and the arcs that are left can meet others
abbrev pub worth : (ℕ → ℕ → ℕ) → List ℕ → List ℕ → Bool
worth strand q ms = all_different (strands_from strand 0 q) && can_meet (offers strand (length q) ms) (strands_from strand 0 q)

-- none of the strands is used
abbrev AllNew : List ℕ → List ℕ → Type 0
AllNew used [] = Unit {0}
AllNew used (s ∷ ss) = (has used s ≡ false) × AllNew used ss

mem_flat : (ms : List ℕ) (r : List ℕ) (js : List ℕ) → Mem r (flat_map (λ j. map (λ w. j ∷ w) (all_lists ms)) js)
    → (j : ℕ) × Mem j js × ((w : List ℕ) × Mem w (all_lists ms) × (r ≡ j ∷ w))
mem_flat ms r [] m = absurd m
mem_flat ms r (j ∷ js) m = elim (mem_append r (map (λ w. j ∷ w) (all_lists ms)) _ m) [
  | inl k ↦ (j, inl refl, mem_map (λ w. j ∷ w) r (all_lists ms) k)
  | inr k ↦ let (i, l, rest) = mem_flat ms r js k in (i, inr l, rest)
]

-- a further strand that isn't in the list is still new
new_more : (used : List ℕ) (s : ℕ) (ss : List ℕ) → AllNew used ss → list_any (eqb s) ss ≡ false → AllNew (s ∷ used) ss
new_more used s [] n h = tt
new_more used s (t ∷ ss) n h = go (eqb s t) refl h (λ k. new_more used s ss n.1 k)
  where
    go : (b : Bool) → eqb s t ≡ b → (b || list_any (eqb s) ss) ≡ false → (list_any (eqb s) ss ≡ false → AllNew (s ∷ used) ss) → AllNew (s ∷ used) (t ∷ ss)
    go true e h ih = absurd (true≢false h)
    go false e h ih =
        let turned : eqb t s ≡ false = false_from_ne_true (eqb t s) (λ q. true≢false (sym (eq-eqb s t (sym (eqb-true t s q))) ∙ e)) in
        (rw (turned, n.0) refl, ih h)

-- a completion with different new strands shows that the arcs can meet them
pub met_by : (strand : ℕ → ℕ → ℕ) (a : ℕ) (ms r used : List ℕ) → Mem r (all_lists ms) → all_different (strands_from strand a r) ≡ true → AllNew used (strands_from strand a r)
    → can_meet (offers strand a ms) used ≡ true
met_by strand a [] r used m h n = refl
met_by strand a (k ∷ ms) r used m h n =
    let (j, l, (w, i, e)) = mem_flat ms r (below (suc k)) m in
    let h2 : all_different (strand a j ∷ strands_from strand (suc a) w) ≡ true = subst (λ z. all_different (strands_from strand a z) ≡ true) e h in
    let n2 : AllNew used (strand a j ∷ strands_from strand (suc a) w) = subst (λ z. AllNew used (strands_from strand a z)) e n in
    let (p, q) = and_parts (not (list_any (eqb (strand a j)) (strands_from strand (suc a) w))) (all_different (strands_from strand (suc a) w)) h2 in
    any_mem (λ s. not (has used s) && can_meet (offers strand (suc a) ms) (s ∷ used)) (strand a j) (map (strand a) (below (suc k))) (mem_to_map (strand a) j (below (suc k)) l)
    (and_from (not (has used (strand a j))) _ (not_from_false (has used (strand a j)) n2.0)
    (met_by strand (suc a) ms w (strand a j ∷ used) i q (new_more used (strand a j) (strands_from strand (suc a) w) n2.1 (not-true _ p))))

pub strands_append : (strand : ℕ → ℕ → ℕ) (a : ℕ) (q r : List ℕ) → strands_from strand a (q ++ r) ≡ strands_from strand a q ++ strands_from strand (a + length q) r
strands_append strand a [] r = let e : a + 0 ≡ a = omega arith in rw e refl
strands_append strand a (j ∷ q) r = let e : suc a + length q ≡ a + suc (length q) = omega arith in ap (λ w. strand a j ∷ w) (strands_append strand (suc a) q r ∙ rw e refl)

any_append : (p : ℕ → Bool) (xs ys : List ℕ) → list_any p (xs ++ ys) ≡ false → (list_any p xs ≡ false) × (list_any p ys ≡ false)
any_append p [] ys h = (refl, h)
any_append p (x ∷ xs) ys h = go (p x) h (any_append p xs ys)
  where
    go : (b : Bool) → (b || list_any p (xs ++ ys)) ≡ false → (list_any p (xs ++ ys) ≡ false → (list_any p xs ≡ false) × (list_any p ys ≡ false))
        → ((b || list_any p xs) ≡ false) × (list_any p ys ≡ false)
    go true h ih = absurd (true≢false h)
    go false h ih = ih h

-- different numbers in a list: in its parts, and the second part has none of the first
different_parts : (xs ys : List ℕ) → all_different (xs ++ ys) ≡ true → (all_different xs ≡ true) × (all_different ys ≡ true) × AllNew xs ys
different_parts [] ys h = (refl, h, none_used ys)
  where
    none_used : (ys : List ℕ) → AllNew [] ys
    none_used [] = tt
    none_used (y ∷ ys) = (refl, none_used ys)
different_parts (x ∷ xs) ys h =
    let (p, q) = and_parts (not (list_any (eqb x) (xs ++ ys))) (all_different (xs ++ ys)) h in
    let (a, b) = any_append (eqb x) xs ys (not-true _ p) in
    let (c, d, n) = different_parts xs ys q in
    (and_from (not (list_any (eqb x) xs)) _ (not_from_false _ a) c, d, new_more xs x ys n b)

-- the test is sound for the lists with different strands
pub worth_sound : (strand : ℕ → ℕ → ℕ) → IsSound (worth strand) (λ y. all_different (strands_from strand 0 y))
worth_sound strand q ms h r m = false_from_ne_true (all_different (strands_from strand 0 (q ++ r))) (λ e.
    let e2 : all_different (strands_from strand 0 q ++ strands_from strand (length q) r) ≡ true =
    (let z : 0 + length q ≡ length q = omega arith in
    subst (λ w. all_different w ≡ true) (strands_append strand 0 q r ∙ ap (λ k. strands_from strand 0 q ++ strands_from strand k r) z) e) in
    let (a, b, n) = different_parts (strands_from strand 0 q) (strands_from strand (length q) r) e2 in
    true≢false (sym (and_from (all_different (strands_from strand 0 q)) _ a (met_by strand (length q) ms r (strands_from strand 0 q) m b n)) ∙ h))

pub strands_are : (d : Drawing) (a : ℕ) (y : List ℕ) → map (λ (e : ℕ × ℕ). strand_of d e.0 e.1) (enumerate_from a y) ≡ strands_from (strand_of d) a y
strands_are d a [] = refl
strands_are d a (j ∷ y) = let e : a + 1 ≡ suc a = omega arith in ap (λ w. strand_of d a j ∷ w) (rw e (strands_are d (suc a) y))

generator_test : (d : Drawing) (y : List ℕ) → is_generator d y ≡ all_different (strands_from (strand_of d) 0 y)
generator_test d y = ap all_different (strands_are d 0 y)

-- the test of a beginning, for a drawing
pub worth_for : (d : Drawing) → IsSound (worth (strand_of d)) (is_generator d)
worth_for d q ms h r m = generator_test d (q ++ r) ∙ worth_sound (strand_of d) q ms h r m

-- the search with this test lists the generators
pub search_generators : (d : Drawing) → search_from (worth (strand_of d)) (is_generator d) [] (map (crossings_of d) (below (arc_count d.polygon))) ≡ generators d
search_generators d = search_all (worth (strand_of d)) (is_generator d) (map (crossings_of d) (below (arc_count d.polygon))) (worth_for d)
