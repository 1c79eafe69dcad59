-- The test of beginnings is exact: each beginning that is kept goes on to a generator, so the search has no dead ends.
use Rattle.std.proofs.Common.{◌≡◌, ℕ, ◌+◌, ◌<◌, Bool, true, cond, eqb, ◌&&◌, ◌||◌, not, List, [], ◌∷◌, ◌++◌, length, ◌∙◌, sym, ap, arith, inl, inr}
use Rattle.std.specs.List.{enumerate_from, flat_map}
use Rattle.std.proofs.lemmas.Bool.{and_parts}
use Rattle.std.proofs.lemmas.List.{length-append}
use Rattle.obd_base.specs.Lists.{Mem}
use Rattle.generator_list.specs.Search.{chosen, goes_on, in_set, meets, with_strand}
use Rattle.generator_list.proofs.Branches.{from_point}
use Rattle.generator_list.proofs.Members.{mem_any}
use Rattle.generator_list.proofs.StrandSets.{set_with_test}

-- where the arcs that are left can be given different strands that aren't used, a generator is found
pub kept_has_end : (arcs : List (List ℕ)) (used : ℕ) (begun : List ℕ) → meets arcs (in_set used) ≡ true → 0 < length (chosen arcs used begun)
kept_has_end [] used begun h = omega arith
kept_has_end (ss ∷ rest) used begun h =
    let (s, m, e) = mem_any (λ s. not (in_set used s) && meets rest (λ k. eqb k s || in_set used k)) ss h in
    some_point 0 ss s m (ap (λ (f : ℕ → Bool). not (in_set used s) && meets rest f) (set_with_test used s) ∙ e) (λ w b k. kept_has_end rest w b k)
  where
    some_point : (k : ℕ) (xs : List ℕ) (s : ℕ) → Mem s xs → goes_on rest used s ≡ true → ((w : ℕ) (b : List ℕ) → meets rest (in_set w) ≡ true → 0 < length (chosen rest w b))
        → 0 < length (flat_map (from_point rest used begun) (enumerate_from k xs))
    some_point k [] s m g ih = absurd m
    some_point k (x ∷ xs) s (inl e) g ih =
        let here : goes_on rest used x ≡ true = ap (goes_on rest used) (sym e) ∙ g in
        let found : from_point rest used begun (k, x) ≡ chosen rest (with_strand used x) (begun ++ k ∷ []) = ap (λ b. cond b (chosen rest (with_strand used x) (begun ++ k ∷ [])) []) here in
        let (a, b) = and_parts (not (in_set used x)) (meets rest (in_set (with_strand used x))) here in
        let some = ih (with_strand used x) (begun ++ k ∷ []) b in
        let l = length-append (from_point rest used begun (k, x)) (flat_map (from_point rest used begun) (enumerate_from (k + 1) xs)) in
        let f = ap length found in
        omega (arith, some, l, f)
    some_point k (x ∷ xs) s (inr m) g ih =
        let some = some_point (k + 1) xs s m g ih in
        let l = length-append (from_point rest used begun (k, x)) (flat_map (from_point rest used begun) (enumerate_from (k + 1) xs)) in
        omega (arith, some, l)
