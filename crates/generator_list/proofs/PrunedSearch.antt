-- A search that leaves beginnings which have no end lists the filter of all lists, in the same order.
use Rattle.std.proofs.Common.{◌≡◌, ℕ, suc, Bool, true, false, cond, List, [], ◌∷◌, ◌++◌, map, refl, sym, ◌∙◌, ap, inl, inr, append_assoc, filter}
use Rattle.std.specs.List.{flat_map}
use Rattle.std.proofs.lemmas.List.{append-nil}
use Rattle.std.proofs.lemmas.List.Elements.{filter-append}
use Rattle.obd_base.specs.Lists.{below, Mem}
use Rattle.drawing.specs.Points.{all_lists}
use Rattle.generator_list.proofs.Members.{none_pass}

-- the lists that go on from p and pass; a beginning that the test `keep` refuses is left
abbrev pub search_from : (List ℕ → List ℕ → Bool) → (List ℕ → Bool) → List ℕ → List ℕ → List (List ℕ)
search_from keep ok p [] = cond (ok p) (p ∷ []) []
search_from keep ok p (m ∷ ms) = flat_map (λ j. cond (keep (p ++ (j ∷ [])) ms) (search_from keep ok (p ++ (j ∷ [])) ms) []) (below (suc m))

-- a refused beginning has no end that passes
abbrev pub IsSound : (List ℕ → List ℕ → Bool) → (List ℕ → Bool) → Type 0
IsSound keep ok = (q ms : List ℕ) → keep q ms ≡ false → (r : List ℕ) → Mem r (all_lists ms) → ok (q ++ r) ≡ false

-- the lists with the beginning p
abbrev pub begun : List ℕ → List (List ℕ) → List (List ℕ)
begun p [] = []
begun p (r ∷ rs) = (p ++ r) ∷ begun p rs

begun_append : (p : List ℕ) (xs ys : List (List ℕ)) → begun p (xs ++ ys) ≡ begun p xs ++ begun p ys
begun_append p [] ys = refl
begun_append p (x ∷ xs) ys = ap (λ w. (p ++ x) ∷ w) (begun_append p xs ys)

begun_step : (p : List ℕ) (j : ℕ) (rs : List (List ℕ)) → begun (p ++ (j ∷ [])) rs ≡ begun p (map (λ r. j ∷ r) rs)
begun_step p j [] = refl
begun_step p j (r ∷ rs) = rw (append_assoc p (j ∷ []) r, begun_step p j rs) refl

begun_none : (rs : List (List ℕ)) → begun [] rs ≡ rs
begun_none [] = refl
begun_none (r ∷ rs) = ap (λ w. r ∷ w) (begun_none rs)

mem_begun : (p x : List ℕ) (rs : List (List ℕ)) → Mem x (begun p rs) → (r : List ℕ) × Mem r rs × (x ≡ p ++ r)
mem_begun p x [] m = absurd m
mem_begun p x (r ∷ rs) (inl e) = (r, inl refl, e)
mem_begun p x (r ∷ rs) (inr m) = let (s, k, e) = mem_begun p x rs m in (s, inr k, e)

-- the search lists the filter, in the same order
pub search_is : (keep : List ℕ → List ℕ → Bool) (ok : List ℕ → Bool) (p ms : List ℕ) → IsSound keep ok → search_from keep ok p ms ≡ filter ok (begun p (all_lists ms))
search_is keep ok p [] s = rw (append-nil p) refl
search_is keep ok p (m ∷ ms) s = go (below (suc m)) (λ q. search_is keep ok q ms s)
  where
    one : (j : ℕ) → (b : Bool) → keep (p ++ (j ∷ [])) ms ≡ b → search_from keep ok (p ++ (j ∷ [])) ms ≡ filter ok (begun (p ++ (j ∷ [])) (all_lists ms))
        → cond b (search_from keep ok (p ++ (j ∷ [])) ms) [] ≡ filter ok (begun p (map (λ r. j ∷ r) (all_lists ms)))
    one j true e ih = ih ∙ ap (filter ok) (begun_step p j (all_lists ms))
    one j false e ih = sym (none_pass ok (begun (p ++ (j ∷ [])) (all_lists ms))
        (λ x k. let (r, l, q) = mem_begun (p ++ (j ∷ [])) x (all_lists ms) k in ap ok q ∙ s (p ++ (j ∷ [])) ms e r l))
        ∙ ap (filter ok) (begun_step p j (all_lists ms))

    go : (js : List ℕ) → ((q : List ℕ) → search_from keep ok q ms ≡ filter ok (begun q (all_lists ms)))
        → flat_map (λ j. cond (keep (p ++ (j ∷ [])) ms) (search_from keep ok (p ++ (j ∷ [])) ms) []) js ≡ filter ok (begun p (flat_map (λ j. map (λ r. j ∷ r) (all_lists ms)) js))
    go [] ih = refl
    go (j ∷ js) ih =
        let here = one j (keep (p ++ (j ∷ [])) ms) refl (ih (p ++ (j ∷ []))) in
        let there = go js ih in
        let e : begun p (map (λ r. j ∷ r) (all_lists ms) ++ flat_map (λ j. map (λ r. j ∷ r) (all_lists ms)) js) ≡ begun p (map (λ r. j ∷ r) (all_lists ms)) ++ begun p (flat_map (λ j. map (λ r. j ∷ r) (all_lists ms)) js)
        = begun_append p (map (λ r. j ∷ r) (all_lists ms)) (flat_map (λ j. map (λ r. j ∷ r) (all_lists ms)) js) in
        rw (here, there) (sym (ap (filter ok) e ∙ filter-append ok (begun p (map (λ r. j ∷ r) (all_lists ms))) (begun p (flat_map (λ j. map (λ r. j ∷ r) (all_lists ms)) js))))

pub search_all : (keep : List ℕ → List ℕ → Bool) (ok : List ℕ → Bool) (ms : List ℕ) → IsSound keep ok → search_from keep ok [] ms ≡ filter ok (all_lists ms)
search_all keep ok ms s = search_is keep ok [] ms s ∙ ap (filter ok) (begun_none (all_lists ms))
