-- The search that reads sets of strands lists the generators.
use Rattle.std.proofs.Common.{◌≡◌, ℕ, zero, suc, ◌+◌, ◌<◌, Bool, true, false, cond, eqb, ◌&&◌, ◌||◌, not, List, [], ◌∷◌, ◌++◌, length, map, drop, refl, sym, ◌∙◌, ap, subst, arith}
use Rattle.std.specs.List.{flat_map, enumerate_from, range_with_len}
use Rattle.std.proofs.lemmas.Bool.{and_parts}
use Rattle.std.proofs.lemmas.List.{length-append}
use Rattle.std.proofs.lemmas.Nat.Bits.{bit_at-zero}
use Rattle.obd_base.specs.Lists.{below, has}
use Rattle.page_surface.specs.Drawing.{Drawing}
use Rattle.page_surface.specs.Polygon.{arc_count}
use Rattle.drawing.specs.Points.{all_different, contact_generator, crossings_of, generators, is_generator, strand_of}
use Rattle.drawing.proofs.Generators.{contact_comes_last}
use Rattle.generator_list.specs.Packed.{IsListed}
use Rattle.generator_list.proofs.Order.{generators_in_order}
use Rattle.generator_list.specs.Search.{all_strands, chosen, goes_on, in_set, meets, with_strand}
use Rattle.generator_list.proofs.PrunedSearch.{search_from}
use Rattle.generator_list.proofs.Pruning.{offers, search_generators, strands_are, strands_append, strands_from, worth}
use Rattle.generator_list.proofs.StrandSets.{has_push, set_with, worth_next}
use mathlib.Core.Path.{fun_ext}

-- the arcs' strands, counted from a number on
offers_are : (strand : ℕ → ℕ → ℕ) (bound : ℕ → ℕ) (a n : ℕ)
    → map (λ a. map (strand a) (below (suc (bound a)))) (range_with_len a n) ≡ offers strand a (map bound (range_with_len a n))
offers_are strand bound a zero = refl
offers_are strand bound a (suc n) =
    let e : a + 1 ≡ suc a = omega arith in
    ap (λ rest. map (strand a) (below (suc (bound a))) ∷ rest) (offers_are strand bound (a + 1) n ∙ ap (λ b. offers strand b (map bound (range_with_len (a + 1) n))) e)

-- of two choices only what passes must be the same
cond_same : {A : Type 0} (b c : Bool) (x y z : A) → b ≡ c → (c ≡ true → x ≡ y) → cond b x z ≡ cond c y z
cond_same b true x y z e h = rw e (h refl)
cond_same b false x y z e h = rw e refl

-- the set of the strands of a beginning with one point more
set_next : (strand : ℕ → ℕ → ℕ) (q : List ℕ) (j set : ℕ) → in_set set ≡ has (strands_from strand 0 q)
    → in_set (with_strand set (strand (length q) j)) ≡ has (strands_from strand 0 (q ++ j ∷ []))
set_next strand q j set same =
    let at : 0 + length q ≡ length q = omega arith in
    let s = strand (length q) j in
    let used = strands_from strand 0 q in
    let whole : strands_from strand 0 (q ++ j ∷ []) ≡ used ++ s ∷ [] = strands_append strand 0 q (j ∷ []) ∙ ap (λ a. used ++ strand a j ∷ []) at in
    fun_ext (λ k. set_with set s k ∙ (ap (λ (f : ℕ → Bool). eqb k s || f k) same ∙ (swap (eqb k s) (has used k) ∙ sym (has_push used s k)))) ∙ ap has (sym whole)
  where
    swap : (a b : Bool) → (a || b) ≡ (b || a)
    swap true true = refl
    swap true false = refl
    swap false true = refl
    swap false false = refl

-- points one after the other with their strands
each_point : {A : Type 0} (f : ℕ → ℕ) (F : ℕ × ℕ → List A) (G : ℕ → List A) → ((j : ℕ) → F (j, f j) ≡ G j)
    → (k n : ℕ) → flat_map F (enumerate_from k (map f (range_with_len k n))) ≡ flat_map G (range_with_len k n)
each_point f F G h k zero = refl
each_point f F G h k (suc n) = rw (h k, each_point f F G h (k + 1) n) refl

-- the search by sets of strands, from a beginning with different strands, is the search with the test of beginnings
chosen_is : (strand : ℕ → ℕ → ℕ) (ms q : List ℕ) (set : ℕ) → all_different (strands_from strand 0 q) ≡ true → in_set set ≡ has (strands_from strand 0 q)
    → chosen (offers strand (length q) ms) set q ≡ search_from (worth strand) (λ y. all_different (strands_from strand 0 y)) q ms
chosen_is strand [] q set different same = rw different refl
chosen_is strand (m ∷ ms) q set different same =
    each_point (strand (length q))
    (λ e. cond (goes_on (offers strand (suc (length q)) ms) set e.1) (chosen (offers strand (suc (length q)) ms) (with_strand set e.1) (q ++ e.0 ∷ [])) [])
    (λ j. cond (worth strand (q ++ j ∷ []) ms) (search_from (worth strand) (λ y. all_different (strands_from strand 0 y)) (q ++ j ∷ []) ms) []) (λ j. one j (λ p set d s. chosen_is strand ms p set d s)) 0 (suc m)
  where
    one : (j : ℕ) → ((p : List ℕ) (set : ℕ) → all_different (strands_from strand 0 p) ≡ true → in_set set ≡ has (strands_from strand 0 p)
        → chosen (offers strand (length p) ms) set p ≡ search_from (worth strand) (λ y. all_different (strands_from strand 0 y)) p ms)
        → cond (goes_on (offers strand (suc (length q)) ms) set (strand (length q) j))
        (chosen (offers strand (suc (length q)) ms) (with_strand set (strand (length q) j)) (q ++ j ∷ [])) []
        ≡ cond (worth strand (q ++ j ∷ []) ms) (search_from (worth strand) (λ y. all_different (strands_from strand 0 y)) (q ++ j ∷ []) ms) []
    one j ih =
        let more : length (q ++ j ∷ []) ≡ length q + 1 = length-append q (j ∷ []) in
        let n : length (q ++ j ∷ []) ≡ suc (length q) = omega (arith, more) in
        let test : worth strand (q ++ j ∷ []) ms ≡ goes_on (offers strand (suc (length q)) ms) set (strand (length q) j)
        = worth_next strand q ms j set different same
        ∙ ap (λ k. not (in_set set (strand (length q) j)) && meets (offers strand k ms) (in_set (with_strand set (strand (length q) j)))) n in
        cond_same _ _ _ _ [] (sym test) (λ w.
        let (d, _) = and_parts (all_different (strands_from strand 0 (q ++ j ∷ []))) _ w in
        ap (λ k. chosen (offers strand k ms) (with_strand set (strand (length q) j)) (q ++ j ∷ [])) (sym n)
        ∙ ih (q ++ j ∷ []) (with_strand set (strand (length q) j)) d (set_next strand q j set same))

-- no strand is in the empty set
none_in : (k : ℕ) → in_set 0 k ≡ false
none_in k = ap (λ b. eqb b 1) (bit_at-zero k)

search_same : (d : Drawing) (ms q : List ℕ)
    → search_from (worth (strand_of d)) (λ y. all_different (strands_from (strand_of d) 0 y)) q ms ≡ search_from (worth (strand_of d)) (is_generator d) q ms
search_same d ms q = ap (λ (ok : List ℕ → Bool). search_from (worth (strand_of d)) ok q ms) (fun_ext (λ y. sym (ap all_different (strands_are d 0 y))))

-- from the beginning with no point it lists the generators
pub chosen_generators : (d : Drawing) → chosen (all_strands d) 0 [] ≡ generators d
chosen_generators d =
    ap (λ arcs. chosen arcs 0 []) (offers_are (strand_of d) (crossings_of d) 0 (arc_count d.polygon))
    ∙ (chosen_is (strand_of d) (map (crossings_of d) (below (arc_count d.polygon))) [] 0 refl (fun_ext none_in)
    ∙ (search_same d (map (crossings_of d) (below (arc_count d.polygon))) [] ∙ search_generators d))

drop_none : (xs : List (List ℕ)) → drop 0 xs ≡ xs
drop_none [] = refl
drop_none (x ∷ xs) = refl

-- all that is found by a search with nothing found before
pub found_all : (d : Drawing) (arcs before : List (List ℕ)) → arcs ≡ all_strands d → before ≡ [] → before ++ chosen (drop 0 arcs) 0 [] ≡ generators d
found_all d arcs before is none =
    ap (λ b. b ++ chosen (drop 0 arcs) 0 []) none ∙ (ap (λ a. chosen a 0 []) (drop_none arcs ∙ is) ∙ chosen_generators d)

-- the generators can be kept in order, and there is one
pub generators_listed : (d : Drawing) (lists : List (List ℕ)) → lists ≡ generators d → IsListed lists
generators_listed d lists is = subst IsListed (sym is) (record { some = one; ordered = generators_in_order d })
  where
    one : 0 < length (generators d)
    one = let (front, e) = contact_comes_last d in let l : length (generators d) ≡ length front + 1 = ap length e ∙ length-append front (contact_generator d ∷ []) in omega (arith, l)
