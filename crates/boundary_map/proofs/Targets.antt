-- The generator to which a set leads, and parities of domains.
use Rattle.std.proofs.Common.{◌≡◌, ℕ, zero, suc, ◌+◌, ◌<◌, inl, inr, Bool, true, false, cond, not, Some, None, List, [], ◌∷◌, ◌++◌, filter, get_or, set, length, refl, sym, ◌∙◌, ap, subst, arith}
use Rattle.std.proofs.lemmas.Bool.{cases_Bool, cases_eq, eq-eqb, false≢true, ne_eqb}
use Rattle.std.proofs.lemmas.List.{get_or-set_other, get_or-set_same, length-append, length-set}
use Rattle.std.proofs.lemmas.List.Elements.{filter-append}
use Rattle.boundary_map.proofs.AnyOrder.{domain_number, passing_rules}
use Rattle.boundary_map.proofs.LedTo.{led_to_is}
use Rattle.empty_domains.proofs.ListFacts.{filter_same}
use Rattle.boundary_map.specs.Sets.{led_to}
use Rattle.boundary_map.specs.Tried.{AreOdd, IsTarget, domain_count}
use Rattle.drawing.proofs.Generators.{generators_once, listed_is_generator}
use Rattle.drawing.specs.Pieces.{inner_pieces, piece_table}
use Rattle.drawing.specs.Points.{generators}
use Rattle.hkm_diagram.specs.Domains.{column, domains, is_domain}
use Rattle.obd_base.proofs.lists.Below.{mem_below}
use Rattle.obd_base.specs.Lists.{Mem, Once, below, is_odd, parts}
use Rattle.page_surface.specs.Drawing.{Drawing}

-- a list's entry is a member
pub at_mem : (xs : List (List ℕ)) (i : ℕ) → i < length xs → Mem (get_or xs i []) xs
at_mem [] i l = absurd (omega arith)
at_mem (x ∷ xs) zero l = inl refl
at_mem (x ∷ xs) (suc i) l = inr (at_mem xs i (omega arith))

-- in a list without repeats two places with one entry are one
pub same_place : (xs : List (List ℕ)) (i j : ℕ) → Once xs → i < length xs → j < length xs → get_or xs i [] ≡ get_or xs j [] → i ≡ j
same_place [] i j o l k e = absurd (omega arith)
same_place (x ∷ xs) zero zero o l k e = refl
same_place (x ∷ xs) zero (suc j) o l k e = absurd (o.0 (subst (λ z. Mem z xs) (sym e) (at_mem xs j (omega arith))))
same_place (x ∷ xs) (suc i) zero o l k e = absurd (o.0 (subst (λ z. Mem z xs) e (at_mem xs i (omega arith))))
same_place (x ∷ xs) (suc i) (suc j) o l k e = ap suc (same_place xs i j o.1 (omega arith) (omega arith) e)

module _ (d : Drawing) (order : List ℕ) (once : Once order) (to : (z : ℕ) → Mem z order → Mem z (inner_pieces d)) (from : (z : ℕ) → Mem z (inner_pieces d) → Mem z order) (y : List ℕ) where
  -- a set that is a domain to a generator leads there
  only_there : (s : List ℕ) → Mem s (parts order) → (k : ℕ) → k < length (generators d) → is_domain d (piece_table d) y (get_or (generators d) k []) s ≡ true
      → led_to d (piece_table d) y s ≡ get_or (generators d) k []
  only_there s part k l t =
      led_to_is d y (get_or (generators d) k []) s (listed_is_generator d (get_or (generators d) k []) (at_mem (generators d) k l))
      (passing_rules d order once to from y (get_or (generators d) k []) s part t)

  module _ (gens : List (List ℕ)) (are : gens ≡ generators d) (s x : List ℕ) (part : Mem s (parts order)) (led : x ≡ led_to d (piece_table d) y s) where
    leads : (k : ℕ) → k < length gens → is_domain d (piece_table d) y (get_or gens k []) s ≡ true → get_or gens k [] ≡ x
    leads k l t =
        let e = ap (λ (g : List (List ℕ)). get_or g k []) are in
        e ∙ sym (led ∙ only_there s part k (omega (arith, l, ap length are)) (ap (λ (z : List ℕ). is_domain d (piece_table d) y z s) (sym e) ∙ t))

    -- where that is no generator the set is no domain,
    pub no_target : (Mem x gens → ⊥) → IsTarget d gens y s None
    no_target out k l = elim (cases_Bool (is_domain d (piece_table d) y (get_or gens k []) s)) [
      | inr q ↦ q
      | inl q ↦ absurd (out (subst (λ w. Mem w gens) (leads k l q) (at_mem gens k l)))
    ]

    -- nor where it isn't one to the generator to which it leads
    pub fails_there : is_domain d (piece_table d) y x s ≡ false → IsTarget d gens y s None
    fails_there f k l = elim (cases_Bool (is_domain d (piece_table d) y (get_or gens k []) s)) [
      | inr q ↦ q
      | inl q ↦ absurd (false≢true (sym f ∙ (ap (λ (z : List ℕ). is_domain d (piece_table d) y z s) (sym (leads k l q)) ∙ q)))
    ]

    -- and where it is one it is one to no other
    pub has_target : (i : ℕ) → i < length gens → get_or gens i [] ≡ x → is_domain d (piece_table d) y x s ≡ true → IsTarget d gens y s (Some i)
    has_target i li e t = (
      li,
      λ k l. elim (cases_eq k i) [
        | inl q ↦ (ap (λ n. is_domain d (piece_table d) y (get_or gens n []) s) q ∙ (ap (λ (z : List ℕ). is_domain d (piece_table d) y z s) e ∙ t)) ∙ sym (eq-eqb k i q)
        | inr n ↦ elim (cases_Bool (is_domain d (piece_table d) y (get_or gens k []) s)) [
          | inr q ↦ q ∙ sym (ne_eqb k i n)
          | inl q ↦ absurd (n (same_place gens k i (subst (λ g. Once g) (sym are) (generators_once d)) l li (leads k l q ∙ sym e)))
        ]
      ],
    )

  -- the parities of all parts tell the column
  pub column_told : (odd : List Bool) → AreOdd d y (generators d) (parts order) odd → filter (λ i. get_or odd i false) (below (length odd)) ≡ column d y
  column_told odd are = ap (λ n. filter (λ i. get_or odd i false) (below n)) are.size
      ∙ filter_same (λ i. get_or odd i false) (λ i. is_odd (length (domains d y (get_or (generators d) i [])))) (below (length (generators d)))
      (λ i m. are.each i (mem_below (length (generators d)) i m) ∙ ap is_odd (domain_number d order once to from y (get_or (generators d) i [])))

-- one set more
count_more : (d : Drawing) (y x : List ℕ) (sets : List (List ℕ)) (s : List ℕ) → domain_count d y x (sets ++ s ∷ []) ≡ cond (is_domain d (piece_table d) y x s) (suc (domain_count d y x sets)) (domain_count d y x sets)
count_more d y x sets s =
    let passes : List ℕ → Bool = is_domain d (piece_table d) y x in
    ap length (filter-append passes sets (s ∷ [])) ∙ (length-append (filter passes sets) (filter passes (s ∷ [])) ∙ last (passes s))
  where
    last : (b : Bool) → length (filter (is_domain d (piece_table d) y x) sets) + length (cond b (s ∷ []) []) ≡ cond b (suc (domain_count d y x sets)) (domain_count d y x sets)
    last true = omega arith
    last false = omega arith

module _ (d : Drawing) (y : List ℕ) (gens sets : List (List ℕ)) (s : List ℕ) (odd : List Bool) (are : AreOdd d y gens sets odd) where
  -- that is no domain changes nothing
  pub none_more : IsTarget d gens y s None → AreOdd d y gens (sets ++ s ∷ []) odd
  none_more none = record {
    size = are.size;
    each = λ k l. are.each k l ∙ ap is_odd (sym (count_more d y (get_or gens k []) sets s ∙ ap (λ b. cond b (suc (domain_count d y (get_or gens k []) sets)) (domain_count d y (get_or gens k []) sets)) (none k l)));
  }

  -- a domain to a generator turns its parity
  pub one_more : (i : ℕ) (b : Bool) → b ≡ not (get_or odd i false) → IsTarget d gens y s (Some i) → AreOdd d y gens (sets ++ s ∷ []) (set odd i b)
  one_more i b is (li, some) = record {
    size = length-set odd i b ∙ are.size;
    each = λ k l. elim (cases_eq k i) [
      | inl q ↦ (
          let e : get_or (set odd i b) k false ≡ b = ap (λ n. get_or (set odd i b) n false) q ∙ get_or-set_same odd i b false (omega (arith, li, are.size)) in
          let t : is_domain d (piece_table d) y (get_or gens k []) s ≡ true = some k l ∙ eq-eqb k i q in
          e ∙ (is ∙ (ap not (ap (λ n. get_or odd n false) (sym q) ∙ are.each k l)
          ∙ ap is_odd (sym (count_more d y (get_or gens k []) sets s ∙ ap (λ c. cond c (suc (domain_count d y (get_or gens k []) sets)) (domain_count d y (get_or gens k []) sets)) t)))))
      | inr n ↦ (
          let f : is_domain d (piece_table d) y (get_or gens k []) s ≡ false = some k l ∙ ne_eqb k i n in
          get_or-set_other odd i k b false n ∙ (are.each k l
          ∙ ap is_odd (sym (count_more d y (get_or gens k []) sets s ∙ ap (λ c. cond c (suc (domain_count d y (get_or gens k []) sets)) (domain_count d y (get_or gens k []) sets)) f))))
    ];
  }
