-- The domains from a generator, with the numbers of the generators to which they lead, give its column.
use Rattle.std.proofs.Common.{◌≡◌, ℕ, ◌<◌, inl, inr, Bool, eqb, List, [], ◌∷◌, get_or, map, filter, length, sym, ap, ap₂, subst, ◌∙◌}
use Rattle.std.specs.List.{count_by}
use Rattle.std.proofs.lemmas.Bool.{cases_Bool, eq-eqb, eqb-true}
use Rattle.std.proofs.lemmas.List.{length-map}
use Rattle.std.proofs.lemmas.List.Sums.{length-filter}
use Rattle.drawing.proofs.Generators.{generators_once, listed_is_generator}
use Rattle.drawing.specs.Points.{generators}
use Rattle.empty_domains.specs.Leads.{IsWalk, Lead, lead}
use Rattle.boundary_map.proofs.Odds.{odds_are}
use Rattle.empty_domains.proofs.ListFacts.{filter_same}
use Rattle.boundary_map.proofs.Targets.{at_mem, same_place}
use Rattle.boundary_map.specs.Odds.{IsOdds}
use Rattle.hkm_diagram.proofs.Laws.{each_domain_once}
use Rattle.hkm_diagram.specs.Domains.{IsDomain, column, domains}
use Rattle.obd_base.proofs.lists.Below.{mem_below}
use Rattle.obd_base.proofs.lists.Counts.{count_by-map}
use Rattle.obd_base.proofs.lists.Members.{filter_mem, mem_filter, mem_map, mem_to_map}
use Rattle.obd_base.specs.Lists.{Mem, Once, below, is_odd}
use Rattle.page_surface.specs.Drawing.{Drawing}

module _ (d : Drawing) (y : List ℕ) {A : Type 0} (to : A → ℕ) (pieces : A → List ℕ) where
  -- a found domain, with the generator of its number
  abbrev pub lead_at : A → Lead
  lead_at m = lead (get_or (generators d) (to m) []) (pieces m)

  -- the sets that lead to one number are different
  once_sets : (i : ℕ) (ms : List A) → Once (map lead_at ms) → Once (map pieces (filter (λ m. eqb i (to m)) ms))
  once_sets i [] o = tt
  once_sets i (m ∷ ms) o = elim (cases_Bool (eqb i (to m))) [
    | inr q ↦ rw q (once_sets i ms o.1)
    | inl q ↦ rw q (
      (λ k.
          let (n, u, e) = mem_map pieces (pieces m) (filter (λ m. eqb i (to m)) ms) k in
          let (v, t) = mem_filter (λ m. eqb i (to m)) n ms u in
          let same : to m ≡ to n = sym (eqb-true i (to m) q) ∙ eqb-true i (to n) t in
          let leads : lead_at m ≡ lead_at n = ap₂ (λ a b. lead (get_or (generators d) a []) b) same e in
          o.0 (subst (λ z. Mem z (map lead_at ms)) (sym leads) (mem_to_map lead_at n ms v))),
      once_sets i ms o.1,
    )
  ]

  module _ (ms : List A) (walk : IsWalk d y (map lead_at ms)) (under : (m : A) → Mem m ms → to m < length (generators d)) where
    -- as many lead to a number as there are domains to its generator
    pub number_counts : (i : ℕ) → i < length (generators d) → count_by (eqb i) (map to ms) ≡ length (domains d y (get_or (generators d) i []))
    number_counts i li =
        let p : A → Bool = λ m. eqb i (to m) in
        let x = get_or (generators d) i [] in
        count_by-map (eqb i) to ms ∙ (sym (length-map (filter p ms) pieces ∙ length-filter p ms)
        ∙ each_domain_once d y x (map pieces (filter p ms)) (once_sets i ms walk.once) sound complete)
      where
        sound : (s : List ℕ) → Mem s (map pieces (filter (λ m. eqb i (to m)) ms)) → IsDomain d y (get_or (generators d) i []) s
        sound s k =
            let (m, u, e) = mem_map pieces s (filter (λ m. eqb i (to m)) ms) k in
            let (v, t) = mem_filter (λ m. eqb i (to m)) m ms u in
            let dom = (walk.leads_on (lead_at m) (mem_to_map lead_at m ms v)).1 in
            let q : to m ≡ i = sym (eqb-true i (to m) t) in
            subst (λ z. IsDomain d y (get_or (generators d) i []) z) (sym e) (subst (λ n. IsDomain d y (get_or (generators d) n []) (pieces m)) q dom)

        complete : (s : List ℕ) → IsDomain d y (get_or (generators d) i []) s → Mem s (map pieces (filter (λ m. eqb i (to m)) ms))
        complete s dom =
            let g = listed_is_generator d (get_or (generators d) i []) (at_mem (generators d) i li) in
            let (m, u, e) = mem_map lead_at (lead (get_or (generators d) i []) s) ms (walk.all (get_or (generators d) i []) s g dom) in
            let same : i ≡ to m = same_place (generators d) i (to m) (generators_once d) li (under m u) (ap (λ (l : Lead). l.to) e) in
            let q : s ≡ pieces m = ap (λ (l : Lead). l.pieces) e in
            subst (λ z. Mem z (map pieces (filter (λ m. eqb i (to m)) ms))) (sym q)
            (mem_to_map pieces m (filter (λ m. eqb i (to m)) ms) (filter_mem (λ m. eqb i (to m)) m ms u (eq-eqb i (to m) same)))

    -- the column is made of the numbers that stand an odd number of times
    pub column_counts : column d y ≡ filter (λ i. is_odd (count_by (eqb i) (map to ms))) (below (length (generators d)))
    column_counts = filter_same (λ i. is_odd (length (domains d y (get_or (generators d) i [])))) (λ i. is_odd (count_by (eqb i) (map to ms))) (below (length (generators d)))
        (λ i m. ap is_odd (sym (number_counts i (mem_below (length (generators d)) i m))))

    -- so what is collected of them is the column
    pub odds_column : (odds : List ℕ) → IsOdds (map to ms) odds → odds ≡ column d y
    odds_column odds is = odds_are (map to ms) odds (length (generators d)) is
        (λ z k. let (m, u, e) = mem_map to z ms k in subst (λ n. n < length (generators d)) (sym e) (under m u)) ∙ sym column_counts
