-- The tries of fresh steps lead by all domains, no one twice.
use Rattle.std.proofs.Common.{◌≡◌, ℕ, suc, ◌+◌, ◌≤◌, ◌⊎◌, inl, inr, true, false, eqb, List, [], ◌∷◌, get_or, length, map, refl, sym, ap, subst, arith, ◌∙◌}
use Rattle.std.specs.List.{filter}
use Rattle.std.proofs.lemmas.Bool.{cases_Bool, eq-eqb, ne_eqb, eqb-true}
use Rattle.drawing.specs.Pieces.{inner_pieces, span_count}
use Rattle.drawing.specs.Points.{IsGenerator}
use Rattle.drawing.specs.Round.{opposite, side_of}
use Rattle.empty_domains.proofs.Along.{name_is, shift_side}
use Rattle.empty_domains.proofs.Begins.{IsChoice}
use Rattle.empty_domains.proofs.Complete.{complete}
use Rattle.empty_domains.proofs.Diagram.{IsCross, other_of}
use Rattle.empty_domains.proofs.Finish.{inner_of}
use Rattle.empty_domains.proofs.Generators.{generator_choice}
use Rattle.empty_domains.proofs.ListFacts.{once_map}
use Rattle.empty_domains.proofs.PieceMark.{point_under, set_mark}
use Rattle.empty_domains.proofs.Stands.{stand_is}
use Rattle.empty_domains.proofs.Strips.{bigon_read, none_gone, rectangle_read, strip_reads}
use Rattle.empty_domains.proofs.Total.{total_bits}
use Rattle.empty_domains.proofs.Trace.{Trace}
use Rattle.empty_domains.proofs.Tries.{IsTry, in_tries, name_in}
use Rattle.empty_domains.proofs.TriesWalk.{tries_walk}
use Rattle.empty_domains.specs.Leads.{IsWalk}
use Rattle.hkm_diagram.proofs.ContactColumn.{mark}
use Rattle.empty_domains.specs.Strip.{Step, step, no_rows, stand, bigon_at, rectangle_at, strip_from, strips_on, all_strips, is_fresh, step_leads, strip_leads}
use Rattle.empty_domains.specs.Walk.{Try, try, is_last, lead_of, leads_of, names, room, rows, succeeds}
use Rattle.hkm_diagram.specs.Domains.{IsDomain}
use Rattle.obd_base.proofs.lists.Members.{filter_mem, mem_filter, mem_map}
use Rattle.obd_base.specs.Lists.{below, parts, Mem, Once}
use Rattle.page_surface.specs.Drawing.{Drawing, IsEmbedded}
use Rattle.page_surface.specs.Polygon.{arc, arc_count}
use Rattle.region_table.specs.Nice.{IsNice}
use Rattle.obd_base.proofs.lists.Below.{range_mem}
use Rattle.drawing.proofs.Lists.{mem_flat, mem_to_map}
use Rattle.empty_domains.proofs.StripSteps.{read_is_try, once_strips}

-- tries with the same numbers are one
same : (i j k l m i' j' k' l' m' : ℕ) → i ≡ i' → j ≡ j' → k ≡ k' → l ≡ l' → m ≡ m' → try i j k l m ≡ try i' j' k' l' m'
same i j k l m i' j' k' l' m' e1 e2 e3 e4 e5 = rw (e1, e2, e3, e4, e5) refl

-- the tries of the fresh steps
abbrev pub strip_tries : Drawing → List ℕ → List Try
strip_tries d y = map (λ s. s.by) (filter (is_fresh d) (all_strips d y))

-- the leads of fresh steps are those of their tries
leads_by_tries : (d : Drawing) (y : List ℕ) (steps : List Step) → leads_of d y (map (λ s. s.by) (filter (is_fresh d) steps)) ≡ step_leads d y steps
leads_by_tries d y [] = refl
leads_by_tries d y (s ∷ steps) = elim (cases_Bool (is_fresh d s)) [
  | inr q ↦ rw q (leads_by_tries d y steps)
  | inl q ↦ elim (cases_Bool (succeeds d y s.by)) [
    | inl r ↦ rw (q, r) (ap (λ zs. lead_of d y s.by ∷ zs) (leads_by_tries d y steps))
    | inr r ↦ rw (q, r) (leads_by_tries d y steps)
  ]
]

module _ (d : Drawing) (ok : IsEmbedded d) (y : List ℕ) (choice : IsChoice d y) where
  -- no try is read off twice, since the number of its rows fixes the step
  pub once_read : Once (strip_tries d y)
  once_read = once_map (λ s. s.by) (is_fresh d) (all_strips d y) (once_strips d ok y choice) one
    where
      pair : {t u : Try} {h k : ℕ} → t ≡ u → h ≡ k → step t h ≡ step u k
      pair e k = rw (e, k) refl

      one : (s u : Step) → Mem s (all_strips d y) → Mem u (all_strips d y) → is_fresh d s ≡ true → is_fresh d u ≡ true → s.by ≡ u.by → s ≡ u
      one s u m n x z e =
          let q : suc s.steps ≡ suc u.steps = sym (eqb-true _ _ x) ∙ (ap (λ t. length (rows d t)) e ∙ eqb-true _ _ z) in
          pair e (omega arith)

  -- what is read off are tries
  pub are_tries : (t : Try) → Mem t (strip_tries d y) → IsTry d y t
  are_tries t m =
      let (s, n, e) = mem_map (λ (s : Step). s.by) t (filter (is_fresh d) (all_strips d y)) m in
      let (k, x) = mem_filter (is_fresh d) s (all_strips d y) n in
      subst (λ z. IsTry d y z) (sym e) (read_is_try d ok y choice s k)

  -- a try that takes a domain's set apart row by row is read off
  pub hits : (x area : List ℕ) (part : Mem area (parts (inner_pieces d))) → IsDomain d y x area → (t : Try) → IsTry d y t
      → Trace (other_of d) (opposite d) (IsCross d) (is_last t) t.width (mark d area) t.start → Mem t (strip_tries d y)
  hits x area part dom t is trace =
      let inner = inner_of d ok area part in
      let bits = (set_mark d ok area inner).bit in
      let r = strip_reads d ok area inner y x dom.rules choice t (λ z c. point_under d ok z (inl c)) last_read (span_count d) (mark d area) t.start (room d t.start) 0 (no_rows d)
      trace (λ s e. e) (none_gone d t.width (mark d area)) is.fits (total_bits (mark d area) (span_count d) bits) in
      let s = step t r.steps in
      let fresh : is_fresh d s ≡ true = eq-eqb _ _ (let c = r.count in omega arith) in
      let listed = mem_flat (strips_on d y) (below (arc_count d.polygon)) t.first s (range_mem 0 (arc_count d.polygon) t.first (omega arith) (let l = is.first_under in omega arith)) (mem_flat (strip_from d y t.first) (names d t.first (get_or y t.first 0)) t.start s (name_in d t.first (get_or y t.first 0) t.start is.start_names) r.listed) in
      mem_to_map (λ (s : Step). s.by) s (filter (is_fresh d) (all_strips d y)) (filter_mem (is_fresh d) s (all_strips d y) listed fresh)
    where
      last_read : (c width h : ℕ) → is_last t c (other_of d (c + t.width)) ≡ true → other_of d c ≡ other_of d (c + t.width) + t.width → t.width ≤ width
          → Mem (step t h) (bigon_at d t.first t.start c width h) ⊎ Mem (step t h) (rectangle_at d y t.first t.start c width h)
      last_read c width h e back w = elim is.second [
        | inl (ks, ps) ↦ inl (
            let yes : eqb t.first t.second ≡ true = eq-eqb _ _ (sym ks) in
            let q = eqb-true _ _ (let l : eqb (other_of d (c + t.width)) c ≡ true = rw yes at e in l) in
            let k = bigon_read d t.first t.start c width h t.width (omega arith) is.positive w in
            let z : try t.first t.start t.width t.first t.start ≡ t = same t.first t.start t.width t.first t.start t.first t.start t.width t.second t.stop refl refl refl (sym ks) (sym ps) in
            subst (λ n. Mem (step n h) (bigon_at d t.first t.start c width h)) z k)
        | inr (lk, uk, n, r) ↦ inr (
            let no : eqb t.first t.second ≡ false = ne_eqb _ _ (λ q. omega arith) in
            let q = eqb-true _ _ (let l : eqb (other_of d (c + t.width)) t.stop ≡ true = rw no at e in l) in
            let b : other_of d c ≡ t.stop + t.width = omega arith in
            let (pp, pa, _) = name_is d ok t.second (get_or y t.second 0) t.stop uk (choice.under t.second uk) n in
            let on : side_of d (other_of d c) ≡ side_of d t.stop = ap (side_of d) b ∙ shift_side d ok t.stop t.width pp r in
            rectangle_read d y t.first t.start c width h t.width t.second t.stop b is.positive w
            (ap (stand d y) on ∙ stand_is d ok y choice t.second t.stop uk n) (ap (arc d.polygon) on ∙ pa) lk)
      ]

module _ (d : Drawing) (ok : IsEmbedded d) (nice : IsNice d) (y : List ℕ) (from : IsGenerator d y) where
  -- what the strips read off are the domains from the generator
  pub strip_walk : IsWalk d y (strip_leads d y)
  strip_walk = subst (λ ls. IsWalk d y ls) (leads_by_tries d y (all_strips d y)) (tries_walk d ok nice y from (strip_tries d y) (once_read d ok y choice) (are_tries d ok y choice)
      (λ x area to goal part dom.
      let r = complete d ok nice area part y x choice to goal dom in
      hits d ok y choice x area part dom r.by (in_tries d y r.by r.tried) r.trace))
    where
      choice : IsChoice d y
      choice = (generator_choice d y from).0
