-- The domains of the identity drawing: two bigons from the crossing point of an arc to its contact point, and no others.
use Rattle.std.proofs.Common.{◌≡◌, ℕ, zero, suc, ◌+◌, ◌-◌, ◌*◌, ◌<◌, ◌≤◌, Bool, true, false, cond, eqb, not, ◌||◌, List, [], ◌∷◌, length, get_or, refl, sym, ◌∙◌, ap, subst, arith, add-zero, ◌⊎◌, inl, inr, ◌≢◌}
use Rattle.std.specs.List.{count_by, sum_by}
use Rattle.std.proofs.lemmas.Bool.{cases_Bool, cases_eq, eq-eqb, ne_eqb, false≢true, not_from_true}
use Rattle.std.proofs.lemmas.List.Sums.{sum_by-cons}
use Rattle.obd_base.specs.Lists.{Mem, Once, below, has, is_odd, parts}
use Rattle.obd_base.proofs.lists.Counts.{count_one, passing_counted, some_counted}
use Rattle.obd_base.proofs.lists.Members.{mem_left, mem_right}
use Rattle.obd_base.proofs.lists.Parts.{mem_parts}
use Rattle.page_surface.specs.Polygon.{Polygon, IsPolygon, arc, arc_count, first_side, second_side, sides}
use Rattle.page_surface.specs.Drawing.{exit, identity, spot}
use Rattle.drawing.specs.Pieces.{corners, inner_pieces, piece_table}
use Rattle.drawing.specs.Points.{crossings_of, from_spans, to_spans}
use Rattle.drawing.proofs.Lists.{has_mem, mem_has, mem_to_map}
use Rattle.hkm_diagram.specs.Domains.{IsDomain, PointRule, domains, met, stands_in}
use Rattle.hkm_diagram.proofs.ContactColumn.{in_is, in_is_last, mark, out_is, out_is_last}
use Rattle.hkm_diagram.proofs.ContactLaw.{base_unmarked}
use Rattle.hkm_diagram.proofs.Identity.{one_crossing, same_from_first, same_from_second, sides_apart}
use Rattle.hkm_diagram.proofs.IdentityPieces.{base_start, bigon, bigon_corners, bigon_listed, listed_bigon, second_in_range, spans_are, spot_is, table_bigon}
use Rattle.hkm_diagram.proofs.Laws.{domain_found, each_domain_once}

-- the marks of two spans, each by another number
same_marks : (m : ℕ → ℕ) (q r t u : ℕ) → q ≡ r → t ≡ u → m q + m t ≡ m r + m u
same_marks m q r t u e g = rw (e, g)

-- what is 2 for each member adds up to twice their number
twice_length : (g : ℕ → ℕ) (xs : List ℕ) → ((q : ℕ) → Mem q xs → g q ≡ 2) → sum_by g xs ≡ 2 * length xs
twice_length g [] h = refl
twice_length g (x ∷ xs) h =
    let c = sum_by-cons g x xs in
    let one = h x (inl refl) in
    let rest = twice_length g xs (λ q m. h q (inr m)) in
    c ∙ omega (arith, one, rest)

-- an arc with one crossing point, where the points of the generators are these, and so many of its two bigons are in a set:
-- it stays with none of them, or moves from the crossing point to the contact point with one
stays_or_moves : (y x n : ℕ) → y ≤ 1 → x ≤ 1 → PointRule (eqb y 0) (eqb x 0) n 0 → PointRule (eqb y 1) (eqb x 1) 0 n
    → ((y ≡ x) × (n ≡ 0)) ⊎ ((y ≡ 0) × (x ≡ 1) × (n ≡ 1))
stays_or_moves zero zero n ly lx h k = inl (refl, h.0)
stays_or_moves zero (suc zero) n ly lx h k = inr (refl, refl, h.0)
stays_or_moves (suc zero) zero n ly lx h k = absurd (omega (arith, h.1))
stays_or_moves (suc zero) (suc zero) n ly lx h k = inl (refl, h)
stays_or_moves (suc (suc y)) x n ly lx h k = absurd (omega arith)
stays_or_moves zero (suc (suc x)) n ly lx h k = absurd (omega arith)
stays_or_moves (suc zero) (suc (suc x)) n ly lx h k = absurd (omega arith)

-- and where it stays with none or moves with one, the rules hold
rules_hold : (y x n j : ℕ) → j < 2 → y ≤ 1 → ((y ≡ x) × (n ≡ 0)) ⊎ ((y ≡ 0) × (x ≡ 1) × (n ≡ 1)) → PointRule (eqb y j) (eqb x j) (cond (eqb j 0) n 0) (cond (eqb j 0) 0 n)
rules_hold y x n zero l ly (inl (e, z)) = rw (← e, z) (both (eqb y 0))
  where
    both : (b : Bool) → PointRule b b 0 0
    both true = (refl, refl)
    both false = refl
rules_hold y x n zero l ly (inr (a, b, o)) = rw (a, b, o) (refl, refl)
rules_hold y x n (suc zero) l ly (inl (e, z)) = rw (← e, z) (both (eqb y 1))
  where
    both : (b : Bool) → PointRule b b 0 0
    both true = (refl, refl)
    both false = refl
rules_hold y x n (suc zero) l ly (inr (a, b, o)) = rw (a, b, o) (refl, refl)
rules_hold y x n (suc (suc j)) l ly h = absurd (omega arith)

-- a list of one member
one_of : (xs : List ℕ) → length xs ≡ 1 → (x : ℕ) × (xs ≡ x ∷ [])
one_of [] l = absurd (omega arith)
one_of (x ∷ []) l = (x, refl)
one_of (x ∷ y ∷ xs) l = absurd (omega arith)

some_member : (xs : List ℕ) → length xs ≢ 0 → (x : ℕ) × Mem x xs
some_member [] l = absurd (l refl)
some_member (x ∷ xs) l = (x, inl refl)

no_member : (xs : List ℕ) (x : ℕ) → length xs ≡ 0 → Mem x xs → ⊥
no_member [] x l m = m
no_member (y ∷ xs) x l m = absurd (omega arith)

-- one member alone is a part
alone : (x : ℕ) (xs : List ℕ) → Mem x xs → Mem (x ∷ []) (parts xs)
alone x [] m = absurd m
alone x (y ∷ xs) (inl e) = mem_right (x ∷ []) (parts xs) _ (rw e (mem_to_map (λ part. y ∷ part) [] (parts xs) (empty_part xs)))
  where
    empty_part : (xs : List ℕ) → Mem [] (parts xs)
    empty_part [] = inl refl
    empty_part (y ∷ xs) = mem_left [] (parts xs) _ (empty_part xs)
alone x (y ∷ xs) (inr m) = mem_left (x ∷ []) (parts xs) _ (alone x xs m)

module _ (p : Polygon) (ok : IsPolygon p) where
  -- the bigons at the ends of an arc's sides
  abbrev first_bigon : ℕ → ℕ
  first_bigon a = bigon p ok (first_side p a)

  abbrev second_bigon : ℕ → ℕ
  second_bigon a = bigon p ok (second_side p a)

  -- the span is that of one of the arc's bigons
  abbrev IsOf : ℕ → ℕ → Type 0
  IsOf q a = (q ≡ first_bigon a) ⊎ (q ≡ second_bigon a)

  -- bigons of two arcs are different
  one_arc : (q a b : ℕ) → a < arc_count p → b < arc_count p → IsOf q a → IsOf q b → a ≡ b
  one_arc q a b la lb (inl e) (inl i) = same_from_first p ok a b la lb (omega arith)
  one_arc q a b la lb (inl e) (inr i) = absurd (sides_apart p ok b a lb la (omega arith))
  one_arc q a b la lb (inr e) (inl i) = absurd (sides_apart p ok a b la lb (omega arith))
  one_arc q a b la lb (inr e) (inr i) = same_from_second p ok a b la lb (omega arith)

  -- and each bigon is of an arc
  of_arc : (k : ℕ) → k < sides p → (a : ℕ) × (a < arc_count p) × IsOf (bigon p ok k) a
  of_arc k l = (arc p k, (ok.ends k l).arc_in_range, elim (ok.ends k l).is_end [ inl e ↦ inl (ap (bigon p ok) e) | inr e ↦ inr (ap (bigon p ok) e) ])

  -- how many of an arc's two bigons are in a set
  abbrev in_arc : List ℕ → ℕ → ℕ
  in_arc set a = mark (identity p) set (first_bigon a) + mark (identity p) set (second_bigon a)

  module _ (set : List ℕ) (part : Mem set (parts (inner_pieces (identity p)))) where
    inner : (s : ℕ) → has set s ≡ true → has (inner_pieces (identity p)) s ≡ true
    inner s h = has_mem _ s (mem_parts s set _ part (mem_has set s h))

    mark_start : (k : ℕ) → k < sides p → mark (identity p) set (3 * k) ≡ 0
    mark_start k l = base_unmarked (identity p) set inner (3 * k) (omega (arith, spans_are p ok)) (base_start p ok k l)

    mark_bigon : (k : ℕ) → k < sides p → mark (identity p) set (bigon p ok k) ≡ cond (has set (bigon p ok k)) 1 0
    mark_bigon k l = rw (table_bigon p ok k l)

    module _ (a : ℕ) (la : a < arc_count p) where
      first_spot : (j : ℕ) → spot (identity p) (exit (first_side p a) j) ≡ 3 * first_side p a + j
      first_spot j = spot_is p ok (first_side p a) j (ok.first_in_range a la)

      second_spot : (j : ℕ) → spot (identity p) (exit (second_side p a) j) ≡ 3 * second_side p a + j
      second_spot j = spot_is p ok (second_side p a) j (second_in_range p ok a la)

      -- the quadrants at the crossing point
      out_crossing : met (piece_table (identity p)) set (from_spans (identity p) a 0) ≡ in_arc set a
      out_crossing =
          let one = one_crossing p ok a la in
          let e : crossings_of (identity p) a - 0 ≡ 1 = omega (arith, one) in
          out_is (identity p) set a 0 (omega (arith, one))
          ∙ same_marks (mark (identity p) set) _ _ _ _ (first_spot 1) (ap (λ n. spot (identity p) (exit (second_side p a) n)) e ∙ second_spot 1)

      in_crossing : met (piece_table (identity p)) set (to_spans (identity p) a 0) ≡ 0
      in_crossing =
          let one = one_crossing p ok a la in
          let e : crossings_of (identity p) a - 1 ≡ 0 = omega (arith, one) in
          in_is (identity p) set a 0 (omega (arith, one))
          ∙ (same_marks (mark (identity p) set) _ _ _ _ (first_spot 0 ∙ add-zero _) (ap (λ n. spot (identity p) (exit (second_side p a) n)) e ∙ (second_spot 0 ∙ add-zero _))
          ∙ omega (arith, mark_start (first_side p a) (ok.first_in_range a la), mark_start (second_side p a) (second_in_range p ok a la)))

      -- and at the contact point
      out_contact : met (piece_table (identity p)) set (from_spans (identity p) a 1) ≡ 0
      out_contact = ap (λ j. met (piece_table (identity p)) set (from_spans (identity p) a j)) (sym (one_crossing p ok a la)) ∙ out_is_last (identity p) set a

      in_contact : met (piece_table (identity p)) set (to_spans (identity p) a 1) ≡ in_arc set a
      in_contact =
          let one = one_crossing p ok a la in
          let e : crossings_of (identity p) a - 0 ≡ 1 = omega (arith, one) in
          ap (λ j. met (piece_table (identity p)) set (to_spans (identity p) a j)) (sym one) ∙ (in_is_last (identity p) set a
          ∙ same_marks (mark (identity p) set) _ _ _ _ (ap (λ n. spot (identity p) (exit (first_side p a) n)) one ∙ first_spot 1) (ap (λ n. spot (identity p) (exit (second_side p a) n)) e ∙ second_spot 1))

      -- a bigon of the arc that is in the set
      arc_member : 0 < in_arc set a → (q : ℕ) × Mem q set × IsOf q a
      arc_member h = elim (cases_Bool (has set (first_bigon a))) [
        | inl i ↦ (first_bigon a, mem_has set _ i, inl refl)
        | inr i ↦ elim (cases_Bool (has set (second_bigon a))) [
          | inl j ↦ (second_bigon a, mem_has set _ j, inr refl)
          | inr j ↦
              let m : mark (identity p) set (first_bigon a) ≡ 0 = mark_bigon (first_side p a) (ok.first_in_range a la) ∙ rw i in
              let n : mark (identity p) set (second_bigon a) ≡ 0 = mark_bigon (second_side p a) (second_in_range p ok a la) ∙ rw j in
              absurd (omega (arith, m, n, h))
        ]
      ]

    -- each member is a bigon of an arc, and counted there
    member_arc : (q : ℕ) → Mem q set → (a : ℕ) × (a < arc_count p) × IsOf q a × (0 < in_arc set a)
    member_arc q m =
        let (k, l, e) = listed_bigon p ok q (mem_parts q set _ part m) in
        let (a, la, of) = of_arc k l in
        let one : mark (identity p) set (bigon p ok k) ≡ 1 = mark_bigon k l ∙ rw (has_mem set (bigon p ok k) (subst (λ x. Mem x set) e m)) in
        (a, la, subst (λ x. IsOf x a) (sym e) of, counted k a one of)
      where
        counted : (k a : ℕ) → mark (identity p) set (bigon p ok k) ≡ 1 → IsOf (bigon p ok k) a → 0 < in_arc set a
        counted k a one (inl e) = let m : mark (identity p) set (first_bigon a) ≡ 1 = ap (mark (identity p) set) (sym e) ∙ one in omega (arith, m)
        counted k a one (inr e) = let m : mark (identity p) set (second_bigon a) ≡ 1 = ap (mark (identity p) set) (sym e) ∙ one in omega (arith, m)

    corners_two : (q : ℕ) → Mem q set → corners (identity p) q ≡ 2
    corners_two q m = let (k, l, e) = listed_bigon p ok q (mem_parts q set _ part m) in ap (corners (identity p)) e ∙ bigon_corners p ok k l

  module _ (y x : List ℕ) (small_y : (a : ℕ) → a < arc_count p → get_or y a 0 ≤ 1) (small_x : (a : ℕ) → a < arc_count p → get_or x a 0 ≤ 1) where
    -- the generators have different points on an arc
    abbrev differs : ℕ → Bool
    differs a = not (eqb (get_or y a 0) (get_or x a 0))

    -- one arc moves from its crossing point to its contact point, and all others stay
    record Moves (a : ℕ) : Type 0 where
      arc : a < arc_count p
      from : get_or y a 0 ≡ 0
      to : get_or x a 0 ≡ 1
      others : (b : ℕ) → b < arc_count p → b ≢ a → get_or y b 0 ≡ get_or x b 0

    module _ (set : List ℕ) (dom : IsDomain (identity p) y x set) where
      -- an arc stays with none of its bigons in the domain, or moves with one
      at_arc : (a : ℕ) → a < arc_count p → ((get_or y a 0 ≡ get_or x a 0) × (in_arc set a ≡ 0)) ⊎ ((get_or y a 0 ≡ 0) × (get_or x a 0 ≡ 1) × (in_arc set a ≡ 1))
      at_arc a la =
          let crossing : PointRule (stands_in y a 0) (stands_in x a 0) (in_arc set a) 0
          = rw (out_crossing set dom.inner a la, in_crossing set dom.inner a la) at (dom.rules a la 0 (omega arith)) in
          let contact : PointRule (stands_in y a 1) (stands_in x a 1) 0 (in_arc set a)
          = rw (out_contact set dom.inner a la, in_contact set dom.inner a la) at (dom.rules a la 1 (omega (arith, one_crossing p ok a la))) in
          stays_or_moves (get_or y a 0) (get_or x a 0) (in_arc set a) (small_y a la) (small_x a la) crossing contact

      total : length set + count_by differs (below (arc_count p)) ≡ 2
      total = omega (arith, dom.corners_add_up, twice_length (corners (identity p)) set (corners_two set dom.inner))

      one_member : length set ≡ 1
      one_member = elim (cases_eq (length set) 0) [
        | inl z ↦
            let (a, lo, hi, d) = some_counted differs 0 (arc_count p) (omega (arith, total, z)) in
            let la : a < arc_count p = omega arith in
            elim (at_arc a la) [
              | inl e ↦ absurd (false≢true (sym (not_from_true _ (eq-eqb _ _ e.0)) ∙ d))
              | inr e ↦ let (q, m, of) = arc_member set dom.inner a la (omega (arith, e.2)) in absurd (no_member set q z m)
            ]
        | inr nz ↦ elim (cases_eq (count_by differs (below (arc_count p))) 0) [
          | inl z ↦
              let (q, m) = some_member set nz in
              let (a, la, of, counted) = member_arc set dom.inner q m in
              elim (at_arc a la) [
                | inl e ↦ absurd (omega (arith, counted, e.1))
                | inr e ↦
                    let d : differs a ≡ true = rw (e.0, e.1) in
                    absurd (omega (arith, z, passing_counted differs 0 (arc_count p) a (omega arith) (omega (arith, la)) d))
              ]
          | inr nz' ↦ omega (arith, total)
        ]
      ]

      -- so it is one bigon, of the arc that moves
      moving : (a : ℕ) × Moves a
      moving =
          let (q, is) = one_of set one_member in
          let (a, la, of, counted) = member_arc set dom.inner q (subst (λ s. Mem q s) (sym is) (inl refl)) in
          elim (at_arc a la) [
            | inl e ↦ absurd (omega (arith, counted, e.1))
            | inr e ↦ (a, record { arc = la; from = e.0; to = e.1; others = λ b lb ne. stays q is a la of b lb ne })
          ]
        where
          stays : (q : ℕ) → set ≡ q ∷ [] → (a : ℕ) → a < arc_count p → IsOf q a → (b : ℕ) → b < arc_count p → b ≢ a → get_or y b 0 ≡ get_or x b 0
          stays q is a la of b lb ne = elim (at_arc b lb) [
            | inl e ↦ e.0
            | inr e ↦
                let (t, m, of_b) = arc_member set dom.inner b lb (omega (arith, e.2)) in
                let same : t ≡ q = elim (subst (λ s. Mem t s) is m) [ inl i ↦ i | inr never ↦ absurd never ] in
                absurd (ne (one_arc q b a lb la (subst (λ s. IsOf s b) same of_b) of))
          ]

      -- of the arc that moves, it is one of the two bigons
      of_moving : (a : ℕ) → Moves a → (set ≡ first_bigon a ∷ []) ⊎ (set ≡ second_bigon a ∷ [])
      of_moving a moves = elim (at_arc a moves.arc) [
        | inl e ↦ absurd (omega (arith, e.0, moves.from, moves.to))
        | inr e ↦
            let (t, m, of) = arc_member set dom.inner a moves.arc (omega (arith, e.2)) in
            let (q, is) = one_of set one_member in
            let same : t ≡ q = elim (subst (λ s. Mem t s) is m) [ inl i ↦ i | inr never ↦ absurd never ] in
            elim of [ inl i ↦ inl (is ∙ ap (λ s. s ∷ []) (sym same ∙ i)) | inr i ↦ inr (is ∙ ap (λ s. s ∷ []) (sym same ∙ i)) ]
      ]

    -- how many bigons of an arc are in the set of one bigon
    mark_alone : (k t : ℕ) → t < sides p → mark (identity p) (bigon p ok k ∷ []) (bigon p ok t) ≡ cond (eqb (bigon p ok t) (bigon p ok k)) 1 0
    mark_alone k t l = rw (table_bigon p ok t l) (single (eqb (bigon p ok t) (bigon p ok k)))
      where
        single : (b : Bool) → cond {A = ℕ} (b || false) 1 0 ≡ cond b 1 0
        single true = refl
        single false = refl

    arc_alone : (k a b : ℕ) → a < arc_count p → b < arc_count p → IsOf (bigon p ok k) a → in_arc (bigon p ok k ∷ []) b ≡ cond (eqb b a) 1 0
    arc_alone k a b la lb of =
        let first = mark_alone k (first_side p b) (ok.first_in_range b lb) in
        let second = mark_alone k (second_side p b) (second_in_range p ok b lb) in
        elim (cases_eq b a) [
          | inl e ↦ elim of [
            | inl i ↦
                let f : cond {A = ℕ} (eqb (first_bigon b) (bigon p ok k)) 1 0 ≡ 1 = rw (eq-eqb (first_bigon b) (bigon p ok k) (ap first_bigon e ∙ sym i)) refl in
                let s : cond {A = ℕ} (eqb (second_bigon b) (bigon p ok k)) 1 0 ≡ 0 = rw (ne_eqb (second_bigon b) (bigon p ok k) (λ q. sides_apart p ok b a lb la (omega (arith, q, i)))) refl in
                let one : cond {A = ℕ} (eqb b a) 1 0 ≡ 1 = rw (eq-eqb b a e) refl in
                omega (arith, first, second, f, s, one)
            | inr i ↦
                let f : cond {A = ℕ} (eqb (first_bigon b) (bigon p ok k)) 1 0 ≡ 0 = rw (ne_eqb (first_bigon b) (bigon p ok k) (λ q. sides_apart p ok a b la lb (omega (arith, q, i)))) refl in
                let s : cond {A = ℕ} (eqb (second_bigon b) (bigon p ok k)) 1 0 ≡ 1 = rw (eq-eqb (second_bigon b) (bigon p ok k) (ap second_bigon e ∙ sym i)) refl in
                let one : cond {A = ℕ} (eqb b a) 1 0 ≡ 1 = rw (eq-eqb b a e) refl in
                omega (arith, first, second, f, s, one)
          ]
          | inr ne ↦
              let f : cond {A = ℕ} (eqb (first_bigon b) (bigon p ok k)) 1 0 ≡ 0 = rw (ne_eqb (first_bigon b) (bigon p ok k) (λ q. ne (one_arc (bigon p ok k) b a lb la (inl (sym q)) of))) refl in
              let s : cond {A = ℕ} (eqb (second_bigon b) (bigon p ok k)) 1 0 ≡ 0 = rw (ne_eqb (second_bigon b) (bigon p ok k) (λ q. ne (one_arc (bigon p ok k) b a lb la (inr (sym q)) of))) refl in
              let none : cond {A = ℕ} (eqb b a) 1 0 ≡ 0 = rw (ne_eqb b a ne) refl in
              omega (arith, first, second, f, s, none)
        ]

    -- either bigon of the arc that moves is a domain by itself
    bigon_is_domain : (a k : ℕ) → Moves a → k < sides p → IsOf (bigon p ok k) a → IsDomain (identity p) y x (bigon p ok k ∷ [])
    bigon_is_domain a k moves l of = record {
      inner = part;
      corners_add_up = omega (arith, count, bigon_corners p ok k l);
      rules = λ b lb j lj. rule b lb j (omega (arith, lj, one_crossing p ok b lb));
    }
      where
        part : Mem (bigon p ok k ∷ []) (parts (inner_pieces (identity p)))
        part = alone (bigon p ok k) _ (bigon_listed p ok k l)

        count : count_by differs (below (arc_count p)) ≡ 1
        count = count_one differs 0 (arc_count p) a (omega arith) (omega (arith, moves.arc)) (rw (moves.from, moves.to)) only
          where
            only : (b : ℕ) → 0 ≤ b → b < 0 + arc_count p → differs b ≡ true → b ≡ a
            only b lo hi d = elim (cases_eq b a) [
              | inl e ↦ e
              | inr ne ↦ absurd (false≢true (sym (not_from_true _ (eq-eqb _ _ (moves.others b (omega arith) ne))) ∙ d))
            ]

        stays : (b : ℕ) → b < arc_count p
            → ((get_or y b 0 ≡ get_or x b 0) × (in_arc (bigon p ok k ∷ []) b ≡ 0)) ⊎ ((get_or y b 0 ≡ 0) × (get_or x b 0 ≡ 1) × (in_arc (bigon p ok k ∷ []) b ≡ 1))
        stays b lb = elim (cases_eq b a) [
          | inl e ↦ inr (ap (λ c. get_or y c 0) e ∙ moves.from, ap (λ c. get_or x c 0) e ∙ moves.to, arc_alone k a b moves.arc lb of ∙ rw (eq-eqb b a e) refl)
          | inr ne ↦ inl (moves.others b lb ne, arc_alone k a b moves.arc lb of ∙ rw (ne_eqb b a ne) refl)
        ]

        rule : (b : ℕ) → b < arc_count p → (j : ℕ) → j < 2
            → PointRule (stands_in y b j) (stands_in x b j) (met (piece_table (identity p)) (bigon p ok k ∷ []) (from_spans (identity p) b j)) (met (piece_table (identity p)) (bigon p ok k ∷ []) (to_spans (identity p) b j))
        rule b lb zero h = rw (out_crossing (bigon p ok k ∷ []) part b lb, in_crossing (bigon p ok k ∷ []) part b lb) (rules_hold (get_or y b 0) (get_or x b 0) (in_arc (bigon p ok k ∷ []) b) 0 h (small_y b lb) (stays b lb))
        rule b lb (suc zero) h = rw (out_contact (bigon p ok k ∷ []) part b lb, in_contact (bigon p ok k ∷ []) part b lb) (rules_hold (get_or y b 0) (get_or x b 0) (in_arc (bigon p ok k ∷ []) b) 1 h (small_y b lb) (stays b lb))
        rule b lb (suc (suc j)) h = absurd (omega arith)

    -- so the number of domains is 0 or 2
    pub even_domains : is_odd (length (domains (identity p) y x)) ≡ false
    even_domains = of_list (domains (identity p) y x) refl
      where
        both : (a : ℕ) → Moves a → length (domains (identity p) y x) ≡ 2
        both a moves =
            sym (each_domain_once (identity p) y x ((first_bigon a ∷ []) ∷ (second_bigon a ∷ []) ∷ []) once
            (λ set m. elim m [
              | inl e ↦ subst (IsDomain (identity p) y x) (sym e) (bigon_is_domain a (first_side p a) moves (ok.first_in_range a moves.arc) (inl refl))
              | inr n ↦ elim n [
                | inl e ↦ subst (IsDomain (identity p) y x) (sym e) (bigon_is_domain a (second_side p a) moves (second_in_range p ok a moves.arc) (inr refl))
                | inr never ↦ absurd never
              ]
            ])
            (λ set dom. elim (of_moving set dom a moves) [ inl e ↦ inl e | inr e ↦ inr (inl e) ]))
          where
            once : Once ((first_bigon a ∷ []) ∷ (second_bigon a ∷ []) ∷ [])
            once = (
              λ m. elim m [ inl e ↦ sides_apart p ok a a moves.arc moves.arc (omega (arith, heads _ _ e)) | inr never ↦ absurd never ],
              (λ m. m, tt),
            )
              where
                heads : (q t : ℕ) → q ∷ [] ≡ t ∷ [] → q ≡ t
                heads q t e = cc

        of_list : (sets : List (List ℕ)) → domains (identity p) y x ≡ sets → is_odd (length (domains (identity p) y x)) ≡ false
        of_list [] e = ap (λ ss. is_odd (length ss)) e
        of_list (set ∷ sets) e =
            let dom = domain_found (identity p) y x set (subst (λ ss. Mem set ss) (sym e) (inl refl)) in
            let (a, moves) = moving set dom in
            ap is_odd (both a moves)
