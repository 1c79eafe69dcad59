-- Two tries that succeed and lead to the same target by the same set are one.
use Rattle.std.proofs.Common.{◌≡◌, ℕ, suc, ◌+◌, ◌-◌, ◌≤◌, ◌<◌, ◌⊎◌, inl, inr, ◌≢◌, true, false, eqb, List, get_or, set, length, refl, sym, ap, subst, arith, ◌∙◌}
use Rattle.std.proofs.lemmas.Bool.{cases_eq, eqb-true, eq-eqb, ne_eqb}
use Rattle.std.proofs.lemmas.List.{length-set, get_or-set_same, get_or-set_other}
use Rattle.drawing.specs.Pieces.{inner_pieces, span_count}
use Rattle.drawing.specs.Points.{crossings_of}
use Rattle.drawing.specs.Round.{opposite, point_name, arc_of, point_of}
use Rattle.empty_domains.proofs.Along.{Names, named, shifted, name_is, shift_moves, one_source, one_sink}
use Rattle.empty_domains.proofs.ArcPoints.{name_point}
use Rattle.empty_domains.proofs.Begins.{IsChoice}
use Rattle.empty_domains.proofs.Circle.{Source, Sink}
use Rattle.empty_domains.proofs.Diagram.{IsPoint, other_of, opp_twice}
use Rattle.empty_domains.proofs.DomainGeneral.{rule_at_name}
use Rattle.empty_domains.proofs.Finish.{inner_of}
use Rattle.empty_domains.proofs.NiceSets.{marked_is_point}
use Rattle.empty_domains.proofs.PieceMark.{point_under, set_mark}
use Rattle.empty_domains.proofs.RowsOn.{row_on, sweep_first, sweep_last}
use Rattle.empty_domains.proofs.Tries.{IsTry}
use Rattle.hkm_diagram.proofs.ContactColumn.{mark}
use Rattle.empty_domains.specs.Walk.{Try, try, is_last, target, found, comes_to_end, rows_inner, rows, room}
use Rattle.hkm_diagram.specs.Domains.{IsDomain, PointRule, stands_in}
use Rattle.obd_base.specs.Lists.{has, parts, Mem}
use Rattle.page_surface.specs.Drawing.{Drawing, IsEmbedded}
use Rattle.page_surface.specs.Polygon.{arc_count, sides}

-- at a point of y and not of x, a name after which the set lies is where it leads out
pub source_named : (opp f : ℕ → ℕ) (w n : ℕ) → opp (opp w) ≡ w → (n ≡ w) ⊎ (n ≡ opp w) → f (suc n) ≡ 1
    → (f (suc w) + f (suc (opp w)) ≡ 1) × (f w + f (opp w) ≡ 0) → Source opp f n
source_named opp f w n t (inl e) h r = subst (λ k. Source opp f k) (sym e)
    (let h' : f (suc w) ≡ 1 = subst (λ k. f (suc k) ≡ 1) e h in
    record { after = h'; after_opp = omega (arith, r); before = omega (arith, r); before_opp = omega (arith, r) })
source_named opp f w n t (inr e) h r = subst (λ k. Source opp f k) (sym e)
    (let h' : f (suc (opp w)) ≡ 1 = subst (λ k. f (suc k) ≡ 1) e h in
    record { after = h'; after_opp = rw t (omega (arith, r)); before = omega (arith, r); before_opp = rw t (omega (arith, r)) })

-- at a point of x and not of y, a name before which the set lies is where it leads in
pub sink_named : (opp f : ℕ → ℕ) (w n : ℕ) → opp (opp w) ≡ w → (n ≡ w) ⊎ (n ≡ opp w) → f n ≡ 1
    → (f (suc w) + f (suc (opp w)) ≡ 0) × (f w + f (opp w) ≡ 1) → Sink opp f n
sink_named opp f w n t (inl e) h r = subst (λ k. Sink opp f k) (sym e)
    (let h' : f w ≡ 1 = subst (λ k. f k ≡ 1) e h in
    record { before = h'; before_opp = omega (arith, r); after = omega (arith, r); after_opp = omega (arith, r) })
sink_named opp f w n t (inr e) h r = subst (λ k. Sink opp f k) (sym e)
    (let h' : f (opp w) ≡ 1 = subst (λ k. f k ≡ 1) e h in
    record { before = h'; before_opp = rw t (omega (arith, r)); after = omega (arith, r); after_opp = rw t (omega (arith, r)) })

module _ (d : Drawing) (ok : IsEmbedded d) (y : List ℕ) (choice : IsChoice d y) (x area : List ℕ) (dom : IsDomain d y x area)
    (part : Mem area (parts (inner_pieces d))) where
  -- the marks of the set
  abbrev f : ℕ → ℕ
  f = mark d area

  inner : (s : ℕ) → has area s ≡ true → has (inner_pieces d) s ≡ true
  inner = inner_of d ok area part

  source_by : (a n : ℕ) → a < arc_count d.polygon → Names d a (get_or y a 0) n → get_or y a 0 ≢ get_or x a 0 → f (suc n) ≡ 1 → Source (opposite d) f n
  source_by a n la h ne e =
      let w = point_name d a (get_or y a 0) in
      let one : stands_in y a (get_or y a 0) ≡ true = eq-eqb _ _ refl in
      let two : stands_in x a (get_or y a 0) ≡ false = ne_eqb _ _ (λ q. ne (sym q)) in
      let r = rule_at_name d ok area inner y x dom.rules a (get_or y a 0) la (choice.under a la) in
      let r' : PointRule true false (f (suc w) + f (suc (opposite d w))) (f w + f (opposite d w))
      = subst (λ c. PointRule true c (f (suc w) + f (suc (opposite d w))) (f w + f (opposite d w))) two
      (subst (λ b. PointRule b (stands_in x a (get_or y a 0)) (f (suc w) + f (suc (opposite d w))) (f w + f (opposite d w))) one r) in
      source_named (opposite d) f w n (opp_twice d ok w (name_point d ok a (get_or y a 0) la (choice.under a la))) h e r'

  sink_by : (a n : ℕ) → a < arc_count d.polygon → get_or x a 0 ≤ crossings_of d a → Names d a (get_or x a 0) n → get_or y a 0 ≢ get_or x a 0 → f n ≡ 1 → Sink (opposite d) f n
  sink_by a n la l h ne e =
      let w = point_name d a (get_or x a 0) in
      let one : stands_in y a (get_or x a 0) ≡ false = ne_eqb _ _ ne in
      let two : stands_in x a (get_or x a 0) ≡ true = eq-eqb _ _ refl in
      let r = rule_at_name d ok area inner y x dom.rules a (get_or x a 0) la l in
      let r' : PointRule false true (f (suc w) + f (suc (opposite d w))) (f w + f (opposite d w))
      = subst (λ c. PointRule false c (f (suc w) + f (suc (opposite d w))) (f w + f (opposite d w))) two
      (subst (λ b. PointRule b (stands_in x a (get_or x a 0)) (f (suc w) + f (suc (opposite d w))) (f w + f (opposite d w))) one r) in
      sink_named (opposite d) f w n (opp_twice d ok w (name_point d ok a (get_or x a 0) la l)) h e r'

  -- what a try that finds the set and leads to x must be
  pub record Fixed (t : Try) : Type 0 where
    pub is_try : IsTry d y t
    pub same_width : t.width ≤ room d t.start
    pub start_source : Source (opposite d) f t.start
    pub end_sink : Sink (opposite d) f (t.start + t.width)
    pub end_names : Names d t.first (get_or x t.first 0) (t.start + t.width)
    pub end_under : get_or x t.first 0 ≤ crossings_of d t.first
    pub stop_source : t.first < t.second → Source (opposite d) f t.stop
    pub first_moves : get_or y t.first 0 ≢ get_or x t.first 0
    pub second_moves : get_or y t.second 0 ≢ get_or x t.second 0
    pub no_other : (a : ℕ) → get_or y a 0 ≢ get_or x a 0 → (a ≡ t.first) ⊎ (a ≡ t.second)

  module _ (t : Try) (is : IsTry d y t) (inner_rows : rows_inner d t ≡ true) (ends : comes_to_end d t ≡ true) (leads : target d y t ≡ x) (finds : found d t ≡ area) where
    abbrev v : ℕ
    v = point_of d (t.start + t.width)

    abbrev w : ℕ
    w = point_of d (t.stop + t.width)

    some_side : 0 < sides d.polygon
    some_side = let l = ok.polygon.first_in_range t.first is.first_under in omega arith

    marked : (a i : ℕ) → Mem a (rows d t) → i < t.width → f (suc (a + i)) ≡ 1
    marked a i m l = subst (λ z. mark d z (suc (a + i)) ≡ 1) finds (row_on d ok t some_side inner_rows a i m l)

    first_under : t.first < length y
    first_under = let l = choice.long in let u = is.first_under in omega arith

    start_point : IsPoint d t.start × (arc_of d t.start ≡ t.first) × (point_of d t.start ≡ get_or y t.first 0)
    start_point = name_is d ok t.first (get_or y t.first 0) t.start is.first_under (choice.under t.first is.first_under) is.start_names

    first_row : Mem t.start (rows d t)
    first_row = sweep_first (other_of d) (opposite d) (is_last t) t.width (span_count d) t.start (let l = point_under d ok t.start start_point.0 in omega arith)

    at_start : f (suc t.start) ≡ 1
    at_start = let z : t.start + 0 ≡ t.start = omega arith in subst (λ n. f (suc n) ≡ 1) z (marked t.start 0 first_row is.positive)

    at_end : (a : ℕ) → Mem a (rows d t) → f (a + t.width) ≡ 1
    at_end a m =
        let z : suc (a + (t.width - 1)) ≡ a + t.width = let p = is.positive in omega arith in
        subst (λ n. f n ≡ 1) z (marked a (t.width - 1) m (let p = is.positive in omega arith))

    -- where the target differs from y
    target_first : get_or x t.first 0 ≡ v
    target_first = subst (λ z. get_or z t.first 0 ≡ v) leads (elim is.second [
      | inl e ↦ (
          let q : w ≡ v = ap (λ n. point_of d (n + t.width)) e.1 in
          let s = get_or-set_same (set y t.first v) t.second w 0 (let l = length-set y t.first v in let u = first_under in omega (arith, l, e)) in
          subst (λ n. get_or (set (set y t.first v) t.second w) n 0 ≡ v) e.0 (s ∙ q))
      | inr e ↦ get_or-set_other (set y t.first v) t.second t.first w 0 (λ q. omega (arith, e)) ∙ get_or-set_same y t.first v 0 first_under
    ])

    second_here : (t.second < length y) × IsPoint d t.stop × (arc_of d t.stop ≡ t.second) × (point_of d t.stop ≡ get_or y t.second 0) × (t.width ≤ room d t.stop)
    second_here = elim is.second [
      | inl e ↦ (
          let s = start_point in (
            let u = first_under in omega (arith, e),
            subst (λ n. IsPoint d n) (sym e.1) s.0,
            ap (arc_of d) e.1 ∙ (s.1 ∙ sym e.0),
            ap (point_of d) e.1 ∙ (s.2 ∙ ap (λ a. get_or y a 0) (sym e.0)),
            subst (λ n. t.width ≤ room d n) (sym e.1) is.fits,
          ))
      | inr (l, u, h, r) ↦ (
          let s = name_is d ok t.second (get_or y t.second 0) t.stop u (choice.under t.second u) h in
          (let l = choice.long in omega arith, s.0, s.1, s.2, r))
    ]

    target_second : get_or x t.second 0 ≡ w
    target_second = subst (λ z. get_or z t.second 0 ≡ w) leads
        (get_or-set_same (set y t.first v) t.second w 0 (let l = length-set y t.first v in let u = second_here.0 in omega (arith, l)))

    only : (a : ℕ) → get_or y a 0 ≢ get_or x a 0 → (a ≡ t.first) ⊎ (a ≡ t.second)
    only a ne = elim (cases_eq a t.first) [
      | inl e ↦ inl e
      | inr n ↦ elim (cases_eq a t.second) [
        | inl e ↦ inr e
        | inr k ↦ absurd (ne (subst (λ z. get_or y a 0 ≡ get_or z a 0) leads (sym (get_or-set_other (set y t.first v) t.second a w 0 k ∙ get_or-set_other y t.first a v 0 n))))
      ]
    ]

    moves_first : get_or y t.first 0 ≢ get_or x t.first 0
    moves_first e = shift_moves d ok t.start t.width start_point.0 is.positive is.fits (start_point.2 ∙ (e ∙ target_first))

    moves_second : get_or y t.second 0 ≢ get_or x t.second 0
    moves_second e = let s = second_here in shift_moves d ok t.stop t.width s.1 is.positive s.4 (s.3 ∙ (e ∙ target_second))

    end_facts : Names d t.first (get_or x t.first 0) (t.start + t.width) × (get_or x t.first 0 ≤ crossings_of d t.first)
    end_facts =
        let s = shifted d ok t.start t.width start_point.0 is.fits in
        let (la, lj, h) = named d ok (t.start + t.width) s.0 in
        let e : arc_of d (t.start + t.width) ≡ t.first = s.1 ∙ start_point.1 in (
          subst (λ j. Names d t.first j (t.start + t.width)) (sym target_first) (subst (λ a. Names d a v (t.start + t.width)) e h),
          subst (λ j. j ≤ crossings_of d t.first) (sym target_first) (subst (λ a. v ≤ crossings_of d a) e lj),
        )

    at_stop : t.first < t.second → f (suc t.stop) ≡ 1
    at_stop l =
        let (z, m, k) = sweep_last (other_of d) (opposite d) (is_last t) t.width (span_count d) t.start ends in
        let ne : eqb t.first t.second ≡ false = ne_eqb _ _ (λ q. omega arith) in
        let k' : eqb (other_of d (z + t.width)) t.stop ≡ true = rw ne at k in
        let e = eqb-true _ _ k' in
        let h = at_end z m in
        let g = (set_mark d ok area inner).follows (z + t.width) (marked_is_point d ok area inner (z + t.width) h) in
        subst (λ n. f (suc n) ≡ 1) e (g ∙ h)

    pub fixed : Fixed t
    fixed = record {
      is_try = is;
      same_width = is.fits;
      start_source = source_by t.first t.start is.first_under is.start_names moves_first at_start;
      end_sink = sink_by t.first (t.start + t.width) is.first_under end_facts.1 end_facts.0 moves_first (at_end t.start first_row);
      end_names = end_facts.0;
      end_under = end_facts.1;
      stop_source = λ l. elim is.second [
        | inl e ↦ absurd (omega (arith, e))
        | inr (k, u, h, r) ↦ source_by t.second t.stop u h moves_second (at_stop l)
      ];
      first_moves = moves_first;
      second_moves = moves_second;
      no_other = only;
    }

  -- the set and its target fix the try
  pub fixed_once : (t u : Try) → Fixed t → Fixed u → t ≡ u
  fixed_once t u a b = whole
    where
      order_t : t.first ≤ t.second
      order_t = elim a.is_try.second [ inl e ↦ omega (arith, e) | inr e ↦ omega (arith, e) ]

      order_u : u.first ≤ u.second
      order_u = elim b.is_try.second [ inl e ↦ omega (arith, e) | inr e ↦ omega (arith, e) ]

      firsts : t.first ≡ u.first
      firsts =
          let p : u.first ≤ t.first = elim (b.no_other t.first a.first_moves) [ inl e ↦ omega arith | inr e ↦ omega (arith, order_u) ] in
          let q : t.first ≤ u.first = elim (a.no_other u.first b.first_moves) [ inl e ↦ omega arith | inr e ↦ omega (arith, order_t) ] in
          omega arith

      seconds : t.second ≡ u.second
      seconds =
          let p : t.second ≤ u.second = elim (b.no_other t.second a.second_moves) [ inl e ↦ omega (arith, order_u) | inr e ↦ omega arith ] in
          let q : u.second ≤ t.second = elim (a.no_other u.second b.second_moves) [ inl e ↦ omega (arith, order_t) | inr e ↦ omega arith ] in
          omega arith

      starts : t.start ≡ u.start
      starts =
          let l = a.is_try.first_under in
          let n : Names d t.first (get_or y t.first 0) u.start = subst (λ i. Names d i (get_or y i 0) u.start) (sym firsts) b.is_try.start_names in
          one_source d ok f t.first (get_or y t.first 0) t.start u.start l (choice.under t.first l) a.is_try.start_names n a.start_source b.start_source

      widths : t.width ≡ u.width
      widths =
          let l = a.is_try.first_under in
          let n : Names d t.first (get_or x t.first 0) (u.start + u.width) = subst (λ i. Names d i (get_or x i 0) (u.start + u.width)) (sym firsts) b.end_names in
          let e = one_sink d ok f t.first (get_or x t.first 0) (t.start + t.width) (u.start + u.width) l a.end_under a.end_names n a.end_sink b.end_sink in
          omega (arith, e, starts)

      stops : t.stop ≡ u.stop
      stops = elim a.is_try.second [
        | inl e ↦ elim b.is_try.second [
          | inl k ↦ e.1 ∙ (starts ∙ sym k.1)
          | inr (k, k1, k2, k3) ↦ absurd (omega (arith, e, k, firsts, seconds))
        ]
        | inr (l, lu, n, r) ↦ elim b.is_try.second [
          | inl k ↦ absurd (omega (arith, k, l, firsts, seconds))
          | inr (k, ku, m, q) ↦ (
              let m' : Names d t.second (get_or y t.second 0) u.stop = subst (λ i. Names d i (get_or y i 0) u.stop) (sym seconds) m in
              one_source d ok f t.second (get_or y t.second 0) t.stop u.stop lu (choice.under t.second lu) n m' (a.stop_source l) (b.stop_source k))
        ]
      ]

      same : (i j k l m i' j' k' l' m' : ℕ) → i ≡ i' → j ≡ j' → k ≡ k' → l ≡ l' → m ≡ m' → try i j k l m ≡ try i' j' k' l' m'
      same i j k l m i' j' k' l' m' e1 e2 e3 e4 e5 = rw (e1, e2, e3, e4, e5) refl

      whole : t ≡ u
      whole = same t.first t.start t.width t.second t.stop u.first u.start u.width u.second u.stop firsts starts widths seconds stops
