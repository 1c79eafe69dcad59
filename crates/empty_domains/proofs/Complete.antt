-- The walk finds each domain.
use Rattle.std.proofs.Common.{◌≡◌, ℕ, suc, ◌+◌, ◌-◌, ◌*◌, ◌≤◌, ◌<◌, ◌⊎◌, inl, inr, ◌≢◌, Bool, true, false, eqb, not, List, [], length, get_or, set, refl, sym, ap, subst, arith, ◌∙◌}
use Rattle.std.specs.List.{count_by, sum_by, range_with_len}
use Rattle.std.proofs.lemmas.Bool.{cases_eq, cases_lt, false≢true, eq-eqb, ne_eqb}
use Rattle.std.proofs.lemmas.List.{length-set, get_or-set_same, get_or-set_other, ext_get_or}
use mathlib.Core.Path.{fun_ext}
use Rattle.drawing.specs.Pieces.{inner_pieces, span_count, piece_table, corners}
use Rattle.drawing.specs.Points.{is_generator}
use Rattle.drawing.specs.Round.{opposite, arc_of, point_of}
use Rattle.empty_domains.proofs.Along.{named}
use Rattle.empty_domains.proofs.Begins.{IsChoice, Begins, begins, general, source_arc, sink_arc, source_is, sink_is}
use Rattle.empty_domains.proofs.Circle.{IsMark, IsGeneral, Balanced, Source, Sink, Corner, even, out, out_opp, into, into_opp, point_opp}
use Rattle.empty_domains.proofs.Diagram.{IsCross, IsEnd, IsPoint, other_of}
use Rattle.empty_domains.proofs.Empty.{all_zero}
use Rattle.empty_domains.proofs.Finish.{inner_of, finds, tries_well}
use Rattle.empty_domains.proofs.ListFacts.{sum_at_most, sum_less, count_first, count_zero}
use Rattle.empty_domains.proofs.NiceSets.{set_nice, few_corners, bigon_corners, marked_piece}
use Rattle.empty_domains.proofs.PieceMark.{point_under}
use Rattle.empty_domains.proofs.Row.{IsNiceMark}
use Rattle.empty_domains.proofs.Strands.{drawing_circle}
use Rattle.empty_domains.proofs.Total.{total, total_bits}
use Rattle.empty_domains.proofs.Trace.{Trace, bigon_trace, rectangle_trace}
use Rattle.empty_domains.proofs.Tries.{bigon_tried, rectangle_tried}
use Rattle.hkm_diagram.proofs.ContactColumn.{mark}
use Rattle.hkm_diagram.proofs.ContactLaw.{member_marked, nil_from_none}
use Rattle.empty_domains.specs.Walk.{Try, try, is_last, target, found, succeeds, tries}
use Rattle.hkm_diagram.specs.Domains.{IsDomain, moved}
use Rattle.obd_base.specs.Lists.{below, has, parts, Mem}
use Rattle.page_surface.specs.Drawing.{Drawing, IsEmbedded}
use Rattle.page_surface.specs.Polygon.{arc_count}
use Rattle.region_table.specs.Nice.{IsNice}
use Rattle.drawing.proofs.Lists.{mem_has}

module _ (d : Drawing) (ok : IsEmbedded d) (nice : IsNice d) (area : List ℕ) (part : Mem area (parts (inner_pieces d)))
    (y x : List ℕ) (from : IsChoice d y) (to : IsChoice d x) (goal : is_generator d x ≡ true) (dom : IsDomain d y x area) where
  -- the marks of the set
  abbrev f : ℕ → ℕ
  f = mark d area

  -- its pieces aren't base
  abbrev inner : (s : ℕ) → has area s ≡ true → has (inner_pieces d) s ≡ true
  inner = inner_of d ok area part

  -- it is general
  abbrev gen : IsGeneral (other_of d) (opposite d) (IsCross d) (IsEnd d) f
  gen = general d ok area inner y x dom.rules from

  -- an edge on an arc
  abbrev Edge : ℕ → Type 0
  Edge i = Begins d ok area inner y x dom.rules from i

  edge_on : (i : ℕ) → i < arc_count d.polygon → get_or y i 0 ≢ get_or x i 0 → Edge i
  edge_on = begins d ok area inner y x dom.rules from

  nice_mark : IsNiceMark (other_of d) f
  nice_mark = set_nice d ok area inner nice

  empty : (h : ℕ → ℕ) → IsMark (other_of d) (IsCross d) (IsEnd d) h → ((n : ℕ) → IsPoint d n → Balanced (opposite d) h n) → (s : ℕ) → h s ≡ 0
  empty h m b = all_zero d ok h m b

  under : (n : ℕ) → IsCross d n → suc n < span_count d
  under n c = point_under d ok n (inl c)

  enough : total f (span_count d) < suc (span_count d)
  enough = let l = total_bits f (span_count d) gen.mark.bit in omega arith

  -- the arcs on which the generators differ
  abbrev differ : ℕ → Bool
  differ a = not (eqb (get_or y a 0) (get_or x a 0))

  same_at : (a : ℕ) → differ a ≡ false → get_or y a 0 ≡ get_or x a 0
  same_at a h = elim (cases_eq (get_or y a 0) (get_or x a 0)) [
    | inl e ↦ e
    | inr n ↦ absurd (let z : eqb (get_or y a 0) (get_or x a 0) ≡ false = ne_eqb _ _ n in let w : true ≡ false = rw z at h in false≢true (sym w))
  ]

  other_at : (a : ℕ) → differ a ≡ true → get_or y a 0 ≢ get_or x a 0
  other_at a h e = absurd (let z : eqb (get_or y a 0) (get_or x a 0) ≡ true = eq-eqb _ _ e in let w : false ≡ true = rw z at h in false≢true w)

  few : (s : ℕ) → Mem s area → corners d s ≤ 4
  few = few_corners d ok area inner nice

  -- a source or sink lies on an arc on which the generators differ
  source_on : (n : ℕ) → IsPoint d n → Source (opposite d) f n → (arc_of d n < arc_count d.polygon) × (get_or y (arc_of d n) 0 ≢ get_or x (arc_of d n) 0)
  source_on n p s =
      let (e, ne) = source_arc d ok area inner y x dom.rules from n p s in
      ((named d ok n p).0, λ q. ne (sym q ∙ e))

  sink_on : (n : ℕ) → IsPoint d n → Sink (opposite d) f n → (arc_of d n < arc_count d.polygon) × (get_or y (arc_of d n) 0 ≢ get_or x (arc_of d n) 0)
  sink_on n p s =
      let (e, ne) = sink_arc d ok area inner y x dom.rules from n p s in
      ((named d ok n p).0, λ q. ne (q ∙ e))

  -- no domain leads from a generator to itself
  pub not_same : ((a : ℕ) → a < arc_count d.polygon → get_or y a 0 ≡ get_or x a 0) → moved d y x ≡ 0 → ⊥
  not_same same none =
      let zero = empty f gen.mark balanced in
      let nil : area ≡ [] = nil_from_none area (λ s h. (let m = (member_marked d area inner s h).1 in let z = zero s in absurd (omega arith))) in
      let all = dom.corners_add_up in
      let all' : 4 * length (let z : List ℕ = [] in z) + moved d y x ≡ 4 + sum_by (corners d) [] = subst (λ z. 4 * length z + moved d y x ≡ 4 + sum_by (corners d) z) nil all in
      absurd (omega (arith, all', none))
    where
      balanced : (n : ℕ) → IsPoint d n → Balanced (opposite d) f n
      balanced n p = go (gen.point n p)
        where
          q : IsPoint d (opposite d n)
          q = point_opp (other_of d) (opposite d) (IsCross d) (IsEnd d) (drawing_circle d ok) f gen.mark n p

          go : Corner (opposite d) f n → Balanced (opposite d) f n
          go (even e) = e
          go (out s) = absurd (let (l, ne) = source_on n p s in ne (same _ l))
          go (out_opp s) = absurd (let (l, ne) = source_on (opposite d n) q s in ne (same _ l))
          go (into s) = absurd (let (l, ne) = sink_on n p s in ne (same _ l))
          go (into_opp s) = absurd (let (l, ne) = sink_on (opposite d n) q s in ne (same _ l))

  -- where four points are moved no piece is a bigon
  pub square : moved d y x ≡ 4 → (s : ℕ) → f s ≡ 1 → suc (other_of d s) ≢ s
  square four s e q =
      let t = get_or (piece_table d) s 0 in
      let m : Mem t area = mem_has area t (marked_piece d ok area inner s e) in
      let l = sum_less (corners d) area t few m (bigon_corners d ok area inner nice s e q) in
      absurd (omega (arith, l, four, dom.corners_add_up))

  -- the result: a try among the tries that succeeds, leads to x and finds the set
  pub record Found : Type 0 where
    pub by : Try
    pub tried : Mem by (tries d y)
    pub well : succeeds d y by ≡ true
    pub leads : target d y by ≡ x
    pub finds : found d by ≡ area
    -- the set taken apart row by row, with all that a walk may test of the rows
    pub trace : Trace (other_of d) (opposite d) (IsCross d) (is_last by) by.width f by.start

  -- one arc: a bigon
  pub one_arc : (i : ℕ) → i < arc_count d.polygon → get_or y i 0 ≢ get_or x i 0
      → ((a : ℕ) → a < arc_count d.polygon → a ≢ i → get_or y a 0 ≡ get_or x a 0) → Found
  one_arc i li ne others =
      let b = edge_on i li ne in
      let here : (n : ℕ) → (arc_of d n < arc_count d.polygon) × (get_or y (arc_of d n) 0 ≢ get_or x (arc_of d n) 0) → arc_of d n ≡ i
      = λ n (l, k). elim (cases_eq (arc_of d n) i) [ inl e ↦ e | inr w ↦ absurd (k (others (arc_of d n) l w)) ] in
      let trace = bigon_trace (other_of d) (opposite d) (IsCross d) (IsEnd d) (drawing_circle d ok) (span_count d) under empty
      (suc (span_count d)) f gen nice_mark b.start b.width b.edge enough
      (λ n p s. source_is d ok area inner y x dom.rules from i li b n p s (here n (source_on n p s)))
      (λ n p s. sink_is d ok area inner y x dom.rules from i li b n p s (here n (sink_on n p s))) in
      let t = try i b.start b.width i b.start in
      let last : (λ a c. eqb c a) ≡ is_last t = fun_ext (λ a. fun_ext (λ c. (let z : eqb i i ≡ true = eq-eqb i i refl in rw z refl))) in
      let trace' : Trace (other_of d) (opposite d) (IsCross d) (is_last t) b.width f b.start
      = subst (λ l. Trace (other_of d) (opposite d) (IsCross d) l b.width f b.start) last trace in
      let v = point_of d (b.start + b.width) in
      let leads : target d y t ≡ x = ext_get_or 0 (target d y t) x
      (length-set (set y i v) i v ∙ (length-set y i v ∙ (from.long ∙ sym to.long))) (λ k lk. entry i v li b.reaches others k
      (let l1 = length-set (set y i v) i v in let l2 = length-set y i v in let l3 = from.long in omega (arith, l1, l2, l3, lk))) in
      record {
        by = t;
        tried = bigon_tried d y i b.start b.width li b.names b.edge.positive b.fits;
        well = tries_well d ok area part t trace' y x goal dom leads;
        leads = leads;
        finds = finds d ok area part t trace';
        trace = trace';
      }
    where
      entry : (i v : ℕ) → i < arc_count d.polygon → get_or x i 0 ≡ v → ((a : ℕ) → a < arc_count d.polygon → a ≢ i → get_or y a 0 ≡ get_or x a 0)
          → (k : ℕ) → k < arc_count d.polygon → get_or (set (set y i v) i v) k 0 ≡ get_or x k 0
      entry i v li e others k lk = elim (cases_eq k i) [
        | inl q ↦ subst (λ n. get_or (set (set y i v) i v) n 0 ≡ get_or x n 0) (sym q)
            (get_or-set_same (set y i v) i v 0 (let l = length-set y i v in let m = from.long in omega (arith, l, m)) ∙ sym e)
        | inr n ↦ get_or-set_other (set y i v) i k v 0 n ∙ (get_or-set_other y i k v 0 n ∙ others k lk n)
      ]

  -- two arcs: a rectangle
  pub two_arcs : (i k : ℕ) → i < k → k < arc_count d.polygon → get_or y i 0 ≢ get_or x i 0 → get_or y k 0 ≢ get_or x k 0
      → ((a : ℕ) → a < arc_count d.polygon → a ≢ i → a ≢ k → get_or y a 0 ≡ get_or x a 0) → moved d y x ≡ 4 → Found
  two_arcs i k lik lk ni nk others four =
      let li : i < arc_count d.polygon = omega arith in
      let b = edge_on i li ni in
      let c = edge_on k lk nk in
      let here : (n : ℕ) → (arc_of d n < arc_count d.polygon) × (get_or y (arc_of d n) 0 ≢ get_or x (arc_of d n) 0) → (arc_of d n ≡ i) ⊎ (arc_of d n ≡ k)
      = λ n (l, w). elim (cases_eq (arc_of d n) i) [
        | inl e ↦ inl e
        | inr u ↦ elim (cases_eq (arc_of d n) k) [ inl e ↦ inr e | inr v ↦ absurd (w (others (arc_of d n) l u v)) ]
      ] in
      let apart : c.start ≢ b.start = λ e. absurd (let q : k ≡ i = sym c.lies ∙ (ap (arc_of d) e ∙ b.lies) in omega arith) in
      let (trace, end) = rectangle_trace (other_of d) (opposite d) (IsCross d) (IsEnd d) (drawing_circle d ok) (span_count d) under empty
      (suc (span_count d)) c.start (c.start + c.width) f gen nice_mark b.start b.width b.edge enough (square four) c.source apart
      (λ n p s. elim (here n (source_on n p s)) [
        | inl e ↦ inl (source_is d ok area inner y x dom.rules from i li b n p s e)
        | inr e ↦ inr (source_is d ok area inner y x dom.rules from k lk c n p s e)
      ])
      (λ n p s. elim (here n (sink_on n p s)) [
        | inl e ↦ inl (sink_is d ok area inner y x dom.rules from i li b n p s e)
        | inr e ↦ inr (sink_is d ok area inner y x dom.rules from k lk c n p s e)
      ]) in
      let same : b.width ≡ c.width = omega arith in
      let t = try i b.start b.width k c.start in
      let last : (λ a e. eqb e c.start) ≡ is_last t = fun_ext (λ a. fun_ext (λ e. (let z : eqb i k ≡ false = ne_eqb i k (λ q. omega arith) in rw z refl))) in
      let trace' : Trace (other_of d) (opposite d) (IsCross d) (is_last t) b.width f b.start
      = subst (λ l. Trace (other_of d) (opposite d) (IsCross d) l b.width f b.start) last trace in
      let v = point_of d (b.start + b.width) in
      let w = point_of d (c.start + b.width) in
      let reach : get_or x k 0 ≡ w = c.reaches ∙ ap (λ n. point_of d (c.start + n)) (sym same) in
      let leads : target d y t ≡ x = ext_get_or 0 (target d y t) x
      (length-set (set y i v) k w ∙ (length-set y i v ∙ (from.long ∙ sym to.long))) (λ a la. entry i k v w lik lk b.reaches reach others a
      (let l1 = length-set (set y i v) k w in let l2 = length-set y i v in let l3 = from.long in omega (arith, l1, l2, l3, la))) in
      record {
        by = t;
        tried = rectangle_tried d y i b.start b.width k c.start lik lk b.names b.edge.positive b.fits c.names (let u = c.fits in omega arith);
        well = tries_well d ok area part t trace' y x goal dom leads;
        leads = leads;
        finds = finds d ok area part t trace';
        trace = trace';
      }
    where
      entry : (i k v w : ℕ) → i < k → k < arc_count d.polygon → get_or x i 0 ≡ v → get_or x k 0 ≡ w
          → ((a : ℕ) → a < arc_count d.polygon → a ≢ i → a ≢ k → get_or y a 0 ≡ get_or x a 0)
          → (a : ℕ) → a < arc_count d.polygon → get_or (set (set y i v) k w) a 0 ≡ get_or x a 0
      entry i k v w l lk e g others a la = elim (cases_eq a k) [
        | inl q ↦ subst (λ n. get_or (set (set y i v) k w) n 0 ≡ get_or x n 0) (sym q)
            (get_or-set_same (set y i v) k w 0 (let u = length-set y i v in let m = from.long in omega (arith, u, m)) ∙ sym g)
        | inr n ↦ get_or-set_other (set y i v) k a w 0 n ∙ elim (cases_eq a i) [
          | inl q ↦ subst (λ n. get_or (set y i v) n 0 ≡ get_or x n 0) (sym q) (get_or-set_same y i v 0 (let m = from.long in omega (arith, m)) ∙ sym e)
          | inr z ↦ get_or-set_other y i a v 0 z ∙ others a la z n
        ]
      ]

  -- each domain is found
  pub complete : Found
  complete =
      let n = arc_count d.polygon in
      let sum = sum_at_most (corners d) area few in
      let add = dom.corners_add_up in
      elim (cases_eq (count_by differ (below n)) 0) [
        | inl z ↦ absurd (not_same (λ a l. same_at a (count_zero differ 0 n z a (omega arith) (omega arith))) (omega arith))
        | inr nz ↦ one (count_first differ 0 n (omega arith))
      ]
    where
      N : ℕ
      N = arc_count d.polygon

      one : (i : ℕ) × (0 ≤ i) × (i < 0 + N) × (differ i ≡ true) × ((a : ℕ) → 0 ≤ a → a < i → differ a ≡ false)
          × (count_by differ (below N) ≡ suc (count_by differ (range_with_len (suc i) (0 + N - suc i)))) → Found
      one (i, _, li, di, before, count) =
          elim (cases_eq (count_by differ (range_with_len (suc i) (0 + N - suc i))) 0) [
            | inl z ↦ one_arc i (omega arith) (other_at i di) (λ a la ne. same_at a (elim (cases_lt a i) [
              | inl l ↦ before a (omega arith) l
              | inr l ↦ count_zero differ (suc i) (0 + N - suc i) z a (omega arith) (omega arith)
            ]))
            | inr nz ↦ two i li di before count (count_first differ (suc i) (0 + N - suc i) (omega arith))
          ]
        where
          two : (i : ℕ) → i < 0 + N → differ i ≡ true → ((a : ℕ) → 0 ≤ a → a < i → differ a ≡ false)
              → count_by differ (below N) ≡ suc (count_by differ (range_with_len (suc i) (0 + N - suc i)))
              → (k : ℕ) × (suc i ≤ k) × (k < suc i + (0 + N - suc i)) × (differ k ≡ true) × ((a : ℕ) → suc i ≤ a → a < k → differ a ≡ false)
              × (count_by differ (range_with_len (suc i) (0 + N - suc i)) ≡ suc (count_by differ (range_with_len (suc k) (suc i + (0 + N - suc i) - suc k)))) → Found
          two i li di before count (k, lik, lk, dk, between, more) =
              let sum = sum_at_most (corners d) area few in
              let add = dom.corners_add_up in
              let rest : count_by differ (range_with_len (suc k) (suc i + (0 + N - suc i) - suc k)) ≡ 0 = omega arith in
              two_arcs i k lik (omega arith) (other_at i di) (other_at k dk) (λ a la ni nk. same_at a (elim (cases_lt a i) [
                | inl l ↦ before a (omega arith) l
                | inr l ↦ elim (cases_lt a k) [
                  | inl u ↦ between a (omega arith) u
                  | inr u ↦ count_zero differ (suc k) (suc i + (0 + N - suc i) - suc k) rest a (omega arith) (omega arith)
                ]
              ])) (omega arith)
