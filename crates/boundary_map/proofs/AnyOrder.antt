-- The inner pieces in any order: trying all parts finds as many domains.
use Rattle.std.proofs.Common.{◌≡◌, ℕ, suc, ◌+◌, ◌*◌, ◌<◌, Bool, true, eqb, ◌&&◌, not, List, map, filter, length, get_or, sym, ◌∙◌, ap, ap₂, subst}
use mathlib.Core.Path.{fun_ext}
use Rattle.std.specs.List.{count_by, list_all, sum_by}
use Rattle.std.proofs.lemmas.List.{length-map}
use Rattle.boundary_map.proofs.SameMembers.{filter_part, once_by_members, part_filter, same_test, sum_same_members}
use Rattle.drawing.proofs.Lists.{has_mem, length_sum, mem_has}
use Rattle.drawing.specs.Pieces.{corners, inner_pieces, is_base, piece_table, pieces, span_count, spans}
use Rattle.drawing.specs.Points.{crossings_of, from_spans, to_spans}
use Rattle.hkm_diagram.proofs.Laws.{domain_test, each_domain_once}
use Rattle.hkm_diagram.specs.Domains.{IsDomain, PointRule, domains, is_domain, met, moved, rule_at, stands_in}
use Rattle.obd_base.proofs.lists.Below.{once_range}
use Rattle.obd_base.proofs.lists.Members.{filter_mem, mem_filter, mem_map, mem_to_map, once_filter}
use Rattle.obd_base.proofs.lists.Parts.{mem_parts, once_parts}
use Rattle.obd_base.specs.Lists.{Mem, Once, below, has, parts}
use Rattle.page_surface.specs.Drawing.{Drawing}
use Rattle.page_surface.specs.Polygon.{arc_count}

module _ (d : Drawing) (order : List ℕ) (once : Once order) (to : (z : ℕ) → Mem z order → Mem z (inner_pieces d)) (from : (z : ℕ) → Mem z (inner_pieces d) → Mem z order) where
  once_inner : Once (inner_pieces d)
  once_inner = once_filter (λ s. not (is_base d s)) (pieces d) (once_filter _ (spans d) (once_range 0 (span_count d)))

  -- a set in the order of the inner pieces
  abbrev pub sorted : List ℕ → List ℕ
  sorted s = filter (has s) (inner_pieces d)

  -- it has the same members
  same_has : (s : List ℕ) → Mem s (parts order) → has s ≡ has (sorted s)
  same_has s part = fun_ext (λ z. same_test (has s z) (has (sorted s) z)
      (λ h. has_mem (sorted s) z (filter_mem (has s) z (inner_pieces d) (to z (mem_parts z s order part (mem_has s z h))) h))
      (λ h. (mem_filter (has s) z (inner_pieces d) (mem_has (sorted s) z h)).1))

  -- so the same spans are met,
  pub same_met : (s : List ℕ) → Mem s (parts order) → met (piece_table d) s ≡ met (piece_table d) (sorted s)
  same_met s part =
      let by : (ℕ → Bool) → List ℕ → ℕ = λ h qs. count_by (λ q. h (get_or (piece_table d) q 0)) qs in
      ap by (same_has s part)

  -- and sums are the same
  same_sum : (f : ℕ → ℕ) (s : List ℕ) → Mem s (parts order) → sum_by f s ≡ sum_by f (sorted s)
  same_sum f s part =
      sum_same_members f s (sorted s)
      (subst (λ w. Once w) (sym (part_filter s order once part)) (once_filter (has s) order once))
      (once_filter (has s) (inner_pieces d) once_inner)
      (λ z m. filter_mem (has s) z (inner_pieces d) (to z (mem_parts z s order part m)) (has_mem s z m))
      (λ z m. mem_has s z (mem_filter (has s) z (inner_pieces d) m).1)

  -- and lengths too
  same_length : (s : List ℕ) → Mem s (parts order) → length s ≡ length (sorted s)
  same_length s part = length_sum s ∙ (same_sum (λ x. 1) s part ∙ sym (length_sum (sorted s)))

  -- so it is a domain where the sorted one is
  pub same_domain : (y x s : List ℕ) → Mem s (parts order) → is_domain d (piece_table d) y x s ≡ is_domain d (piece_table d) y x (sorted s)
  same_domain y x s part = ap₂ (λ (p q : Bool). p && q)
      (ap₂ (λ a b. eqb (4 * a + moved d y x) (4 + b)) (same_length s part) (same_sum (corners d) s part))
      (ap (λ (m : List ℕ → ℕ). list_all (λ a. list_all (λ j. rule_at (stands_in y a j) (stands_in x a j) (m (from_spans d a j)) (m (to_spans d a j))) (below (suc (crossings_of d a)))) (below (arc_count d.polygon))) (same_met s part))

  -- a set that passes is a domain when it is sorted
  pub sorted_domain : (y x s : List ℕ) → Mem s (parts order) → is_domain d (piece_table d) y x s ≡ true → IsDomain d y x (sorted s)
  sorted_domain y x s part t = (domain_test d y x (sorted s) (filter_part (has s) (inner_pieces d))).0 (sym (same_domain y x s part) ∙ t)

  -- and keeps the rules itself
  pub passing_rules : (y x s : List ℕ) → Mem s (parts order) → is_domain d (piece_table d) y x s ≡ true → (a : ℕ) → a < arc_count d.polygon → (j : ℕ) → j < suc (crossings_of d a)
      → PointRule (stands_in y a j) (stands_in x a j) (met (piece_table d) s (from_spans d a j)) (met (piece_table d) s (to_spans d a j))
  passing_rules y x s part t a la j lj = subst (λ (m : List ℕ → ℕ). PointRule (stands_in y a j) (stands_in x a j) (m (from_spans d a j)) (m (to_spans d a j))) (sym (same_met s part))
      ((sorted_domain y x s part t).rules a la j lj)

  -- as many parts pass as there are domains
  pub domain_number : (y x : List ℕ) → length (filter (is_domain d (piece_table d) y x) (parts order)) ≡ length (domains d y x)
  domain_number y x = sym (length-map (filter (is_domain d (piece_table d) y x) (parts order)) sorted) ∙ each_domain_once d y x (map sorted (filter (is_domain d (piece_table d) y x) (parts order))) different sound complete
    where
      different : Once (map sorted (filter (is_domain d (piece_table d) y x) (parts order)))
      different = once_by_members sorted (filter (is_domain d (piece_table d) y x) (parts order))
          (λ s u m n e.
          let i = (mem_filter (is_domain d (piece_table d) y x) s (parts order) m).0 in
          let j = (mem_filter (is_domain d (piece_table d) y x) u (parts order) n).0 in
          let h : has s ≡ has u = same_has s i ∙ (ap (λ (w : List ℕ). has w) e ∙ sym (same_has u j)) in
          part_filter s order once i ∙ (ap (λ (p : ℕ → Bool). filter p order) h ∙ sym (part_filter u order once j)))
          (once_filter (is_domain d (piece_table d) y x) (parts order) (once_parts order once))

      sound : (set : List ℕ) → Mem set (map sorted (filter (is_domain d (piece_table d) y x) (parts order))) → IsDomain d y x set
      sound set m =
          let (s, k, e) = mem_map sorted set (filter (is_domain d (piece_table d) y x) (parts order)) m in
          let (part, t) = mem_filter (is_domain d (piece_table d) y x) s (parts order) k in
          subst (λ w. IsDomain d y x w) (sym e) (sorted_domain y x s part t)

      complete : (set : List ℕ) → IsDomain d y x set → Mem set (map sorted (filter (is_domain d (piece_table d) y x) (parts order)))
      complete set dom =
          let s = filter (has set) order in
          let part : Mem s (parts order) = filter_part (has set) order in
          let h : has s ≡ has set = fun_ext (λ z. same_test (has s z) (has set z)
          (λ q. (mem_filter (has set) z order (mem_has s z q)).1)
          (λ q. has_mem s z (filter_mem (has set) z order (from z (mem_parts z set (inner_pieces d) dom.inner (mem_has set z q))) q))) in
          let e : sorted s ≡ set = ap (λ (p : ℕ → Bool). filter p (inner_pieces d)) h ∙ sym (part_filter set (inner_pieces d) once_inner dom.inner) in
          let t : (is_domain d (piece_table d) y x) s ≡ true = same_domain y x s part ∙ (ap (is_domain d (piece_table d) y x) e ∙ (domain_test d y x set dom.inner).1 dom) in
          subst (λ w. Mem w (map sorted (filter (is_domain d (piece_table d) y x) (parts order)))) e (mem_to_map sorted s (filter (is_domain d (piece_table d) y x) (parts order)) (filter_mem (is_domain d (piece_table d) y x) s (parts order) part t))
