-- No set of inner pieces but the empty one has no corner.
use Rattle.std.proofs.Common.{◌≡◌, ℕ, suc, ◌<◌, inl, inr, true, List, [], get_or, refl, sym, ap, subst, arith, ◌∙◌}
use Rattle.drawing.specs.Pieces.{inner_pieces, piece_table}
use Rattle.drawing.specs.Points.{crossings_of, from_spans, to_spans}
use Rattle.drawing.specs.Round.{opposite, point_name}
use Rattle.drawing.proofs.Lists.{has_mem}
use Rattle.empty_domains.proofs.ArcPoints.{name_point, named_point}
use Rattle.empty_domains.proofs.Circle.{Balanced}
use Rattle.empty_domains.proofs.Diagram.{IsPoint, opp_twice}
use Rattle.empty_domains.proofs.DomainGeneral.{in_value, out_value}
use Rattle.empty_domains.proofs.Empty.{all_zero}
use Rattle.empty_domains.proofs.Finish.{inner_of}
use Rattle.empty_domains.proofs.NiceSets.{inner_first}
use Rattle.empty_domains.proofs.PieceMark.{set_mark}
use Rattle.hkm_diagram.proofs.ContactColumn.{mark}
use Rattle.hkm_diagram.proofs.Laws.{no_members}
use Rattle.hkm_diagram.specs.Domains.{met}
use Rattle.obd_base.proofs.lists.Parts.{mem_parts}
use Rattle.obd_base.specs.Lists.{Mem, has, parts}
use Rattle.page_surface.specs.Drawing.{Drawing, IsEmbedded}
use Rattle.page_surface.specs.Polygon.{arc_count}

module _ (d : Drawing) (ok : IsEmbedded d) (set : List ℕ) (part : Mem set (parts (inner_pieces d)))
    (even : (a : ℕ) → a < arc_count d.polygon → (j : ℕ) → j < suc (crossings_of d a) → met (piece_table d) set (from_spans d a j) ≡ met (piece_table d) set (to_spans d a j)) where
  inner : (s : ℕ) → has set s ≡ true → has (inner_pieces d) s ≡ true
  inner = inner_of d ok set part

  -- each point is balanced
  balanced : (n : ℕ) → IsPoint d n → Balanced (opposite d) (mark d set) n
  balanced n p =
      let (a, j, la, lj, h) = named_point d ok n p in
      let w = point_name d a j in
      let b : Balanced (opposite d) (mark d set) w = sym (out_value d ok set inner a j la lj) ∙ (even a la j (omega arith) ∙ in_value d ok set inner a j la lj) in
      let t : opposite d (opposite d w) ≡ w = opp_twice d ok w (name_point d ok a j la lj) in
      elim h [
        | inl e ↦ subst (λ k. Balanced (opposite d) (mark d set) k) (sym e) b
        | inr e ↦ subst (λ k. Balanced (opposite d) (mark d set) k) (sym e) (
            let u : mark d set (suc (opposite d (opposite d w))) ≡ mark d set (suc w) = ap (λ k. mark d set (suc k)) t in
            let v : mark d set (opposite d (opposite d w)) ≡ mark d set w = ap (mark d set) t in
            omega (arith, b, u, v))
      ]

  -- so the set is empty
  pub none_without_corners : set ≡ []
  none_without_corners = no_members set (λ s m. off s m (all_zero d ok (mark d set) (set_mark d ok set inner) balanced s))
    where
      off : (s : ℕ) → Mem s set → mark d set s ≡ 0 → ⊥
      off s m z =
          let first = (inner_first d s (mem_parts s set (inner_pieces d) part m)).0 in
          let has_it : has set (get_or (piece_table d) s 0) ≡ true = ap (has set) first ∙ has_mem set s m in
          let one : mark d set s ≡ 1 = rw has_it refl in
          absurd (omega (arith, z, one))
