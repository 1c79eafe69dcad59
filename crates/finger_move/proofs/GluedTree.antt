-- The pieces of a drawing, joined by glued segments, form a tree in which paths can be followed.
use Rattle.std.proofs.Common.{◌≡◌, ℕ, suc, ◌+◌, ◌-◌, ◌<◌, ◌≤◌, List, [], ◌∷◌, map, length, refl, sym, ◌∙◌, ap, subst, arith, ◌⊎◌, inl, inr}
use Rattle.std.specs.List.{flat_map}
use Rattle.std.proofs.lemmas.List.{length-map}
use Rattle.obd_base.specs.Lists.{Mem, below}
use Rattle.obd_base.proofs.lists.Below.{below_mem}
use Rattle.obd_base.proofs.lists.Members.{mem_map}
use Rattle.page_surface.specs.Drawing.{Drawing, IsEmbedded, exit, offset, points_on, spot}
use Rattle.page_surface.specs.Polygon.{arc, arc_count, first_side, partner, second_side, sides}
use Rattle.page_surface.proofs.Partners.{points_partner}
use Rattle.drawing.specs.Pieces.{gap, piece_of, pieces}
use Rattle.drawing.specs.Points.{crossings_of}
use Rattle.drawing.specs.Trees.{Link, Linked, along, back, glued_link, glued_links, here}
use Rattle.drawing.proofs.Laws.{name_listed}
use Rattle.drawing.proofs.Lists.{mem_flat, mem_to_map}
use Rattle.drawing.proofs.TreeLaws.{glued_tree}
use Rattle.obd_base.proofs.lists.Maps.{map_flat, flat_same}
use Rattle.drawing.proofs.Spots.{offset_rises}
use Rattle.finger_move.specs.Glued.{glued_to}
use Rattle.finger_move.proofs.Paths.{IsTree, Joins}
use Rattle.finger_move.proofs.Segments.{IsSegment, glued_is}
use Rattle.finger_move.proofs.Trees.{Edge, Joined}
use Rattle.finger_move.proofs.Trees

-- a segment of an arc's first side and the one that it is glued to
abbrev pub glued_edge : Drawing → ℕ → ℕ → Edge
glued_edge d a j = record { one = spot d (exit (first_side d.polygon a) j); other = spot d (exit (second_side d.polygon a) (crossings_of d a - j)) }

-- all such pairs
abbrev pub glued_edges : Drawing → List Edge
glued_edges d = flat_map (λ a. map (glued_edge d a) (below (suc (crossings_of d a)))) (below (arc_count d.polygon))

-- the link of two pieces
abbrev link_of : Drawing → Edge → Link
link_of d e = record { one = piece_of d e.one; other = piece_of d e.other }

pub map_map : {A B C : Type 0} (f : A → B) (g : B → C) (xs : List A) → map g (map f xs) ≡ map (λ x. g (f x)) xs
map_map f g [] = refl
map_map f g (x ∷ xs) = ap (λ w. g (f x) ∷ w) (map_map f g xs)

links_are : (d : Drawing) → map (link_of d) (glued_edges d) ≡ glued_links d
links_are d =
    map_flat (link_of d) (λ a. map (glued_edge d a) (below (suc (crossings_of d a)))) (below (arc_count d.polygon))
    ∙ flat_same (λ a. map (link_of d) (map (glued_edge d a) (below (suc (crossings_of d a))))) (λ a. map (glued_link d a) (below (suc (crossings_of d a)))) (below (arc_count d.polygon))
    (λ a m. map_map (glued_edge d a) (link_of d) (below (suc (crossings_of d a))))

-- a way over links is one over glued segments
linked_joined : (d : Drawing) {v w : ℕ} → Linked (glued_links d) v w → Joined (piece_of d) (glued_edges d) v w
linked_joined d here = Trees.there
linked_joined d {v = v} (along {link = link} m r) =
    let (e, i, q) = mem_map (link_of d) link (glued_edges d) (subst (λ ls. Mem link ls) (sym (links_are d)) m) in
    Trees.back e i (ap (λ (x : Link). x.other) q) (subst (λ x. Joined (piece_of d) (glued_edges d) v x) (ap (λ (x : Link). x.one) q) (linked_joined d r))
linked_joined d {v = v} (back {link = link} m r) =
    let (e, i, q) = mem_map (link_of d) link (glued_edges d) (subst (λ ls. Mem link ls) (sym (links_are d)) m) in
    Trees.along e i (ap (λ (x : Link). x.one) q) (subst (λ x. Joined (piece_of d) (glued_edges d) v x) (ap (λ (x : Link). x.other) q) (linked_joined d r))

module _ (d : Drawing) (ok : IsEmbedded d) where
  edge_listed : (a j : ℕ) → a < arc_count d.polygon → j ≤ crossings_of d a → Mem (glued_edge d a j) (glued_edges d)
  edge_listed a j la lj =
      mem_flat (λ a. map (glued_edge d a) (below (suc (crossings_of d a)))) (below (arc_count d.polygon)) a (glued_edge d a j) (below_mem _ a la)
      (mem_to_map (glued_edge d a) j (below (suc (crossings_of d a))) (below_mem (suc (crossings_of d a)) j (omega arith)))

  -- the pair of a segment
  edge_of : (s : ℕ) → IsSegment d s → (e : Edge) × Mem e (glued_edges d) × Joins (glued_to d) e s
  edge_of s h = go (ok.polygon.ends h.side h.side_in).is_end
    where
      k : ℕ
      k = h.side

      j : ℕ
      j = h.place

      a : ℕ
      a = arc d.polygon k

      la : a < arc_count d.polygon
      la = (ok.polygon.ends k h.side_in).arc_in_range

      f : ℕ
      f = first_side d.polygon a

      glue : glued_to d s ≡ offset d (partner d.polygon k) + (points_on d k - j)
      glue = ap (glued_to d) h.is ∙ glued_is d k j h.side_in h.place_in

      go : (k ≡ f) ⊎ (k ≡ second_side d.polygon a) → (e : Edge) × Mem e (glued_edges d) × Joins (glued_to d) e s
      go (inl e) =
          let l : j ≤ points_on d f = subst (λ x. j ≤ points_on d x) e h.place_in in (
            glued_edge d a j,
            edge_listed a j la l,
            inl (ap (λ x. offset d x + j) (sym e) ∙ sym h.is, ap (λ x. offset d (partner d.polygon x) + (points_on d x - j)) (sym e) ∙ sym glue),
          )
      go (inr e) =
          let same : points_on d k ≡ points_on d f = ap (points_on d) e ∙ points_partner d ok.polygon f in
          let partnered : partner d.polygon k ≡ f = ap (partner d.polygon) e ∙ ok.polygon.pairs.twice f in
          let l : points_on d f - j ≤ points_on d f = omega arith in
          let z : points_on d f - (points_on d f - j) ≡ j = omega (arith, same, h.place_in) in (
            glued_edge d a (points_on d f - j),
            edge_listed a (points_on d f - j) la l,
            inr (
              ap (λ x. offset d (second_side d.polygon a) + x) z ∙ (ap (λ x. offset d x + j) (sym e) ∙ sym h.is),
              ap (λ x. offset d x + (points_on d f - j)) (sym partnered) ∙ (ap (λ x. offset d (partner d.polygon k) + (x - j)) (sym same) ∙ sym glue),
            ),
          )

  -- the tree
  pub piece_tree : IsTree (piece_of d) (glued_to d) (IsSegment d)
  piece_tree =
      let t = glued_tree d ok in
      record {
        links = glued_edges d;
        pieces = pieces d;
        root = piece_of d (gap d 0);
        link = edge_of;
        once = t.different;
        joined = λ z m. linked_joined d (t.joined (piece_of d (gap d 0)) z root_in m);
        count = t.one_more ∙ ap suc (sym (ap length (links_are d)) ∙ length-map (glued_edges d) (link_of d));
      }
    where
      root_in : Mem (piece_of d (gap d 0)) (pieces d)
      root_in = name_listed d (gap d 0) (omega (arith, offset_rises d 0 (sides d.polygon) ok.polygon.not_empty))
