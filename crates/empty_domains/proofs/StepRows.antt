-- The rows of a step by the tables of a drawing: they begin at points, and the tests of the step read the same there.
use Rattle.std.proofs.Common.{◌≡◌, ℕ, zero, suc, ◌+◌, ◌≤◌, ◌<◌, inl, inr, Bool, true, false, not, List, [], ◌∷◌, ◌++◌, get_or, length, refl, sym, ap, ap₂, subst, arith, ◌∙◌}
use Rattle.std.specs.List.{list_all}
use Rattle.std.proofs.lemmas.Bool.{and_parts}
use Rattle.drawing.specs.Pieces.{is_base, span_count}
use Rattle.drawing.specs.Round.{opposite}
use Rattle.empty_domains.proofs.AllBelow.{all_same}
use Rattle.empty_domains.proofs.Begins.{IsChoice}
use Rattle.empty_domains.proofs.Collected.{chain_push, starts_push}
use Rattle.empty_domains.proofs.ArcPoints.{opp_point}
use Rattle.empty_domains.proofs.Diagram.{IsPoint, other_of}
use Rattle.empty_domains.proofs.Strands.{other_point}
use Rattle.empty_domains.proofs.Grounded.{opposite_by, other_by}
use Rattle.empty_domains.proofs.Rows.{chain_point, row_point_at}
use Rattle.empty_domains.proofs.StripFacts.{IsRows, row_from, strip_known}
use Rattle.empty_domains.proofs.StripSteps.{read_is_try}
use Rattle.empty_domains.proofs.Along.{name_is, shifted}
use Rattle.empty_domains.specs.Ground.{Ground, IsGround}
use Rattle.empty_domains.specs.Strip.{Step, all_strips, no_rows, none_last, strip_from, strips_on}
use Rattle.empty_domains.specs.Sweep.{chain, starts}
use Rattle.empty_domains.specs.Walk.{is_last, names, room}
use Rattle.drawing.proofs.Lists.{flat_mem}
use Rattle.obd_base.specs.Lists.{Mem, below}
use Rattle.page_surface.specs.Drawing.{Drawing, IsEmbedded}
use Rattle.page_surface.specs.Polygon.{arc_count}

-- the starts of rows are those of the chain
pub start_on : (other opp : ℕ → ℕ) (a n m : ℕ) → m < n → get_or (starts other opp a n) m 0 ≡ chain other opp a m
start_on other opp a zero m l = absurd (omega arith)
start_on other opp a (suc n) zero l = refl
start_on other opp a (suc n) (suc m) l = start_on other opp (opp (other a)) n m (omega arith)

-- a member of the starts is one of the chain
pub on_chain : (other opp : ℕ → ℕ) (a n x : ℕ) → Mem x (starts other opp a n) → (m : ℕ) × (m < n) × (x ≡ chain other opp a m)
on_chain other opp a zero x k = absurd k
on_chain other opp a (suc n) x (inl e) = (0, omega arith, e)
on_chain other opp a (suc n) x (inr k) = let (m, l, e) = on_chain other opp (opp (other a)) n x k in (suc m, omega arith, e)

-- one row more
pub start_grown : (other opp : ℕ → ℕ) (a n m at next : ℕ) (rows after : List ℕ) → m ≡ suc n → at ≡ chain other opp a n → next ≡ opp (other at) → rows ≡ starts other opp a n → after ≡ rows ++ at ∷ []
    → (next ≡ chain other opp a m) × (after ≡ starts other opp a m)
start_grown other opp a n m at next rows after e here on so_far grown = (
  on ∙ (ap (λ z. opp (other z)) here ∙ (sym (chain_push other opp a n) ∙ ap (chain other opp a) (sym e))),
  grown ∙ (ap₂ (λ us u. us ++ u ∷ []) so_far here ∙ (sym (starts_push other opp a n) ∙ ap (starts other opp a) (sym e))),
)

-- as many as are asked for
pub starts_length : (other opp : ℕ → ℕ) (a n : ℕ) → length (starts other opp a n) ≡ n
starts_length other opp a zero = refl
starts_length other opp a (suc n) = ap suc (starts_length other opp (opp (other a)) n)

module _ (d : Drawing) (ok : IsEmbedded d) (y : List ℕ) (choice : IsChoice d y) (s : Step) (read : Mem s (all_strips d y)) where
  -- what is known of a step that is read off
  pub rows_known : IsRows d y s.by s.by.start s.steps
  rows_known =
      let (i, mi, w) = flat_mem (strips_on d y) (below (arc_count d.polygon)) s read in
      let (a, n, v) = flat_mem (strip_from d y i) (names d i (get_or y i 0)) s w in
      let (k, l, e, b, u, r) = strip_known d y i a (span_count d) a (room d a) 0 (no_rows d) s v in
      let q : s.steps ≡ k = omega arith in
      subst (λ z. IsRows d y s.by z s.steps) (sym b) (subst (λ z. IsRows d y s.by a z) (sym q) r)

  -- its number is below that of the spans
  pub steps_under : s.steps < span_count d
  steps_under =
      let (i, mi, w) = flat_mem (strips_on d y) (below (arc_count d.polygon)) s read in
      let (a, n, v) = flat_mem (strip_from d y i) (names d i (get_or y i 0)) s w in
      let (k, l, e, b, u, r) = strip_known d y i a (span_count d) a (room d a) 0 (no_rows d) s v in
      omega arith

  -- its second arc is one
  pub second_under : s.by.second < arc_count d.polygon
  second_under =
      let t = read_is_try d ok y choice s read in
      elim t.second [ inl q ↦ (let l = t.first_under in let e = q.0 in omega arith) | inr q ↦ q.1 ]

  -- it begins at a point
  pub start_point : IsPoint d s.by.start
  start_point =
      let t = read_is_try d ok y choice s read in
      (name_is d ok s.by.first (get_or y s.by.first 0) s.by.start t.first_under (choice.under s.by.first t.first_under) t.start_names).0

  -- the far ends of its edges on arcs are points
  pub far_start : IsPoint d (s.by.start + s.by.width)
  far_start = (shifted d ok s.by.start s.by.width start_point (read_is_try d ok y choice s read).fits).0

  pub far_stop : IsPoint d (s.by.stop + s.by.width)
  far_stop =
      let t = read_is_try d ok y choice s read in
      elim t.second [
        | inl q ↦ subst (λ z. IsPoint d (z + s.by.width)) (sym q.1) far_start
        | inr q ↦ (shifted d ok s.by.stop s.by.width (name_is d ok s.by.second (get_or y s.by.second 0) s.by.stop q.1 (choice.under s.by.second q.1) q.2).0 q.3).0
      ]

  -- the points of its rows are points
  pub row_points : (m i : ℕ) → m ≤ s.steps → i ≤ s.by.width → IsPoint d (row_from d s.by.start m + i)
  row_points m i lm li =
      row_point_at d ok (row_from d s.by.start m) s.by.width (chain_point d ok m s.by.start start_point)
      (λ j lj. not_off (is_base d (suc (row_from d s.by.start m + j))) (and_parts (not (is_base d (suc (row_from d s.by.start m + j)))) _ (rows_known.each m lm j lj)).0) i li
    where
      not_off : (b : Bool) → not b ≡ true → b ≡ false
      not_off true h = sym h
      not_off false h = refl

  module _ (g : Ground) (is : IsGround d g) where
    -- by the tables the rows begin at the same points
    pub same_starts : (n a : ℕ) → IsPoint d a → starts (λ x. get_or g.other x 0) (λ x. get_or g.opposite x 0) a n ≡ starts (other_of d) (opposite d) a n
    same_starts zero a p = refl
    same_starts (suc n) a p =
        let b = other_by d ok g is a p in
        let pb = other_point d ok a p in
        let o : get_or g.opposite (get_or g.other a 0) 0 ≡ opposite d (other_of d a) = ap (λ z. get_or g.opposite z 0) b ∙ opposite_by d ok g is (other_of d a) pb in
        ap (λ zs. a ∷ zs) (ap (λ z. starts (λ x. get_or g.other x 0) (λ x. get_or g.opposite x 0) z n) o ∙ same_starts n (opposite d (other_of d a)) (opp_point d ok (other_of d a) pb))

    module _ (rows : List ℕ) (rows_are : rows ≡ starts (λ x. get_or g.other x 0) (λ x. get_or g.opposite x 0) s.by.start (suc s.steps)) where
      -- so these are the rows
      pub told_rows : rows ≡ starts (other_of d) (opposite d) s.by.start (suc s.steps)
      told_rows = rows_are ∙ same_starts (suc s.steps) s.by.start start_point

      -- a row's points are points
      pub told_points : (a : ℕ) → Mem a rows → (i : ℕ) → i ≤ s.by.width → IsPoint d (a + i)
      told_points a k i li =
          let (m, l, e) = on_chain (other_of d) (opposite d) s.by.start (suc s.steps) a (subst (λ zs. Mem a zs) told_rows k) in
          subst (λ z. IsPoint d (z + i)) (sym e) (row_points m i (omega arith) li)

      -- the test for an earlier last row reads the same
      pub told_fresh : list_all (λ m. not (is_last s.by (get_or rows m 0) (get_or g.other (get_or rows m 0 + s.by.width) 0))) (below s.steps) ≡ none_last d s.by s.steps
      told_fresh = all_same _ _ s.steps (λ m l.
          let c : get_or rows m 0 ≡ row_from d s.by.start m = ap (λ zs. get_or zs m 0) told_rows ∙ start_on (other_of d) (opposite d) s.by.start (suc s.steps) m (omega arith) in
          let f : get_or g.other (get_or rows m 0 + s.by.width) 0 ≡ other_of d (row_from d s.by.start m + s.by.width)
          = ap (λ z. get_or g.other (z + s.by.width) 0) c ∙ other_by d ok g is (row_from d s.by.start m + s.by.width) (row_points m s.by.width (omega arith) (omega arith)) in
          ap₂ (λ u v. not (is_last s.by u v)) c f)
