-- The test of a step: what its parts need, and what they tell together.
use Rattle.std.proofs.Common.{◌≡◌, ℕ, suc, ◌+◌, ◌<◌, inl, inr, Bool, true, false, not, List, [], get_or, length, map, sym, ap, ap₂, subst, arith, ◌∙◌}
use Rattle.std.specs.List.{flat_map, list_all}
use Rattle.std.proofs.lemmas.Bool.{cases_Bool}
use Rattle.drawing.proofs.Lists.{mem_has}
use Rattle.std.proofs.lemmas.List.FromFn.{length-map-range_with_len}
use Rattle.drawing.specs.Pieces.{piece_table, span_count}
use Rattle.drawing.specs.Points.{IsGenerator}
use Rattle.empty_domains.proofs.Begins.{IsChoice}
use Rattle.empty_domains.proofs.Collected.{collected_begin}
use Rattle.empty_domains.proofs.Fresh.{fresh_is}
use Rattle.empty_domains.proofs.Generators.{generator_choice}
use Rattle.empty_domains.proofs.LedMade.{entry_under}
use Rattle.empty_domains.proofs.PieceMark.{point_under}
use Rattle.empty_domains.proofs.StepRows.{start_point, starts_length, told_fresh, told_points, told_rows}
use Rattle.empty_domains.proofs.StripFacts.{strip_is}
use Rattle.empty_domains.specs.Ground.{Ground, IsGround}
use Rattle.empty_domains.specs.Marks.{AreMarked}
use Rattle.empty_domains.specs.NearTest.{swept}
use Rattle.empty_domains.specs.Strip.{Step, all_strips, is_fresh}
use Rattle.empty_domains.specs.Sweep.{starts}
use Rattle.empty_domains.specs.Walk.{is_last}
use Rattle.obd_base.specs.Lists.{Mem, below, has}
use Rattle.page_surface.specs.Drawing.{Drawing, IsEmbedded}

-- where nothing is marked nothing is collected
pub none_marked : (table found : List ℕ) (marks : List Bool) → found ≡ [] → ((p : ℕ) → get_or marks p false ≡ false) → AreMarked table [] found marks
none_marked table found marks e off = subst (λ zs. AreMarked table [] zs marks) (sym e) (record { collected = collected_begin table; marked = off })

-- where the marks of what is found are taken away nothing is marked
pub marks_off : (found : List ℕ) (before after : List Bool) → ((p : ℕ) → get_or before p false ≡ has found p) → ((p : ℕ) → Mem p found → get_or after p false ≡ false)
    → ((p : ℕ) → get_or before p false ≡ false → get_or after p false ≡ false) → (p : ℕ) → get_or after p false ≡ false
marks_off found before after marked here elsewhere p = elim (cases_Bool (has found p)) [
  | inl h ↦ here p (mem_has found p h)
  | inr h ↦ elsewhere p (marked p ∙ h)
]

-- what the table of pieces tells of a span can be looked up among the marks
pub entries_under : (d : Drawing) → IsEmbedded d → (pieces : List ℕ) (marks : List Bool) → pieces ≡ piece_table d → length marks ≡ span_count d → (s : ℕ) → get_or pieces s 0 < length marks
entries_under d ok pieces marks e n s = omega (arith, entry_under d ok s, ap (λ zs. get_or zs s 0) e, n)

-- the table has an entry for each span
pub table_size : (d : Drawing) (pieces : List ℕ) → pieces ≡ piece_table d → length pieces ≡ span_count d
table_size d pieces e = ap length e ∙ length-map-range_with_len _ 0 (span_count d)

-- the rows that were told are the step's
pub rows_told : (g : Ground) (s : Step) (rows items : List ℕ) (start count : ℕ) → rows ≡ items → items ≡ starts (λ x. get_or g.other x 0) (λ x. get_or g.opposite x 0) start count
    → start ≡ s.by.start → count ≡ suc s.steps → rows ≡ starts (λ x. get_or g.other x 0) (λ x. get_or g.opposite x 0) s.by.start (suc s.steps)
rows_told g s rows items start count a e b q = a ∙ (e ∙ ap₂ (λ u v. starts (λ x. get_or g.other x 0) (λ x. get_or g.opposite x 0) u v) b q)

module _ (d : Drawing) (ok : IsEmbedded d) (y : List ℕ) (gy : IsGenerator d y) (s : Step) (read : Mem s (all_strips d y)) (g : Ground) (is : IsGround d g) where
  choice : IsChoice d y
  choice = (generator_choice d y gy).0

  -- the first row begins at a number
  pub begin_under : s.by.start < length g.other
  begin_under = omega (arith, point_under d ok s.by.start (start_point d ok y choice s read), is.other_size)

  module _ (rows : List ℕ) (rows_are : rows ≡ starts (λ x. get_or g.other x 0) (λ x. get_or g.opposite x 0) s.by.start (suc s.steps)) where
    -- there is one row more than the step's own has before it
    pub rows_size : length rows ≡ suc s.steps
    rows_size = ap length rows_are ∙ starts_length (λ x. get_or g.other x 0) (λ x. get_or g.opposite x 0) s.by.start (suc s.steps)

    -- the spans behind the points of rows have numbers
    pub rows_under : (a : ℕ) → Mem a rows → suc (a + s.by.width) < span_count d
    rows_under a m = point_under d ok (a + s.by.width) (told_points d ok y choice s read g is rows rows_are a m s.by.width (omega arith))

    -- the tables tell whether the step is fresh
    pub fresh_by : (b : Bool) → b ≡ list_all (λ m. not (is_last s.by (get_or rows m 0) (get_or g.other (get_or rows m 0 + s.by.width) 0))) (below s.steps) → is_fresh d s ≡ b
    fresh_by b e = fresh_is d y s read ∙ sym (e ∙ told_fresh d ok y choice s read g is rows rows_are)

    -- the spans along the rows of a fresh step
    pub rows_swept : is_fresh d s ≡ true → flat_map (λ a. map (λ i. suc (a + i)) (below s.by.width)) rows ≡ swept d s.by
    rows_swept fresh = ap (flat_map (λ a. map (λ i. suc (a + i)) (below s.by.width))) (told_rows d ok y choice s read g is rows rows_are ∙ sym (strip_is d y s read fresh).rows_are)

    -- the pieces that are marked along the rows of a fresh step
    pub found_marked : is_fresh d s ≡ true → (table found items : List ℕ) (marks : List Bool) (width : ℕ) → width ≡ s.by.width
        → AreMarked table (flat_map (λ a. map (λ i. suc (a + i)) (below width)) rows) found marks → items ≡ found → AreMarked table (swept d s.by) items marks
    found_marked fresh table found items marks width w is e =
        subst (λ zs. AreMarked table (swept d s.by) zs marks) (sym e)
        (subst (λ ss. AreMarked table ss found marks) (ap (λ n. flat_map (λ a. map (λ i. suc (a + i)) (below n)) rows) w ∙ rows_swept fresh) is)
