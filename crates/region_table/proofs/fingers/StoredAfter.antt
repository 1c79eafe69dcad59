-- What code writes after a finger is the table of the drawing after it.
use Rattle.std.proofs.Common.{◌≡◌, ◌≢◌, ℕ, ◌+◌, ◌<◌, ◌≤◌, ◌^◌, Bool, cond, eqb, not, List, filter, length, get_or, sym, ◌∙◌, ap, subst, arith, inl, inr}
use Rattle.std.proofs.lemmas.Bool.{cases_eq, eq-eqb}
use Rattle.obd_base.specs.Lists.{below}
use Rattle.obd_base.proofs.lists.Below.{count_less, mem_below}
use Rattle.page_surface.specs.Drawing.{Drawing, IsEmbedded, all_exits}
use Rattle.page_surface.specs.Polygon.{Polygon, sides}
use Rattle.drawing.specs.declared.finger.Finger.{Finger}
use Rattle.drawing.specs.Fingers.{IsLegal, chord_at, entered, entered_beyond, pushed}
use Rattle.drawing.specs.Pieces.{span_count}
use Rattle.drawing.proofs.fingers.Effects.{later_first, pushed_embedded, pushed_polygon}
use Rattle.region_table.specs.Changed.{AreChanged, KeepsNames}
use Rattle.region_table.specs.Counted.{has_gap, size_so_far}
use Rattle.region_table.specs.Ends.{ChordNo, IsFrameOf, IsKept, shown}
use Rattle.region_table.specs.FingerLists.{IsNamedByFinger, IsPush, comes_in_front}
use Rattle.region_table.specs.Table.{IsTableOf, Region, Table, region_in}
use Rattle.region_table.specs.Told.{AreSeen}
use Rattle.region_table.proofs.ListedSteps.{filter_alike}
use Rattle.region_table.proofs.NamingLaws.{base_by_name}
use Rattle.region_table.proofs.fingers.AfterFinger as after
use Rattle.region_table.proofs.fingers.Flags.{flag_stays}
use Rattle.region_table.proofs.fingers.NamesAfter.{told_after, used_after}

-- the names of a drawing's pieces that a finger writes, where its numbers are those of the drawing
pub writes_names : (d : Drawing) (f : Finger) (t u : Table) (from near far one other out n count : ℕ) → IsPush d f from near far one other out → n ≡ span_count d → count ≡ length t.regions
    → IsNamedByFinger n one other near count (comes_in_front from one) (λ s. get_or t.names s 0) (λ s. get_or u.names s 0) → after.WritesNames d f t u
writes_names d f t u from near far one other out n count push is many made =
    subst (λ x. IsNamedByFinger (span_count d) (entered d f) (entered_beyond d f) (after.near_end d f) x (comes_in_front (chord_at d f.strand f.chord).from (entered d f)) (λ s. get_or t.names s 0) (λ s. get_or u.names s 0)) many
    (subst (λ x. IsNamedByFinger x (entered d f) (entered_beyond d f) (after.near_end d f) count (comes_in_front (chord_at d f.strand f.chord).from (entered d f)) (λ s. get_or t.names s 0) (λ s. get_or u.names s 0)) is
    (subst (λ x. IsNamedByFinger n (entered d f) (entered_beyond d f) x count (comes_in_front (chord_at d f.strand f.chord).from (entered d f)) (λ s. get_or t.names s 0) (λ s. get_or u.names s 0)) push.near_is
    (subst (λ x. IsNamedByFinger n (entered d f) x near count (comes_in_front (chord_at d f.strand f.chord).from (entered d f)) (λ s. get_or t.names s 0) (λ s. get_or u.names s 0)) push.beyond_is
    (subst (λ x. IsNamedByFinger n x other near count (comes_in_front (chord_at d f.strand f.chord).from x) (λ s. get_or t.names s 0) (λ s. get_or u.names s 0)) push.entered_is
    (subst (λ x. IsNamedByFinger n one other near count (comes_in_front x one) (λ s. get_or t.names s 0) (λ s. get_or u.names s 0)) push.from_is made)))))

module _ (polygon : Polygon) (starts names mates : List ℕ) (begins : List (List ℕ)) (regions : List Region) (inner : List ℕ) (room : ℕ)
    (starts_after names_after mates_after : List ℕ) (begins_after : List (List ℕ)) (regions_after : List Region) (inner_after : List ℕ) (room_after : ℕ) (ends_after : List ChordNo)
    (from near far one other out count : ℕ) (many : count ≡ length regions)
    (made : IsNamedByFinger (length names) one other near count (comes_in_front from one) (λ s. get_or names s 0) (λ s. get_or names_after s 0))
    (longer : length names_after ≡ length names + 4) (grown : length regions_after ≡ length regions + 2) where
  -- the table before,
  abbrev pub before_table : Table
  before_table = shown polygon starts names mates begins regions inner room

  -- and the table after
  abbrev pub after_table : Table
  after_table = shown polygon starts_after names_after mates_after begins_after regions_after inner_after room_after

  module _ (d : Drawing) (ok : IsEmbedded d) (f : Finger) (l : IsLegal d f) (told : IsTableOf d before_table) (push : IsPush d f from near far one other out) where
    writes : after.WritesNames d f before_table after_table
    writes = writes_names d f before_table after_table from near far one other out (length names) count push told.every_span many made

    -- kept pieces keep their names
    pub names_kept : KeepsNames d f before_table after_table
    names_kept = after.keeps_names d ok f l before_table told after_table grown writes

    -- so many changed
    pub pieces_changed : (ps : List ℕ) × AreChanged d f after_table ps × (length ps ≡ cond (eqb (get_or names other 0) (get_or names near 0)) 4 5)
    pieces_changed =
        let (ps, are, n) = after.changed d ok f l before_table told after_table grown writes in (
          ps,
          are,
          n ∙ sym (ap (λ x. cond (eqb (get_or names x 0) (get_or names near 0)) 4 5) push.beyond_is
              ∙ ap (λ x. cond (eqb (get_or names (entered_beyond d f) 0) (get_or names x 0)) 4 5) push.near_is),
        )

    -- each span is there
    pub spans_after : length names_after ≡ span_count (pushed d f)
    spans_after = omega (arith, longer, told.every_span, (after.push d ok f l).spans)

    -- each new name is told,
    pub names_told : (s : ℕ) → s < span_count (pushed d f) → get_or names_after s 0 < length regions_after
    names_told s ls =
        let p = after.push d ok f l in
        subst (λ n. get_or names_after s 0 < n) (sym grown)
        (told_after d (pushed d f) (entered d f) (entered_beyond d f) (later_first d f) (chord_at d f.strand f.chord) (after.es d ok f l) p (λ s. get_or names s 0) (λ s. get_or names_after s 0) (length regions)
        told.naming told.told told.used writes s ls)

    -- and is that of a span
    met : (p : ℕ) → p < length regions_after → 0 < size_so_far (λ s. get_or names_after s 0) (span_count (pushed d f)) p
    met p lp =
        let (s, ls, q) = used_after d (pushed d f) (entered d f) (entered_beyond d f) (later_first d f) (chord_at d f.strand f.chord) (after.es d ok f l) (after.push d ok f l) (λ s. get_or names s 0) (λ s. get_or names_after s 0)
        (length regions) told.naming told.told told.used writes p (subst (λ n. p < n) grown lp) in
        omega (arith, count_less (λ s. eqb (get_or names_after s 0) p) s (span_count (pushed d f)) (eq-eqb (get_or names_after s 0) p q) ls)

    -- each old piece is base or not as a gap has its name,
    was_base : (p : ℕ) → p < length regions → (region_in regions p).base ≡ has_gap d (λ s. get_or names s 0) p
    was_base p lp =
        let (s, ls, q) = told.used p lp in
        subst (λ r. (region_in regions r).base ≡ has_gap d (λ s. get_or names s 0) r) q (told.base s ls ∙ sym (base_by_name d ok (λ s. get_or names s 0) told.naming s ls))

    module _ (seen : AreSeen (pushed d f) (λ s. get_or names_after s 0) regions_after) where
      -- and stays so, but for the one entered
      other_stays : (p : ℕ) → p < length regions → p ≢ get_or names one 0 → (region_in regions_after p).base ≡ (region_in regions p).base
      other_stays p lp ne =
          seen.base p (omega (arith, lp, grown))
          ∙ (flag_stays d (pushed d f) ok (entered d f) (entered_beyond d f) (later_first d f) (chord_at d f.strand f.chord) (after.es d ok f l) (after.push d ok f l) (λ s. get_or names s 0) (λ s. get_or names_after s 0)
          (length regions) writes p lp (subst (λ x. p ≢ get_or names x 0) push.entered_is ne)
          ∙ sym (was_base p lp))

      -- so where that one does, the old pieces that aren't base are still the same
      pub inner_stays : (piece : ℕ) (was : Bool) → piece ≡ get_or names one 0 → was ≡ (region_in regions piece).base → (region_in regions_after piece).base ≡ was
          → inner ≡ filter (λ p. not (region_in regions p).base) (below (length regions)) → inner ≡ filter (λ p. not (region_in regions_after p).base) (below (length regions))
      inner_stays piece was is base now listed =
          listed ∙ filter_alike (λ p. not (region_in regions p).base) (λ p. not (region_in regions_after p).base) (below (length regions)) (λ p m. ap not (sym (flag p (mem_below (length regions) p m))))
        where
          flag : (p : ℕ) → p < length regions → (region_in regions_after p).base ≡ (region_in regions p).base
          flag p lp = elim (cases_eq p piece) [
            | inl e ↦ subst (λ r. (region_in regions_after r).base ≡ (region_in regions r).base) (sym e) (now ∙ base)
            | inr ne ↦ other_stays p lp (λ e. ne (e ∙ sym is))
          ]

    module _ (frame : IsFrameOf (pushed d f) starts_after mates_after begins_after ends_after) (seen : AreSeen (pushed d f) (λ s. get_or names_after s 0) regions_after)
        (left : inner_after ≡ filter (λ p. not (region_in regions_after p).base) (below (length regions_after))) where
      -- it is the table of the drawing after the finger
      pub table_is : IsTableOf (pushed d f) after_table
      table_is = after.after_finger d ok f l before_table told after_table grown writes (record {
        polygon = told.polygon ∙ sym (pushed_polygon d ok f l);
        starts = frame.starts_are;
        mates = frame.mates_are;
        begins = frame.begins_are;
        every_span = spans_after;
        bases = seen.base;
        firsts = λ p lp. seen.first p lp (met p lp);
        sizes = seen.size;
        inner = left;
      })

      -- and can be kept
      pub kept_is : sides (pushed d f).polygon ≤ 16 → length (all_exits (pushed d f)) < 2 ^ 28 → IsKept after_table ends_after
      kept_is few_sides few = record {
        drawing = pushed d f;
        embedded = pushed_embedded d ok f l;
        few_sides = few_sides;
        few = few;
        table = table_is;
        as_many = frame.as_many;
        known = frame.known;
      }
