-- Pieces counted when they are asked: what is told of them either way.
use Rattle.std.proofs.Common.{◌≡◌, ℕ, ◌<◌, ◌≤◌, Bool, true, false, not, filter, ◌+◌, List, map, length, get_or, refl, sym, ◌∙◌, ap, subst, arith, zero-add, inl, inr}
use Rattle.std.proofs.lemmas.Bool.{cases_lt}
use Rattle.std.proofs.lemmas.List.{ext_get_or, get_or_past}
use Rattle.std.proofs.lemmas.List.FromFn.{get_or-map-range_with_len, length-map-range_with_len}
use Rattle.obd_base.specs.Lists.{below}
use Rattle.page_surface.specs.Drawing.{Drawing}
use Rattle.drawing.specs.Pieces.{span_count}
use Rattle.region_table.specs.Asked.{by_names, told_by}
use Rattle.region_table.specs.Counted.{first_so_far, has_gap, size_so_far}
use Rattle.region_table.specs.Table.{DifferInDistance, Region, region_in}
use Rattle.region_table.specs.Told.{AreSeen, AreSized}
use Rattle.region_table.proofs.ListedSteps.{filter_alike}
use Rattle.region_table.proofs.ToldLists.{region_made}

abbrev none : Region
none = record { base = false; first = 0; size = 0; distance = 0 }

module _ (names : List ℕ) (regions : List Region) where
  -- as many
  named_size : length (map (by_names names regions) (below (length regions))) ≡ length regions
  named_size = length-map-range_with_len (by_names names regions) 0 (length regions)

  pub told_size : (counted : Bool) → length (told_by counted names regions) ≡ length regions
  unfolding told_by
  told_size true = refl
  told_size false = named_size

  named_at : (p : ℕ) → p < length regions → region_in (map (by_names names regions) (below (length regions))) p ≡ by_names names regions p
  named_at p l = get_or-map-range_with_len (by_names names regions) 0 (length regions) p p none l (zero-add p)

  named_past : (p : ℕ) → length regions ≤ p → region_in (map (by_names names regions) (below (length regions))) p ≡ none
  named_past p h = get_or_past (map (by_names names regions) (below (length regions))) p none (omega (arith, h, named_size))

  past : (p : ℕ) → length regions ≤ p → region_in regions p ≡ none
  past p h = get_or_past regions p none h

  -- the pieces as the names say
  pub told_named : (p : ℕ) → p < length regions → region_in (told_by false names regions) p ≡ by_names names regions p
  unfolding told_by
  told_named p l = named_at p l

  -- base pieces are base either way,
  pub told_base : (counted : Bool) (p : ℕ) → (region_in (told_by counted names regions) p).base ≡ (region_in regions p).base
  unfolding told_by
  told_base true p = refl
  told_base false p = elim (cases_lt p (length regions)) [
    | inl l ↦ ap (λ (r : Region). r.base) (named_at p l)
    | inr h ↦ ap (λ (r : Region). r.base) (named_past p h ∙ sym (past p h))
  ]

  -- and distances are the same
  pub told_distance : (counted : Bool) (p : ℕ) → (region_in (told_by counted names regions) p).distance ≡ (region_in regions p).distance
  unfolding told_by
  told_distance true p = refl
  told_distance false p = elim (cases_lt p (length regions)) [
    | inl l ↦ ap (λ (r : Region). r.distance) (named_at p l)
    | inr h ↦ ap (λ (r : Region). r.distance) (named_past p h ∙ sym (past p h))
  ]

  -- pieces whose base flags are right are seen by their names
  pub seen_named : (d : Drawing) → length names ≡ span_count d → ((p : ℕ) → p < length regions → (region_in regions p).base ≡ has_gap d (λ s. get_or names s 0) p)
      → AreSeen d (λ s. get_or names s 0) (told_by false names regions)
  seen_named d many flags = record {
    base = λ p l. told_base false p ∙ flags p (omega (arith, l, told_size false));
    first = λ p l met. ap (λ (r : Region). r.first) (told_named p (omega (arith, l, told_size false))) ∙ ap (λ n. first_so_far (λ s. get_or names s 0) n p) many;
    size = λ p l. ap (λ (r : Region). r.size) (told_named p (omega (arith, l, told_size false))) ∙ ap (λ n. size_so_far (λ s. get_or names s 0) n p) many;
  }

-- two pieces more
pub told_grown : (counted : Bool) (names : List ℕ) (before : List Region) (more : List ℕ) (after : List Region) → length after ≡ length before + 2
    → length (told_by false more after) ≡ length (told_by counted names before) + 2
told_grown counted names before more after grown = omega (arith, told_size names before counted, told_size more after false, grown)

-- the pieces that aren't base are the same, among the first ones
pub flags_told : (counted : Bool) (names : List ℕ) (regions : List Region) (n : ℕ) → filter (λ p. not (region_in regions p).base) (below n) ≡ filter (λ p. not (region_in (told_by counted names regions) p).base) (below n)
flags_told counted names regions n =
    filter_alike (λ p. not (region_in regions p).base) (λ p. not (region_in (told_by counted names regions) p).base) (below n) (λ p m. ap not (sym (told_base names regions counted p)))

-- and among all
pub inner_told : (counted : Bool) (names : List ℕ) (regions : List Region) → filter (λ p. not (region_in regions p).base) (below (length regions))
    ≡ filter (λ p. not (region_in (told_by counted names regions) p).base) (below (length (told_by counted names regions)))
inner_told counted names regions =
    flags_told counted names regions (length regions) ∙ ap (λ n. filter (λ p. not (region_in (told_by counted names regions) p).base) (below n)) (sym (told_size names regions counted))

-- with other distances they differ in distances alone
pub told_differ : (counted : Bool) (names : List ℕ) (before after : List Region) → DifferInDistance before after → DifferInDistance (told_by counted names before) (told_by counted names after)
unfolding told_by
told_differ true names before after differ = differ
told_differ false names before after differ = record {
  count = named_size names after ∙ (differ.count ∙ sym (named_size names before));
  base = λ p. told_base names after false p ∙ (differ.base p ∙ sym (told_base names before false p));
  first = λ p. (other p).0;
  size = λ p. (other p).1;
}
  where
    other : (p : ℕ) → ((region_in (told_by false names after) p).first ≡ (region_in (told_by false names before) p).first) × ((region_in (told_by false names after) p).size ≡ (region_in (told_by false names before) p).size)
    other p = elim (cases_lt p (length before)) [
      | inl l ↦
          let a = told_named names after p (omega (arith, l, differ.count)) in
          let b = told_named names before p l in
          (ap (λ (r : Region). r.first) a ∙ sym (ap (λ (r : Region). r.first) b), ap (λ (r : Region). r.size) a ∙ sym (ap (λ (r : Region). r.size) b))
      | inr h ↦
          let a : region_in (told_by false names after) p ≡ none = get_or_past (told_by false names after) p none (omega (arith, h, differ.count, told_size names after false)) in
          let b : region_in (told_by false names before) p ≡ none = get_or_past (told_by false names before) p none (omega (arith, h, told_size names before false)) in
          (ap (λ (r : Region). r.first) a ∙ sym (ap (λ (r : Region). r.first) b), ap (λ (r : Region). r.size) a ∙ sym (ap (λ (r : Region). r.size) b))
    ]

-- from equal pieces
pub differ_from : {before kept after : List Region} → before ≡ kept → DifferInDistance before after → DifferInDistance kept after
differ_from {after = after} same differ = subst (λ rs. DifferInDistance rs after) same differ

-- pieces that are counted by names are as the names say, where each name is some span's
counted_same : (names : List ℕ) (regions now : List Region) → AreSized (λ s. get_or names s 0) (length names) regions now
    → ((p : ℕ) → p < length regions → 0 < size_so_far (λ s. get_or names s 0) (length names) p) → told_by false names regions ≡ told_by true names now
unfolding told_by
counted_same names regions now sized met =
    ext_get_or none (map (by_names names regions) (below (length regions))) now (named_size names regions ∙ sym sized.count) (λ p l.
    let lp : p < length regions = omega (arith, l, named_size names regions) in
    let ln : p < length now = omega (arith, lp, sized.count) in
    named_at names regions p lp ∙ region_made (sym (sized.base p)) (sym (sized.first p ln (met p lp))) (sym (sized.size p ln)) (sym (sized.distance p)))

-- and so where they weren't counted before
pub counted_now : (counted : Bool) (names : List ℕ) (regions now : List Region) → counted ≡ false → AreSized (λ s. get_or names s 0) (length names) regions now
    → ((p : ℕ) → p < length regions → 0 < size_so_far (λ s. get_or names s 0) (length names) p) → told_by counted names regions ≡ told_by true names now
counted_now counted names regions now flag sized met = ap (λ b. told_by b names regions) flag ∙ counted_same names regions now sized met
