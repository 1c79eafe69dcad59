-- The lists of what is told of pieces, as code keeps and writes them.
use Rattle.std.proofs.Common.{◌≡◌, ℕ, ◌<◌, ◌≤◌, Bool, false, List, map, length, get_or, refl, sym, ◌∙◌, ap, subst, arith, zero-add, inl, inr}
use Rattle.std.proofs.lemmas.Bool.{cases_lt}
use Rattle.std.proofs.lemmas.List.{get_or_past}
use Rattle.std.proofs.lemmas.List.FromFn.{get_or-map-range_with_len, length-map-range_with_len}
use Rattle.obd_base.specs.Lists.{below}
use Rattle.page_surface.specs.Drawing.{Drawing}
use Rattle.drawing.specs.Pieces.{distance, is_base, span_count}
use Rattle.region_table.specs.Counted.{AreCounted, first_label, first_so_far, gathered, has_gap, size_so_far}
use Rattle.region_table.specs.Table.{DifferInDistance, Region, region_in}
use Rattle.region_table.specs.Told.{AreMeasured, AreSeen, AreSized, HasNames, IsUnmeasured}

-- the pieces of some lists
abbrev pub listed_regions : List Bool → List ℕ → List ℕ → List ℕ → List Region
listed_regions bases firsts sizes distances = map (gathered bases firsts sizes distances) (below (length bases))

module _ (bases : List Bool) (firsts sizes distances : List ℕ) where
  -- as many as there are flags
  pub regions_size : length (listed_regions bases firsts sizes distances) ≡ length bases
  regions_size = length-map-range_with_len (gathered bases firsts sizes distances) 0 (length bases)

  -- each by its name
  pub region_listed : (p : ℕ) → p < length bases → region_in (listed_regions bases firsts sizes distances) p ≡ gathered bases firsts sizes distances p
  region_listed p l =
      get_or-map-range_with_len (gathered bases firsts sizes distances) 0 (length bases) p p (record { base = false; first = 0; size = 0; distance = 0 }) l (zero-add p)

  -- another name tells nothing
  pub region_past : (p : ℕ) → length bases ≤ p → region_in (listed_regions bases firsts sizes distances) p ≡ record { base = false; first = 0; size = 0; distance = 0 }
  region_past p h = get_or_past (listed_regions bases firsts sizes distances) p (record { base = false; first = 0; size = 0; distance = 0 }) (omega (arith, h, regions_size))

  -- which pieces are base is told by the flags
  pub flags_told : (p : ℕ) → p < length bases → (region_in (listed_regions bases firsts sizes distances) p).base ≡ get_or bases p false
  flags_told p l = ap (λ (r : Region). r.base) (region_listed p l)

  -- counts that were written are told, and all else stays
  pub sized_told : (name : ℕ → ℕ) (n : ℕ) (fs zs : List ℕ) → length zs ≡ length bases → AreCounted name n zs fs
      → AreSized name n (listed_regions bases firsts sizes distances) (listed_regions bases fs zs distances)
  sized_told name n fs zs many counts = record {
    count = now_size ∙ sym regions_size;
    first = λ p l met. ap (λ (r : Region). r.first) (now p (omega (arith, l, now_size))) ∙ counts.first p (omega (arith, l, now_size, many)) met;
    size = λ p l. ap (λ (r : Region). r.size) (now p (omega (arith, l, now_size))) ∙ counts.size p (omega (arith, l, now_size, many));
    base = λ p. (go p).0;
    distance = λ p. (go p).1;
  }
    where
      now_size : length (listed_regions bases fs zs distances) ≡ length bases
      now_size = length-map-range_with_len (gathered bases fs zs distances) 0 (length bases)

      now : (p : ℕ) → p < length bases → region_in (listed_regions bases fs zs distances) p ≡ gathered bases fs zs distances p
      now p l = get_or-map-range_with_len (gathered bases fs zs distances) 0 (length bases) p p (record { base = false; first = 0; size = 0; distance = 0 }) l (zero-add p)

      go : (p : ℕ) → ((region_in (listed_regions bases fs zs distances) p).base ≡ (region_in (listed_regions bases firsts sizes distances) p).base)
          × ((region_in (listed_regions bases fs zs distances) p).distance ≡ (region_in (listed_regions bases firsts sizes distances) p).distance)
      go p = elim (cases_lt p (length bases)) [
        | inl l ↦ (ap (λ (r : Region). r.base) (now p l) ∙ sym (ap (λ (r : Region). r.base) (region_listed p l)), ap (λ (r : Region). r.distance) (now p l) ∙ sym (ap (λ (r : Region). r.distance) (region_listed p l)))
        | inr h ↦
            let b : region_in (listed_regions bases fs zs distances) p ≡ record { base = false; first = 0; size = 0; distance = 0 }
            = get_or_past (listed_regions bases fs zs distances) p (record { base = false; first = 0; size = 0; distance = 0 }) (omega (arith, h, now_size)) in
            (ap (λ (r : Region). r.base) (b ∙ sym (region_past p h)), ap (λ (r : Region). r.distance) (b ∙ sym (region_past p h)))
      ]

  -- labels that were set are those before the sweeps
  pub set_unmeasured : (d : Drawing) (names mates labels : List ℕ) (bound : ℕ) → bound ≡ length bases → length labels ≡ length bases
      → ((p : ℕ) → p < length bases → get_or labels p 0 ≡ first_label bound (get_or bases p false))
      → HasNames d names mates (listed_regions bases firsts sizes distances) → IsUnmeasured d names mates labels bound
  set_unmeasured d names mates labels bound is many are given = record {
    embedded = given.embedded;
    mates_are = given.mates_are;
    few = given.few;
    named = given.named;
    naming = given.naming;
    told = λ s l. omega (arith, inside s l, many);
    high = omega (arith, given.high, regions_size, is);
    bases = λ s l b. are (get_or names s 0) (inside s l) ∙ ap (first_label bound) (flag s l ∙ b);
    others = λ s l b. are (get_or names s 0) (inside s l) ∙ ap (first_label bound) (flag s l ∙ b);
  }
    where
      inside : (s : ℕ) → s < span_count d → get_or names s 0 < length bases
      inside s l = omega (arith, given.told s l, regions_size)

      flag : (s : ℕ) → s < span_count d → get_or bases (get_or names s 0) false ≡ is_base d s
      flag s l = sym (ap (λ (r : Region). r.base) (region_listed (get_or names s 0) (inside s l))) ∙ given.base s l

  -- other distances change nothing else
  pub differ_so : (others : List ℕ) → DifferInDistance (listed_regions bases firsts sizes others) (listed_regions bases firsts sizes distances)
  differ_so others = record {
    count = regions_size ∙ sym (length-map-range_with_len (gathered bases firsts sizes others) 0 (length bases));
    base = λ p. (go p).0;
    first = λ p. (go p).1;
    size = λ p. (go p).2;
  }
    where
      none : Region
      none = record { base = false; first = 0; size = 0; distance = 0 }

      go : (p : ℕ) → ((region_in (listed_regions bases firsts sizes distances) p).base ≡ (region_in (listed_regions bases firsts sizes others) p).base)
          × ((region_in (listed_regions bases firsts sizes distances) p).first ≡ (region_in (listed_regions bases firsts sizes others) p).first)
          × ((region_in (listed_regions bases firsts sizes distances) p).size ≡ (region_in (listed_regions bases firsts sizes others) p).size)
      go p = elim (cases_lt p (length bases)) [
        | inl l ↦
            let a = region_listed p l in
            let b : region_in (listed_regions bases firsts sizes others) p ≡ gathered bases firsts sizes others p
            = get_or-map-range_with_len (gathered bases firsts sizes others) 0 (length bases) p p none l (zero-add p) in (
              ap (λ (r : Region). r.base) a ∙ sym (ap (λ (r : Region). r.base) b),
              ap (λ (r : Region). r.first) a ∙ sym (ap (λ (r : Region). r.first) b),
              ap (λ (r : Region). r.size) a ∙ sym (ap (λ (r : Region). r.size) b),
            )
        | inr h ↦
            let a = region_past p h in
            let b : region_in (listed_regions bases firsts sizes others) p ≡ none
            = get_or_past (listed_regions bases firsts sizes others) p none (omega (arith, h, length-map-range_with_len (gathered bases firsts sizes others) 0 (length bases))) in (
              ap (λ (r : Region). r.base) a ∙ sym (ap (λ (r : Region). r.base) b),
              ap (λ (r : Region). r.first) a ∙ sym (ap (λ (r : Region). r.first) b),
              ap (λ (r : Region). r.size) a ∙ sym (ap (λ (r : Region). r.size) b),
            )
      ]

  -- the distances by names are told
  pub measured_told : (d : Drawing) (names : List ℕ) → ((s : ℕ) → s < span_count d → get_or names s 0 < length bases) → AreMeasured d names distances
      → (s : ℕ) → s < span_count d → (region_in (listed_regions bases firsts sizes distances) (get_or names s 0)).distance ≡ distance d s
  measured_told d names inside are s l = ap (λ (r : Region). r.distance) (region_listed (get_or names s 0) (inside s l)) ∙ are s l

-- flags that were written are told
pub marked_told : (bases : List Bool) (firsts sizes distances : List ℕ) (flags : List Bool) → flags ≡ bases → (wanted : ℕ → Bool) → ((p : ℕ) → p < length bases → get_or bases p false ≡ wanted p)
    → (p : ℕ) → p < length (listed_regions flags firsts sizes distances) → (region_in (listed_regions flags firsts sizes distances) p).base ≡ wanted p
marked_told bases firsts sizes distances flags e wanted marked p l =
    let many = regions_size flags firsts sizes distances in
    flags_told flags firsts sizes distances p (omega (arith, l, many)) ∙ (ap (λ xs. get_or xs p false) e ∙ marked p (omega (arith, l, many, ap length e)))

-- and counts that were written
pub sized_written : (bases : List Bool) (firsts sizes distances : List ℕ) (name : ℕ → ℕ) (n : ℕ) (fs zs firsts_now sizes_now : List ℕ) → firsts_now ≡ fs → sizes_now ≡ zs
    → length zs ≡ length bases → AreCounted name n zs fs → AreSized name n (listed_regions bases firsts sizes distances) (listed_regions bases firsts_now sizes_now distances)
sized_written bases firsts sizes distances name n fs zs firsts_now sizes_now e f many counts = rw (e, f) (sized_told bases firsts sizes distances name n fs zs many counts)

-- from equal pieces
pub sized_from : {before kept after : List Region} (name : ℕ → ℕ) (n : ℕ) → before ≡ kept → AreSized name n before after → AreSized name n kept after
sized_from {after = after} name n same sized = subst (λ rs. AreSized name n rs after) same sized

-- pieces whose flags are right and that are counted are seen
pub marked_seen : (d : Drawing) (names : List ℕ) (before after : List Region) → length names ≡ span_count d
    → ((p : ℕ) → p < length before → (region_in before p).base ≡ has_gap d (λ s. get_or names s 0) p) → AreSized (λ s. get_or names s 0) (length names) before after
    → AreSeen d (λ s. get_or names s 0) after
marked_seen d names before after many flags sized = record {
  base = λ p l. sized.base p ∙ flags p (omega (arith, l, sized.count));
  first = λ p l met. sized.first p l (subst (λ n. 0 < size_so_far (λ s. get_or names s 0) n p) (sym many) met) ∙ ap (λ n. first_so_far (λ s. get_or names s 0) n p) many;
  size = λ p l. sized.size p l ∙ ap (λ n. size_so_far (λ s. get_or names s 0) n p) many;
}

-- a piece by its four parts
abbrev pub region_of : Bool → ℕ → ℕ → ℕ → Region
region_of b f s x = record { base = b; first = f; size = s; distance = x }

-- from what is read of it
pub region_made : {b c : Bool} {f g s z x y : ℕ} → b ≡ c → f ≡ g → s ≡ z → x ≡ y → region_of b f s x ≡ region_of c g z y
region_made e f g h = rw (e, f, g, h) refl
