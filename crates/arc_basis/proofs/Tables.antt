-- The tables of sides, as they are filled and as they are read.
use Rattle.std.proofs.Common.{◌≡◌, ℕ, ◌+◌, ◌-◌, ◌<◌, ◌≤◌, Bool, true, false, cond, eqb, ◌&&◌, not, List, [], ◌∷◌, ◌++◌, length, take, get_or, set, Option, Some, None, refl, sym, ap, ap₂, ◌∙◌, arith, inl, inr}
use Rattle.std.specs.List.{position, position_or_len}
use Rattle.std.specs.Option.{IsSome, is_some, option_or}
use Rattle.std.proofs.lemmas.Bool.{cases_eq, eq-eqb, ne_eqb, false≢true}
use Rattle.std.proofs.lemmas.List.{get_or-set_same, get_or-set_other, length-set, take_more, length-take-le, get_or_read, take_all}
use Rattle.std.proofs.lemmas.List.FromFn.{get_or-map-range_with_len, length-map-range_with_len, fill_by_all}
use Rattle.obd_base.specs.Lists.{Mem}
use Rattle.page_surface.specs.declared.page.SideLabel.{SideLabel}
use Rattle.page_surface.specs.Joining.{side, is_side, other_side}
use Rattle.arc_basis.specs.BasisTables.{AreAllFound, side_table}
use Rattle.arc_basis.proofs.Places.{found_place, place_push}

-- or nothing
or_none : {X : Type 0} (o : Option X) → option_or o None ≡ o
or_none None = refl
or_none (Some x) = refl

-- an option that is some, and one that isn't
some_is : (o : Option ℕ) → is_some o ≡ true → (k : ℕ) × (o ≡ Some k)
some_is (Some k) h = (k, refl)
some_is None h = absurd (false≢true h)

none_is : (o : Option ℕ) → is_some o ≡ false → o ≡ None
none_is None h = refl
none_is (Some k) h = absurd (false≢true (sym h))

-- an option that is some has a value
pub some_there : {X : Type 0} (o : Option X) (x : X) → o ≡ Some x → IsSome o
some_there o x e = rw e refl

-- what is told to be empty is not full
pub empty_read : (a b : Bool) → a ≡ not b → b ≡ true → a ≡ false
empty_read a b e t = e ∙ ap not t

-- for each label, which of the first sides is its first one with an occurrence
pub record IsTableSoFar (sides : List SideLabel) (number occurrence count : ℕ) (table : List (Option ℕ)) : Type 0 where
  pub size : length table ≡ count
  pub found : (k : ℕ) → k < count → get_or table k None ≡ position (is_side (side k occurrence)) (take number sides)

module _ (sides : List SideLabel) (occurrence count : ℕ) where
  -- at the start no side is found
  pub none_so_far : (table : List (Option ℕ)) → length table ≡ count → ((k : ℕ) → k < count → get_or table k None ≡ None) → IsTableSoFar sides 0 occurrence count table
  none_so_far table size none = record { size = size; found = none }

  module _ (number : ℕ) (s : SideLabel) (table : List (Option ℕ)) (so_far : IsTableSoFar sides number occurrence count table)
      (here : number < length sides) (is : s ≡ get_or sides number s) where
    -- what is found with one side more
    more : (k : ℕ) → k < count
        → position (is_side (side k occurrence)) (take (number + 1) sides)
        ≡ option_or (get_or table k None) (cond (eqb k s.label && eqb occurrence s.occurrence) (Some number) None)
    more k l =
        let size : length (take number sides) ≡ number = length-take-le number sides (omega arith) in
        ap (position (is_side (side k occurrence))) (take_more sides number s here ∙ ap (λ t. take number sides ++ t ∷ []) (sym is))
        ∙ (place_push (is_side (side k occurrence)) (take number sides) s
        ∙ ap₂ (λ o (n : ℕ). option_or o (cond (is_side (side k occurrence) s) (Some n) None)) (sym (so_far.found k l)) size)

    -- a side of the other occurrence changes nothing
    pub other_occurrence : (eqb occurrence s.occurrence ≡ false) → IsTableSoFar sides (number + 1) occurrence count table
    other_occurrence other = record {
      size = so_far.size;
      found = λ k l. sym (more k l ∙ no_test k (eqb k s.label) (eqb occurrence s.occurrence) other);
    }
      where
        no_test : (k : ℕ) (a b : Bool) → b ≡ false → option_or (get_or table k None) (cond (a && b) (Some number) None) ≡ get_or table k None
        no_test k true b e = rw e (or_none (get_or table k None))
        no_test k false b e = or_none (get_or table k None)

    -- nor does one of a label that has its side
    pub has_its_side : (n : ℕ) → get_or table s.label None ≡ Some n → IsTableSoFar sides (number + 1) occurrence count table
    has_its_side n old = record {
      size = so_far.size;
      found = λ k l. sym (more k l ∙ elim (cases_eq k s.label) [
        | inl e ↦ (let had : get_or table k None ≡ Some n = ap (λ (j : ℕ). get_or table j None) e ∙ old in rw had refl)
        | inr ne ↦ rw (ne_eqb k s.label ne) (or_none (get_or table k None))
      ]);
    }

    -- the first one of its label is put down
    pub put_down : s.label < count → s.occurrence ≡ occurrence → get_or table s.label None ≡ None
        → IsTableSoFar sides (number + 1) occurrence count (set table s.label (Some number))
    put_down l same new = record {
      size = length-set table s.label (Some number) ∙ so_far.size;
      found = λ k h. elim (cases_eq k s.label) [
        | inl e ↦
            let none : get_or table k None ≡ None = ap (λ (j : ℕ). get_or table j None) e ∙ new in
            let now : get_or (set table s.label (Some number)) k None ≡ Some number
            = ap (λ (j : ℕ). get_or (set table s.label (Some number)) j None) e ∙ get_or-set_same table s.label (Some number) None (omega (arith, so_far.size)) in
            now ∙ sym (more k h ∙ (rw (none, eq-eqb k s.label e, eq-eqb occurrence s.occurrence (sym same)) refl))
        | inr ne ↦
            let old : get_or (set table s.label (Some number)) k None ≡ get_or table k None = get_or-set_other table s.label k (Some number) None ne in
            old ∙ sym (more k h ∙ rw (ne_eqb k s.label ne) (or_none (get_or table k None)))
      ];
    }

    -- the same of what the code reads and writes
    pub other_read : (s.occurrence ≡ occurrence → ⊥) → IsTableSoFar sides (number + 1) occurrence count table
    other_read ne = other_occurrence (ne_eqb occurrence s.occurrence (λ e. ne (sym e)))

    module _ (n : ℕ) (o : Option ℕ) (at_label : n ≡ s.label) (within : s.label < count) (read : o ≡ get_or table n o) where
      -- what is read is what the table has
      had : get_or table s.label None ≡ o
      had = ap (λ (j : ℕ). get_or table j None) (sym at_label) ∙ sym (get_or_read table n o (omega (arith, so_far.size)) read None)

      pub full_read : is_some o ≡ true → IsTableSoFar sides (number + 1) occurrence count table
      full_read full = let (k, e) = some_is o full in has_its_side k (had ∙ e)

      pub put_read : (r : ℕ) → r ≡ number → s.occurrence ≡ occurrence → is_some o ≡ false → IsTableSoFar sides (number + 1) occurrence count (set table n (Some r))
      put_read r e same empty = rw (at_label, e) (put_down within same (had ∙ none_is o empty))

  -- at the end the table is that of all sides
  pub whole_table : (number : ℕ) (table : List (Option ℕ)) → IsTableSoFar sides number occurrence count table → length sides ≤ number → table ≡ side_table sides count occurrence
  whole_table number table so_far l =
      fill_by_all (λ k. position (is_side (side k occurrence)) sides) table count None so_far.size
      (λ k h. so_far.found k h ∙ ap (position (is_side (side k occurrence))) (take_all number sides l))

-- what the tables have is where the side stands
pub read_table : (sides : List SideLabel) (firsts seconds : List (Option ℕ)) (count : ℕ) → firsts ≡ side_table sides count 0 → seconds ≡ side_table sides count 1
    → (label occurrence : ℕ) → label < count → occurrence ≤ 1
    → get_or (cond (eqb occurrence 0) firsts seconds) label None ≡ position (is_side (side label occurrence)) sides
read_table sides firsts seconds count f g label occurrence l o =
    elim (cases_eq occurrence 0) [
      | inl e ↦ rw (e, f) (get_or-map-range_with_len (λ k. position (is_side (side k 0)) sides) 0 count label label None l (omega arith))
      | inr n ↦
          let e : occurrence ≡ 1 = omega arith in
          rw (e, g) (get_or-map-range_with_len (λ k. position (is_side (side k 1)) sides) 0 count label label None l (omega arith))
    ]

-- so the other side of a side is found
pub found_side : (sides : List SideLabel) (firsts seconds : List (Option ℕ)) (count : ℕ) → AreAllFound sides firsts seconds count → (s : SideLabel) → Mem s sides
    → get_or (cond (eqb (1 - s.occurrence) 0) firsts seconds) s.label None ≡ Some (position_or_len (is_side (other_side s)) sides)
found_side sides firsts seconds count found s m =
    read_table sides firsts seconds count found.firsts_are found.seconds_are s.label (1 - s.occurrence) (found.named s m).0 (omega arith)
    ∙ found_place (is_side (other_side s)) sides (found.others s m)

-- one entry a label
pub length-side_table : (sides : List SideLabel) (count occurrence : ℕ) → length (side_table sides count occurrence) ≡ count
length-side_table sides count occurrence = length-map-range_with_len (λ label. position (is_side (side label occurrence)) sides) 0 count
