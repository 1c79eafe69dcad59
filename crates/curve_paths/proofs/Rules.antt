-- The rules of a path, one after another, and what is known of a path that keeps them.
use Rattle.std.proofs.Common.{◌≡◌, ℕ, suc, ◌<◌, ◌≤◌, Bool, true, false, eqb, ltb, not, List, [], ◌∷◌, length, get_or, find, Option, Some, None, option_map, refl, sym, subst, ap, ◌∙◌, arith, zero-add, inl, inr}
use Rattle.std.specs.List.{list_all, list_any, position}
use Rattle.std.specs.Option.{is_some}
use Rattle.std.proofs.lemmas.Bool.{cases_Bool, not-false, false≢true, ltb-false}
use Rattle.std.proofs.lemmas.List.FromFn.{get_or-range_with_len, length-range_with_len}
use Rattle.std.proofs.lemmas.List.{length-map}
use Rattle.obd_base.specs.Lists.{Mem, below}
use Rattle.obd_base.proofs.lists.Members.{mem_map}
use Rattle.page_surface.specs.Labels.{Label, labels_of}
use Rattle.page_surface.proofs.EmbeddedTest.{all_in}
use Rattle.page_surface.proofs.LabelNumbers.{first_below}
use Rattle.arc_basis.proofs.LabelCounts.{none_passes}
use Rattle.curve_paths.specs.declared.chords.ChordPair.{ChordPair}
use Rattle.curve_paths.specs.declared.crossing.Crossing.{Crossing}
use Rattle.curve_paths.specs.declared.path.Cross.{Cross}
use Rattle.curve_paths.specs.declared.refusal.CurveRefusal.{CurveRefusal}
use Rattle.curve_paths.specs.declared.refusal.CurveRefusal.TheVariants.{EmptyPath, UnknownLabel, TooManyCrossings, PlaceWrong, NotAdjacent, Crosses}
use Rattle.obd_base.specs.Options.{first_of, when}
use Rattle.curve_paths.specs.PathRules.{crossing_pair, refusal_of}
use Rattle.curve_paths.specs.PathTables.{HaveOccurrences}
use Rattle.curve_paths.specs.Paths.{crossing, crossings, has_label_places, is_known, is_within, path_chords}
use Rattle.curve_paths.specs.PlaceTables.{ArePlaced}
use Rattle.curve_paths.proofs.LabelPlaces.{place_below}
use Rattle.curve_paths.proofs.Numbers.{some_place}

-- the first rule that fails, from what each finds
abbrev answer : Bool → Option ℕ → Bool → ℕ → (ℕ → Label) → Option ℕ → Option ℕ → Option ChordPair → Option CurveRefusal
answer empty unknown long count name wrong apart pair = first_of (
    when empty EmptyPath ∷ option_map UnknownLabel unknown ∷ when long (TooManyCrossings count) ∷ option_map (λ label. PlaceWrong (name label)) wrong
    ∷ option_map NotAdjacent apart ∷ option_map (λ e. Crosses e.first e.second) pair ∷ [])

module _ (empty : Bool) (unknown : Option ℕ) (long : Bool) (count : ℕ) (name : ℕ → Label) (wrong apart : Option ℕ) (pair : Option ChordPair) where
  unknown_told : (n : ℕ) → empty ≡ false → unknown ≡ Some n → answer empty unknown long count name wrong apart pair ≡ Some (UnknownLabel n)
  unknown_told n e u = rw (e, u) refl

  long_told : empty ≡ false → unknown ≡ None → long ≡ true → answer empty unknown long count name wrong apart pair ≡ Some (TooManyCrossings count)
  long_told e u l = rw (e, u, l) refl

  wrong_told : (n : ℕ) → empty ≡ false → unknown ≡ None → long ≡ false → wrong ≡ Some n → answer empty unknown long count name wrong apart pair ≡ Some (PlaceWrong (name n))
  wrong_told n e u l w = rw (e, u, l, w) refl

  apart_told : (n : ℕ) → empty ≡ false → unknown ≡ None → long ≡ false → wrong ≡ None → apart ≡ Some n → answer empty unknown long count name wrong apart pair ≡ Some (NotAdjacent n)
  apart_told n e u l w a = rw (e, u, l, w, a) refl

  pair_told : (x : ChordPair) → empty ≡ false → unknown ≡ None → long ≡ false → wrong ≡ None → apart ≡ None → pair ≡ Some x
      → answer empty unknown long count name wrong apart pair ≡ Some (Crosses x.first x.second)
  pair_told x e u l w a p = rw (e, u, l, w, a, p) refl

  none_told : empty ≡ false → unknown ≡ None → long ≡ false → wrong ≡ None → apart ≡ None → pair ≡ None → answer empty unknown long count name wrong apart pair ≡ None
  none_told e u l w a p = rw (e, u, l, w, a, p) refl

-- each member of a list of which all fail a test passes its opposite
all_known : {X : Type 0} (p : X → Bool) (xs : List X) → list_any (λ x. not (p x)) xs ≡ false → list_all p xs ≡ true
all_known p [] h = refl
all_known p (x ∷ xs) h = elim (cases_Bool (p x)) [
  | inl t ↦ rw t (all_known p xs (rw t at h))
  | inr f ↦ absurd (false≢true (sym (rw f at h)))
]

-- what is found nowhere passes nowhere
never : {X : Type 0} (p : X → Bool) (xs : List X) → position p xs ≡ None → list_any p xs ≡ false
never p xs h = sym (some_place p xs) ∙ ap is_some h

module _ (page : List (List Label)) (path : List Cross) where
  abbrev cs : List Crossing
  cs = crossings page path

  abbrev unknowns : Option ℕ
  unknowns = position (λ c. not (is_known page c)) path

  abbrev wrongs : Option ℕ
  wrongs = find (λ label. not (has_label_places cs label)) (below (length (labels_of page)))

  abbrev aparts : Option ℕ
  aparts = find (λ i. not (is_within page cs i)) (below (length cs))

  -- what is known after each rule
  pub no_crossing : path ≡ [] → refusal_of page path ≡ Some EmptyPath
  no_crossing e = rw e refl

  module _ (some : eqb (length path) 0 ≡ false) where
    pub unknown_label : (n : ℕ) → Some n ≡ unknowns → refusal_of page path ≡ Some (UnknownLabel n)
    unknown_label n e = unknown_told _ _ _ _ (λ label. get_or (labels_of page) label []) _ _ _ n some (sym e)

    module _ (known : None ≡ unknowns) where
      -- the path's labels are known
      pub labels_known : list_all (is_known page) path ≡ true
      labels_known = all_known (is_known page) path (never (λ c. not (is_known page c)) path (sym known))

      pub too_many : (n : ℕ) → n ≡ length path → ltb 32 n ≡ true → refusal_of page path ≡ Some (TooManyCrossings n)
      too_many n e l = rw e (long_told _ _ _ (length path) (λ label. get_or (labels_of page) label []) _ _ _ some (sym known) (ap (ltb 32) (sym e) ∙ l))

      module _ (few : ltb 32 (length path) ≡ false) where
        pub place_wrong : (n : ℕ) (name : Label) → Some n ≡ wrongs → name ≡ get_or (labels_of page) n [] → refusal_of page path ≡ Some (PlaceWrong name)
        place_wrong n name e f = wrong_told _ _ _ _ (λ label. get_or (labels_of page) label []) _ _ _ n some (sym known) few (sym e) ∙ ap (λ x. Some (PlaceWrong x)) (sym f)

        module _ (right : None ≡ wrongs) where
          pub not_adjacent : (n : ℕ) → Some n ≡ aparts → refusal_of page path ≡ Some (NotAdjacent n)
          not_adjacent n e = apart_told _ _ _ _ (λ label. get_or (labels_of page) label []) _ _ _ n some (sym known) few (sym right) (sym e)

          module _ (within : None ≡ aparts) where
            pub two_cross : (x : ChordPair) → Some x ≡ crossing_pair (path_chords page cs) → refusal_of page path ≡ Some (Crosses x.first x.second)
            two_cross x e = pair_told _ _ _ _ (λ label. get_or (labels_of page) label []) _ _ _ x some (sym known) few (sym right) (sym within) (sym e)

            pub none_fails : None ≡ crossing_pair (path_chords page cs) → refusal_of page path ≡ None
            none_fails e = none_told _ _ _ _ (λ label. get_or (labels_of page) label []) _ _ _ some (sym known) few (sym right) (sym within) (sym e)

  -- the crossings of a path whose labels are known
  module _ (known : list_all (is_known page) path ≡ true) (occurrences : HaveOccurrences path) where
    pub crossings_named : (c : Crossing) → Mem c cs → (c.side.label < length (labels_of page)) × (c.side.occurrence ≤ 1)
    crossings_named c m =
        let (x, k, e) = mem_map (crossing page) c path m in
        let l = first_below _ (labels_of page) (all_in (is_known page) x path known k) in
        let o = all_member path occurrences x k in
        subst (λ (y : Crossing). (y.side.label < length (labels_of page)) × (y.side.occurrence ≤ 1)) (sym e) (l, o)
      where
        all_member : (path : List Cross) → HaveOccurrences path → (x : Cross) → Mem x path → x.occurrence ≤ 1
        all_member [] h x m = absurd m
        all_member (y ∷ path) h x (inl e) = rw e (h 0 y (omega arith))
        all_member (y ∷ path) h x (inr m) = all_member path (λ k d l. h (suc k) d (omega arith)) x m

    pub crossings_placed : ltb 32 (length path) ≡ false → None ≡ wrongs → ArePlaced page cs
    crossings_placed few right = record {
      few = omega (arith, length-map path (crossing page), ltb-false 32 (length path) few);
      named = crossings_named;
      placed = λ c m.
          let l = (crossings_named c m).0 in
          let at : get_or (below (length (labels_of page))) c.side.label 0 ≡ c.side.label = get_or-range_with_len 0 (length (labels_of page)) c.side.label 0 l ∙ zero-add c.side.label in
          let h = none_passes (λ label. not (has_label_places cs label)) (below (length (labels_of page))) c.side.label 0 (sym right) (omega (arith, l, length-range_with_len 0 (length (labels_of page)))) in
          place_below cs c.side.label (not-false _ (ap (λ (n : ℕ). not (has_label_places cs n)) (sym at) ∙ h)) c m refl;
    }
