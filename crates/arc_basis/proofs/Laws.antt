-- What the tables of a basis say: where each side of a label has gone, and which labels are seams.
use Rattle.std.proofs.Common.{◌≡◌, ℕ, ◌-◌, ◌<◌, ◌≤◌, Bool, true, false, cond, eqb, List, [], ◌∷◌, length, get_or, Option, None, refl, sym, ap, ◌∙◌, inl, inr, arith, append-nil, ◌↔◌, ap₂, map, subst}
use Rattle.std.specs.List.{All, count_by, position, position_or_len}
use Rattle.std.proofs.lemmas.Bool.{cases_Bool, eq-eqb, eqb-true, false≢true}
use Rattle.std.proofs.lemmas.List.{length-map}
use Rattle.std.proofs.lemmas.List.Sums.{sum_by-cons}
use Rattle.obd_base.proofs.lists.Below.{bit}
use Rattle.obd_base.specs.Lists.{Mem}
use Rattle.page_surface.specs.declared.page.SideLabel.{SideLabel}
use Rattle.page_surface.specs.Joining.{Joined, has_side, is_side, joined, other_side, side, polygon_of}
use Rattle.page_surface.specs.Labels.{Label, labels_of}
use Rattle.page_surface.specs.Page.{IsPage}
use Rattle.page_surface.specs.Polygon.{Pairs, Polygon, paired}
use Rattle.arc_basis.specs.Basis.{joined_sides, label_count}
use Rattle.arc_basis.specs.BasisTables.{AreAllFound, AreNamed, of_sides, side_table}
use Rattle.arc_basis.proofs.LabelCounts.{stands}
use Rattle.arc_basis.proofs.Places.{any_counted, found_place, mem_at, no_place}
use Rattle.arc_basis.specs.SeamTables.{AreLeft, AreSeamTables}
use Rattle.arc_basis.proofs.Rows.{itself, mem_had}
use Rattle.arc_basis.proofs.OneItem.{counted}
use Rattle.arc_basis.proofs.Tables.{length-side_table, read_table}
use Rattle.arc_basis.proofs.Whole.{IsWhole, page_whole}

-- a number is in a list or not
pub in_or_not : (x : ℕ) (xs : List ℕ) → (b : Bool) × (b ≡ true → Mem x xs) × (b ≡ false → count_by (eqb x) xs ≡ 0)
in_or_not x [] = (false, λ e. absurd (false≢true e), λ e. refl)
in_or_not x (y ∷ xs) = elim (cases_Bool (eqb x y)) [
  | inl t ↦ (true, λ e. inl (eqb-true x y t), λ e. absurd (false≢true (sym e)))
  | inr f ↦ (let (b, g, h) = in_or_not x xs in (b, λ e. inr (g e), λ e. let z = sum_by-cons (λ z. bit (eqb x z)) y xs in let w = ap bit f in omega (arith, z, w, h e)))
]

module _ (page : List (List Label)) (valid : IsPage page) where
  whole : IsWhole page (joined_sides (joined page))
  whole = page_whole page valid

  -- what joining a page leaves
  pub page_left : AreLeft (joined_sides (joined page)) (length (labels_of page)) (joined page).seams
  page_left = record {
    named = whole.named;
    gone = λ label o m h. elim (cases_Bool (has_side (side label o) (joined_sides (joined page)))) [
      | inr f ↦ f
      | inl t ↦
          let s = side label o in
          let c = counted (is_side s) s (joined_sides (joined page)) (mem_had s (joined_sides (joined page)) t) (itself s) in
          let d = counted (eqb label) label (joined page).seams m (eq-eqb label label refl) in
          absurd (omega (arith, c, d, whole.once label o (whole.seam_named label m) h))
    ];
    there = λ label o l h no_seam.
        let (b, g, z) = in_or_not label (joined page).seams in
        any_counted (is_side (side label o)) (joined_sides (joined page)) (stands_once label o l h b no_seam g z);
    others = λ s m.
        let n = whole.named s m in
        let c = counted (is_side s) s (joined_sides (joined page)) m (itself s) in
        let here = whole.once s.label s.occurrence n.0 n.1 in
        let there = whole.once s.label (1 - s.occurrence) n.0 (omega arith) in
        any_counted (is_side (other_side s)) (joined_sides (joined page)) (omega (arith, c, here, there));
  }
    where
      stands_once : (label o : ℕ) → label < length (labels_of page) → o ≤ 1 → (b : Bool) → (Mem label (joined page).seams → ⊥) → (b ≡ true → Mem label (joined page).seams)
          → (b ≡ false → count_by (eqb label) (joined page).seams ≡ 0) → 1 ≤ stands label o (joined_sides (joined page))
      stands_once label o l h true no_seam g z = absurd (no_seam (g refl))
      stands_once label o l h false no_seam g z = let a = z refl in let b = whole.once label o l h in omega (arith, a, b)

-- what is read in the tables of a basis
module _ (sides : List SideLabel) (polygon : Polygon) (firsts seconds : List (Option ℕ)) (seams : List ℕ) (t : AreSeamTables sides polygon firsts seconds seams)
    (now : Joined) (seen : of_sides sides seams ≡ now) where
  abbrev count : ℕ
  count = label_count (of_sides sides seams)

  -- they are all sides that are seen
  seen_sides : joined_sides now ≡ sides
  seen_sides = ap joined_sides (sym seen) ∙ append-nil sides

  -- one entry a label in each table
  pub firsts_long : (xs : List (Option ℕ)) → xs ≡ firsts → length xs ≡ label_count now
  firsts_long xs e = ap length (e ∙ t.firsts_are) ∙ (length-side_table sides count 0 ∙ ap label_count seen)

  pub seconds_long : (xs : List (Option ℕ)) → xs ≡ seconds → length xs ≡ label_count now
  seconds_long xs e = ap length (e ∙ t.seconds_are) ∙ (length-side_table sides count 1 ∙ ap label_count seen)

  module _ (label occurrence : ℕ) (l : label < label_count now) (o : occurrence ≤ 1) where
    within : label < count
    within = subst (λ (j : Joined). label < label_count j) (sym seen) l

    -- a side is found nowhere exactly where its label is a seam
    none_for_seams : (position (is_side (side label occurrence)) sides ≡ None) ↔ Mem label seams
    none_for_seams = (to, from)
      where
        from : Mem label seams → position (is_side (side label occurrence)) sides ≡ None
        from m = no_place (is_side (side label occurrence)) sides (t.left.gone label occurrence m o)

        to : position (is_side (side label occurrence)) sides ≡ None → Mem label seams
        to e = go (in_or_not label seams)
          where
            nowhere : (Mem label seams → ⊥) → ⊥
            nowhere no_seam =
                let found = found_place (is_side (side label occurrence)) sides (t.left.there label occurrence within o no_seam) in
                absurd (let bad = sym found ∙ e in cc)

            none_in : (xs : List ℕ) → count_by (eqb label) xs ≡ 0 → Mem label xs → ⊥
            none_in xs z m = let c = counted (eqb label) label xs m (eq-eqb label label refl) in omega (arith, c, z)

            go : ((b : Bool) × (b ≡ true → Mem label seams) × (b ≡ false → count_by (eqb label) seams ≡ 0)) → Mem label seams
            go (true, g, z) = g refl
            go (false, g, z) = absurd (nowhere (λ m. none_in seams (z refl) m))

    module _ (xs ys : List (Option ℕ)) (x : xs ≡ firsts) (y : ys ≡ seconds) (r : Option ℕ) (read : r ≡ get_or (cond (eqb occurrence 0) xs ys) label None) where
      in_tables : r ≡ position (is_side (side label occurrence)) sides
      in_tables = read ∙ (ap₂ (λ (us vs : List (Option ℕ)). get_or (cond (eqb occurrence 0) us vs) label None) x y
          ∙ read_table sides firsts seconds count t.firsts_are t.seconds_are label occurrence within o)

      -- what is read is where the side stands
      pub read_is : r ≡ position (is_side (side label occurrence)) (joined_sides now)
      read_is = in_tables ∙ ap (position (is_side (side label occurrence))) (sym seen_sides)

      -- and nowhere exactly for a seam
      pub none_is_seam : (r ≡ None) ↔ Mem label now.seams
      none_is_seam =
          let same : seams ≡ now.seams = ap (λ (j : Joined). j.seams) seen in (
            λ none. subst (λ (xs : List ℕ). Mem label xs) same (none_for_seams.0 (sym in_tables ∙ none)),
            λ m. in_tables ∙ none_for_seams.1 (subst (λ (xs : List ℕ). Mem label xs) (sym same) m),
          )

-- what is made from what joining leaves
module _ (page : List (List Label)) (valid : IsPage page) (sides : List SideLabel) (s : sides ≡ joined_sides (joined page)) (count : ℕ) (e : count ≡ length (labels_of page)) where
  -- each side is one of so many labels, and they are few
  pub named_by : AreNamed sides count
  named_by = subst (λ n. AreNamed sides n) (sym e) (subst (λ xs. AreNamed xs (length (labels_of page))) (sym s) (page_left page valid).named)

  pub few_sides : length sides ≤ 16
  few_sides = omega (arith, ap length s, (whole page valid).most)

  -- the tables find the other side of each side
  pub found_by : (firsts seconds : List (Option ℕ)) → firsts ≡ side_table sides count 0 → seconds ≡ side_table sides count 1 → AreAllFound sides firsts seconds (length firsts)
  found_by firsts seconds f g = subst (λ n. AreAllFound sides firsts seconds n) (sym (ap length f ∙ length-side_table sides count 0)) (record {
    named = named_by;
    others = subst (λ xs. (x : SideLabel) → Mem x xs → has_side (other_side x) xs ≡ true) (sym s) (page_left page valid).others;
    firsts_are = f;
    seconds_are = g;
  })

  module _ (seams : List ℕ) (t : seams ≡ (joined page).seams) where
    -- what is seen of them is what joining leaves
    pub seen_joined : of_sides sides seams ≡ joined page
    seen_joined = ap₂ of_sides s t ∙ sym (whole page valid).joined_is

    -- the tables of the basis
    pub tables_made : (polygon : Polygon) (pairs : List ℕ) (firsts seconds : List (Option ℕ)) → polygon ≡ paired pairs
        → pairs ≡ map (λ x. position_or_len (is_side (other_side x)) sides) sides → firsts ≡ side_table sides count 0 → seconds ≡ side_table sides count 1
        → AreSeamTables sides polygon firsts seconds seams
    tables_made polygon pairs firsts seconds p q f g = record {
      polygon_is = p ∙ ap paired q;
      left = subst (λ n. AreLeft sides n seams) (sym e ∙ same) left_here;
      firsts_are = f ∙ ap (λ n. side_table sides n 0) same;
      seconds_are = g ∙ ap (λ n. side_table sides n 1) same;
    }
      where
        same : count ≡ label_count (of_sides sides seams)
        same = e ∙ sym (ap label_count seen_joined ∙ (whole page valid).counted)

        left_here : AreLeft sides (length (labels_of page)) seams
        left_here = subst (λ xs. AreLeft xs (length (labels_of page)) seams) (sym s) (subst (λ xs. AreLeft (joined_sides (joined page)) (length (labels_of page)) xs) (sym t) (page_left page valid))

  -- the partners pair off
  pub pairs_off : (pairs : List ℕ) → pairs ≡ map (λ x. position_or_len (is_side (other_side x)) sides) sides → (2 ≤ length pairs) × (length pairs ≤ 16) × Pairs (paired pairs)
  pairs_off pairs q =
      let w = whole page valid in
      let size : length pairs ≡ length (joined_sides (joined page)) = ap length q ∙ (length-map sides (λ x. position_or_len (is_side (other_side x)) sides) ∙ ap length s) in (
        omega (arith, size, w.least),
        omega (arith, size, w.most),
        subst (λ ps. Pairs (paired ps)) (sym q) (subst (λ xs. Pairs (polygon_of xs)) (sym s) w.pairs),
      )

-- each seam is a label of the page
pub seams_named : (page : List (List Label)) → IsPage page → (seams : List ℕ) → seams ≡ (joined page).seams → All (λ label. label < length (labels_of page)) seams
seams_named page valid seams e = λ k d l. (whole page valid).seam_named (get_or seams k d) (subst (λ (xs : List ℕ). Mem (get_or seams k d) xs) e (mem_at seams k d l))
