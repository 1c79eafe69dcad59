-- The place order of a page: its sides in a row, each once, and the numbers that they take.
use Rattle.std.proofs.Common.{◌≡◌, ℕ, suc, zero, ◌+◌, ◌-◌, ◌*◌, ◌<◌, ◌≤◌, cond, eqb, List, [], ◌∷◌, map, length, take, get_or, sym, subst, ap, ap₂, ◌∙◌, arith, inl, inr}
use Rattle.std.specs.List.{before_first, position_or_len, sum_by}
use Rattle.std.proofs.lemmas.Bool.{cases_eq, eq-eqb, ne_eqb}
use Rattle.std.proofs.lemmas.List.{length-take}
use Rattle.std.proofs.lemmas.List.FromFn.{length-map-range_with_len}
use Rattle.std.proofs.lemmas.List.Sums.{sum_by-cons}
use Rattle.obd_base.specs.Lists.{Mem, below}
use Rattle.obd_base.proofs.lists.Sums.{sum_same}
use Rattle.page_surface.specs.declared.page.SideLabel.{SideLabel}
use Rattle.page_surface.specs.Joining.{side, is_side, other_side}
use Rattle.page_surface.specs.Labels.{Label, all_sides, labels_of, side_labels}
use Rattle.page_surface.specs.Page.{IsPage}
use Rattle.page_surface.proofs.FewSides.{few_sides}
use Rattle.page_surface.proofs.Sides.{length-side_labels}
use Rattle.arc_basis.proofs.LabelCounts.{sides_in_row}
use Rattle.arc_basis.proofs.Rows.{itself, mem_had, named_in_row, once_in_row}
use Rattle.arc_basis.proofs.Places.{any_counted, mem_at, only_place}
use Rattle.curve_paths.specs.declared.crossing.Crossing.{Crossing}
use Rattle.curve_paths.specs.Paths.{crossing_at, entered_side, following, label_points, path_spot, row}
use Rattle.curve_paths.specs.PlaceTables.{ArePlaced, AreSides, AreStarts, IsPlaceOrder, start_of}
use Rattle.curve_paths.proofs.Numbers.{count_read, few_points}
use Rattle.curve_paths.proofs.PathChords.{same_at}
use Rattle.curve_paths.proofs.Starts.{none}

-- a member of the first ones is a member
mem_take : {X : Type 0} (x : X) (k : ℕ) (xs : List X) → Mem x (take k xs) → Mem x xs
mem_take x zero xs m = absurd m
mem_take x (suc k) [] m = absurd m
mem_take x (suc k) (y ∷ xs) (inl e) = inl e
mem_take x (suc k) (y ∷ xs) (inr m) = inr (mem_take x k xs m)

-- a sum of terms that are bounded
sum_bounded : {X : Type 0} (f : X → ℕ) (xs : List X) → ((x : X) → f x ≤ 34) → sum_by f xs ≤ length xs * 34
sum_bounded f [] h = omega arith
sum_bounded f (x ∷ xs) h = omega (arith, sum_by-cons f x xs, sum_bounded f xs h, h x)

module _ (page : List (List Label)) (valid : IsPage page) where
  -- the row is all sides read one after another
  row_is : row page ≡ side_labels [] (all_sides page)
  row_is = sides_in_row [] page

  few_in_row : length (row page) ≤ 48
  few_in_row = omega (arith, ap length row_is, length-side_labels [] (all_sides page), few_sides page valid)

  -- each side of each label is there
  pub there_in_row : (label occurrence : ℕ) → label < length (labels_of page) → occurrence ≤ 1 → Mem (side label occurrence) (row page)
  there_in_row label occurrence l o = mem_had (side label occurrence) (row page) (any_counted (is_side (side label occurrence)) (row page) (omega (arith, once_in_row page valid label occurrence l o)))

  -- so a side stands where it is found
  pub place_in_row : (k : ℕ) → k < length (row page) → position_or_len (is_side (get_or (row page) k none)) (row page) ≡ k
  place_in_row k l =
      let s : SideLabel = get_or (row page) k none in
      let n = named_in_row page valid s (mem_at (row page) k none l) in
      only_place (is_side s) (row page) k none (once_in_row page valid s.label s.occurrence n.0 n.1) l (itself s)

  -- the sides and counts of as many labels are good for the table
  pub good_sides : (counts : List ℕ) → length counts ≡ length (labels_of page) → ((label : ℕ) → label < length counts → get_or counts label 0 ≤ 32)
      → (sides : List SideLabel) (xs : List ℕ) → sides ≡ row page → xs ≡ counts → AreSides sides xs
  good_sides counts size few sides xs e f =
      subst (λ (ys : List SideLabel). AreSides ys xs) (sym e) (subst (λ (ns : List ℕ). AreSides (row page) ns) (sym f) (record {
        few = few_in_row;
        few_points = few;
        named = λ s m. let n = named_in_row page valid s m in (omega (arith, size, n.0), n.1);
        once = place_in_row;
      }))

  module _ (cs : List Crossing) (counts : List ℕ) (few : length cs ≤ 32) (c : counts ≡ map (label_points cs) (below (length (labels_of page)))) where
    size : length counts ≡ length (labels_of page)
    size = ap length c ∙ length-map-range_with_len (label_points cs) 0 (length (labels_of page))

    -- no label has more points than there are crossings
    pub few_counts : (label : ℕ) → label < length counts → get_or counts label 0 ≤ 32
    few_counts label l = omega (arith, count_read cs counts (length (labels_of page)) label c (omega (arith, size)), few_points cs label, few)

    -- the table is the place order's
    pub order_made : (sides : List SideLabel) (starts : List ℕ) → sides ≡ row page → AreStarts sides counts starts → IsPlaceOrder page cs counts starts
    order_made sides starts e h = record {
      counts_are = c;
      size = h.size;
      starts_are = λ label occurrence l o.
          let s : SideLabel = side label occurrence in
          h.starts_are s (subst (λ (xs : List SideLabel). Mem s xs) (sym e) (there_in_row label occurrence l o))
          ∙ (ap (λ (xs : List SideLabel). start_of xs counts s) e
          ∙ sum_same (λ t. get_or counts t.label 0 + 2) (λ t. label_points cs t.label + 2) (before_first (is_side s) (row page))
          (λ t m. ap (λ n. n + 2) (count_read cs counts (length (labels_of page)) t.label c (named_in_row page valid t (mem_take t _ (row page) m)).0)));
      fits = λ label occurrence l o.
          let s : SideLabel = side label occurrence in
          let bound = sum_bounded (λ t. label_points cs t.label + 2) (before_first (is_side s) (row page)) (λ t. omega (arith, few_points cs t.label, few)) in
          omega (arith, bound, length-take (position_or_len (is_side s) (row page)) (row page), few_in_row);
      few = few;
    }

-- a spot, as it is read in the tables
pub spot_read : (page : List (List Label)) (cs : List Crossing) (counts starts : List ℕ) → IsPlaceOrder page cs counts starts → (s : SideLabel) (place : ℕ)
    → s.label < length (labels_of page) → s.occurrence ≤ 1
    → get_or starts (s.label * 2 + s.occurrence) 0 + cond (eqb s.occurrence 0) place (get_or counts s.label 0 - 1 - place) ≡ path_spot page cs s place
spot_read page cs counts starts h s place l o =
    ap₂ (λ a b. a + b) (h.starts_are s.label s.occurrence l o)
    (ap (λ n. cond (eqb s.occurrence 0) place (n - 1 - place)) (count_read cs counts (length (labels_of page)) s.label h.counts_are l))

-- the following crossing is one
pub following_within : (n i : ℕ) → i < n → following n i < n
following_within n i l = elim (cases_eq (suc i) n) [
  | inl e ↦ rw (eq-eqb (suc i) n e) (omega arith)
  | inr ne ↦ rw (ne_eqb (suc i) n ne) (omega arith)
]

-- what is asked of a side and a place before their spot is read
pub record CanRead (counts starts : List ℕ) (s : SideLabel) (place : ℕ) : Type 0 where
  pub label : s.label < length counts
  pub place_below : place < get_or counts s.label 0
  pub few : get_or counts s.label 0 ≤ 32
  pub fits : get_or starts (s.label * 2 + s.occurrence) 0 ≤ 48 * 34

pub can_read : (page : List (List Label)) (cs : List Crossing) (counts starts : List ℕ) → IsPlaceOrder page cs counts starts → (s : SideLabel) (place : ℕ)
    → s.label < length (labels_of page) → s.occurrence ≤ 1 → place < label_points cs s.label → CanRead counts starts s place
can_read page cs counts starts h s place l o p =
    let read = count_read cs counts (length (labels_of page)) s.label h.counts_are l in
    let size : length counts ≡ length (labels_of page) = ap length h.counts_are ∙ length-map-range_with_len (label_points cs) 0 (length (labels_of page)) in
    record {
      label = omega (arith, size);
      place_below = omega (arith, read);
      few = omega (arith, read, few_points cs s.label, h.few);
      fits = omega (arith, h.starts_are s.label s.occurrence l o, h.fits s.label s.occurrence l o);
    }

-- the facts of a crossing that is read, and of the following one
pub at_crossing : (page : List (List Label)) (cs : List Crossing) → ArePlaced page cs → (i : ℕ) (d : Crossing) → i < length cs
    → ((get_or cs i d).side.label < length (labels_of page)) × ((get_or cs i d).side.occurrence ≤ 1) × ((get_or cs i d).place < label_points cs (get_or cs i d).side.label)
at_crossing page cs h i d l =
    let m = mem_at cs i d l in
    let n = h.named (get_or cs i d) m in
    (n.0, n.1, h.placed (get_or cs i d) m)

-- the same of a crossing that is the one there
pub same_crossing : (page : List (List Label)) (cs : List Crossing) → ArePlaced page cs → (i : ℕ) (d x : Crossing) → i < length cs → x ≡ get_or cs i d
    → (x.side.label < length (labels_of page)) × (x.side.occurrence ≤ 1) × (x.place < label_points cs x.side.label)
same_crossing page cs h i d x l e = subst (λ (y : Crossing). (y.side.label < length (labels_of page)) × (y.side.occurrence ≤ 1) × (y.place < label_points cs y.side.label)) (sym e) (at_crossing page cs h i d l)

module _ (page : List (List Label)) (cs : List Crossing) (counts starts : List ℕ) (order : IsPlaceOrder page cs counts starts) (placed : ArePlaced page cs)
    (i : ℕ) (l : i < length cs) where
  -- the side through which the curve enters after a crossing, with the crossing's place
  module _ (d e : Crossing) (o : SideLabel) (is : o ≡ other_side (get_or cs i d).side) where
    pub entered_named : (o.label < length (labels_of page)) × (o.occurrence ≤ 1) × ((get_or cs i e).place < label_points cs o.label)
    entered_named =
        let n = at_crossing page cs placed i d l in
        let label : o.label ≡ (get_or cs i d).side.label = ap (λ (s : SideLabel). s.label) is in
        let occurrence : o.occurrence ≡ 1 - (get_or cs i d).side.occurrence = ap (λ (s : SideLabel). s.occurrence) is in
        let place : (get_or cs i e).place ≡ (get_or cs i d).place = ap (λ (c : Crossing). c.place) (same_at cs i e d l) in
        (omega (arith, label, n.0), omega (arith, occurrence), rw (label, place) n.2)

    pub entered_can : CanRead counts starts o (get_or cs i e).place
    entered_can = let n = entered_named in can_read page cs counts starts order o (get_or cs i e).place n.0 n.1 n.2

    pub entered_spot : (r : ℕ) → r ≡ get_or starts (o.label * 2 + o.occurrence) 0 + cond (eqb o.occurrence 0) (get_or cs i e).place (get_or counts o.label 0 - 1 - (get_or cs i e).place)
        → r ≡ path_spot page cs (entered_side (crossing_at cs i)) (crossing_at cs i).place
    entered_spot r er =
        let n = entered_named in
        er ∙ (spot_read page cs counts starts order o (get_or cs i e).place n.0 n.1
        ∙ ap₂ (path_spot page cs) (is ∙ ap (λ (c : Crossing). other_side c.side) (same_at cs i d _ l)) (ap (λ (c : Crossing). c.place) (same_at cs i e _ l)))

  -- the crossing that follows
  module _ (x : Crossing) (is : x ≡ crossing_at cs (following (length cs) i)) where
    pub followed_named : (x.side.label < length (labels_of page)) × (x.side.occurrence ≤ 1) × (x.place < label_points cs x.side.label)
    followed_named = same_crossing page cs placed _ _ x (following_within (length cs) i l) is

    pub followed_can : CanRead counts starts x.side x.place
    followed_can = let n = followed_named in can_read page cs counts starts order x.side x.place n.0 n.1 n.2

    pub followed_spot : (r : ℕ) → r ≡ get_or starts (x.side.label * 2 + x.side.occurrence) 0 + cond (eqb x.side.occurrence 0) x.place (get_or counts x.side.label 0 - 1 - x.place)
        → r ≡ path_spot page cs (crossing_at cs (following (length cs) i)).side (crossing_at cs (following (length cs) i)).place
    followed_spot r er =
        let n = followed_named in
        er ∙ (spot_read page cs counts starts order x.side x.place n.0 n.1 ∙ ap (λ (c : Crossing). path_spot page cs c.side c.place) is)

-- the table of sides and counts that are these
pub starts_as : (sides ys : List SideLabel) (counts xs starts : List ℕ) → ys ≡ sides → xs ≡ counts → AreStarts ys xs starts → AreStarts sides counts starts
starts_as sides ys counts xs starts e f h = subst (λ (ns : List ℕ). AreStarts sides ns starts) f (subst (λ (zs : List SideLabel). AreStarts zs xs starts) e h)
