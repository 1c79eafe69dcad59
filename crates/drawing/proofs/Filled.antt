-- Tables that are filled entry by entry.
use Rattle.std.proofs.Common.{◌≡◌, ℕ, suc, ◌+◌, ◌*◌, ◌<◌, ◌≤◌, ◌^◌, Bool, true, eqb, ltb, List, [], ◌∷◌, ◌++◌, map, length, get_or, set, take, sym, ◌∙◌, ap, subst, arith, inl, inr}
use Rattle.std.specs.List.{list_all, sum_by}
use Rattle.std.proofs.lemmas.Bool.{cases_eq, eq-eqb, ne_eqb, ltb-true}
use Rattle.std.proofs.lemmas.List.{get_or_read, get_or-set_same, get_or-set_other, length-set, take_all, length-take-le, map-append}
use Rattle.std.proofs.lemmas.List.Sums.{count_by-le-length, sum_by_more}
use Rattle.std.proofs.lemmas.List.FromFn.{fill_by_all}
use Rattle.obd_base.specs.Lists.{below}
use Rattle.obd_base.specs.declared.points.Exit.{Exit}
use Rattle.obd_base.proofs.lists.Below.{below_push, bit}
use Rattle.obd_base.proofs.lists.Sums.{bit-le}
use Rattle.page_surface.proofs.EmbeddedTest.{all_in}
use Rattle.drawing.proofs.Lists.{mem_at}
use Rattle.page_surface.specs.Polygon.{Polygon, partner, sides}
use Rattle.drawing.specs.Counted.{IsFilled}
use Rattle.drawing.specs.Layout.{count_on}

-- a table of which one entry is raised by 1
pub raised : (f g : ℕ → ℕ) (n at x : ℕ) (table : List ℕ) → IsFilled f n table → at < n → x ≡ get_or table at x
    → ((k : ℕ) → k < n → g k ≡ f k + bit (eqb at k)) → IsFilled g n (set table at (x + 1))
raised f g n at x table filled l read more = record {
  size = length-set table at (x + 1) ∙ filled.size;
  each = λ k lk. elim (cases_eq at k) [
    | inl e ↦
        let was : x ≡ f at = get_or_read table at x (omega (arith, filled.size)) read 0 ∙ filled.each at l in
        let same : get_or (set table at (x + 1)) at 0 ≡ x + 1 = get_or-set_same table at (x + 1) 0 (omega (arith, filled.size)) in
        let one : bit (eqb at k) ≡ 1 = ap bit (eq-eqb at k e) in
        subst (λ (j : ℕ). get_or (set table at (x + 1)) j 0 ≡ g k) e (same ∙ (let w : f at ≡ f k = ap f e in omega (arith, was, more k lk, one, w)))
    | inr ne ↦
        let other : get_or (set table at (x + 1)) k 0 ≡ get_or table k 0 = get_or-set_other table at k (x + 1) 0 (λ q. ne (sym q)) in
        let none : bit (eqb at k) ≡ 0 = ap bit (ne_eqb at k ne) in
        other ∙ (filled.each k lk ∙ omega (arith, more k lk, none))
  ];
}

-- at the end the table is its function's
pub filled_table : (f : ℕ → ℕ) (n : ℕ) (table : List ℕ) → IsFilled f n table → table ≡ map f (below n)
filled_table f n table filled = fill_by_all f table n 0 filled.size filled.each

-- some exits have at most two points each
pub counted_within : (p : Polygon) (exits : List Exit) (k : ℕ) → count_on p exits k ≤ 2 * length exits
counted_within p exits k = omega (arith, count_by-le-length (λ e. eqb e.side k) exits, count_by-le-length (λ e. eqb (partner p e.side) k) exits)

module _ (p : Polygon) (exits : List Exit) (i : ℕ) (e : Exit) (counts : List ℕ) (here : i < length exits) (is : e ≡ get_or exits i e)
    (filled : IsFilled (count_on p (take i exits)) (sides p) counts) where
  -- the counts with the exit
  abbrev pub with_exit : ℕ → ℕ
  with_exit k = count_on p (take i exits) k + bit (eqb e.side k)

  -- the counts with the exit and its entry are those of one exit more
  more : (k : ℕ) → count_on p (take (i + 1) exits) k ≡ count_on p (take i exits) k + bit (eqb e.side k) + bit (eqb (partner p e.side) k)
  more k =
      let same : (q : Exit → Bool) → bit (q (get_or exits i e)) ≡ bit (q e) = λ q. ap (λ (x : Exit). bit (q x)) (sym is) in
      omega (
        arith,
        sum_by_more (λ (x : Exit). bit (eqb x.side k)) exits i e here,
        sum_by_more (λ (x : Exit). bit (eqb (partner p x.side) k)) exits i e here,
        same (λ x. eqb x.side k),
        same (λ x. eqb (partner p x.side) k),
      )

  module _ (a x : ℕ) (at : a ≡ e.side) (la : e.side < sides p) (read : x ≡ get_or counts a x) where
    -- the side of the exit is raised
    pub exit_counted : IsFilled with_exit (sides p) (set counts a (x + 1))
    exit_counted = raised (count_on p (take i exits)) with_exit (sides p) a x counts filled (omega arith) read (λ k l. ap (λ (j : ℕ). count_on p (take i exits) k + bit (eqb j k)) (sym at))

    -- which fits
    pub exit_fits : length exits < 2 ^ 28 → x < 2 ^ 30
    exit_fits few =
        let was : x ≡ count_on p (take i exits) a = get_or_read counts a x (omega (arith, filled.size)) read 0 ∙ filled.each a (omega arith) in
        omega (arith, was, counted_within p (take i exits) a, length-take-le i exits (omega arith), few)

    -- and so is the side of its entry
    pub entry_counted : (b y : ℕ) → b ≡ partner p e.side → partner p e.side < sides p → y ≡ get_or (set counts a (x + 1)) b y
        → IsFilled (count_on p (take (i + 1) exits)) (sides p) (set (set counts a (x + 1)) b (y + 1))
    entry_counted b y bt lb back =
        raised with_exit (count_on p (take (i + 1) exits)) (sides p) b y (set counts a (x + 1)) exit_counted (omega arith) back
        (λ k l. more k ∙ ap (λ (j : ℕ). with_exit k + bit (eqb j k)) (sym bt))

    -- which fits too
    pub entry_fits : (b y : ℕ) → b ≡ partner p e.side → partner p e.side < sides p → y ≡ get_or (set counts a (x + 1)) b y → length exits < 2 ^ 28 → y < 2 ^ 30
    entry_fits b y bt lb back few =
        let was : y ≡ with_exit b = get_or_read (set counts a (x + 1)) b y (omega (arith, exit_counted.size)) back 0 ∙ exit_counted.each b (omega arith) in
        omega (arith, was, counted_within p (take i exits) b, length-take-le i exits (omega arith), few, bit-le (eqb e.side b))

-- what a function says below a number, and at it
one_more : (f : ℕ → ℕ) (n m : ℕ) → n ≡ m → map f (below n) ++ f m ∷ [] ≡ map f (below (suc m))
one_more f n m e = rw e (sym (ap (map f) (below_push m) ∙ map-append f (below m) (m ∷ [])))

-- one side more begins
pub offsets_more : (counts offsets after : List ℕ) (i offset next : ℕ) → i < length counts → offset ≡ sum_by (λ count. count + 2) (take i counts)
    → offsets ≡ map (λ k. sum_by (λ count. count + 2) (take k counts)) (below (suc i)) → next ≡ offset + (get_or counts i 0 + 2) → after ≡ offsets ++ next ∷ []
    → (next ≡ sum_by (λ count. count + 2) (take (i + 1) counts)) × (after ≡ map (λ k. sum_by (λ count. count + 2) (take k counts)) (below (suc (i + 1))))
offsets_more counts offsets after i offset next l here so_far is grown =
    let f : ℕ → ℕ = λ k. sum_by (λ count. count + 2) (take k counts) in
    let now : next ≡ f (i + 1) = omega (arith, is, here, sum_by_more (λ (count : ℕ). count + 2) counts i 0 l) in
    (now, grown ∙ (ap (λ (xs : List ℕ). xs ++ next ∷ []) so_far ∙ (ap (λ (x : ℕ). map f (below (suc i)) ++ x ∷ []) now ∙ one_more f (suc i) (i + 1) (omega arith))))

-- the counts of all exits
pub counted_all : (p : Polygon) (exits : List Exit) (i : ℕ) (counts : List ℕ) → length exits ≤ i → IsFilled (count_on p (take i exits)) (sides p) counts
    → counts ≡ map (count_on p exits) (below (sides p))
counted_all p exits i counts l filled =
    filled_table (count_on p (take i exits)) (sides p) counts filled ∙ ap (λ (xs : List Exit). map (count_on p xs) (below (sides p))) (take_all i exits l)

-- an exit of some on sides is on a side
pub side_there : (p : Polygon) (exits : List Exit) (i : ℕ) (e : Exit) → list_all (λ e. ltb e.side (sides p)) exits ≡ true → i < length exits → e ≡ get_or exits i e → e.side < sides p
side_there p exits i e on l is = ltb-true _ _ (all_in (λ e. ltb e.side (sides p)) e exits on (mem_at exits i e l is))
