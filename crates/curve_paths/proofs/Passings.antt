-- A curve by its passings: what stands at each point of each side, an exit or the entry of one.
use Rattle.std.proofs.Common.{◌≡◌, ℕ, suc, ◌+◌, ◌-◌, ◌<◌, Bool, true, false, not, eqb, ◌&&◌, List, [], ◌∷◌, map, length, reverse, get_or, refl, sym, subst, ap, ap₂, ◌∙◌, inl, inr, arith}
use Rattle.std.specs.List.{count_by, sum_by}
use Rattle.std.proofs.lemmas.Bool.{cases_Bool, cases_eq, eq-eqb, eqb-true, false≢true, ne_eqb, and_parts, and_from}
use Rattle.std.proofs.lemmas.List.{get_or-map, get_or-reverse, length-map, length-reverse, reverse-append}
use Rattle.std.proofs.lemmas.List.Sums.{sum_by-append, sum_by-cons}
use Rattle.obd_base.specs.Lists.{Mem, below}
use Rattle.obd_base.specs.declared.points.Exit.{Exit}
use Rattle.obd_base.proofs.lists.Below.{bit, mem_below}
use Rattle.obd_base.proofs.lists.Counts.{count_none, count_one}
use Rattle.obd_base.proofs.lists.Sums.{by_entries, sum_add, sum_map, sum_same, sum_swap}
use Rattle.page_surface.specs.Drawing.{exit, is_at}
use Rattle.page_surface.specs.Polygon.{Pairs, Polygon, partner, sides}
use Rattle.curve_paths.specs.Curves.{curve_points, curve_stands, exit_at}
use Rattle.curve_paths.proofs.CurvePoints.{at_parts, at_itself, twice_eqb}

-- a passing of a curve through a side: the number of the exit, and whether it leaves here or enters
pub record Passing : Type 0 where
  pub number : ℕ
  pub leaves : Bool

abbrev pub out : ℕ → Passing
out i = record { number = i; leaves = true }

abbrev pub into : ℕ → Passing
into i = record { number = i; leaves = false }

-- the same passing as it is seen on the partner of the side
abbrev pub across : Passing → Passing
across a = record { number = a.number; leaves = not a.leaves }

-- passings of a side, as they are seen on its partner
abbrev pub all_across : List Passing → List Passing
all_across xs = reverse (map across xs)

abbrev pub at : List Passing → ℕ → Passing
at xs j = get_or xs j (out 0)

-- for each side the passings at its points, in order
pub record IsPassed (p : Polygon) (c : List Exit) (table : ℕ → List Passing) : Type 0 where
  pub listed : (i : ℕ) → i < length c
      → ((exit_at c i).side < sides p) × ((exit_at c i).place < length (table (exit_at c i).side)) × (at (table (exit_at c i).side) (exit_at c i).place ≡ out i)
  pub made : (k j i : ℕ) → k < sides p → j < length (table k) → at (table k) j ≡ out i → (i < length c) × (exit_at c i ≡ exit k j)
  pub turned : (k : ℕ) → k < sides p → table (partner p k) ≡ all_across (table k)

sum_reverse : {X : Type 0} (f : X → ℕ) (xs : List X) → sum_by f (reverse xs) ≡ sum_by f xs
sum_reverse f [] = refl
sum_reverse f (x ∷ xs) = omega (
  arith,
  ap (sum_by f) (reverse-append (x ∷ []) xs),
  sum_by-append f (reverse xs) (x ∷ []),
  sum_by-cons f x [],
  sum_by-cons f x xs,
  sum_reverse f xs,
)

-- a test or its opposite holds
both_ways : (b : Bool) → bit b + bit (not b) ≡ 1
both_ways true = refl
both_ways false = refl

not_so : (b : Bool) → (b ≡ true → ⊥) → b ≡ false
not_so true h = absurd (h refl)
not_so false h = refl

pub length-all_across : (xs : List Passing) → length (all_across xs) ≡ length xs
length-all_across xs = length-reverse (map across xs) ∙ length-map xs across

pub at-all_across : (xs : List Passing) (j : ℕ) → j < length xs → at (all_across xs) j ≡ across (at xs (length xs - 1 - j))
at-all_across xs j l =
    let size = length-map xs across in
    get_or-reverse (map across xs) j (out 0) (omega (arith, size))
    ∙ (ap (λ n. get_or (map across xs) (n - 1 - j) (out 0)) size ∙ get_or-map across xs (length xs - 1 - j) (out 0) (out 0) (omega arith))

module _ (p : Polygon) (ok : Pairs p) (c : List Exit) (table : ℕ → List Passing) (passed : IsPassed p c table) where
  -- the passing leaves here by exit i
  abbrev is_out : Passing → ℕ → Bool
  is_out a i = a.leaves && eqb a.number i

  out_parts : (a : Passing) (i : ℕ) → is_out a i ≡ true → a ≡ out i
  out_parts a i h = let r = and_parts a.leaves (eqb a.number i) h in ap₂ (λ (n : ℕ) (b : Bool). let x : Passing = record { number = n; leaves = b } in x) (eqb-true _ _ r.1) r.0

  out_itself : (a : Passing) (i : ℕ) → a ≡ out i → is_out a i ≡ true
  out_itself a i e = rw e (eq-eqb i i refl)

  -- an exit is on a side exactly where it is the passing of one of its points
  exit_on : (k i : ℕ) → k < sides p → i < length c → bit (eqb (exit_at c i).side k) ≡ sum_by (λ j. bit (is_out (at (table k) j) i)) (below (length (table k)))
  exit_on k i lk li = elim (cases_eq (exit_at c i).side k) [
    | inl e ↦
        let (_, within, there) = passed.listed i li in
        let l : (exit_at c i).place < length (table k) = omega (arith, within, ap (λ s. length (table s)) e) in
        let t : at (table k) (exit_at c i).place ≡ out i = ap (λ s. at (table s) (exit_at c i).place) (sym e) ∙ there in
        rw (eq-eqb _ _ e) (sym (count_one (λ j. is_out (at (table k) j) i) 0 (length (table k)) (exit_at c i).place (omega arith) (omega (arith, l)) (out_itself _ i t)
        (λ j a h q. ap (λ (x : Exit). x.place) (sym (passed.made k j i lk (omega (arith, h)) (out_parts _ i q)).1))))
    | inr n ↦
        rw (ne_eqb _ _ n) (sym (count_none (λ j. is_out (at (table k) j) i) 0 (length (table k))
        (λ j a h q. n (ap (λ (x : Exit). x.side) (passed.made k j i lk (omega (arith, h)) (out_parts _ i q)).1))))
  ]

  -- a point is left by one exit or by none
  left_by : (k j : ℕ) → k < sides p → j < length (table k) → sum_by (λ i. bit (is_out (at (table k) j) i)) (below (length c)) ≡ bit (at (table k) j).leaves
  left_by k j lk lj = elim (cases_Bool (at (table k) j).leaves) [
    | inl t ↦
        let a = at (table k) j in
        let e : a ≡ out a.number = ap (λ (b : Bool). let x : Passing = record { number = a.number; leaves = b } in x) t in
        count_one (λ i. is_out (at (table k) j) i) 0 (length c) a.number (omega arith) (omega (arith, (passed.made k j a.number lk lj e).0)) (out_itself a a.number e)
        (λ i l h q. sym (eqb-true _ _ (and_parts a.leaves (eqb a.number i) q).1))
        ∙ sym (ap bit t)
    | inr f ↦ count_none (λ i. is_out (at (table k) j) i) 0 (length c) (λ i l h q. false≢true (sym f ∙ (and_parts (at (table k) j).leaves (eqb (at (table k) j).number i) q).0)) ∙ sym (ap bit f)
  ]

  -- xs many exits are on a side xs passings there leave
  exits_on : (k : ℕ) → k < sides p → count_by (λ (e : Exit). eqb e.side k) c ≡ count_by (λ (a : Passing). a.leaves) (table k)
  exits_on k lk =
      ap (count_by (λ (e : Exit). eqb e.side k)) (by_entries (exit 0 0) c (length c) refl)
      ∙ (sum_map (λ (e : Exit). bit (eqb e.side k)) (exit_at c) (below (length c))
      ∙ (sum_same _ _ (below (length c)) (λ i m. exit_on k i lk (mem_below _ i m))
      ∙ (sum_swap (λ i j. bit (is_out (at (table k) j) i)) (below (length c)) (below (length (table k)))
      ∙ (sum_same _ _ (below (length (table k))) (λ j m. left_by k j lk (mem_below _ j m))
      ∙ (sym (sum_map (λ (a : Passing). bit a.leaves) (at (table k)) (below (length (table k))))
      ∙ ap (count_by (λ (a : Passing). a.leaves)) (sym (by_entries (out 0) (table k) (length (table k)) refl)))))))

  -- a side has xs many points xs passings
  pub points_are : (k : ℕ) → k < sides p → curve_points p c k ≡ length (table k)
  points_are k lk =
      let exits = exits_on k lk in
      let entries : count_by (λ (e : Exit). eqb (partner p e.side) k) c ≡ count_by (λ (a : Passing). not a.leaves) (table k)
      = sym (sum_same _ _ c (λ (e : Exit) m. ap bit (twice_eqb p ok e.side k)))
      ∙ (exits_on (partner p k) (ok.in_range k lk)
      ∙ (ap (count_by (λ (a : Passing). a.leaves)) (passed.turned k lk)
      ∙ (sum_reverse (λ (a : Passing). bit a.leaves) (map across (table k)) ∙ sum_map (λ (a : Passing). bit a.leaves) across (table k)))) in
      let both = sum_add (λ (a : Passing). bit a.leaves) (λ (a : Passing). bit (not a.leaves)) (table k) in
      let each : sum_by (λ (a : Passing). bit a.leaves + bit (not a.leaves)) (table k) ≡ length (table k) = ones (table k) in
      omega (arith, exits, entries, both, each)
    where
      ones : (xs : List Passing) → sum_by (λ (a : Passing). bit a.leaves + bit (not a.leaves)) xs ≡ length xs
      ones [] = refl
      ones (a ∷ xs) = omega (arith, sum_by-cons (λ (a : Passing). bit a.leaves + bit (not a.leaves)) a xs, both_ways a.leaves, ones xs)

  -- the passing at the other name of a point
  pub seen_across : (k j : ℕ) → k < sides p → j < length (table k)
      → (length (table (partner p k)) ≡ length (table k)) × (at (table (partner p k)) (length (table k) - 1 - j) ≡ across (at (table k) j))
  seen_across k j lk lj = (
    ap length (passed.turned k lk) ∙ length-all_across (table k),
    ap (λ xs. at xs (length (table k) - 1 - j)) (passed.turned k lk)
        ∙ (at-all_across (table k) (length (table k) - 1 - j) (omega arith)
        ∙ ap (λ i. across (at (table k) i)) (let e : length (table k) - 1 - (length (table k) - 1 - j) ≡ j = omega arith in e)),
  )

  -- exits lie on sides, at places of them
  pub passed_in_range : (e : Exit) → Mem e c → (e.side < sides p) × (e.place < curve_points p c e.side)
  passed_in_range e m =
      let (i, l, q) = index_of c e m in
      let (side, place, _) = passed.listed i l in
      subst (λ (e : Exit). (e.side < sides p) × (e.place < curve_points p c e.side)) q (side, omega (arith, place, points_are (exit_at c i).side side))
    where
      index_of : (c : List Exit) (e : Exit) → Mem e c → (i : ℕ) × (i < length c) × (exit_at c i ≡ e)
      index_of [] e m = absurd m
      index_of (x ∷ c) e (inl q) = (0, omega arith, sym q)
      index_of (x ∷ c) e (inr m) = let (i, l, q) = index_of c e m in (suc i, omega arith, q)

  module _ (k j : ℕ) (lk : k < sides p) (lj : j < length (table k)) where
    abbrev here : Passing
    here = at (table k) j

    -- exit i is at the point
    exit_here : (i : ℕ) → i < length c → is_at (exit_at c i) k j ≡ true → here ≡ out i
    exit_here i l h = let e = at_parts (exit_at c i) k j h in
        ap (λ (x : Exit). at (table x.side) x.place) (sym e) ∙ (passed.listed i l).2

    -- exit i enters at the point
    entry_here : (i : ℕ) → i < length c → (eqb (partner p (exit_at c i).side) k && eqb (suc ((exit_at c i).place + j)) (curve_points p c k)) ≡ true → here ≡ into i
    entry_here i l h =
        let (a, b) = and_parts (eqb (partner p (exit_at c i).side) k) _ h in
        let (side, place, there) = passed.listed i l in
        let (size, seen) = seen_across (exit_at c i).side (exit_at c i).place side place in
        let q : partner p (exit_at c i).side ≡ k = eqb-true _ _ a in
        let n = points_are k lk in
        let m : length (table k) ≡ length (table (exit_at c i).side) = ap (λ s. length (table s)) (sym q) ∙ size in
        let w : length (table (exit_at c i).side) - 1 - (exit_at c i).place ≡ j = omega (arith, eqb-true _ _ b, n, m) in
        ap₂ (λ s x. at (table s) x) (sym q) (sym w) ∙ (seen ∙ ap across there)

    -- the point's passing is made by the exit of its number, and by no other
    stands_by : (i : ℕ) → i < length c → curve_stands p c (exit_at c i) k j ≡ bit (eqb i here.number)
    stands_by i l = go here.leaves refl
      where
        same_number : (i : ℕ) (b : Bool) (a : Passing) → a ≡ record { number = i; leaves = b } → i ≡ a.number
        same_number i b a e = ap (λ (x : Passing). x.number) (sym e)

        same_way : (a b : Passing) → a ≡ b → a.leaves ≡ b.leaves
        same_way a b e = ap (λ (x : Passing). x.leaves) e

        go : (b : Bool) → here.leaves ≡ b → curve_stands p c (exit_at c i) k j ≡ bit (eqb i here.number)
        go true t =
            let no_entry : (eqb (partner p (exit_at c i).side) k && eqb (suc ((exit_at c i).place + j)) (curve_points p c k)) ≡ false
            = not_so _ (λ h. false≢true (sym (same_way here (into i) (entry_here i l h)) ∙ t)) in
            let is : here ≡ out here.number = ap (λ (b : Bool). let x : Passing = record { number = here.number; leaves = b } in x) t in
            elim (cases_eq i here.number) [
              | inl e ↦
                  let q : exit_at c i ≡ exit k j = (passed.made k j i lk lj (is ∙ ap out (sym e))).1 in
                  let yes : is_at (exit_at c i) k j ≡ true = ap (λ (x : Exit). is_at x k j) q ∙ at_itself (exit k j) in
                  rw (yes, no_entry, eq-eqb i here.number e) refl
              | inr n ↦
                  let no : is_at (exit_at c i) k j ≡ false = not_so _ (λ h. n (same_number i true here (exit_here i l h))) in
                  rw (no, no_entry, ne_eqb i here.number n) refl
            ]
        go false f =
            let no_exit : is_at (exit_at c i) k j ≡ false = not_so _ (λ h. false≢true (sym f ∙ same_way here (out i) (exit_here i l h))) in
            elim (cases_eq i here.number) [
              | inl e ↦
                  let (size, seen) = seen_across k j lk lj in
                  let is : across here ≡ out i = ap₂ (λ (n : ℕ) (b : Bool). let x : Passing = record { number = n; leaves = not b } in x) (sym e) f in
                  let q : exit_at c i ≡ exit (partner p k) (length (table k) - 1 - j)
                  = (passed.made (partner p k) (length (table k) - 1 - j) i (ok.in_range k lk) (omega (arith, size, lj)) (seen ∙ is)).1 in
                  let side : partner p (exit_at c i).side ≡ k = ap (λ (x : Exit). partner p x.side) q ∙ ok.twice k in
                  let place : (exit_at c i).place ≡ length (table k) - 1 - j = ap (λ (x : Exit). x.place) q in
                  let yes : (eqb (partner p (exit_at c i).side) k && eqb (suc ((exit_at c i).place + j)) (curve_points p c k)) ≡ true
                  = and_from _ _ (eq-eqb _ _ side) (eq-eqb _ _ (omega (arith, place, lj, points_are k lk))) in
                  rw (no_exit, yes, eq-eqb i here.number e) refl
              | inr n ↦
                  let no : (eqb (partner p (exit_at c i).side) k && eqb (suc ((exit_at c i).place + j)) (curve_points p c k)) ≡ false
                  = not_so _ (λ h. n (same_number i false here (entry_here i l h))) in
                  rw (no_exit, no, ne_eqb i here.number n) refl
            ]

    -- the exit of a passing is one of the curve's
    pub number_within : here.number < length c
    number_within = go here.leaves refl
      where
        go : (b : Bool) → here.leaves ≡ b → here.number < length c
        go true t = (passed.made k j here.number lk lj (ap (λ (b : Bool). let x : Passing = record { number = here.number; leaves = b } in x) t)).0
        go false f =
            let (size, seen) = seen_across k j lk lj in
            (passed.made (partner p k) (length (table k) - 1 - j) here.number (ok.in_range k lk) (omega (arith, size, lj))
            (seen ∙ ap (λ (b : Bool). let x : Passing = record { number = here.number; leaves = not b } in x) f)).0

    -- so the places are right
    pub passed_once : sum_by (λ e. curve_stands p c e k j) c ≡ 1
    passed_once =
        ap (sum_by (λ e. curve_stands p c e k j)) (by_entries (exit 0 0) c (length c) refl)
        ∙ (sum_map (λ e. curve_stands p c e k j) (exit_at c) (below (length c))
        ∙ (sum_same _ _ (below (length c)) (λ i m. stands_by i (mem_below _ i m))
        ∙ count_one (λ i. eqb i here.number) 0 (length c) here.number (omega arith) (omega (arith, number_within)) (eq-eqb _ _ refl) (λ i a h q. eqb-true _ _ q)))

  pub passed_right : (k j : ℕ) → k < sides p → j < curve_points p c k → sum_by (λ e. curve_stands p c e k j) c ≡ 1
  passed_right k j lk lj = passed_once k j lk (omega (arith, points_are k lk))
