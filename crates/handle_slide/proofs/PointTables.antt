-- The points of a curve on each side, as they are counted, and the points in a row that stay.
use Rattle.std.proofs.Common.{◌≡◌, ℕ, suc, ◌+◌, ◌*◌, ◌<◌, ◌≤◌, cond, eqb, not, Bool, true, false, List, [], ◌∷◌, ◌++◌, map, length, take, get_or, set, refl, sym, ap, ◌∙◌, inl, inr, arith}
use Rattle.std.specs.List.{count_by}
use Rattle.std.proofs.lemmas.Bool.{cases_eq, eq-eqb, ne_eqb}
use Rattle.std.proofs.lemmas.List.{get_or-set_other, get_or-set_same, length-set, map-append, take_all, take_more}
use Rattle.std.proofs.lemmas.List.FromFn.{fill_by_all}
use Rattle.std.proofs.lemmas.List.Sums.{count_by-le-length, sum_by_push}
use Rattle.obd_base.specs.Lists.{below}
use Rattle.obd_base.specs.declared.points.Exit.{Exit}
use Rattle.obd_base.proofs.lists.Below.{below_push, bit}
use Rattle.obd_base.proofs.lists.Sums.{bit-le}
use Rattle.page_surface.specs.Polygon.{Polygon, partner, sides}
use Rattle.curve_paths.specs.Curves.{curve_points}

-- how many points each side has
pub record AreCounted (p : Polygon) (c : List Exit) (counts : List ℕ) : Type 0 where
  pub size : length counts ≡ sides p
  pub counted : (s : ℕ) → s < sides p → get_or counts s 0 ≡ curve_points p c s

-- a side has at most two points an exit
pub few_points : (p : Polygon) (c : List Exit) (s : ℕ) → curve_points p c s ≤ 2 * length c
few_points p c s = omega (arith, count_by-le-length (λ e. eqb e.side s) c, count_by-le-length (λ e. eqb (partner p e.side) s) c)

-- one more at a number
raised : (counts : List ℕ) (n s : ℕ) → n < length counts → get_or (set counts n (get_or counts n 0 + 1)) s 0 ≡ get_or counts s 0 + bit (eqb n s)
raised counts n s l = elim (cases_eq s n) [
  | inl e ↦
      ap (λ i. get_or (set counts n (get_or counts n 0 + 1)) i 0) e
      ∙ (get_or-set_same counts n (get_or counts n 0 + 1) 0 l ∙ sym (ap (λ b. get_or counts s 0 + bit b) (eq-eqb n s (sym e)) ∙ ap (λ i. get_or counts i 0 + 1) e))
  | inr m ↦
      get_or-set_other counts n s (get_or counts n 0 + 1) 0 m
      ∙ ((let z : get_or counts s 0 ≡ get_or counts s 0 + 0 = omega arith in z) ∙ sym (ap (λ b. get_or counts s 0 + bit b) (ne_eqb n s (λ e. m (sym e)))))
]

-- one more exit
pub counted_more : (p : Polygon) (c : List Exit) (i : ℕ) (e : Exit) (counts : List ℕ) → i < length c → e ≡ get_or c i e → e.side < sides p → partner p e.side < sides p
    → AreCounted p (take i c) counts
    → (first second : List ℕ) → first ≡ set counts e.side (get_or counts e.side 0 + 1) → second ≡ set first (partner p e.side) (get_or first (partner p e.side) 0 + 1)
    → AreCounted p (take (i + 1) c) second
counted_more p c i e counts l is ls lp so_far first second ef es =
    let grown : take (i + 1) c ≡ take i c ++ e ∷ [] = take_more c i e l ∙ ap (λ y. take i c ++ y ∷ []) (sym is) in
    let size : length first ≡ sides p = ap length ef ∙ (length-set counts e.side (get_or counts e.side 0 + 1) ∙ so_far.size) in
    rw grown (record {
      size = ap length es ∙ (length-set first (partner p e.side) (get_or first (partner p e.side) 0 + 1) ∙ size);
      counted = λ s l. omega (
        arith,
        ap (λ xs. get_or xs s 0) es,
        raised first (partner p e.side) s (omega (arith, lp, size)),
        ap (λ xs. get_or xs s 0) ef,
        raised counts e.side s (omega (arith, ls, so_far.size)),
        so_far.counted s l,
        sum_by_push (λ (x : Exit). bit (eqb x.side s)) (take i c) e,
        sum_by_push (λ (x : Exit). bit (eqb (partner p x.side) s)) (take i c) e,
      );
    })

-- all
pub counted_all : (p : Polygon) (c : List Exit) (i : ℕ) (counts : List ℕ) → length c ≤ i → AreCounted p (take i c) counts → counts ≡ map (curve_points p c) (below (sides p))
counted_all p c i counts l all =
    fill_by_all (curve_points p c) counts (sides p) 0 all.size (λ s ls. all.counted s ls ∙ ap (λ x. curve_points p x s) (take_all i c l))

one_of : (goes : Bool) (n : ℕ) → cond goes n (n + 1) ≡ n + bit (not goes)
one_of true n = omega arith
one_of false n = refl

-- one more point in a row: those before it that stay are noted
pub staying_more : (marks : List Bool) (i : ℕ) (counts new : List ℕ) (before count : ℕ) → i < length marks
    → counts ≡ map (λ n. count_by not (take n marks)) (below (i + 1)) → before ≡ count_by not (take i marks) → count ≡ cond (get_or marks i false) before (before + 1) → new ≡ counts ++ count ∷ []
    → (new ≡ map (λ n. count_by not (take n marks)) (below (i + 1 + 1))) × (count ≡ count_by not (take (i + 1) marks)) × (before ≤ i → count ≤ i + 1)
staying_more marks i counts new before count l so_far eb e more =
    let goes : Bool = get_or marks i false in
    let grown : take (i + 1) marks ≡ take i marks ++ goes ∷ [] = take_more marks i false l in
    let now : count ≡ count_by not (take (i + 1) marks) = omega (arith, e, eb, one_of goes before, ap (count_by not) grown, sum_by_push (λ (b : Bool). bit (not b)) (take i marks) goes) in
    let f = λ (n : ℕ). count_by not (take n marks) in
    let next : i + 1 + 1 ≡ suc (i + 1) = omega arith in (
      more ∙ (ap (λ z. z ++ count ∷ []) so_far ∙ (ap (λ z. map f (below (i + 1)) ++ z ∷ []) now ∙ sym (ap (λ n. map f (below n)) next ∙ (ap (map f) (below_push (i + 1)) ∙ map-append f (below (i + 1)) ((i + 1) ∷ []))))),
      now,
      λ l. omega (arith, e, one_of goes before, bit-le (not goes), l),
    )
