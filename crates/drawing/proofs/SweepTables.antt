-- The chords as they are listed, their mates, and the sweep over them.
use Rattle.std.proofs.Common.{◌≡◌, ℕ, suc, ◌+◌, ◌-◌, ◌<◌, ◌≤◌, Bool, true, false, cond, eqb, List, [], ◌∷◌, ◌++◌, map, length, get_or, set, drop, reverse, not, Option, None, Some, refl, sym, ◌∙◌, ap, ap₂, subst, arith, append_assoc, zero-add, inl, inr, ◌≢◌}
use Rattle.std.specs.List.{flat_map}
use Rattle.std.proofs.lemmas.Bool.{cases_Bool, cases_eq, cases_lt, eq-eqb, ne_eqb, lt-ltb, le-ltb, eqb-true, not-false, false≢true, true≢false}
use Rattle.std.proofs.lemmas.List.{append-nil, drop_all, drop_more, get_or_past, get_or-set_same, get_or-set_other, length-set, reverse-append}
use Rattle.std.proofs.lemmas.List.FromFn.{get_or-map-range_with_len, get_or-range_with_len, length-map-range_with_len, length-range_with_len}
use Rattle.std.specs.Option.{IsSome, option_eq, option_to_list}
use Rattle.std.proofs.lemmas.Grind.{get_or_default_zero}
use mathlib.Core.Path.{fun_ext}
use Rattle.obd_base.specs.Lists.{below, Mem}
use Rattle.obd_base.specs.declared.points.Exit.{Exit}
use Rattle.obd_base.proofs.lists.Below.{below_push}
use Rattle.obd_base.proofs.lists.Sums.{member_adds}
use Rattle.page_surface.specs.Drawing.{Chord, Drawing, IsEmbedded, IsPlaced, HasRightPlaces, chords, cut_strand, end_of, entry, no_two_cross, points_on, spot, strand_chords, strand_exits}
use Rattle.page_surface.specs.Polygon.{arc_count, first_side, second_side, sides}
use Rattle.drawing.specs.Counted.{IsFilled}
use Rattle.drawing.specs.Layout.{IsWritten}
use Rattle.drawing.specs.Pieces.{span_count}
use Rattle.drawing.specs.Round.{other_end}
use Rattle.drawing.specs.Sweep.{swept}
use Rattle.drawing.proofs.Filled.{filled_table}
use Rattle.drawing.proofs.Mates.{ends_from, ends_to, other_stays}
use Rattle.drawing.proofs.Placed.{ends_at, ends_of, ends_past-placed}
use Rattle.drawing.proofs.SweepTest.{sweep_uncrossed, uncrossed_sweep}

-- one number more
pub numbers_more : (n : ℕ) (xs after : List ℕ) → xs ≡ below n → after ≡ xs ++ n ∷ [] → after ≡ below (n + 1)
numbers_more n xs after so_far grown =
    let e : suc n ≡ n + 1 = omega arith in
    grown ∙ (ap (λ (ys : List ℕ). ys ++ n ∷ []) so_far ∙ (sym (below_push n) ∙ ap below e))

-- where no chord is read each number is its own mate
pub mates_start : (cs : List Chord) (n : ℕ) (table : List ℕ) → table ≡ below n → IsFilled (λ x. other_end (drop (length cs) cs) x) n table
mates_start cs n table is = record {
  size = ap length is ∙ length-range_with_len 0 n;
  each = λ x l.
      let none : drop (length cs) cs ≡ [] = drop_all (length cs) cs (omega arith) in
      ap (λ (xs : List ℕ). get_or xs x 0) is ∙ (get_or-range_with_len 0 n x 0 l ∙ (zero-add x ∙ sym (ap (λ (ds : List Chord). other_end ds x) none)));
}

-- one chord more, before those that are read
pub mates_more : (cs : List Chord) (left n : ℕ) (c : Chord) (table : List ℕ) → 0 < left → left ≤ length cs → c ≡ get_or cs (left - 1) c → c.from < n → c.to < n
    → IsFilled (λ x. other_end (drop left cs) x) n table → IsFilled (λ x. other_end (drop (left - 1) cs) x) n (set (set table c.to c.from) c.from c.to)
mates_more cs left n c table some within is lf lt filled = record {
  size = length-set (set table c.to c.from) c.from c.to ∙ (length-set table c.to c.from ∙ filled.size);
  each = λ x l.
      let back : (left - 1) + 1 ≡ left = omega arith in
      let rest : drop (left - 1) cs ≡ c ∷ drop left cs
      = drop_more cs (left - 1) c (omega arith) ∙ ap₂ (λ (e : Chord) (k : ℕ). e ∷ drop k cs) (sym is) back in
      ends x l ∙ sym (ap (λ (ds : List Chord). other_end ds x) rest);
}
  where
    ends : (x : ℕ) → x < n → get_or (set (set table c.to c.from) c.from c.to) x 0 ≡ cond (eqb c.from x) c.to (cond (eqb c.to x) c.from (other_end (drop left cs) x))
    ends x l = elim (cases_eq c.from x) [
      | inl e ↦ rw (eq-eqb c.from x e) (subst (λ (y : ℕ). get_or (set (set table c.to c.from) c.from c.to) y 0 ≡ c.to) e
          (get_or-set_same (set table c.to c.from) c.from c.to 0 (let s = length-set table c.to c.from in omega (arith, s, filled.size, lf))))
      | inr ne ↦ rw (ne_eqb c.from x ne) (get_or-set_other (set table c.to c.from) c.from x c.to 0 (λ q. ne (sym q)) ∙ elim (cases_eq c.to x) [
        | inl e ↦ rw (eq-eqb c.to x e) (subst (λ (y : ℕ). get_or (set table c.to c.from) y 0 ≡ c.from) e (get_or-set_same table c.to c.from 0 (omega (arith, filled.size, lt))))
        | inr nt ↦ rw (ne_eqb c.to x nt) (get_or-set_other table c.to x c.from 0 (λ q. nt (sym q)) ∙ filled.each x l)
      ])
    ]

-- the same of what the code reads and writes
pub mates_read : (cs : List Chord) (left n : ℕ) (seen c : Chord) (table : List ℕ) → seen ≡ c → 0 < left → left ≤ length cs → c ≡ get_or cs (left - 1) c → c.from < n → c.to < n
    → IsFilled (λ x. other_end (drop left cs) x) n table → IsFilled (λ x. other_end (drop (left - 1) cs) x) n (set (set table seen.to seen.from) seen.from seen.to)
mates_read cs left n seen c table same some within is lf lt filled = rw same (mates_more cs left n c table some within is lf lt filled)

-- at the end all chords are read
pub mates_done : (cs : List Chord) (left n : ℕ) (table : List ℕ) → left ≡ 0 → IsFilled (λ x. other_end (drop left cs) x) n table → table ≡ map (other_end cs) (below n)
mates_done cs left n table e filled = filled_table (λ x. other_end (drop left cs) x) n table filled ∙ ap (λ (k : ℕ). map (λ x. other_end (drop k cs) x) (below n)) e

-- the strand before its first exit
pub strand_start : (d : Drawing) (i first second : ℕ) (from : Exit) (exits : List Exit) → IsPlaced d → i < arc_count d.polygon
    → first ≡ first_side d.polygon i → second ≡ second_side d.polygon i → from ≡ end_of d second → exits ≡ strand_exits d i
    → (from.side < sides d.polygon) × (from.place ≤ points_on d from.side) × (cut_strand d from exits (end_of d first) ≡ strand_chords d i)
strand_start d i first second from exits ok l f s is es =
    let start : from ≡ end_of d (second_side d.polygon i) = is ∙ ap (end_of d) s in
    let there : (second_side d.polygon i < sides d.polygon) × (points_on d (second_side d.polygon i) ≤ points_on d (second_side d.polygon i))
    = (ok.polygon.pairs.in_range _ (ok.polygon.first_in_range i l), omega arith) in
    let h = subst (λ (y : Exit). (y.side < sides d.polygon) × (y.place ≤ points_on d y.side)) (sym start) there in
    (h.0, h.1, rw (start, es, f) refl)

-- one chord more of a strand
pub strand_more : (d : Drawing) (from e next z : Exit) (exits : List Exit) (i : ℕ) (c : Chord) (old after all : List Chord) → i < length exits → e ≡ get_or exits i e
    → c ≡ record { from = spot d from; to = spot d e } → next ≡ entry d e → after ≡ old ++ c ∷ []
    → old ++ cut_strand d from (drop i exits) z ≡ all → after ++ cut_strand d next (drop (i + 1) exits) z ≡ all
strand_more d from e next z exits i c old after all l is chord enters grown so_far =
    let rest : drop i exits ≡ e ∷ drop (i + 1) exits = drop_more exits i e l ∙ ap (λ (y : Exit). y ∷ drop (i + 1) exits) (sym is) in
    let cut : cut_strand d from (drop i exits) z ≡ c ∷ cut_strand d next (drop (i + 1) exits) z
    = ap (λ (es : List Exit). cut_strand d from es z) rest ∙ ap₂ (λ (k : Chord) (y : Exit). k ∷ cut_strand d y (drop (i + 1) exits) z) (sym chord) (sym enters) in
    ap (λ (xs : List Chord). xs ++ cut_strand d next (drop (i + 1) exits) z) grown
    ∙ (append_assoc old (c ∷ []) (cut_strand d next (drop (i + 1) exits) z) ∙ (ap (λ (xs : List Chord). old ++ xs) (sym cut) ∙ so_far))

-- joined lists of a list and of one more
pub flat_push : {X : Type 0} (f : ℕ → List X) (xs : List ℕ) (n : ℕ) → flat_map f (xs ++ n ∷ []) ≡ flat_map f xs ++ f n
flat_push f [] n = append-nil (f n)
flat_push f (x ∷ xs) n = ap (λ ys. f x ++ ys) (flat_push f xs n) ∙ sym (append_assoc (f x) (flat_map f xs) (f n))

-- the chords of one strand more
pub chords_more : (d : Drawing) (n i : ℕ) (old after : List Chord) → old ≡ flat_map (strand_chords d) (below n) → i ≡ n → after ≡ old ++ strand_chords d i
    → after ≡ flat_map (strand_chords d) (below (n + 1))
chords_more d n i old after so_far same grown =
    let e : suc n ≡ n + 1 = omega arith in
    grown ∙ (ap₂ (λ (xs : List Chord) (k : ℕ). xs ++ strand_chords d k) so_far same
    ∙ (sym (flat_push (strand_chords d) (below n) n) ∙ (ap (flat_map (strand_chords d)) (sym (below_push n)) ∙ ap (λ (k : ℕ). flat_map (strand_chords d) (below k)) e)))

-- a table of so many numbers
pub table_fits : (cs : List Chord) (n : ℕ) (table : List ℕ) → table ≡ map (other_end cs) (below n) → length table ≡ n
table_fits cs n table is = ap length is ∙ length-map-range_with_len (other_end cs) 0 n

-- where places are right each chord ends in the place order
pub ends_inside : (d : Drawing) → IsPlaced d → (cs : List Chord) → cs ≡ chords d → (c : Chord) → Mem c cs → (c.from < span_count d) × (c.to < span_count d)
ends_inside d ok cs is c m =
    let n : Mem c (chords d) = subst (λ (xs : List Chord). Mem c xs) is m in
    (below_all c.from (omega (arith, member_adds (λ k. ends_of k c.from) c (chords d) n, ends_from c)), below_all c.to (omega (arith, member_adds (λ k. ends_of k c.to) c (chords d) n, ends_to c)))
  where
    below_all : (x : ℕ) → 0 < ends_at (chords d) x → x < span_count d
    below_all x some = elim (cases_lt x (span_count d)) [ inl l ↦ l | inr h ↦ absurd (omega (arith, ends_past-placed d ok x h, some)) ]

module _ (mate : ℕ → ℕ) where
  -- a number that is its own mate is passed
  pub swept_skip : (n x : ℕ) (stack : List ℕ) → mate x ≡ x → swept mate (suc n) stack x ≡ swept mate n stack (suc x)
  swept_skip n x [] e = rw (eq-eqb (mate x) x e) refl
  swept_skip n x (o ∷ stack) e = rw (eq-eqb (mate x) x e) refl

  -- a lesser end is put on top
  pub swept_push : (n x : ℕ) (stack : List ℕ) → x < mate x → swept mate (suc n) stack x ≡ swept mate n (x ∷ stack) (suc x)
  swept_push n x [] l = rw (ne_eqb (mate x) x (λ e. omega (arith, e, l)), lt-ltb x (mate x) l) refl
  swept_push n x (o ∷ stack) l = rw (ne_eqb (mate x) x (λ e. omega (arith, e, l)), lt-ltb x (mate x) l) refl

  -- a greater end takes its mate from the top
  pub swept_pop : (n x o : ℕ) (stack : List ℕ) → mate x < x → o ≡ mate x → swept mate (suc n) (o ∷ stack) x ≡ swept mate n stack (suc x)
  swept_pop n x o stack l e = rw (ne_eqb (mate x) x (λ q. omega (arith, q, l)), le-ltb x (mate x) (omega arith), eq-eqb o (mate x) e) refl

  -- and fails where another number is there
  pub swept_other : (n x o : ℕ) (stack : List ℕ) → mate x < x → o ≢ mate x → swept mate (suc n) (o ∷ stack) x ≡ false
  swept_other n x o stack l ne = rw (ne_eqb (mate x) x (λ q. omega (arith, q, l)), le-ltb x (mate x) (omega arith), ne_eqb o (mate x) ne) refl

  -- or none
  pub swept_none : (n x : ℕ) → mate x < x → swept mate (suc n) [] x ≡ false
  swept_none n x l = rw (ne_eqb (mate x) x (λ q. omega (arith, q, l)), le-ltb x (mate x) (omega arith)) refl

-- what a table of mates says of a number
abbrev pub mate_in : List ℕ → ℕ → ℕ
mate_in table x = get_or table x x

-- what is read of the table of mates is the mate
mate_read : (d : Drawing) → IsPlaced d → (table : List ℕ) (cs : List Chord) (n : ℕ) → cs ≡ chords d → n ≡ span_count d → table ≡ map (other_end cs) (below n)
    → mate_in table ≡ other_end (chords d)
mate_read d ok table cs n ics inn is = fun_ext (λ (x : ℕ). elim (cases_lt x n) [
  | inl l ↦ ap (λ (xs : List ℕ). get_or xs x x) is ∙ (get_or-map-range_with_len (other_end cs) 0 n x x x l (zero-add x) ∙ ap (λ (ds : List Chord). other_end ds x) ics)
  | inr h ↦ get_or_past table x x (let s = ap length is ∙ length-map-range_with_len (other_end cs) 0 n in omega (arith, s, h)) ∙ sym (other_stays (chords d) x (ends_past-placed d ok x (omega (arith, h, inn))))
])

-- the sweep over the table says whether no two chords cross
pub sweep_says : (d : Drawing) → IsPlaced d → (table : List ℕ) (cs : List Chord) (n : ℕ) → cs ≡ chords d → n ≡ span_count d → table ≡ map (other_end cs) (below n)
    → swept (mate_in table) (length table) [] 0 ≡ no_two_cross (chords d)
sweep_says d ok table cs n ics inn is =
    let size : length table ≡ span_count d = ap length is ∙ (length-map-range_with_len (other_end cs) 0 n ∙ inn) in
    ap₂ (λ (f : ℕ → ℕ) (k : ℕ). swept f k [] 0) (mate_read d ok table cs n ics inn is) size ∙ decided
  where
    decided : swept (other_end (chords d)) (span_count d) [] 0 ≡ no_two_cross (chords d)
    decided = elim (cases_Bool (no_two_cross (chords d))) [
      | inl t ↦ uncrossed_sweep d (record { polygon = ok.polygon; strand_count = ok.strand_count; on_sides = ok.on_sides; places = ok.places; uncrossed = t }) ∙ sym t
      | inr f ↦ elim (cases_Bool (swept (other_end (chords d)) (span_count d) [] 0)) [
        | inl s ↦ absurd (true≢false (sym (sweep_uncrossed d ok s) ∙ f))
        | inr s ↦ s ∙ sym f
      ]
    ]

-- a written drawing with right places is placed
pub written_placed : (d : Drawing) → IsWritten d → HasRightPlaces d → IsPlaced d
written_placed d ok right = record { polygon = ok.polygon; strand_count = ok.strand_count; on_sides = ok.on_sides; places = right }

-- and embedded where no two chords cross
pub placed_embedded : (d : Drawing) → IsPlaced d → no_two_cross (chords d) ≡ true → IsEmbedded d
placed_embedded d ok h = record { polygon = ok.polygon; strand_count = ok.strand_count; on_sides = ok.on_sides; places = ok.places; uncrossed = h }

module _ (mates : List ℕ) (at : ℕ) (l : at < length mates) (total : Bool) where
  -- a number that has a mate is one of the table
  same : mate_in mates at ≡ get_or mates at 0
  same = get_or_default_zero mates at at l

  -- one number less is left
  less : length mates - at ≡ suc (length mates - (at + 1))
  less = omega (arith, l)

  -- what is left of the sweep, a number further on
  on : (old new : List ℕ) → swept (mate_in mates) (length mates - at) (reverse old) at ≡ total
      → (swept (mate_in mates) (suc (length mates - (at + 1))) (reverse old) at ≡ swept (mate_in mates) (length mates - (at + 1)) (reverse new) (suc at))
      → swept (mate_in mates) (length mates - (at + 1)) (reverse new) (at + 1) ≡ total
  on old new so_far step =
      let next : at + 1 ≡ suc at = omega arith in
      ap (λ (x : ℕ). swept (mate_in mates) (length mates - (at + 1)) (reverse new) x) next
      ∙ (sym step ∙ (ap (λ (n : ℕ). swept (mate_in mates) n (reverse old) at) (sym less) ∙ so_far))

  -- a number without a chord
  pub sweep_skips : (old : List ℕ) → get_or mates at 0 ≤ at → at ≤ get_or mates at 0 → swept (mate_in mates) (length mates - at) (reverse old) at ≡ total
      → swept (mate_in mates) (length mates - (at + 1)) (reverse old) (at + 1) ≡ total
  sweep_skips old a b so_far = on old old so_far (swept_skip (mate_in mates) (length mates - (at + 1)) at (reverse old) (omega (arith, a, b, same)))

  -- a lesser end
  pub sweep_opens : (old new : List ℕ) (n : ℕ) → at < get_or mates at 0 → n ≡ at → new ≡ old ++ n ∷ [] → swept (mate_in mates) (length mates - at) (reverse old) at ≡ total
      → swept (mate_in mates) (length mates - (at + 1)) (reverse new) (at + 1) ≡ total
  sweep_opens old new n a e grown so_far =
      let turned : reverse new ≡ at ∷ reverse old = ap reverse grown ∙ (reverse-append old (n ∷ []) ∙ ap (λ (k : ℕ). k ∷ reverse old) e) in
      on old new so_far (swept_push (mate_in mates) (length mates - (at + 1)) at (reverse old) (omega (arith, a, same))
      ∙ ap (λ (s : List ℕ). swept (mate_in mates) (length mates - (at + 1)) s (suc at)) (sym turned))

  -- a greater end whose mate is on top
  pub sweep_closes : (old new : List ℕ) (o : Option ℕ) → get_or mates at 0 < at → old ≡ new ++ option_to_list o → false ≡ not (option_eq eqb o (Some (get_or mates at 0)))
      → swept (mate_in mates) (length mates - at) (reverse old) at ≡ total → swept (mate_in mates) (length mates - (at + 1)) (reverse new) (at + 1) ≡ total
  sweep_closes old new None a taken found so_far = absurd (true≢false (sym found))
  sweep_closes old new (Some x) a taken found so_far =
      let top : x ≡ get_or mates at 0 = eqb-true x (get_or mates at 0) (not-false _ (sym found)) in
      let turned : reverse old ≡ x ∷ reverse new = ap reverse taken ∙ reverse-append new (x ∷ []) in
      on old new so_far (ap (λ (s : List ℕ). swept (mate_in mates) (suc (length mates - (at + 1))) s at) turned
      ∙ swept_pop (mate_in mates) (length mates - (at + 1)) at x (reverse new) (omega (arith, a, same)) (top ∙ sym same))

  -- and one whose mate isn't
  pub sweep_fails : (old new : List ℕ) (o : Option ℕ) (v : ℕ) → get_or mates at 0 < at → old ≡ new ++ option_to_list o → v ≡ length old → (0 < v → IsSome o)
      → true ≡ not (option_eq eqb o (Some (get_or mates at 0))) → swept (mate_in mates) (length mates - at) (reverse old) at ≡ total → false ≡ total
  sweep_fails old new None v a taken size some other so_far =
      let empty : old ≡ [] = empty_of old (elim (cases_eq v 0) [ inl z ↦ sym size ∙ z | inr n ↦ absurd (false≢true (some (omega arith))) ]) in
      sym (swept_none (mate_in mates) (length mates - (at + 1)) at (omega (arith, a, same)))
      ∙ (ap (λ (s : List ℕ). swept (mate_in mates) (suc (length mates - (at + 1))) (reverse s) at) (sym empty) ∙ (ap (λ (n : ℕ). swept (mate_in mates) n (reverse old) at) (sym less) ∙ so_far))
    where
      empty_of : (xs : List ℕ) → length xs ≡ 0 → xs ≡ []
      empty_of [] e = refl
      empty_of (x ∷ xs) e = absurd (omega arith)
  sweep_fails old new (Some x) v a taken size some other so_far =
      let turned : reverse old ≡ x ∷ reverse new = ap reverse taken ∙ reverse-append new (x ∷ []) in
      let apart : x ≢ mate_in mates at = λ q. absurd (true≢false (other ∙ ap not (eq-eqb x (get_or mates at 0) (q ∙ same)))) in
      sym (swept_other (mate_in mates) (length mates - (at + 1)) at x (reverse new) (omega (arith, a, same)) apart)
      ∙ (ap (λ (s : List ℕ). swept (mate_in mates) (suc (length mates - (at + 1))) s at) (sym turned) ∙ (ap (λ (n : ℕ). swept (mate_in mates) n (reverse old) at) (sym less) ∙ so_far))
