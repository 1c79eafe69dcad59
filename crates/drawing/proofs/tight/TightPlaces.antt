-- The places of a tight embedded drawing are those that the order of goals gives to its words.
use Rattle.std.proofs.Common.{◌≡◌, ℕ, suc, ◌-◌, ◌<◌, Bool, cond, eqb, List, [], ◌∷◌, ◌++◌, map, length, get_or, take, drop, refl, sym, ◌∙◌, ap, subst, arith, inl, inr, ◌≢◌}
use Rattle.std.specs.List.{sum_by, count_by, flat_map, enumerate_from}
use Rattle.std.proofs.lemmas.Bool.{cases_eq, eq-eqb, ne_eqb, lt-ltb}
use Rattle.std.proofs.lemmas.List.{append-nil, get_or_at, length-map, map-append, take_at}
use Rattle.std.proofs.lemmas.List.Sums.{sum_by-cons}
use Rattle.obd_base.proofs.lists.Below.{bit, below_mem}
use Rattle.obd_base.proofs.lists.Members.{mem_right}
use Rattle.obd_base.proofs.lists.Sums.{sum_flat}
use Rattle.obd_base.specs.Lists.{below, Mem}
use Rattle.obd_base.specs.declared.points.Exit.{Exit}
use Rattle.page_surface.proofs.WordLaws.{Free, Free-from_no_pair}
use Rattle.page_surface.specs.Drawing.{Drawing, exit, end_of, points_on, Chord, chords, strand_chords, strand_exits, cut_strand, all_exits, words, IsEmbedded}
use Rattle.page_surface.specs.Polygon.{Polygon, partner, sides, arc_count, first_side, second_side}
use Rattle.page_surface.specs.Words.{inverse}
use Rattle.drawing.specs.Tight.{goals, goals_on, goals_back, goals_at, comes_first, tight_place, tight_drawing, IsTight}
use Rattle.drawing.proofs.Ends.{place_in, side_in, same_count}
use Rattle.drawing.proofs.Lists.{mem_flat, mem_row}
use Rattle.drawing.proofs.Spots.{stands_below, places_below}
use Rattle.obd_base.proofs.lists.Numbered.{numbered_at, enum_split, enum_sum, enum_again}
use Rattle.drawing.proofs.tight.StrandWays.{first_of, letters, on_straight, back_straight, way_on, way_back}
use Rattle.drawing.proofs.tight.Ways.{Way, NoTurn, HasGoals, goals_by_places}

-- what comes after a member of a list
drop_past : (us : List ℕ) (e : ℕ) (vs : List ℕ) → drop (suc (length us)) (us ++ (e ∷ vs)) ≡ vs
drop_past [] e vs = refl
drop_past (u ∷ us) e vs = drop_past us e vs

-- the letters of exits around an exit
pub letters_split : (us : List Exit) (e : Exit) (vs : List Exit) → letters (us ++ (e ∷ vs)) ≡ letters us ++ (e.side ∷ letters vs)
letters_split us e vs = map-append (λ (x : Exit). x.side) us (e ∷ vs)

-- the rest of a free word is free
free_from : (p : Polygon) (us vs : List ℕ) → Free p (us ++ vs) → Free p vs
free_from p [] vs h = h
free_from p (u ∷ us) vs h = free_from p us vs h.1

-- the goals of a letter on a side
abbrev letter_goals : Polygon → ℕ → ℕ → List ℕ → ℕ → ℕ → List (List ℕ)
letter_goals p k i w l x = cond (eqb x k) (goals_on p i w l ∷ []) (cond (eqb (partner p x) k) (goals_back p i w l ∷ []) [])

-- a count over one member
count_single : (c : List ℕ → Bool) (h : List ℕ) → count_by c (h ∷ []) ≡ bit (c h)
count_single c h = omega (arith, sum_by-cons (λ h. bit (c h)) h [])

-- a letter of a strand, with what stands before and after it
pub record Letter (d : Drawing) (i l : ℕ) (e : Exit) : Type 0 where
  pub arc : i < arc_count d.polygon
  pub before : List Exit
  pub after : List Exit
  pub splits : strand_exits d i ≡ before ++ (e ∷ after)
  pub number : l ≡ length before

module _ (d : Drawing) (ok : IsEmbedded d) (tight : IsTight d) where
  -- the polygon
  abbrev p : Polygon
  p = d.polygon

  -- an exit of a strand is one of all exits
  strand_in : (i : ℕ) (e : Exit) → Mem e (strand_exits d i) → Mem e (all_exits d)
  strand_in i e m = mem_row d.strands i e m

  module _ (i l : ℕ) (e : Exit) (at : Letter d i l e) where
    -- the exits before it
    us : List Exit
    us = at.before

    -- and after it
    vs : List Exit
    vs = at.after

    -- the strand ends on a side
    f_in : first_side p i < sides p
    f_in = ok.polygon.first_in_range i at.arc

    -- and starts on one
    s_in : second_side p i < sides p
    s_in = ok.polygon.pairs.in_range _ f_in

    -- the chords of the strand are chords of the drawing
    in_chords : (c : Chord) → Mem c (cut_strand d (end_of d (second_side p i)) (at.before ++ (e ∷ at.after)) (end_of d (first_side p i))) → Mem c (chords d)
    in_chords c m = mem_flat (strand_chords d) (below (arc_count p)) i c (below_mem _ i at.arc)
        (subst (λ es. Mem c (cut_strand d (end_of d (second_side p i)) es (end_of d (first_side p i)))) (sym at.splits) m)

    -- the exits of the strand are exits of the drawing
    in_exits : (x : Exit) → Mem x (at.before ++ (e ∷ at.after)) → Mem x (all_exits d)
    in_exits x m = strand_in i x (subst (λ es. Mem x es) (sym at.splits) m)

    -- and so is this one
    pub here : Mem e (all_exits d)
    here = in_exits e (mem_right e at.before (e ∷ at.after) (inl refl))

    -- the word of the strand around the letter
    word_is : letters (strand_exits d i) ≡ letters at.before ++ (e.side ∷ letters at.after)
    word_is = ap letters at.splits ∙ letters_split at.before e at.after

    -- which is free
    free : Free p (letters at.before ++ (e.side ∷ letters at.after))
    free = subst (Free p) word_is (Free-from_no_pair p _ (tight i))

    -- as many letters come before it as its number says
    number_is : l ≡ length (letters at.before)
    number_is = at.number ∙ sym (length-map at.before (λ (x : Exit). x.side))

    -- the letter with this number
    letter_is : get_or (letters (strand_exits d i)) l 0 ≡ e.side
    letter_is = ap (λ w. get_or w l 0) word_is ∙ get_or_at (letters at.before) e.side (letters at.after) 0 l (sym number_is)

    -- the letters after it
    rest_is : drop (suc l) (letters (strand_exits d i)) ≡ letters at.after
    rest_is =
        let n : suc l ≡ suc (length (letters at.before)) = omega (arith, number_is) in
        ap (λ w. drop (suc l) w) word_is ∙ (ap (λ n. drop n (letters at.before ++ (e.side ∷ letters at.after))) n ∙ drop_past (letters at.before) e.side (letters at.after))

    -- and before it
    past_is : take l (letters (strand_exits d i)) ≡ letters at.before
    past_is = ap (λ w. take l w) word_is ∙ take_at (letters at.before) (e.side ∷ letters at.after) l (sym number_is)

    -- the way on through a letter's side
    pub goals_of_exit : HasGoals d ok e.side e.place (goals_on p i (letters (strand_exits d i)) l)
    goals_of_exit = record {
      word = letters at.after;
      last = first_side p i;
      way = way_on d ok (end_of d (second_side p i)) at.before e at.after (first_side p i) f_in in_chords in_exits;
      straight = on_straight p e.side (letters at.after) (free_from p (letters at.before) (e.side ∷ letters at.after) free);
      are = ap (λ x. goals p (partner p x) (drop (suc l) (letters (strand_exits d i))) (first_side p i)) letter_is
          ∙ ap (λ w. goals p (partner p e.side) w (first_side p i)) rest_is;
    }

    -- the way back through the partner's side
    pub goals_of_entry : HasGoals d ok (partner p e.side) (points_on d e.side - 1 - e.place) (goals_back p i (letters (strand_exits d i)) l)
    goals_of_entry =
        let same = same_count d ok e.side in
        let lp = place_in d ok e here in
        let two : partner p (partner p e.side) ≡ e.side = ok.polygon.pairs.twice e.side in
        let place : points_on d (partner p e.side) - 1 - (points_on d e.side - 1 - e.place) ≡ e.place = omega (arith, same, lp) in
        let start : exit (partner p (partner p e.side)) (points_on d (partner p e.side) - 1 - (points_on d e.side - 1 - e.place)) ≡ e = rw (two, place) refl in
        let w : Way d e (inverse p (letters at.before) ++ []) (second_side p i)
        = way_back d ok (end_of d (second_side p i)) at.before e at.after (end_of d (first_side p i)) [] (second_side p i) in_chords in_exits (λ b q. (s_in, q)) in
        let t = back_straight p ok.polygon.pairs (letters at.before) e.side (letters at.after) [] free (nothing (letters at.before) e.side) in
        let nil = append-nil (inverse p (letters at.before)) in
        record {
          word = inverse p (letters at.before);
          last = second_side p i;
          way = subst (λ a. Way d a (inverse p (letters at.before)) (second_side p i)) (sym start) (subst (λ v. Way d e v (second_side p i)) nil w);
          straight = subst (λ x. NoTurn p x (inverse p (letters at.before))) (sym two) (subst (λ v. NoTurn p e.side v) nil t);
          are = ap (λ x. goals p x (inverse p (take l (letters (strand_exits d i)))) (second_side p i)) (letter_is ∙ sym two)
              ∙ ap (λ w. goals p (partner p (partner p e.side)) (inverse p w) (second_side p i)) past_is;
        }
      where
        nothing : (us : List ℕ) (s : ℕ) → NoTurn p (first_of us s) []
        nothing us s = tt

    -- of the points of a letter those that come before a point at place j
    letter_count : (k j : ℕ) (g : List ℕ) → k < sides p → j < points_on d k → HasGoals d ok k j g
        → count_by (λ h. comes_first h g) (letter_goals p k i (letters (strand_exits d i)) l e.side) ≡ stands_below d e k j
    letter_count k j g lk lj hg = elim (cases_eq e.side k) [
      | inl q ↦
          (let moves : partner p e.side ≢ k = λ z. absurd (ok.polygon.pairs.moves e.side (side_in d ok e here) (z ∙ sym q)) in
          let order = goals_by_places d ok k e.place j (goals_on p i (letters (strand_exits d i)) l) g lk (subst (λ s. e.place < points_on d s) q (place_in d ok e here)) lj
          (subst (λ s. HasGoals d ok s e.place (goals_on p i (letters (strand_exits d i)) l)) q goals_of_exit) hg in
          rw (eq-eqb e.side k q, ne_eqb (partner p e.side) k moves) (count_single (λ h. comes_first h g) (goals_on p i (letters (strand_exits d i)) l) ∙ (ap bit order ∙ omega arith)))
      | inr ne ↦ elim (cases_eq (partner p e.side) k) [
        | inl q ↦
            (let lp = place_in d ok e here in
            let same : points_on d k ≡ points_on d e.side = ap (points_on d) (sym q) ∙ same_count d ok e.side in
            let order = goals_by_places d ok k (points_on d e.side - 1 - e.place) j (goals_back p i (letters (strand_exits d i)) l) g lk (omega (arith, same, lp)) lj
            (subst (λ s. HasGoals d ok s (points_on d e.side - 1 - e.place) (goals_back p i (letters (strand_exits d i)) l)) q goals_of_entry) hg in
            rw (ne_eqb e.side k ne, eq-eqb (partner p e.side) k q, lt-ltb e.place (points_on d k) (omega (arith, same, lp)), same)
            (count_single (λ h. comes_first h g) (goals_back p i (letters (strand_exits d i)) l) ∙ (ap bit order ∙ omega arith)))
        | inr n ↦ rw (ne_eqb e.side k ne, ne_eqb (partner p e.side) k n) refl
      ]
    ]

  -- a numbered strand is the strand with this number
  strand_at : (i : ℕ) (es : List Exit) → Mem (i, es) (enumerate_from 0 d.strands) → (i < arc_count p) × (strand_exits d i ≡ es)
  strand_at i es m = let at = numbered_at d.strands i es [] m in (omega (arith, at, ok.strand_count), at.1)

  -- a numbered exit of a numbered strand is a letter of it
  letter_at : (i : ℕ) (es : List Exit) (l : ℕ) (e : Exit) → Mem (i, es) (enumerate_from 0 d.strands) → Mem (l, e) (enumerate_from 0 es) → Letter d i l e
  letter_at i es l e m n =
      let at = strand_at i es m in
      let (us, vs, q, r) = enum_split 0 es l e n in
      record { arc = at.0; before = us; after = vs; splits = at.1 ∙ q; number = omega arith }

  -- of the points of a side those whose goals come before those of the one at place j number j
  pub goals_before : (k j : ℕ) (g : List ℕ) → k < sides d.polygon → j < points_on d k → HasGoals d ok k j g → tight_place d.polygon (words d) k g ≡ j
  goals_before k j g lk lj hg =
      let before : List ℕ → Bool = λ h. comes_first h g in
      let row : ℕ × List ℕ → List (List ℕ) = λ s. flat_map (λ e. letter_goals p k s.0 s.1 e.0 e.1) (enumerate_from 0 s.1) in
      let one : count_by before (goals_at p (words d) k) ≡ sum_by (λ s. count_by before (row s)) (enumerate_from 0 (words d))
      = sum_flat (λ h. bit (before h)) row (enumerate_from 0 (words d)) in
      let two : sum_by (λ s. count_by before (row s)) (enumerate_from 0 (words d)) ≡ sum_by (λ es. sum_by (λ e. stands_below d e k j) es) d.strands
      = enum_sum (λ s. count_by before (row s)) letters (λ es. sum_by (λ e. stands_below d e k j) es) 0 d.strands (λ i es m.
      let inner : count_by before (row (i, letters es)) ≡ sum_by (λ r. count_by before (letter_goals p k i (letters es) r.0 r.1)) (enumerate_from 0 (letters es))
      = sum_flat (λ h. bit (before h)) (λ r. letter_goals p k i (letters es) r.0 r.1) (enumerate_from 0 (letters es)) in
      inner ∙ enum_sum (λ r. count_by before (letter_goals p k i (letters es) r.0 r.1)) (λ e. e.side) (λ e. stands_below d e k j) 0 es (λ l e n.
      subst (λ w. count_by before (letter_goals p k i (letters w) l e.side) ≡ stands_below d e k j) (strand_at i es m).1
      (letter_count i l e (letter_at i es l e m n) k j g lk lj hg))) in
      let three : sum_by (λ e. stands_below d e k j) (all_exits d) ≡ sum_by (λ es. sum_by (λ e. stands_below d e k j) es) d.strands
      = sum_flat (λ e. stands_below d e k j) (λ es. es) d.strands in
      one ∙ (two ∙ (sym three ∙ places_below d ok.places k j lk (omega arith)))

  -- an exit stands at the place that the goals give it
  pub exit_place : (i l : ℕ) (e : Exit) → Letter d i l e → tight_place d.polygon (words d) e.side (goals_on d.polygon i (letters (strand_exits d i)) l) ≡ e.place
  exit_place i l e at =
      goals_before e.side e.place (goals_on p i (letters (strand_exits d i)) l) (side_in d ok e (here i l e at)) (place_in d ok e (here i l e at)) (goals_of_exit i l e at)

  -- a tight embedded drawing is the one that the definition gives for its words
  pub is_tight_drawing : d ≡ tight_drawing d.polygon (words d)
  is_tight_drawing =
      let ws = words d in
      let strand : ℕ × List ℕ → List Exit = λ s. map (λ e. exit e.1 (tight_place p ws e.1 (goals_on p s.0 s.1 e.0))) (enumerate_from 0 s.1) in
      let again : map strand (enumerate_from 0 ws) ≡ d.strands
      = enum_again strand letters 0 d.strands (λ i es m.
      enum_again (λ r. exit r.1 (tight_place p ws r.1 (goals_on p i (letters es) r.0))) (λ e. e.side) 0 es (λ l e n.
      let place : tight_place p ws e.side (goals_on p i (letters es) l) ≡ e.place
      = subst (λ w. tight_place p ws e.side (goals_on p i (letters w) l) ≡ e.place) (strand_at i es m).1 (exit_place i l e (letter_at i es l e m n)) in
      ap (exit e.side) place)) in
      ap (λ ss. record { polygon = d.polygon; strands = ss }) (sym again)

-- two tight embedded drawings on one polygon with the same words are equal
pub one_tight_drawing : (d e : Drawing) → IsEmbedded d → IsTight d → IsEmbedded e → IsTight e → d.polygon ≡ e.polygon → words d ≡ words e → d ≡ e
one_tight_drawing d e dok dt eok et q r =
    is_tight_drawing d dok dt ∙ (ap (λ p. tight_drawing p (words d)) q ∙ (ap (tight_drawing e.polygon) r ∙ sym (is_tight_drawing e eok et)))
