-- The copies of a curve, exit by exit, from the table of how many meetings come before each chord.
use Rattle.std.proofs.Common.{◌≡◌, ℕ, suc, ◌+◌, ◌-◌, ◌*◌, ◌<◌, ◌≤◌, ◌^◌, true, false, List, [], ◌∷◌, ◌++◌, map, length, get_or, sym, ◌∙◌, ap, ap₂, append_assoc, arith, zero-add}
use Rattle.std.proofs.lemmas.List.FromFn.{get_or-map-range_with_len, length-map-range_with_len, map-range_with_len_more}
use Rattle.std.proofs.Math.Nat.{mul-le-mul}
use Rattle.obd_base.specs.Lists.{below}
use Rattle.obd_base.specs.declared.points.Exit.{Exit}
use Rattle.obd_base.specs.declared.points.Sign.{Sign}
use Rattle.page_surface.specs.Drawing.{Drawing, exit}
use Rattle.curve_paths.specs.Curves.{curve_entry, exit_at}
use Rattle.std.proofs.lemmas.List.{get_or_read}
use Rattle.dehn_twist.specs.Surgery.{copy_of, line_index, loop_along, meeting_count, meetings_upto, merged_chords}
use Rattle.dehn_twist.specs.Tables.{AreTaken, round}
use Rattle.dehn_twist.proofs.BuildLaws.{chord_count, loop_backward, loop_forward, meetings_few}
use Rattle.dehn_twist.proofs.MeetingSums.{upto_more}

-- one thing more after others
pub after_push : {X : Type 0} (f : ℕ → X) (n : ℕ) (before old after : List X) (x : X) → old ≡ before ++ map f (below n) → x ≡ f n → after ≡ old ++ x ∷ [] → after ≡ before ++ map f (below (n + 1))
after_push f n before old after x so_far is grown =
    grown ∙ (ap₂ (λ ys y. ys ++ y ∷ []) so_far is ∙ (append_assoc before (map f (below n)) (f n ∷ []) ∙ ap (λ ys. before ++ ys) (sym (map-range_with_len_more f 0 n n (omega arith)))))

module _ (d : Drawing) (c : List Exit) (ok : AreTaken d c) where
  -- there are few meetings
  pub lines_few : meeting_count d c ≤ 2 ^ 20
  lines_few =
      let s : length (merged_chords d c) ≤ 4024 = omega (arith, chord_count d ok.embedded c ok.curve, ok.few_points, ok.few_sides, ok.embedded.polygon.even) in
      let m : length (merged_chords d c) * length c ≤ 4024 * 32 = mul-le-mul s ok.few_exits in
      omega (arith, meetings_few d ok.embedded c ok.curve, m)

  -- and no more before a chord
  pub upto_within : (a : ℕ) → a ≤ length c → meetings_upto d c a ≤ meeting_count d c
  upto_within a l = upto_more d ok.embedded c ok.curve a (length c) l

  module _ (uptos : List ℕ) (is : uptos ≡ map (meetings_upto d c) (below (suc (length c)))) where
    -- one number a chord and one for all
    pub uptos_size : length uptos ≡ suc (length c)
    uptos_size = ap length is ∙ length-map-range_with_len (meetings_upto d c) 0 (suc (length c))

    -- what is read
    pub upto_read : (n a : ℕ) → n ≡ a → a ≤ length c → get_or uptos n 0 ≡ meetings_upto d c a
    upto_read n a e l = ap (λ xs. get_or xs n 0) is ∙ get_or-map-range_with_len (meetings_upto d c) 0 (suc (length c)) n a 0 (omega (arith, e, l)) (zero-add n ∙ e)

    -- a copied exit of a loop forward
    pub copy_made : (sign : Sign) (from step line lines at upto index : ℕ) (exits : List Exit) (e x : Exit) → exits ≡ c → lines ≡ get_or uptos (length exits) 0 → at ≡ round (length exits) from step
        → at < length exits → upto ≡ get_or uptos (at + 1) 0 → e ≡ get_or exits at e → index ≡ line_index sign lines upto line → x ≡ copy_of d c lines e index
        → x ≡ copy_of d c (meeting_count d c) (exit_at c (round (length c) from step)) (line_index sign (meeting_count d c) (meetings_upto d c (suc (round (length c) from step))) line)
    copy_made sign from step line lines at upto index exits e x same total here l before read indexed made =
        let size = ap length same in
        let a : at ≡ round (length c) from step = here ∙ ap (λ n. round n from step) size in
        let t : lines ≡ meeting_count d c = total ∙ upto_read (length exits) (length c) size (omega arith) in
        let u : upto ≡ meetings_upto d c (suc (round (length c) from step)) = before ∙ upto_read (at + 1) (suc (round (length c) from step)) (omega (arith, a)) (omega (arith, a, l, size)) in
        let k : e ≡ exit_at c (round (length c) from step) = get_or_read exits at e l read (exit 0 0) ∙ ap₂ (λ xs i. get_or xs i (exit 0 0)) same a in
        made ∙ (ap (λ i. copy_of d c lines e i) indexed ∙ (ap₂ (λ n m. copy_of d c n e (line_index sign n m line)) t u ∙ ap (λ y. copy_of d c (meeting_count d c) y (line_index sign (meeting_count d c) (meetings_upto d c (suc (round (length c) from step))) line)) k))

    -- and of a loop backward
    pub copy_back : (sign : Sign) (from step line lines at upto index : ℕ) (exits : List Exit) (e y x : Exit) → exits ≡ c → lines ≡ get_or uptos (length exits) 0
        → at ≡ round (length exits) from (length exits - 1 - step) → at < length exits → upto ≡ get_or uptos (at + 1) 0 → e ≡ get_or exits at e → index ≡ line_index sign lines upto line
        → y ≡ curve_entry d.polygon c e → x ≡ copy_of d c lines y (lines - 1 - index) → x ≡ copy_of d c (meeting_count d c) (curve_entry d.polygon c (exit_at c (round (length c) from (length c - 1 - step)))) (meeting_count d c - 1 - line_index sign (meeting_count d c) (meetings_upto d c (suc (round (length c) from (length c - 1 - step)))) line)
    copy_back sign from step line lines at upto index exits e y x same total here l before read indexed enters made =
        let size = ap length same in
        let a : at ≡ round (length c) from (length c - 1 - step) = here ∙ ap (λ n. round n from (n - 1 - step)) size in
        let t : lines ≡ meeting_count d c = total ∙ upto_read (length exits) (length c) size (omega arith) in
        let u : upto ≡ meetings_upto d c (suc (round (length c) from (length c - 1 - step)))
        = before ∙ upto_read (at + 1) (suc (round (length c) from (length c - 1 - step))) (omega (arith, a)) (omega (arith, a, l, size)) in
        let k : e ≡ exit_at c (round (length c) from (length c - 1 - step)) = get_or_read exits at e l read (exit 0 0) ∙ ap₂ (λ xs i. get_or xs i (exit 0 0)) same a in
        made ∙ (ap₂ (λ z i. copy_of d c lines z (lines - 1 - i)) (enters ∙ ap (curve_entry d.polygon c) k) indexed
        ∙ ap₂ (λ n m. copy_of d c n (curve_entry d.polygon c (exit_at c (round (length c) from (length c - 1 - step)))) (n - 1 - line_index sign n m line)) t u)

-- the whole loop
pub loop_made : (d : Drawing) (c : List Exit) (sign : Sign) (from line step : ℕ) (before row : List Exit) → from ≤ length c → step ≡ length c
    → row ≡ before ++ map (λ i. copy_of d c (meeting_count d c) (exit_at c (round (length c) from i)) (line_index sign (meeting_count d c) (meetings_upto d c (suc (round (length c) from i))) line)) (below step)
    → row ≡ before ++ loop_along d c sign true (meeting_count d c) from line
loop_made d c sign from line step before row l end is =
    let f = λ (i : ℕ). copy_of d c (meeting_count d c) (exit_at c (round (length c) from i)) (line_index sign (meeting_count d c) (meetings_upto d c (suc (round (length c) from i))) line) in
    is ∙ (ap (λ n. before ++ map f (below n)) end ∙ ap (λ xs. before ++ xs) (sym (loop_forward d c sign (meeting_count d c) from line l)))

-- backward
pub back_made : (d : Drawing) (c : List Exit) (sign : Sign) (from line step : ℕ) (before row : List Exit) → from ≤ length c → step ≡ length c
    → row ≡ before ++ map (λ i. copy_of d c (meeting_count d c) (curve_entry d.polygon c (exit_at c (round (length c) from (length c - 1 - i)))) (meeting_count d c - 1 - line_index sign (meeting_count d c) (meetings_upto d c (suc (round (length c) from (length c - 1 - i)))) line)) (below step)
    → row ≡ before ++ loop_along d c sign false (meeting_count d c) from line
back_made d c sign from line step before row l end is =
    let f = λ (i : ℕ). copy_of d c (meeting_count d c) (curve_entry d.polygon c (exit_at c (round (length c) from (length c - 1 - i)))) (meeting_count d c - 1 - line_index sign (meeting_count d c) (meetings_upto d c (suc (round (length c) from (length c - 1 - i)))) line) in
    is ∙ (ap (λ n. before ++ map f (below n)) end ∙ ap (λ xs. before ++ xs) (sym (loop_backward d c sign (meeting_count d c) from line l)))
