-- Laws for building the surgery: its size, its lines in closed form, a loop exit by exit, how a sweep numbers the meetings, and that
-- reading it is never refused.
use Rattle.std.proofs.Common.{◌≡◌, ℕ, suc, ◌+◌, ◌-◌, ◌*◌, ◌^◌, ◌<◌, ◌≤◌, true, cond, List, [], ◌∷◌, ◌++◌, length, refl, sym, ◌∙◌, ap, ap₂, arith}
use Rattle.std.specs.List.{count_by, range_with_len, sum_by}
use Rattle.std.proofs.lemmas.Bool.{true≢false}
use Rattle.std.proofs.Math.Nat.{mul-le-mul}
use Rattle.obd_base.specs.Lists.{Mem, below}
use Rattle.obd_base.specs.declared.points.Exit.{Exit}
use Rattle.obd_base.specs.declared.points.Sign.{Sign}
use Rattle.obd_base.specs.declared.points.Sign.TheVariants.{Minus, Plus}
use Rattle.obd_base.proofs.lists.Below.{all_below}
use Rattle.obd_base.proofs.lists.Sums.{bit-le, sum_add, sum_flat, sum_least, sum_ones, sum_rows, sum_same}
use Rattle.page_surface.specs.Drawing.{Chord, Drawing, IsEmbedded, all_exits, crosses, end_of, entry, right_on, strand_exits}
use Rattle.page_surface.specs.Polygon.{arc_count, first_side, second_side, sides}
use Rattle.page_surface.proofs.EmbeddedTest.{places_right}
use Rattle.curve_paths.specs.Curves.{IsCurve, turned}
use Rattle.drawing.proofs.Laws.{never_uncut}
use Rattle.drawing.proofs.Lists.{length_sum}
use Rattle.drawing.specs.Reading.{Says}
use Rattle.drawing.specs.declared.refusal.DrawRefusal.{DrawRefusal}
use Rattle.drawing.specs.declared.refusal.DrawRefusal.TheVariants.{Crosses, NoMemory, NotCut, PlaceWrong}
use Rattle.dehn_twist.specs.Surgery.{goes_up, inner_end, line_index, meeting_count, meeting_number, meetings_upto, merged_chords, merged_curve, merged_cut, surgery}
use Rattle.dehn_twist.specs.Tables.{round}
use Rattle.dehn_twist.proofs.CopyPlaces.{around_high, around_low}
use Rattle.dehn_twist.proofs.CopySums.{all_sum}
use Rattle.dehn_twist.proofs.MeetingSums.{crossings, parted, place_met_is}
use Rattle.dehn_twist.proofs.NewEmbedded.{surgery_embedded}
use Rattle.dehn_twist.proofs.RoundNumbers.{drop_range, take_range}
use Rattle.std.proofs.Common.{reverse, ltb, map, false}
use Rattle.std.proofs.lemmas.Bool.{le-ltb, lt-ltb}
use Rattle.std.proofs.lemmas.List.{map-append}
use Rattle.curve_paths.specs.Curves.{curve_entry, exit_at}
use Rattle.dehn_twist.specs.Surgery.{copy_of, loop_along}
use Rattle.dehn_twist.proofs.LineOrder.{map_down, range_moved}
use Rattle.dehn_twist.proofs.NewCircle.{map-map}
use Rattle.dehn_twist.proofs.Rows.{sum_const}
use Rattle.curve_paths.proofs.PointPlaces.{range_join}

-- the index of a line in closed form
pub line_plus_low : (total upto line : ℕ) → line < upto → upto ≤ total → line_index Plus total upto line ≡ upto - 1 - line
line_plus_low total upto line l h = around_low total upto line l h

-- for the lines from there on
pub line_plus_high : (total upto line : ℕ) → upto ≤ line → line < total → line_index Plus total upto line ≡ upto + total - 1 - line
line_plus_high total upto line l h = around_high total upto line l h

-- for a negative twist the lines stand in the other order
pub line_minus : (total upto line : ℕ) → line_index Minus total upto line ≡ total - 1 - line_index Plus total upto line
line_minus total upto line = refl

-- the exits of a loop in order
pub turned_below : (n a : ℕ) → a ≤ n → turned a (below n) ≡ range_with_len a (n - a) ++ range_with_len 0 a
turned_below n a l =
    let e : n ≡ a + (n - a) = omega (arith, l) in
    let z : 0 + a ≡ a = omega arith in
    ap (λ m. turned a (range_with_len 0 m)) e ∙ (ap₂ (λ x y. x ++ y) (drop_range 0 a (n - a) ∙ ap (λ k. range_with_len k (n - a)) z) (take_range 0 a (n - a)))

-- all exits from one on, by their numbers
pub turned_rounds : (n a : ℕ) → a ≤ n → turned a (below n) ≡ map (round n a) (below n)
turned_rounds n a l =
    let e : n ≡ (n - a) + a = omega (arith, l) in
    let z : 0 + (n - a) ≡ n - a = omega arith in
    turned_below n a l
    ∙ sym (ap (λ m. map (round n a) (range_with_len 0 m)) e
    ∙ (ap (map (round n a)) (range_join 0 (n - a) a ∙ ap (λ k. range_with_len 0 (n - a) ++ range_with_len k a) z)
    ∙ (map-append (round n a) (range_with_len 0 (n - a)) (range_with_len (n - a) a)
    ∙ ap₂ (λ x y. x ++ y)
    (range_moved (round n a) 0 a (n - a) (λ i h. let t : ltb (a + (0 + i)) n ≡ true = lt-ltb (a + (0 + i)) n (omega (arith, h)) in rw t (omega arith)))
    (range_moved (round n a) (n - a) 0 a (λ i h. let t : ltb (a + (n - a + i)) n ≡ false = (let k : n ≤ a + (n - a + i) = omega (arith, l) in le-ltb (a + (n - a + i)) n k) in rw t (omega (arith, l)))))))

module _ (d : Drawing) (c : List Exit) (sign : Sign) (total a line : ℕ) (l : a ≤ length c) where
  -- a loop forward, exit by exit
  pub loop_forward : loop_along d c sign true total a line
      ≡ map (λ i. copy_of d c total (exit_at c (round (length c) a i)) (line_index sign total (meetings_upto d c (suc (round (length c) a i))) line)) (below (length c))
  loop_forward =
      let f = λ (b : ℕ). copy_of d c total (exit_at c b) (line_index sign total (meetings_upto d c (suc b)) line) in
      ap (map f) (turned_rounds (length c) a l) ∙ map-map f (round (length c) a) (below (length c))

  -- and a loop backward
  pub loop_backward : loop_along d c sign false total a line
      ≡ map (λ i. copy_of d c total (curve_entry d.polygon c (exit_at c (round (length c) a (length c - 1 - i))))
      (total - 1 - line_index sign total (meetings_upto d c (suc (round (length c) a (length c - 1 - i)))) line)) (below (length c))
  loop_backward =
      let f = λ (b : ℕ). copy_of d c total (curve_entry d.polygon c (exit_at c b)) (total - 1 - line_index sign total (meetings_upto d c (suc b)) line) in
      ap reverse (ap (map f) (turned_rounds (length c) a l) ∙ map-map f (round (length c) a) (below (length c)))
      ∙ sym (map_down (λ i. f (round (length c) a i)) (length c))

module _ (d : Drawing) (dok : IsEmbedded d) (c : List Exit) (curve : IsCurve d.polygon c) where
  cut_count : (a z : Exit) (es : List Exit) → length (merged_cut d c a es z) ≡ suc (length es)
  cut_count a z [] = refl
  cut_count a z (e ∷ es) = ap suc (cut_count (entry d e) z es)

  -- there are as many chords as exits and arcs
  pub chord_count : length (merged_chords d c) ≡ length (all_exits d) + arc_count d.polygon
  chord_count =
      let n = arc_count d.polygon in
      let cut = λ (i : ℕ). merged_cut d c (end_of d (second_side d.polygon i)) (strand_exits d i) (end_of d (first_side d.polygon i)) in
      let one = sum_flat (λ (t : Chord). 1) cut (below n) in
      let two : sum_by (λ i. sum_by (λ (t : Chord). 1) (cut i)) (below n) ≡ sum_by (λ i. sum_by (λ (e : Exit). 1) (strand_exits d i) + 1) (below n)
      = sum_same _ _ (below n) (λ i m. let a = length_sum (cut i) in let b = cut_count (end_of d (second_side d.polygon i)) (end_of d (first_side d.polygon i)) (strand_exits d i) in let e = length_sum (strand_exits d i) in omega (arith, a, b, e)) in
      let three = sum_add (λ i. sum_by (λ (e : Exit). 1) (strand_exits d i)) (λ i. 1) (below n) in
      let four = sum_rows (λ (e : Exit). 1) d.strands n dok.strand_count in
      omega (arith, one, two, three, four, length_sum (merged_chords d c), length_sum (all_exits d), sum_ones n)

  -- there are no more meetings than pairs of a curve's chord and a strand's chord
  pub meetings_few : meeting_count d c ≤ length (merged_chords d c) * length c
  meetings_few =
      let ss = merged_chords d c in
      let one = sum_least (λ b. count_by (crosses (merged_curve d c b)) ss) (λ b. length ss) (below (length c)) (λ b m.
      let l = sum_least (λ s. cond {A = ℕ} (crosses (merged_curve d c b) s) 1 0) (λ s. 1) ss (λ s k. bit-le (crosses (merged_curve d c b) s)) in
      omega (arith, l, length_sum ss)) in
      omega (arith, one, sum_const (length ss) (length c))

  -- each meeting inserts a copy of the curve
  pub exit_count : (sign : Sign) → length (all_exits (surgery d c sign)) ≡ length (all_exits d) + meeting_count d c * length c
  exit_count sign =
      let all = all_sum d dok c curve sign (λ e. 1) (λ q x i l. refl) in
      let one : sum_by (λ b. sum_by (λ (x : ℕ). 1) (below (meeting_count d c))) (below (length c)) ≡ sum_by (λ (b : ℕ). meeting_count d c) (below (length c)) = sum_same _ _ (below (length c)) (λ b m. sum_ones (meeting_count d c)) in
      omega (arith, all, one, sum_const (meeting_count d c) (length c), length_sum (all_exits (surgery d c sign)), length_sum (all_exits d))

  -- A sweep over the numbers between the ends of a curve's chord that counts the strands' points whose mates lie outside numbers the
  -- meetings: upwards where the chord goes up, downwards where it goes down.
  pub swept_number : (a : ℕ) (t : Chord) → Mem t (merged_chords d c) → crosses (merged_curve d c a) t ≡ true
      → meeting_number d c a t ≡ meetings_upto d c a
      + cond (goes_up (merged_curve d c a)) (count_by (parted d dok c curve a) (below (inner_end (merged_curve d c a) t)))
      (crossings d dok c curve a - 1 - count_by (parted d dok c curve a) (below (inner_end (merged_curve d c a) t)))
  swept_number a t m h = ap (λ n. meetings_upto d c a + n) (place_met_is d dok c curve a t m h)

  -- a drawing of the surgery is never refused, but for want of memory
  pub never_refused : (sign : Sign) (r : DrawRefusal) → Says (surgery d c sign) r → r ≡ NoMemory
  never_refused sign (PlaceWrong side) says =
      let e = all_below (right_on (surgery d c sign)) (sides d.polygon) (places_right (surgery d c sign) (surgery_embedded d dok c curve sign).places) side says.side in
      absurd (true≢false (sym e ∙ says.wrong))
  never_refused sign Crosses says = absurd (true≢false (sym (surgery_embedded d dok c curve sign).uncrossed ∙ says.1))
  never_refused sign (NotCut reached all) says = absurd (never_uncut (surgery d c sign) reached all says)
  never_refused sign NoMemory says = refl

  -- for drawings and curves within the limits it has few exits
  pub exits_few : (sign : Sign) → length (all_exits d) ≤ 4000 → arc_count d.polygon ≤ 24 → length c ≤ 32 → length (all_exits (surgery d c sign)) < 2 ^ 28
  exits_few sign h n r =
      let s : length (merged_chords d c) ≤ 4024 = omega (arith, chord_count, h, n) in
      let m : length (merged_chords d c) * length c ≤ 4024 * 32 = mul-le-mul s r in
      let k : meeting_count d c ≤ 128768 = omega (arith, meetings_few, m) in
      let t : meeting_count d c * length c ≤ 128768 * 32 = mul-le-mul k r in
      omega (arith, exit_count sign, h, t)
