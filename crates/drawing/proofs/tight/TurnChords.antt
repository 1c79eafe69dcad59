-- Without a turn the two chords before and after it are one, and all other chords are what they were, in order.
use Rattle.std.proofs.Common.{◌≡◌, ℕ, suc, ◌+◌, ◌-◌, ◌<◌, ◌≤◌, true, List, [], ◌∷◌, ◌++◌, map, refl, sym, ◌∙◌, ap, subst, arith, append_assoc, ◌⊎◌, inl, inr, ◌≢◌}
use Rattle.std.specs.List.{flat_map, range_with_len}
use Rattle.std.proofs.lemmas.Bool.{ne_eqb}
use Rattle.std.proofs.lemmas.List.Concat.{flat_map-append}
use Rattle.obd_base.proofs.lists.Below.{mem_range, mem_below}
use Rattle.obd_base.specs.Lists.{below, Mem}
use Rattle.obd_base.specs.declared.points.Exit.{Exit}
use Rattle.page_surface.specs.Drawing.{Drawing, entry, end_of, spot, points_on, offset, Chord, chords, strand_chords, strand_exits, cut_strand, no_two_cross, IsEmbedded}
use Rattle.page_surface.specs.Polygon.{partner, arc_count, first_side, second_side}
use Rattle.drawing.specs.Turns.{IsTurn, lowered}
use Rattle.drawing.proofs.SweepTest.{chord}
use Rattle.drawing.proofs.Diagram.{at_most_one_end}
use Rattle.drawing.proofs.Placed.{ends_at}
use Rattle.obd_base.proofs.lists.Maps.{map_flat, flat_same, range_split}
use Rattle.drawing.proofs.tight.TurnCounts.{row, row_there, strand_new, places, places_meet, far_count}
use Rattle.drawing.proofs.tight.TurnMap.{thin, up, up_rises, up_end, Kept, kept}
use Rattle.drawing.proofs.Moved.{moved, moved_uncrossed}
use Rattle.drawing.proofs.tight.Uncross.{merged_uncrossed, others_avoid}

-- lists joined in another grouping
four : {X : Type 0} (l pre m post r : List X) → l ++ ((pre ++ (m ++ post)) ++ r) ≡ (l ++ pre) ++ (m ++ (post ++ r))
four l pre m post r = simp append_assoc refl

module _ (d : Drawing) (ok : IsEmbedded d) (i : ℕ) (us : List Exit) (u v : Exit) (vs : List Exit) (turn : IsTurn d i us u v vs) where
  -- the drawing without the turn
  abbrev thinner : Drawing
  thinner = thin d ok i us u v vs turn

  -- the number in the drawing with the turn of a number in the one without
  abbrev lift : ℕ → ℕ
  lift = up d ok i us u v vs turn

  -- an exit that is kept, in the drawing without the turn
  abbrev drop_turn : Exit → Exit
  drop_turn = lowered d u v

  -- its numbers are those that it had
  abbrev IsKept : Exit → Type 0
  IsKept = Kept d ok i us u v vs turn

  -- the chords of exits that are kept are the same chords
  cut_kept : (a a' z z' : Exit) (es : List Exit) → ((x : Exit) → Mem x es → IsKept x) → lift (spot thinner a') ≡ spot d a → lift (spot thinner z') ≡ spot d z
      → map (moved lift) (cut_strand thinner a' (map drop_turn es) z') ≡ cut_strand d a es z
  cut_kept a a' z z' [] h p q = ap (λ x. chord x (lift (spot thinner z')) ∷ []) p ∙ ap (λ y. chord (spot d a) y ∷ []) q
  cut_kept a a' z z' (e ∷ es) h p q =
      let x = h e (inl refl) in
      let rest = cut_kept (entry d e) (entry thinner (drop_turn e)) z z' es (λ y m. h y (inr m)) x.there q in
      let tail : List Chord = map (moved lift) (cut_strand thinner (entry thinner (drop_turn e)) (map drop_turn es) z') in
      ap (λ y. chord y (lift (spot thinner (drop_turn e))) ∷ tail) p ∙ (ap (λ y. chord (spot d a) y ∷ tail) x.here ∙ ap (λ cs. chord (spot d a) (spot d e) ∷ cs) rest)

  -- the chords of a list with the turn, and of one without it
  record Merged (with_it without : List Chord) : Type 0 where
    pre : List Chord
    post : List Chord
    start : ℕ
    end : ℕ
    before : with_it ≡ pre ++ (chord start (spot d u) ∷ chord (spot d (entry d u)) (spot d v) ∷ chord (spot d (entry d v)) end ∷ post)
    after : without ≡ pre ++ (chord start end ∷ post)

  -- along the strand of the turn
  cut_merged : (a a' z z' : Exit) (xs : List Exit) → ((x : Exit) → Mem x (xs ++ vs) → IsKept x) → lift (spot thinner a') ≡ spot d a → lift (spot thinner z') ≡ spot d z
      → Merged (cut_strand d a (xs ++ (u ∷ v ∷ vs)) z) (map (moved lift) (cut_strand thinner a' (map drop_turn (xs ++ vs)) z'))
  cut_merged a a' z z' [] h p q = last vs h
    where
      last : (ws : List Exit) → ((x : Exit) → Mem x ws → IsKept x) → Merged (cut_strand d a (u ∷ v ∷ ws) z) (map (moved lift) (cut_strand thinner a' (map drop_turn ws) z'))
      last [] g = record { pre = []; post = []; start = spot d a; end = spot d z; before = refl; after = cut_kept a a' z z' [] g p q }
      last (w ∷ ws) g = record { pre = []; post = cut_strand d (entry d w) ws z; start = spot d a; end = spot d w; before = refl; after = cut_kept a a' z z' (w ∷ ws) g p q }
  cut_merged a a' z z' (x ∷ xs) h p q =
      let g = h x (inl refl) in
      let r = cut_merged (entry d x) (entry thinner (drop_turn x)) z z' xs (λ y m. h y (inr m)) g.there q in
      let tail : List Chord = map (moved lift) (cut_strand thinner (entry thinner (drop_turn x)) (map drop_turn (xs ++ vs)) z') in
      record {
        pre = chord (spot d a) (spot d x) ∷ r.pre;
        post = r.post;
        start = r.start;
        end = r.end;
        before = ap (λ cs. chord (spot d a) (spot d x) ∷ cs) r.before;
        after = ap (λ y. chord y (lift (spot thinner (drop_turn x))) ∷ tail) p ∙ (ap (λ y. chord (spot d a) y ∷ tail) g.here ∙ ap (λ cs. chord (spot d a) (spot d x) ∷ cs) r.after);
      }

  -- how many strands there are
  abbrev n : ℕ
  n = arc_count d.polygon

  -- the chords of another strand
  others : (j : ℕ) → j < n → j ≢ i → map (moved lift) (strand_chords thinner j) ≡ strand_chords d j
  others j l ne =
      let f = first_side d.polygon j in
      let g = second_side d.polygon j in
      let same : row d ok i us u v vs turn j ≡ strand_exits d j = rw (ne_eqb j i ne) refl in
      let es : strand_exits thinner j ≡ map drop_turn (strand_exits d j) = strand_new d ok i us u v vs turn j l ∙ ap (map drop_turn) same in
      ap (λ xs. map (moved lift) (cut_strand thinner (end_of thinner g) xs (end_of thinner f))) es
      ∙ cut_kept (end_of d g) (end_of thinner g) (end_of d f) (end_of thinner f) (strand_exits d j)
      (λ x m. kept d ok i us u v vs turn j x l (subst (λ es. Mem x es) (sym same) m)) (up_end d ok i us u v vs turn g) (up_end d ok i us u v vs turn f)

  -- the chords of the strand of the turn
  strand_merged : Merged (strand_chords d i) (map (moved lift) (strand_chords thinner i))
  strand_merged =
      let f = first_side d.polygon i in
      let g = second_side d.polygon i in
      let there = row_there d ok i us u v vs turn in
      let es : strand_exits thinner i ≡ map drop_turn (us ++ vs) = strand_new d ok i us u v vs turn i turn.arc ∙ ap (map drop_turn) there in
      let r = cut_merged (end_of d g) (end_of thinner g) (end_of d f) (end_of thinner f) us
      (λ x m. kept d ok i us u v vs turn i x turn.arc (subst (λ es. Mem x es) (sym there) m)) (up_end d ok i us u v vs turn g) (up_end d ok i us u v vs turn f) in
      record {
        pre = r.pre;
        post = r.post;
        start = r.start;
        end = r.end;
        before = ap (λ xs. cut_strand d (end_of d g) xs (end_of d f)) turn.splits ∙ r.before;
        after = ap (λ xs. map (moved lift) (cut_strand thinner (end_of thinner g) xs (end_of thinner f))) es ∙ r.after;
      }

  -- the chords of all strands
  all_merged : Merged (chords d) (map (moved lift) (chords thinner))
  all_merged =
      let r = strand_merged in
      let rest = n - suc i in
      let e : n ≡ i + suc rest = omega (arith, turn.arc) in
      let parts : below n ≡ below i ++ (i ∷ range_with_len (i + 1) rest)
      = ap below e ∙ (range_split 0 i rest ∙ (let w : 0 + i ≡ i = omega arith in ap (λ y. below i ++ (y ∷ range_with_len (y + 1) rest)) w)) in
      let old = strand_chords d in
      let now : ℕ → List Chord = λ j. map (moved lift) (strand_chords thinner j) in
      let left : List Chord = flat_map old (below i) in
      let right : List Chord = flat_map old (range_with_len (i + 1) rest) in
      let one : chords d ≡ left ++ (old i ++ right) = ap (flat_map old) parts ∙ flat_map-append old (below i) (i ∷ range_with_len (i + 1) rest) in
      let two : map (moved lift) (chords thinner) ≡ flat_map now (below i) ++ (now i ++ flat_map now (range_with_len (i + 1) rest))
      = map_flat (moved lift) (strand_chords thinner) (below n) ∙ (ap (flat_map now) parts ∙ flat_map-append now (below i) (i ∷ range_with_len (i + 1) rest)) in
      let lefts : flat_map now (below i) ≡ left = flat_same now old (below i) (λ j m. let l = mem_below i j m in others j (omega (arith, l, turn.arc)) (λ q. omega arith)) in
      let rights : flat_map now (range_with_len (i + 1) rest) ≡ right = flat_same now old (range_with_len (i + 1) rest) (λ j m. let l = mem_range (i + 1) rest j m in others j (omega (arith, l, turn.arc)) (λ q. omega (arith, l))) in
      record {
        pre = left ++ r.pre;
        post = r.post ++ right;
        start = r.start;
        end = r.end;
        before = one ∙ (ap (λ xs. left ++ (xs ++ right)) r.before ∙ four left r.pre (chord r.start (spot d u) ∷ chord (spot d (entry d u)) (spot d v) ∷ chord (spot d (entry d v)) r.end ∷ []) r.post right);
        after = two ∙ (ap (λ xs. xs ++ (now i ++ flat_map now (range_with_len (i + 1) rest))) lefts ∙ (ap (λ xs. left ++ (now i ++ xs)) rights
            ∙ (ap (λ xs. left ++ (xs ++ right)) r.after ∙ four left r.pre (chord r.start r.end ∷ []) r.post right)));
      }

  -- the two points of the turn on the side that it leaves through have numbers that follow one another
  pub neighbours : (spot d u ≡ suc (spot d (entry d v))) ⊎ (spot d (entry d v) ≡ suc (spot d u))
  neighbours =
      let m : points_on d v.side ≡ points_on d u.side = ap (points_on d) turn.turns.returns ∙ far_count d ok i us u v vs turn in
      let b : partner d.polygon v.side ≡ u.side = ap (partner d.polygon) turn.turns.returns ∙ ok.polygon.pairs.twice u.side in
      let o : offset d (partner d.polygon v.side) ≡ offset d u.side = ap (offset d) b in
      let g = places_meet d ok i us u v vs turn in
      elim (places d ok i us u v vs turn) [
        | inl w ↦ inl (omega (arith, m, o, g, w))
        | inr w ↦ inr (omega (arith, m, o, g, w))
      ]

  -- without the turn no two chords cross
  pub still_uncrossed : no_two_cross (chords thinner) ≡ true
  still_uncrossed =
      let r = all_merged in
      let whole = subst (λ cs. no_two_cross cs ≡ true) r.before ok.uncrossed in
      let once : (x : ℕ) → ends_at (r.pre ++ (chord r.start (spot d u) ∷ chord (spot d (entry d u)) (spot d v) ∷ chord (spot d (entry d v)) r.end ∷ r.post)) x ≤ 1
      = λ x. subst (λ cs. ends_at cs x ≤ 1) r.before (at_most_one_end d ok x) in
      let free = others_avoid r.start (spot d u) (spot d (entry d v)) r.end (spot d (entry d u)) (spot d v) neighbours r.pre r.post once in
      let merged = merged_uncrossed r.start (spot d u) (spot d (entry d v)) r.end (spot d (entry d u)) (spot d v) neighbours r.pre r.post free whole in
      sym (moved_uncrossed lift (up_rises d ok i us u v vs turn) (chords thinner)) ∙ subst (λ cs. no_two_cross cs ≡ true) (sym r.after) merged
