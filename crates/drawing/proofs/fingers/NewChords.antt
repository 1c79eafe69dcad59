-- The chords of a drawing after a finger: the three parts of the pushed chord stand in its place, and all others are carried.
use Rattle.std.proofs.Common.{◌≡◌, ℕ, zero, suc, ◌+◌, ◌-◌, ◌<◌, ◌≤◌, Bool, true, false, cond, List, [], ◌∷◌, ◌++◌, map, length, get_or, take, drop, refl, sym, ◌∙◌, ap, arith, append_assoc, inl, inr, ◌≢◌}
use Rattle.std.specs.List.{flat_map, range_with_len}
use Rattle.std.proofs.lemmas.List.{map-append}
use Rattle.std.proofs.lemmas.List.Concat.{flat_map-append}
use Rattle.obd_base.specs.Lists.{below, Mem}
use Rattle.obd_base.specs.declared.points.Exit.{Exit}
use Rattle.obd_base.proofs.lists.Below.{bit, mem_below, mem_range}
use Rattle.obd_base.proofs.lists.Sums.{bit-le}
use Rattle.page_surface.specs.Drawing.{Chord, Drawing, IsEmbedded, chords, cut_strand, end_of, entry, points_on, spot, strand_chords, strand_exits}
use Rattle.page_surface.specs.Polygon.{arc_count, first_side, second_side}
use Rattle.drawing.specs.declared.finger.Finger.{Finger}
use Rattle.drawing.specs.Fingers.{InRange, carried, chord_at, entered, entered_beyond, with_letters}
use Rattle.drawing.proofs.Lists.{mem_row}
use Rattle.obd_base.proofs.lists.Maps.{map_flat, flat_same, range_split}
use Rattle.drawing.proofs.Placed.{place_in-placed}
use Rattle.drawing.proofs.fingers.Shift.{shift, early}
use Rattle.drawing.proofs.fingers.Finger.{carry, onto, turn, back}
use Rattle.drawing.proofs.fingers.InPlace.{pushed_in}
use Rattle.drawing.proofs.fingers.NewPlaces.{way_out, way_back, strand_other, strand_own}
use Rattle.drawing.proofs.fingers.NewSpots.{spot_kept, entry_kept, end_kept, out_spot, out_entry, back_spot, back_entry}

-- a chord by its two ends
abbrev pub chord : ℕ → ℕ → Chord
chord from to = record { from = from; to = to }

-- no chord at all
abbrev pub no_chord : Chord
no_chord = chord 0 0

same_chord : {a b x y : ℕ} → a ≡ x → b ≡ y → chord a b ≡ chord x y
same_chord {a} {b} {x} {y} p q = ap (λ z. chord z b) p ∙ ap (λ z. chord x z) q

later_one : (out : Bool) (x : ℕ) → x + bit out ≡ cond out (suc x) x
later_one true x = omega arith
later_one false x = omega arith

other_one : (out : Bool) (x : ℕ) → x + (1 - bit out) ≡ cond out x (suc x)
other_one true x = omega arith
other_one false x = omega arith

-- a list, with one of its members apart
pub apart_at : (xs : List Chord) (c : ℕ) → c < length xs → xs ≡ take c xs ++ (get_or xs c no_chord ∷ drop (suc c) xs)
apart_at [] c l = absurd (let z : ⊥ = omega arith in z)
apart_at (x ∷ xs) zero l = refl
apart_at (x ∷ xs) (suc c) l = ap (λ ys. x ∷ ys) (apart_at xs c (omega arith))

-- a strand has one chord more than exits
pub length_cut : (d : Drawing) (a z : Exit) (es : List Exit) → length (cut_strand d a es z) ≡ suc (length es)
length_cut d a z [] = refl
length_cut d a z (e ∷ es) = ap suc (length_cut d (entry d e) z es)

module _ (d : Drawing) (ok : IsEmbedded d) (f : Finger) (out : Bool) (r : InRange d f) where
  -- the drawing with the two letters
  abbrev pub after : Drawing
  after = with_letters d f (bit out)

  abbrev t : ℕ
  t = entered d f

  abbrev u : ℕ
  u = entered_beyond d f

  abbrev leave : Exit
  leave = way_out d ok f (bit out) (bit-le out) r

  abbrev return : Exit
  return = way_back d ok f (bit out) (bit-le out) r

  -- the parts of a chord
  first_part : (c : Chord) (x : ℕ) → x ≡ shift t u c.from → chord x (spot after leave) ≡ onto t u out c
  first_part c x p = same_chord p (out_spot d ok f (bit out) (bit-le out) r ∙ later_one out (early t u))

  middle_part : chord (spot after (entry after leave)) (spot after return) ≡ turn t u out
  middle_part = same_chord (out_entry d ok f (bit out) (bit-le out) r ∙ other_one out (early u t)) (back_spot d ok f (bit out) (bit-le out) r ∙ later_one out (early u t))

  last_part : (c : Chord) (y : ℕ) → y ≡ shift t u c.to → chord (spot after (entry after return)) y ≡ back t u out c
  last_part c y q = same_chord (back_entry d ok f (bit out) (bit-le out) r ∙ other_one out (early t u)) q

  -- chords between old exits are carried
  cut_kept : (a a' z z' : Exit) (es : List Exit) → ((x : Exit) → Mem x es → x.place < points_on d x.side)
      → spot after a' ≡ shift t u (spot d a) → spot after z' ≡ shift t u (spot d z)
      → cut_strand after a' (map (carried d f) es) z' ≡ map (carry t u) (cut_strand d a es z)
  cut_kept a a' z z' [] h p q = ap (λ c. c ∷ []) (same_chord p q)
  cut_kept a a' z z' (e ∷ es) h p q =
      let here = h e (inl refl) in
      let rest = cut_kept (entry d e) (entry after (carried d f e)) z z' es (λ x m. h x (inr m)) (entry_kept d ok f (bit out) (bit-le out) r e here) q in
      ap (λ c. c ∷ cut_strand after (entry after (carried d f e)) (map (carried d f) es) z') (same_chord p (spot_kept d ok f (bit out) (bit-le out) r e here))
      ∙ ap (λ cs. carry t u (chord (spot d a) (spot d e)) ∷ cs) rest

  -- and the pushed one is cut in three
  cut_pushed : (c : ℕ) (a a' z z' : Exit) (es : List Exit) → c ≤ length es → ((x : Exit) → Mem x es → x.place < points_on d x.side)
      → spot after a' ≡ shift t u (spot d a) → spot after z' ≡ shift t u (spot d z)
      → cut_strand after a' (take c (map (carried d f) es) ++ (leave ∷ return ∷ drop c (map (carried d f) es))) z'
      ≡ (let cs = cut_strand d a es z in let x = get_or cs c no_chord in
      map (carry t u) (take c cs) ++ (onto t u out x ∷ turn t u out ∷ back t u out x ∷ map (carry t u) (drop (suc c) cs)))
  cut_pushed zero a a' z z' [] l h p q =
      let x = chord (spot d a) (spot d z) in
      ap (λ w. w ∷ chord (spot after (entry after leave)) (spot after return) ∷ chord (spot after (entry after return)) (spot after z') ∷ []) (first_part x (spot after a') p)
      ∙ (ap (λ w. onto t u out x ∷ w ∷ chord (spot after (entry after return)) (spot after z') ∷ []) middle_part
      ∙ ap (λ w. onto t u out x ∷ turn t u out ∷ w ∷ []) (last_part x (spot after z') q))
  cut_pushed zero a a' z z' (e ∷ es) l h p q =
      let x = chord (spot d a) (spot d e) in
      let here = h e (inl refl) in
      let rest = cut_kept (entry d e) (entry after (carried d f e)) z z' es (λ x m. h x (inr m)) (entry_kept d ok f (bit out) (bit-le out) r e here) q in
      let tail = cut_strand after (entry after (carried d f e)) (map (carried d f) es) z' in
      ap (λ w. w ∷ chord (spot after (entry after leave)) (spot after return) ∷ chord (spot after (entry after return)) (spot after (carried d f e)) ∷ tail) (first_part x (spot after a') p)
      ∙ (ap (λ w. onto t u out x ∷ w ∷ chord (spot after (entry after return)) (spot after (carried d f e)) ∷ tail) middle_part
      ∙ (ap (λ w. onto t u out x ∷ turn t u out ∷ w ∷ tail) (last_part x (spot after (carried d f e)) (spot_kept d ok f (bit out) (bit-le out) r e here))
      ∙ ap (λ w. onto t u out x ∷ turn t u out ∷ back t u out x ∷ w) rest))
  cut_pushed (suc c) a a' z z' [] l h p q = absurd (let z : ⊥ = omega arith in z)
  cut_pushed (suc c) a a' z z' (e ∷ es) l h p q =
      let here = h e (inl refl) in
      let rest = cut_pushed c (entry d e) (entry after (carried d f e)) z z' es (omega arith) (λ x m. h x (inr m)) (entry_kept d ok f (bit out) (bit-le out) r e here) q in
      ap (λ w. w ∷ cut_strand after (entry after (carried d f e)) (take c (map (carried d f) es) ++ (leave ∷ return ∷ drop c (map (carried d f) es))) z')
      (same_chord p (spot_kept d ok f (bit out) (bit-le out) r e here))
      ∙ ap (λ w. carry t u (chord (spot d a) (spot d e)) ∷ w) rest

  -- exits stand on their sides
  in_place : (i : ℕ) (x : Exit) → Mem x (strand_exits d i) → x.place < points_on d x.side
  in_place i x m = place_in-placed d (record { polygon = ok.polygon; strand_count = ok.strand_count; on_sides = ok.on_sides; places = ok.places }) x (mem_row d.strands i x m)

  -- the chords of another strand
  pub chords_other : (i : ℕ) → i < arc_count d.polygon → i ≢ f.strand → strand_chords after i ≡ map (carry t u) (strand_chords d i)
  chords_other i l ne =
      let s = second_side d.polygon i in
      let e = first_side d.polygon i in
      ap (λ es. cut_strand after (end_of after s) es (end_of after e)) (strand_other d ok f (bit out) (bit-le out) r i l ne)
      ∙ cut_kept (end_of d s) (end_of after s) (end_of d e) (end_of after e) (strand_exits d i) (in_place i)
      (end_kept d ok f (bit out) (bit-le out) r s) (end_kept d ok f (bit out) (bit-le out) r e)

  -- the chords of the finger's strand
  pub chords_own : strand_chords after f.strand
      ≡ (let cs = strand_chords d f.strand in let x = chord_at d f.strand f.chord in
      map (carry t u) (take f.chord cs) ++ (onto t u out x ∷ turn t u out ∷ back t u out x ∷ map (carry t u) (drop (suc f.chord) cs)))
  chords_own =
      let i = f.strand in
      let s = second_side d.polygon i in
      let e = first_side d.polygon i in
      ap (λ es. cut_strand after (end_of after s) es (end_of after e)) (strand_own d ok f (bit out) (bit-le out) r)
      ∙ cut_pushed f.chord (end_of d s) (end_of after s) (end_of d e) (end_of after e) (strand_exits d i) r.chord (in_place i)
      (end_kept d ok f (bit out) (bit-le out) r s) (end_kept d ok f (bit out) (bit-le out) r e)

-- the chords before the pushed one in the drawing's order, and those after it
pub record Listed (d : Drawing) (f : Finger) : Type 0 where
  pub before : List Chord
  pub behind : List Chord
  pub old : chords d ≡ before ++ (chord_at d f.strand f.chord ∷ behind)
  pub new : (out : Bool) → chords (with_letters d f (bit out)) ≡ pushed_in (entered d f) (entered_beyond d f) out before (chord_at d f.strand f.chord) behind

-- the chords after a finger, as they are listed
pub listed : (d : Drawing) → IsEmbedded d → (f : Finger) → InRange d f → Listed d f
listed d ok f r = record {
  before = left ++ take f.chord cs;
  behind = drop (suc f.chord) cs ++ right;
  old = whole (strand_chords d)
      ∙ (ap (λ w. left ++ (w ++ right)) (apart_at cs f.chord in_list)
      ∙ simp append_assoc refl);
  new = λ out. whole (strand_chords (with_letters d f (bit out)))
      ∙ (ap (λ w. w ++ (strand_chords (with_letters d f (bit out)) i ++ flat_map (strand_chords (with_letters d f (bit out))) after_i)) (lefts out)
      ∙ (ap (λ w. map (carry t u) left ++ (strand_chords (with_letters d f (bit out)) i ++ w)) (rights out)
      ∙ (ap (λ w. map (carry t u) left ++ (w ++ map (carry t u) right)) (chords_own d ok f out r)
      ∙ (let p = map-append (carry t u) left (take f.chord cs) in let q = map-append (carry t u) (drop (suc f.chord) cs) right in
      rw (p, q) (simp append_assoc refl)))));
}
  where
    i : ℕ
    i = f.strand

    t : ℕ
    t = entered d f

    u : ℕ
    u = entered_beyond d f

    n : ℕ
    n = arc_count d.polygon

    cs : List Chord
    cs = strand_chords d i

    after_i : List ℕ
    after_i = range_with_len (0 + i + 1) (n - suc i)

    left : List Chord
    left = flat_map (strand_chords d) (below i)

    right : List Chord
    right = flat_map (strand_chords d) after_i

    in_list : f.chord < length cs
    in_list = let e = length_cut d (end_of d (second_side d.polygon i)) (end_of d (first_side d.polygon i)) (strand_exits d i) in omega (arith, e, r.chord)

    parts : below n ≡ below i ++ (i ∷ after_i)
    parts = let e : n ≡ i + suc (n - suc i) = omega (arith, r.strand) in
        ap below e ∙ (range_split 0 i (n - suc i) ∙ (let z : 0 + i ≡ i = omega arith in ap (λ w. below i ++ (w ∷ after_i)) z))

    whole : (g : ℕ → List Chord) → flat_map g (below n) ≡ flat_map g (below i) ++ (g i ++ flat_map g after_i)
    whole g = ap (flat_map g) parts ∙ flat_map-append g (below i) (i ∷ after_i)

    lefts : (out : Bool) → flat_map (strand_chords (with_letters d f (bit out))) (below i) ≡ map (carry t u) left
    lefts out = flat_same (strand_chords (with_letters d f (bit out))) (λ j. map (carry t u) (strand_chords d j)) (below i)
        (λ j m. let l = mem_below i j m in chords_other d ok f out r j (omega (arith, l, r.strand)) (λ q. omega (arith, l, q)))
        ∙ sym (map_flat (carry t u) (strand_chords d) (below i))

    rights : (out : Bool) → flat_map (strand_chords (with_letters d f (bit out))) after_i ≡ map (carry t u) right
    rights out = flat_same (strand_chords (with_letters d f (bit out))) (λ j. map (carry t u) (strand_chords d j)) after_i
        (λ j m. let l = mem_range (0 + i + 1) (n - suc i) j m in chords_other d ok f out r j (omega (arith, l, r.strand)) (λ q. omega (arith, l, q)))
        ∙ sym (map_flat (carry t u) (strand_chords d) after_i)
