-- Where a chord begins and ends, and the test of a strand's chords one by one.
use Rattle.std.proofs.Common.{◌≡◌, ℕ, zero, suc, ◌+◌, ◌-◌, ◌<◌, ◌≤◌, Bool, true, false, eqb, not, ◌&&◌, ◌||◌, List, [], ◌∷◌, drop, get_or, length, take, refl, sym, subst, ◌∙◌, ap, ap₂, arith}
use mathlib.Core.Bool.{beq}
use Rattle.std.specs.List.{flat_map, list_any}
use Rattle.std.proofs.lemmas.List.{take-append-drop, take_all}
use Rattle.std.proofs.lemmas.List.Folds.{list_any-append, list_any_more}
use Rattle.obd_base.specs.declared.points.Exit.{Exit}
use Rattle.obd_base.specs.Lists.{below}
use Rattle.obd_base.proofs.lists.Below.{below_mem, below_push}
use Rattle.page_surface.specs.Drawing.{Chord, Drawing, IsPlaced, cut_strand, differ, end_of, entry, points_on, spot, strand_chords, strand_exits}
use Rattle.page_surface.specs.Polygon.{first_side, second_side, sides}
use Rattle.drawing.specs.Fingers.{chord_at}
use Rattle.drawing.specs.Pieces.{between, parts_from}
use Rattle.drawing.proofs.Bordering.{separates_told}
use Rattle.drawing.proofs.fingers.NewChords.{length_cut}
use Rattle.drawing.proofs.Lists.{mem_flat}
use Rattle.drawing.proofs.StrandTables.{any_found, any_of, exit_there}
use Rattle.drawing.proofs.SweepTables.{flat_push}

-- two tests that aren't one differ
pub unlike : (a b : Bool) → not (beq a b) ≡ differ a b
unlike true true = refl
unlike true false = refl
unlike false true = refl
unlike false false = refl

-- what some of the first pass, some of all pass
any_taken : (p : Chord → Bool) (cs : List Chord) (n : ℕ) → list_any p (take n cs) ≡ true → list_any p cs ≡ true
any_taken p cs n h =
    let all = ap (list_any p) (take-append-drop n cs) ∙ refl in
    sym all ∙ (list_any-append p (take n cs) (drop n cs) ∙ rw h refl)

-- the first chord of a strand begins where the strand does
first_begins : (d : Drawing) (a z : Exit) (exits : List Exit) (k : Chord) → (get_or (cut_strand d a exits z) 0 k).from ≡ spot d a
first_begins d a z [] k = refl
first_begins d a z (e ∷ exits) k = refl

-- a later one at the entry after the exit before it
later_begins : (d : Drawing) (a z : Exit) (exits : List Exit) (n : ℕ) (e : Exit) (k : Chord) → n < length exits → e ≡ get_or exits n e
    → (get_or (cut_strand d a exits z) (suc n) k).from ≡ spot d (entry d e)
later_begins d a z [] n e k l is = absurd (omega (arith, l))
later_begins d a z (x ∷ exits) zero e k l is = first_begins d (entry d x) z exits k ∙ ap (λ y. spot d (entry d y)) (sym is)
later_begins d a z (x ∷ exits) (suc n) e k l is = later_begins d (entry d x) z exits n e k (omega (arith, l)) is

-- chord 0 begins at the end of the second side of the strand's arc
pub begins_first : (d : Drawing) (i c second : ℕ) (from : Exit) → c ≡ 0 → second ≡ second_side d.polygon i → from ≡ end_of d second → spot d from ≡ (chord_at d i c).from
begins_first d i c second from z s is =
    rw (z, is, s) (sym (first_begins d (end_of d (second_side d.polygon i)) (end_of d (first_side d.polygon i)) (strand_exits d i) (record { from = 0; to = 0 })))

-- exit c - 1 is there, and where it stands
pub exit_before : (d : Drawing) → IsPlaced d → (i c : ℕ) (e : Exit) (exits : List Exit) → (c ≡ 0 → ⊥) → c ≤ length (strand_exits d i) → exits ≡ strand_exits d i
    → e ≡ get_or exits (c - 1) e → (e.side < sides d.polygon) × (e.place < points_on d e.side)
exit_before d ok i c e exits some l es is =
    let fits : c - 1 < length exits = rw es (omega (arith, l, some)) in
    exit_there d ok i (c - 1) e exits es fits is

-- chord c after that at the entry of exit c - 1
pub begins_later : (d : Drawing) (i c : ℕ) (e from : Exit) (exits : List Exit) → (c ≡ 0 → ⊥) → c ≤ length (strand_exits d i) → exits ≡ strand_exits d i
    → e ≡ get_or exits (c - 1) e → from ≡ entry d e → spot d from ≡ (chord_at d i c).from
begins_later d i c e from exits some l es is enters =
    let k : Chord = record { from = 0; to = 0 } in
    let s : c ≡ suc (c - 1) = omega (arith, some) in
    let a = end_of d (second_side d.polygon i) in
    let z = end_of d (first_side d.polygon i) in
    let begins = later_begins d a z (strand_exits d i) (c - 1) e k (omega (arith, l, some)) (subst (λ (xs : List Exit). e ≡ get_or xs (c - 1) e) es is) in
    ap (spot d) enters ∙ (sym begins ∙ ap (λ n. (get_or (cut_strand d a (strand_exits d i) z) n k).from) (sym s))

-- and chord c + 1 at the entry of exit c
pub begins_next : (d : Drawing) (i c : ℕ) (e : Exit) (exits : List Exit) → c < length exits → exits ≡ strand_exits d i → e ≡ get_or exits c e
    → spot d (entry d e) ≡ (chord_at d i (c + 1)).from
begins_next d i c e exits l es is =
    let k : Chord = record { from = 0; to = 0 } in
    let a = end_of d (second_side d.polygon i) in
    let z = end_of d (first_side d.polygon i) in
    let more : suc c ≡ c + 1 = omega arith in
    let begins = later_begins d a z (strand_exits d i) c e k (omega (arith, l, ap length es)) (subst (λ (xs : List Exit). e ≡ get_or xs c e) es is) in
    sym begins ∙ ap (λ n. (get_or (cut_strand d a (strand_exits d i) z) n k).from) more

-- a chord before the last ends at its exit
ends_there : (d : Drawing) (a z : Exit) (exits : List Exit) (n : ℕ) (e : Exit) (k : Chord) → n < length exits → e ≡ get_or exits n e
    → (get_or (cut_strand d a exits z) n k).to ≡ spot d e
ends_there d a z [] n e k l is = absurd (omega (arith, l))
ends_there d a z (x ∷ exits) zero e k l is = ap (spot d) (sym is)
ends_there d a z (x ∷ exits) (suc n) e k l is = ends_there d (entry d x) z exits n e k (omega (arith, l)) is

-- the last at the strand's end
ends_last : (d : Drawing) (a z : Exit) (exits : List Exit) (n : ℕ) (k : Chord) → n ≡ length exits → (get_or (cut_strand d a exits z) n k).to ≡ spot d z
ends_last d a z [] zero k e = refl
ends_last d a z [] (suc n) k e = absurd (omega (arith, e))
ends_last d a z (x ∷ exits) zero k e = absurd (omega (arith, e))
ends_last d a z (x ∷ exits) (suc n) k e = ends_last d (entry d x) z exits n k (omega (arith, e))

-- chord c ends at exit c
pub ends_exit : (d : Drawing) (i c : ℕ) (e : Exit) (exits : List Exit) → c < length exits → exits ≡ strand_exits d i → e ≡ get_or exits c e → spot d e ≡ (chord_at d i c).to
ends_exit d i c e exits l es is =
    sym (ends_there d (end_of d (second_side d.polygon i)) (end_of d (first_side d.polygon i)) (strand_exits d i) c e (record { from = 0; to = 0 }) (omega (arith, l, ap length es))
    (subst (λ (xs : List Exit). e ≡ get_or xs c e) es is))

-- and the last one where the strand does
pub ends_strand : (d : Drawing) (i c first : ℕ) (exits : List Exit) (to : Exit) → c ≡ length exits → exits ≡ strand_exits d i → first ≡ first_side d.polygon i → to ≡ end_of d first
    → spot d to ≡ (chord_at d i c).to
ends_strand d i c first exits to n es f is =
    rw (is, f) (sym (ends_last d (end_of d (second_side d.polygon i)) (end_of d (first_side d.polygon i)) (strand_exits d i) c (record { from = 0; to = 0 }) (n ∙ ap length es)))

-- a strand has one chord more than exits
pub chords_long : (d : Drawing) (i : ℕ) → length (strand_chords d i) ≡ suc (length (strand_exits d i))
chords_long d i = length_cut d (end_of d (second_side d.polygon i)) (end_of d (first_side d.polygon i)) (strand_exits d i)

module _ (d : Drawing) (i n : ℕ) (s t : ℕ) (there : n ≤ length (strand_exits d i)) (inside outside : Bool)
    (from : inside ≡ between s t (chord_at d i n).from) (to : outside ≡ between s t (chord_at d i n).to) (none : list_any (parts_from s t) (take n (strand_chords d i)) ≡ false) where
  -- whether the chord begins elsewhere
  abbrev elsewhere : Bool
  elsewhere = not (eqb (chord_at d i n).from s)

  -- the test of a chord by its two ends
  parts_told : parts_from s t (chord_at d i n) ≡ (not (beq inside outside) && elsewhere)
  parts_told = ap (λ b. b && elsewhere) (separates_told (chord_at d i n) s t ∙ (ap₂ differ (sym from) (sym to) ∙ sym (unlike inside outside)))

  -- one chord more is tried
  one_more : list_any (parts_from s t) (take (n + 1) (strand_chords d i)) ≡ (not (beq inside outside) && elsewhere)
  one_more =
      list_any_more (parts_from s t) (strand_chords d i) n (record { from = 0; to = 0 }) (omega (arith, there, chords_long d i))
      ∙ ap₂ (λ p q. p || q) none parts_told

  -- it separates the spans and begins elsewhere,
  pub found_here : (b : Bool) → not (beq inside outside) ≡ true → b ≡ elsewhere → b ≡ true → true ≡ list_any (parts_from s t) (strand_chords d i)
  found_here b h e k =
      let both : (not (beq inside outside) && elsewhere) ≡ true = rw (h, ← e) k in
      sym (any_taken (parts_from s t) (strand_chords d i) (n + 1) (one_more ∙ both))

  -- it separates them, and doesn't begin elsewhere,
  pub found_own : (b : Bool) → not (beq inside outside) ≡ true → b ≡ elsewhere → b ≡ false → list_any (parts_from s t) (take (n + 1) (strand_chords d i)) ≡ false
  found_own b h e k = let both : (not (beq inside outside) && elsewhere) ≡ false = rw (h, ← e) k in one_more ∙ both

  -- or it doesn't separate them
  pub found_none : not (beq inside outside) ≡ false → list_any (parts_from s t) (take (n + 1) (strand_chords d i)) ≡ false
  found_none h = let both : (not (beq inside outside) && elsewhere) ≡ false = rw h refl in one_more ∙ both

  module _ (last : n ≡ length (strand_exits d i)) where
    -- the last one decides
    all_tried : (not (beq inside outside) && elsewhere) ≡ list_any (parts_from s t) (strand_chords d i)
    all_tried = sym one_more ∙ ap (list_any (parts_from s t)) (take_all (n + 1) (strand_chords d i) (omega (arith, last, chords_long d i)))

    pub last_here : (b : Bool) → not (beq inside outside) ≡ true → b ≡ elsewhere → b ≡ list_any (parts_from s t) (strand_chords d i)
    last_here b h e = let both : (not (beq inside outside) && elsewhere) ≡ elsewhere = rw h refl in e ∙ (sym both ∙ all_tried)

    pub last_none : not (beq inside outside) ≡ false → not (beq inside outside) ≡ list_any (parts_from s t) (strand_chords d i)
    last_none h = let both : (not (beq inside outside) && elsewhere) ≡ false = rw h refl in h ∙ (sym both ∙ all_tried)

-- the chords of one strand more, of which none passes
pub strands_fail : (p : Chord → Bool) (d : Drawing) (n i : ℕ) (passed : Bool) → i ≡ n → passed ≡ list_any p (strand_chords d i) → passed ≡ false
    → list_any p (flat_map (strand_chords d) (below n)) ≡ false → list_any p (flat_map (strand_chords d) (below (n + 1))) ≡ false
strands_fail p d n i passed same test h so_far =
    let e : suc n ≡ n + 1 = omega arith in
    let fail : list_any p (strand_chords d n) ≡ false = ap (λ k. list_any p (strand_chords d k)) (sym same) ∙ (sym test ∙ h) in
    let grown = ap (flat_map (strand_chords d)) (below_push n) ∙ flat_push (strand_chords d) (below n) n in
    ap (λ k. list_any p (flat_map (strand_chords d) (below k))) (sym e)
    ∙ (ap (list_any p) grown ∙ (list_any-append p (flat_map (strand_chords d) (below n)) (strand_chords d n) ∙ rw (so_far, fail) refl))

-- a chord of a strand that passes is one of all
pub strand_passes : (p : Chord → Bool) (d : Drawing) (n i : ℕ) (passed : Bool) → i < n → passed ≡ list_any p (strand_chords d i) → passed ≡ true
    → list_any p (flat_map (strand_chords d) (below n)) ≡ true
strand_passes p d n i passed l test h =
    let (c, m, q) = any_found p (strand_chords d i) (sym test ∙ h) in
    any_of p c (flat_map (strand_chords d) (below n)) (mem_flat (strand_chords d) (below n) i c (below_mem n i l) m) q
