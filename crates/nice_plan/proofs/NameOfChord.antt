-- A chord has one name: that by which the definition of a burst finds it.
use Rattle.std.proofs.Common.{◌≡◌, ℕ, zero, suc, ◌+◌, ◌<◌, ◌≤◌, List, [], ◌∷◌, map, length, get_or, refl, sym, ◌∙◌, ap, subst, arith, zero-add, ◌⊎◌, inl, inr}
use Rattle.std.specs.List.{enumerate_from}
use Rattle.obd_base.specs.Lists.{Mem, Once, below}
use Rattle.obd_base.proofs.lists.Below.{below_mem}
use Rattle.obd_base.proofs.lists.Maps.{flat_same, map_flat}
use Rattle.obd_base.proofs.lists.Members.{mem_flat, mem_to_map}
use Rattle.page_surface.specs.Drawing.{Chord, Drawing, IsEmbedded, chords, end_of, strand_chords, strand_exits}
use Rattle.page_surface.specs.Polygon.{arc_count, first_side, second_side}
use Rattle.drawing.specs.Fingers.{chord_at}
use Rattle.drawing.proofs.fingers.NewChords.{length_cut, no_chord}
use Rattle.drawing.proofs.fingers.NewEmbedded.{arranged}
use Rattle.nice_plan.specs.declared.chord_name.ChordName.{ChordName}
use Rattle.nice_plan.specs.Burst.{Named, chord_ending, named_chords}
use Rattle.nice_plan.proofs.ChordNames.{entry_named, found, same_end}
use Rattle.nice_plan.proofs.falling.Reordered.{chords_once}

-- a chord of a list with its number
enum_at : (a : ℕ) (xs : List Chord) (k : ℕ) → k < length xs → Mem (a + k, get_or xs k no_chord) (enumerate_from a xs)
enum_at a [] k l = absurd (let w : ⊥ = omega (arith, l) in w)
enum_at a (x ∷ xs) zero l = inl (let e : a + zero ≡ a = omega arith in ap (λ w. (w, x)) e)
enum_at a (x ∷ xs) (suc k) l = inr (let e : a + 1 + k ≡ a + suc k = omega arith in subst (λ w. Mem (w, get_or xs k no_chord) (enumerate_from (a + 1) xs)) e (enum_at (a + 1) xs k (omega (arith, l))))

-- numbers left off again
enum_ends : (g : ℕ → ChordName) (a : ℕ) (xs : List Chord) → map (λ (e : Named). e.ends) (map (λ (e : ℕ × Chord). record { name = g e.0; ends = e.1 }) (enumerate_from a xs)) ≡ xs
enum_ends g a [] = refl
enum_ends g a (x ∷ xs) = ap (λ w. x ∷ w) (enum_ends g (a + 1) xs)

-- entries with different ends are told apart by them
one_entry : (es : List Named) (e f : Named) → Once (map (λ (x : Named). x.ends) es) → Mem e es → Mem f es → e.ends ≡ f.ends → e ≡ f
one_entry [] e f o m n q = absurd m
one_entry (x ∷ es) e f o (inl p) (inl r) q = p ∙ sym r
one_entry (x ∷ es) e f o (inl p) (inr n) q = absurd (o.0 (subst (λ w. Mem w (map (λ (x : Named). x.ends) es)) (sym q ∙ ap (λ (w : Named). w.ends) p) (mem_to_map (λ (x : Named). x.ends) f es n)))
one_entry (x ∷ es) e f o (inr m) (inl r) q = absurd (o.0 (subst (λ w. Mem w (map (λ (x : Named). x.ends) es)) (q ∙ ap (λ (w : Named). w.ends) r) (mem_to_map (λ (x : Named). x.ends) e es m)))
one_entry (x ∷ es) e f o (inr m) (inr n) q = one_entry es e f o.1 m n q

module _ (d : Drawing) (ok : IsEmbedded d) where
  -- the entries of a strand
  abbrev row : ℕ → List Named
  row i = map (λ (e : ℕ × Chord). record { name = record { strand = i; chord = e.0 }; ends = e.1 }) (enumerate_from 0 (strand_chords d i))

  -- the entries' chords are the drawing's
  all_ends : map (λ (e : Named). e.ends) (named_chords d) ≡ chords d
  all_ends =
      map_flat (λ (e : Named). e.ends) row (below (arc_count d.polygon))
      ∙ flat_same (λ i. map (λ (e : Named). e.ends) (row i)) (strand_chords d) (below (arc_count d.polygon)) (λ i m. enum_ends (λ c. record { strand = i; chord = c }) 0 (strand_chords d i))

  -- each chord's name is an entry
  entry_there : (i n : ℕ) → i < arc_count d.polygon → n ≤ length (strand_exits d i)
      → Mem (record { name = record { strand = i; chord = n }; ends = chord_at d i n }) (named_chords d)
  entry_there i n l h =
      let len = length_cut d (end_of d (second_side d.polygon i)) (end_of d (first_side d.polygon i)) (strand_exits d i) in
      let here = enum_at 0 (strand_chords d i) n (omega (arith, h, len)) in
      mem_flat row (below (arc_count d.polygon)) i _ (below_mem (arc_count d.polygon) i l)
      (mem_to_map (λ (e : ℕ × Chord). record { name = record { strand = i; chord = e.0 }; ends = e.1 }) (n, chord_at d i n) (enumerate_from 0 (strand_chords d i))
      (subst (λ w. Mem (w, chord_at d i n) (enumerate_from 0 (strand_chords d i))) (zero-add n) here))

  -- so a chord that ends at a number is found by its own name
  pub name_found : (i n x : ℕ) → i < arc_count d.polygon → n ≤ length (strand_exits d i) → ((chord_at d i n).from ≡ x) ⊎ ((chord_at d i n).to ≡ x)
      → chord_ending (named_chords d) x ≡ record { strand = i; chord = n }
  name_found i n x l h e =
      let own : Named = record { name = record { strand = i; chord = n }; ends = chord_at d i n } in
      let m = entry_there i n l h in
      let (f, j, at, r) = found (named_chords d) x own m e in
      let own_is = entry_named d ok own m in
      let f_is = entry_named d ok f j in
      let same : f.ends ≡ chord_at d i n = same_end d ok (chord_at d i n) f.ends x own_is.1 f_is.1 e at in
      let once = subst (λ w. Once w) (sym all_ends) (chords_once (chords d) (arranged d ok)) in
      r ∙ ap (λ (w : Named). w.name) (one_entry (named_chords d) f own once j m same)
