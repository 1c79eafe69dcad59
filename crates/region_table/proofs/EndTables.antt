-- The chords that end at each number, as code notes them one by one.
use Rattle.std.proofs.Common.{◌≡◌, ℕ, ◌<◌, List, [], length, get_or, set, sym, ◌∙◌, ap, subst, arith, inl, inr}
use Rattle.std.proofs.lemmas.Bool.{cases_eq}
use Rattle.std.proofs.lemmas.List.{get_or-set_other, get_or-set_same, length-set}
use Rattle.region_table.specs.Ends.{ChordNo, IsEnd, IsNoted, begin_in, end_at}

module _ (begins : List (List ℕ)) (mates : List ℕ) where
  -- a right entry that is written is right,
  pub now_right : (ends : List ChordNo) (y : ℕ) (v : ChordNo) → y < length ends → IsEnd begins mates y v → IsEnd begins mates y (end_at (set ends y v) y)
  now_right ends y v l right = subst (IsEnd begins mates y) (sym (get_or-set_same ends y v (record { strand = 0; chord = 0 }) l)) right

  -- and leaves the others right
  pub still_right : (ends : List ChordNo) (y : ℕ) (v : ChordNo) → y < length ends → IsEnd begins mates y v → (x : ℕ) → IsEnd begins mates x (end_at ends x)
      → IsEnd begins mates x (end_at (set ends y v) x)
  still_right ends y v l right x old = elim (cases_eq x y) [
    | inl e ↦ subst (λ z. IsEnd begins mates z (end_at (set ends y v) z)) (sym e) (now_right ends y v l right)
    | inr n ↦ subst (IsEnd begins mates x) (sym (get_or-set_other ends y x v (record { strand = 0; chord = 0 }) n)) old
  ]

  -- both ends of a chord are written
  module _ (ends : List ChordNo) (i c from : ℕ) (name : ChordNo) (li : i < length begins) (lc : c < length (get_or begins i [])) (is : from ≡ begin_in begins i c)
      (strand : name.strand ≡ i) (chord : name.chord ≡ c) (lf : from < length ends) (lt : get_or mates from 0 < length ends) where
    -- the chord begins there
    begins_there : begin_in begins name.strand name.chord ≡ from
    begins_there = ap (λ k. begin_in begins k name.chord) strand ∙ (ap (begin_in begins i) chord ∙ sym is)

    of_strand : name.chord < length (get_or begins name.strand [])
    of_strand = subst (λ k. name.chord < length (get_or begins k [])) (sym strand) (omega (arith, chord, lc))

    at_from : IsEnd begins mates from name
    at_from = record { strand_in = omega (arith, strand, li); chord_in = of_strand; ends_there = inl begins_there }

    at_to : IsEnd begins mates (get_or mates from 0) name
    at_to = record { strand_in = omega (arith, strand, li); chord_in = of_strand; ends_there = inr (ap (λ x. get_or mates x 0) begins_there) }

    -- the table then
    abbrev after : List ChordNo
    after = set (set ends from name) (get_or mates from 0) name

    pub as_long : length after ≡ length ends
    as_long = length-set (set ends from name) (get_or mates from 0) name ∙ length-set ends from name

    -- what was right stays right
    pub right_kept : (x : ℕ) → IsEnd begins mates x (end_at ends x) → IsEnd begins mates x (end_at after x)
    right_kept x old = still_right (set ends from name) (get_or mates from 0) name (omega (arith, lt, length-set ends from name)) at_to x (still_right ends from name lf at_from x old)

    -- and the chord is noted
    pub chord_noted : IsNoted begins mates after i c
    chord_noted =
        subst (λ x. IsEnd begins mates x (end_at after x) × IsEnd begins mates (get_or mates x 0) (end_at after (get_or mates x 0))) is (
          still_right (set ends from name) (get_or mates from 0) name (omega (arith, lt, length-set ends from name)) at_to from (now_right ends from name lf at_from),
          now_right (set ends from name) (get_or mates from 0) name (omega (arith, lt, length-set ends from name)) at_to,
        )

  -- chords that are noted stay so where what is right stays right
  pub noted_kept : (old new : List ChordNo) → ((x : ℕ) → IsEnd begins mates x (end_at old x) → IsEnd begins mates x (end_at new x)) → (i c : ℕ) → IsNoted begins mates old i c → IsNoted begins mates new i c
  noted_kept old new kept i c noted = (kept (begin_in begins i c) noted.0, kept (get_or mates (begin_in begins i c) 0) noted.1)
