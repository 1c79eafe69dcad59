-- Words at the beginning of a text.
use Rattle.std.proofs.Common.{◌≡◌, ◌≢◌, ℕ, false, true, nat_eq, List, [], ◌∷◌, ◌++◌, take, drop, length, sym, ◌∙◌, ap, append_assoc, arith, ◌<◌, ◌^◌}
use Rattle.std.specs.Prelude.{codes, decimal}
use Rattle.std.specs.Cmp.Lexicographic.{pointwise, other_text, same_text}
use Rattle.std.proofs.Math.Seq.{take-append_seam}
use Rattle.std.proofs.lemmas.List.{append_cancel_left, take-append-drop}
use Rattle.drawing.specs.declared.finger.Finger.{Finger}
use Rattle.move_log.specs.Text.{FingerFits, finger_line, spaced}
use Rattle.move_log.proofs.Numbers.{same_number}

-- the word that a test found, and what follows it
pub word_found : (text word rest : List ℕ) → pointwise nat_eq (take (length word) text) word ≡ true → rest ≡ drop (length word) text → text ≡ word ++ rest
word_found text word rest same is = let e : take (length word) text ≡ word = same_text _ _ (sym same) in sym (take-append-drop (length word) text) ∙ (λ i. e i ++ sym is i)

-- and where it found none
pub no_word : (text word rest : List ℕ) → pointwise nat_eq (take (length word) text) word ≡ false → text ≢ word ++ rest
no_word text word rest other is = other_text _ _ (sym other) (ap (take (length word)) is ∙ take-append_seam word rest)

-- the first of some words, with what follows them
first_word : (word : List ℕ) (words : List (List ℕ)) (rest : List ℕ) → spaced (word ∷ words) ++ rest ≡ 32 ∷ (word ++ (spaced words ++ rest))
first_word word words rest = append_assoc (32 ∷ word) (spaced words) rest

-- a finger's segment with what follows the line
abbrev pub segment_on : Finger → List ℕ → List ℕ
segment_on f rest = decimal f.segment ++ 10 ∷ rest

-- the side with all that follows
abbrev pub side_on : Finger → List ℕ → List ℕ
side_on f rest = decimal f.side ++ 32 ∷ segment_on f rest

-- the chord with all that follows
abbrev pub chord_on : Finger → List ℕ → List ℕ
chord_on f rest = decimal f.chord ++ 32 ∷ side_on f rest

-- the strand with all that follows
abbrev pub strand_on : Finger → List ℕ → List ℕ
strand_on f rest = decimal f.strand ++ 32 ∷ chord_on f rest

-- a finger's line, word by word
pub finger_words : (f : Finger) (rest : List ℕ) → finger_line f ++ rest ≡ codes "finger " ++ strand_on f rest
unfolding finger_line
finger_words f rest =
    let a = decimal f.strand in
    let b = decimal f.chord in
    let c = decimal f.side in
    let d = decimal f.segment in
    let words = spaced (a ∷ b ∷ c ∷ d ∷ []) in
    ap (λ zs. codes "finger" ++ zs)
    (append_assoc words (10 ∷ []) rest ∙ (first_word a (b ∷ c ∷ d ∷ []) (10 ∷ rest)
    ∙ ap (λ zs. 32 ∷ (a ++ zs)) (first_word b (c ∷ d ∷ []) (10 ∷ rest)
    ∙ ap (λ zs. 32 ∷ (b ++ zs)) (first_word c (d ∷ []) (10 ∷ rest)
    ∙ ap (λ zs. 32 ∷ (c ++ zs)) (first_word d [] (10 ∷ rest))))))

-- what is read of a finger's line behind its kind, its strand, its chord and its side
behind_kind : (f : Finger) (text words rest : List ℕ) → text ≡ codes "finger " ++ words → text ≡ finger_line f ++ rest → words ≡ strand_on f rest
behind_kind f text words rest read is = append_cancel_left (codes "finger ") words (strand_on f rest) (sym read ∙ is ∙ finger_words f rest)

-- what follows a number that is read is what follows the finger's
behind : (end m n : ℕ) (words r s : List ℕ) → end < 48 → m < 2 ^ 32 → n < 2 ^ 32 → words ≡ decimal m ++ end ∷ r → words ≡ decimal n ++ end ∷ s → r ≡ s
behind end m n words r s low fits fits_too read is = (same_number end m n r s low fits fits_too (sym read ∙ is)).1

-- no number there, where a finger's line has one
abbrev pub NoNumber : ℕ → List ℕ → Type 0
NoNumber end words = (n : ℕ) (rest : List ℕ) → n < 2 ^ 32 → words ≢ decimal n ++ end ∷ rest

-- a text is no finger's line and more
abbrev pub NoFinger : List ℕ → Type 0
NoFinger text = (f : Finger) (rest : List ℕ) → FingerFits f → text ≢ finger_line f ++ rest

-- where its kind isn't there
pub no_kind : (text : List ℕ) → ((rest : List ℕ) → text ≢ codes "finger " ++ rest) → NoFinger text
no_kind text none f rest fits is = none (strand_on f rest) (is ∙ finger_words f rest)

module _ (text w0 : List ℕ) (kind : text ≡ codes "finger " ++ w0) where
  -- where a strand isn't there
  pub no_strand : NoNumber 32 w0 → NoFinger text
  no_strand none f rest fits is = none f.strand (chord_on f rest) fits.strand (behind_kind f text w0 rest kind is)

  module _ (strand : ℕ) (w1 : List ℕ) (strand_fits : strand < 2 ^ 32) (first : w0 ≡ decimal strand ++ 32 ∷ w1) where
    -- a strand was read: what follows it
    behind_strand : (f : Finger) (rest : List ℕ) → FingerFits f → text ≡ finger_line f ++ rest → w1 ≡ chord_on f rest
    behind_strand f rest fits is = behind 32 strand f.strand w0 w1 (chord_on f rest) (omega arith) strand_fits fits.strand first (behind_kind f text w0 rest kind is)

    -- where a chord isn't there
    pub no_chord : NoNumber 32 w1 → NoFinger text
    no_chord none f rest fits is = none f.chord (side_on f rest) fits.chord (behind_strand f rest fits is)

    module _ (chord : ℕ) (w2 : List ℕ) (chord_fits : chord < 2 ^ 32) (second : w1 ≡ decimal chord ++ 32 ∷ w2) where
      -- a chord was read: what follows it
      behind_chord : (f : Finger) (rest : List ℕ) → FingerFits f → text ≡ finger_line f ++ rest → w2 ≡ side_on f rest
      behind_chord f rest fits is = behind 32 chord f.chord w1 w2 (side_on f rest) (omega arith) chord_fits fits.chord second (behind_strand f rest fits is)

      -- where a side isn't there
      pub no_side : NoNumber 32 w2 → NoFinger text
      no_side none f rest fits is = none f.side (segment_on f rest) fits.side (behind_chord f rest fits is)

      module _ (side : ℕ) (w3 : List ℕ) (side_fits : side < 2 ^ 32) (third : w2 ≡ decimal side ++ 32 ∷ w3) where
        -- where a side was read, and no segment is there
        pub no_segment : NoNumber 10 w3 → NoFinger text
        no_segment none f rest fits is =
            none f.segment rest fits.segment (behind 32 side f.side w2 w3 (segment_on f rest) (omega arith) side_fits fits.side third (behind_chord f rest fits is))
