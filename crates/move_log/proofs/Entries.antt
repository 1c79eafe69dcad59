-- Lines one behind another: what two ways to read them have to do with each other.
use Rattle.std.proofs.Common.{◌≡◌, ◌≢◌, ℕ, List, [], ◌∷◌, ◌++◌, get_or, append_assoc, sym, refl, ap, ◌∙◌, arith}
use Rattle.std.specs.Prelude.{All, codes, decimal}
use Rattle.std.specs.List.{flat_map}
use Rattle.std.proofs.lemmas.List.{append_cancel_left}
use Rattle.std.proofs.lemmas.List.Elements.{All-drop}
use Rattle.drawing.specs.Fingers.{finger}
use Rattle.drawing.specs.declared.finger.Finger.{Finger}
use Rattle.move_log.specs.Text.{FingerFits, SideFits, finger_line, slide_line, spaced}
use Rattle.move_log.proofs.Numbers.{same_number}
use Rattle.move_log.proofs.Words.{chord_on, finger_words, segment_on, side_on, strand_on}

-- the first of some entries fits, and the others do
first_fits : {A : Type 0} (Fits : A → Type 0) (x : A) (xs : List A) → All Fits (x ∷ xs) → Fits x
first_fits Fits x xs fit = fit 0 x (omega arith)

-- and the others do
others_fit : {A : Type 0} (Fits : A → Type 0) (x : A) (xs : List A) → All Fits (x ∷ xs) → All Fits xs
others_fit Fits x xs fit = All-drop Fits 1 (x ∷ xs) fit

-- a line tells its entry and what follows it
abbrev pub Tells : {A : Type 0} → (A → List ℕ) → (A → Type 0) → Type 0
Tells {A} line Fits = (x y : A) (r s : List ℕ) → Fits x → Fits y → line x ++ r ≡ line y ++ s → (x ≡ y) × (r ≡ s)

-- the first of two ways to read goes on as long as there is a line: the other has its first entries, and leaves the lines of the others
pub record Further {A : Type 0} (line : A → List ℕ) (xs ys : List A) (r s : List ℕ) : Type 0 where
  pub more : List A
  pub entries : xs ≡ ys ++ more
  pub left : s ≡ flat_map line more ++ r

module _ {A : Type 0} (line : A → List ℕ) (Fits : A → Type 0) (tells : Tells line Fits) where
  -- two ways to read the same text
  pub reads_further : (xs ys : List A) (r s : List ℕ) → All Fits xs → All Fits ys
      → ((x : A) (more : List ℕ) → Fits x → r ≢ line x ++ more)
      → flat_map line xs ++ r ≡ flat_map line ys ++ s → Further line xs ys r s
  reads_further xs [] r s fit fit_too none is = record { more = xs; entries = refl; left = sym is }
  reads_further [] (y ∷ ys) r s fit fit_too none is =
      absurd (none y (flat_map line ys ++ s) (first_fits Fits y ys fit_too) (is ∙ append_assoc (line y) (flat_map line ys) s))
  reads_further (x ∷ xs) (y ∷ ys) r s fit fit_too none is =
      let told = tells x y (flat_map line xs ++ r) (flat_map line ys ++ s) (first_fits Fits x xs fit) (first_fits Fits y ys fit_too)
      (sym (append_assoc (line x) (flat_map line xs) r) ∙ is ∙ append_assoc (line y) (flat_map line ys) s) in
      let rest = reads_further xs ys r s (others_fit Fits x xs fit) (others_fit Fits y ys fit_too) none told.1 in
      record { more = rest.more; entries = (λ i. told.0 i ∷ rest.entries i); left = rest.left }

-- a slide's line, word by word
slide_words : (side : ℕ) (rest : List ℕ) → slide_line side ++ rest ≡ codes "slide " ++ (decimal side ++ 10 ∷ rest)
unfolding slide_line
slide_words side rest =
    ap (λ zs. codes "slide" ++ zs) (append_assoc (spaced (decimal side ∷ [])) (10 ∷ []) rest ∙ append_assoc (32 ∷ decimal side) [] (10 ∷ rest))

-- a slide's line tells the slide
pub slide_tells : Tells slide_line SideFits
slide_tells x y r s fits fits_too is =
    same_number 10 x y r s (omega arith) fits fits_too
    (append_cancel_left (codes "slide ") (decimal x ++ 10 ∷ r) (decimal y ++ 10 ∷ s) (sym (slide_words x r) ∙ (is ∙ slide_words y s)))

-- a finger's line tells the finger
pub finger_tells : Tells finger_line FingerFits
finger_tells f g r s fits fits_too is =
    let whole = append_cancel_left (codes "finger ") (strand_on f r) (strand_on g s) (sym (finger_words f r) ∙ (is ∙ finger_words g s)) in
    let a = same_number 32 f.strand g.strand (chord_on f r) (chord_on g s) (omega arith) fits.strand fits_too.strand whole in
    let b = same_number 32 f.chord g.chord (side_on f r) (side_on g s) (omega arith) fits.chord fits_too.chord a.1 in
    let c = same_number 32 f.side g.side (segment_on f r) (segment_on g s) (omega arith) fits.side fits_too.side b.1 in
    let d = same_number 10 f.segment g.segment r s (omega arith) fits.segment fits_too.segment c.1 in
    ((λ i. finger (a.0 i) (b.0 i) (c.0 i) (d.0 i)), d.1)

-- the first byte of a slide's line and that of a finger's
pub slide_begins : (side : ℕ) (rest : List ℕ) → get_or (slide_line side ++ rest) 0 0 ≡ 115
unfolding slide_line
slide_begins side rest = refl

-- and of a finger's
pub finger_begins : (f : Finger) (rest : List ℕ) → get_or (finger_line f ++ rest) 0 0 ≡ 102
unfolding finger_line
finger_begins f rest = refl
