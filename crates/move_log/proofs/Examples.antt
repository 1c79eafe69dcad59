-- Worked logs: a text that is read, and one whose second line is wrong.
use Rattle.std.proofs.Common.{◌≡◌, ◌≢◌, ℕ, zero, suc, List, [], ◌∷◌, ◌++◌, codes, length, get_or, refl, ap, ◌∙◌, arith}
use Rattle.std.specs.Prelude.{All}
use Rattle.std.specs.List.{flat_map}
use Rattle.std.specs.Fmt.{digits}
use Rattle.drawing.specs.Fingers.{finger}
use Rattle.drawing.specs.declared.finger.Finger.{Finger}
use Rattle.move_log.specs.declared.log.Log.{Log}
use Rattle.move_log.specs.Text.{HasWrongLine, FingerFits, IsReading, SideFits, ReadAll, finger_line, log_text, slide_line}
use Rattle.move_log.proofs.Entries.{finger_begins, slide_begins}
use Rattle.move_log.proofs.Logs.{is_wrong, reads}

-- some lines, each with its line feed
abbrev text_of_lines : List (List ℕ) → List ℕ
text_of_lines rows = flat_map (λ row. row ++ 10 ∷ []) rows

-- the slide of side 3, and the finger of strand 0 that pushes chord 2 into segment 2 of side 3
abbrev slide_and_finger : Log
slide_and_finger = record { slides = 3 ∷ []; fingers = finger 0 2 3 2 ∷ [] }

-- its text
slide_and_finger_text : log_text slide_and_finger ≡ text_of_lines (codes "slide 3" ∷ codes "finger 0 2 3 2" ∷ [])
unfolding slide_line finger_line digits
slide_and_finger_text = refl

-- a text of two lines, with numbers of more digits
many_digits_text : log_text (record { slides = 4294967295 ∷ 10 ∷ []; fingers = [] }) ≡ text_of_lines (codes "slide 4294967295" ∷ codes "slide 10" ∷ [])
unfolding slide_line digits
many_digits_text = refl

-- a text that begins with another byte than a line
no_slide_here : (text : List ℕ) → get_or text 0 0 ≢ 115 → (side : ℕ) (more : List ℕ) → SideFits side → text ≢ slide_line side ++ more
no_slide_here text other side more fits is = other (ap (λ zs. get_or zs 0 0) is ∙ slide_begins side more)

-- and so for a finger's line
no_finger_here : (text : List ℕ) → get_or text 0 0 ≢ 102 → (f : Finger) (more : List ℕ) → FingerFits f → text ≢ finger_line f ++ more
no_finger_here text other f more fits is = other (ap (λ zs. get_or zs 0 0) is ∙ finger_begins f more)

-- what holds of one holds of the list of it
only_one : {A : Type 0} (Fits : A → Type 0) (x : A) → Fits x → All Fits (x ∷ [])
only_one Fits x fits zero d within = fits
only_one Fits x fits (suc k) d within = absurd (omega arith)

-- the finger's numbers fit
small : FingerFits (finger 0 2 3 2)
small = record { strand = omega arith; chord = omega arith; side = omega arith; segment = omega arith }

-- the log's text is read back
abbrev finger_text : List ℕ
finger_text = text_of_lines (codes "finger 0 2 3 2" ∷ [])

-- its line, where no further finger follows
read_finger : (rest : List ℕ) → get_or rest 0 0 ≢ 102 → ReadAll finger_line FingerFits (finger_text ++ rest) (finger 0 2 3 2 ∷ []) rest
unfolding finger_line digits
read_finger rest other = record { fit = only_one FingerFits (finger 0 2 3 2) small; text_is = refl; last = no_finger_here rest other }

-- the slide's line before it
read_slide : ReadAll slide_line SideFits (text_of_lines (codes "slide 3" ∷ codes "finger 0 2 3 2" ∷ [])) (3 ∷ []) finger_text
unfolding slide_line digits
read_slide = record { fit = only_one SideFits 3 (omega arith); text_is = refl; last = no_slide_here finger_text (λ same. omega (arith, same)) }

-- both lines are the log's
slide_and_finger_is_read : IsReading (text_of_lines (codes "slide 3" ∷ codes "finger 0 2 3 2" ∷ [])) slide_and_finger
slide_and_finger_is_read = reads _ finger_text [] (3 ∷ []) (finger 0 2 3 2 ∷ []) read_slide (read_finger [] (λ same. omega (arith, same))) refl

-- a slide behind a finger is the first wrong line
abbrev finger_then_slide : List ℕ
finger_then_slide = text_of_lines (codes "finger 0 2 3 2" ∷ codes "slide 0" ∷ [])

-- it begins with no slide
no_slides_read : ReadAll slide_line SideFits finger_then_slide [] finger_then_slide
no_slides_read = record { fit = λ k d within. absurd (omega arith); text_is = refl; last = no_slide_here finger_then_slide (λ same. omega (arith, same)) }

-- so the second line is wrong
finger_then_slide_is_wrong : HasWrongLine finger_then_slide 2
finger_then_slide_is_wrong =
    is_wrong finger_then_slide finger_then_slide (text_of_lines (codes "slide 0" ∷ [])) [] (finger 0 2 3 2 ∷ [])
    no_slides_read (read_finger (text_of_lines (codes "slide 0" ∷ [])) (λ same. omega (arith, same))) (λ none. omega (arith, ap length none))
