-- What was read of a text, and every log whose text it begins with.
use Rattle.std.proofs.Common.{true, false, ◌≡◌, ℕ, ◌+◌, ◌≤◌, List, [], ◌∷◌, ◌++◌, get_or, length, append_assoc, append-nil, sym, refl, ap, subst, ◌∙◌, arith}
use Rattle.std.specs.Prelude.{Result, Ok, Err, IfErr, IsErrAnd}
use Rattle.std.specs.List.{flat_map}
use Rattle.std.proofs.lemmas.List.{length-append}
use Rattle.drawing.specs.declared.finger.Finger.{Finger}
use Rattle.move_log.specs.declared.log.Log.{Log}
use Rattle.move_log.specs.declared.log.LogRefusal.{LogRefusal}
use Rattle.move_log.specs.declared.log.LogRefusal.TheVariants.{NoMemory}
use Rattle.move_log.specs.Text.{IsLogText, Says, HasWrongLine, IsInRange, FingerFits, IsReading, SideFits, ReadAll, finger_line, log_text, slide_line}
use Rattle.move_log.proofs.Entries.{Further, finger_begins, finger_tells, reads_further, slide_begins, slide_tells}

-- no bytes are left where their number is 0
pub nothing_left : (rest : List ℕ) → length rest ≡ 0 → rest ≡ []
nothing_left [] none = refl
nothing_left (x ∷ xs) none = absurd (omega arith)

-- want of memory says nothing of the text
pub says_nothing : {T : Type 0} (text : List ℕ) (r : Result T LogRefusal) → IsErrAnd r (λ e. e ≡ NoMemory) → IfErr r (Says text)
says_nothing text (Ok x) none = tt
says_nothing text (Err e) none = subst (Says text) (sym none) tt

-- a text that was read is a log's
pub accepted : {text : List ℕ} {log : Log} → IsReading text log → (true ≡ true → IsLogText text) × (IsLogText text → true ≡ true)
accepted {text} {log} read = ((λ yes. record { log = log; in_range = read.in_range; text_is = read.text_is }), (λ is. refl))

-- a text with a wrong line is none
pub denied : {text : List ℕ} {line : ℕ} → HasWrongLine text line → (false ≡ true → IsLogText text) × (IsLogText text → false ≡ true)
denied wrong = ((λ no. absurd (let bad = no in cc)), (λ is. absurd (wrong.wrong is)))

-- before a slide's line there is no finger's
no_finger_before : (fingers : List Finger) (side : ℕ) (sides s words : List ℕ) → flat_map finger_line fingers ++ s ≡ flat_map slide_line (side ∷ sides) ++ words → fingers ≡ []
no_finger_before [] side sides s words is = refl
no_finger_before (f ∷ fs) side sides s words is =
    let first = sym (append_assoc (finger_line f) (flat_map finger_line fs) s) ∙ (is ∙ append_assoc (slide_line side) (flat_map slide_line sides) words) in
    absurd (omega (arith, sym (finger_begins f (flat_map finger_line fs ++ s)) ∙ (ap (λ zs. get_or zs 0 0) first ∙ slide_begins side (flat_map slide_line sides ++ words))))

-- where nothing is there, there is no line of a slide
no_slides : (sides : List ℕ) (words : List ℕ) → [] ≡ flat_map slide_line sides ++ words → sides ≡ []
no_slides [] words is = refl
no_slides (x ∷ xs) words is =
    absurd (omega (arith, ap (λ zs. get_or zs 0 0) (is ∙ append_assoc (slide_line x) (flat_map slide_line xs) words) ∙ slide_begins x (flat_map slide_line xs ++ words)))

-- and none of a finger
no_fingers : (fingers : List Finger) (rest : List ℕ) → [] ≡ flat_map finger_line fingers ++ rest → fingers ≡ []
no_fingers [] rest is = refl
no_fingers (f ∷ fs) rest is =
    absurd (omega (arith, ap (λ zs. get_or zs 0 0) (is ∙ append_assoc (finger_line f) (flat_map finger_line fs) rest) ∙ finger_begins f (flat_map finger_line fs ++ rest)))

-- a log has these slides and fingers, and nothing is left
record IsWhole (log : Log) (slides : List ℕ) (fingers : List Finger) (rest : List ℕ) : Type 0 where
  slides_are : slides ≡ log.slides
  fingers_are : fingers ≡ log.fingers
  nothing : [] ≡ rest

module _ (text words rest slides : List ℕ) (fingers : List Finger) (first : ReadAll slide_line SideFits text slides words) (second : ReadAll finger_line FingerFits words fingers rest) where
  -- what was read, as a log
  abbrev pub read_log : Log
  read_log = record { slides = slides; fingers = fingers }

  -- its numbers fit
  read_range : IsInRange read_log
  read_range = record { slides = first.fit; fingers = second.fit }

  -- the text is the log's, and what is left
  read_text : text ≡ log_text read_log ++ rest
  read_text = first.text_is ∙ (ap (λ zs. flat_map slide_line slides ++ zs) second.text_is ∙ sym (append_assoc (flat_map slide_line slides) (flat_map finger_line fingers) rest))

  module _ (log : Log) (in_range : IsInRange log) (s : List ℕ) (is : text ≡ log_text log ++ s) where
    -- its slides are among those that were read,
    among_slides : Further slide_line slides log.slides words (flat_map finger_line log.fingers ++ s)
    among_slides =
        reads_further slide_line SideFits slide_tells slides log.slides words (flat_map finger_line log.fingers ++ s) first.fit in_range.slides first.last
        (sym first.text_is ∙ (is ∙ append_assoc (flat_map slide_line log.slides) (flat_map finger_line log.fingers) s))

    -- and where they are all of them, so are its fingers
    among_fingers : among_slides.more ≡ [] → Further finger_line fingers log.fingers rest s
    among_fingers none =
        reads_further finger_line FingerFits finger_tells fingers log.fingers rest s second.fit in_range.fingers second.last
        (sym second.text_is ∙ sym (among_slides.left ∙ ap (λ zs. flat_map slide_line zs ++ words) none))

    -- a log with which the text begins has no more lines, with its further slides told apart
    few_lines : (more : List ℕ) → among_slides.more ≡ more → length log.slides + length log.fingers ≤ length slides + length fingers
    few_lines [] none =
        let further = among_fingers none in
        omega (arith, ap length among_slides.entries, length-append log.slides among_slides.more, ap length further.entries, length-append log.fingers further.more)
    few_lines (x ∷ xs) some =
        let no = no_finger_before log.fingers x xs s words (among_slides.left ∙ ap (λ zs. flat_map slide_line zs ++ words) some) in
        omega (arith, ap length among_slides.entries, length-append log.slides among_slides.more, ap length no)

    -- so it has no more lines than were read
    at_most : length log.slides + length log.fingers ≤ length slides + length fingers
    at_most = few_lines among_slides.more refl

  module _ (log : Log) (in_range : IsInRange log) (is : text ≡ log_text log) where
    -- the whole text, with nothing behind it
    ends : text ≡ log_text log ++ []
    ends = is ∙ sym (append-nil (log_text log))

    -- all slides are the log's
    no_more_slides : (more : List ℕ) → (among_slides log in_range [] ends).more ≡ more → (among_slides log in_range [] ends).more ≡ []
    no_more_slides [] none = none
    no_more_slides (x ∷ xs) some =
        let left = (among_slides log in_range [] ends).left ∙ ap (λ zs. flat_map slide_line zs ++ words) some in
        let no = no_finger_before log.fingers x xs [] words left in
        some ∙ no_slides (x ∷ xs) words (sym (ap (λ fs. flat_map finger_line fs ++ []) no) ∙ left)

    -- a log with this text is what was read, and nothing is left
    whole : IsWhole log slides fingers rest
    whole =
        let further = among_slides log in_range [] ends in
        let none = no_more_slides further.more refl in
        let on = among_fingers log in_range [] ends none in
        let none_too = no_fingers on.more rest on.left in
        record {
          slides_are = further.entries ∙ (ap (λ zs. log.slides ++ zs) none ∙ append-nil log.slides);
          fingers_are = on.entries ∙ (ap (λ fs. log.fingers ++ fs) none_too ∙ append-nil log.fingers);
          nothing = on.left ∙ ap (λ fs. flat_map finger_line fs ++ rest) none_too;
        }

  -- where nothing is left, the text was read
  pub reads : rest ≡ [] → IsReading text read_log
  reads empty = record {
    in_range = read_range;
    text_is = read_text ∙ (ap (λ zs. log_text read_log ++ zs) empty ∙ append-nil (log_text read_log));
    only = λ other in_range is. let same = whole other in_range is in (λ i. record { slides = sym same.slides_are i; fingers = sym same.fingers_are i });
  }

  -- where something is left, its first line is the first wrong one
  pub is_wrong : (rest ≡ [] → ⊥) → HasWrongLine text (length slides + length fingers + 1)
  is_wrong some = record {
    wrong = λ log. some (sym (whole log.log log.in_range log.text_is).nothing);
    above = length slides + length fingers;
    counted = refl;
    before = record { log = read_log; in_range = read_range; counted = refl; rest = rest; text_is = read_text };
    first = λ begun. omega (arith, at_most begun.log begun.in_range begun.rest begun.text_is, begun.counted);
  }
