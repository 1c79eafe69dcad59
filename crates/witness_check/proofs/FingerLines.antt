-- The rules of the finger lines, by the drawing in which they begin.
use Rattle.std.proofs.Common.{◌≡◌, ℕ, Bool, true, cond, List, [], ◌∷◌, refl, take, None, Some, sym, ◌∙◌, ap, arith, inl, inr}
use Rattle.std.proofs.lemmas.Bool.{cases_Bool, false≢true}
use Rattle.page_surface.specs.Drawing.{Drawing, is_embedded}
use Rattle.drawing.specs.Fingers.{IsLegal, is_legal, pushed, replayed, with_letters}
use Rattle.drawing.specs.declared.finger.Finger.{Finger}
use Rattle.drawing.proofs.Tests.{legal_from_test, test_from_legal}
use Rattle.witness_check.specs.declared.certificate.Certificate.{Certificate}
use Rattle.witness_check.specs.declared.checked.Reason.TheVariants.{Finger as finger}
use Rattle.witness_check.specs.declared.fault.Fault.{Fault}
use Rattle.witness_check.specs.declared.fault.Stop.TheVariants.{Fault as stopped}
use Rattle.witness_check.specs.Checked.{first_fault}
use Rattle.witness_check.specs.DrawingRules.{BeginsFingers, Finds, Stops}
use Rattle.witness_check.specs.Rules.{Rule, each, finger_rules, rule}
use Rattle.witness_check.specs.Written.{drawing_after}
use Rattle.witness_check.proofs.FirstFaults.{agree, own_rules}
use Rattle.witness_check.proofs.Prefixes.{take_within}

module _ (d : Drawing) (fingers : List Finger) where
  -- the rule of a finger line, by the drawing in which the fingers begin
  abbrev pub finger_rule : ℕ → Finger → Rule
  finger_rule i f = rule finger (is_legal (replayed d (take i fingers)) f)

  -- is that of every certificate with this first drawing and these first fingers
  fingers_begun : (c : Certificate) → BeginsFingers d fingers c → first_fault (each (finger_rules c) fingers) ≡ first_fault (each (own_rules finger_rule) fingers)
  fingers_begun c is =
      agree (λ i f. rule finger (is_legal (drawing_after c i) f)) finger_rule fingers (λ i f within.
      (λ j. rule finger (is_legal (replayed (is.first_is j) (take i (is.fingers_are j))) f))
      ∙ ap (λ (fs : List Finger). rule finger (is_legal (replayed d fs) f)) (take_within i fingers is.more (omega (arith, within))))

  -- all fingers are legal
  pub fingers_kept : first_fault (each (own_rules finger_rule) fingers) ≡ None → Finds (BeginsFingers d fingers) (λ c. each (finger_rules c) fingers) None
  fingers_kept none c is = fingers_begun c is ∙ none

  -- one isn't
  pub fingers_stop : (fault : Fault) → first_fault (each (own_rules finger_rule) fingers) ≡ Some fault → Stops (BeginsFingers d fingers) (λ c. each (finger_rules c) fingers) (stopped fault)
  fingers_stop fault is given same c has = fingers_begun c has ∙ (is ∙ cc)

  -- whether a finger is legal where it comes
  pub legal_here : (i : ℕ) (f : Finger) (b : Bool) (here : Drawing) → here ≡ replayed d (take i fingers) → (b ≡ true → IsLegal here f) × (IsLegal here f → b ≡ true)
      → (finger_rule i f).keeps ≡ b
  legal_here i f b here is says = ap (λ (e : Drawing). is_legal e f) (sym is) ∙ elim (cases_Bool b) [
    | inl h ↦ test_from_legal here f (says.0 h) ∙ sym h
    | inr h ↦ elim (cases_Bool (is_legal here f)) [
      | inl l ↦ absurd (false≢true (sym h ∙ says.1 (legal_from_test here f l)))
      | inr l ↦ l ∙ sym h
    ]
  ]

-- fingers keep the polygon
pushed_polygon : (d : Drawing) (f : Finger) → (pushed d f).polygon ≡ d.polygon
pushed_polygon d f = elim (cases_Bool (is_embedded (with_letters d f 0))) [
  | inl h ↦ ap (λ b. (cond b (with_letters d f 0) (with_letters d f 1)).polygon) h
  | inr h ↦ ap (λ b. (cond b (with_letters d f 0) (with_letters d f 1)).polygon) h
]

pub replayed_polygon : (d : Drawing) (fs : List Finger) → (replayed d fs).polygon ≡ d.polygon
replayed_polygon d [] = refl
replayed_polygon d (f ∷ fs) = replayed_polygon (pushed d f) fs ∙ pushed_polygon d f
