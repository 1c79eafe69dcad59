-- The lines of the generators and of the contact generator.
use Rattle.std.proofs.Common.{◌≡◌, ℕ, suc, ◌+◌, ◌≤◌, ◌<◌, ◌^◌, List, [], ◌∷◌, ◌++◌, length, codes, Option, Some, None, refl, sym, ◌∙◌, ap, subst, arith}
use Rattle.std.specs.Prelude.{Result, Ok, Err, IfErr}
use Rattle.page_surface.specs.Drawing.{Drawing}
use Rattle.page_surface.specs.Polygon.{arc_count}
use Rattle.witness_check.specs.declared.certificate.Certificate.{Certificate}
use Rattle.witness_check.specs.declared.fault.Fault.{Fault}
use Rattle.witness_check.specs.declared.fault.Refusal.{Refusal}
use Rattle.witness_check.specs.declared.fault.Refusal.TheVariants.{Bad as badly}
use Rattle.witness_check.specs.declared.fault.Stop.{Stop}
use Rattle.witness_check.specs.declared.fault.Stop.TheVariants.{Fault as stopped, NoMemory as no_room}
use Rattle.witness_check.specs.declared.checked.Checked.TheVariants.{Bad as bad}
use Rattle.witness_check.specs.Between.{After, AfterDrawing, AfterFinals, AfterGenerators, Refutes}
use Rattle.witness_check.specs.Checked.{first_fault}
use Rattle.witness_check.specs.DrawingRules.{Finds, HasContact, HasGenerators, Stops}
use Rattle.witness_check.specs.FieldsOn.{contact_fields, generators_fields}
use Rattle.witness_check.specs.Forms.{LineForm, Section, both, one}
use Rattle.witness_check.specs.Grammar.{Outcome, outcome_form}
use Rattle.witness_check.specs.Lines.{contact_line, number_line}
use Rattle.witness_check.specs.Passing.{Breaks, Lines, SectionRead}
use Rattle.witness_check.specs.Rules.{Rule, contact_rules, generator_rules}
use Rattle.witness_check.specs.RulesOn.{contact_on_rules, pivots_on_rules}
use Rattle.witness_check.specs.Settling.{FaultFrom, Settles}
use Rattle.witness_check.specs.Stages.{contact_on}
use Rattle.witness_check.specs.Written.{last_drawing}
use Rattle.witness_check.proofs.HandedOn.{of_stop}
use Rattle.witness_check.proofs.Staged.{fault_within, line_breaks, line_fault, line_passed}

-- A single line that was read and tried.
module _ {A B : Type 0} (shape : LineForm A) (t : A → Section B) (own : Certificate → List Rule) (rest : Certificate → List (List Rule)) (fields : Certificate → A × B) (known : Certificate → Type 0)
    (text : List ℕ) (l0 : Lines) (after : After (both (one shape) t) (λ c. (own c ∷ []) ++ rest c) fields known text l0) (l1 : Lines) (a : A) (read : SectionRead (one shape) l0 l1 a) where
  -- what trying it comes to, in every certificate that goes on so
  abbrev Comes : Option Fault → Type 0
  Comes found = (c : Certificate) → known c → (fields c).0 ≡ a → first_fault (own c ∷ []) ≡ found

  -- the fault is at that line, since there is some certificate that goes on so
  at_line : (fault : Fault) → Comes (Some fault) → fault.at < 1
  at_line fault comes =
      let b = (t a).blank in
      let c = after.to (a, b) in
      fault_within (own c ∷ []) fault (comes c (after.knows (a, b)) (ap (λ p. p.0) (after.fields_are (a, b))))

  -- it breaks a rule
  pub line_refutes : (first : ℕ) (fault : Fault) (r : Refusal) → first ≡ suc l0.taken → l0.taken + length l0.left + 1 < 2 ^ 32 → Comes (Some fault) → FaultFrom first fault r → Refutes text r
  line_refutes first fault r at few comes is =
      let inside : fault.at < 1 = at_line fault comes in
      let bound : first + fault.at < 2 ^ 32 = omega (arith, at, few, inside) in
      let number : suc (l0.taken + fault.at) ≡ first + fault.at = omega (arith, at) in
      subst (Refutes text) (sym (is bound)) (line_fault shape t own rest fields known text l0 after l1 a fault read comes ∙ ap (λ k. bad k fault.reason) number)

  -- or its trying stops
  pub line_settled : {T : Type 0} (first : ℕ) (tried : Result T Stop) (r : Refusal) → first ≡ suc l0.taken → l0.taken + length l0.left + 1 < 2 ^ 32
      → ((fault : Fault) → tried ≡ Err (stopped fault) → Comes (Some fault)) → Settles first tried None r → Refutes text r
  line_settled first (Err (stopped fault)) r at few ill is = line_refutes first fault r at few (ill fault refl) is
  line_settled first (Err no_room) r at few ill is = subst (Refutes text) (sym is) tt
  line_settled first (Ok made) r at few ill is = absurd is

-- as many as are counted, which are few
pub counted_few : (found : List (List ℕ)) (count : ℕ) → length found ≡ count → count ≤ 20000 → length found ≤ 20000
counted_few found count many few = omega (arith, many, few)

-- The line with the number of generators.
module _ (d : Drawing) (text : List ℕ) (l0 : Lines) (after : AfterFinals d text l0) where
  abbrev then : ℕ → Section ((ℕ × List ℕ) × Outcome)
  then count = contact_on (arc_count d.polygon)

  -- it lacks its form
  pub generators_break : (r : Refusal) → Breaks (one (number_line (codes "generators"))) l0 r → Refutes text r
  generators_break = line_breaks (number_line (codes "generators")) then generator_rules contact_on_rules generators_fields (λ c. last_drawing c ≡ d) text l0 after

  module _ (l1 : Lines) (count : ℕ) (read : SectionRead (one (number_line (codes "generators"))) l0 l1 count) where
    has : (c : Certificate) → last_drawing c ≡ d → c.generators ≡ count → HasGenerators d count c
    has c k e = record { last_is = k; count_is = e }

    -- it is their number
    pub generators_passed : (found : List (List ℕ)) → Finds (HasGenerators d count) (λ c. generator_rules c ∷ []) None → length found ≡ count → AfterGenerators d (length found) text l1
    generators_passed found kept many =
        subst (λ k. AfterGenerators d k text l1) (sym many)
        (line_passed (number_line (codes "generators")) then generator_rules contact_on_rules generators_fields (λ c. last_drawing c ≡ d) text l0 after l1 count (HasGenerators d count) read
        (λ c k e. kept c (has c k e)) has)

    -- or not
    pub generators_refuted : {T : Type 0} (first : ℕ) (tried : Result T Stop) (r : Refusal) → first ≡ suc l0.taken → l0.taken + length l0.left + 1 < 2 ^ 32
        → IfErr tried (Stops (HasGenerators d count) (λ c. generator_rules c ∷ [])) → Settles first tried None r → Refutes text r
    generators_refuted first tried r at few fault is =
        line_settled (number_line (codes "generators")) then generator_rules contact_on_rules generators_fields (λ c. last_drawing c ≡ d) text l0 after l1 count read first tried r at few
        (λ one so c k e. of_stop (HasGenerators d count) (λ c. generator_rules c ∷ []) tried one so fault c (has c k e)) is

-- a line that lacks its form, with as many points as there are arcs
pub many_breaks : (n m : ℕ) (l0 : Lines) (r : Refusal) → n ≡ m → Breaks (one (contact_line n)) l0 r → Breaks (one (contact_line m)) l0 r
many_breaks n m l0 r many breaks = subst (λ k. Breaks (one (contact_line k)) l0 r) many breaks

-- or that was read, with points in a list that is lent
pub lent_contact : (n m : ℕ) (l0 l1 : Lines) (contact : ℕ) (points lent : List ℕ) → n ≡ m → lent ≡ points → SectionRead (one (contact_line n)) l0 l1 (contact, points) → SectionRead (one (contact_line m)) l0 l1 (contact, lent)
lent_contact n m l0 l1 contact points lent many same read =
    subst (λ k. SectionRead (one (contact_line k)) l0 l1 (contact, lent)) many (subst (λ ps. SectionRead (one (contact_line n)) l0 l1 (contact, ps)) (sym same) read)

-- what a fault's refusal says
pub refused_from : (first : ℕ) (fault : Fault) (r : Refusal) → ((one : Fault) → stopped fault ≡ stopped one → first + one.at < 2 ^ 32 → r ≡ badly (first + one.at) one.reason) → FaultFrom first fault r
refused_from first fault r says = says fault refl

-- The line of the contact generator.
module _ (d : Drawing) (count : ℕ) (text : List ℕ) (l0 : Lines) (after : AfterGenerators d count text l0) where
  abbrev last : ℕ × List ℕ → Section Outcome
  last contact = outcome_form

  -- it lacks its form
  pub contact_breaks : (r : Refusal) → Breaks (one (contact_line (arc_count d.polygon))) l0 r → Refutes text r
  contact_breaks = line_breaks (contact_line (arc_count d.polygon)) last contact_rules pivots_on_rules contact_fields (HasGenerators d count) text l0 after

  module _ (l1 : Lines) (contact : ℕ) (points : List ℕ) (read : SectionRead (one (contact_line (arc_count d.polygon))) l0 l1 (contact, points)) where
    told : (c : Certificate) → HasGenerators d count c → ◌≡◌ {A = ℕ × List ℕ} (c.contact, c.points) (contact, points) → HasContact d count contact points c
    told c k e = record { last_is = k.last_is; count_is = k.count_is; contact_is = ap (λ p. p.0) e; points_are = ap (λ p. p.1) e }

    -- it keeps its rule
    pub contact_passed : Finds (HasContact d count contact points) (λ c. contact_rules c ∷ []) None → AfterDrawing d count text l1
    contact_passed kept =
        line_passed (contact_line (arc_count d.polygon)) last contact_rules pivots_on_rules contact_fields (HasGenerators d count) text l0 after l1 (contact, points) (HasGenerators d count) read
        (λ c k e. kept c (told c k e)) (λ c k e. k)

    -- or not
    pub contact_refuted : (first : ℕ) (fault : Fault) (r : Refusal) → first ≡ suc l0.taken → l0.taken + length l0.left + 1 < 2 ^ 32
        → Finds (HasContact d count contact points) (λ c. contact_rules c ∷ []) (Some fault) → FaultFrom first fault r → Refutes text r
    contact_refuted first fault r at few found is =
        line_refutes (contact_line (arc_count d.polygon)) last contact_rules pivots_on_rules contact_fields (HasGenerators d count) text l0 after l1 (contact, points) read first fault r at few
        (λ c k e. found c (told c k e)) is

-- the number of generators, as it is counted
pub generators_as : (d : Drawing) (n m : ℕ) (text : List ℕ) (lines : Lines) → n ≡ m → AfterGenerators d m text lines → AfterGenerators d n text lines
generators_as d n m text lines same after = subst (λ k. AfterGenerators d k text lines) (sym same) after

pub drawing_as : (d : Drawing) (n m : ℕ) (text : List ℕ) (lines : Lines) → n ≡ m → AfterDrawing d n text lines → AfterDrawing d m text lines
drawing_as d n m text lines same after = subst (λ k. AfterDrawing d k text lines) same after
