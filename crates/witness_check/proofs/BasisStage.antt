-- The lines of the seams and of the basis.
use Rattle.std.proofs.Common.{◌≡◌, ℕ, suc, ◌+◌, ◌/◌, Bool, true, false, List, [], ◌∷◌, length, sym, ◌∙◌, ap, ap₂, subst, arith}
use Rattle.std.specs.Prelude.{Result, Ok, Err, OnOk}
use Rattle.mod2_rank.specs.Linear.{same_list}
use Rattle.mod2_rank.proofs.Members.{same_list_true}
use Rattle.page_surface.specs.Labels.{Label}
use Rattle.page_surface.specs.Polygon.{Polygon, sides}
use Rattle.witness_check.specs.declared.certificate.Certificate.{Certificate}
use Rattle.witness_check.specs.declared.checked.Checked.TheVariants.{Bad as bad}
use Rattle.witness_check.specs.declared.checked.Reason.TheVariants.{Basis as basis}
use Rattle.witness_check.specs.declared.fault.Refusal.{Refusal}
use Rattle.witness_check.specs.declared.fault.Refusal.TheVariants.{Bad as badly}
use Rattle.witness_check.specs.Between.{After, AfterBook, AfterSeams, AfterTwists, HasPageWords, HasWords, Refutes}
use Rattle.witness_check.specs.Checked.{checked, first_fault}
use Rattle.witness_check.specs.FieldsOn.{basis_fields, seams_fields}
use Rattle.witness_check.specs.Forms.{one}
use Rattle.witness_check.specs.Grammar.{drawn_form, drawn_of}
use Rattle.witness_check.specs.Lines.{basis_line, seams_line}
use Rattle.witness_check.specs.OpenBook.{arcs, seam_names}
use Rattle.witness_check.specs.Passing.{Breaks, Lines, SectionRead}
use Rattle.witness_check.specs.Rules.{rule, same_names}
use Rattle.witness_check.specs.RulesOn.{basis_on_rules, basis_rules, seams_rules, strands_on_rules}
use Rattle.witness_check.specs.Stages.{basis_on}
use Rattle.witness_check.proofs.SameLists.{arc_number}
use Rattle.witness_check.proofs.Staged.{line_breaks, line_fault, line_passed}

-- what is said of each good result that says nothing else
pub on_good : {T E : Type 0} {P Q : Type 0} (result : Result T E) → OnOk result P → (P → Q) → OnOk result Q
on_good (Ok a) p so = so p
on_good (Err e) p so = tt

-- what a test tells of a list that is lent
pub lent_test : {A : Type 0} (test : A → Bool) (lent x : A) (told so : Bool) → lent ≡ x → told ≡ test lent → told ≡ so → test x ≡ so
lent_test test lent x told so same tells is = ap test (sym same) ∙ (sym tells ∙ is)

-- the first line after some, with a rule that it breaks
first_line : (text : List ℕ) (taken line : ℕ) → line ≡ suc taken → checked text ≡ bad (suc (taken + 0)) basis → checked text ≡ bad line basis
first_line text taken line is so = so ∙ ap (λ n. bad n basis) (let more : suc (taken + 0) ≡ line = omega (arith, is) in more)

module _ (page : List (List Label)) (p : Polygon) (words : List (List ℕ)) (text : List ℕ) (l0 : Lines) (after : AfterTwists page p words text l0) where
  seams_rule : (seams : List Label) (b : Bool) → same_names seams (seam_names page) ≡ b → (c : Certificate) → HasPageWords page p words c → c.seams ≡ seams → seams_rules c ≡ rule basis b ∷ []
  seams_rule seams b same c k e = ap (λ z. rule basis z ∷ []) (ap₂ (λ names polygons. same_names names (seam_names polygons)) e k.page_is ∙ same)

  -- the seams are those of the page
  pub seams_passed : (l1 : Lines) (seams : List Label) → SectionRead (one seams_line) l0 l1 seams → same_names seams (seam_names page) ≡ true → AfterSeams p words text l1
  seams_passed l1 seams read same =
      line_passed seams_line (λ seams. basis_on) seams_rules basis_on_rules seams_fields (HasPageWords page p words) text l0 after l1 seams (HasWords p words) read
      (λ c k e. ap (λ rules. first_fault (rules ∷ [])) (seams_rule seams true same c k e)) (λ c k e. k.has_words)

  -- or they aren't
  pub seams_fault : (l1 : Lines) (seams : List Label) (line : ℕ) → SectionRead (one seams_line) l0 l1 seams → line ≡ suc l0.taken → same_names seams (seam_names page) ≡ false → Refutes text (badly line basis)
  seams_fault l1 seams line read at same =
      first_line text l0.taken line at (line_fault seams_line (λ seams. basis_on) seams_rules basis_on_rules seams_fields (HasPageWords page p words) text l0 after l1 seams (record { at = 0; reason = basis }) read
      (λ c k e. ap (λ rules. first_fault (rules ∷ [])) (seams_rule seams false same c k e)))

  -- or the line lacks its form
  pub seams_breaks : (r : Refusal) → Breaks (one seams_line) l0 r → Refutes text r
  seams_breaks = line_breaks seams_line (λ seams. basis_on) seams_rules basis_on_rules seams_fields (HasPageWords page p words) text l0 after

module _ (p : Polygon) (words : List (List ℕ)) (text : List ℕ) (l0 : Lines) (after : AfterSeams p words text l0) where
  basis_rule : (arcs_read : List ℕ) (b : Bool) → same_list arcs_read (arcs p) ≡ b → (c : Certificate) → HasWords p words c → c.basis ≡ arcs_read → basis_rules c ≡ rule basis b ∷ []
  basis_rule arcs_read b same c k e = ap (λ z. rule basis z ∷ []) (ap₂ (λ read q. same_list read (arcs q)) e k.polygon_is ∙ same)

  basis_size : (arcs_read : List ℕ) → same_list arcs_read (arcs p) ≡ true → length arcs_read ≡ sides p
  basis_size arcs_read same = ap length (same_list_true arcs_read (arcs p) same) ∙ arc_number p

  -- the basis has the arcs of the sides
  pub basis_passed : (l1 : Lines) (arcs_read : List ℕ) → SectionRead (one basis_line) l0 l1 arcs_read → same_list arcs_read (arcs p) ≡ true → AfterBook p words text l1
  basis_passed l1 arcs_read read same =
      subst (λ n. After (drawn_form (n / 2)) strands_on_rules drawn_of (HasWords p words) text l1) (basis_size arcs_read same)
      (line_passed basis_line (λ entries. drawn_form (length entries / 2)) basis_rules strands_on_rules basis_fields (HasWords p words) text l0 after l1 arcs_read (HasWords p words) read
      (λ c k e. ap (λ rules. first_fault (rules ∷ [])) (basis_rule arcs_read true same c k e)) (λ c k e. k))

  -- or others
  pub basis_fault : (l1 : Lines) (arcs_read : List ℕ) (line : ℕ) → SectionRead (one basis_line) l0 l1 arcs_read → line ≡ suc l0.taken → same_list arcs_read (arcs p) ≡ false → Refutes text (badly line basis)
  basis_fault l1 arcs_read line read at same =
      first_line text l0.taken line at (line_fault basis_line (λ entries. drawn_form (length entries / 2)) basis_rules strands_on_rules basis_fields (HasWords p words) text l0 after l1 arcs_read (record { at = 0; reason = basis }) read
      (λ c k e. ap (λ rules. first_fault (rules ∷ [])) (basis_rule arcs_read false same c k e)))

  -- or the line lacks its form
  pub basis_breaks : (r : Refusal) → Breaks (one basis_line) l0 r → Refutes text r
  basis_breaks = line_breaks basis_line (λ entries. drawn_form (length entries / 2)) basis_rules strands_on_rules basis_fields (HasWords p words) text l0 after
