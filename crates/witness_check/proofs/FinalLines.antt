-- The rules of the final lines, by the last drawing.
use Rattle.std.proofs.Common.{◌≡◌, ◌≤◌, ◌-◌, ℕ, Bool, true, List, [], ◌∷◌, length, map, refl, sym, ◌∙◌, ap, ap₂, subst, arith, inl, inr}
use Rattle.std.proofs.lemmas.Bool.{and_from, and_parts, cases_Bool, false≢true}
use Rattle.obd_base.specs.declared.points.Exit.{Exit}
use Rattle.page_surface.specs.Drawing.{Drawing, exit, strand_exits}
use Rattle.region_table.specs.Nice.{is_nice}
use Rattle.mod2_rank.proofs.Members.{same_list_itself, same_list_true}
use Rattle.witness_check.specs.declared.certificate.Certificate.{Certificate}
use Rattle.witness_check.specs.declared.checked.Reason.TheVariants.{Nice as nice}
use Rattle.witness_check.specs.Checked.{first_fault}
use Rattle.witness_check.specs.DrawingRules.{BeginsFinals, HasFinals, exits_rule, exits_rules}
use Rattle.witness_check.specs.Rules.{each, final_rules, rule, same_exits}
use Rattle.witness_check.specs.Written.{last_drawing}
use Rattle.witness_check.proofs.LastRules.{EndsBy}
use Rattle.witness_check.proofs.FirstFaults.{before_last, then_last, with_last}

-- lists with the same sides and the same places are one
same_parts : (es fs : List Exit) → map (λ (e : Exit). e.side) es ≡ map (λ (e : Exit). e.side) fs → map (λ (e : Exit). e.place) es ≡ map (λ (e : Exit). e.place) fs → es ≡ fs
same_parts [] [] s p = refl
same_parts [] (f ∷ fs) s p = cc
same_parts (e ∷ es) [] s p = cc
same_parts (e ∷ es) (f ∷ fs) s p =
    let side : e.side ≡ f.side = cc in
    let place : e.place ≡ f.place = cc in
    let sides : map (λ (e : Exit). e.side) es ≡ map (λ (e : Exit). e.side) fs = cc in
    let places : map (λ (e : Exit). e.place) es ≡ map (λ (e : Exit). e.place) fs = cc in
    ap₂ (λ (g : Exit) (gs : List Exit). g ∷ gs) (ap₂ exit side place) (same_parts es fs sides places)

-- whether two lists of exits are one, by its test
one_list_of_exits : (b : Bool) (es fs : List Exit) → (b ≡ true → es ≡ fs) × (es ≡ fs → b ≡ true) → same_exits es fs ≡ b
one_list_of_exits b es fs is = elim (cases_Bool (same_exits es fs)) [
  | inl h ↦ (let (s, p) = and_parts _ _ h in h ∙ sym (is.1 (same_parts es fs (same_list_true _ _ s) (same_list_true _ _ p))))
  | inr h ↦ elim (cases_Bool b) [
    | inl same ↦ absurd (false≢true (sym h ∙ subst (λ gs. same_exits es gs ≡ true) (is.0 same) (and_from _ _ (same_list_itself (map (λ (e : Exit). e.side) es)) (same_list_itself (map (λ (e : Exit). e.place) es)))))
    | inr other ↦ h ∙ sym other
  ]
]

-- whether a final line has its strand's exits, by the exits as they are lent
pub exits_keep : (d : Drawing) (i j : ℕ) (b : Bool) (exits lent : List Exit) → lent ≡ exits → j ≡ i → (b ≡ true → lent ≡ strand_exits d j) × (lent ≡ strand_exits d j → b ≡ true)
    → (exits_rule d i exits).keeps ≡ b
exits_keep d i j b exits lent is same says =
    (λ k. same_exits (sym is k) (strand_exits d (sym same k))) ∙ one_list_of_exits b lent (strand_exits d j) says

-- final lines before the last one have the rule of the exits alone
pub finals_begun : (d : Drawing) (read : List (List Exit)) (c : Certificate) → BeginsFinals d read c
    → first_fault (each (final_rules c) read) ≡ first_fault (each (exits_rules d) read)
finals_begun d read c is =
    before_last (exits_rule (last_drawing c)) (length c.finals) (rule nice (is_nice (last_drawing c))) c.finals read is.more is.next is.finals_are refl
    ∙ ap (λ e. first_fault (each (exits_rules e) read)) is.last_is

-- all final lines, of which there is one: the rule that the drawing is nice comes last
pub finals_whole : (d : Drawing) (finals : List (List Exit)) → 1 ≤ length finals
    → EndsBy (HasFinals d finals) (λ c. each (final_rules c) finals) (exits_rule d) (rule nice (is_nice d)) finals
finals_whole d finals some c is =
    let own = exits_rule (last_drawing c) in
    let last = rule nice (is_nice (last_drawing c)) in
    with_last own (length c.finals) last finals (length finals - 1) (ap length is.finals_are) (omega (arith, some))
    ∙ (λ i. then_last (exits_rule (is.last_is i)) (length (is.finals_are i)) (rule nice (is_nice (is.last_is i))) (length finals - 1)
    (first_fault (each (exits_rules (is.last_is i)) finals)))
