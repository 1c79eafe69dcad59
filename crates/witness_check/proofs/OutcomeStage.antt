-- The lines from the pivots to the verdict.
use Rattle.std.proofs.Common.{◌≡◌, ℕ, suc, ◌+◌, ◌*◌, ◌<◌, ◌≤◌, ◌^◌, ◌&&◌, pos, ◌-ℤ◌, ℤ, int_eq, eqb, leb, Bool, true, false, List, [], ◌∷◌, ◌++◌, length, take, get_or, codes, Option, Some, None, sym, ◌∙◌, ap, ap₂, subst, arith}
use Rattle.std.specs.Prelude.{Result, IfErr, IfOk, OnOk}
use Rattle.std.specs.List.{list_all}
use Rattle.std.proofs.lemmas.List.{get_or_default, take_all}
use Rattle.obd_base.specs.declared.causes.NoMemory.{NoMemory}
use Rattle.mod2_rank.specs.Ascending.{AllAscend}
use Rattle.mod2_rank.specs.GivenPivots.{IsFirstBad, PassUpTo, Reducing, passes_at}
use Rattle.mod2_rank.specs.Linear.{is_empty}
use Rattle.mod2_rank.specs.PivotLines.{next_column, pivot_line_passes, rank_line_passes, verdict_line_passes}
use Rattle.mod2_rank.specs.PivotRules.{Reducer, reduced_by, reducers}
use Rattle.mod2_rank.specs.declared.outcome.Pivot.{Pivot}
use Rattle.mod2_rank.specs.declared.outcome.Verdict.{Verdict}
use Rattle.mod2_rank.proofs.GivenPivots.{reducers_size}
use Rattle.witness_check.specs.declared.certificate.Certificate.{Certificate}
use Rattle.witness_check.specs.declared.checked.Answer.{Answer}
use Rattle.witness_check.specs.declared.checked.Reason.TheVariants.{Pivot as pivot, Rank as rank, Homology as homology, Verdict as verdict}
use Rattle.witness_check.specs.declared.fault.Refusal.{Refusal}
use Rattle.witness_check.specs.declared.fault.Stop.{Stop}
use Rattle.witness_check.specs.declared.fault.Stop.TheVariants.{Fault as stopped}
use Rattle.witness_check.specs.Between.{After, AfterColumns, AfterHomology, AfterRank, AfterVerdict, HasColumns, HasRank, Refutes}
use Rattle.witness_check.specs.Checked.{answer_of, first_broken, first_fault}
use Rattle.witness_check.specs.DrawingRules.{Finds, Stops}
use Rattle.witness_check.specs.FieldsOn.{homology_fields, rank_fields, verdict_fields}
use Rattle.witness_check.specs.Forms.{both, one, rows}
use Rattle.witness_check.specs.Grammar.{outcome_of}
use Rattle.witness_check.specs.Lines.{answer_line, end_line, homology_line, number_line, pivot_line}
use Rattle.witness_check.specs.OutcomeRules.{AfterReducers, BeginsPivots, HasReducers, Untrue}
use Rattle.witness_check.specs.Passing.{Breaks, CountRefused, Lines, RowsRead, SectionRead, is_between}
use Rattle.witness_check.specs.Rules.{each, homology_rules, pivot_rules, rank_rules, rule, verdict_rules}
use Rattle.witness_check.specs.RulesOn.{end_on_rules, homology_on_rules, pivot_count, rank_on_rules, verdict_on_rules}
use Rattle.witness_check.specs.Settling.{Settles}
use Rattle.witness_check.specs.Stages.{homology_on, rank_on, verdict_on}
use Rattle.witness_check.proofs.EachLine.{fault_at, no_fault}
use Rattle.witness_check.proofs.HandedOn.{of_ok, of_stop}
use Rattle.witness_check.proofs.OneRule.{held_badly, held_breaks, held_well}
use Rattle.witness_check.proofs.Prefixes.{take_within}
use Rattle.witness_check.proofs.Settled.{settled_badly, settled_well}
use Rattle.witness_check.proofs.Staged.{count_refuted, count_within, from_none}

module _ (cs : List (List ℕ)) (count : ℕ) (ps : List Pivot) (c : Certificate) (begins : BeginsPivots cs count ps c) where
  -- the rule of a pivot line that was read
  own_rule : (i : ℕ) (l : Pivot) → i ≤ length ps → pivot_rules c i l ≡ rule pivot (passes_at count cs ps i l) ∷ []
  own_rule i l within =
      let first : take i c.pivots ≡ take i ps = ap (take i) begins.pivots_are ∙ take_within i ps begins.more within in
      ap₂ (λ n columns. rule pivot (pivot_line_passes n columns (next_column 0 (take i c.pivots)) (reducers n columns [] (take i c.pivots)) l) ∷ []) begins.count_is begins.columns_are
      ∙ ap (λ qs. rule pivot (pivot_line_passes count cs (next_column 0 qs) (reducers count cs [] qs) l) ∷ []) first

  kept_line : (i : ℕ) (l : Pivot) → i ≤ length ps → passes_at count cs ps i l ≡ true → first_broken (pivot_rules c i l) ≡ None
  kept_line i l within is = ap first_broken (own_rule i l within ∙ ap (λ b. rule pivot b ∷ []) is)

  -- all pass
  pub pivots_pass : PassUpTo count cs ps (length ps) → first_fault (each (pivot_rules c) ps) ≡ None
  pivots_pass pass = no_fault (pivot_rules c) ps (λ i d l. kept_line i (get_or ps i d) (omega (arith, l)) (pass i (get_or ps i d) l (get_or_default ps i d (get_or ps i d) l)))

  -- or one is the first that doesn't
  pub pivot_fails : (at : ℕ) → IsFirstBad count cs ps at → first_fault (each (pivot_rules c) ps) ≡ Some (record { at = at; reason = pivot })
  pivot_fails at bad =
      let d : Pivot = record { column = 0; row = 0 } in
      let own = own_rule at (get_or ps at d) (omega (arith, bad.inside)) in
      let fails = bad.fails (get_or ps at d) (get_or_default ps at d (get_or ps at d) bad.inside) in
      fault_at (pivot_rules c) ps at d (rule pivot false) bad.inside
      (λ i e l. kept_line i (get_or ps i e) (omega (arith, l, bad.inside)) (bad.before i (get_or ps i e) l (get_or_default ps i e (get_or ps i e) (omega (arith, l, bad.inside)))))
      (ap first_broken (own ∙ ap (λ b. rule pivot b ∷ []) fails))

-- so what is said of given pivots is said of their lines
pub pivots_kept : (cs : List (List ℕ)) (count : ℕ) (ps : List Pivot) → PassUpTo count cs ps (length ps) → Finds (BeginsPivots cs count ps) (λ c. each (pivot_rules c) ps) None
pivots_kept cs count ps pass c begins = pivots_pass cs count ps c begins pass

pub pivots_stop : (cs : List (List ℕ)) (count : ℕ) (ps : List Pivot) (at : ℕ) (stop : Stop) → IsFirstBad count cs ps at → stop ≡ stopped (record { at = at; reason = pivot }) → Stops (BeginsPivots cs count ps) (λ c. each (pivot_rules c) ps) stop
pivots_stop cs count ps at stop bad is fault e c begins =
    let same : record { at = at; reason = pivot } ≡ fault = cc in
    pivot_fails cs count ps c begins at bad ∙ ap Some same

module _ (cs : List (List ℕ)) (count : ℕ) (text : List ℕ) (l0 : Lines) (after : AfterColumns cs count text l0) where
  ranged : (c : Certificate) → HasColumns cs count c → pivot_count c ≡ rule pivot (is_between 0 count (length c.pivots)) ∷ []
  ranged c k = ap (λ n. rule pivot (leb (length c.pivots) n) ∷ []) k.count_is ∙ ap (λ b. rule pivot b ∷ []) (sym (from_none count (length c.pivots)))

  -- their number isn't read, or too large
  pub pivots_uncounted : (l1 : Lines) (r : Refusal) → CountRefused (codes "pivots") 0 count pivot l0 l1 r → Refutes text r
  pivots_uncounted = count_refuted (codes "pivots") pivot_line (λ pivots. rank_on) pivot_count pivot_rules rank_on_rules outcome_of (HasColumns cs count) text l0 0 count pivot ranged after

  module _ (l1 l2 : Lines) (n : ℕ) (xs : List Pivot) (breaks : Option ℕ) (counted : SectionRead (one (number_line (codes "pivots"))) l0 l1 n) (within : is_between 0 count n ≡ true)
      (read : RowsRead (λ i. pivot_line) n l1 l2 xs breaks) where
    passed : After (both (rows (λ i. pivot_line) n) (λ pivots. rank_on)) (λ c. each (pivot_rules c) c.pivots ++ rank_on_rules c) outcome_of (HasColumns cs count) text l1
    passed = count_within (codes "pivots") pivot_line (λ pivots. rank_on) pivot_count pivot_rules rank_on_rules outcome_of (HasColumns cs count) text l0 0 count pivot ranged after l1 n counted within

    begins : (c : Certificate) → HasColumns cs count c → (more : List Pivot) → c.pivots ≡ xs ++ more → BeginsPivots cs count xs c
    begins c k more e = record { columns_are = k.columns_are; count_is = k.count_is; more = more; pivots_are = e }

    -- all pass
    pub pivots_passed : (made : Reducing) → AllAscend count cs → breaks ≡ None → Finds (BeginsPivots cs count xs) (λ c. each (pivot_rules c) xs) None
        → made ≡ record { rows = count; list = reducers count cs [] xs } → AfterReducers cs made text l2
    pivots_passed made ok all kept is =
        settled_well (λ i. pivot_line) n (λ pivots. rank_on) pivot_rules rank_on_rules outcome_of (HasColumns cs count) text l1 passed l2 xs breaks (HasReducers cs made) read all
        (λ c k more behind e. kept c (begins c k more e)) knows
      where
        size : length (reducers count cs [] xs) ≡ length xs
        size = ap (λ qs. length (reducers count cs [] qs)) (sym (take_all (length xs) xs (omega arith))) ∙ reducers_size count cs ok xs (length xs) (omega arith)

        knows : (c : Certificate) → HasColumns cs count c → c.pivots ≡ xs → HasReducers cs made c
        knows c k e = subst (λ (m : Reducing). HasReducers cs m c) (sym is) (record {
          columns_are = k.columns_are;
          count_is = k.count_is;
          list_is = ap (reducers count cs []) e;
          size_is = ap length e ∙ sym size;
        })

    -- or not
    pub pivots_refuted : {T : Type 0} (first : ℕ) (tried : Result T Stop) (r : Refusal) → first ≡ suc l1.taken → l1.taken + length l1.left + 1 < 2 ^ 32
        → OnOk tried (Finds (BeginsPivots cs count xs) (λ c. each (pivot_rules c) xs) None) → IfErr tried (Stops (BeginsPivots cs count xs) (λ c. each (pivot_rules c) xs)) → Settles first tried breaks r → Refutes text r
    pivots_refuted first tried r at few kept fault is =
        settled_badly (λ i. pivot_line) n (λ pivots. rank_on) pivot_rules rank_on_rules outcome_of (HasColumns cs count) text l1 passed l2 xs first tried breaks r at few read
        (λ made so c k more behind e. of_ok tried made so kept c (begins c k more e)) (λ one so c k more behind e. of_stop (BeginsPivots cs count xs) (λ c. each (pivot_rules c) xs) tried one so fault c (begins c k more e)) is

module _ (cs : List (List ℕ)) (made : Reducing) (text : List ℕ) (l0 : Lines) (after : AfterReducers cs made text l0) where
  abbrev rank_passes : ℕ → Bool
  rank_passes a = eqb a (length made.list) && list_all (λ c. is_empty (reduced_by made.rows made.list c)) cs

  rank_ruled : (c : Certificate) → HasReducers cs made c → rank_rules c ≡ rule rank (rank_passes c.rank) ∷ []
  rank_ruled c k =
      ap₂ (λ n columns. rule rank (eqb c.rank (length c.pivots) && rank_line_passes n columns c.pivots) ∷ []) k.count_is k.columns_are
      ∙ ap₂ (λ m (list : List Reducer). rule rank (eqb c.rank m && list_all (λ x. is_empty (reduced_by made.rows list x)) cs) ∷ []) k.size_is k.list_is

  -- the rank is right
  pub rank_passed : (l1 : Lines) (a : ℕ) → SectionRead (one (number_line (codes "rank"))) l0 l1 a → rank_passes a ≡ true → AfterRank cs made.rows a text l1
  rank_passed l1 a read is =
      held_well (number_line (codes "rank")) (λ a. homology_on) rank_rules homology_on_rules rank_fields (HasReducers cs made) text l0 after rank rank_passes rank_ruled l1 a (HasRank cs made.rows a) read is
      (λ c k e. record { columns_are = k.columns_are; count_is = k.count_is; rank_is = e })

  -- or not
  pub rank_refuted : (l1 : Lines) (a line : ℕ) (tried : Result Bool NoMemory) (r : Refusal) → SectionRead (one (number_line (codes "rank"))) l0 l1 a → line ≡ suc l0.taken
      → IfOk tried (λ yes. yes ≡ rank_passes a) → Untrue tried line rank r → Refutes text r
  rank_refuted = held_badly (number_line (codes "rank")) (λ a. homology_on) rank_rules homology_on_rules rank_fields (HasReducers cs made) text l0 after rank rank_passes rank_ruled

  pub rank_unread : (r : Refusal) → Breaks (one (number_line (codes "rank"))) l0 r → Refutes text r
  rank_unread = held_breaks (number_line (codes "rank")) (λ a. homology_on) rank_rules homology_on_rules rank_fields (HasReducers cs made) text l0 after rank rank_passes rank_ruled

module _ (cs : List (List ℕ)) (count ranked : ℕ) (text : List ℕ) (l0 : Lines) (after : AfterRank cs count ranked text l0) where
  abbrev homology_passes : ℤ → Bool
  homology_passes a = int_eq a (pos count -ℤ pos (2 * ranked))

  homology_ruled : (c : Certificate) → HasRank cs count ranked c → homology_rules c ≡ rule homology (homology_passes c.homology) ∷ []
  homology_ruled c k = ap₂ (λ n m. rule homology (int_eq c.homology (pos n -ℤ pos (2 * m))) ∷ []) k.count_is k.rank_is

  -- the homology is right
  pub homology_passed : (l1 : Lines) (a : ℤ) → SectionRead (one homology_line) l0 l1 a → homology_passes a ≡ true → AfterHomology cs count text l1
  homology_passed l1 a read is =
      held_well homology_line (λ a. verdict_on) homology_rules verdict_on_rules homology_fields (HasRank cs count ranked) text l0 after homology homology_passes homology_ruled l1 a (HasColumns cs count) read is
      (λ c k e. record { columns_are = k.columns_are; count_is = k.count_is })

  -- or not
  pub homology_refuted : (l1 : Lines) (a : ℤ) (line : ℕ) (tried : Result Bool NoMemory) (r : Refusal) → SectionRead (one homology_line) l0 l1 a → line ≡ suc l0.taken
      → IfOk tried (λ yes. yes ≡ homology_passes a) → Untrue tried line homology r → Refutes text r
  homology_refuted = held_badly homology_line (λ a. verdict_on) homology_rules verdict_on_rules homology_fields (HasRank cs count ranked) text l0 after homology homology_passes homology_ruled

  pub homology_unread : (r : Refusal) → Breaks (one homology_line) l0 r → Refutes text r
  homology_unread = held_breaks homology_line (λ a. verdict_on) homology_rules verdict_on_rules homology_fields (HasRank cs count ranked) text l0 after homology homology_passes homology_ruled

module _ (cs : List (List ℕ)) (count : ℕ) (text : List ℕ) (l0 : Lines) (after : AfterHomology cs count text l0) where
  verdict_ruled : (c : Certificate) → HasColumns cs count c → verdict_rules c ≡ rule verdict (verdict_line_passes count cs c.verdict) ∷ []
  verdict_ruled c k = ap₂ (λ n columns. rule verdict (verdict_line_passes n columns c.verdict) ∷ []) k.count_is k.columns_are

  -- the verdict is right
  pub verdict_passed : (l1 : Lines) (a : Verdict) (answer : Answer) → SectionRead (one answer_line) l0 l1 a → verdict_line_passes count cs a ≡ true → answer ≡ answer_of a → AfterVerdict answer text l1
  verdict_passed l1 a answer read is same =
      held_well answer_line (λ a. one end_line) verdict_rules end_on_rules verdict_fields (HasColumns cs count) text l0 after verdict (verdict_line_passes count cs) verdict_ruled l1 a (λ c. answer_of c.verdict ≡ answer) read is
      (λ c k e. ap answer_of e ∙ sym same)

  -- or not
  pub verdict_refuted : (l1 : Lines) (a : Verdict) (line : ℕ) (tried : Result Bool NoMemory) (r : Refusal) → SectionRead (one answer_line) l0 l1 a → line ≡ suc l0.taken
      → IfOk tried (λ yes. yes ≡ verdict_line_passes count cs a) → Untrue tried line verdict r → Refutes text r
  verdict_refuted = held_badly answer_line (λ a. one end_line) verdict_rules end_on_rules verdict_fields (HasColumns cs count) text l0 after verdict (verdict_line_passes count cs) verdict_ruled

  pub verdict_unread : (r : Refusal) → Breaks (one answer_line) l0 r → Refutes text r
  verdict_unread = held_breaks answer_line (λ a. one end_line) verdict_rules end_on_rules verdict_fields (HasColumns cs count) text l0 after verdict (verdict_line_passes count cs) verdict_ruled
