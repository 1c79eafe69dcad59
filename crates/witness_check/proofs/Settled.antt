-- Rows that were read and tried, and what their refusal says of the text.
use Rattle.std.proofs.Common.{◌≡◌, ℕ, suc, ◌+◌, ◌<◌, ◌≤◌, ◌^◌, List, [], ◌∷◌, ◌++◌, length, Option, Some, None, refl, sym, ◌∙◌, ap, subst, arith, append-nil}
use Rattle.std.specs.Prelude.{Result, Ok, Err}
use Rattle.witness_check.specs.declared.certificate.Certificate.{Certificate}
use Rattle.witness_check.specs.declared.checked.Checked.TheVariants.{Bad as bad}
use Rattle.witness_check.specs.declared.checked.Reason.TheVariants.{Form as form}
use Rattle.witness_check.specs.declared.fault.Fault.{Fault}
use Rattle.witness_check.specs.declared.fault.Refusal.{Refusal}
use Rattle.witness_check.specs.declared.fault.Refusal.TheVariants.{Bad as badly, NoMemory as no_memory}
use Rattle.witness_check.specs.declared.fault.Stop.{Stop}
use Rattle.witness_check.specs.declared.fault.Stop.TheVariants.{Fault as stopped, NoMemory as no_room}
use Rattle.witness_check.specs.Between.{After, Refutes}
use Rattle.witness_check.specs.Checked.{checked, first_fault}
use Rattle.witness_check.specs.Forms.{LineForm, Section, both, rows}
use Rattle.witness_check.specs.Passing.{Lines, RowsRead}
use Rattle.witness_check.specs.Rules.{Rule, each}
use Rattle.witness_check.specs.Settling.{Behind, Broken, FaultFrom, Settles}
use Rattle.witness_check.proofs.Staged.{each_count, fault_within, rows_break, rows_break_fault, rows_fault, rows_few, rows_passed}

module _ {A B : Type 0} (shape : ℕ → LineForm A) (n : ℕ) (t : List A → Section B) (own : Certificate → ℕ → A → List Rule) (rest : Certificate → List (List Rule)) (fields : Certificate → List A × B) (known : Certificate → Type 0)
    (text : List ℕ) (l0 : Lines) (after : After (both (rows shape n) t) (λ c. each (own c) (fields c).0 ++ rest c) fields known text l0) (l1 : Lines) (xs : List A) where
  -- what the rows that were read come to, in every certificate that goes on so
  abbrev pub Finds : Option ℕ → Option Fault → Type 0
  Finds breaks found = (c : Certificate) → known c → (more : List A) → Behind breaks more → (fields c).0 ≡ xs ++ more → first_fault (each (own c) xs) ≡ found

  whole_finds : (found : Option Fault) → Finds None found → (c : Certificate) → known c → (fields c).0 ≡ xs → first_fault (each (own c) xs) ≡ found
  whole_finds found finds c k e = finds c k [] refl (e ∙ sym (append-nil xs))

  broken_finds : (line : ℕ) (found : Option Fault) → Finds (Some line) found → (c : Certificate) → known c → (next : A) (more : List A) → (fields c).0 ≡ xs ++ next ∷ more → first_fault (each (own c) xs) ≡ found
  broken_finds line found finds c k next more e = finds c k (next ∷ more) (next, more, refl) e

  -- all rows are read, and keep their rules
  pub settled_well : (breaks : Option ℕ) (next : Certificate → Type 0) → RowsRead shape n l0 l1 xs breaks → breaks ≡ None → Finds breaks None
      → ((c : Certificate) → known c → (fields c).0 ≡ xs → next c) → After (t xs) rest (λ c. (fields c).1) next text l1
  settled_well None next read whole finds knows = rows_passed shape n t own rest fields known text l0 after l1 xs next read (whole_finds None finds) knows
  settled_well (Some line) next read whole finds knows = absurd cc

  -- one of them breaks a rule
  at_fault : (breaks : Option ℕ) (fault : Fault) → RowsRead shape n l0 l1 xs breaks → Finds breaks (Some fault) → checked text ≡ bad (suc (l0.taken + fault.at)) fault.reason
  at_fault None fault read finds = rows_fault shape n t own rest fields known text l0 after l1 xs fault read (whole_finds (Some fault) finds)
  at_fault (Some line) fault read finds = rows_break_fault shape n t own rest fields known text l0 after l1 xs line fault read (broken_finds line (Some fault) finds)

  -- the fault is at one of the rows, since there is some certificate that goes on so
  within : (breaks : Option ℕ) (fault : Fault) → Finds breaks (Some fault) → fault.at < length xs
  within None fault finds =
      let b = (t xs).blank in
      let c = after.to (xs, b) in
      subst (λ k. fault.at < k) (each_count (own c) xs)
      (fault_within (each (own c) xs) fault (whole_finds (Some fault) finds c (after.knows (xs, b)) (ap (λ p. p.0) (after.fields_are (xs, b)))))
  within (Some line) fault finds =
      let more = (shape 0).blank ∷ [] in
      let b = (t (xs ++ more)).blank in
      let c = after.to (xs ++ more, b) in
      subst (λ k. fault.at < k) (each_count (own c) xs)
      (fault_within (each (own c) xs) fault (broken_finds line (Some fault) finds c (after.knows (xs ++ more, b)) (shape 0).blank [] (ap (λ p. p.0) (after.fields_are (xs ++ more, b)))))

  pub fault_refutes : (first : ℕ) (breaks : Option ℕ) (fault : Fault) (r : Refusal) → first ≡ suc l0.taken → l0.taken + length l0.left + 1 < 2 ^ 32 → RowsRead shape n l0 l1 xs breaks → Finds breaks (Some fault)
      → FaultFrom first fault r → Refutes text r
  fault_refutes first breaks fault r at few read finds is =
      let inside : fault.at < length xs = within breaks fault finds in
      let left : length xs ≤ length l0.left = rows_few shape n l0 l1 xs breaks read in
      let bound : first + fault.at < 2 ^ 32 = omega (arith, at, few, inside, left) in
      let number : suc (l0.taken + fault.at) ≡ first + fault.at = omega (arith, at) in
      subst (Refutes text) (sym (is bound)) (at_fault breaks fault read finds ∙ ap (λ k. bad k fault.reason) number)

  -- or a line lacks its form, behind rows that keep their rules
  pub break_refutes : (line : ℕ) → RowsRead shape n l0 l1 xs (Some line) → Finds (Some line) None → Refutes text (badly line form)
  break_refutes line read finds = rows_break shape n t own rest fields known text l0 after l1 xs line read (broken_finds line None finds)

  -- so the refusal of rows that break off is right
  pub broken_refutes : (first : ℕ) (fault : Option Fault) (line : ℕ) (r : Refusal) → first ≡ suc l0.taken → l0.taken + length l0.left + 1 < 2 ^ 32 → RowsRead shape n l0 l1 xs (Some line)
      → Finds (Some line) fault → Broken first fault line r → Refutes text r
  broken_refutes first (Some fault) line r at few read finds is = fault_refutes first (Some line) fault r at few read finds is
  broken_refutes first None line r at few read finds is = subst (Refutes text) (sym is) (break_refutes line read finds)

  -- and that of rows that were tried
  pub settled_badly : {T : Type 0} (first : ℕ) (tried : Result T Stop) (breaks : Option ℕ) (r : Refusal) → first ≡ suc l0.taken → l0.taken + length l0.left + 1 < 2 ^ 32 → RowsRead shape n l0 l1 xs breaks
      → ((made : T) → tried ≡ Ok made → Finds breaks None) → ((fault : Fault) → tried ≡ Err (stopped fault) → Finds breaks (Some fault)) → Settles first tried breaks r → Refutes text r
  settled_badly first (Err (stopped fault)) breaks r at few read well ill is = fault_refutes first breaks fault r at few read (ill fault refl) is
  settled_badly first (Err no_room) breaks r at few read well ill is = subst (Refutes text) (sym is) tt
  settled_badly first (Ok made) (Some line) r at few read well ill is = subst (Refutes text) (sym is) (break_refutes line read (well made refl))
  settled_badly first (Ok made) None r at few read well ill is = absurd is

-- what a stop's refusal says
pub stop_settles : {T : Type 0} (first : ℕ) (tried : Result T Stop) (breaks : Option ℕ) (stop : Stop) (r : Refusal) → tried ≡ Err stop
    → ((fault : Fault) → stop ≡ stopped fault → FaultFrom first fault r) → (stop ≡ no_room → r ≡ no_memory) → Settles first tried breaks r
stop_settles {T = T} first tried breaks (stopped fault) r is at none = subst (λ (z : Result T Stop). Settles first z breaks r) (sym is) (at fault refl)
stop_settles {T = T} first tried breaks no_room r is at none = subst (λ (z : Result T Stop). Settles first z breaks r) (sym is) (none refl)
