-- The rows of a set taken out into a list, from the least on.
use Rattle.std.proofs.Common.{◌≡◌, ◌⊎◌, ℕ, suc, ◌+◌, ◌<◌, ◌≤◌, false, eqb, List, [], ◌∷◌, ◌++◌, refl, sym, ◌∙◌, ap, subst, arith, inl, inr}
use Rattle.std.proofs.lemmas.Bool.{cases_eq, cases_lt, eq-eqb, ne_eqb, false≢true}
use Rattle.obd_base.specs.Lists.{has}
use Rattle.mod2_rank.specs.Linear.{Ascends}
use Rattle.mod2_rank.specs.Reduction.{IsTaken}
use Rattle.mod2_rank.specs.Rows.{Rows, none, only, differ, plus, IsLeast}
use Rattle.mod2_rank.proofs.Vectors.{plus_assoc, plus_comm, plus_none, plus_twice}
use Rattle.mod2_rank.proofs.Ascending.{ascends_wider}
use Rattle.mod2_rank.proofs.Reducing.{odd_times_ascending, odd_times_push}

-- before the first
pub taken_first : (rows : ℕ) (v : Rows) (low : ℕ) (out : List ℕ) → out ≡ [] → ((k : ℕ) → k < low → v k ≡ false) → ((k : ℕ) → rows ≤ k → v k ≡ false) → IsTaken rows v low out v
taken_first rows v low out e clear inside = subst (λ us. IsTaken rows v low us v) (sym e) (record { ascends = tt; same = refl; clear = clear; inside = inside })

-- an ascending list with a greater number at its end
pub ascends_push : (xs : List ℕ) (from low x high : ℕ) → Ascends from low xs → from ≤ x → low ≤ x → x < high → Ascends from high (xs ++ x ∷ [])
ascends_push [] from low x high a f l h = (f, h, tt)
ascends_push (y ∷ ys) from low x high a f l h = (a.0, omega arith, ascends_push ys (suc y) low x high a.2 (omega arith) l h)

module _ (rows : ℕ) (whole : Rows) (low : ℕ) (out : List ℕ) (rest : Rows) (taken : IsTaken rows whole low out rest) (r : ℕ) (least : IsLeast rest r) where
  -- the least row isn't below
  pub taken_above : low ≤ r
  taken_above = elim (cases_lt r low) [ inl h ↦ absurd (false≢true (sym (taken.clear r h) ∙ least.on)) | inr h ↦ h ]

  -- and is a row
  pub taken_inside : r < rows
  taken_inside = elim (cases_lt r rows) [ inl h ↦ h | inr h ↦ absurd (false≢true (sym (taken.inside r h) ∙ least.on)) ]

  -- one more
  pub taken_next : (us : List ℕ) (now : Rows) → us ≡ out ++ r ∷ [] → now ≡ plus rest (only r) → IsTaken rows whole (r + 1) us now
  taken_next us now e f = subst (λ xs. IsTaken rows whole (r + 1) xs now) (sym e) (subst (λ (v : Rows). IsTaken rows whole (r + 1) (out ++ r ∷ []) v) (sym f) (record {
    ascends = pushed;
    same = taken.same ∙ sym (ap (λ (v : Rows). plus v (plus rest (only r))) more ∙ (ap (plus (plus (has out) (only r))) (plus_comm rest (only r)) ∙ shuffle));
    clear = λ k l. gone k (cases_eq k r) l;
    inside = λ k l. rw (taken.inside k l) (ne_eqb k r (λ q. omega (arith, taken_inside)));
  }))
    where
      pushed : Ascends 0 (r + 1) (out ++ r ∷ [])
      pushed = ascends_push out 0 low r (r + 1) taken.ascends (omega arith) taken_above (omega arith)

      more : has (out ++ r ∷ []) ≡ plus (has out) (only r)
      more = sym (odd_times_ascending (out ++ r ∷ []) 0 (r + 1) pushed) ∙ (odd_times_push out r ∙ ap (λ (v : Rows). plus v (only r)) (odd_times_ascending out 0 low taken.ascends))

      shuffle : plus (plus (has out) (only r)) (plus (only r) rest) ≡ plus (has out) rest
      shuffle = sym (plus_assoc (plus (has out) (only r)) (only r) rest) ∙ ap (λ (v : Rows). plus v rest) (plus_twice (has out) (only r))

      gone : (k : ℕ) → (k ≡ r) ⊎ (k ≡ r → ⊥) → k < r + 1 → differ (rest k) (eqb k r) ≡ false
      gone k (inl q) l = rw (q, least.on, eq-eqb r r refl) refl
      gone k (inr ne) l = rw (least.below k (omega arith)) (ne_eqb k r ne)

-- at the end the list is the set
pub taken_last : (rows : ℕ) (whole : Rows) (low : ℕ) (out : List ℕ) (rest : Rows) → IsTaken rows whole low out rest → low ≤ rows → rest ≡ none → Ascends 0 rows out × (has out ≡ whole)
taken_last rows whole low out rest taken l e =
    (ascends_wider out 0 low 0 rows taken.ascends (omega arith) l, sym (taken.same ∙ (ap (plus (has out)) e ∙ plus_none (has out))))
