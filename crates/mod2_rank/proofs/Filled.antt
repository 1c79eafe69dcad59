-- The written functional, row by row from the last one down, as a function and as a law of reduced columns.
use Rattle.std.proofs.Common.{◌≡◌, ℕ, zero, suc, ◌+◌, ◌<◌, ◌≤◌, Bool, true, false, cond, eqb, ◌&&◌, List, [], ◌∷◌, refl, sym, ◌∙◌, ap, subst, arith, ◌⊎◌, inl, inr, ◌≢◌}
use Rattle.std.specs.List.{count_by}
use Rattle.std.proofs.lemmas.Bool.{cases_eq, eq-eqb, ne_eqb, eqb-true, false≢true}
use Rattle.obd_base.specs.Lists.{is_odd, has, Mem}
use Rattle.mod2_rank.specs.Rows.{Rows, only, IsLeast}
use Rattle.mod2_rank.specs.Linear.{Ascends}
use Rattle.mod2_rank.proofs.Echelon.{lead_rows, Echelon}
use Rattle.mod2_rank.proofs.Ascending.{ascends_low, ascends_wider}
use Rattle.mod2_rank.proofs.PureRun.{Pivot}
use Rattle.mod2_rank.proofs.Built.{leads}
use Rattle.mod2_rank.proofs.Parity.{dot, dot_left, dot_same, dot_only, has_cons, odd_shared}

-- whether the functional has row r, by its rows above: at a pivot row the reduced column decides, else only the contact row t is in
abbrev pub decides_row : ℕ → List Pivot → ℕ → List ℕ → Bool
decides_row t [] r f = eqb r t
decides_row t (p ∷ ps) r f = cond (eqb r p.row) (is_odd (count_by (has f) p.reduced)) (decides_row t ps r f)

-- the functional on the k rows from r on
abbrev pub fill : ℕ → List Pivot → ℕ → ℕ → List ℕ
fill t ps r zero = []
fill t ps r (suc k) = let f = fill t ps (suc r) k in cond (decides_row t ps r f) (r ∷ f) f

-- the filled rows ascend
pub fill_ascends : (t : ℕ) (ps : List Pivot) (r k n : ℕ) → r + k ≤ n → Ascends r n (fill t ps r k)
fill_ascends t ps r zero n l = tt
fill_ascends t ps r (suc k) n l = go (decides_row t ps r (fill t ps (suc r) k)) (fill_ascends t ps (suc r) k n (omega arith))
  where
    go : (b : Bool) → Ascends (suc r) n (fill t ps (suc r) k) → Ascends r n (cond b (r ∷ fill t ps (suc r) k) (fill t ps (suc r) k))
    go true a = (omega arith, omega arith, a)
    go false a = ascends_wider (fill t ps (suc r) k) (suc r) n r n a (omega arith) (omega arith)

-- the test of the longer list
pub fill_test : (t : ℕ) (ps : List Pivot) (r k x : ℕ) → has (fill t ps r (suc k)) x ≡ cond (eqb x r) (decides_row t ps r (fill t ps (suc r) k)) (has (fill t ps (suc r) k) x)
fill_test t ps r k x = go (decides_row t ps r (fill t ps (suc r) k)) (eqb x r) refl
  where
    low : eqb x r ≡ true → has (fill t ps (suc r) k) x ≡ false
    low e = ascends_low (fill t ps (suc r) k) (suc r) (suc r + k) x (fill_ascends t ps (suc r) k (suc r + k) (omega arith)) (let q : x ≡ r = eqb-true x r e in omega arith)

    go : (b c : Bool) → eqb x r ≡ c → has (cond b (r ∷ fill t ps (suc r) k) (fill t ps (suc r) k)) x ≡ cond c b (has (fill t ps (suc r) k) x)
    go true true e = rw e refl
    go true false e = rw e refl
    go false true e = low e
    go false false e = refl

-- at the row of a pivot its reduced column decides
pub decides_at : (t : ℕ) (ps : List Pivot) (p : Pivot) (f : List ℕ) → Echelon (leads ps) → Mem p ps → decides_row t ps p.row f ≡ is_odd (count_by (has f) p.reduced)
decides_at t [] p f e m = absurd m
decides_at t (q ∷ ps) p f e (inl h) = rw (eq-eqb p.row q.row (ap (λ (z : Pivot). z.row) h), h) refl
decides_at t (q ∷ ps) p f e (inr m) = rw (ne_eqb p.row q.row (λ h. e.1 (subst (λ w. Mem w (lead_rows (leads ps))) h (row_mem p ps m))), decides_at t ps p f e.2 m) refl
  where
    row_mem : (p : Pivot) (ps : List Pivot) → Mem p ps → Mem p.row (lead_rows (leads ps))
    row_mem p [] m = absurd m
    row_mem p (q ∷ ps) (inl h) = inl (ap (λ (z : Pivot). z.row) h)
    row_mem p (q ∷ ps) (inr m) = inr (row_mem p ps m)

-- at a row of no pivot the contact row alone is in
pub decides_off : (t : ℕ) (ps : List Pivot) (r : ℕ) (f : List ℕ) → (Mem r (lead_rows (leads ps)) → ⊥) → decides_row t ps r f ≡ eqb r t
decides_off t [] r f out = refl
decides_off t (q ∷ ps) r f out = rw (ne_eqb r q.row (λ h. out (inl h)), decides_off t ps r f (λ m. out (inr m))) refl

-- even on the reduced column of each pivot whose row is filled
pub fill_even : (t : ℕ) (ps : List Pivot) (p : Pivot) (n r k : ℕ) → Echelon (leads ps) → Mem p ps → Ascends 0 n p.reduced → IsLeast (has p.reduced) p.row
    → r + k ≡ n → r ≤ p.row → p.row < n → dot n (has (fill t ps r k)) (has p.reduced) ≡ false
fill_even t ps p n r zero e m a l q lo hi = absurd (omega arith)
fill_even t ps p n r (suc k) e m a l q lo hi = elim (cases_eq r p.row) [
  | inr ne ↦ dot_same n (has (fill t ps r (suc k))) (has p.reduced) (has (fill t ps (suc r) k)) (has p.reduced) (λ x lx. elsewhere x ne)
      ∙ fill_even t ps p n (suc r) k e m a l (omega arith) (omega arith) hi
  | inl h ↦ here h (is_odd (count_by (has (fill t ps (suc r) k)) p.reduced)) refl
]
  where
    off : (b : Bool) → (b && false) ≡ false
    off true = refl
    off false = refl

    elsewhere : (x : ℕ) → (r ≢ p.row) → (has (fill t ps r (suc k)) x && has p.reduced x) ≡ (has (fill t ps (suc r) k) x && has p.reduced x)
    elsewhere x ne = elim (cases_eq x r) [
      | inl z ↦
          let v : has p.reduced x ≡ false = l.below x (omega arith) in
          rw v (off (has (fill t ps r (suc k)) x) ∙ sym (off (has (fill t ps (suc r) k) x)))
      | inr z ↦ let c : has (fill t ps r (suc k)) x ≡ has (fill t ps (suc r) k) x = (fill_test t ps r k x ∙ rw (ne_eqb x r z) refl) in rw c refl
    ]

    here : r ≡ p.row → (b : Bool) → is_odd (count_by (has (fill t ps (suc r) k)) p.reduced) ≡ b → dot n (has (fill t ps r (suc k))) (has p.reduced) ≡ false
    here h b o = finish b (decided ∙ o) (sym (odd_shared n (has (fill t ps (suc r) k)) p.reduced 0 a) ∙ o)
      where
        decided : decides_row t ps r (fill t ps (suc r) k) ≡ is_odd (count_by (has (fill t ps (suc r) k)) p.reduced)
        decided = subst (λ w. decides_row t ps w (fill t ps (suc r) k) ≡ is_odd (count_by (has (fill t ps (suc r) k)) p.reduced)) (sym h) (decides_at t ps p (fill t ps (suc r) k) e m)

        finish : (b : Bool) → decides_row t ps r (fill t ps (suc r) k) ≡ b → dot n (has (fill t ps (suc r) k)) (has p.reduced) ≡ b → dot n (has (fill t ps r (suc k))) (has p.reduced) ≡ false
        finish false d o = rw d o
        finish true d o =
            let asc : Ascends (suc r) n (fill t ps (suc r) k) = fill_ascends t ps (suc r) k n (omega arith) in
            let own : has p.reduced r ≡ true = subst (λ w. has p.reduced w ≡ true) (sym h) l.on in
            let one : dot n (only r) (has p.reduced) ≡ true = comm n (only r) (has p.reduced) ∙ (dot_only n (has p.reduced) r (omega arith) ∙ own) in
            rw d (ap (λ (w : Rows). dot n w (has p.reduced)) (has_cons r (fill t ps (suc r) k) n asc)
            ∙ (dot_left n (only r) (has (fill t ps (suc r) k)) (has p.reduced) ∙ rw (one, o) refl))
          where
            swap : (a b : Bool) → (a && b) ≡ (b && a)
            swap true true = refl
            swap true false = refl
            swap false true = refl
            swap false false = refl

            comm : (n : ℕ) (f v : Rows) → dot n f v ≡ dot n v f
            comm zero f v = refl
            comm (suc n) f v = rw (comm n f v, swap (f n) (v n)) refl

-- the contact row is in where it is no pivot row
pub fill_contact : (t : ℕ) (ps : List Pivot) (r k : ℕ) → (Mem t (lead_rows (leads ps)) → ⊥) → r ≤ t → t < r + k → has (fill t ps r k) t ≡ true
fill_contact t ps r zero out lo hi = absurd (omega arith)
fill_contact t ps r (suc k) out lo hi = elim (cases_eq t r) [
  | inl e ↦ fill_test t ps r k t ∙ rw (eq-eqb t r e) (subst (λ w. decides_row t ps w (fill t ps (suc r) k) ≡ true) e (decides_off t ps t (fill t ps (suc r) k) out ∙ eq-eqb t t refl))
  | inr ne ↦ fill_test t ps r k t ∙ rw (ne_eqb t r ne) (fill_contact t ps (suc r) k out (omega arith) (omega arith))
]

-- no row is in that is neither a pivot row nor the contact row
pub fill_support : (t : ℕ) (ps : List Pivot) (r k x : ℕ) → has (fill t ps r k) x ≡ true → (x ≡ t) ⊎ Mem x (lead_rows (leads ps))
fill_support t ps r zero x h = absurd (false≢true h)
fill_support t ps r (suc k) x h = elim (cases_eq x r) [
  | inl e ↦ elim (decided ps) [
    | inl m ↦ inr (subst (λ w. Mem w (lead_rows (leads ps))) (sym e) m)
    | inr q ↦ inl (e ∙ eqb-true r t (sym q ∙ at e))
  ]
  | inr ne ↦ fill_support t ps (suc r) k x (sym (fill_test t ps r k x ∙ rw (ne_eqb x r ne) refl) ∙ h)
]
  where
    at : x ≡ r → decides_row t ps r (fill t ps (suc r) k) ≡ true
    at e = sym (fill_test t ps r k x ∙ rw (eq-eqb x r e) refl) ∙ h

    decided : (qs : List Pivot) → Mem r (lead_rows (leads qs)) ⊎ (decides_row t qs r (fill t ps (suc r) k) ≡ eqb r t)
    decided [] = inr refl
    decided (q ∷ qs) = elim (cases_eq r q.row) [
      | inl z ↦ inl (inl z)
      | inr z ↦ elim (decided qs) [ inl m ↦ inl (inr m) | inr w ↦ inr (rw (ne_eqb r q.row z) w) ]
    ]
