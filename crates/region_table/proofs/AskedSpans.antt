-- Spans counted by their names one by one, as code goes along.
use Rattle.std.proofs.Common.{◌≡◌, ◌≢◌, ℕ, suc, ◌+◌, eqb, ◌∙◌, ap, arith}
use Rattle.std.proofs.lemmas.Bool.{eq-eqb, ne_eqb}
use Rattle.obd_base.proofs.lists.Below.{bit, count_suc}
use Rattle.region_table.specs.Counted.{size_so_far}

module _ (name : ℕ → ℕ) (s p : ℕ) where
  -- one span more
  size_more : size_so_far name (s + 1) p ≡ size_so_far name s p + bit (eqb (name s) p)
  size_more =
      let h : s + 1 ≡ suc s = omega arith in
      ap (λ k. size_so_far name k p) h ∙ count_suc (λ r. eqb (name r) p) s

  -- a span with the name is one more of it
  pub size_met : name s ≡ p → size_so_far name (s + 1) p ≡ size_so_far name s p + 1
  size_met e = omega (arith, size_more, ap bit (eq-eqb (name s) p e))

  -- and a span with another name is none
  pub size_kept : name s ≢ p → size_so_far name (s + 1) p ≡ size_so_far name s p
  size_kept n = omega (arith, size_more, ap bit (ne_eqb (name s) p n))
