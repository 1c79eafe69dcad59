-- The numbers of the generators to which domains lead are enough for the column.
use Rattle.std.proofs.Common.{◌≡◌, ℕ, ◌<◌, inl, inr, List, [], ◌∷◌, get_or, map, length, refl, sym, ap, ap₂, subst, arith}
use Rattle.boundary_map.proofs.LeadColumns.{odds_column}
use Rattle.boundary_map.specs.Odds.{IsOdds}
use Rattle.drawing.specs.Points.{generators}
use Rattle.empty_domains.specs.Leads.{IsWalk, Lead, lead}
use Rattle.hkm_diagram.specs.Domains.{column}
use Rattle.obd_base.specs.Lists.{Mem}
use Rattle.page_surface.specs.Drawing.{Drawing}

-- a number and a set
record Target : Type 0 where
  number : ℕ
  pieces : List ℕ

-- the numbers, each with the set of the lead at its place
abbrev paired : List ℕ → List Lead → List Target
paired [] leads = []
paired (n ∷ ns) [] = record { number = n; pieces = [] } ∷ paired ns []
paired (n ∷ ns) (l ∷ leads) = record { number = n; pieces = l.pieces } ∷ paired ns leads

-- their numbers are the numbers
paired_numbers : (ns : List ℕ) (leads : List Lead) → map (λ t. t.number) (paired ns leads) ≡ ns
paired_numbers [] leads = refl
paired_numbers (n ∷ ns) [] = ap (λ zs. n ∷ zs) (paired_numbers ns [])
paired_numbers (n ∷ ns) (l ∷ leads) = ap (λ zs. n ∷ zs) (paired_numbers ns leads)

module _ (d : Drawing) (y : List ℕ) where
  -- they are the leads again
  paired_leads : (ns : List ℕ) (leads : List Lead) → map (λ n. get_or (generators d) n []) ns ≡ map (λ l. l.to) leads
      → map (λ t. lead (get_or (generators d) t.number []) t.pieces) (paired ns leads) ≡ leads
  paired_leads [] [] e = refl
  paired_leads [] (l ∷ leads) e = absurd (let n : length (map (λ n. get_or (generators d) n []) []) ≡ length (map (λ (l : Lead). l.to) (l ∷ leads)) = ap length e in omega arith)
  paired_leads (n ∷ ns) [] e = absurd (let k : length (map (λ n. get_or (generators d) n []) (n ∷ ns)) ≡ length (map (λ (l : Lead). l.to) []) = ap length e in omega arith)
  paired_leads (n ∷ ns) (l ∷ leads) e = ap₂ (λ (u : Lead) us. u ∷ us) (first (get_or (generators d) n []) l heads) (paired_leads ns leads tails)
    where
      heads : get_or (generators d) n [] ≡ l.to
      heads = cc

      tails : map (λ n. get_or (generators d) n []) ns ≡ map (λ l. l.to) leads
      tails = cc

      first : (x : List ℕ) (l : Lead) → x ≡ l.to → lead x l.pieces ≡ l
      first x l q = rw q refl

  -- what stands an odd number of times among the numbers is the column
  pub targets_column : (leads : List Lead) → IsWalk d y leads → (numbers : List ℕ) → map (λ n. get_or (generators d) n []) numbers ≡ map (λ l. l.to) leads
      → ((n : ℕ) → Mem n numbers → n < length (generators d)) → (odds : List ℕ) → IsOdds numbers odds → odds ≡ column d y
  targets_column leads walk numbers e under odds is =
      odds_column d y (λ t. t.number) (λ t. t.pieces) (paired numbers leads)
      (subst (λ zs. IsWalk d y zs) (sym (paired_leads numbers leads e)) walk)
      (λ t m. under t.number (subst (λ zs. Mem t.number zs) (paired_numbers numbers leads) (into_map t (paired numbers leads) m)))
      odds (subst (λ ns. IsOdds ns odds) (sym (paired_numbers numbers leads)) is)
    where
      into_map : (t : Target) (ts : List Target) → Mem t ts → Mem t.number (map (λ t. t.number) ts)
      into_map t [] m = absurd m
      into_map t (u ∷ ts) (inl e) = inl (ap (λ (z : Target). z.number) e)
      into_map t (u ∷ ts) (inr m) = inr (into_map t ts m)
