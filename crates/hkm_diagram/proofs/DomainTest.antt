-- The test of a domain tells the facts of one.
use Rattle.std.proofs.Common.{◌≡◌, ℕ, zero, suc, arith, ◌+◌, ◌*◌, ◌<◌, Bool, true, false, List, length, refl}
use Rattle.std.specs.Bool.{Decides}
use Rattle.std.specs.List.{list_all, sum_by, range_with_len}
use Rattle.std.proofs.lemmas.Bool.Decides.{Decides-eqb, Decides-and, Decides-like}
use Rattle.std.proofs.lemmas.Bool.{and_from}
use Rattle.obd_base.specs.Lists.{below, Mem, parts}
use Rattle.page_surface.specs.Polygon.{arc_count}
use Rattle.page_surface.specs.Drawing.{Drawing}
use Rattle.drawing.specs.Pieces.{piece_table, corners, inner_pieces}
use Rattle.drawing.specs.Points.{crossings_of}
use Rattle.hkm_diagram.specs.Domains.{PointRule, IsDomain, rule_at, is_domain, keeps_rule, moved}
use Rattle.obd_base.proofs.lists.Below.{all_below}

-- the rule at a point
rule_decides : (b c : Bool) (out into : ℕ) → Decides (rule_at b c out into) (PointRule b c out into)
rule_decides true false out into = Decides-and _ _ (Decides-eqb out 1) (Decides-eqb into 0)
rule_decides false true out into = Decides-and _ _ (Decides-eqb out 0) (Decides-eqb into 1)
rule_decides true true out into = Decides-and _ _ (Decides-eqb out 0) (Decides-eqb into 0)
rule_decides false false out into = Decides-eqb out into

-- what holds at each number of a range, as a test
below_all : (p : ℕ → Bool) (a n : ℕ) → ((k : ℕ) → k < a + n → p k ≡ true) → list_all p (range_with_len a n) ≡ true
below_all p a zero h = refl
below_all p a (suc n) h = and_from _ _ (h a (omega arith)) (below_all p (a + 1) n (λ k l. h k (omega arith)))

-- of a part of the inner pieces
pub is_domain_decides : (d : Drawing) (y x set : List ℕ) → Mem set (parts (inner_pieces d)) → Decides (is_domain d (piece_table d) y x set) (IsDomain d y x set)
is_domain_decides d y x set part = Decides-like _ there back (Decides-and _ _ (Decides-eqb (4 * length set + moved d y x) (4 + sum_by (corners d) set)) all)
  where
    Rules : Type 0
    Rules = (a : ℕ) → a < arc_count d.polygon → (j : ℕ) → j < suc (crossings_of d a) → keeps_rule d (piece_table d) y x set a j ≡ true

    all : Decides (list_all (λ a. list_all (keeps_rule d (piece_table d) y x set a) (below (suc (crossings_of d a)))) (below (arc_count d.polygon))) Rules
    all = (
      λ h a la j lj. all_below (keeps_rule d (piece_table d) y x set a) (suc (crossings_of d a)) (all_below (λ a. list_all (keeps_rule d (piece_table d) y x set a) (below (suc (crossings_of d a)))) (arc_count d.polygon) h a la) j lj,
      λ h. below_all _ 0 (arc_count d.polygon) (λ a la. below_all _ 0 (suc (crossings_of d a)) (λ j lj. h a (omega arith) j (omega arith))),
    )

    there : (4 * length set + moved d y x ≡ 4 + sum_by (corners d) set) × Rules → IsDomain d y x set
    there (e, h) = record { inner = part; corners_add_up = e; rules = λ a la j lj. (rule_decides _ _ _ _).0 (h a la j lj) }

    back : IsDomain d y x set → (4 * length set + moved d y x ≡ 4 + sum_by (corners d) set) × Rules
    back h = (h.corners_add_up, λ a la j lj. (rule_decides _ _ _ _).1 (h.rules a la j lj))
