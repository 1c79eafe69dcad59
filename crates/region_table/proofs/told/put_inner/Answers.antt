use Rattle.std.proofs.Common.{ℕ, Bool, Vec, Global, not, refl, ◌∙◌, sym, ap, arith}
use Rattle.std.specs.Prelude.{vec_capacity, vec_len}
use Rattle.region_table.specs.Table.{Region, region_in}
use Rattle.region_table.proofs.MadeTable.{inner_short}
use Rattle.region_table.proofs.ToldSteps.{failing_more, passing_more}
use Rattle.region_table.proofs.told.put_inner.Goals as goal
use Rattle.region_table.proofs.told.put_inner.Goals.{then-not-region, else-not-region}

pub loop-name-init : goal.loop-name-init
loop-name-init c =
    let inner = c.args.inner.now in
    record { so_far = c.requires.so_far; short = omega (arith, inner_short inner.items c.args.told.now.regions c.args.from c.requires.so_far, inner.ok); room = refl }

pub loop-name-preserved : goal.loop-name-preserved
loop-name-preserved c =
    let v = c.loop-name.invariant in
    let base = ap (λ (r : Region). r.base) (c.region.view_is ∙ c.region-region.ensures) in
    elim c.if-not-region.branch [
      | then-not-region w ↦ record {
        so_far = passing_more inner n w.new.result _ _ v.so_far w.new.ensures (ap not (sym base) ∙ w.if-not-region.true) (ap (λ (x : Vec ℕ Global). x.items) w.inner-is ∙ w.push_reserved.ensures.items);
        short = omega (arith, ap (λ (x : Vec ℕ Global). vec_len x) w.inner-is, w.push_reserved.ensures.len, v.short);
        room = ap (λ (x : Vec ℕ Global). vec_capacity x) w.inner-is ∙ (w.push_reserved.ensures.capacity ∙ v.room);
      }
      | else-not-region w ↦ record {
        so_far = ap (λ (x : Vec ℕ Global). x.items) w.inner-is ∙ failing_more inner n _ v.so_far (ap not (sym base) ∙ w.if-not-region.false);
        short = omega (arith, ap (λ (x : Vec ℕ Global). vec_len x) w.inner-is, v.short);
        room = ap (λ (x : Vec ℕ Global). vec_capacity x) w.inner-is ∙ v.room;
      }
    ]
  where
    n : ℕ
    n = c.loop-name.name

    inner : ℕ → Bool
    inner p = not (region_in c.args.told.now.regions p).base
