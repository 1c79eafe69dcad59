use Rattle.std.proofs.Common.{◌≡◌, ℕ, List, Vec, Global, length, refl, sym, subst, arith}
use Rattle.region_table.specs.Rows.{HaveRoom}
use Rattle.region_table.proofs.ToldTables.{written}
use Rattle.region_table.proofs.rows.Rows.reserve.Goals as goal

pub invariant_of-self : goal.invariant_of-self
invariant_of-self c =
    let room = c.self.inside.room in
    let long : c.self.inside.rows.len ≡ length c.reserve_rows.new.rows = omega (arith, c.in_err-reserve_rows.ensures.size, c.deref_mut.ensures.len) in
    let was = subst (λ (rs : List (Vec ℕ Global)). HaveRoom rs room) (sym c.deref_mut.ensures.value) c.self.invariant in
    subst (λ (rs : List (Vec ℕ Global)). HaveRoom rs room) (sym (written c.reserve_rows.new.rows _ _ _ long refl)) (c.in_err-reserve_rows.ensures.kept room was)

pub invariant_of-self-else-self-fingers : goal.invariant_of-self-else-self-fingers
invariant_of-self-else-self-fingers c =
    let room = c.self.inside.room in
    let long : c.self.inside.rows.len ≡ length c.reserve_rows.new.rows = omega (arith, c.in_ok-reserve_rows.ensures.size, c.deref_mut.ensures.len) in
    let was = subst (λ (rs : List (Vec ℕ Global)). HaveRoom rs room) (sym c.deref_mut.ensures.value) c.self.invariant in
    subst (λ (rs : List (Vec ℕ Global)). HaveRoom rs room) (sym (written c.reserve_rows.new.rows _ _ _ long refl)) (c.in_ok-reserve_rows.ensures.kept room was)
