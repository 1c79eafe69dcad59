use Rattle.std.proofs.Common.{List, ℕ, subst, sym}
use Rattle.empty_domains.proofs.Ascending.{ascending_is}
use Rattle.empty_domains.specs.Found.{IsAscending}
use Rattle.obd_base.specs.Lists.{Once}
use Rattle.empty_domains.proofs.domains.ascending.Goals as goal

pub returns : goal.returns
returns c =
    let once : Once c.in_ok-sorted.sorted.items = subst (λ (zs : List ℕ). Once zs) (sym c.in_ok-sorted.ensures.items) c.requires in
    subst (λ (zs : List ℕ). IsAscending zs c.sort_unstable.new.self.items) c.in_ok-sorted.ensures.items
    (ascending_is c.in_ok-sorted.sorted.items c.sort_unstable.new.self.items once c.sort_unstable.ensures.permutation c.sort_unstable.ensures.sorted)
