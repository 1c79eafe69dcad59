use Rattle.std.proofs.Common.{[], ◌∷◌, refl, subst, sym}
use Rattle.page_surface.specs.Drawing.{Drawing, identity}
use Rattle.page_surface.specs.Polygon.{paired}
use Rattle.region_table.proofs.Tests.{nice_from_test}
use Rattle.region_table.specs.Nice.{IsNice}
use Rattle.empty_domains.proofs.tests.two_bigons_of_the_untwisted_annulus.Goals as goal

pub finds-requires-clause-nice : goal.finds-requires-clause-nice
finds-requires-clause-nice g c = subst (λ (w : Drawing). IsNice w) (sym c.in_ok-diagram.ensures) (nice_from_test (identity (paired (1 ∷ 0 ∷ []))) refl)
