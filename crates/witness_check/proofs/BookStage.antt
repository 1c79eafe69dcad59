-- What is known of a text behind the slides, of curves in a list that is lent.
use Rattle.std.proofs.Common.{◌≡◌, ℕ, List, subst, sym}
use Rattle.page_surface.specs.Labels.{Label}
use Rattle.curve_paths.specs.declared.named.NamedPath.{NamedPath}
use Rattle.handle_slide.specs.declared.slid.Slid.{Slid}
use Rattle.witness_check.specs.Between.{AfterSlides}
use Rattle.witness_check.specs.Passing.{Lines}

pub lent_curves : (page : List (List Label)) (lent curves : List NamedPath) (s : Slid) (text : List ℕ) (lines : Lines) → lent ≡ curves → AfterSlides page curves s text lines → AfterSlides page lent s text lines
lent_curves page lent curves s text lines same after = subst (λ (cs : List NamedPath). AfterSlides page cs s text lines) (sym same) after
