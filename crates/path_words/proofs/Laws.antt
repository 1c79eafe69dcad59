-- The laws of words and of the action of a twist on them.
use Rattle.std.proofs.Common.{◌≡◌, ℕ, ◌<◌, List, [], refl, sym, ◌∙◌, subst, inl, inr}
use Rattle.std.specs.List.{flat_map}
use Rattle.obd_base.specs.Lists.{Mem, below}
use Rattle.obd_base.specs.declared.points.Exit.{Exit}
use Rattle.obd_base.specs.declared.points.Sign.{Sign}
use Rattle.obd_base.proofs.lists.Members.{mem_append, mem_left, mem_right}
use Rattle.page_surface.specs.Polygon.{Pairs, Polygon, sides}
use Rattle.page_surface.specs.Words.{IsReducedForm, Step, reduced}
use Rattle.page_surface.proofs.WordLaws.{has_reduced_form, one_reduced_form, reduced_step}
use Rattle.curve_paths.specs.Curves.{IsCurve, image, push_at}
use Rattle.path_words.proofs.CurveWords.{once_round as product_once_round}
use Rattle.path_words.proofs.ImageProduct.{image_alike}
use Rattle.curve_paths.proofs.Letters.{from_cancelled}
use Rattle.path_words.proofs.SideLetters.{AreSides, reduced_is, side_letters}
use Rattle.path_words.proofs.Stacks.{reduced_again}

-- every word has exactly one reduced form
pub one_form : (p : Polygon) → Pairs p → (w : List ℕ) → IsReducedForm p w (reduced p w) × ((r : List ℕ) → IsReducedForm p w r → r ≡ reduced p w)
one_form p ok w = (has_reduced_form p w, one_reduced_form p ok w)

module _ (p : Polygon) (ok : Pairs p) (c : List Exit) (curve : IsCurve p c) (sign : Sign) where
  -- the product of the pushes over all sides, once round, reduces to nothing
  pub once_round : reduced p (flat_map (push_at p c sign) (below (sides p))) ≡ []
  once_round = reduced_is p ok (flat_map (push_at p c sign) (below (sides p))) ∙ product_once_round p ok c curve sign

  -- words with one reduced form have images with one reduced form
  pub image_respects : (w v : List ℕ) (from to : ℕ) → AreSides p w → AreSides p v → from < sides p → to < sides p → reduced p w ≡ reduced p v
      → reduced p (image p c sign w from to) ≡ reduced p (image p c sign v from to)
  image_respects w v from to hw hv lf lt e =
      let alike = sym (reduced_is p ok w) ∙ (e ∙ reduced_is p ok v) in
      reduced_is p ok (image p c sign w from to)
      ∙ (image_alike p ok c curve sign w v from to hw hv lf lt alike ∙ sym (reduced_is p ok (image p c sign v from to)))

  -- so do a word and the word to which a step leads
  pub image_of_step : (w v : List ℕ) (from to : ℕ) → AreSides p w → from < sides p → to < sides p → Step p w v
      → reduced p (image p c sign w from to) ≡ reduced p (image p c sign v from to)
  image_of_step w v from to in_range lf lt step = image_respects w v from to in_range (left step) lf lt (reduced_step p ok w v step)
    where
      left : Step p w v → AreSides p v
      left (a, b, k, e, f) s m =
          in_range s
          (subst (Mem s) (sym e)
          (elim (mem_append s a b (subst (Mem s) f m)) [ inl h ↦ mem_left s a _ h | inr h ↦ mem_right s a _ (inr (inr h)) ]))

  -- and a word and its reduced form: a word may be reduced before the action
  pub image_reduced : (w : List ℕ) (from to : ℕ) → AreSides p w → from < sides p → to < sides p
      → reduced p (image p c sign (reduced p w) from to) ≡ reduced p (image p c sign w from to)
  image_reduced w from to in_range lf lt = image_respects (reduced p w) w from to letters in_range lf lt (reduced_again p (reduced p w) w refl)
    where
      letters : AreSides p (reduced p w)
      letters s m = in_range s (from_cancelled (side_letters p ok) w s (subst (Mem s) (reduced_is p ok w) m))
