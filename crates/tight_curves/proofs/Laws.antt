-- The laws of curves made tight.
use Rattle.std.specs.Prelude.{◌↔◌, All}
use Rattle.std.proofs.Common.{◌≡◌, ℕ, zero, suc, ◌+◌, ◌≤◌, List, [], ◌∷◌, map, length, refl, sym, ◌∙◌, ap, ap₂, append-nil, arith, inl, inr}
use Rattle.std.specs.List.{enumerate_from}
use Rattle.std.proofs.lemmas.Bool.{cases_lt}
use Rattle.obd_base.specs.declared.points.Exit.{Exit}
use Rattle.obd_base.specs.declared.points.Sign.{Sign}
use Rattle.page_surface.specs.Polygon.{IsPolygon, Polygon, first_side, second_side}
use Rattle.page_surface.specs.Words.{reduced}
use Rattle.page_surface.proofs.WordLaws.{Free-reduced, reduced_free}
use Rattle.curve_paths.specs.Curves.{IsCurve, image, twisted}
use Rattle.curve_paths.specs.Twists.{turned_by}
use Rattle.path_words.proofs.SideLetters.{AreSides}
use Rattle.tight_curves.specs.Closed.{HasNoCyclicPair, IsCyclicForm, IsRotation, cyclic_form, word_of}
use Rattle.tight_curves.specs.Parts.{MadeTight, TurnsTaken, part_exits}
use Rattle.tight_curves.proofs.CyclicForms as F
use Rattle.tight_curves.proofs.Rotations.{rotation_sym}
use Rattle.tight_curves.proofs.TightMade as T

-- words that are reduced
abbrev pub AreReduced : Polygon → List (List ℕ) → Type 0
AreReduced p ws = All (λ w. reduced p w ≡ w) ws

-- reduced words stay under reduction
pub reduced_stay : (p : Polygon) (ws : List (List ℕ)) → AreReduced p ws → map (reduced p) ws ≡ ws
reduced_stay p [] h = refl
reduced_stay p (w ∷ ws) h = ap₂ (λ x y. x ∷ y) (h 0 w (omega arith)) (reduced_stay p ws (λ k d l. h (suc k) d (omega arith)))

-- the words that a twist makes are reduced
pub twisted_reduced : (p : Polygon) (c : List Exit) (g : Sign) (ws : List (List ℕ)) → AreReduced p (twisted p c g ws)
twisted_reduced p c g ws = go (enumerate_from 0 ws)
  where
    go : (xs : List (ℕ × List ℕ)) → AreReduced p (map (λ e. reduced p (image p c g e.1 (second_side p e.0) (first_side p e.0))) xs)
    go [] k d l = absurd (omega arith)
    go (x ∷ xs) zero d l = let w = image p c g x.1 (second_side p x.0) (first_side p x.0) in reduced_free p (reduced p w) (Free-reduced p w)
    go (x ∷ xs) (suc k) d l = go xs k d (omega arith)

-- a curve without exits changes no word,
pub no_exits_image : (p : Polygon) (g : Sign) (w : List ℕ) (u v : ℕ) → image p [] g w u v ≡ w
no_exits_image = T.no_exits_image

-- so a twist about it reduces the words of strands
pub no_exits_twist : (p : Polygon) (g : Sign) (ws : List (List ℕ)) → twisted p [] g ws ≡ map (reduced p) ws
no_exits_twist p g ws = go 0 ws
  where
    go : (n : ℕ) (ws : List (List ℕ)) → map (λ e. reduced p (image p [] g e.1 (second_side p e.0) (first_side p e.0))) (enumerate_from n ws) ≡ map (reduced p) ws
    go n [] = refl
    go n (w ∷ ws) = ap₂ (λ x y. x ∷ y) (ap (reduced p) (T.no_exits_image p g w (second_side p n) (first_side p n))) (go (n + 1) ws)

-- a curve with exits turns words as its twist does
turned_is : (p : Polygon) (c : List Exit) (g : Sign) (ws : List (List ℕ)) → 1 ≤ length c → turned_by p c g ws ≡ twisted p c g ws
turned_is p [] g ws l = absurd (omega arith)
turned_is p (e ∷ c) g ws l = refl

-- reduced words stay reduced
pub turned_reduced : (p : Polygon) (c : List Exit) (g : Sign) (ws : List (List ℕ)) → AreReduced p ws → AreReduced p (turned_by p c g ws)
turned_reduced p [] g ws h = h
turned_reduced p (e ∷ c) g ws h = twisted_reduced p (e ∷ c) g ws

-- a rotation of a list without members has none
rotation_none : {A : Type 0} (w v : List A) → IsRotation w v → w ≡ [] → v ≡ []
rotation_none w v ([], b, e, f) q = f ∙ (append-nil b ∙ (sym e ∙ q))
rotation_none w v (x ∷ a, b, e, f) q = (let n : 1 ≤ 0 = omega (arith, ap length (sym e ∙ q)) in absurd (omega (arith, n)))

-- a list that has no length has no members
no_length : (d : List Exit) → length d ≡ 0 → d ≡ []
no_length [] e = refl
no_length (x ∷ d) e = absurd (omega (arith, e))

-- nor has one whose word has none
no_members : (d : List Exit) → word_of d ≡ [] → d ≡ []
no_members [] e = refl
no_members (x ∷ d) e = (let n : 1 ≤ 0 = omega (arith, ap length e) in absurd (omega (arith, n)))

module _ (p : Polygon) (ok : IsPolygon p) where
  -- a cyclic reduced form of a word computes,
  pub has_cyclic_form : (w : List ℕ) → AreSides p w → IsCyclicForm p w (cyclic_form p w)
  has_cyclic_form = F.has_cyclic_form p ok.pairs

  -- and is the only one up to rotation,
  pub one_cyclic_form : (w r s : List ℕ) → IsCyclicForm p w r → IsCyclicForm p w s → IsRotation r s
  one_cyclic_form = F.one_cyclic_form p ok.pairs

  -- wherever the word is read from
  pub rotated_form : (w v r s : List ℕ) → IsRotation w v → IsCyclicForm p w r → IsCyclicForm p v s → IsRotation r s
  rotated_form = F.rotated_form p ok.pairs

module _ (p : Polygon) (ok : IsPolygon p) (c : List Exit) (curve : IsCurve p c) where
  -- what is left of a curve when innermost turns are taken out, in whatever order, is the curve made tight
  pub taken_made : (t : List Exit) → TurnsTaken p c c t → HasNoCyclicPair p (word_of t) → MadeTight p c (part_exits p c t)
  taken_made = T.taken_made p ok.pairs c curve

module _ (p : Polygon) (ok : IsPolygon p) (c d : List Exit) (made : MadeTight p c d) where
  -- a twist about it makes of the words of strands what the twist about the curve makes of them,
  pub made_twists : (g : Sign) (ws : List (List ℕ)) → twisted p d g ws ≡ twisted p c g ws
  made_twists g ws = T.twisted_same p ok.pairs ok.not_empty c d g (λ k l. made.pushes g k l) ws

  -- and of words from gap to gap
  pub made_images : (g : Sign) (w : List ℕ) (u v : ℕ) → reduced p (image p d g w u v) ≡ reduced p (image p c g w u v)
  made_images g w u v = T.image_same p ok.pairs ok.not_empty c d g (λ k l. made.pushes g k l) w u v

  -- where nothing is left, the twist about the curve reduces the words
  pub made_reduces : (g : Sign) (ws : List (List ℕ)) → 1 ≤ length c → map (reduced p) (turned_by p d g ws) ≡ turned_by p c g ws
  made_reduces g ws l = go d made_twists ∙ sym (turned_is p c g ws l)
    where
      go : (d : List Exit) → ((g : Sign) (ws : List (List ℕ)) → twisted p d g ws ≡ twisted p c g ws) → map (reduced p) (turned_by p d g ws) ≡ twisted p c g ws
      go [] same = sym (no_exits_twist p g ws) ∙ same g ws
      go (e ∷ d) same = reduced_stay p (twisted p (e ∷ d) g ws) (twisted_reduced p (e ∷ d) g ws) ∙ same g ws

  -- nothing is left exactly where the curve's word reduces to nothing, read round
  pub made_none : (d ≡ []) ↔ (cyclic_form p (word_of c) ≡ [])
  made_none = (
    λ e. rotation_none (word_of d) (cyclic_form p (word_of c)) (rotation_sym (cyclic_form p (word_of c)) (word_of d) made.word) (ap word_of e),
    λ e. no_members d (rotation_none (cyclic_form p (word_of c)) (word_of d) made.word e),
  )

  -- reduced words are turned alike
  pub made_turns : (g : Sign) (ws : List (List ℕ)) → AreReduced p ws → turned_by p d g ws ≡ turned_by p c g ws
  made_turns g ws h = elim (cases_lt 0 (length c)) [
    | inl l ↦ sym (reduced_stay p (turned_by p d g ws) (turned_reduced p d g ws h)) ∙ made_reduces g ws l
    | inr l ↦ (let no : c ≡ [] = no_length c (omega (arith, l)) in
        let none : d ≡ [] = made_none.1 (ap (λ z. cyclic_form p (word_of z)) no) in
        ap (λ z. turned_by p z g ws) none ∙ sym (ap (λ z. turned_by p z g ws) no))
  ]
