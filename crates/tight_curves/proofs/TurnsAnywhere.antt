-- An innermost turn is taken out wherever it stands in the list: inside it, or as its last and first exit.
use Rattle.std.proofs.Common.{◌≡◌, ℕ, ltb, List, [], ◌∷◌, ◌++◌, sym, ◌∙◌, ap, subst, append_assoc, append-nil, arith}
use Rattle.std.specs.List.{sum_by}
use Rattle.std.proofs.lemmas.List.Sums.{sum_by-append}
use Rattle.obd_base.specs.declared.points.Exit.{Exit}
use Rattle.page_surface.specs.Polygon.{Polygon}
use Rattle.curve_paths.specs.Curves.{curve_stands}
use Rattle.tight_curves.specs.Parts.{IsInnermost, TurnsTaken, has_point, no_more, one_more, read_on}

module _ (p : Polygon) (c : List Exit) where
  -- a part may be read from any of its exits on
  pub read_from : (a b t : List Exit) → TurnsTaken p c (b ++ a) t → TurnsTaken p c (a ++ b) t
  read_from [] b t h = subst (λ z. TurnsTaken p c z t) (append-nil b) h
  read_from (x ∷ a) b t h =
      read_on (subst (λ z. TurnsTaken p c z t) (sym (append_assoc a b (x ∷ [])))
      (read_from a (b ++ (x ∷ [])) t (subst (λ z. TurnsTaken p c z t) (sym (append_assoc b (x ∷ []) a)) h)))

  -- it has the same points then
  has_from : (a b : List Exit) (k j : ℕ) → has_point p c (b ++ a) k j ≡ has_point p c (a ++ b) k j
  has_from a b k j =
      let f = λ (x : Exit). curve_stands p c x k j in
      let z : sum_by f (b ++ a) ≡ sum_by f (a ++ b) = omega (arith, sum_by-append f b a, sum_by-append f a b) in
      ap (λ m. ltb 0 m) z

  -- and the same innermost turns
  innermost_from : (a b : List Exit) (u v : Exit) → IsInnermost p c (a ++ b) u v → IsInnermost p c (b ++ a) u v
  innermost_from a b u v i = record { returns = i.returns; nothing_between = λ j l. has_from a b u.side j ∙ i.nothing_between j l }

  -- a turn inside the list
  pub turn_inside : (before : List Exit) (u v : Exit) (after t : List Exit) → IsInnermost p c (before ++ (u ∷ v ∷ after)) u v
      → TurnsTaken p c (before ++ after) t → TurnsTaken p c (before ++ (u ∷ v ∷ after)) t
  turn_inside before u v after t i h =
      read_from before (u ∷ v ∷ after) t (one_more (innermost_from before (u ∷ v ∷ after) u v i) (read_from after before t h))

  -- a turn of the last exit and the first
  pub turn_round : (u v : Exit) (between t : List Exit) → IsInnermost p c (v ∷ (between ++ (u ∷ []))) u v
      → TurnsTaken p c between t → TurnsTaken p c (v ∷ (between ++ (u ∷ []))) t
  turn_round u v between t i h =
      read_from (v ∷ between) (u ∷ []) t (one_more (innermost_from (v ∷ between) (u ∷ []) u v i) h)

  -- turns taken out one after another
  pub taken_join : (s t u : List Exit) → TurnsTaken p c s t → TurnsTaken p c t u → TurnsTaken p c s u
  taken_join s t u no_more h = h
  taken_join a t u (read_on {s} {e} r) h = read_on (taken_join (s ++ (e ∷ [])) t u r h)
  taken_join a t u (one_more {s} {out} {back} i r) h = one_more i (taken_join s t u r h)
