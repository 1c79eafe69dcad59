-- Counts, pieces and distances depend on the members of a list of chords alone, not on their order.
use Rattle.std.proofs.Common.{◌≡◌, ℕ, suc, Bool, true, List, [], ◌∷◌, map, length, refl, ap, arith}
use Rattle.std.specs.List.{count_by, filter}
use Rattle.std.proofs.lemmas.List.Sums.{length-filter}
use Rattle.obd_base.specs.Lists.{Once}
use Rattle.obd_base.proofs.lists.Members.{no_longer, once_filter}
use Rattle.page_surface.specs.Drawing.{Chord}
use Rattle.drawing.specs.Pieces.{same_piece, separates, separated_by, least_of}
use Rattle.drawing.proofs.ChordTree.{same_from_each}
use Rattle.drawing.proofs.fingers.Arranged.{Arranged, alike}
use Rattle.obd_base.proofs.lists.Members.{mem_filter, filter_mem}
use Rattle.finger_move.proofs.Cycles.{IsCycle}
use Rattle.finger_move.proofs.PushedNext.{next}
use Rattle.nice_plan.proofs.Pushing.{SameChords, same_other, same_cycle}
use Rattle.nice_plan.proofs.Distance.{dist}

pub chords_once : (cs : List Chord) → Arranged cs → Once cs
chords_once [] ok = tt
chords_once (c ∷ cs) ok = (λ m. (ok.1 c m).apart.0 refl, chords_once cs ok.2)

-- the same chords, the other way
pub turned : {cs ds : List Chord} → SameChords cs ds → SameChords ds cs
turned same = record { into = same.from; from = same.into }

module _ (cs ds : List Chord) (ok : Arranged cs) (also : Arranged ds) (same : SameChords cs ds) where
  -- as many chords
  pub length_same : length cs ≡ length ds
  length_same = omega (
    arith,
    no_longer cs ds (chords_once cs ok) (λ z m. same.into z m),
    no_longer ds cs (chords_once ds also) (λ z m. same.from z m),
  )

  -- as many that pass a test
  pub count_same : (p : Chord → Bool) → count_by p cs ≡ count_by p ds
  count_same p = omega (
    arith,
    length-filter p cs,
    length-filter p ds,
    no_longer (filter p cs) (filter p ds) (once_filter p cs (chords_once cs ok))
        (λ z m. let f = mem_filter p z cs m in filter_mem p z ds (same.into z f.0) f.1),
    no_longer (filter p ds) (filter p cs) (once_filter p ds (chords_once ds also))
        (λ z m. let f = mem_filter p z ds m in filter_mem p z cs (same.from z f.0) f.1),
  )

  -- the same distances
  pub dist_order : (gs : List ℕ) (s : ℕ) → dist cs gs s ≡ dist ds gs s
  dist_order gs s = go gs
    where
      go : (gs : List ℕ) → least_of (length cs) (map (separated_by cs s) gs) ≡ least_of (length ds) (map (separated_by ds s) gs)
      go [] = length_same
      go (g ∷ gs) = let r = go gs in let e = count_same (λ c. separates c s g) in omega (arith, r, e)

  -- the same pieces
  pub same_order : (s t : ℕ) → same_piece cs s t ≡ true → same_piece ds s t ≡ true
  same_order s t h = same_from_each ds s t (λ e i. alike cs s t h e (same.from e i))

  -- the same circles
  pub cycle_order : (xs : List ℕ) → IsCycle (next cs) xs → IsCycle (next ds) xs
  cycle_order xs k = same_cycle (next cs) (next ds) xs (λ x. ap suc (same_other cs ds ok also same x)) k
