-- Twist words along curves made tight: the words of all strands are the same.
use Rattle.std.specs.Prelude.{Result, Ok, Err, ℤ, if◌then◌else◌}
use Rattle.std.proofs.Common.{◌≡◌, ℕ, zero, suc, ◌+◌, Bool, true, false, ltb, List, [], ◌∷◌, ◌++◌, map, length, slice_index_or, refl, ◌∙◌, ap, subst, inl, inr, arith}
use Rattle.std.proofs.lemmas.List.{length-append}
use Rattle.obd_base.specs.Lists.{below}
use Rattle.obd_base.specs.declared.points.Exit.{Exit}
use Rattle.obd_base.specs.declared.points.Sign.{Sign}
use Rattle.page_surface.specs.Polygon.{IsPolygon, Polygon, arc_count, partner, second_side}
use Rattle.curve_paths.specs.Curves.{identity_words}
use Rattle.curve_paths.specs.Twists.{by_entries, by_power, going_on, letters, limited, numbered, sign_of, times, turned_by, turns_of, words_after}
use Rattle.curve_paths.specs.declared.twist.Twist.{Twist}
use Rattle.tight_curves.specs.Parts.{MadeTight}
use Rattle.tight_curves.proofs.Laws.{AreReduced, made_turns, turned_reduced}

-- the words, or how many letters they have
abbrev Turned : Type 0
Turned = Result (List (List ℕ)) ℕ

-- reduced words are turned alike along two curves
abbrev TurnAlike : Polygon → List Exit → List Exit → Type 0
TurnAlike p c d = (g : Sign) (ws : List (List ℕ)) → AreReduced p ws → turned_by p d g ws ≡ turned_by p c g ws

-- then so many twists turn them alike, up to the same limit
times_same : (p : Polygon) (c d : List Exit) (g : Sign) → TurnAlike p c d → (n : ℕ) (ws : List (List ℕ)) → AreReduced p ws → times p d g n ws ≡ times p c g n ws
times_same p c d g same zero ws h = refl
times_same p c d g same (suc n) ws h =
    let turned = turned_by p c g ws in
    ap (λ vs. going_on (times p d g n) (limited vs)) (same g ws h) ∙ next (ltb 4000 (letters turned)) (times_same p c d g same n turned (turned_reduced p c g ws h))
  where
    next : (b : Bool) → times p d g n (turned_by p c g ws) ≡ times p c g n (turned_by p c g ws)
        → going_on (times p d g n) (if b then Err (letters (turned_by p c g ws)) else Ok (turned_by p c g ws))
        ≡ going_on (times p c g n) (if b then Err (letters (turned_by p c g ws)) else Ok (turned_by p c g ws))
    next true e = refl
    next false e = e

-- what is there is one
ok_same : (a b : List (List ℕ)) → (◌≡◌ {A = Turned} (Ok a) (Ok b)) → a ≡ b
ok_same a b e = cc

-- what isn't there isn't one
ok_err : (n : ℕ) (b : List (List ℕ)) → (◌≡◌ {A = Turned} (Err n) (Ok b)) → ⊥
ok_err n b e = cc

-- and what they give is reduced
pub times_reduced : (p : Polygon) (c : List Exit) (g : Sign) (n : ℕ) (ws now : List (List ℕ)) → AreReduced p ws → times p c g n ws ≡ Ok now → AreReduced p now
times_reduced p c g zero ws now h e = subst (AreReduced p) (ok_same ws now e) h
times_reduced p c g (suc n) ws now h e =
    next (ltb 4000 (letters (turned_by p c g ws))) e (times_reduced p c g n (turned_by p c g ws) now (turned_reduced p c g ws h))
  where
    next : (b : Bool) → going_on (times p c g n) (if b then Err (letters (turned_by p c g ws)) else Ok (turned_by p c g ws)) ≡ Ok now
        → (times p c g n (turned_by p c g ws) ≡ Ok now → AreReduced p now) → AreReduced p now
    next true e f = absurd (ok_err (letters (turned_by p c g ws)) now e)
    next false e f = f e

-- a curve without exits is tight
pub none_tight : (p : Polygon) → MadeTight p [] []
none_tight p = record {
  is_curve = record {
    in_range = λ e m. absurd m;
    right = λ k j lk lj. absurd (omega (arith, lj));
    uncrossed = λ a b l lb. absurd (omega (arith, lb));
  };
  free = λ v step. elim step [
    | inl s ↦ (let n : 0 ≡ length s.0 + length (s.2 ∷ partner p s.2 ∷ s.1) = ap length s.3 ∙ length-append s.0 (s.2 ∷ partner p s.2 ∷ s.1) in absurd (omega (arith, n)))
    | inr s ↦ (let n : 0 ≡ length (partner p s.0 ∷ (v ++ (s.0 ∷ []))) = ap length s.1 in absurd (omega (arith, n)))
  ];
  word = ([], [], refl, refl);
  pushes = λ g k l. refl;
}

-- the words of the identity are reduced
pub identity_reduced : (p : Polygon) → AreReduced p (identity_words p)
identity_reduced p = go (below (arc_count p))
  where
    go : (xs : List ℕ) → AreReduced p (map (λ i. second_side p i ∷ []) xs)
    go [] k d l = absurd (omega arith)
    go (x ∷ xs) zero d l = refl
    go (x ∷ xs) (suc k) d l = go xs k d (omega arith)

module _ (p : Polygon) (ok : IsPolygon p) where
  -- a power along a curve made tight gives the words, or the count, that one along the curve gives
  pub made_powers : (c d : List Exit) → MadeTight p c d → (power : ℤ) (ws : List (List ℕ)) → AreReduced p ws → by_power p d power ws ≡ by_power p c power ws
  made_powers c d made power ws h = times_same p c d (sign_of power) (made_turns p ok c d made) (turns_of power) ws h

  -- and so do the entries of a twist word along some curves, each made tight,
  pub made_entries : (cs ds : List (List Exit)) → ((i : ℕ) → MadeTight p (slice_index_or cs i []) (slice_index_or ds i [])) → (number : ℕ) (twists : List Twist) (ws : List (List ℕ)) → AreReduced p ws
      → by_entries p ds number twists ws ≡ by_entries p cs number twists ws
  made_entries cs ds made number [] ws h = refl
  made_entries cs ds made number (twist ∷ twists) ws h =
      ap (λ r. going_on (by_entries p ds (suc number) twists) (numbered number r))
      (made_powers (slice_index_or cs twist.curve []) (slice_index_or ds twist.curve []) (made twist.curve) twist.power ws h)
      ∙ next (by_power p (slice_index_or cs twist.curve []) twist.power ws) refl (made_entries cs ds made (suc number) twists)
    where
      next : (r : Turned) → by_power p (slice_index_or cs twist.curve []) twist.power ws ≡ r
          → ((vs : List (List ℕ)) → AreReduced p vs → by_entries p ds (suc number) twists vs ≡ by_entries p cs (suc number) twists vs)
          → going_on (by_entries p ds (suc number) twists) (numbered number r) ≡ going_on (by_entries p cs (suc number) twists) (numbered number r)
      next (Ok now) e rest = rest now (times_reduced p (slice_index_or cs twist.curve []) (sign_of twist.power) (turns_of twist.power) ws now h e)
      next (Err count) e rest = refl

  -- so the words after a twist word are the same, and so is the entry that is refused
  pub made_words_after : (cs ds : List (List Exit)) → ((i : ℕ) → MadeTight p (slice_index_or cs i []) (slice_index_or ds i [])) → (twists : List Twist) → words_after p ds twists ≡ words_after p cs twists
  made_words_after cs ds made twists = made_entries cs ds made 0 twists (identity_words p) (identity_reduced p)
