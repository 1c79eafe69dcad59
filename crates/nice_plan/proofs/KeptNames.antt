-- Names of pieces that some fingers keep, one after another.
use Rattle.std.proofs.Common.{◌≡◌, ℕ, ◌+◌, ◌<◌, List, [], ◌∷◌, ◌++◌, get_or, length, take, refl, sym, ◌∙◌, ap, subst}
use Rattle.std.proofs.lemmas.List.{take_more}
use Rattle.page_surface.specs.Drawing.{Drawing}
use Rattle.drawing.specs.declared.finger.Finger.{Finger}
use Rattle.drawing.specs.Fingers.{pushed, replayed}
use Rattle.drawing.specs.Pieces.{span_count}
use Rattle.region_table.specs.Changed.{AllKeep, KeepsAllNames, KeepsNames}
use Rattle.region_table.specs.Table.{Table, name_at}
use Rattle.finger_move.proofs.Replayed.{replayed_append}

-- a piece that some fingers keep, and then others, is kept by those, and from there by these
kept_by_both : (d : Drawing) (fs gs : List Finger) (old new : ℕ) → old < span_count d → AllKeep d (fs ++ gs) old new
    → (next : ℕ) × (next < span_count (replayed d fs)) × AllKeep d fs old next × AllKeep (replayed d fs) gs next new
kept_by_both d [] gs old new there kept = (old, there, refl, kept)
kept_by_both d (f ∷ fs) gs old new there kept =
    let (next, inside, by_it, later) = kept in
    let (last, last_inside, first, rest) = kept_by_both (pushed d f) fs gs next new inside later in
    (last, last_inside, (next, inside, by_it, first), rest)

-- so names that stay through those, and then through these, stay through all
pub names_through : (d : Drawing) (fs gs : List Finger) (t u v : Table) → KeepsAllNames d fs t u → KeepsAllNames (replayed d fs) gs u v → KeepsAllNames d (fs ++ gs) t v
names_through d fs gs t u v first later =
    λ old new there inside kept.
    let (next, next_inside, before, after) = kept_by_both d fs gs old new there kept in
    later next new next_inside (subst (λ (e : Drawing). new < span_count e) (replayed_append d fs gs) inside) after ∙ first old next there next_inside before

-- no finger changes no name
pub names_at_first : (d : Drawing) (t u : Table) → ((s : ℕ) → name_at u s ≡ name_at t s) → KeepsAllNames d [] t u
names_at_first d t u same = λ old new there inside kept. same new ∙ ap (name_at t) kept

-- names that one finger keeps are those that a list of one keeps
names_by_one : (d : Drawing) (f : Finger) (t u : Table) → KeepsNames d f t u → KeepsAllNames d (f ∷ []) t u
names_by_one d f t u keeps =
    λ old new there inside kept.
    let (next, next_inside, by_it, last) = kept in
    ap (name_at u) last ∙ keeps old next there next_inside by_it

-- and stay through one more of some fingers
pub names_more : (d : Drawing) (fs : List Finger) (n : ℕ) (f : Finger) (t u v : Table) → n < length fs → f ≡ get_or fs n f
    → KeepsAllNames d (take n fs) t u → KeepsNames (replayed d (take n fs)) f u v → KeepsAllNames d (take (n + 1) fs) t v
names_more d fs n f t u v l is first later =
    let one = names_through d (take n fs) (f ∷ []) t u v first (names_by_one (replayed d (take n fs)) f u v later) in
    subst (λ gs. KeepsAllNames d gs t v) (sym (take_more fs n f l ∙ ap (λ (x : Finger). take n fs ++ x ∷ []) (sym is))) one
