-- What is taken of an embedded drawing: no number is an end twice, and no two chords cross, as a test. It gives `Arranged`.
use Rattle.std.proofs.Common.{◌≡◌, ℕ, Bool, true, not, List, [], ◌∷◌, sym, ap, subst, inl, inr}
use Rattle.std.specs.List.{list_all}
use Rattle.std.proofs.lemmas.Bool.{and_parts, not-true}
use Rattle.obd_base.specs.Lists.{Mem, Once}
use Rattle.page_surface.specs.Drawing.{Chord, crosses, no_two_cross}
use Rattle.drawing.proofs.fingers.Arranged.{Arranged}

-- all ends of some chords
abbrev pub ends_of : List Chord → List ℕ
ends_of [] = []
ends_of (c ∷ cs) = c.from ∷ c.to ∷ ends_of cs

-- the ends of a member
pub ends_in : (e : Chord) (cs : List Chord) → Mem e cs → Mem e.from (ends_of cs) × Mem e.to (ends_of cs)
ends_in e [] i = absurd i
ends_in e (c ∷ cs) i = elim i [
  | inl q ↦ (inl (ap (λ (w : Chord). w.from) q), inr (inl (ap (λ (w : Chord). w.to) q)))
  | inr j ↦ (let r = ends_in e cs j in (inr (inr r.0), inr (inr r.1)))
]

all_at : (p : Chord → Bool) (e : Chord) (cs : List Chord) → Mem e cs → list_all p cs ≡ true → p e ≡ true
all_at p e [] i h = absurd i
all_at p e (c ∷ cs) i h =
    let a = and_parts (p c) (list_all p cs) h in
    elim i [ inl q ↦ subst (λ w. p w ≡ true) (sym q) a.0 | inr j ↦ all_at p e cs j a.1 ]

-- chords with different ends that pass the test share no end and do not cross
pub arranged_from : (cs : List Chord) → Once (ends_of cs) → no_two_cross cs ≡ true → Arranged cs
arranged_from [] o h = tt
arranged_from (c ∷ cs) o h =
    let a = and_parts (list_all (λ e. not (crosses c e)) cs) (no_two_cross cs) h in (
      λ q. o.0 (inl q),
      λ e i. let m = ends_in e cs i in record {
        apart = (
          λ q. o.0 (inr (subst (λ w. Mem w (ends_of cs)) (sym q) m.0)),
          λ q. o.0 (inr (subst (λ w. Mem w (ends_of cs)) (sym q) m.1)),
          λ q. o.1.0 (subst (λ w. Mem w (ends_of cs)) (sym q) m.0),
          λ q. o.1.0 (subst (λ w. Mem w (ends_of cs)) (sym q) m.1),
        );
        uncrossed = not-true _ (all_at (λ e. not (crosses c e)) e cs i a.0);
      },
      arranged_from cs o.1.1 a.1,
    )
