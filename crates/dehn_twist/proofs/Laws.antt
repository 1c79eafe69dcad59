-- The laws of the drawn Dehn twist: the surgery is embedded and has the words of the twist, so tightened it is the tight drawing
-- of those words; and so with powers, from the identity drawing on.
use Rattle.std.proofs.Common.{◌≡◌, ℕ, zero, suc, ◌+◌, ◌≤◌, Bool, true, false, List, [], ◌∷◌, ◌++◌, map, length, get_or, refl, ◌∙◌, ap, subst, arith, length-append}
use Rattle.std.specs.Prelude.{Result, Ok, Err, if◌then◌else◌, nat_lt, ℤ}
use Rattle.std.specs.List.{enumerate_from}
use Rattle.obd_base.specs.Lists.{below}
use Rattle.obd_base.specs.declared.points.Exit.{Exit}
use Rattle.obd_base.specs.declared.points.Sign.{Sign}
use Rattle.page_surface.specs.Drawing.{Drawing, IsEmbedded, exit, identity, words}
use Rattle.page_surface.specs.Polygon.{IsPolygon, Polygon, arc_count, partner, second_side}
use Rattle.page_surface.specs.Words.{reduced}
use Rattle.std.proofs.lemmas.List.{length-map}
use Rattle.curve_paths.specs.Curves.{IsCurve, identity_words, twisted}
use Rattle.curve_paths.specs.Twists.{by_power, going_on, letters, sign_of, times, turned_by, turns_of}
use Rattle.drawing.specs.Tight.{IsTight, goals_on, tight_drawing, tight_place}
use Rattle.drawing.specs.Turns.{Loosened}
use Rattle.drawing.proofs.TightLaws.{is_tight_drawing, reduced_words_embedded, reduced_words_tight, tight_loosened}
use Rattle.dehn_twist.specs.Surgery.{surgery}
use Rattle.dehn_twist.specs.Twist.{AreDrawn, drawing_by_power, drawing_times, turned_drawing, twisted_drawing}
use Rattle.dehn_twist.proofs.NewEmbedded
use Rattle.dehn_twist.proofs.NewCircle.{map-map}
use Rattle.drawing.proofs.IdentityEmbedded.{identity_embedded}
use Rattle.dehn_twist.proofs.SurgeryWords

module _ (d : Drawing) (ok : IsEmbedded d) (c : List Exit) (curve : IsCurve d.polygon c) (sign : Sign) where
  -- the surgery is embedded
  pub surgery_embedded : IsEmbedded (surgery d c sign)
  surgery_embedded = NewEmbedded.surgery_embedded d ok c curve sign

  -- its reduced words are those of the twist
  pub surgery_words : map (reduced d.polygon) (words (surgery d c sign)) ≡ twisted d.polygon c sign (words d)
  surgery_words = SurgeryWords.surgery_words d ok c curve sign

  -- so the tight drawing of the twisted words is that of the surgery's reduced words
  pub surgery_drawing : tight_drawing d.polygon (map (reduced d.polygon) (words (surgery d c sign))) ≡ twisted_drawing d c sign
  surgery_drawing = ap (tight_drawing d.polygon) surgery_words

  -- which is what comes from the surgery when turns are taken out until none is left
  pub tightened : (e : Drawing) → Loosened (surgery d c sign) e → IsTight e → e ≡ twisted_drawing d c sign
  tightened e r tight = tight_loosened (surgery d c sign) e surgery_embedded r tight ∙ surgery_drawing

  -- it is embedded
  pub twisted_embedded : IsEmbedded (twisted_drawing d c sign)
  twisted_embedded = subst IsEmbedded surgery_drawing (reduced_words_embedded (surgery d c sign) surgery_embedded)

  -- and tight
  pub twisted_tight : IsTight (twisted_drawing d c sign)
  twisted_tight = subst IsTight surgery_drawing (reduced_words_tight (surgery d c sign) surgery_embedded)

-- what a list of entries by number gives, number left out
enumerated : {X Y : Type 0} (f : X → Y) (a : ℕ) (xs : List X) → map (λ (e : ℕ × X). f e.1) (enumerate_from a xs) ≡ map f xs
enumerated f a [] = refl
enumerated f a (x ∷ xs) = ap (λ ys. f x ∷ ys) (enumerated f (a + 1) xs)

map_same : {X Y : Type 0} (f g : X → Y) (xs : List X) → ((x : X) → f x ≡ g x) → map f xs ≡ map g xs
map_same f g [] h = refl
map_same f g (x ∷ xs) h = rw (h x) (ap (λ ys. g x ∷ ys) (map_same f g xs h))

map_self : {X : Type 0} (xs : List X) → map (λ (x : X). x) xs ≡ xs
map_self [] = refl
map_self (x ∷ xs) = ap (λ ys. x ∷ ys) (map_self xs)

-- the words of a tight drawing are those that it was given
pub words_of_tight : (p : Polygon) (ws : List (List ℕ)) → words (tight_drawing p ws) ≡ ws
words_of_tight p ws =
    let strand = λ (s : ℕ × List ℕ). map (λ (e : ℕ × ℕ). exit e.1 (tight_place p ws e.1 (goals_on p s.0 s.1 e.0))) (enumerate_from 0 s.1) in
    map-map (map (λ (e : Exit). e.side)) strand (enumerate_from 0 ws)
    ∙ (map_same (λ s. map (λ (e : Exit). e.side) (strand s)) (λ s. s.1) (enumerate_from 0 ws) (λ s.
    map-map (λ (e : Exit). e.side) (λ (e : ℕ × ℕ). exit e.1 (tight_place p ws e.1 (goals_on p s.0 s.1 e.0))) (enumerate_from 0 s.1)
    ∙ (enumerated (λ (k : ℕ). k) 0 s.1 ∙ map_self s.1))
    ∙ (enumerated (λ (w : List ℕ). w) 0 ws ∙ map_self ws))

-- the words of the identity drawing
pub words_of_identity : (p : Polygon) → words (identity p) ≡ identity_words p
words_of_identity p = map-map (map (λ (e : Exit). e.side)) (λ i. exit (second_side p i) 0 ∷ []) (below (arc_count p))

-- the identity drawing is tight: its words have one letter
pub identity_tight : (p : Polygon) → IsTight (identity p)
identity_tight p i v step =
    let (a, b, k, e, f) = step in
    let l : length (map (λ (x : Exit). x.side) (get_or (identity p).strands i [])) ≡ length (a ++ (k ∷ partner p k ∷ b)) = ap length e in
    let s = short (below (arc_count p)) i in
    omega (arith, l, length-map (get_or (identity p).strands i []) (λ (x : Exit). x.side), s, length-append a (k ∷ partner p k ∷ b))
  where
    short : (xs : List ℕ) (i : ℕ) → length (get_or (map (λ i. exit (second_side p i) 0 ∷ []) xs) i []) ≤ 1
    short [] i = omega arith
    short (x ∷ xs) zero = omega arith
    short (x ∷ xs) (suc i) = short xs i

-- so it is the tight drawing of its words
pub identity_is_tight : (p : Polygon) → IsPolygon p → identity p ≡ tight_drawing p (identity_words p)
identity_is_tight p ok = is_tight_drawing (identity p) (identity_embedded p ok) (identity_tight p) ∙ ap (tight_drawing p) (words_of_identity p)

-- which are drawn
pub identity_drawn : (p : Polygon) → IsPolygon p → AreDrawn p (identity_words p)
identity_drawn p ok = record {
  embedded = subst IsEmbedded (identity_is_tight p ok) (identity_embedded p ok);
  tight = subst IsTight (identity_is_tight p ok) (identity_tight p);
}

module _ (p : Polygon) (c : List Exit) (curve : IsCurve p c) where
  -- drawn words stay drawn under a twist
  pub twist_drawn : (sign : Sign) (ws : List (List ℕ)) → AreDrawn p ws → AreDrawn p (twisted p c sign ws)
  twist_drawn sign ws h = record {
    embedded = subst (λ vs. IsEmbedded (tight_drawing p (twisted p c sign vs))) (words_of_tight p ws) (twisted_embedded (tight_drawing p ws) h.embedded c curve sign);
    tight = subst (λ vs. IsTight (tight_drawing p (twisted p c sign vs))) (words_of_tight p ws) (twisted_tight (tight_drawing p ws) h.embedded c curve sign);
  }

  -- and the drawing after the twist is that of the twisted words
  pub twist_of_drawn : (sign : Sign) (ws : List (List ℕ)) → twisted_drawing (tight_drawing p ws) c sign ≡ tight_drawing p (twisted p c sign ws)
  twist_of_drawn sign ws = ap (λ vs. tight_drawing p (twisted p c sign vs)) (words_of_tight p ws)

-- a curve that crosses no side is one too
pub turned_drawn : (p : Polygon) (c : List Exit) → IsCurve p c → (sign : Sign) (ws : List (List ℕ)) → AreDrawn p ws → AreDrawn p (turned_by p c sign ws)
turned_drawn p [] curve sign ws h = h
turned_drawn p (e ∷ c) curve sign ws h = twist_drawn p (e ∷ c) curve sign ws h

-- so many twists one after another
pub times_drawn : (p : Polygon) (c : List Exit) → IsCurve p c → (sign : Sign) (n : ℕ) (ws now : List (List ℕ)) → AreDrawn p ws → times p c sign n ws ≡ Ok now → AreDrawn p now
times_drawn p c curve sign zero ws now h e = subst (AreDrawn p) (same e) h
  where
    same : {x y : List (List ℕ)} → ◌≡◌ {A = Result (List (List ℕ)) ℕ} (Ok x) (Ok y) → x ≡ y
    same e = cc
times_drawn p c curve sign (suc n) ws now h e = go (nat_lt 4000 (letters (turned_by p c sign ws))) e (times_drawn p c curve sign n (turned_by p c sign ws) now (turned_drawn p c curve sign ws h))
  where
    clash : {x : ℕ} {y : List (List ℕ)} → ◌≡◌ {A = Result (List (List ℕ)) ℕ} (Err x) (Ok y) → ⊥
    clash e = cc

    go : (b : Bool) → going_on (times p c sign n) (if b then Err (letters (turned_by p c sign ws)) else Ok (turned_by p c sign ws)) ≡ Ok now
        → (times p c sign n (turned_by p c sign ws) ≡ Ok now → AreDrawn p now) → AreDrawn p now
    go true e ih = absurd (clash e)
    go false e ih = ih e

-- and a power of a twist
pub power_drawn : (p : Polygon) (c : List Exit) → IsCurve p c → (power : ℤ) (ws now : List (List ℕ)) → AreDrawn p ws → by_power p c power ws ≡ Ok now → AreDrawn p now
power_drawn p c curve power ws now h e = times_drawn p c curve (sign_of power) (turns_of power) ws now h e

-- where the words stay few, so many twists of the drawing give the drawing of the words
pub times_of_drawn : (p : Polygon) (c : List Exit) → IsCurve p c → (sign : Sign) (n : ℕ) (ws now : List (List ℕ)) → times p c sign n ws ≡ Ok now
    → drawing_times c sign n (tight_drawing p ws) ≡ tight_drawing p now
times_of_drawn p c curve sign zero ws now e = ap (tight_drawing p) (same e)
  where
    same : {x y : List (List ℕ)} → ◌≡◌ {A = Result (List (List ℕ)) ℕ} (Ok x) (Ok y) → x ≡ y
    same e = cc
times_of_drawn p c curve sign (suc n) ws now e =
    ap (drawing_times c sign n) (one c curve) ∙ go (nat_lt 4000 (letters (turned_by p c sign ws))) e (times_of_drawn p c curve sign n (turned_by p c sign ws) now)
  where
    clash : {x : ℕ} {y : List (List ℕ)} → ◌≡◌ {A = Result (List (List ℕ)) ℕ} (Err x) (Ok y) → ⊥
    clash e = cc

    one : (c : List Exit) → IsCurve p c → turned_drawing (tight_drawing p ws) c sign ≡ tight_drawing p (turned_by p c sign ws)
    one [] k = refl
    one (x ∷ c) k = twist_of_drawn p (x ∷ c) k sign ws

    go : (b : Bool) → going_on (times p c sign n) (if b then Err (letters (turned_by p c sign ws)) else Ok (turned_by p c sign ws)) ≡ Ok now
        → (times p c sign n (turned_by p c sign ws) ≡ Ok now → drawing_times c sign n (tight_drawing p (turned_by p c sign ws)) ≡ tight_drawing p now)
        → drawing_times c sign n (tight_drawing p (turned_by p c sign ws)) ≡ tight_drawing p now
    go true e ih = absurd (clash e)
    go false e ih = ih e

-- and so with a power
pub power_of_drawn : (p : Polygon) (c : List Exit) → IsCurve p c → (power : ℤ) (ws now : List (List ℕ)) → by_power p c power ws ≡ Ok now
    → drawing_by_power c power (tight_drawing p ws) ≡ tight_drawing p now
power_of_drawn p c curve power ws now e = times_of_drawn p c curve (sign_of power) (turns_of power) ws now e

-- no exits are a curve
pub no_exits_curve : (p : Polygon) → IsCurve p []
no_exits_curve p = record {
  in_range = λ e m. absurd m;
  right = λ k j l h. absurd (omega (arith, h));
  uncrossed = λ a b l h. absurd (omega (arith, h));
}
