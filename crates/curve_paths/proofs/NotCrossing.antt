-- Two chords don't cross where each end of one lies between the ends of the other only with its other end.
use Rattle.std.proofs.Common.{◌≡◌, ◌≢◌, ◌<◌, ◌≤◌, false, refl, inl, inr, arith}
use Rattle.std.proofs.lemmas.Bool.{cases_lt, le-ltb, lt-ltb}
use Rattle.page_surface.specs.Drawing.{Chord, crosses}

-- where each end of a second chord lies between the ends of a first only with the other, they don't cross
pub not_crossing : (c e : Chord) → e.from ≢ c.from → e.from ≢ c.to → e.to ≢ c.from → e.to ≢ c.to
    → (c.from < e.from → e.from < c.to → (c.from < e.to) × (e.to < c.to)) → (c.to < e.from → e.from < c.from → (c.to < e.to) × (e.to < c.from))
    → (c.from < e.to → e.to < c.to → (c.from < e.from) × (e.from < c.to)) → (c.to < e.to → e.to < c.from → (c.to < e.from) × (e.from < c.from))
    → crosses c e ≡ false
not_crossing c e n1 n2 n3 n4 h1 h2 h3 h4 =
    let f = c.from in let t = c.to in let g = e.from in let h = e.to in
    elim (cases_lt f g) [
      | inl a ↦ elim (cases_lt t g) [
        | inl b ↦ elim (cases_lt f h) [
          | inl d ↦ elim (cases_lt t h) [
            | inl k ↦ rw (lt-ltb f g a, lt-ltb t g b, lt-ltb f h d, lt-ltb t h k) refl
            | inr k ↦ absurd (let z = h3 d (omega (arith, k, n4)) in omega (arith, z.1, b))
          ]
          | inr d ↦ elim (cases_lt t h) [
            | inl k ↦ absurd (let z = h4 k (omega (arith, d, n3)) in omega (arith, z.1, a))
            | inr k ↦ rw (lt-ltb f g a, lt-ltb t g b, le-ltb f h d, le-ltb t h k) refl
          ]
        ]
        | inr b ↦ (let z = h1 a (omega (arith, b, n2)) in let k : h ≤ t = omega (arith, z.1) in rw (lt-ltb f g a, le-ltb t g b, lt-ltb f h z.0, le-ltb t h k) refl)
      ]
      | inr a ↦ elim (cases_lt t g) [
        | inl b ↦ (let z = h2 b (omega (arith, a, n1)) in let k : h ≤ f = omega (arith, z.1) in rw (le-ltb f g a, lt-ltb t g b, le-ltb f h k, lt-ltb t h z.0) refl)
        | inr b ↦ elim (cases_lt f h) [
          | inl d ↦ elim (cases_lt t h) [
            | inl k ↦ rw (le-ltb f g a, le-ltb t g b, lt-ltb f h d, lt-ltb t h k) refl
            | inr k ↦ absurd (let z = h3 d (omega (arith, k, n4)) in omega (arith, z.0, a))
          ]
          | inr d ↦ elim (cases_lt t h) [
            | inl k ↦ absurd (let z = h4 k (omega (arith, d, n3)) in omega (arith, z.0, b))
            | inr k ↦ rw (le-ltb f g a, le-ltb t g b, le-ltb f h d, le-ltb t h k) refl
          ]
        ]
      ]
    ]
