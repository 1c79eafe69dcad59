-- In a nice drawing the piece of a marked span has that span and the next one, and four corners, or two where these are one.
use Rattle.std.proofs.Common.{◌≡◌, ℕ, suc, ◌<◌, ◌⊎◌, inl, inr, ◌≢◌, true, List, [], ◌∷◌, get_or, length, refl, sym, subst, arith}
use Rattle.std.proofs.lemmas.Bool.{cases_eq}
use Rattle.drawing.proofs.SamePiece.{same_piece_refl}
use Rattle.drawing.specs.Pieces.{corners, inner_pieces, piece_table, same_piece, segments_in, span_count}
use Rattle.empty_domains.proofs.Diagram.{other_of}
use Rattle.empty_domains.proofs.NiceSets.{bigon_alone, bigon_corners, few, marked_under, next_in, next_marked, segment}
use Rattle.hkm_diagram.proofs.ContactColumn.{mark}
use Rattle.obd_base.proofs.lists.Members.{no_longer}
use Rattle.obd_base.specs.Lists.{Mem, Once, has}
use Rattle.page_surface.specs.Drawing.{Drawing, IsEmbedded, chords}
use Rattle.region_table.specs.Nice.{IsNice}

module _ (d : Drawing) (ok : IsEmbedded d) (nice : IsNice d) (set : List ℕ) (inner : (s : ℕ) → has set s ≡ true → has (inner_pieces d) s ≡ true) where
  -- a span in the piece of a marked one is that span or the next one
  pub two_spans : (q s : ℕ) → mark d set q ≡ 1 → same_piece (chords d) q s ≡ true → s < span_count d → (s ≡ q) ⊎ (s ≡ suc (other_of d q))
  two_spans q s e h l = elim (cases_eq s q) [
    | inl k ↦ inl k
    | inr n ↦ elim (cases_eq s (suc (other_of d q))) [
      | inl k ↦ inr k
      | inr m ↦ elim (cases_eq (suc (other_of d q)) q) [
        | inl k ↦ inl (bigon_alone d ok set inner q e k s h)
        | inr k ↦ absurd (
            let r = no_longer (q ∷ suc (other_of d q) ∷ s ∷ []) (segments_in d (get_or (piece_table d) q 0)) (once n m k) in_it in
            let w : length (q ∷ suc (other_of d q) ∷ s ∷ []) ≡ 3 = refl in
            omega (arith, r, w, few d ok set inner nice q e))
      ]
    ]
  ]
    where
      next : ℕ
      next = suc (other_of d q)

      once : s ≢ q → s ≢ next → next ≢ q → Once (q ∷ next ∷ s ∷ [])
      once n m k = (
        λ i. elim i [ inl u ↦ k (sym u) | inr v ↦ elim v [ inl u ↦ n (sym u) | inr z ↦ z ] ],
        (λ i. elim i [ inl u ↦ m (sym u) | inr z ↦ z ], ((λ i. i), tt)),
      )

      in_it : (z : ℕ) → Mem z (q ∷ next ∷ s ∷ []) → Mem z (segments_in d (get_or (piece_table d) q 0))
      in_it z (inl u) = subst (λ k. Mem k (segments_in d (get_or (piece_table d) q 0))) (sym u) (segment d ok set inner q q e (same_piece_refl (chords d) q) (marked_under d ok set inner q e))
      in_it z (inr (inl u)) = subst (λ k. Mem k (segments_in d (get_or (piece_table d) q 0))) (sym u)
          (segment d ok set inner q next e (next_in d ok set inner q e) (marked_under d ok set inner next (next_marked d ok set inner q e)))
      in_it z (inr (inr (inl u))) = subst (λ k. Mem k (segments_in d (get_or (piece_table d) q 0))) (sym u) (segment d ok set inner q s e h l)
      in_it z (inr (inr (inr v))) = absurd v

  -- a piece that isn't next to itself has four corners
  pub four_corners : (s : ℕ) → mark d set s ≡ 1 → suc (other_of d s) ≢ s → corners d (get_or (piece_table d) s 0) ≡ 4
  four_corners s e n =
      let next = suc (other_of d s) in
      let r = no_longer (s ∷ next ∷ []) (segments_in d (get_or (piece_table d) s 0)) once in_it in
      let w : length (s ∷ next ∷ []) ≡ 2 = refl in
      omega (arith, r, w, few d ok set inner nice s e)
    where
      once : Once (s ∷ suc (other_of d s) ∷ [])
      once = (λ i. elim i [ inl u ↦ n (sym u) | inr z ↦ z ], ((λ i. i), tt))

      in_it : (z : ℕ) → Mem z (s ∷ suc (other_of d s) ∷ []) → Mem z (segments_in d (get_or (piece_table d) s 0))
      in_it z (inl u) = subst (λ k. Mem k (segments_in d (get_or (piece_table d) s 0))) (sym u) (segment d ok set inner s s e (same_piece_refl (chords d) s) (marked_under d ok set inner s e))
      in_it z (inr (inl u)) = subst (λ k. Mem k (segments_in d (get_or (piece_table d) s 0))) (sym u)
          (segment d ok set inner s (suc (other_of d s)) e (next_in d ok set inner s e) (marked_under d ok set inner (suc (other_of d s)) (next_marked d ok set inner s e)))
      in_it z (inr (inr v)) = absurd v

  -- one that is has two
  pub two_corners : (s : ℕ) → mark d set s ≡ 1 → suc (other_of d s) ≡ s → corners d (get_or (piece_table d) s 0) ≡ 2
  two_corners s e q =
      let most = bigon_corners d ok set inner nice s e q in
      let r = no_longer (s ∷ []) (segments_in d (get_or (piece_table d) s 0)) ((λ i. i), tt) in_it in
      let w : length (s ∷ []) ≡ 1 = refl in
      omega (arith, r, w, most)
    where
      in_it : (z : ℕ) → Mem z (s ∷ []) → Mem z (segments_in d (get_or (piece_table d) s 0))
      in_it z (inl u) = subst (λ k. Mem k (segments_in d (get_or (piece_table d) s 0))) (sym u) (segment d ok set inner s s e (same_piece_refl (chords d) s) (marked_under d ok set inner s e))
      in_it z (inr v) = absurd v
