-- Domains as sets of pieces: the test tells the facts, each is counted once, and none starts at the contact generator.
use Rattle.std.proofs.Common.{◌≡◌, ℕ, zero, suc, ◌+◌, ◌<◌, true, not, List, [], ◌∷◌, length, map, get_or, refl, sym, ◌∙◌, ap, subst, arith, inl}
use Rattle.std.specs.Bool.{Decides}
use Rattle.std.specs.List.{list_any, range_with_len, sum_by}
use Rattle.std.proofs.lemmas.Bool.{false≢true}
use Rattle.std.proofs.lemmas.List.Sums.{sum_by-cons}
use Rattle.obd_base.specs.Lists.{Mem, Once, below, is_odd, parts}
use Rattle.obd_base.proofs.lists.Members.{filter_mem, mem_filter, once_filter}
use Rattle.obd_base.proofs.lists.Parts.{each_once, mem_parts}
use Rattle.obd_base.proofs.lists.Below.{once_range}
use Rattle.page_surface.specs.Drawing.{IsEmbedded, Chord, Drawing, chords, points_on}
use Rattle.page_surface.specs.Polygon.{IsPolygon, arc_count, sides}
use Rattle.drawing.specs.Cut.{IsCut}
use Rattle.drawing.specs.Pieces.{gap, inner_pieces, is_base, piece_table, pieces, same_piece, span_count, spans}
use Rattle.drawing.specs.Points.{contact_generator, generators}
use Rattle.drawing.proofs.Lists.{has_mem, mem_has}
use Rattle.drawing.proofs.SamePiece.{same_piece_refl}
use Rattle.hkm_diagram.specs.Domains.{IsDomain, column, domains, is_domain}
use Rattle.drawing.proofs.Laws.{always_cut}
use Rattle.hkm_diagram.proofs.ContactLaw.{contact_column, no_loop}
use Rattle.hkm_diagram.proofs.DomainTest.{is_domain_decides}

-- a list without members is empty
pub no_members : {A : Type 0} (xs : List A) → ((x : A) → Mem x xs → ⊥) → xs ≡ []
no_members [] h = refl
no_members (x ∷ xs) h = absurd (h x (inl refl))

-- the first of some spans is in its own piece
own_piece : (cs : List Chord) (g : ℕ → ℕ) (n : ℕ) → list_any (same_piece cs (g 0)) (map g (below (suc n))) ≡ true
own_piece cs g n = rw (same_piece_refl cs (g 0))

module _ (d : Drawing) (ok : IsPolygon d.polygon) where
  -- gap 0 is a span
  gap_in_range : (n : ℕ) → sides d.polygon ≡ n → 0 < n → gap d 0 < span_count d
  gap_in_range zero e l = absurd (omega arith)
  gap_in_range (suc n) e l =
      let c : sum_by (λ i. points_on d i + 2) (below (suc n)) ≡ (points_on d 0 + 2) + sum_by (λ i. points_on d i + 2) (range_with_len 1 n)
      = sum_by-cons (λ i. points_on d i + 2) 0 (range_with_len 1 n) in
      rw e (omega (arith, c))

  -- and base
  gap_is_base : (n : ℕ) → sides d.polygon ≡ n → 0 < n → is_base d (gap d 0) ≡ true
  gap_is_base zero e l = absurd (omega arith)
  gap_is_base (suc n) e l = subst (λ m. list_any (same_piece (chords d) (gap d 0)) (map (gap d) (below m)) ≡ true) (sym e) (own_piece (chords d) (gap d) n)

module _ (d : Drawing) (y x : List ℕ) where
  -- of a part of the inner pieces the test tells whether it is a domain
  pub domain_test : (set : List ℕ) → Mem set (parts (inner_pieces d)) → Decides (is_domain d (piece_table d) y x set) (IsDomain d y x set)
  domain_test set part = is_domain_decides d y x set part

  -- the domains, as a list, are those sets that lead from y to x
  pub domain_found : (set : List ℕ) → Mem set (domains d y x) → IsDomain d y x set
  domain_found set m =
      let (part, test) = mem_filter (is_domain d (piece_table d) y x) set (parts (inner_pieces d)) m in
      (domain_test set part).0 test

  -- each is found
  pub found_domain : (set : List ℕ) → IsDomain d y x set → Mem set (domains d y x)
  found_domain set h = filter_mem (is_domain d (piece_table d) y x) set (parts (inner_pieces d)) h.inner ((domain_test set h.inner).1 h)

  -- a list without repetition of exactly the domains has as many members as there are domains
  pub each_domain_once : (found : List (List ℕ)) → Once found → ((set : List ℕ) → Mem set found → IsDomain d y x set) → ((set : List ℕ) → IsDomain d y x set → Mem set found)
      → length found ≡ length (domains d y x)
  each_domain_once found once sound complete =
      each_once (is_domain d (piece_table d) y x) (inner_pieces d) found once_inner once
      (λ s m. found_domain s (sound s m)) (λ s m. complete s (domain_found s m))
    where
      once_inner : Once (inner_pieces d)
      once_inner = once_filter (λ s. not (is_base d s)) (pieces d) (once_filter _ (spans d) (once_range 0 (span_count d)))

module _ (d : Drawing) (embedded : IsEmbedded d) where
  ok : IsPolygon d.polygon
  ok = embedded.polygon

  cut : IsCut d
  cut = always_cut d embedded

  -- in an embedded drawing no domain leads from a generator to itself
  pub no_domain_to_itself : (y x set : List ℕ) → ((a : ℕ) → a < arc_count d.polygon → get_or y a 0 ≡ get_or x a 0) → IsDomain d y x set → ⊥
  no_domain_to_itself y x set same h =
      no_loop d ok cut (gap_in_range d ok _ refl ok.not_empty) (gap_is_base d ok _ refl ok.not_empty) y x set same
      (λ s m. has_mem (inner_pieces d) s (mem_parts s set (inner_pieces d) h.inner (mem_has set s m))) ((is_domain_decides d y x set h.inner).1 h)

  -- none starts at the contact generator
  pub none_from_contact : (x set : List ℕ) → IsDomain d (contact_generator d) x set → ⊥
  none_from_contact x set h =
      contact_column d ok cut (gap_in_range d ok _ refl ok.not_empty) (gap_is_base d ok _ refl ok.not_empty) x set
      (λ s m. has_mem (inner_pieces d) s (mem_parts s set (inner_pieces d) h.inner (mem_has set s m))) ((is_domain_decides d (contact_generator d) x set h.inner).1 h)

  -- so the list of them is empty
  pub no_domains_from_contact : (x : List ℕ) → domains d (contact_generator d) x ≡ []
  no_domains_from_contact x = no_members _ (λ s m. none_from_contact x s (domain_found d (contact_generator d) x s m))

  -- and so is the column of the contact generator
  pub contact_column_is_empty : column d (contact_generator d) ≡ []
  contact_column_is_empty = no_members _ (λ i m. none i (mem_filter _ i (below (length (generators d))) m).1)
    where
      none : (i : ℕ) → is_odd (length (domains d (contact_generator d) (get_or (generators d) i []))) ≡ true → ⊥
      none i t = false≢true (ap (λ (xs : List (List ℕ)). is_odd (length xs)) (sym (no_domains_from_contact (get_or (generators d) i []))) ∙ t)

  -- no domains lead from a generator to itself
  pub no_domains_to_itself : (y : List ℕ) → domains d y y ≡ []
  no_domains_to_itself y = no_members _ (λ s m. no_domain_to_itself y y s (λ a l. refl) (domain_found d y y s m))
