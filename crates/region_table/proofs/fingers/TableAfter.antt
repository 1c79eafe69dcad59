-- The table after a finger: with the names that the finger writes and all else counted anew it is the table of the new drawing.
use Rattle.std.proofs.Common.{◌≡◌, ℕ, ◌+◌, ◌<◌, List, length, cond, eqb, sym, subst}
use Rattle.page_surface.specs.Drawing.{Chord, Drawing, IsEmbedded}
use Rattle.drawing.specs.declared.finger.Finger.{Finger}
use Rattle.drawing.specs.Fingers.{IsKeptPiece, entered, entered_beyond, pushed}
use Rattle.drawing.specs.Pieces.{span_count}
use Rattle.region_table.specs.Changed.{AreChanged, KeepsNames}
use Rattle.region_table.specs.Table.{IsTableOf, Table, name_at}
use Rattle.region_table.proofs.CountedTable.{IsCounted, counted_is_table}
use Rattle.region_table.proofs.fingers.Changed.{IsKeptIn, changed_below, changed_listed, changed_names, different, four_or_five, kept_name, kept_unlisted}
use Rattle.region_table.proofs.fingers.Pushed.{IsPushed}
use Rattle.region_table.proofs.fingers.Next.{near}
use Rattle.region_table.specs.FingerLists.{IsNamedByFinger, comes_in_front}
use Rattle.region_table.proofs.fingers.NamesAfter.{naming_after, told_after, used_after}

module _ (d : Drawing) (f : Finger) (t u : Table) (out : _) (c : Chord) (es : List Chord) (push : IsPushed d (pushed d f) (entered d f) (entered_beyond d f) out c es)
    (told : IsTableOf d t) (grown : length u.regions ≡ length t.regions + 2)
    (made : IsNamedByFinger (span_count d) (entered d f) (entered_beyond d f) (near out c) (length t.regions) (comes_in_front c.from (entered d f)) (name_at t) (name_at u)) where
  -- the drawing after the finger
  abbrev e : Drawing
  e = pushed d f

  -- the span entered
  abbrev a : ℕ
  a = entered d f

  -- the span beyond
  abbrev b : ℕ
  b = entered_beyond d f

  -- the table is that of the new drawing
  pub table_after : IsEmbedded e → IsCounted e u → IsTableOf e u
  table_after ok counted =
      counted_is_table e ok u counted
      (naming_after d e a b out c es push (name_at t) (name_at u) (length t.regions) told.naming told.told told.used made)
      (λ w l. subst (λ n. name_at u w < n) (sym grown) (told_after d e a b out c es push (name_at t) (name_at u) (length t.regions) told.naming told.told told.used made w l))
      (λ p l. used_after d e a b out c es push (name_at t) (name_at u) (length t.regions) told.naming told.told told.used made p (subst (λ n. p < n) grown l))

  -- a kept piece, in the words of its proof
  kept_in : (old new : ℕ) → IsKeptPiece d f old new → IsKeptIn d e a b old new
  kept_in old new k = record { whole = k.whole; apart = k.apart; apart_beyond = k.apart_beyond }

  -- and back
  in_kept : (old new : ℕ) → IsKeptIn d e a b old new → IsKeptPiece d f old new
  in_kept old new k = record { whole = k.whole; apart = k.apart; apart_beyond = k.apart_beyond }

  -- kept pieces have their names
  pub names_kept : KeepsNames d f t u
  names_kept old new lo ln k =
      kept_name d e a b out c es push (name_at t) (name_at u) (length t.regions) told.naming told.told told.used made old new lo ln (kept_in old new k)

  -- the names of the changed ones
  abbrev pub names_changed : List ℕ
  names_changed = changed_names d e a b out c es push (name_at t) (name_at u) (length t.regions) told.naming told.told told.used made

  -- four, or five
  pub four_or_five_changed : length names_changed ≡ cond (eqb (name_at t (entered_beyond d f)) (name_at t (near out c))) 4 5
  four_or_five_changed = four_or_five d e a b out c es push (name_at t) (name_at u) (length t.regions) told.naming told.told told.used made

  -- are those of the pieces that the finger changes or makes
  pub changed_are : AreChanged d f u names_changed
  changed_are = record {
    once = different d e a b out c es push (name_at t) (name_at u) (length t.regions) told.naming told.told told.used made;
    named = λ p m. subst (λ n. p < n) (sym grown) (changed_below d e a b out c es push (name_at t) (name_at u) (length t.regions) told.naming told.told told.used made p m);
    listed = λ s l h.
        changed_listed d e a b out c es push (name_at t) (name_at u) (length t.regions) told.naming told.told told.used made s l (λ o lo k. h o lo (in_kept o s k));
    changed = λ s l m o lo k.
        kept_unlisted d e a b out c es push (name_at t) (name_at u) (length t.regions) told.naming told.told told.used made o s lo l (kept_in o s k) m;
  }
