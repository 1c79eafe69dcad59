-- Turns of what is left, found by links and taken out.
use Rattle.std.proofs.Common.{◌≡◌, ℕ, ◌+◌, ◌<◌, Bool, true, eqb, ◌||◌, List, [], ◌++◌, drop, take, get_or, length, refl, sym, ◌∙◌, ap, subst, arith}
use Rattle.std.proofs.lemmas.Bool.{eq-eqb, or_right}
use Rattle.std.proofs.lemmas.List.{get_or_read}
use Rattle.obd_base.specs.declared.points.Exit.{Exit}
use Rattle.page_surface.specs.Drawing.{Drawing, IsEmbedded, IsPlaced, exit, points_on, spot, strand_exits}
use Rattle.page_surface.specs.Polygon.{arc_count, sides}
use Rattle.drawing.specs.declared.links.Link.{Link}
use Rattle.drawing.specs.declared.left_turns.Turn.{Turn}
use Rattle.drawing.specs.LeftTurns.{AreGone, HasNumbers, IsFree, IsTurnAt, marked}
use Rattle.drawing.specs.Links.{AreLinksOf, AreNext, AreWays, Between, exit_gone}
use Rattle.drawing.specs.Thinned.{TurnsGone, turn_gone}
use Rattle.drawing.proofs.LinkTables.{linked_more}
use Rattle.drawing.proofs.Lists.{written_back}
use Rattle.drawing.proofs.StrandTables.{exit_there}
use Rattle.drawing.proofs.Thinned.{turns_gone_same}
use Rattle.drawing.proofs.TurnLeft.{turn_left_gone}

module _ (d : Drawing) (ok : IsPlaced d) (i at next : ℕ) (follows : at < next) (inside : next < length (strand_exits d i)) (exits : List Exit) (is : exits ≡ strand_exits d i) where
  -- where an exit of a strand stands
  pub out_there : (e : Exit) → e ≡ get_or exits at e → (e.side < sides d.polygon) × (e.place < points_on d e.side)
  out_there e read = exit_there d ok i at e exits is (omega (arith, follows, inside, ap length is)) read

  -- and where a later one does
  pub back_there : (e : Exit) → e ≡ get_or exits next e → (e.side < sides d.polygon) × (e.place < points_on d e.side)
  back_there e read = exit_there d ok i next e exits is (omega (arith, inside, ap length is)) read

-- two exits with none between them that stays, of which both stay and are neighbours, are a turn
pub turn_found : (d : Drawing) (gone : ℕ → Bool) (i at next : ℕ) (t : Turn) → i < arc_count d.polygon → at < next → next < length (strand_exits d i) → Between (exit_gone d gone i) at next
    → HasNumbers d i at next t → IsFree gone t → IsTurnAt d gone t
turn_found d gone i at next t arc follows inside none h free = record {
  out = h.out;
  back = h.back;
  turn = rw (h.strand_is, h.at_is, h.next_is) (record {
    arc = arc;
    follows = follows;
    inside = inside;
    out_is = h.out_read;
    back_is = h.back_read;
    none_between = none;
    turns = record {
      returns = h.returns;
      out_stays = rw (← h.numbers.out_is) free.out_stays;
      back_stays = rw (← h.numbers.back_is) free.back_stays;
      near = rw (← h.numbers.out_is, ← h.numbers.through_is) free.near;
      far = rw (← h.numbers.entry_is, ← h.numbers.back_is) free.far;
    };
  });
  numbers = h.numbers;
  inside = h.inside;
}

-- ways that are written back whole
pub ways_back : (d : Drawing) (gone : ℕ → Bool) (n : ℕ) (old new : List (List Link)) → length new ≡ n → length old ≡ n → AreWays d gone new → AreWays d gone (take n (new ++ drop (length new) old))
ways_back d gone n old new a b h = subst (λ (ways : List (List Link)). AreWays d gone ways) (sym (written_back n old new a b)) h

module _ (d : Drawing) (gone : ℕ → Bool) (t : Turn) where
  -- what was gone is still gone with a turn
  marked_gone : (x : ℕ) → gone x ≡ true → marked t gone x ≡ true
  marked_gone x h = ap (λ (b : Bool). b || (eqb x t.out || (eqb x t.entry || (eqb x t.back || eqb x t.through)))) h

  -- and its way out is gone
  marked_out : marked t gone t.out ≡ true
  marked_out = or_right (gone t.out) _ (rw (eq-eqb t.out t.out refl) refl)

  -- under its other name too
  marked_entry : marked t gone t.entry ≡ true
  marked_entry = or_right (gone t.entry) _ (or_right (eqb t.entry t.out) _ (rw (eq-eqb t.entry t.entry refl) refl))

  -- and so is the way back
  marked_back : marked t gone t.back ≡ true
  marked_back = or_right (gone t.back) _ (or_right (eqb t.back t.out) _ (or_right (eqb t.back t.entry) _ (rw (eq-eqb t.back t.back refl) refl)))

  -- under both names
  marked_through : marked t gone t.through ≡ true
  marked_through = or_right (gone t.through) _ (or_right (eqb t.through t.out) _ (or_right (eqb t.through t.entry) _ (or_right (eqb t.through t.back) _ (eq-eqb t.through t.through refl))))

-- neighbours stay neighbours when more is gone
next_more : (gone more : ℕ → Bool) (a b : ℕ) → ((x : ℕ) → gone x ≡ true → more x ≡ true) → AreNext gone a b → AreNext more a b
next_more gone more a b h next = (next.0, λ x l m. h x (next.1 x l m))

module _ (d : Drawing) (gone new : ℕ → Bool) (t : Turn) (turn : IsTurnAt d gone t) (is : (x : ℕ) → new x ≡ marked t gone x) where
  -- what was gone is still gone
  still_gone : (x : ℕ) → gone x ≡ true → new x ≡ true
  still_gone x h = is x ∙ marked_gone d gone t x h

  -- the turn is gone
  pub turn_is_gone : AreGone d new t
  turn_is_gone =
      let out : new t.out ≡ true = is t.out ∙ marked_out d gone t in
      let back : new t.back ≡ true = is t.back ∙ marked_back d gone t in
      let exits : ℕ → Exit = λ a. get_or (strand_exits d t.strand) a (exit 0 0) in
      let out_read : exits t.at ≡ turn.out = sym (get_or_read (strand_exits d t.strand) t.at turn.out (omega (arith, turn.turn.follows, turn.turn.inside)) turn.turn.out_is (exit 0 0)) in
      let back_read : exits t.next ≡ turn.back = sym (get_or_read (strand_exits d t.strand) t.next turn.back turn.turn.inside turn.turn.back_is (exit 0 0)) in
      let over : (x : ℕ) → exit_gone d gone t.strand x ≡ true → exit_gone d new t.strand x ≡ true = λ x h. still_gone (spot d (exits x)) h in
      record {
        out_gone = out;
        entry_gone = is t.entry ∙ marked_entry d gone t;
        back_gone = back;
        through_gone = is t.through ∙ marked_through d gone t;
        at_gone = ap new (ap (spot d) out_read ∙ sym turn.numbers.out_is) ∙ out;
        next_gone = ap new (ap (spot d) back_read ∙ sym turn.numbers.back_is) ∙ back;
        far = next_more gone new t.entry t.back still_gone (rw (turn.numbers.entry_is, turn.numbers.back_is) turn.turn.turns.far);
        near = next_more gone new t.out t.through still_gone (rw (turn.numbers.out_is, turn.numbers.through_is) turn.turn.turns.near);
        follows = (omega (arith, turn.turn.follows), λ x l m. over x (turn.turn.none_between x (omega (arith, l, turn.turn.follows)) (omega (arith, m, turn.turn.follows))));
      }

  -- links are still right
  pub links_still : (sides : List Link) (ways : List (List Link)) → AreLinksOf d gone sides ways → AreLinksOf d new sides ways
  links_still sides ways r = record {
    sides_linked = linked_more gone new sides still_gone r.sides_linked;
    ways_linked = λ i l. linked_more (exit_gone d gone i) (exit_gone d new i) (get_or ways i []) (λ x h. still_gone (spot d (get_or (strand_exits d i) x (exit 0 0))) h) (r.ways_linked i l);
  }

  -- one turn more is gone
  pub turn_more : IsEmbedded d → (turns : ℕ) → TurnsGone d gone turns → TurnsGone d new (turns + 1)
  turn_more ok turns taken =
      turns_gone_same d ok (turn_gone d turn.out turn.back gone) new (turns + 1)
      (λ x l. rw (← turn.numbers.out_is, ← turn.numbers.entry_is, ← turn.numbers.back_is, ← turn.numbers.through_is) (sym (is x)))
      (turn_left_gone d ok gone turns taken t.strand t.at t.next turn.out turn.back turn.turn)
