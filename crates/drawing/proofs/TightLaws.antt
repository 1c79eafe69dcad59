-- Laws of tight drawings: words tell them, and every embedded drawing becomes one when its turns are taken out.
use Rattle.std.proofs.Common.{◌≡◌, ℕ, ◌+◌, ◌<◌, List, map, length, ◌≢◌}
use Rattle.obd_base.specs.declared.points.Exit.{Exit}
use Rattle.page_surface.specs.Drawing.{Drawing, IsEmbedded, all_exits, strand_exits, words}
use Rattle.page_surface.specs.Polygon.{arc_count}
use Rattle.page_surface.specs.Words.{Step, reduced}
use Rattle.drawing.specs.Tight.{IsTight, tight_drawing}
use Rattle.drawing.specs.Turns.{IsTurn, Loosened, TurnsOut, without_turn}
use Rattle.drawing.proofs.tight.TightPlaces
use Rattle.drawing.proofs.tight.Tightened
use Rattle.drawing.proofs.tight.TurnFound
use Rattle.drawing.proofs.tight.TurnRemoved

-- two tight embedded drawings on one polygon with the same words are equal
pub one_tight_drawing : (d e : Drawing) → IsEmbedded d → IsTight d → IsEmbedded e → IsTight e → d.polygon ≡ e.polygon → words d ≡ words e → d ≡ e
one_tight_drawing d e dok dt eok et q r = TightPlaces.one_tight_drawing d e dok dt eok et q r

-- a tight embedded drawing is the one that the definition gives for its words
pub is_tight_drawing : (d : Drawing) → IsEmbedded d → IsTight d → d ≡ tight_drawing d.polygon (words d)
is_tight_drawing d ok tight = TightPlaces.is_tight_drawing d ok tight

-- where a word has a cancelling pair, there is an innermost turn
pub turn_found : (d : Drawing) → IsEmbedded d → (i : ℕ) (w : List ℕ) → i < arc_count d.polygon → Step d.polygon (map (λ e. e.side) (strand_exits d i)) w
    → (j : ℕ) × (us : List Exit) × (u : Exit) × (v : Exit) × (vs : List Exit) × IsTurn d j us u v vs
turn_found d ok i w l s = TurnFound.turn_found d ok i w l s

module _ (d : Drawing) (ok : IsEmbedded d) (i : ℕ) (us : List Exit) (u v : Exit) (vs : List Exit) (turn : IsTurn d i us u v vs) where
  -- without a turn a drawing is embedded
  pub turn_removed : IsEmbedded (without_turn d i us u v vs)
  turn_removed = TurnRemoved.turn_removed d ok i us u v vs turn

  -- one cancelling pair is taken out of the word of its strand
  pub word_steps : Step d.polygon (map (λ e. e.side) (strand_exits d i)) (map (λ e. e.side) (strand_exits (without_turn d i us u v vs) i))
  word_steps = TurnRemoved.word_steps d ok i us u v vs turn

  -- all other words stay
  pub other_words : (j : ℕ) → j < arc_count d.polygon → j ≢ i → map (λ e. e.side) (strand_exits (without_turn d i us u v vs) j) ≡ map (λ e. e.side) (strand_exits d j)
  other_words j l ne = TurnRemoved.other_words d ok i us u v vs turn j l ne

  -- there are two exits fewer
  pub exits_fewer : length (all_exits (without_turn d i us u v vs)) + 2 ≡ length (all_exits d)
  exits_fewer = TurnRemoved.exits_fewer d ok i us u v vs turn

-- the tight drawing of the reduced words of an embedded drawing is embedded
pub reduced_words_embedded : (d : Drawing) → IsEmbedded d → IsEmbedded (tight_drawing d.polygon (map (reduced d.polygon) (words d)))
reduced_words_embedded d ok = (Tightened.reduced_words_drawn d ok).0

-- and tight
pub reduced_words_tight : (d : Drawing) → IsEmbedded d → IsTight (tight_drawing d.polygon (map (reduced d.polygon) (words d)))
reduced_words_tight d ok = (Tightened.reduced_words_drawn d ok).1

-- it is what comes when turns are taken out, in whatever order, until no word has a cancelling pair
pub turns_out_tight : (d e : Drawing) → IsEmbedded d → TurnsOut d e → IsTight e → e ≡ tight_drawing d.polygon (map (reduced d.polygon) (words d))
turns_out_tight d e ok turns tight = Tightened.tight_loosened d e ok (Tightened.loosened_turns ok turns) tight

-- the words tell it too: an embedded drawing comes from itself,
pub loosened_same : (d : Drawing) → IsEmbedded d → Loosened d d
loosened_same d ok = Tightened.loosened_same d ok

-- without a turn it comes from the one with it,
pub loosened_turn : (d : Drawing) → IsEmbedded d → (i : ℕ) (us : List Exit) (u v : Exit) (vs : List Exit) → IsTurn d i us u v vs → Loosened d (without_turn d i us u v vs)
loosened_turn d ok i us u v vs turn = Tightened.loosened_turn d ok i us u v vs turn

-- what comes in two stages comes,
pub loosened_then : (d e f : Drawing) → Loosened d e → Loosened e f → Loosened d f
loosened_then d e f r s = Tightened.loosened_then d e f r s

-- and when no word has a cancelling pair any more, it is the tight drawing of the reduced words
pub tight_loosened : (d e : Drawing) → IsEmbedded d → Loosened d e → IsTight e → e ≡ tight_drawing d.polygon (map (reduced d.polygon) (words d))
tight_loosened d e ok r tight = Tightened.tight_loosened d e ok r tight
