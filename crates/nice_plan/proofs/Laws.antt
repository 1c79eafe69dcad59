-- Laws of the strategy: the fingers of a burst are legal one after another, its path meets no piece twice, it lowers the weight, and so the
-- strategy ends in a nice drawing.
use Rattle.std.proofs.Common.{◌≡◌, ℕ, suc, ◌*◌, ◌<◌, ◌≤◌, false, eqb, List, length, map, refl, sym, ◌∙◌, arith}
use Rattle.std.proofs.lemmas.Bool.{le-ltb}
use Rattle.page_surface.specs.Drawing.{Drawing, IsEmbedded, words}
use Rattle.page_surface.specs.Words.{reduced}
use Rattle.drawing.specs.Points.{crossings_of, is_on}
use Rattle.drawing.specs.declared.finger.Finger.{Finger}
use Rattle.drawing.specs.Fingers.{replayed}
use Rattle.drawing.specs.Pieces.{distance}
use Rattle.region_table.specs.Nice.{is_nice, weight}
use Rattle.drawing.specs.Fingers.{AllLegal}
use Rattle.finger_move.specs.Glued.{segment_of}
use Rattle.finger_move.proofs.Replayed.{replayed_polygon, replayed_words}
use Rattle.nice_plan.specs.Burst.{burst, doors, path}
use Rattle.nice_plan.specs.Numbers.{burst_fingers}
use Rattle.nice_plan.specs.Path.{chosen}
use Rattle.nice_plan.specs.Strategy.{IsStrategy, burst_count, strategy, within_limit}
use Rattle.nice_plan.proofs.BurstLegal
use Rattle.nice_plan.proofs.BurstLength
use Rattle.nice_plan.proofs.BurstLowers
use Rattle.nice_plan.proofs.BurstNumbers
use Rattle.nice_plan.proofs.ChosenPiece
use Rattle.nice_plan.proofs.ChosenPiece.{IsChosen}
use Rattle.nice_plan.proofs.Fitting
use Rattle.nice_plan.proofs.Fitting.{Fits}
use Rattle.nice_plan.proofs.PathEnds
use Rattle.nice_plan.proofs.PathEnds.{IsWholePath}
use Rattle.nice_plan.proofs.StrategyEnds
use Rattle.nice_plan.proofs.StrategyEnds.{Ended}

-- the contact point of an arc lies on the arc's own strand
own_strand : (d : Drawing) (i a : ℕ) → is_on d i a (crossings_of d a) ≡ eqb i a
own_strand d i a = rw (le-ltb (crossings_of d a) (crossings_of d a) (omega arith)) refl

-- the chosen piece is bad, isn't base, and no bad piece is farther
pub chosen_is : (d : Drawing) → is_nice d ≡ false → IsChosen d (chosen d)
chosen_is d bad = ChosenPiece.chosen_is d bad

-- the path meets no piece twice, ends by the rule, and has at most as many segments as there are chords
pub whole_path : (d : Drawing) → IsEmbedded d → is_nice d ≡ false → IsWholePath d
whole_path d ok bad = PathEnds.whole_path d ok bad

-- a burst has as many fingers as the chosen piece's distance times the path's segments
pub burst_length : (d : Drawing) → length (burst d) ≡ distance d (chosen d) * length (path d)
burst_length d = BurstLength.burst_length d

-- they are given by numbers of the drawing before it alone
pub burst_numbers : (d : Drawing) → IsEmbedded d → is_nice d ≡ false → burst d ≡ burst_fingers d (doors d) (map (segment_of d) (path d))
burst_numbers d ok bad = BurstNumbers.burst_numbers d ok bad

-- each is legal in the drawing that the ones before it leave
pub burst_legal : (d : Drawing) → IsEmbedded d → is_nice d ≡ false → AllLegal d (burst d)
burst_legal d ok bad = BurstLegal.burst_legal d ok bad

-- the drawing after the burst is embedded
pub burst_embedded : (d : Drawing) → IsEmbedded d → is_nice d ≡ false → IsEmbedded (replayed d (burst d))
burst_embedded d ok bad = BurstLegal.burst_embedded d ok bad

-- its weight is lower by one at least
pub burst_lowers : (d : Drawing) → IsEmbedded d → is_nice d ≡ false → suc (weight (replayed d (burst d))) ≤ weight d
burst_lowers d ok bad = BurstLowers.burst_lowers d ok bad

-- the strategy's list is legal, ends in a nice embedded drawing, and has at most as many bursts as the first weight
pub strategy_ends : (d : Drawing) → IsEmbedded d → Ended d (strategy d) (burst_count (weight d) d)
strategy_ends d ok = StrategyEnds.strategy_ends d ok

-- the nice drawing lies in the same polygon and has the words of the first one, reduced,
pub nice_polygon : (d : Drawing) → IsEmbedded d → (replayed d (strategy d)).polygon ≡ d.polygon
nice_polygon d ok = replayed_polygon d ok (strategy d) (strategy_ends d ok).legal

pub nice_words : (d : Drawing) → IsEmbedded d → map (reduced d.polygon) (words (replayed d (strategy d))) ≡ map (reduced d.polygon) (words d)
nice_words d ok = replayed_words d ok (strategy d) (strategy_ends d ok).legal

-- and the same contact points: that of an arc is the end of its sides, and lies on the same strand
pub nice_contacts : (d : Drawing) (i a : ℕ) → is_on (replayed d (strategy d)) i a (crossings_of (replayed d (strategy d)) a) ≡ is_on d i a (crossings_of d a)
nice_contacts d i a = own_strand (replayed d (strategy d)) i a ∙ sym (own_strand d i a)

-- it is one list
pub one_strategy : (d : Drawing) (fs gs : List Finger) → IsStrategy d fs → IsStrategy d gs → fs ≡ gs
one_strategy d fs gs h k = StrategyEnds.one_strategy d fs gs h k

-- the bursts that fit within a limit are all where the strategy's list is no longer, and else leave a drawing that isn't nice
pub fits_limit : (limit : ℕ) (d : Drawing) → IsEmbedded d → Fits d (weight d) limit (within_limit limit d)
fits_limit limit d ok = Fitting.fits_limit limit d ok

-- whose weight is above 0
pub weighs : (d : Drawing) → IsEmbedded d → is_nice d ≡ false → 1 ≤ weight d
weighs d ok bad = Fitting.weighs d ok bad

-- so where the strategy's list is longer than the limit, a weight is left
pub weight_left : (limit : ℕ) (d : Drawing) → IsEmbedded d → limit < length (strategy d) → 1 ≤ weight (replayed d (within_limit limit d))
weight_left limit d ok over = let fits = Fitting.fits_limit limit d ok in Fitting.weighs (replayed d (within_limit limit d)) fits.embedded (fits.cut over)
