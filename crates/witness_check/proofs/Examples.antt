-- Worked certificates: the text of the annulus without a twist, and the annulus with one left twist, whose certificate says that the
-- contact class is zero.
use Rattle.std.specs.Prelude.{pos, negsuc, Ok}
use Rattle.std.proofs.Common.{◌≡◌, ℕ, zero, suc, List, [], ◌∷◌, ◌++◌, codes, refl, arith}
use Rattle.std.specs.List.{flat_map}
use Rattle.std.specs.Fmt.{digits}
use Rattle.page_surface.specs.Drawing.{exit}
use Rattle.page_surface.proofs.EmbeddedTest.{embedded_from_test}
use Rattle.page_surface.proofs.Examples.{annulus, annulus_is_polygon, annulus_one_left_twist}
use Rattle.page_surface.proofs.WordLaws.{HasNoPair-free}
use Rattle.drawing.specs.Tight.{IsTight}
use Rattle.region_table.proofs.Tests.{nice_from_test}
use Rattle.mod2_rank.specs.declared.outcome.Verdict.TheVariants.{Chain, Functional}
use Rattle.mod2_rank.proofs.Examples.{annulus_one_left_twist_outcome, annulus_one_left_twist_rank}
use Rattle.witness_check.specs.Belonging.{BelongsTo, IsFirstDrawing}
use Rattle.witness_check.specs.declared.checked.Answer.TheVariants.{Nonzero as nonzero, Zero as zero_answer}
use Rattle.witness_check.specs.declared.checked.Checked.TheVariants.{Valid as valid}
use Rattle.witness_check.specs.Checked.{checked}
use Rattle.witness_check.specs.Grammar.{parsed, says}
use Rattle.witness_check.specs.Line.{line, lines, listed}
use Rattle.witness_check.specs.OpenBook.{IsOpenBook, OpenBook, joined_surface, words_on}
use Rattle.witness_check.specs.Text.{certificate_text}
use Rattle.witness_check.specs.declared.certificate.Certificate.{Certificate}
use Rattle.witness_check.proofs.BelongsValid.{belonging_valid}
use Rattle.witness_check.proofs.FitsLaw.{fits_says}
use Rattle.witness_check.proofs.TextLaws.{printed_parses}
use Rattle.witness_check.proofs.ValidLaw.{kept_shows}

-- some lines, each with its line feed
abbrev text_of_lines : List (List ℕ) → List ℕ
text_of_lines rows = flat_map (λ row. row ++ 10 ∷ []) rows

-- the annulus without a twist
abbrev plain_annulus : Certificate
plain_annulus = record {
  version = 1;
  polygons = (codes "A" ∷ codes "A" ∷ []) ∷ [];
  curves = [];
  slides = [];
  twists = [];
  seams = [];
  basis = 0 ∷ 0 ∷ [];
  strands = (exit 1 0 ∷ []) ∷ [];
  fingers = [];
  finals = (exit 1 0 ∷ []) ∷ [];
  generators = 2;
  contact = 1;
  points = 1 ∷ [];
  pivots = [];
  rank = 0;
  homology = pos 2;
  verdict = Functional (1 ∷ []);
}

annulus_text : certificate_text plain_annulus ≡ text_of_lines (
    codes "contact certificate 1" ∷ codes "polygons 1" ∷ codes "polygon A A" ∷ codes "curves 0" ∷ codes "slides 0" ∷ codes "twists 0" ∷ codes "seams 0"
    ∷ codes "basis 0 0" ∷ codes "strand 0 1.0" ∷ codes "fingers 0" ∷ codes "final 0 1.0" ∷ codes "generators 2" ∷ codes "contact 1 1" ∷ codes "pivots 0"
    ∷ codes "rank 0" ∷ codes "homology 2" ∷ codes "nonzero 1" ∷ codes "end" ∷ [])
unfolding line lines listed digits
annulus_text = refl

-- the text says this certificate, and it is valid
annulus_parsed : parsed (certificate_text plain_annulus) ≡ says plain_annulus
annulus_parsed = printed_parses plain_annulus refl

annulus_valid : checked (certificate_text plain_annulus) ≡ valid nonzero
unfolding line lines listed digits
annulus_valid = refl

-- the annulus with one left twist about its core
abbrev left_annulus : OpenBook
left_annulus = record {
  page = (codes "A" ∷ codes "A" ∷ []) ∷ [];
  curves = record { name = codes "c"; path = record { label = codes "A"; occurrence = 0; place = 0 } ∷ [] } ∷ [];
  slides = [];
  twists = record { name = codes "c"; power = negsuc 0 } ∷ [];
}

-- the strand's word has two letters
left_annulus_words : words_on (joined_surface left_annulus) left_annulus ≡ Ok ((1 ∷ 1 ∷ []) ∷ [])
left_annulus_words = refl

left_annulus_tight : IsTight annulus_one_left_twist
left_annulus_tight zero = HasNoPair-free annulus (1 ∷ 1 ∷ []) (refl, (tt, tt))
left_annulus_tight (suc i) = HasNoPair-free annulus [] tt

left_annulus_first : IsFirstDrawing left_annulus (joined_surface left_annulus) annulus_one_left_twist
left_annulus_first = record {
  words = (1 ∷ 1 ∷ []) ∷ [];
  words_are = left_annulus_words;
  drawn = refl;
  embedded = embedded_from_test annulus_one_left_twist annulus_is_polygon refl;
  tight = left_annulus_tight;
}

-- the certificate of rank 1: the columns of the two crossing points are the contact generator alone
abbrev zero_annulus : Certificate
zero_annulus = record {
  version = 1;
  polygons = left_annulus.page;
  curves = left_annulus.curves;
  slides = [];
  twists = left_annulus.twists;
  seams = [];
  basis = 0 ∷ 0 ∷ [];
  strands = (exit 1 1 ∷ exit 1 0 ∷ []) ∷ [];
  fingers = [];
  finals = (exit 1 1 ∷ exit 1 0 ∷ []) ∷ [];
  generators = 3;
  contact = 2;
  points = 2 ∷ [];
  pivots = record { column = 0; row = 2 } ∷ [];
  rank = 1;
  homology = pos 1;
  verdict = Chain (0 ∷ []);
}

left_annulus_is_zero : BelongsTo left_annulus zero_annulus
left_annulus_is_zero = record {
  version = refl;
  polygons = refl;
  curves = refl;
  slides = refl;
  twists = refl;
  surface = joined_surface left_annulus;
  surface_is = refl;
  seams = refl;
  basis = refl;
  first = annulus_one_left_twist;
  first_is = left_annulus_first;
  strands = refl;
  few_fingers = omega arith;
  last = annulus_one_left_twist;
  last_is = record {
    legal = tt;
    replayed_so = refl;
    embedded = left_annulus_first.embedded;
    nice = nice_from_test annulus_one_left_twist refl;
  };
  finals = refl;
  generators_are = refl;
  few_generators = omega arith;
  points = refl;
  contact = refl;
  contact_last = refl;
  contact_column = refl;
  concludes = record { outcome = annulus_one_left_twist_outcome; rank_is = annulus_one_left_twist_rank };
  homology = refl;
}

-- its lines write an open book, which is the one, so its text is valid
left_annulus_book : IsOpenBook left_annulus
left_annulus_book = (kept_shows zero_annulus (fits_says zero_annulus refl) refl).book

left_annulus_valid : checked (certificate_text zero_annulus) ≡ valid zero_answer
left_annulus_valid = belonging_valid left_annulus zero_annulus left_annulus_book left_annulus_is_zero
