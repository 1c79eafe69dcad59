-- The fields of a certificate, as they are read.
use Rattle.witness_check.specs.Grammar.{Drawn, Outcome}
use Rattle.witness_check.specs.Stages.{PolygonsOn, SeamsOn}
use Rattle.witness_check.specs.declared.fault.Refusal.{Refusal}
use Rattle.witness_check.specs.declared.fault.Refusal.TheVariants.{Bad as badly, NoMemory as no_memory}
use Rattle.witness_check.specs.declared.parsing.ParseRefusal.{ParseRefusal}
use Rattle.witness_check.specs.declared.parsing.ParseRefusal.TheVariants.{Form as form, NoMemory as no_room}
use Rattle.witness_check.specs.declared.parsing.OutcomeLines.{OutcomeLines}
use Rattle.witness_check.specs.declared.parsing.DrawnLines.{DrawnLines}
use Rattle.witness_check.specs.declared.parsing.JoinedLines.{JoinedLines}
use Rattle.witness_check.specs.declared.parsing.BookLines.{BookLines}

-- from the pivots on
abbrev pub outcome_fields : OutcomeLines → Outcome
outcome_fields o = (o.pivots, (o.rank, (o.homology, (o.verdict, tt))))

-- from the strands on
abbrev pub drawn_fields : DrawnLines → Drawn
drawn_fields d = (d.strands, (d.fingers, (d.finals, (d.generators, ((d.contact.number, d.contact.points), outcome_fields d.outcome)))))

-- from the seams on
abbrev pub joined_fields : JoinedLines → SeamsOn
joined_fields j = (j.seams, (j.basis, drawn_fields j.drawn))

-- from the polygons on
abbrev pub book_fields : BookLines → PolygonsOn
book_fields b = (b.polygons, (b.curves, (b.slides, (b.twists, joined_fields b.joined))))

-- why a text is no certificate's, by what its lines are refused for
abbrev pub parse_refusal : Refusal → ParseRefusal
parse_refusal (badly line reason) = form line
parse_refusal no_memory = no_room
