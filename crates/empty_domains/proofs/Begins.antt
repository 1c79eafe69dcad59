-- A domain's edges: one begins on each arc on which the generators differ.
use Rattle.std.proofs.Common.{◌≡◌, ℕ, suc, ◌+◌, ◌≤◌, ◌<◌, inl, inr, ◌≢◌, true, List, length, get_or, refl, sym, ap, subst, arith, ◌∙◌}
use Rattle.drawing.specs.Pieces.{inner_pieces, span_count}
use Rattle.drawing.specs.Points.{crossings_of}
use Rattle.drawing.specs.Round.{opposite, point_name, arc_of, point_of}
use Rattle.empty_domains.proofs.Along.{Names, shifted, edge_room, named, name_is, one_source, one_sink}
use Rattle.empty_domains.proofs.Circle.{IsGeneral, Source, Sink}
use Rattle.empty_domains.proofs.Diagram.{IsCross, IsEnd, IsPoint, other_of}
use Rattle.empty_domains.proofs.DomainGeneral.{Rules, domain_general, source_of, sink_of, source_at}
use Rattle.empty_domains.proofs.Edge.{ArcEdge, edge_from}
use Rattle.empty_domains.proofs.PieceMark.{point_under}
use Rattle.empty_domains.proofs.Strands.{drawing_circle}
use Rattle.hkm_diagram.proofs.ContactColumn.{mark}
use Rattle.empty_domains.specs.Walk.{room}
use Rattle.obd_base.specs.Lists.{has}
use Rattle.page_surface.specs.Drawing.{Drawing, IsEmbedded}
use Rattle.page_surface.specs.Polygon.{arc_count}

-- a choice of one point on each arc
pub record IsChoice (d : Drawing) (y : List ℕ) : Type 0 where
  pub long : length y ≡ arc_count d.polygon
  pub under : (a : ℕ) → a < arc_count d.polygon → get_or y a 0 ≤ crossings_of d a

module _ (d : Drawing) (ok : IsEmbedded d) (area : List ℕ) (inner : (s : ℕ) → has area s ≡ true → has (inner_pieces d) s ≡ true)
    (y x : List ℕ) (rules : Rules d y x area) (choice : IsChoice d y) where
  -- the marks of the set
  abbrev f : ℕ → ℕ
  f = mark d area

  -- the set is general
  abbrev pub general : IsGeneral (other_of d) (opposite d) (IsCross d) (IsEnd d) f
  general = domain_general d ok area inner y x rules

  -- the edge on an arc: from y's point to x's
  pub record Begins (i : ℕ) : Type 0 where
    pub start : ℕ
    pub width : ℕ
    pub names : Names d i (get_or y i 0) start
    pub point : IsPoint d start
    pub lies : arc_of d start ≡ i
    pub source : Source (opposite d) f start
    pub edge : ArcEdge (opposite d) (IsCross d) f start width
    pub fits : width ≤ room d start
    pub reaches : get_or x i 0 ≡ point_of d (start + width)

  -- a corner out of which the set leads is y's point and not x's
  pub source_arc : (n : ℕ) → IsPoint d n → Source (opposite d) f n → (get_or y (arc_of d n) 0 ≡ point_of d n) × (get_or x (arc_of d n) 0 ≢ point_of d n)
  source_arc n p s = let (la, lj, h) = named d ok n p in source_of d ok area inner y x rules (arc_of d n) (point_of d n) la lj n h s

  -- one into which it leads is x's and not y's
  pub sink_arc : (n : ℕ) → IsPoint d n → Sink (opposite d) f n → (get_or x (arc_of d n) 0 ≡ point_of d n) × (get_or y (arc_of d n) 0 ≢ point_of d n)
  sink_arc n p s = let (la, lj, h) = named d ok n p in sink_of d ok area inner y x rules (arc_of d n) (point_of d n) la lj n h s

  begins_at : (i a : ℕ) → i < arc_count d.polygon → Names d i (get_or y i 0) a → Source (opposite d) f a → Begins i
  begins_at i a li h s =
      let (p, e, k) = name_is d ok i (get_or y i 0) a li (choice.under i li) h in
      let (z, q, c) = general.mark.inner (suc a) s.after in
      let c' : IsCross d a = subst (λ n. IsCross d n) (let w : z ≡ a = omega arith in w) c in
      let (r, edge) = edge_from (other_of d) (opposite d) (IsCross d) (IsEnd d) (drawing_circle d ok) f general (span_count d)
      (λ z c. (let l = point_under d ok z (inl c) in omega arith)) a c' s in
      let room = edge_room d ok f a r p edge in
      let (pr, er, ne) = shifted d ok a r p room in
      let sink = sink_arc (a + r) pr edge.stop in
      record {
        start = a;
        width = r;
        names = h;
        point = p;
        lies = e;
        source = s;
        edge = edge;
        fits = room;
        reaches = ap (λ n. get_or x n 0) (sym (er ∙ e)) ∙ sink.0;
      }

  -- an edge begins on each arc on which the generators differ
  pub begins : (i : ℕ) → i < arc_count d.polygon → get_or y i 0 ≢ get_or x i 0 → Begins i
  begins i li ne = elim (source_at d ok area inner y x rules i li (choice.under i li) ne) [
    | inl s ↦ begins_at i (point_name d i (get_or y i 0)) li (inl refl) s
    | inr s ↦ begins_at i (opposite d (point_name d i (get_or y i 0))) li (inr refl) s
  ]

  -- a corner on the arc of an edge is one of its two
  pub source_is : (i : ℕ) → i < arc_count d.polygon → (b : Begins i) → (n : ℕ) → IsPoint d n → Source (opposite d) f n → arc_of d n ≡ i → n ≡ b.start
  source_is i li b n p s e =
      let (la, lj, h) = named d ok n p in
      let k = (source_arc n p s).0 in
      let h' : Names d i (get_or y i 0) n = subst (λ a. Names d a (get_or y a 0) n) e (subst (λ j. Names d (arc_of d n) j n) (sym k) h) in
      one_source d ok f i (get_or y i 0) n b.start li (choice.under i li) h' b.names s b.source

  -- so is one into which the set leads
  pub sink_is : (i : ℕ) → i < arc_count d.polygon → (b : Begins i) → (n : ℕ) → IsPoint d n → Sink (opposite d) f n → arc_of d n ≡ i → n ≡ b.start + b.width
  sink_is i li b n p s e =
      let (la, lj, h) = named d ok n p in
      let k = (sink_arc n p s).0 in
      let m = b.start + b.width in
      let (pm, em, ne) = shifted d ok b.start b.width b.point b.fits in
      let (lb, li', hm) = named d ok m pm in
      let q : arc_of d n ≡ arc_of d m = e ∙ sym (em ∙ b.lies) in
      let t : point_of d m ≡ point_of d n = sym b.reaches ∙ (ap (λ a. get_or x a 0) (sym e) ∙ k) in
      let hm' : Names d (arc_of d n) (point_of d n) m = subst (λ a. Names d a (point_of d n) m) (sym q) (subst (λ j. Names d (arc_of d m) j m) t hm) in
      one_sink d ok f (arc_of d n) (point_of d n) n m la lj h hm' s b.edge.stop
