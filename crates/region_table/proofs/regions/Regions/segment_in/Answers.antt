use Rattle.std.proofs.Common.{◌≡◌, ℕ, ◌+◌, eqb, List, filter, length, get_or, ap, ap₂, subst, arith, ◌∙◌}
use Rattle.std.proofs.lemmas.List.{get_or_default}
use Rattle.obd_base.specs.Lists.{below}
use Rattle.region_table.specs.Counted.{size_so_far}
use Rattle.region_table.specs.Listed.{IsKeptListed}
use Rattle.region_table.specs.Table.{Table}
use Rattle.region_table.proofs.KeptReads.{few_names}
use Rattle.region_table.proofs.SegmentReads.{listed_named, named_inside, place_listed, segment_named, size_counted, start_listed}
use Rattle.region_table.proofs.regions.Regions.segment_in.Goals as goal

pub overflow_add-index : goal.overflow_add-index
overflow_add-index c =
    let t = c.args.self.now in
    let i = c.self.inside in
    let starts = i.listing.starts.items in
    let spans = i.listing.spans.items in
    let all = subst (λ u. IsKeptListed u i.frame.ends.items i.counted starts spans) c.self.view_is c.self.invariant.0 in
    let p = c.args.piece in
    let order = all.in_order c.if-self.true in
    let begin = ap (λ n. get_or starts n 0) c.number.ensures.value in
    let start = start_listed t i.frame.ends.items all.kept p c.requires.piece c.requires.inner starts spans all.as_many_starts order in
    let read : c.index.result.now ≡ get_or starts p 0
    = c.index.ensures ∙ (get_or_default starts c.number.result _ 0 (omega (arith, c.number.ensures.value, start)) ∙ begin) in
    let place = place_listed t i.frame.ends.items all.kept p c.requires.piece c.requires.inner starts spans all.as_many_starts order c.args.index c.requires.index in
    omega (arith, read, place, few_names t i.frame.ends.items all.kept)

pub index-requires-then-self : goal.index-requires-then-self
index-requires-then-self c =
    let t = c.args.self.now in
    let i = c.self.inside in
    let starts = i.listing.starts.items in
    let spans = i.listing.spans.items in
    let all = subst (λ u. IsKeptListed u i.frame.ends.items i.counted starts spans) c.self.view_is c.self.invariant.0 in
    let p = c.args.piece in
    let order = all.in_order c.if-self.true in
    let begin = ap (λ n. get_or starts n 0) c.number.ensures.value in
    let start = start_listed t i.frame.ends.items all.kept p c.requires.piece c.requires.inner starts spans all.as_many_starts order in
    let read : c.index.result.now ≡ get_or starts p 0
    = c.index.ensures ∙ (get_or_default starts c.number.result _ 0 (omega (arith, c.number.ensures.value, start)) ∙ begin) in
    let place = place_listed t i.frame.ends.items all.kept p c.requires.piece c.requires.inner starts spans all.as_many_starts order c.args.index c.requires.index in
    omega (arith, read, place, order.as_many, i.listing.spans.ok)

pub returns-then-self-clause-inside : goal.returns-then-self-clause-inside
returns-then-self-clause-inside c =
    let t = c.args.self.now in
    let i = c.self.inside in
    let starts = i.listing.starts.items in
    let spans = i.listing.spans.items in
    let all = subst (λ u. IsKeptListed u i.frame.ends.items i.counted starts spans) c.self.view_is c.self.invariant.0 in
    let p = c.args.piece in
    let order = all.in_order c.if-self.true in
    let begin = ap (λ n. get_or starts n 0) c.number.ensures.value in
    let start = start_listed t i.frame.ends.items all.kept p c.requires.piece c.requires.inner starts spans all.as_many_starts order in
    let read : c.index.result.now ≡ get_or starts p 0
    = c.index.ensures ∙ (get_or_default starts c.number.result _ 0 (omega (arith, c.number.ensures.value, start)) ∙ begin) in
    let place = place_listed t i.frame.ends.items all.kept p c.requires.piece c.requires.inner starts spans all.as_many_starts order c.args.index c.requires.index in
    let seen = c.index-then-self.ensures ∙ (get_or_default spans (c.index.result.now + c.args.index) _ 0 (omega (arith, read, place, order.as_many)) ∙ ap (λ n. get_or spans (n + c.args.index) 0) read)
    ∙ listed_named t i.frame.ends.items all.kept p c.requires.piece c.requires.inner starts spans all.as_many_starts order c.args.index c.requires.index in
    omega (arith, seen, named_inside t i.frame.ends.items all.kept p c.requires.piece c.requires.inner c.args.index c.requires.index)

pub returns-then-self-clause-value : goal.returns-then-self-clause-value
returns-then-self-clause-value c =
    let t = c.args.self.now in
    let i = c.self.inside in
    let starts = i.listing.starts.items in
    let spans = i.listing.spans.items in
    let all = subst (λ u. IsKeptListed u i.frame.ends.items i.counted starts spans) c.self.view_is c.self.invariant.0 in
    let p = c.args.piece in
    let order = all.in_order c.if-self.true in
    let begin = ap (λ n. get_or starts n 0) c.number.ensures.value in
    let start = start_listed t i.frame.ends.items all.kept p c.requires.piece c.requires.inner starts spans all.as_many_starts order in
    let read : c.index.result.now ≡ get_or starts p 0
    = c.index.ensures ∙ (get_or_default starts c.number.result _ 0 (omega (arith, c.number.ensures.value, start)) ∙ begin) in
    let place = place_listed t i.frame.ends.items all.kept p c.requires.piece c.requires.inner starts spans all.as_many_starts order c.args.index c.requires.index in
    let seen = c.index-then-self.ensures ∙ (get_or_default spans (c.index.result.now + c.args.index) _ 0 (omega (arith, read, place, order.as_many)) ∙ ap (λ n. get_or spans (n + c.args.index) 0) read)
    ∙ listed_named t i.frame.ends.items all.kept p c.requires.piece c.requires.inner starts spans all.as_many_starts order c.args.index c.requires.index in
    λ d s ok told l e. seen ∙ segment_named t i.frame.ends.items all.kept p c.requires.piece c.requires.inner c.args.index d s told l e

pub span_of-requires-clause-few : goal.span_of-requires-clause-few
span_of-requires-clause-few c =
    let t = c.args.self.now in
    let i = c.self.inside in
    let all = subst (λ u. IsKeptListed u i.frame.ends.items i.counted i.listing.starts.items i.listing.spans.items) c.self.view_is c.self.invariant.0 in
    let p = c.args.piece in
    let names : c.deref.result.now ≡ t.names = c.deref.ensures.value ∙ ap (λ (u : Table). u.names) c.self.view_is in
    omega (arith, few_names t i.frame.ends.items all.kept, ap (λ (xs : List ℕ). length xs) names)

pub span_of-requires-clause-index : goal.span_of-requires-clause-index
span_of-requires-clause-index c =
    let t = c.args.self.now in
    let i = c.self.inside in
    let all = subst (λ u. IsKeptListed u i.frame.ends.items i.counted i.listing.starts.items i.listing.spans.items) c.self.view_is c.self.invariant.0 in
    let p = c.args.piece in
    let names : c.deref.result.now ≡ t.names = c.deref.ensures.value ∙ ap (λ (u : Table). u.names) c.self.view_is in
    let many = size_counted t i.frame.ends.items all.kept p c.requires.piece c.requires.inner in
    let named = ap₂ (λ (ns : List ℕ) (q : ℕ). size_so_far (λ s. get_or ns s 0) (length ns) q) names c.number-else-self.ensures.value in
    omega (arith, c.requires.index, many, named)

pub returns-else-self-clause-inside : goal.returns-else-self-clause-inside
returns-else-self-clause-inside c =
    let t = c.args.self.now in
    let i = c.self.inside in
    let all = subst (λ u. IsKeptListed u i.frame.ends.items i.counted i.listing.starts.items i.listing.spans.items) c.self.view_is c.self.invariant.0 in
    let p = c.args.piece in
    let names : c.deref.result.now ≡ t.names = c.deref.ensures.value ∙ ap (λ (u : Table). u.names) c.self.view_is in
    let seen = c.span_of.ensures ∙ ap₂ (λ (ns : List ℕ) (q : ℕ). get_or (filter (λ r. eqb (get_or ns r 0) q) (below (length ns))) c.args.index 0) names c.number-else-self.ensures.value in
    omega (arith, seen, named_inside t i.frame.ends.items all.kept p c.requires.piece c.requires.inner c.args.index c.requires.index)

pub returns-else-self-clause-value : goal.returns-else-self-clause-value
returns-else-self-clause-value c =
    let t = c.args.self.now in
    let i = c.self.inside in
    let all = subst (λ u. IsKeptListed u i.frame.ends.items i.counted i.listing.starts.items i.listing.spans.items) c.self.view_is c.self.invariant.0 in
    let p = c.args.piece in
    let names : c.deref.result.now ≡ t.names = c.deref.ensures.value ∙ ap (λ (u : Table). u.names) c.self.view_is in
    let seen = c.span_of.ensures ∙ ap₂ (λ (ns : List ℕ) (q : ℕ). get_or (filter (λ r. eqb (get_or ns r 0) q) (below (length ns))) c.args.index 0) names c.number-else-self.ensures.value in
    λ d s ok told l e. seen ∙ segment_named t i.frame.ends.items all.kept p c.requires.piece c.requires.inner c.args.index d s told l e
