use Rattle.std.proofs.Common.{◌≡◌, ℕ, Global, List, Vec, map}
use Rattle.obd_base.specs.declared.points.Exit.{Exit}
use Rattle.monodromy.proofs.DirectWords.{exits_few, exits_on}
use Rattle.monodromy.proofs.direct.drawn_directly.Goals as goal

-- the letters of exits, strand by strand
letters_are : (vs us : List (Vec Exit Global)) (ws : List (List ℕ)) → vs ≡ us → map (map (λ (e : Exit). e.side)) (map (λ (v : Vec Exit Global). v.items) us) ≡ ws
    → map (map (λ (e : Exit). e.side)) (map (λ (v : Vec Exit Global). v.items) vs) ≡ ws
letters_are vs us ws same are = rw (same) are

pub read-requires-clause-on_sides : goal.read-requires-clause-on_sides
read-requires-clause-on_sides c =
    exits_on c.args.polygon.now c.args.words.now c.requires (map (λ (v : Vec Exit Global). v.items) c.deref.result.now) (letters_are _ _ _ c.deref.ensures.value c.in_ok-strands.ensures)

pub read-requires-clause-few : goal.read-requires-clause-few
read-requires-clause-few c =
    exits_few c.args.polygon.now c.args.words.now c.requires (map (λ (v : Vec Exit Global). v.items) c.deref.result.now) (letters_are _ _ _ c.deref.ensures.value c.in_ok-strands.ensures)
