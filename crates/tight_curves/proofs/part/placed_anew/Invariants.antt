use Rattle.std.proofs.Common.{◌≡◌, map, take}
use Rattle.page_surface.specs.Drawing.{exit}
use Rattle.tight_curves.specs.Parts.{place_among}
use Rattle.tight_curves.proofs.part.placed_anew.Given as goal

-- the exits so far have their places
abbrev pub invariant-loop-exit : goal.invariant-loop-exit
invariant-loop-exit l = l.placed.items ≡ map (λ e. exit e.side (place_among l.polygon l.exits l.part e.side e.place)) (take l.exit-index l.part)
