use Rattle.std.proofs.Common.{◌≡◌, ◌<◌, Option, length, subst}
use Rattle.std.specs.Prelude.{MatchOption}
use Rattle.std.specs.Global.{Vec}
use Rattle.unification.specs.declared.pieces.Piece.{Piece}
use Rattle.unification.specs.Pieces.{pieces}
use Rattle.unification.specs.Shown.{class_of}
use Rattle.core_types.proofs.TypeTrees.{shown_is_type}
use Rattle.core_types.proofs.sides.side.Goals as goal

pub read_row-requires : goal.read_row-requires
read_row-requires c =
    let at = c.args.at in
    let shown = c.requires.shows.0 at in (
      shown,
      subst (λ (o : Option (Vec Piece)). MatchOption o (1000000 < length (pieces shown))
          (λ row. row.items ≡ pieces shown)) c.in-Some.is
          (c.in_ok-row.ensures c.requires.shows.0 c.requires.shows.1),
      shown_is_type c.args.terms.now c.args.classes.now c.requires.formed
          (class_of c.args.classes.now at) shown (c.requires.shows.1 at c.requires.within),
    )
