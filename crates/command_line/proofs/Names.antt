-- Names that are no command's.
use Rattle.std.proofs.Common.{◌≡◌, ◌≢◌, ℕ, Bool, true, false, List, codes, Option, None, refl}
use Rattle.std.specs.Str.{bytes_eq}
use Rattle.std.proofs.lemmas.Slice.Eq.{bytes_eq-Decides}
use Rattle.command_line.specs.Commands.{CommandLine, Form, by_name}

differs : (name word : List ℕ) → name ≢ word → bytes_eq name word ≡ false
differs name word other = go (bytes_eq name word) refl where
  go : (same : Bool) → bytes_eq name word ≡ same → same ≡ false
  go true is = absurd (other ((bytes_eq-Decides name word).0 is))
  go false is = refl

-- a name that none of the forms has
pub other_name : (ask : Form → Option CommandLine) (name : List ℕ) → name ≢ codes "run"
    → name ≢ codes "check" → name ≢ codes "list"
    → name ≢ codes "build" → name ≢ codes "costs" → name ≢ codes "trace"
    → name ≢ codes "profile"
    → name ≢ codes "exec" → name ≢ codes "gen"
    → name ≢ codes "lift"
    → name ≢ codes "match" → name ≢ codes "types" → name ≢ codes "sides" → name ≢ codes "points"
    → None ≡ by_name ask name
other_name ask name run check list build costs trace profile exec gen lift equations types sides
    points =
    rw (
      differs name (codes "run") run,
      differs name (codes "check") check,
      differs name (codes "list") list,
      differs name (codes "build") build,
      differs name (codes "costs") costs,
      differs name (codes "trace") trace,
      differs name (codes "profile") profile,
      differs name (codes "exec") exec,
      differs name (codes "gen") gen,
      differs name (codes "lift") lift,
      differs name (codes "match") equations,
      differs name (codes "types") types,
      differs name (codes "sides") sides,
      differs name (codes "points") points,
    ) refl
