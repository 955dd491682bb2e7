use Rattle.std.proofs.Common.{refl, ap, ◌∙◌}
use Rattle.std.specs.Prelude.{slice_get}
use Rattle.core_reader.specs.LexedOf.{texts_of}
use Rattle.core_link.proofs.Interned.{grows_one, stands_at}
use Rattle.core_link.proofs.naming.number.Goals as goal

pub returns-clause-grows : goal.returns-clause-grows
returns-clause-grows c = grows_one _ (λ a b. refl) c.args.text c.args.known.now.keys
    c.insert_full.new.self.keys c.in_ok-index.ensures.keys

pub returns-clause-number : goal.returns-clause-number
returns-clause-number c =
    let at = c.in_ok-index.ensures.stored in
    ap (slice_get (texts_of c.insert_full.new.self.keys)) c.in-Ok.ensures.1
    ∙ stands_at _ (λ a b. refl) c.args.text at.0 c.insert_full.new.self.keys c.in_ok-index.index
    at.1 at.2
