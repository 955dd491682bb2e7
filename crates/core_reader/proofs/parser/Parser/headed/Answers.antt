use Rattle.std.proofs.Common.{◌≡◌, false}
use Rattle.core_reader.specs.Grammar.{at_most_200}
use Rattle.core_reader.specs.Tree.{NoTerms}
use Rattle.core_reader.specs.Machine.{InBind, Apply, front, starts_atom}
use Rattle.core_reader.proofs.Taking.{refuses, no_head_bind}
use Rattle.core_reader.proofs.parser.Parser.headed.Goals as goal

pub returns-then-not-starts_atom-clause-reads : goal.returns-then-not-starts_atom-clause-reads
returns-then-not-starts_atom-clause-reads c = λ k bs n p e.
    let ts = c.args.self.now.rest.now in
    let f : starts_atom (front ts).token ≡ false = cc in
    refuses at_most_200 (Apply (InBind k bs n p) NoTerms) ts c.refusal.result c.refusal.ensures
    (no_head_bind at_most_200 k bs n p (front ts).at (front ts).token f)
