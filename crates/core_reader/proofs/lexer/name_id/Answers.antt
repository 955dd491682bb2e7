use Rattle.std.proofs.Common.{refl}
use Rattle.core_reader.proofs.Lexing.{numbered}
use Rattle.core_reader.proofs.lexer.name_id.Goals as goal

pub returns : goal.returns
returns c = numbered _ (λ a b. refl) c.args.word c.args.names.now.keys c.insert_full.new.self.keys
    c.in_ok-index.index c.in_ok-index.ensures.keys c.in_ok-index.ensures.index
