use Rattle.std.proofs.Common.{refl, ap, ◌∙◌}
use Rattle.core_reader.specs.Machine.{front}
use Rattle.core_reader.specs.declared.token.Token.TheVariants as word
use Rattle.core_link.specs.Heading.{ModuleName, NameEnd, binder}
use Rattle.core_link.proofs.Taken.{takes, refuses, no_name}
use Rattle.core_link.proofs.header.module_name.Goals as goal

pub returns-in-Con-clause-reads : goal.returns-in-Con-clause-reads
returns-in-Con-clause-reads c =
    takes ModuleName (NameEnd (binder c.in-Con.name c.peek-next.result.at))
    c.args.parser.now.rest.now c.peek-next.result (word.Con c.in-Con.name)
    c.advance.new.self.rest.now refl c.peek-next.ensures c.in-Con.is c.advance.ensures.rest refl

pub returns-in_default : goal.returns-in_default
returns-in_default c =
    let ts = c.args.parser.now.rest.now in
    record {
      reads = refuses ModuleName ts c.refusal.result refl c.refusal.ensures
          (no_name (front ts).token (front ts).at
          (λ n e. c.in_default.not-Con n (ap (λ y. y.token) c.peek-next.ensures ∙ e)));
      depth = refl;
    }
