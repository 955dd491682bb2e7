use Rattle.std.proofs.Common.{length, ◌∙◌, ap}
use Rattle.core_reader.specs.Machine.{front}
use Rattle.core_reader.specs.declared.token.Token.TheVariants as word
use Rattle.core_link.specs.Heading.{binder}
use Rattle.core_link.proofs.Taken.{takes, refuses, fails_from, no_word, keeps_bad, one_word, shorter_then, behind_shorter}
use Rattle.core_link.proofs.header.words.Goals as goal

pub loop-name-preserved-in-Continue-1 : goal.loop-name-preserved-in-Continue-1
loop-name-preserved-in-Continue-1 c = record {
  reads = λ state next keeps.
      c.loop-name.invariant.reads state next keeps
      ∙ one_word state next keeps c.loop-name.words.items c.push.new.self.items
      (binder c.in-Name.name c.peek-next.result.at) c.loop-name.parser.rest.now
      c.advance.new.self.rest.now c.peek-next.result (word.Name c.in-Name.name)
      c.peek-next.ensures c.in-Name.is c.advance.ensures.rest
      (keeps.name c.loop-name.words.items c.in-Name.name c.peek-next.result.at)
      (c.in_ok-push-in-Name.ensures).items;
  shorter = shorter_then _ _ _ _ (ap length c.advance.ensures.rest)
      (behind_shorter c.loop-name.parser.rest.now) c.loop-name.invariant.shorter;
  depth = c.advance.ensures.depth ∙ c.loop-name.invariant.depth;
}

pub loop-name-preserved : goal.loop-name-preserved
loop-name-preserved c = record {
  reads = λ state next keeps.
      c.loop-name.invariant.reads state next keeps
      ∙ one_word state next keeps c.loop-name.words.items c.push-in-Con.new.self.items
      (binder c.in-Con.name c.peek-next.result.at) c.loop-name.parser.rest.now
      c.advance-in-Con.new.self.rest.now c.peek-next.result (word.Con c.in-Con.name)
      c.peek-next.ensures c.in-Con.is c.advance-in-Con.ensures.rest
      (keeps.con c.loop-name.words.items c.in-Con.name c.peek-next.result.at)
      (c.in_ok-push-in-Con.ensures).items;
  shorter = shorter_then _ _ _ _ (ap length c.advance-in-Con.ensures.rest)
      (behind_shorter c.loop-name.parser.rest.now) c.loop-name.invariant.shorter;
  depth = c.advance-in-Con.ensures.depth ∙ c.loop-name.invariant.depth;
}

pub returns-in-Semicolon-clause-reads : goal.returns-in-Semicolon-clause-reads
returns-in-Semicolon-clause-reads c = λ state next keeps.
    let bs = c.loop-name.words.items in
    c.loop-name.invariant.reads state next keeps
    ∙ takes (state bs) (next bs) c.loop-name.parser.rest.now c.peek-next.result word.Semicolon
    c.advance-in-Semicolon.new.self.rest.now (keeps_bad state next keeps bs) c.peek-next.ensures
    c.in-Semicolon.is c.advance-in-Semicolon.ensures.rest
    (keeps.end bs c.peek-next.result.at)

pub returns-in_default : goal.returns-in_default
returns-in_default c =
    let ts = c.loop-name.parser.rest.now in
    let bs = c.loop-name.words.items in
    record {
      reads = λ state next keeps.
          fails_from c.refusal.result _ _ (c.loop-name.invariant.reads state next keeps)
          (refuses (state bs) ts c.refusal.result (keeps_bad state next keeps bs) c.refusal.ensures
          (keeps.other bs (front ts).at (front ts).token
          (no_word (front ts).token
          (λ n e. c.in_default.not-Name n (ap (λ y. y.token) c.peek-next.ensures ∙ e))
          (λ n e. c.in_default.not-Con n (ap (λ y. y.token) c.peek-next.ensures ∙ e))
          (λ e. c.in_default.not-Semicolon (ap (λ y. y.token) c.peek-next.ensures ∙ e)))));
      depth = c.loop-name.invariant.depth;
      shorter = tt;
    }
