use Rattle.std.proofs.Common.{ap, ◌∙◌, [], refl, sym}
use Rattle.std.proofs.lemmas.Result.{err_from_is_err_and}
use Rattle.core_reader.specs.Machine.{front}
use Rattle.core_reader.specs.declared.token.Token.TheVariants as word
use Rattle.core_link.specs.Heading.{ImportName, ImportWords, Imports, binder, run, importing, import_from}
use Rattle.core_link.proofs.Taken.{takes, refuses, fails_from, no_source, import_words}
use Rattle.core_link.proofs.header.import.Goals as goal

pub returns-in_err-words-in-Con-clause-reads : goal.returns-in_err-words-in-Con-clause-reads
returns-in_err-words-in-Con-clause-reads c = λ h.
    let q = err_from_is_err_and c.from_residual.result c.from_residual.ensures.1 in
    let b = binder c.in-Con.name c.peek-next.result.at in
    let from = takes (ImportName h) (ImportWords h b []) c.args.parser.now.rest.now
    c.peek-next.result (word.Con c.in-Con.name) c.advance.new.self.rest.now refl
    c.peek-next.ensures c.in-Con.is c.advance.ensures.rest refl in
    let begun = ap (λ w. run (ImportWords h b w) c.advance.new.self.rest.now)
    (sym c.new-names.ensures.items) in
    rw (q.1, q.2)
    (fails_from c.in_err-words-in-Con.field-0.0 _ _ (from ∙ begun)
    (c.in_err-words-in-Con.ensures.reads (ImportWords h b)
    (λ bs. Imports (importing h (import_from b bs))) (import_words h b)))

pub returns-in_ok-words-in-Con-clause-reads : goal.returns-in_ok-words-in-Con-clause-reads
returns-in_ok-words-in-Con-clause-reads c = λ h.
    let b = binder c.in-Con.name c.peek-next.result.at in
    takes (ImportName h) (ImportWords h b []) c.args.parser.now.rest.now c.peek-next.result
    (word.Con c.in-Con.name) c.advance.new.self.rest.now refl c.peek-next.ensures c.in-Con.is
    c.advance.ensures.rest refl
    ∙ ap (λ w. run (ImportWords h b w) c.advance.new.self.rest.now) (sym c.new-names.ensures.items)
    ∙ c.in_ok-words-in-Con.ensures.reads (ImportWords h b)
    (λ bs. Imports (importing h (import_from b bs))) (import_words h b)
    ∙ ap (λ w. run (Imports (importing h (import_from b w))) c.words.new.parser.rest.now)
    (sym c.from_vec.ensures)

pub returns-in_default : goal.returns-in_default
returns-in_default c =
    let ts = c.args.parser.now.rest.now in
    record {
      reads = λ h. refuses (ImportName h) ts c.refusal.result refl c.refusal.ensures
          (no_source h (front ts).token (front ts).at
          (λ n e. c.in_default.not-Con n (ap (λ y. y.token) c.peek-next.ensures ∙ e)));
      depth = refl;
      shorter = tt;
    }
