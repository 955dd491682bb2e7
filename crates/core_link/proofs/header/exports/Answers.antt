use Rattle.std.proofs.Common.{rules, ◌≡◌, ◌∙◌, [], refl}
use Rattle.std.proofs.lemmas.Result.{err_from_is_err_and}
use Rattle.core_reader.specs.declared.token.Token.TheVariants as word
use Rattle.core_reader.specs.declared.token.Further.TheVariants as further
use Rattle.core_link.specs.Heading.{Exports, ExportWords, head}
use Rattle.core_link.proofs.Taken.{takes, fails_from, export_words}
use Rattle.core_link.proofs.header.exports.Goals as goal

pub loop-exports-preserved : goal.loop-exports-preserved
loop-exports-preserved c =
    let t : c.peek-next.result.token ≡ word.Further further.Export = search rules in
    record {
      reads = λ name.
          let h = head name c.loop-exports.exports.items [] in
          c.loop-exports.invariant.reads name
          ∙ takes (Exports h) (ExportWords h) c.loop-exports.parser.rest.now c.peek-next.result
          (word.Further further.Export) c.advance.new.self.rest.now refl c.peek-next.ensures t
          c.advance.ensures.rest refl
          ∙ c.in_ok-words.ensures.reads (λ bs. ExportWords (head name bs []))
          (λ bs. Exports (head name bs [])) (export_words name);
      depth = c.words.ensures.depth ∙ c.advance.ensures.depth ∙ c.loop-exports.invariant.depth;
    }

pub returns-in_err-words-clause-reads : goal.returns-in_err-words-clause-reads
returns-in_err-words-clause-reads c = λ name.
    let q = err_from_is_err_and c.from_residual.result c.from_residual.ensures.1 in
    let t : c.peek-next.result.token ≡ word.Further further.Export = search rules in
    let h = head name c.loop-exports.exports.items [] in
    let begun = c.loop-exports.invariant.reads name
    ∙ takes (Exports h) (ExportWords h) c.loop-exports.parser.rest.now c.peek-next.result
    (word.Further further.Export) c.advance.new.self.rest.now refl c.peek-next.ensures t
    c.advance.ensures.rest refl in
    rw (q.1, q.2)
    (fails_from c.in_err-words.field-0.0 _ _ begun
    (c.in_err-words.ensures.reads (λ bs. ExportWords (head name bs []))
    (λ bs. Exports (head name bs [])) (export_words name)))
