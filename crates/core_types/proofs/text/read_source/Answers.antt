use Rattle.std.proofs.Common.{◌≡◌, ◌≤◌, [], length, map, sym, subst, ◌∙◌, Err, Ok, arith}
use Rattle.std.proofs.lemmas.Result.{err_from_is_err_and}
use Rattle.core_reader.specs.declared.dialect.Dialect.TheVariants.{Types}
use Rattle.core_reader.specs.Tree.{function}
use Rattle.core_reader.specs.Different.{AreDistinct}
use Rattle.core_reader.specs.LexedOf.{texts_of}
use Rattle.core_reader.specs.Readable.{IsReadable}
use Rattle.core_reader.proofs.Readability.{different_from}
use Rattle.core_reader.proofs.Answers.{too_long}
use Rattle.core_types.specs.Source.{Source, erased}
use Rattle.core_types.specs.SourceOf.{type_of, signature_of}
use Rattle.core_types.specs.Text.{IsSourceText}
use Rattle.core_types.specs.Reading.{ReadsSource}
use Rattle.core_types.proofs.Texts.{source_from, found, found_readable, refused}
use Rattle.core_types.proofs.text.read_source.Goals as goal

pub returns-then-text-clause-refused : goal.returns-then-text-clause-refused
returns-then-text-clause-refused c = too_long c.args.text.now (omega arith)

pub returns-in_err-found-clause-refused : goal.returns-in_err-found-clause-refused
returns-in_err-found-clause-refused c =
    let q = err_from_is_err_and c.from_residual-in_err-found.result
    c.from_residual-in_err-found.ensures.1 in
    let short : length c.args.text.now ≤ 1048576 = omega arith in
    let e = c.in_err-found.field-0.0 in
    let lexemes = c.in_ok-lexed.lexed.lexemes.items in
    let rest_is : c.new-parser.result.rest.now ≡ lexemes
    = c.new-parser.ensures.rest ∙ c.as_slice.ensures.value in
    let parsed : ReadsSource lexemes (Err e) = subst (λ w. ReadsSource w (Err e)) rest_is
    c.in_err-found.ensures in
    rw (q.1, q.2)
    (refused c.args.text.now lexemes (texts_of c.in_ok-lexed.lexed.names.keys) e short
    c.in_ok-lexed.ensures parsed)

pub copied_names-requires : goal.copied_names-requires
copied_names-requires c =
    let l = c.in_ok-lexed.ensures in
    subst AreDistinct (sym l.named) (different_from Types [] l.pieces tt)

pub returns-clause-found : goal.returns-clause-found
returns-clause-found c =
    let short : length c.args.text.now ≤ 1048576 = omega arith in
    let lexemes = c.in_ok-lexed.lexed.lexemes.items in
    let names = texts_of c.in_ok-lexed.lexed.names.keys in
    let decls = c.in_ok-found.found in
    let rest_is : c.new-parser.result.rest.now ≡ lexemes
    = c.new-parser.ensures.rest ∙ c.as_slice.ensures.value in
    let parsed : ReadsSource lexemes (Ok decls) = subst (λ w. ReadsSource w (Ok decls)) rest_is
    c.in_ok-found.ensures in
    let s : Source = record {
      names = c.in_ok-copied_names.field-0;
      types = map type_of c.from_vec.result;
      signatures
          = map signature_of c.from_vec-2.result;
      functions = map function c.from_vec-3.result;
    } in
    let same : source_from names decls ≡ s = λ i. record {
      names = sym c.in_ok-copied_names.ensures i;
      types
          = map type_of (sym c.from_vec.ensures i);
      signatures
          = map signature_of (sym c.from_vec-2.ensures i);
      functions
          = map function (sym c.from_vec-3.ensures i);
    } in
    subst (IsSourceText c.args.text.now) same
    (found c.args.text.now lexemes names decls short c.in_ok-lexed.ensures parsed).is_text

pub returns-clause-unbroken : goal.returns-clause-unbroken
returns-clause-unbroken c =
    let short : length c.args.text.now ≤ 1048576 = omega arith in
    let lexemes = c.in_ok-lexed.lexed.lexemes.items in
    let names = texts_of c.in_ok-lexed.lexed.names.keys in
    let decls = c.in_ok-found.found in
    let rest_is : c.new-parser.result.rest.now ≡ lexemes
    = c.new-parser.ensures.rest ∙ c.as_slice.ensures.value in
    let parsed : ReadsSource lexemes (Ok decls) = subst (λ w. ReadsSource w (Ok decls)) rest_is
    c.in_ok-found.ensures in
    (found c.args.text.now lexemes names decls short c.in_ok-lexed.ensures parsed).unbroken

pub returns-clause-readable : goal.returns-clause-readable
returns-clause-readable c =
    let short : length c.args.text.now ≤ 1048576 = omega arith in
    let lexemes = c.in_ok-lexed.lexed.lexemes.items in
    let names = texts_of c.in_ok-lexed.lexed.names.keys in
    let decls = c.in_ok-found.found in
    let rest_is : c.new-parser.result.rest.now ≡ lexemes
    = c.new-parser.ensures.rest ∙ c.as_slice.ensures.value in
    let parsed : ReadsSource lexemes (Ok decls) = subst (λ w. ReadsSource w (Ok decls)) rest_is
    c.in_ok-found.ensures in
    let s : Source = record {
      names = c.in_ok-copied_names.field-0;
      types = map type_of c.from_vec.result;
      signatures
          = map signature_of c.from_vec-2.result;
      functions = map function c.from_vec-3.result;
    } in
    let same : source_from names decls ≡ s = λ i. record {
      names = sym c.in_ok-copied_names.ensures i;
      types
          = map type_of (sym c.from_vec.ensures i);
      signatures
          = map signature_of (sym c.from_vec-2.ensures i);
      functions
          = map function (sym c.from_vec-3.ensures i);
    } in
    subst (λ (w : Source). IsReadable (erased w)) same
    (found_readable c.args.text.now lexemes names decls short c.in_ok-lexed.ensures parsed)
