use Rattle.std.proofs.Common.{◌≡◌, ◌≤◌, [], length, map, sym, subst, ◌∙◌, Err, Ok, arith}
use Rattle.std.proofs.lemmas.Result.{err_from_is_err_and}
use Rattle.core_reader.specs.declared.dialect.Dialect.TheVariants.{Lambdas}
use Rattle.core_reader.specs.Tree.{data_of}
use Rattle.core_reader.specs.Different.{AreDistinct}
use Rattle.core_reader.specs.LexedOf.{texts_of}
use Rattle.core_reader.proofs.Readability.{different_from}
use Rattle.core_reader.proofs.Answers.{too_long}
use Rattle.lambda_reader.specs.Tree.{Program}
use Rattle.lambda_reader.specs.Code.{function}
use Rattle.lambda_reader.specs.Programs.{IsSourceText}
use Rattle.lambda_reader.specs.Readable.{IsReadable}
use Rattle.lambda_reader.specs.Reserved.{IsFirstReserved}
use Rattle.lambda_reader.specs.Reserving.{first_reserved}
use Rattle.lambda_reader.specs.Declaring.{ReadsProgram}
use Rattle.lambda_reader.proofs.Texts.{program_of, reserved, is_found, is_readable, is_refused}
use Rattle.lambda_reader.proofs.reader.read_lambdas.Goals as goal

pub returns-then-text-clause-refused : goal.returns-then-text-clause-refused
returns-then-text-clause-refused c = too_long c.args.text.now (omega arith)

pub returns-in_err-parts-clause-refused : goal.returns-in_err-parts-clause-refused
returns-in_err-parts-clause-refused c =
    let q = err_from_is_err_and c.from_residual-in_err-parts.result
    c.from_residual-in_err-parts.ensures.1 in
    let short : length c.args.text.now ≤ 1048576 = omega arith in
    let e = c.in_err-parts.field-0.0 in
    let lexemes = c.in_ok-lexed.lexed.lexemes.items in
    let rest_is : c.new-parser.result.rest.now ≡ lexemes
    = c.new-parser.ensures.rest ∙ c.as_slice.ensures.value in
    let parsed : ReadsProgram lexemes (Err e) = subst (λ w. ReadsProgram w (Err e)) rest_is
    c.in_err-parts.ensures in
    rw (q.1, q.2)
    (is_refused c.args.text.now lexemes (texts_of c.in_ok-lexed.lexed.names.keys)
    c.in_ok-lexed.ensures short e parsed)

pub copied_names-requires : goal.copied_names-requires
copied_names-requires c =
    let l = c.in_ok-lexed.ensures in
    subst AreDistinct (sym l.named) (different_from Lambdas [] l.pieces tt)

pub returns-clause-found : goal.returns-clause-found
returns-clause-found c =
    let short : length c.args.text.now ≤ 1048576 = omega arith in
    let lexemes = c.in_ok-lexed.lexed.lexemes.items in
    let names = texts_of c.in_ok-lexed.lexed.names.keys in
    let parts = c.in_ok-parts.parts in
    let rest_is : c.new-parser.result.rest.now ≡ lexemes
    = c.new-parser.ensures.rest ∙ c.as_slice.ensures.value in
    let parsed : ReadsProgram lexemes (Ok parts) = subst (λ w. ReadsProgram w (Ok parts)) rest_is
    c.in_ok-parts.ensures in
    let p : Program = record {
      names = c.in_ok-copied_names.field-0;
      constructors
          = map data_of c.from_vec.result;
      functions = map function c.from_vec-2.result;
    } in
    let same : program_of names parts ≡ p = λ i. record {
      names = sym c.in_ok-copied_names.ensures i;
      constructors
          = map data_of (sym c.from_vec.ensures i);
      functions
          = map function (sym c.from_vec-2.ensures i);
    } in
    subst (IsSourceText c.args.text.now) same
    (is_found c.args.text.now lexemes names c.in_ok-lexed.ensures short parts parsed).is_text

pub returns-clause-readable : goal.returns-clause-readable
returns-clause-readable c =
    let short : length c.args.text.now ≤ 1048576 = omega arith in
    let lexemes = c.in_ok-lexed.lexed.lexemes.items in
    let names = texts_of c.in_ok-lexed.lexed.names.keys in
    let parts = c.in_ok-parts.parts in
    let rest_is : c.new-parser.result.rest.now ≡ lexemes
    = c.new-parser.ensures.rest ∙ c.as_slice.ensures.value in
    let parsed : ReadsProgram lexemes (Ok parts) = subst (λ w. ReadsProgram w (Ok parts)) rest_is
    c.in_ok-parts.ensures in
    let p : Program = record {
      names = c.in_ok-copied_names.field-0;
      constructors
          = map data_of c.from_vec.result;
      functions = map function c.from_vec-2.result;
    } in
    let same : program_of names parts ≡ p = λ i. record {
      names = sym c.in_ok-copied_names.ensures i;
      constructors
          = map data_of (sym c.from_vec.ensures i);
      functions
          = map function (sym c.from_vec-2.ensures i);
    } in
    subst IsReadable same
    (is_readable c.args.text.now lexemes names c.in_ok-lexed.ensures short parts parsed)

pub returns-clause-unbroken : goal.returns-clause-unbroken
returns-clause-unbroken c =
    let short : length c.args.text.now ≤ 1048576 = omega arith in
    let lexemes = c.in_ok-lexed.lexed.lexemes.items in
    let names = texts_of c.in_ok-lexed.lexed.names.keys in
    let parts = c.in_ok-parts.parts in
    let rest_is : c.new-parser.result.rest.now ≡ lexemes
    = c.new-parser.ensures.rest ∙ c.as_slice.ensures.value in
    let parsed : ReadsProgram lexemes (Ok parts) = subst (λ w. ReadsProgram w (Ok parts)) rest_is
    c.in_ok-parts.ensures in
    (is_found c.args.text.now lexemes names c.in_ok-lexed.ensures short parts parsed).unbroken

pub returns-clause-reserved : goal.returns-clause-reserved
returns-clause-reserved c =
    let lexemes = c.in_ok-lexed.lexed.lexemes.items in
    let names = texts_of c.in_ok-lexed.lexed.names.keys in
    let parts = c.in_ok-parts.parts in
    let rest_is : c.new-parser.result.rest.now ≡ lexemes
    = c.new-parser.ensures.rest ∙ c.as_slice.ensures.value in
    let parsed : ReadsProgram lexemes (Ok parts) = subst (λ w. ReadsProgram w (Ok parts)) rest_is
    c.in_ok-parts.ensures in
    let is : c.first_reserved-reserved.result ≡ first_reserved names lexemes
    = c.first_reserved-reserved.ensures ∙
    (λ i. first_reserved (texts_of (c.as_slice-2.ensures.keys i))
    (c.as_slice-3.ensures.value i)) in
    subst (IsFirstReserved c.args.text.now) (sym is)
    (reserved c.args.text.now lexemes names c.in_ok-lexed.ensures parts parsed)
