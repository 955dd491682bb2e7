use Rattle.std.proofs.Common.{◌≡◌, ◌≤◌, [], length, map, sym, subst, Err, Ok, arith}
use Rattle.std.proofs.lemmas.Result.{err_from_is_err_and}
use Rattle.core_reader.specs.declared.dialect.Dialect.TheVariants.{Core}
use Rattle.core_reader.specs.Tree.{Program, data_of, function}
use Rattle.core_reader.specs.Programs.{IsText}
use Rattle.core_reader.specs.Different.{AreDistinct}
use Rattle.core_reader.specs.Readable.{IsReadable}
use Rattle.core_reader.specs.Lexed.{texts_of}
use Rattle.core_reader.specs.Parsed.{ReadsProgram}
use Rattle.core_reader.proofs.Readability.{different_from}
use Rattle.core_reader.proofs.Answers.{found, found_readable, refused, too_long, program_of}
use Rattle.core_reader.proofs.reader.read.Goals as goal

pub returns-then-text-clause-refused : goal.returns-then-text-clause-refused
returns-then-text-clause-refused c = too_long c.args.text.now (omega arith)

pub returns-in_err-declarations-clause-refused : goal.returns-in_err-declarations-clause-refused
returns-in_err-declarations-clause-refused c =
    let q = err_from_is_err_and c.from_residual-in_err-declarations.result
    c.from_residual-in_err-declarations.ensures.1 in
    let short : length c.args.text.now ≤ 1048576 = omega arith in
    let e = c.in_err-declarations.field-0.0 in
    let lexemes = c.in_ok-lexed.lexed.lexemes.items in
    let parsed : ReadsProgram lexemes (Err e) = subst (λ w. ReadsProgram w (Err e))
    c.as_slice.ensures.value c.in_err-declarations.ensures in
    rw (q.1, q.2)
    (refused c.args.text.now lexemes (texts_of c.in_ok-lexed.lexed.names.keys) e short
    c.in_ok-lexed.ensures parsed)

pub copied_names-requires : goal.copied_names-requires
copied_names-requires c =
    let l = c.in_ok-lexed.ensures in
    subst AreDistinct (sym l.named) (different_from Core [] l.pieces tt)

pub returns-clause-found : goal.returns-clause-found
returns-clause-found c =
    let short : length c.args.text.now ≤ 1048576 = omega arith in
    let lexemes = c.in_ok-lexed.lexed.lexemes.items in
    let names = texts_of c.in_ok-lexed.lexed.names.keys in
    let decls = c.in_ok-declarations.declarations in
    let parsed : ReadsProgram lexemes (Ok decls) = subst (λ w. ReadsProgram w (Ok decls))
    c.as_slice.ensures.value c.in_ok-declarations.ensures in
    let f = found c.args.text.now lexemes names decls short c.in_ok-lexed.ensures parsed in
    let p : Program = record {
      names = c.in_ok-copied_names.field-0;
      constructors
          = map data_of c.from_vec.result;
      functions = map function c.from_vec-2.result;
    } in
    let same : program_of names decls ≡ p = λ i. record {
      names = sym c.in_ok-copied_names.ensures i;
      constructors
          = map data_of (sym c.from_vec.ensures i);
      functions
          = map function (sym c.from_vec-2.ensures i);
    } in
    subst (IsText c.args.text.now) same f.is_text

pub returns-clause-unbroken : goal.returns-clause-unbroken
returns-clause-unbroken c =
    let short : length c.args.text.now ≤ 1048576 = omega arith in
    let lexemes = c.in_ok-lexed.lexed.lexemes.items in
    let names = texts_of c.in_ok-lexed.lexed.names.keys in
    let decls = c.in_ok-declarations.declarations in
    let parsed : ReadsProgram lexemes (Ok decls) = subst (λ w. ReadsProgram w (Ok decls))
    c.as_slice.ensures.value c.in_ok-declarations.ensures in
    (found c.args.text.now lexemes names decls short c.in_ok-lexed.ensures parsed).unbroken

pub returns-clause-readable : goal.returns-clause-readable
returns-clause-readable c =
    let short : length c.args.text.now ≤ 1048576 = omega arith in
    let lexemes = c.in_ok-lexed.lexed.lexemes.items in
    let names = texts_of c.in_ok-lexed.lexed.names.keys in
    let decls = c.in_ok-declarations.declarations in
    let parsed : ReadsProgram lexemes (Ok decls) = subst (λ w. ReadsProgram w (Ok decls))
    c.as_slice.ensures.value c.in_ok-declarations.ensures in
    let p : Program = record {
      names = c.in_ok-copied_names.field-0;
      constructors
          = map data_of c.from_vec.result;
      functions = map function c.from_vec-2.result;
    } in
    let same : program_of names decls ≡ p = λ i. record {
      names = sym c.in_ok-copied_names.ensures i;
      constructors
          = map data_of (sym c.from_vec.ensures i);
      functions
          = map function (sym c.from_vec-2.ensures i);
    } in
    subst IsReadable same
    (found_readable c.args.text.now lexemes names decls short c.in_ok-lexed.ensures parsed)
