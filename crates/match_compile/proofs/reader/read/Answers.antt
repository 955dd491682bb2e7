use Rattle.std.proofs.Common.{◌≡◌, ◌≤◌, [], length, map, sym, subst, ◌∙◌, Err, Ok, None, arith}
use Rattle.std.proofs.lemmas.Result.{err_from_is_err_and}
use Rattle.core_reader.specs.declared.dialect.Dialect.TheVariants.{Core}
use Rattle.core_reader.specs.Tree.{data_of}
use Rattle.core_reader.specs.Different.{AreDistinct}
use Rattle.core_reader.specs.LexedOf.{texts_of}
use Rattle.core_reader.proofs.Readability.{different_from}
use Rattle.core_reader.proofs.Answers.{too_long}
use Rattle.match_compile.specs.Source.{Source}
use Rattle.match_compile.specs.SourceOf.{equation_of}
use Rattle.match_compile.specs.Grammar.{IsSourceText}
use Rattle.match_compile.specs.Reading.{ReadsSource}
use Rattle.match_compile.specs.Refusal.{least_refusal}
use Rattle.match_compile.specs.Faults.{IsFirstReserved, reserved_faults}
use Rattle.match_compile.proofs.Sources.{source_from, found, refused, are_met}
use Rattle.match_compile.proofs.reader.read.Goals as goal

pub returns-then-text-clause-refused : goal.returns-then-text-clause-refused
returns-then-text-clause-refused c = too_long c.args.text.now (omega arith)

pub returns-in_err-parts-clause-refused : goal.returns-in_err-parts-clause-refused
returns-in_err-parts-clause-refused c =
    let q = err_from_is_err_and c.from_residual-in_err-parts.result
    c.from_residual-in_err-parts.ensures.1 in
    let short : length c.args.text.now ≤ 1048576 = omega arith in
    let e = c.in_err-parts.field-0.0 in
    let lexemes = c.in_ok-lexed.lexed.lexemes.items in
    let rest_is : c.new-parser.result.rest.now ≡ lexemes
    = c.new-parser.ensures.rest ∙ c.as_slice.ensures.value in
    let parsed : ReadsSource lexemes (Err e) = subst (λ w. ReadsSource w (Err e)) rest_is
    c.in_err-parts.ensures in
    rw (q.1, q.2)
    (refused c.args.text.now lexemes (texts_of c.in_ok-lexed.lexed.names.keys) short
    c.in_ok-lexed.ensures e parsed)

pub copied_names-requires : goal.copied_names-requires
copied_names-requires c =
    let l = c.in_ok-lexed.ensures in
    subst AreDistinct (sym l.named) (different_from Core [] l.pieces tt)

pub returns-clause-found : goal.returns-clause-found
returns-clause-found c =
    let short : length c.args.text.now ≤ 1048576 = omega arith in
    let lexemes = c.in_ok-lexed.lexed.lexemes.items in
    let names = texts_of c.in_ok-lexed.lexed.names.keys in
    let parts = c.in_ok-parts.parts in
    let rest_is : c.new-parser.result.rest.now ≡ lexemes
    = c.new-parser.ensures.rest ∙ c.as_slice.ensures.value in
    let parsed : ReadsSource lexemes (Ok parts) = subst (λ w. ReadsSource w (Ok parts)) rest_is
    c.in_ok-parts.ensures in
    let f = found c.args.text.now lexemes names short c.in_ok-lexed.ensures parts parsed in
    let p : Source = record {
      names = c.in_ok-copied_names.field-0;
      constructors
          = map data_of c.from_vec.result;
      equations = map equation_of c.from_vec-2.result;
    } in
    let same : source_from names parts ≡ p = λ i. record {
      names = sym c.in_ok-copied_names.ensures i;
      constructors
          = map data_of (sym c.from_vec.ensures i);
      equations
          = map equation_of (sym c.from_vec-2.ensures i);
    } in
    subst (IsSourceText c.args.text.now) same f.is_text

pub returns-clause-unbroken : goal.returns-clause-unbroken
returns-clause-unbroken c =
    let short : length c.args.text.now ≤ 1048576 = omega arith in
    let lexemes = c.in_ok-lexed.lexed.lexemes.items in
    let names = texts_of c.in_ok-lexed.lexed.names.keys in
    let parts = c.in_ok-parts.parts in
    let rest_is : c.new-parser.result.rest.now ≡ lexemes
    = c.new-parser.ensures.rest ∙ c.as_slice.ensures.value in
    let parsed : ReadsSource lexemes (Ok parts) = subst (λ w. ReadsSource w (Ok parts)) rest_is
    c.in_ok-parts.ensures in
    (found c.args.text.now lexemes names short c.in_ok-lexed.ensures parts parsed).unbroken

pub returns-clause-reserved : goal.returns-clause-reserved
returns-clause-reserved c =
    let lexemes = c.in_ok-lexed.lexed.lexemes.items in
    let names = texts_of c.in_ok-lexed.lexed.names.keys in
    let parts = c.in_ok-parts.parts in
    let rest_is : c.new-parser.result.rest.now ≡ lexemes
    = c.new-parser.ensures.rest ∙ c.as_slice.ensures.value in
    let parsed : ReadsSource lexemes (Ok parts) = subst (λ w. ReadsSource w (Ok parts)) rest_is
    c.in_ok-parts.ensures in
    let is : c.reserved-reserved.result ≡ least_refusal None (reserved_faults names lexemes)
    = c.reserved-reserved.ensures ∙
    (λ i. least_refusal None
    (reserved_faults (texts_of (c.as_slice-2.ensures.keys i)) (c.as_slice-3.ensures.value i)))
    in
    subst (IsFirstReserved c.args.text.now) (sym is)
    (are_met c.args.text.now lexemes names c.in_ok-lexed.ensures parsed.0 parsed.3)
