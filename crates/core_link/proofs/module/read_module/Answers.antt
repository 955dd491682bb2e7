use Rattle.std.proofs.Common.{◌≡◌, ◌≤◌, [], length, map, sym, ap, subst, ◌∙◌, Some, None, arith}
use Rattle.std.proofs.lemmas.Result.{err_from_is_err_and}
use Rattle.core_reader.specs.declared.dialect.Dialect.TheVariants.{Modules}
use Rattle.core_reader.specs.Tree.{data_of, function}
use Rattle.core_reader.specs.Readable.{IsReadable}
use Rattle.core_reader.specs.Different.{AreDistinct}
use Rattle.core_reader.specs.LexedOf.{texts_of}
use Rattle.core_reader.specs.Machine.{Fails}
use Rattle.core_reader.specs.Declaring as core
use Rattle.core_reader.proofs.Answers.{too_long}
use Rattle.core_link.specs.Module.{Module, IsModuleText, body}
use Rattle.core_link.specs.ModuleOf.{import_of}
use Rattle.core_link.specs.Heading.{Start, Declares, run, misnamed, parts_of}
use Rattle.core_reader.proofs.Readability.{different_from}
use Rattle.core_link.proofs.Modules.{misnamed_refused, refused, declarations_refused, found, module_from}
use Rattle.core_link.proofs.module.read_module.Goals as goal

pub returns-then-text-clause-refused : goal.returns-then-text-clause-refused
returns-then-text-clause-refused c = too_long c.args.text.now (omega arith)

pub returns-in-Some-clause-refused : goal.returns-in-Some-clause-refused
returns-in-Some-clause-refused c =
    let short : length c.args.text.now ≤ 1048576 = omega arith in
    let lexemes = c.in_ok-lexed.lexed.lexemes.items in
    let names = texts_of c.in_ok-lexed.lexed.names.keys in
    let m : misnamed names lexemes ≡ Some c.in-Some.at
    = sym (ap (λ v. misnamed (texts_of v) lexemes) c.as_slice.ensures.keys) ∙ ap
    (misnamed (texts_of c.as_slice.result.now)) (sym c.as_slice-2.ensures.value) ∙ sym
    c.misnamed.ensures ∙ c.in-Some.is in
    misnamed_refused c.args.text.now lexemes names c.in-Some.at short c.in_ok-lexed.ensures m

pub returns-in_err-header-clause-refused : goal.returns-in_err-header-clause-refused
returns-in_err-header-clause-refused c =
    let q = err_from_is_err_and c.from_residual-in_err-header.result
    c.from_residual-in_err-header.ensures.1 in
    let short : length c.args.text.now ≤ 1048576 = omega arith in
    let lexemes = c.in_ok-lexed.lexed.lexemes.items in
    let names = texts_of c.in_ok-lexed.lexed.names.keys in
    let e = c.in_err-header.field-0.0 in
    let m : misnamed names lexemes ≡ None = sym
    (ap (λ v. misnamed (texts_of v) lexemes) c.as_slice.ensures.keys) ∙ ap
    (misnamed (texts_of c.as_slice.result.now)) (sym c.as_slice-2.ensures.value) ∙ sym
    c.misnamed.ensures ∙ c.in_default.is in
    let rest_is : c.new-parser.result.rest.now ≡ lexemes
    = c.new-parser.ensures.rest ∙ c.as_slice-3.ensures.value in
    let fails : Fails e (run Start lexemes) = subst (λ w. Fails e (run Start w)) rest_is
    c.in_err-header.ensures.reads in
    rw (q.1, q.2) (refused c.args.text.now lexemes names short c.in_ok-lexed.ensures m e fails)

pub returns-in_err-declarations-clause-refused : goal.returns-in_err-declarations-clause-refused
returns-in_err-declarations-clause-refused c =
    let q = err_from_is_err_and c.from_residual-in_err-declarations.result
    c.from_residual-in_err-declarations.ensures.1 in
    let short : length c.args.text.now ≤ 1048576 = omega arith in
    let lexemes = c.in_ok-lexed.lexed.lexemes.items in
    let names = texts_of c.in_ok-lexed.lexed.names.keys in
    let e = c.in_err-declarations.field-0.0 in
    let m : misnamed names lexemes ≡ None = sym
    (ap (λ v. misnamed (texts_of v) lexemes) c.as_slice.ensures.keys) ∙ ap
    (misnamed (texts_of c.as_slice.result.now)) (sym c.as_slice-2.ensures.value) ∙ sym
    c.misnamed.ensures ∙ c.in_default.is in
    let rest_is : c.new-parser.result.rest.now ≡ lexemes
    = c.new-parser.ensures.rest ∙ c.as_slice-3.ensures.value in
    let h = parts_of c.in_ok-header.header in
    let rest = c.read.new.parser.rest.now in
    let begun : run Start lexemes ≡ run (Declares h (core.top [])) rest
    = ap (run Start) (sym rest_is) ∙ c.in_ok-header.ensures.reads in
    rw (q.1, q.2)
    (declarations_refused c.args.text.now lexemes names short c.in_ok-lexed.ensures m h rest e
    begun c.in_err-declarations.ensures)

pub copied_names-requires : goal.copied_names-requires
copied_names-requires c =
    let l = c.in_ok-lexed.ensures in
    subst AreDistinct (sym l.named) (different_from Modules [] l.pieces tt)

pub returns-clause-found : goal.returns-clause-found
returns-clause-found c =
    let short : length c.args.text.now ≤ 1048576 = omega arith in
    let lexemes = c.in_ok-lexed.lexed.lexemes.items in
    let names = texts_of c.in_ok-lexed.lexed.names.keys in
    let decls = c.in_ok-declarations.declarations in
    let m : misnamed names lexemes ≡ None = sym
    (ap (λ v. misnamed (texts_of v) lexemes) c.as_slice.ensures.keys) ∙ ap
    (misnamed (texts_of c.as_slice.result.now)) (sym c.as_slice-2.ensures.value) ∙ sym
    c.misnamed.ensures ∙ c.in_default.is in
    let rest_is : c.new-parser.result.rest.now ≡ lexemes
    = c.new-parser.ensures.rest ∙ c.as_slice-3.ensures.value in
    let h = parts_of c.in_ok-header.header in
    let rest = c.read.new.parser.rest.now in
    let begun : run Start lexemes ≡ run (Declares h (core.top [])) rest
    = ap (run Start) (sym rest_is) ∙ c.in_ok-header.ensures.reads in
    let f = found c.args.text.now lexemes names short c.in_ok-lexed.ensures m h rest decls begun
    c.in_ok-declarations.ensures in
    let read : Module = record {
      names = c.in_ok-copied_names.field-0;
      name = c.in_ok-header.header.name;
      exports = c.from_vec.result;
      imports = map import_of c.from_vec-2.result;
      constructors = map data_of c.from_vec-3.result;
      functions = map function c.from_vec-4.result;
    } in
    let same : module_from names h decls ≡ read = λ i. record {
      names = sym c.in_ok-copied_names.ensures i;
      name = c.in_ok-header.header.name;
      exports = sym c.from_vec.ensures i;
      imports = map import_of (sym c.from_vec-2.ensures i);
      constructors = map data_of (sym c.from_vec-3.ensures i);
      functions = map function (sym c.from_vec-4.ensures i);
    } in
    subst (IsModuleText c.args.text.now) same f.is_text

pub returns-clause-readable : goal.returns-clause-readable
returns-clause-readable c =
    let short : length c.args.text.now ≤ 1048576 = omega arith in
    let lexemes = c.in_ok-lexed.lexed.lexemes.items in
    let names = texts_of c.in_ok-lexed.lexed.names.keys in
    let decls = c.in_ok-declarations.declarations in
    let m : misnamed names lexemes ≡ None = sym
    (ap (λ v. misnamed (texts_of v) lexemes) c.as_slice.ensures.keys) ∙ ap
    (misnamed (texts_of c.as_slice.result.now)) (sym c.as_slice-2.ensures.value) ∙ sym
    c.misnamed.ensures ∙ c.in_default.is in
    let rest_is : c.new-parser.result.rest.now ≡ lexemes
    = c.new-parser.ensures.rest ∙ c.as_slice-3.ensures.value in
    let h = parts_of c.in_ok-header.header in
    let rest = c.read.new.parser.rest.now in
    let begun : run Start lexemes ≡ run (Declares h (core.top [])) rest
    = ap (run Start) (sym rest_is) ∙ c.in_ok-header.ensures.reads in
    let f = found c.args.text.now lexemes names short c.in_ok-lexed.ensures m h rest decls begun
    c.in_ok-declarations.ensures in
    let read : Module = record {
      names = c.in_ok-copied_names.field-0;
      name = c.in_ok-header.header.name;
      exports = c.from_vec.result;
      imports = map import_of c.from_vec-2.result;
      constructors = map data_of c.from_vec-3.result;
      functions = map function c.from_vec-4.result;
    } in
    let same : module_from names h decls ≡ read = λ i. record {
      names = sym c.in_ok-copied_names.ensures i;
      name = c.in_ok-header.header.name;
      exports = sym c.from_vec.ensures i;
      imports = map import_of (sym c.from_vec-2.ensures i);
      constructors = map data_of (sym c.from_vec-3.ensures i);
      functions = map function (sym c.from_vec-4.ensures i);
    } in
    subst (λ (w : Module). IsReadable (body w)) same f.readable

pub returns-clause-unbroken : goal.returns-clause-unbroken
returns-clause-unbroken c =
    let short : length c.args.text.now ≤ 1048576 = omega arith in
    let lexemes = c.in_ok-lexed.lexed.lexemes.items in
    let names = texts_of c.in_ok-lexed.lexed.names.keys in
    let decls = c.in_ok-declarations.declarations in
    let m : misnamed names lexemes ≡ None = sym
    (ap (λ v. misnamed (texts_of v) lexemes) c.as_slice.ensures.keys) ∙ ap
    (misnamed (texts_of c.as_slice.result.now)) (sym c.as_slice-2.ensures.value) ∙ sym
    c.misnamed.ensures ∙ c.in_default.is in
    let rest_is : c.new-parser.result.rest.now ≡ lexemes
    = c.new-parser.ensures.rest ∙ c.as_slice-3.ensures.value in
    let h = parts_of c.in_ok-header.header in
    let rest = c.read.new.parser.rest.now in
    let begun : run Start lexemes ≡ run (Declares h (core.top [])) rest
    = ap (run Start) (sym rest_is) ∙ c.in_ok-header.ensures.reads in
    let f = found c.args.text.now lexemes names short c.in_ok-lexed.ensures m h rest decls begun
    c.in_ok-declarations.ensures in
    f.unbroken
