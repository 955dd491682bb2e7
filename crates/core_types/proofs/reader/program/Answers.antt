use Rattle.std.proofs.Common.{rules, ◌≡◌, ◌++◌, ◌∷◌, [], ◌∙◌, ap, sym, refl}
use Rattle.core_reader.specs.Machine.{front}
use Rattle.core_reader.specs.Tree as tree
use Rattle.core_reader.specs.declared.token.Token.TheVariants as word
use Rattle.core_reader.specs.declared.token.Further.TheVariants as further
use Rattle.core_types.specs.SourceOf.{type_of, signature_of}
use Rattle.core_types.specs.Grammar.{types_of, signatures_of, functions_of}
use Rattle.core_types.specs.Reading.{type_decl, signature_decl, function_decl, Top}
use Rattle.core_types.proofs.Taking.{fails_from, refuses_at, no_decl}
use Rattle.core_types.proofs.EachKind.{types_append, signatures_append, functions_append, kept_by, more_by, finishes, further_decl}
use Rattle.core_types.proofs.reader.program.Goals as goal
use Rattle.core_types.proofs.reader.program.Goals.{in_default-via-in-Further+in_default, in_default-via-in_default}

pub loop-found-preserved-in-TypeDecl-1 : goal.loop-found-preserved-in-TypeDecl-1
loop-found-preserved-in-TypeDecl-1 c =
    let i = c.loop-found.invariant.reads in
    let d = c.in_ok-type_decl-in-Further-TypeDecl.field-0 in
    let x = type_decl d in
    record {
      reads = (
        i.0 ++ x ∷ [],
        more_by types_of types_append type_of i.0 x c.loop-found.found.types.items
            c.push.new.self.items d refl i.1 c.in_ok-push-in-Further-TypeDecl.ensures.items,
        kept_by signatures_of signatures_append i.0 x _ refl i.2,
        kept_by functions_of functions_append i.0 x _ refl i.3,
        i.4 ∙ c.in_ok-type_decl-in-Further-TypeDecl.ensures.reads i.0,
      );
      depth = c.in_ok-type_decl-in-Further-TypeDecl.ensures.depth;
    }

pub loop-found-preserved-in-Signature-1 : goal.loop-found-preserved-in-Signature-1
loop-found-preserved-in-Signature-1 c =
    let i = c.loop-found.invariant.reads in
    let d = c.in_ok-signature-in-Further-Signature.field-0 in
    let x = signature_decl d in
    record {
      reads = (
        i.0 ++ x ∷ [],
        kept_by types_of types_append i.0 x _ refl i.1,
        more_by signatures_of signatures_append signature_of i.0 x
            c.loop-found.found.signatures.items c.push-in-Further-Signature.new.self.items d refl
            i.2 c.in_ok-push-in-Further-Signature.ensures.items,
        kept_by functions_of functions_append i.0 x _ refl i.3,
        i.4 ∙ c.in_ok-signature-in-Further-Signature.ensures.reads i.0,
      );
      depth = c.in_ok-signature-in-Further-Signature.ensures.depth;
    }

pub loop-found-preserved : goal.loop-found-preserved
loop-found-preserved c =
    let i = c.loop-found.invariant.reads in
    let d = c.in_ok-function-in-Name.field-0 in
    let x = function_decl d in
    record {
      reads = (
        i.0 ++ x ∷ [],
        kept_by types_of types_append i.0 x _ refl i.1,
        kept_by signatures_of signatures_append i.0 x _ refl i.2,
        more_by functions_of functions_append tree.function i.0 x c.loop-found.found.functions.items
            c.push-in-Name.new.self.items d refl i.3 c.in_ok-push-in-Name.ensures.items,
        i.4 ∙ c.in_ok-function-in-Name.ensures.reads i.0,
      );
      depth = c.in_ok-function-in-Name.ensures.depth;
    }

pub returns-in-End : goal.returns-in-End
returns-in-End c =
    let i = c.loop-found.invariant.reads in (
      i.0,
      i.1,
      i.2,
      i.3,
      i.4 ∙ finishes i.0 c.loop-found.parser.rest.now c.peek-next.result
          c.peek-next.ensures c.in-End.is,
    )

pub returns-in_default : goal.returns-in_default
returns-in_default c =
    let i = c.loop-found.invariant.reads in
    let ts = c.loop-found.parser.rest.now in
    let token : c.peek-next.result.token ≡ (front ts).token = ap (λ y. y.token) c.peek-next.ensures
    in
    let refused = refuses_at (Top i.0) ts c.refusal.result c.refusal.ensures in
    fails_from c.refusal.result _ _ i.4 (elim c.in_default.branch [
      | in_default-via-in-Further+in_default w ↦ refused
          (further_decl i.0 (front ts).at (front ts).token w.in_default.field-0
          (sym token ∙ w.in_default.is) (λ e. search rules) (λ e. search rules))
      | in_default-via-in_default w ↦ refused
          (no_decl i.0 (front ts).at (front ts).token
          (λ e. let g : c.peek-next.result.token ≡ word.Further further.TypeDecl = token ∙ e
          in search rules)
          (λ e. let g : c.peek-next.result.token ≡ word.Further further.Signature = token ∙ e
          in search rules) (λ n e. w.in_default.not-Name n (token ∙ e))
          (λ e. w.in_default.not-End (token ∙ e)))
    ])
