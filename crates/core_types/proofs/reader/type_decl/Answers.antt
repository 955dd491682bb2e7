use Rattle.std.proofs.Common.{◌++◌, ◌∷◌, [], refl, ap, ◌∙◌, sym, map}
use Rattle.std.proofs.lemmas.Result.{err_from_is_err_and}
use Rattle.core_reader.specs.Machine.{front}
use Rattle.core_reader.specs.AroundOf.{Outside}
use Rattle.core_reader.specs.declared.token.Token.TheVariants as word
use Rattle.core_reader.specs.declared.token.Further.TheVariants as further
use Rattle.core_types.specs.SourceOf.{constructor_of}
use Rattle.core_types.specs.Grammar.{Declares}
use Rattle.core_types.specs.Reading.{binder, empty_type_decl, Top, TypeName, TypeParams, ConName}
use Rattle.core_types.specs.Reading as reading
use Rattle.core_types.proofs.Taking.{takes, refuses_at, fails_from, type_params, no_type_name, no_type_param}
use Rattle.core_types.proofs.reader.type_decl.Goals as goal

pub returns-in_err-take-in-Con-clause-reads : goal.returns-in_err-take-in-Con-clause-reads
returns-in_err-take-in-Con-clause-reads c = λ ds.
    let q = err_from_is_err_and c.from_residual-in_err-take-in-Con.result
    c.from_residual-in_err-take-in-Con.ensures.1 in
    let ts = c.args.parser.now.rest.now in
    let b = binder c.in-Con.name c.peek-next.result.at in
    let ps = c.in_ok-params-in-Con.params.items in
    let ts2 = c.names.new.self.rest.now in
    let entered = takes (Outside (Top ds)) (Outside (TypeName ds)) ts (front ts)
    (word.Further further.TypeDecl) c.advance.new.self.rest.now refl c.requires.word
    c.advance.ensures.rest refl in
    let named = takes (Outside (TypeName ds)) (Outside (TypeParams ds b []))
    c.advance.new.self.rest.now c.peek-next.result (word.Con c.in-Con.name)
    c.advance-in-Con.new.self.rest.now c.peek-next.ensures c.in-Con.is
    c.advance-in-Con.ensures.rest refl in
    let held = type_params ds b ps c.advance-in-Con.new.self.rest.now ts2
    c.in_ok-params-in-Con.ensures.reads in
    rw (q.1, q.2)
    (fails_from c.in_err-take-in-Con.field-0.0 _ _ (entered ∙ named ∙ held)
    (refuses_at (TypeParams ds b ps) ts2 c.in_err-take-in-Con.field-0.0
    c.in_err-take-in-Con.ensures.takes.1
    (no_type_param ds b ps (front ts2).at (front ts2).token c.in_ok-params-in-Con.ensures.whole
    c.in_err-take-in-Con.ensures.takes.0)))

pub returns-in_err-constructors-in-Con-clause-reads
    : goal.returns-in_err-constructors-in-Con-clause-reads
returns-in_err-constructors-in-Con-clause-reads c = λ ds.
    let q = err_from_is_err_and c.from_residual-in_err-constructors-in-Con.result
    c.from_residual-in_err-constructors-in-Con.ensures.1 in
    let ts = c.args.parser.now.rest.now in
    let b = binder c.in-Con.name c.peek-next.result.at in
    let ps = c.in_ok-params-in-Con.params.items in
    let ts2 = c.names.new.self.rest.now in
    let entered = takes (Outside (Top ds)) (Outside (TypeName ds)) ts (front ts)
    (word.Further further.TypeDecl) c.advance.new.self.rest.now refl c.requires.word
    c.advance.ensures.rest refl in
    let named = takes (Outside (TypeName ds)) (Outside (TypeParams ds b []))
    c.advance.new.self.rest.now c.peek-next.result (word.Con c.in-Con.name)
    c.advance-in-Con.new.self.rest.now c.peek-next.ensures c.in-Con.is
    c.advance-in-Con.ensures.rest refl in
    let held = type_params ds b ps c.advance-in-Con.new.self.rest.now ts2
    c.in_ok-params-in-Con.ensures.reads in
    let equals = takes (Outside (TypeParams ds b ps)) (Outside (ConName ds (empty_type_decl b ps)))
    ts2 (front ts2) word.Equals c.take.new.self.rest.now refl
    c.in_ok-take-in-Con.ensures.takes.0 c.in_ok-take-in-Con.ensures.takes.1 refl in
    rw (q.1, q.2)
    (fails_from c.in_err-constructors-in-Con.field-0.0 _ _ (entered ∙ named ∙ held ∙ equals)
    (c.in_err-constructors-in-Con.ensures.reads ds b ps))

pub returns-in_ok-constructors-in-Con-clause-reads :
    goal.returns-in_ok-constructors-in-Con-clause-reads
returns-in_ok-constructors-in-Con-clause-reads c = λ ds.
    let ts = c.args.parser.now.rest.now in
    let b = binder c.in-Con.name c.peek-next.result.at in
    let ps = c.in_ok-params-in-Con.params.items in
    let ts2 = c.names.new.self.rest.now in
    let rest = c.constructors.new.parser.rest.now in
    takes (Outside (Top ds)) (Outside (TypeName ds)) ts (front ts) (word.Further further.TypeDecl)
    c.advance.new.self.rest.now refl c.requires.word c.advance.ensures.rest refl
    ∙ takes (Outside (TypeName ds)) (Outside (TypeParams ds b [])) c.advance.new.self.rest.now
    c.peek-next.result (word.Con c.in-Con.name) c.advance-in-Con.new.self.rest.now
    c.peek-next.ensures c.in-Con.is c.advance-in-Con.ensures.rest refl
    ∙ type_params ds b ps c.advance-in-Con.new.self.rest.now ts2 c.in_ok-params-in-Con.ensures.reads
    ∙ takes (Outside (TypeParams ds b ps)) (Outside (ConName ds (empty_type_decl b ps))) ts2
    (front ts2) word.Equals c.take.new.self.rest.now refl c.in_ok-take-in-Con.ensures.takes.0
    c.in_ok-take-in-Con.ensures.takes.1 refl
    ∙ c.in_ok-constructors-in-Con.ensures.reads ds b ps
    ∙ (λ i. reading.at
    (Top (ds ++ Declares
    (record {
      name = b;
      params = sym c.from_vec.ensures i;
      constructors
          = map constructor_of (sym c.from_vec-in-Con.ensures i);
    }) ∷ [])) rest)

pub returns-in_default : goal.returns-in_default
returns-in_default c =
    let ts = c.args.parser.now.rest.now in
    let ts1 = c.advance.new.self.rest.now in
    record {
      reads = λ ds. fails_from c.refusal.result _ _
          (takes (Outside (Top ds)) (Outside (TypeName ds)) ts (front ts)
          (word.Further further.TypeDecl) ts1 refl c.requires.word c.advance.ensures.rest refl)
          (refuses_at (TypeName ds) ts1 c.refusal.result c.refusal.ensures
          (no_type_name ds (front ts1).at (front ts1).token
          (λ n e. c.in_default.not-Con n (ap (λ y. y.token) c.peek-next.ensures ∙ e))));
      shorter = tt;
      depth = tt;
    }
