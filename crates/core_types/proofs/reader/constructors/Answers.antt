use Rattle.std.proofs.Common.{rules, ◌≡◌, ◌++◌, ◌∷◌, [], refl, ap, ◌∙◌, sym, map, length}
use Rattle.std.proofs.lemmas.Result.{err_from_is_err_and}
use Rattle.seq.proofs.Lists.{map_push}
use Rattle.core_reader.specs.Machine.{front}
use Rattle.core_reader.specs.AroundOf.{Outside}
use Rattle.core_reader.specs.declared.token.Token.TheVariants as word
use Rattle.core_reader.specs.declared.token.Further.TheVariants as further
use Rattle.core_types.specs.SourceOf.{constructor_of, types_in}
use Rattle.core_types.specs.Grammar.{Declares, bar}
use Rattle.core_types.specs.Reading.{with_new_constructor, Top, ConName, Fields}
use Rattle.core_types.specs.Reading as reading
use Rattle.core_types.proofs.Taking.{takes, refuses_at, fails_from, no_fields_end, type_with, behind_shorter}
use Rattle.core_types.proofs.Parts.{nearer_still}
use Rattle.core_types.proofs.reader.constructors.Goals as goal

pub returns-in_err-take-clause-reads : goal.returns-in_err-take-clause-reads
returns-in_err-take-clause-reads c = λ ds b ps.
    let q = err_from_is_err_and c.from_residual-in_err-take.result
    c.from_residual-in_err-take.ensures.1 in
    let d = type_with b ps (map constructor_of c.loop-constructors.constructors.items) in
    let con = c.in_ok-constructor.constructor in
    let rest = c.constructor.new.parser.rest.now in
    rw (q.1, q.2)
    (fails_from c.in_err-take.field-0.0 _ _
    (c.loop-constructors.invariant.reads ds b ps ∙ c.in_ok-constructor.ensures.reads ds d)
    (refuses_at (Fields ds d con.name (types_in con.fields)) rest c.in_err-take.field-0.0
    c.in_err-take.ensures.takes.1
    (no_fields_end ds d con.name (types_in con.fields) (front rest).at (front rest).token
    c.in_ok-constructor.ensures.whole
    (λ e. let f : c.peek.result.token ≡ word.Further further.Bar
    = ap (λ y. y.token) c.peek.ensures ∙ e in search rules) c.in_err-take.ensures.takes.0)))

pub returns-then-ne-clause-reads : goal.returns-then-ne-clause-reads
returns-then-ne-clause-reads c = λ ds b ps.
    let items = c.loop-constructors.constructors.items in
    let d = type_with b ps (map constructor_of items) in
    let con = c.in_ok-constructor.constructor in
    let rest = c.constructor.new.parser.rest.now in
    let after = c.take.new.self.rest.now in
    c.loop-constructors.invariant.reads ds b ps
    ∙ c.in_ok-constructor.ensures.reads ds d
    ∙ takes (Outside (Fields ds d con.name (types_in con.fields)))
    (Outside (Top
    (ds ++ Declares (with_new_constructor d con.name (types_in con.fields)) ∷ []))) rest
    (front rest) word.Semicolon after refl c.in_ok-take.ensures.takes.0
    c.in_ok-take.ensures.takes.1 refl
    ∙ ap (λ w. reading.at (Top (ds ++ Declares (type_with b ps w) ∷ [])) after)
    (sym (map_push constructor_of items con) ∙ ap (map constructor_of)
    (sym c.in_ok-push.ensures.items))

pub loop-constructors-preserved : goal.loop-constructors-preserved
loop-constructors-preserved c =
    let items = c.loop-constructors.constructors.items in
    let con = c.in_ok-constructor.constructor in
    let rest = c.constructor.new.parser.rest.now in
    let after = c.advance.new.self.rest.now in
    let t : c.peek.result.token ≡ word.Further further.Bar = search rules in
    record {
      reads = λ ds b ps.
          let d = type_with b ps (map constructor_of items) in
          c.loop-constructors.invariant.reads ds b ps
          ∙ c.in_ok-constructor.ensures.reads ds d
          ∙ takes (Outside (Fields ds d con.name (types_in con.fields)))
          (Outside (ConName ds (with_new_constructor d con.name (types_in con.fields)))) rest
          c.peek.result bar after c.peek.ensures t c.advance.ensures.rest refl
          ∙ ap (λ w. reading.at (ConName ds (type_with b ps w)) after)
          (sym (map_push constructor_of items con) ∙ ap (map constructor_of)
          (sym c.in_ok-push.ensures.items));
      shorter = nearer_still _ _ _ _ _ (ap length c.advance.ensures.rest) (behind_shorter rest)
          c.in_ok-constructor.ensures.shorter c.loop-constructors.invariant.shorter;
      depth = c.advance.ensures.depth ∙ c.in_ok-constructor.ensures.depth;
    }
