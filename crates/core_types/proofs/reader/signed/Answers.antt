use Rattle.std.proofs.Common.{rules, ◌≡◌, ◌++◌, ◌∷◌, [], refl, ap, ◌∙◌, sym, length}
use Rattle.std.proofs.lemmas.Result.{err_from_is_err_and}
use Rattle.core_reader.specs.Machine.{front}
use Rattle.core_reader.specs.AroundOf.{Outside}
use Rattle.core_reader.specs.declared.token.Token.TheVariants as word
use Rattle.core_types.specs.SourceOf.{written, types_in}
use Rattle.core_types.specs.Reading.{with_last, signed, Top, SigBehind, OneType, InParts}
use Rattle.core_types.specs.Reading as reading
use Rattle.core_types.proofs.Taking.{takes, refuses_at, fails_from, no_sig_end, behind_shorter}
use Rattle.core_types.proofs.Parts.{types_last, nearer_still}
use Rattle.core_types.proofs.reader.signed.Goals as goal

pub returns-in_err-take-clause-reads : goal.returns-in_err-take-clause-reads
returns-in_err-take-clause-reads c = λ ds.
    let q = err_from_is_err_and c.from_residual-in_err-take.result
    c.from_residual-in_err-take.ensures.1 in
    let f = c.args.function in
    let ts = types_in c.loop-args.args.items in
    let t = written c.in_ok-part.part in
    let rest = c.one_type.new.parser.rest.now in
    rw (q.1, q.2)
    (fails_from c.in_err-take.field-0.0 _ _
    (c.loop-args.invariant.reads ds ∙ c.in_ok-part.ensures.reads (InParts ds f ts)
    (sym c.loop-args.invariant.depth))
    (refuses_at (SigBehind ds f ts t) rest c.in_err-take.field-0.0 c.in_err-take.ensures.takes.1
    (no_sig_end ds f ts t (front rest).at (front rest).token
    (λ e. let g : c.peek.result.token ≡ word.Arrow = ap (λ y. y.token) c.peek.ensures ∙ e
    in search rules) c.in_err-take.ensures.takes.0)))

pub returns-then-ne-clause-reads : goal.returns-then-ne-clause-reads
returns-then-ne-clause-reads c = λ ds.
    let f = c.args.function in
    let ts = types_in c.loop-args.args.items in
    let t = written c.in_ok-part.part in
    let rest = c.one_type.new.parser.rest.now in
    let after = c.take.new.self.rest.now in
    c.loop-args.invariant.reads ds
    ∙ c.in_ok-part.ensures.reads (InParts ds f ts) (sym c.loop-args.invariant.depth)
    ∙ takes (Outside (SigBehind ds f ts t)) (Outside (Top (ds ++ signed f ts t ∷ []))) rest
    (front rest) word.Semicolon after refl c.in_ok-take.ensures.takes.0
    c.in_ok-take.ensures.takes.1 refl
    ∙ ap (λ w. reading.at (Top (ds ++ signed f (types_in w) t ∷ [])) after) (sym c.from_vec.ensures)

pub loop-args-preserved : goal.loop-args-preserved
loop-args-preserved c =
    let f = c.args.function in
    let items = c.loop-args.args.items in
    let ts = types_in items in
    let part = c.in_ok-part.part in
    let rest = c.one_type.new.parser.rest.now in
    let after = c.advance.new.self.rest.now in
    let arrow : c.peek.result.token ≡ word.Arrow = search rules in
    record {
      reads = λ ds.
          c.loop-args.invariant.reads ds
          ∙ c.in_ok-part.ensures.reads (InParts ds f ts) (sym c.loop-args.invariant.depth)
          ∙ takes (Outside (SigBehind ds f ts (written part)))
          (Outside (OneType (InParts ds f (with_last ts (written part))))) rest c.peek.result
          word.Arrow after c.peek.ensures arrow c.advance.ensures.rest refl
          ∙ ap (λ w. reading.at (OneType (InParts ds f w)) after)
          (sym (types_last items part) ∙ ap types_in (sym c.in_ok-push.ensures.items));
      shorter = nearer_still _ _ _ _ _ (ap length c.advance.ensures.rest) (behind_shorter rest)
          c.in_ok-part.ensures.shorter c.loop-args.invariant.shorter;
      depth = c.advance.ensures.depth ∙ c.in_ok-part.ensures.depth ∙ c.loop-args.invariant.depth;
      function = refl;
    }
