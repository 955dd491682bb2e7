use Rattle.std.proofs.Common.{◌≡◌, ◌+◌, suc, ◌∙◌, ap, sym, refl, arith}
use Rattle.std.proofs.lemmas.Result.{err_from_is_err_and}
use Rattle.core_reader.specs.Machine.{front}
use Rattle.core_reader.specs.AroundOf.{Outside}
use Rattle.core_reader.specs.declared.token.Token.TheVariants as word
use Rattle.arity_check.proofs.Flats.{no_members, some_members}
use Rattle.core_types.specs.Source.{Var, Named, Arrow, NoTypes}
use Rattle.core_types.specs.SourceOf.{written, types_in}
use Rattle.core_types.specs.Reading.{binder, nests, given, OneType, Opened, Arguments, Behind, Closing, InBrackets, InArguments, InResult}
use Rattle.core_types.specs.Reading as reading
use Rattle.core_types.proofs.TreeOf.{written-Var}
use Rattle.core_types.proofs.Taking.{takes, halts, refuses_at, fails_from, opens, too_deep, other_begin, no_behind, no_close, keeps_arguments}
use Rattle.core_types.proofs.Parts.{begins_as, begins_at, kept, other_in_brackets, none_applied, no_close_some, named_at, arrow_at, nearer, before}
use Rattle.core_types.proofs.reader.+types.Goals as goal

pub one_type-returns-in-Name-clause-reads : goal.one_type-returns-in-Name-clause-reads
one_type-returns-in-Name-clause-reads t c = λ k e.
    let b = binder c.in-Name.name c.peek-next.result.at in
    takes (Outside (OneType k)) (Outside (given k (Var b))) c.args.parser.now.rest.now
    c.peek-next.result (word.Name c.in-Name.name) c.advance.new.self.rest.now
    c.peek-next.ensures c.in-Name.is c.advance.ensures.rest refl
    ∙ ap (λ w. reading.at (given k w) c.advance.new.self.rest.now) (sym (written-Var b))

pub one_type-returns-in-Con-clause-reads : goal.one_type-returns-in-Con-clause-reads
one_type-returns-in-Con-clause-reads t c = λ k e.
    let b = binder c.in-Con.name c.peek-next.result.at in
    takes (Outside (OneType k)) (Outside (given k (Named b NoTypes))) c.args.parser.now.rest.now
    c.peek-next.result (word.Con c.in-Con.name) c.advance-in-Con.new.self.rest.now
    c.peek-next.ensures c.in-Con.is c.advance-in-Con.ensures.rest refl
    ∙ ap (λ w. reading.at (given k (Named b (types_in w))) c.advance-in-Con.new.self.rest.now)
    (sym c.new.ensures)
    ∙ named_at k b c.new.result c.advance-in-Con.new.self.rest.now

pub one_type-returns-then-parser-ge-MOST_OPEN-clause-reads
    : goal.one_type-returns-then-parser-ge-MOST_OPEN-clause-reads
one_type-returns-then-parser-ge-MOST_OPEN-clause-reads t c = λ k e.
    halts (Outside (OneType k)) c.args.parser.now.rest.now c.peek-next.result word.Open _
    c.peek-next.ensures c.in-Open.is
    (too_deep k c.peek-next.result.at c.args.parser.now.depth e (omega arith))

pub one_type-returns-in_err-inner-in-Open-clause-reads
    : goal.one_type-returns-in_err-inner-in-Open-clause-reads
one_type-returns-in_err-inner-in-Open-clause-reads t c = λ k e.
    let q = err_from_is_err_and c.from_residual.result c.from_residual.ensures.1 in
    let entered = takes (Outside (OneType k)) (Outside (Opened k)) c.args.parser.now.rest.now
    c.peek-next.result word.Open c.advance-in-Open.new.self.rest.now c.peek-next.ensures
    c.in-Open.is c.advance-in-Open.ensures.rest
    (opens k c.peek-next.result.at c.args.parser.now.depth e (omega arith)) in
    let d : suc (nests k) ≡ c.advance-in-Open.new.self.depth + 1 = omega arith in
    rw (q.1, q.2)
    (fails_from c.in_err-inner-in-Open.field-0.0 _ _ entered
    (c.in_err-inner-in-Open.ensures.reads k d))

pub one_type-returns-in_ok-inner-in-Open-clause-reads
    : goal.one_type-returns-in_ok-inner-in-Open-clause-reads
one_type-returns-in_ok-inner-in-Open-clause-reads t c = λ k e.
    let entered = takes (Outside (OneType k)) (Outside (Opened k)) c.args.parser.now.rest.now
    c.peek-next.result word.Open c.advance-in-Open.new.self.rest.now c.peek-next.ensures
    c.in-Open.is c.advance-in-Open.ensures.rest
    (opens k c.peek-next.result.at c.args.parser.now.depth e (omega arith)) in
    let d : suc (nests k) ≡ c.advance-in-Open.new.self.depth + 1 = omega arith in
    entered ∙ c.in_ok-inner-in-Open.ensures.reads k d

pub one_type-returns-in_default : goal.one_type-returns-in_default
one_type-returns-in_default t c =
    let ts = c.args.parser.now.rest.now in
    record {
      reads = λ k e. refuses_at (OneType k) ts c.refusal.result c.refusal.ensures
          (other_begin k (front ts).at (front ts).token
          (λ n f. c.in_default.not-Name n (ap (λ y. y.token) c.peek-next.ensures ∙ f))
          (λ n f. c.in_default.not-Con n (ap (λ y. y.token) c.peek-next.ensures ∙ f))
          (λ f. c.in_default.not-Open (ap (λ y. y.token) c.peek-next.ensures ∙ f)));
      shorter = tt;
      depth = tt;
    }

pub in_brackets-returns-in_err-inner-in-Con-clause-reads
    : goal.in_brackets-returns-in_err-inner-in-Con-clause-reads
in_brackets-returns-in_err-inner-in-Con-clause-reads t c = λ k e.
    let q = err_from_is_err_and c.from_residual.result c.from_residual.ensures.1 in
    let b = binder c.in-Con.name c.peek-next.result.at in
    let entered = takes (Outside (Opened k)) (Outside (Arguments k b NoTypes))
    c.args.parser.now.rest.now c.peek-next.result (word.Con c.in-Con.name)
    c.advance.new.self.rest.now c.peek-next.ensures c.in-Con.is c.advance.ensures.rest refl in
    rw (q.1, q.2)
    (fails_from c.in_err-inner-in-Con.field-0.0 _ _ entered
    (c.in_err-inner-in-Con.ensures.reads k (e ∙ sym c.advance.ensures.depth)))

pub in_brackets-returns-in_ok-inner-in-Con-clause-reads
    : goal.in_brackets-returns-in_ok-inner-in-Con-clause-reads
in_brackets-returns-in_ok-inner-in-Con-clause-reads t c = λ k e.
    let b = binder c.in-Con.name c.peek-next.result.at in
    takes (Outside (Opened k)) (Outside (Arguments k b NoTypes)) c.args.parser.now.rest.now
    c.peek-next.result (word.Con c.in-Con.name) c.advance.new.self.rest.now c.peek-next.ensures
    c.in-Con.is c.advance.ensures.rest refl
    ∙ c.in_ok-inner-in-Con.ensures.reads k (e ∙ sym c.advance.ensures.depth)

pub types-loop-parser-preserved : goal.types-loop-parser-preserved
types-loop-parser-preserved t c =
    let items = c.loop-parser.types.items in
    let ts = c.loop-parser.parser.rest.now in
    let starts = begins_at ts c.peek.result c.starts_type.result c.peek.ensures
    c.starts_type.ensures c.loop-parser-test.true in
    record {
      reads = λ state frame keeps n.
          c.loop-parser.invariant.reads state frame keeps n
          ∙ begins_as state frame keeps (types_in items) ts starts
          ∙ kept state frame keeps items c.push.new.self.items c.in_ok-next.next ts
          c.one_type.new.parser.rest.now c.in_ok-push.ensures.items
          (c.in_ok-next.ensures.reads (frame (types_in items))
          (n (types_in items) ∙ sym c.loop-parser.invariant.depth));
      shorter = nearer _ _ _ c.in_ok-next.ensures.shorter c.loop-parser.invariant.shorter;
      depth = c.in_ok-next.ensures.depth ∙ c.loop-parser.invariant.depth;
    }

pub applied-returns-in_err-args-clause-reads : goal.applied-returns-in_err-args-clause-reads
applied-returns-in_err-args-clause-reads t c = λ k e.
    let q = err_from_is_err_and c.from_residual.result c.from_residual.ensures.1 in
    rw (q.1, q.2)
    (c.in_err-args.ensures.reads (Arguments k c.args.name) (InArguments k c.args.name)
    (keeps_arguments k c.args.name) (λ ts. e))

pub types-returns-in_err-next-clause-reads : goal.types-returns-in_err-next-clause-reads
types-returns-in_err-next-clause-reads t c = λ state frame keeps n.
    let q = err_from_is_err_and c.from_residual.result c.from_residual.ensures.1 in
    let items = c.loop-parser.types.items in
    let ts = c.loop-parser.parser.rest.now in
    let starts = begins_at ts c.peek.result c.starts_type.result c.peek.ensures
    c.starts_type.ensures c.loop-parser-test.true in
    rw (q.1, q.2)
    (fails_from c.in_err-next.field-0.0 _ _
    (c.loop-parser.invariant.reads state frame keeps n ∙ begins_as state frame keeps
    (types_in items) ts starts)
    (c.in_err-next.ensures.reads (frame (types_in items))
    (n (types_in items) ∙ sym c.loop-parser.invariant.depth)))

pub in_brackets-returns-in_err-first-in_default : goal.in_brackets-returns-in_err-first-in_default
in_brackets-returns-in_err-first-in_default t c =
    let q = err_from_is_err_and c.from_residual-in_err-first-in_default.result
    c.from_residual-in_err-first-in_default.ensures.1 in
    record {
      reads = λ k e. rw (q.1, q.2)
          (fails_from c.in_err-first-in_default.field-0.0 _ _
          (other_in_brackets k c.args.parser.now.rest.now c.peek-next.result c.peek-next.ensures
          c.in_default.not-Con) (c.in_err-first-in_default.ensures.reads (InBrackets k) e));
      shorter = rw q.1 tt;
      depth = rw q.1 tt;
    }

pub in_brackets-returns-in_err-inner-in_default : goal.in_brackets-returns-in_err-inner-in_default
in_brackets-returns-in_err-inner-in_default t c =
    let q = err_from_is_err_and c.from_residual-in_err-inner-in_default.result
    c.from_residual-in_err-inner-in_default.ensures.1 in
    record {
      reads = λ k e. rw (q.1, q.2)
          (fails_from c.in_err-inner-in_default.field-0.0 _ _
          (other_in_brackets k c.args.parser.now.rest.now c.peek-next.result c.peek-next.ensures
          c.in_default.not-Con ∙ c.in_ok-first-in_default.ensures.reads (InBrackets k) e)
          (c.in_err-inner-in_default.ensures.reads k
          (e ∙ sym c.in_ok-first-in_default.ensures.depth)));
      shorter = rw q.1 tt;
      depth = rw q.1 tt;
    }

pub in_brackets-returns-in_ok-inner-in_default : goal.in_brackets-returns-in_ok-inner-in_default
in_brackets-returns-in_ok-inner-in_default t c = record {
  reads = λ k e. other_in_brackets k c.args.parser.now.rest.now c.peek-next.result
      c.peek-next.ensures c.in_default.not-Con ∙ c.in_ok-first-in_default.ensures.reads
      (InBrackets k) e ∙ c.in_ok-inner-in_default.ensures.reads k
      (e ∙ sym c.in_ok-first-in_default.ensures.depth);
  shorter = before _ _ _ c.in_ok-inner-in_default.ensures.shorter
      c.in_ok-first-in_default.ensures.shorter;
  depth = c.in_ok-inner-in_default.ensures.depth ∙ c.in_ok-first-in_default.ensures.depth;
}

pub applied-returns-in_err-inner-clause-reads : goal.applied-returns-in_err-inner-clause-reads
applied-returns-in_err-inner-clause-reads t c = λ k e.
    let q = err_from_is_err_and c.from_residual-in_err-inner.result
    c.from_residual-in_err-inner.ensures.1 in
    let args = c.in_ok-args.args in
    let rest = c.types.new.parser.rest.now in
    let none = no_members args c.is_empty.result c.is_empty.ensures c.if-is_empty.true in
    let begun = c.in_ok-args.ensures.reads (Arguments k c.args.name) (InArguments k c.args.name)
    (keeps_arguments k c.args.name) (λ ts. e) ∙ none_applied k c.args.name args rest none
    c.in_ok-args.ensures.whole in
    rw (q.1, q.2)
    (fails_from c.in_err-inner.field-0.0 _ _ begun
    (c.in_err-inner.ensures.reads k (e ∙ sym c.in_ok-args.ensures.depth)))

pub applied-returns-then-is_empty-clause-reads : goal.applied-returns-then-is_empty-clause-reads
applied-returns-then-is_empty-clause-reads t c = λ k e.
    let args = c.in_ok-args.args in
    let rest = c.types.new.parser.rest.now in
    let none = no_members args c.is_empty.result c.is_empty.ensures c.if-is_empty.true in
    c.in_ok-args.ensures.reads (Arguments k c.args.name) (InArguments k c.args.name)
    (keeps_arguments k c.args.name) (λ ts. e)
    ∙ none_applied k c.args.name args rest none c.in_ok-args.ensures.whole
    ∙ c.in_ok-inner.ensures.reads k (e ∙ sym c.in_ok-args.ensures.depth)

pub applied-returns-in_err-take-clause-reads : goal.applied-returns-in_err-take-clause-reads
applied-returns-in_err-take-clause-reads t c = λ k e.
    let q = err_from_is_err_and c.from_residual-in_err-take.result
    c.from_residual-in_err-take.ensures.1 in
    let args = c.in_ok-args.args in
    let rest = c.types.new.parser.rest.now in
    let some = some_members args c.is_empty.result c.is_empty.ensures c.if-is_empty.false in
    rw (q.1, q.2)
    (fails_from c.in_err-take.field-0.0 _ _
    (c.in_ok-args.ensures.reads (Arguments k c.args.name) (InArguments k c.args.name)
    (keeps_arguments k c.args.name) (λ ts. e))
    (refuses_at (Arguments k c.args.name (types_in args)) rest c.in_err-take.field-0.0
    c.in_err-take.ensures.takes.1
    (no_close_some k c.args.name args (front rest).at (front rest).token some
    c.in_ok-args.ensures.whole c.in_err-take.ensures.takes.0)))

pub applied-returns-clause-reads : goal.applied-returns-clause-reads
applied-returns-clause-reads t c = λ k e.
    let args = c.in_ok-args.args in
    let rest = c.types.new.parser.rest.now in
    let after = c.take.new.self.rest.now in
    c.in_ok-args.ensures.reads (Arguments k c.args.name) (InArguments k c.args.name)
    (keeps_arguments k c.args.name) (λ ts. e)
    ∙ takes (Outside (Arguments k c.args.name (types_in args)))
    (Outside (given k (Named c.args.name (types_in args)))) rest (front rest) word.Close after
    refl c.in_ok-take.ensures.takes.0 c.in_ok-take.ensures.takes.1 refl
    ∙ named_at k c.args.name args after

pub behind_first-returns-in-Close-clause-reads : goal.behind_first-returns-in-Close-clause-reads
behind_first-returns-in-Close-clause-reads t c = λ k e.
    takes (Outside (Behind k (written c.args.first))) (Outside (given k (written c.args.first)))
    c.args.parser.now.rest.now c.peek-next.result word.Close c.advance.new.self.rest.now
    c.peek-next.ensures c.in-Close.is c.advance.ensures.rest refl

pub behind_first-returns-in_err-second-in-Arrow-clause-reads
    : goal.behind_first-returns-in_err-second-in-Arrow-clause-reads
behind_first-returns-in_err-second-in-Arrow-clause-reads t c = λ k e.
    let q = err_from_is_err_and c.from_residual.result c.from_residual.ensures.1 in
    let u = written c.args.first in
    let entered = takes (Outside (Behind k u)) (Outside (OneType (InResult k u)))
    c.args.parser.now.rest.now c.peek-next.result word.Arrow
    c.advance-in-Arrow.new.self.rest.now c.peek-next.ensures c.in-Arrow.is
    c.advance-in-Arrow.ensures.rest refl in
    rw (q.1, q.2)
    (fails_from c.in_err-second-in-Arrow.field-0.0 _ _ entered
    (c.in_err-second-in-Arrow.ensures.reads (InResult k u)
    (e ∙ sym c.advance-in-Arrow.ensures.depth)))

pub behind_first-returns-in_err-take-in-Arrow-clause-reads
    : goal.behind_first-returns-in_err-take-in-Arrow-clause-reads
behind_first-returns-in_err-take-in-Arrow-clause-reads t c = λ k e.
    let q = err_from_is_err_and c.from_residual-in_err-take-in-Arrow.result
    c.from_residual-in_err-take-in-Arrow.ensures.1 in
    let u = written c.args.first in
    let v = written c.in_ok-second-in-Arrow.second in
    let rest = c.one_type.new.parser.rest.now in
    let entered = takes (Outside (Behind k u)) (Outside (OneType (InResult k u)))
    c.args.parser.now.rest.now c.peek-next.result word.Arrow
    c.advance-in-Arrow.new.self.rest.now c.peek-next.ensures c.in-Arrow.is
    c.advance-in-Arrow.ensures.rest refl in
    rw (q.1, q.2)
    (fails_from c.in_err-take-in-Arrow.field-0.0 _ _
    (entered ∙ c.in_ok-second-in-Arrow.ensures.reads (InResult k u)
    (e ∙ sym c.advance-in-Arrow.ensures.depth))
    (refuses_at (Closing k (Arrow u v)) rest c.in_err-take-in-Arrow.field-0.0
    c.in_err-take-in-Arrow.ensures.takes.1
    (no_close k (Arrow u v) (front rest).at (front rest).token
    c.in_err-take-in-Arrow.ensures.takes.0)))

pub behind_first-returns-in_ok-to-in-Arrow-clause-reads
    : goal.behind_first-returns-in_ok-to-in-Arrow-clause-reads
behind_first-returns-in_ok-to-in-Arrow-clause-reads t c = λ k e.
    let u = written c.args.first in
    let v = written c.in_ok-second-in-Arrow.second in
    let rest = c.one_type.new.parser.rest.now in
    let after = c.take.new.self.rest.now in
    takes (Outside (Behind k u)) (Outside (OneType (InResult k u))) c.args.parser.now.rest.now
    c.peek-next.result word.Arrow c.advance-in-Arrow.new.self.rest.now c.peek-next.ensures
    c.in-Arrow.is c.advance-in-Arrow.ensures.rest refl
    ∙ c.in_ok-second-in-Arrow.ensures.reads (InResult k u)
    (e ∙ sym c.advance-in-Arrow.ensures.depth)
    ∙ takes (Outside (Closing k (Arrow u v))) (Outside (given k (Arrow u v))) rest (front rest)
    word.Close after refl c.in_ok-take-in-Arrow.ensures.takes.0
    c.in_ok-take-in-Arrow.ensures.takes.1 refl
    ∙ arrow_at k c.in_ok-from-in-Arrow.from c.in_ok-to-in-Arrow.to c.args.first
    c.in_ok-second-in-Arrow.second after c.in_ok-from-in-Arrow.ensures.ok
    c.in_ok-to-in-Arrow.ensures.ok

pub behind_first-returns-in_default : goal.behind_first-returns-in_default
behind_first-returns-in_default t c =
    let ts = c.args.parser.now.rest.now in
    record {
      reads = λ k e. refuses_at (Behind k (written c.args.first)) ts c.refusal.result
          c.refusal.ensures
          (no_behind k (written c.args.first) (front ts).at (front ts).token
          (λ f. c.in_default.not-Close (ap (λ y. y.token) c.peek-next.ensures ∙ f))
          (λ f. c.in_default.not-Arrow (ap (λ y. y.token) c.peek-next.ensures ∙ f)));
      shorter = tt;
      depth = tt;
    }
