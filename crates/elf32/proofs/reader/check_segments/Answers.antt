use Rattle.std.proofs.Common.{List, false, sym, ap, ◌∙◌, subst, arith}
use Rattle.std.specs.Prelude.{IsTrue, Any}
use Rattle.elf32.specs.declared.header.ProgramHeader.{ProgramHeader}
use Rattle.elf32.specs.Headers.{entry_of}
use Rattle.elf32.specs.Rules.{IsExecutableAtEntry, loaded_size}
use Rattle.elf32.proofs.Chain.{all_inside, all_apart, overlapping, below46, below47, below48, below49}
use Rattle.elf32.proofs.reader.check_segments.Goals as goal

pub returns-in-Some-2-clause-refused : goal.returns-in-Some-2-clause-refused
returns-in-Some-2-clause-refused c = (
  overlapping c.args.file.now _ c.in_ok-j.field-0 _ c.requires.headers c.in_ok-j.ensures
      c.in-Some-2.is,
  below46 _ c.requires.below
      (all_inside c.args.file.now _ c.first_outside.result c.requires.headers
      c.first_outside.ensures c.in_default.not-Some),
)

pub returns-then-not-is_entered-clause-refused : goal.returns-then-not-is_entered-clause-refused
returns-then-not-is_entered-clause-refused c =
    let inside = all_inside c.args.file.now _ c.first_outside.result c.requires.headers
    c.first_outside.ensures c.in_default.not-Some in
    let apart = all_apart c.args.file.now _ c.in_ok-j.field-0 c.requires.headers c.in_ok-j.ensures
    c.in_default-2.not-Some in (
      λ any.
          let there = subst
          (λ (hs : List ProgramHeader). Any (IsExecutableAtEntry (entry_of c.args.file.now)) hs)
          (sym c.requires.headers) any in
          let e : IsTrue false = c.if-not-is_entered.ensures.1 (rw c.word_at.ensures there) in
          cc,
      below47 _ (below46 _ c.requires.below inside) apart,
    )

pub returns-then-total_size-gt-LARGEST-clause-refused :
    goal.returns-then-total_size-gt-LARGEST-clause-refused
returns-then-total_size-gt-LARGEST-clause-refused c =
    let inside = all_inside c.args.file.now _ c.first_outside.result c.requires.headers
    c.first_outside.ensures c.in_default.not-Some in
    let apart = all_apart c.args.file.now _ c.in_ok-j.field-0 c.requires.headers c.in_ok-j.ensures
    c.in_default-2.not-Some in
    let any = subst (λ (hs : List ProgramHeader). Any (IsExecutableAtEntry c.word_at.result) hs)
    c.requires.headers (c.is_entered.ensures.0 c.if-not-is_entered.false) in
    let size = c.total_size.ensures ∙ ap loaded_size c.requires.headers in (
      omega (arith, size),
      below48 _ (below47 _ (below46 _ c.requires.below inside) apart)
          (rw (← c.word_at.ensures) any),
    )

pub returns-clause-ok : goal.returns-clause-ok
returns-clause-ok c =
    let inside = all_inside c.args.file.now _ c.first_outside.result c.requires.headers
    c.first_outside.ensures c.in_default.not-Some in
    let apart = all_apart c.args.file.now _ c.in_ok-j.field-0 c.requires.headers c.in_ok-j.ensures
    c.in_default-2.not-Some in
    let any = subst (λ (hs : List ProgramHeader). Any (IsExecutableAtEntry c.word_at.result) hs)
    c.requires.headers (c.is_entered.ensures.0 c.if-not-is_entered.false) in
    let size = c.total_size.ensures ∙ ap loaded_size c.requires.headers in
    below49 _
    (below48 _ (below47 _ (below46 _ c.requires.below inside) apart)
    (rw (← c.word_at.ensures) any)) (omega (arith, size))

pub returns-clause-sound : goal.returns-clause-sound
returns-clause-sound c =
    let any = subst (λ (hs : List ProgramHeader). Any (IsExecutableAtEntry c.word_at.result) hs)
    c.requires.headers (c.is_entered.ensures.0 c.if-not-is_entered.false) in
    let size = c.total_size.ensures ∙ ap loaded_size c.requires.headers in
    record {
      inside = all_inside c.args.file.now _ c.first_outside.result c.requires.headers
          c.first_outside.ensures c.in_default.not-Some;
      apart = all_apart c.args.file.now _ c.in_ok-j.field-0 c.requires.headers c.in_ok-j.ensures
          c.in_default-2.not-Some;
      entered = rw (← c.word_at.ensures) any;
      small = omega (arith, size);
    }
