-- A well-formed program can be started.
use Rattle.std.proofs.Common.{◌≡◌, ℕ, ◌<◌, ◌≤◌, Option, Some, None, IfSome, slice_get, get_or, length, refl, ap, ◌∙◌, arith}
use Rattle.std.proofs.lemmas.Option.{slice_get_cases}
use Rattle.seq.proofs.Lists.{all_get}
use mathlib.Core.Logic.{◌⊎◌, inl, inr}
use Rattle.grin_syntax.specs.declared.program.GlobalCell.{GlobalCell}
use Rattle.grin_syntax.specs.Tree.{Program}
use Rattle.grin_syntax.specs.Formed.{GlobalFormed, ArgumentKnown, Formed}
use Rattle.grin_meaning.specs.Values.{and_then, fields_of}
use Rattle.flow_system.specs.Covers.{FormedProgramsCanStart}

module _ (p : Program) (f : Formed p) where
  no_fields : (i : ℕ) → IfSome (slice_get p.globals i) (λ c. fields_of p c.tag.0 ≡ Some 0)
  no_fields i = on (slice_get p.globals i) refl
    where
      on : (o : Option GlobalCell) → slice_get p.globals i ≡ o
          → IfSome o (λ c. fields_of p c.tag.0 ≡ Some 0)
      on None e = tt
      on (Some c) e =
          let g : GlobalFormed p c = all_get (GlobalFormed p) p.globals i c f.globals e in
          ap (λ o. and_then o (λ t. Some t.fields)) g.1 ∙ ap Some g.2

  there : (o : Option ℕ) → ArgumentKnown p o → IfSome o
      (λ i. (c : GlobalCell) × (slice_get p.globals i ≡ Some c))
  there None h = tt
  there (Some i) h = on (slice_get_cases p.globals i).1
    where
      on : ((x : GlobalCell) × (i < length p.globals) × (slice_get p.globals i ≡ Some x)
          × (get_or p.globals i x ≡ x)) ⊎ ((length p.globals ≤ i) × (slice_get p.globals i ≡ None))
          → (c : GlobalCell) × (slice_get p.globals i ≡ Some c)
      on (inl s) = (s.0, s.2)
      on (inr n) = absurd (omega (arith, h, n.0))

pub formed_is_started : FormedProgramsCanStart
formed_is_started p f = record
    { no_fields = no_fields p f; argument_there = there p f p.argument f.argument }
