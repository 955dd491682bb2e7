-- What the evaluator tells of a program is derived of it.
use Rattle.std.proofs.Common.{◌≡◌, ◌≢◌, ℕ, List, [], refl, sym, ◌∙◌, append-nil}
use Rattle.std.specs.Prelude.{◌⊎◌}
use mathlib.Core.Logic.{inl, inr}
use Rattle.arity_check.specs.Program.{Program}
use Rattle.core_meaning.specs.ByNeed as by_need
use Rattle.core_meaning.specs.Evaluation.{OutOfBound}
use Rattle.core_meaning.specs.Printing.{PrintingEnd, Done, Unaccepted, Going, printed}
use Rattle.core_meaning.specs.Told.{meaning_end}
use Rattle.headline.specs.Carries.{going, done, no_alternative, IsPrefixOf}
use Rattle.natural_semantics.specs.Prints.{ProgramPrints}
use Rattle.natural_semantics.specs.Laws.{ToldIsDerived}
use Rattle.natural_semantics.proofs.CoreSays.{one_output, parts_agree, ends, derived}

-- ---- how a run stands by what is told of it

done_is : (end : PrintingEnd) → meaning_end end ≡ done → end ≡ Done
done_is Done e = refl
done_is Unaccepted e = absurd (let none : no_alternative ≡ done = e in cc)
done_is Going e = absurd (let none : going ≡ done = e in cc)

unaccepted_is : (end : PrintingEnd) → meaning_end end ≡ no_alternative → end ≡ Unaccepted
unaccepted_is Unaccepted e = refl
unaccepted_is Done e = absurd (let none : done ≡ no_alternative = e in cc)
unaccepted_is Going e = absurd (let none : going ≡ no_alternative = e in cc)

done_has_ended : Done ≢ Going
done_has_ended e = cc

unaccepted_has_ended : Unaccepted ≢ Going
unaccepted_has_ended e = cc

module _ (p : Program)
    (found : (i : List ℕ) (n : ℕ) → by_need.printed 0 (λ s. OutOfBound s) p i n ≡ printed p i n)
    (i : List ℕ) where
  -- two ends that are derived are one
  same_end : (out all : List ℕ) (end end' : PrintingEnd) → end ≢ Going → ProgramPrints p i out end
      → end' ≢ Going → ProgramPrints p i all end'
      → IsPrefixOf out all × ((end ≡ Going) ⊎ ((out ≡ all) × (end ≡ end')))
  same_end out all end end' h d h' d' =
      let same = one_output p i out all end end' h h' d d' in
      (([], sym same.0 ∙ sym (append-nil out)), inr same)

  agree : (out all : List ℕ) (end end' : PrintingEnd) → ProgramPrints p i out end
      → end' ≢ Going → ProgramPrints p i all end'
      → IsPrefixOf out all × ((end ≡ Going) ⊎ ((out ≡ all) × (end ≡ end')))
  agree out all Going end' d h d' = ((parts_agree p i).ended out all end' h d d', inl refl)
  agree out all Done end' d h d' = same_end out all Done end' done_has_ended d h d'
  agree out all Unaccepted end' d h d' =
      same_end out all Unaccepted end' unaccepted_has_ended d h d'

  pub told_is_derived : ToldIsDerived p i
  told_is_derived = record {
    ended = λ n e.
        (ends p found i (printed p i n).out Done done_has_ended).0
        (n, refl, done_is (printed p i n).end e);
    unaccepted = λ n e.
        (ends p found i (printed p i n).out Unaccepted unaccepted_has_ended).0
        (n, refl, unaccepted_is (printed p i n).end e);
    begun = λ out n h.
        (parts_agree p i).shorter out (printed p i n).out Going h (derived p found i n);
    no_other_end = agree;
  }
