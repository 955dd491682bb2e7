-- No image of a text that `types` wrote exits with 3.
use Rattle.std.proofs.Common.{◌≡◌, ◌≢◌, ℕ, List, refl, ap, subst, ◌∙◌}
use Rattle.core_reader.specs.Text.{IsText, IsUnbroken}
use Rattle.core_reader.specs.Tree as tree
use Rattle.core_types.specs.Source.{erased}
use Rattle.arity_check.specs.Program.{Program}
use Rattle.core_meaning.specs.Told.{core_program_meaning, meaning_end}
use Rattle.core_meaning.specs.Printing as core
use Rattle.core_meaning.specs.Printing.{Done, Unaccepted, Going, printed}
use Rattle.headline.specs.Carries.{no_alternative, MeaningResult, Machine, IsBytes, Finishes, Carries, exits}
use Rattle.type_meaning.specs.Laws.{NeverStuck}
use Rattle.text_commands.specs.Rereading.{CanonicalTextKeepsMeaning}
use Rattle.text_commands.specs.Text.{IsAccepted}
use Rattle.text_commands.specs.Typing.{IsTypedText}
use Rattle.grin_driver.specs.TypedRuns.{TypedNeverExits}
use Rattle.grin_driver.proofs.Outcomes.{carried}

-- ---- machines

unaccepted : (e : core.PrintingEnd) → meaning_end e ≡ no_alternative → e ≡ Unaccepted
unaccepted Going h = absurd cc
unaccepted Done h = absurd cc
unaccepted Unaccepted h = refl

-- a machine that carries a program that is never stuck never exits with 3
never_exits_with_3 : (HeapFull StackFull : MeaningResult → Type 0) (p : Program) (seen : Machine)
    → NeverStuck p → Carries HeapFull StackFull (core_program_meaning p) seen
    → (i : List ℕ) → IsBytes i → (m : ℕ) → (seen i m).finish ≢ exits 3
never_exits_with_3 HeapFull StackFull p seen never carries i bytes m e =
    let comes = carries.comes i bytes m in
    let h = subst (λ f. Finishes HeapFull StackFull (core_program_meaning p i) comes.0 (seen i m) f)
    e comes.1.finish in
    never i comes.0 (unaccepted (printed p i comes.0).end h.2)

-- ---- texts

-- the written text stands for a program that puts out what the one with types does
written_is_never_stuck : CanonicalTextKeepsMeaning → (text written : List ℕ)
    (typed : IsTypedText text written)
    → (source : tree.Program) (p : Program) → IsAccepted written source p → NeverStuck p
written_is_never_stuck keeps text written typed source p accepted i n stuck =
    let c = erased typed.source in
    let kept = keeps c source typed.readable (subst IsUnbroken typed.is_canonical accepted.read)
    (subst (λ w. IsText w source) typed.is_canonical accepted.stands) in
    let alike = (kept accepted.unbroken).1 p typed.program accepted.normal typed.normal i n in
    typed.never_stuck i n (ap (λ t. t.end) alike ∙ stuck)

pub typed_never_exits : CanonicalTextKeepsMeaning → TypedNeverExits
typed_never_exits keeps text written typed cells stack file from image loads =
    never_exits_with_3 _ _ from.program _
    (written_is_never_stuck keeps text written typed from.source from.program
    from.accepted) (carried written cells stack file from image loads)
