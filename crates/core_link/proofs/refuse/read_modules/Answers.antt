use Rattle.std.proofs.Common.{◌≡◌, ℕ, List, map, true, false, sym, ap, subst, ◌∙◌, Some, None}
use Rattle.std.specs.Prelude.{slice_get}
use Rattle.std.specs.List.{list_any}
use Rattle.seq.proofs.Lists.{all_get}
use Rattle.core_link.specs.Module.{Module}
use Rattle.core_link.specs.ModuleOf.{module_of}
use Rattle.core_link.specs.Rules.{IsSound, IsFirstBroken, IsNamed}
use Rattle.core_link.specs.Shared.{IsFirstBetween, declares_main}
use Rattle.core_link.proofs.InFiles.{none_lacks, some_has, main_first, between_first_broken, all_unbroken, between_rule}
use Rattle.core_link.proofs.refuse.read_modules.Goals as goal

pub returns-then-not-have_main-clause-refused : goal.returns-then-not-have_main-clause-refused
returns-then-not-have_main-clause-refused c =
    let ms : List Module = map module_of c.in_ok-modules.modules.items in
    let texts = c.args.texts.now in
    let sound : (i : ℕ) (t : List ℕ) → slice_get texts i ≡ Some t → IsSound t
    = λ i t e. all_get IsSound texts i t c.in_ok-modules.ensures.sound e in
    let none : list_any declares_main ms ≡ false = ap
    (λ xs. list_any declares_main (map module_of xs)) (sym c.as_slice.ensures.value) ∙ sym
    c.have_main.ensures ∙ c.if-not-have_main.true in
    main_first texts ms c.in_ok-modules.ensures.read.modules sound (none_lacks ms none)

pub returns-in-None-clause-unbroken : goal.returns-in-None-clause-unbroken
returns-in-None-clause-unbroken c =
    let ms : List Module = map module_of c.in_ok-modules.modules.items in
    let texts = c.args.texts.now in
    let sound : (i : ℕ) (t : List ℕ) → slice_get texts i ≡ Some t → IsSound t
    = λ i t e. all_get IsSound texts i t c.in_ok-modules.ensures.sound e in
    let some : list_any declares_main ms ≡ true = ap
    (λ xs. list_any declares_main (map module_of xs)) (sym c.as_slice.ensures.value) ∙ sym
    c.have_main.ensures ∙ c.if-not-have_main.false in
    let first : IsFirstBetween ms None = subst (λ xs. IsFirstBetween (map module_of xs) None)
    c.as_slice-2.ensures.value
    (subst (IsFirstBetween (map module_of c.as_slice-2.result.now)) c.in-None.is
    c.in_ok-first.ensures) in
    all_unbroken texts ms c.in_ok-modules.ensures.read.modules sound (some_has ms some) first

pub returns-in-Some-clause-refused : goal.returns-in-Some-clause-refused
returns-in-Some-clause-refused c =
    let ms : List Module = map module_of c.in_ok-modules.modules.items in
    let texts = c.args.texts.now in
    let sound : (i : ℕ) (t : List ℕ) → slice_get texts i ≡ Some t → IsSound t
    = λ i t e. all_get IsSound texts i t c.in_ok-modules.ensures.sound e in
    let some : list_any declares_main ms ≡ true = ap
    (λ xs. list_any declares_main (map module_of xs)) (sym c.as_slice.ensures.value) ∙ sym
    c.have_main.ensures ∙ c.if-not-have_main.false in
    let f : ℕ × (ℕ × ℕ) = (c.in-Some.file, (c.in-Some.rule, c.in-Some.at)) in
    let first : IsFirstBetween ms (Some f) = subst
    (λ xs. IsFirstBetween (map module_of xs) (Some f)) c.as_slice-2.ensures.value
    (subst (IsFirstBetween (map module_of c.as_slice-2.result.now)) c.in-Some.is
    c.in_ok-first.ensures) in
    subst (IsNamed (λ k at. IsFirstBroken texts k c.in-Some.file at) c.in-Some.file)
    (sym c.between_kind-kind.ensures)
    (between_first_broken texts ms c.in_ok-modules.ensures.read.modules sound (some_has ms some) f
    first)

pub between_kind-kind-requires : goal.between_kind-kind-requires
between_kind-kind-requires c =
    let ms : List Module = map module_of c.as_slice-2.result.now in
    let f : ℕ × (ℕ × ℕ) = (c.in-Some.file, (c.in-Some.rule, c.in-Some.at)) in
    let first : IsFirstBetween ms (Some f) = subst (IsFirstBetween ms) c.in-Some.is
    c.in_ok-first.ensures in
    between_rule ms c.in-Some.rule c.in-Some.file c.in-Some.at first.0
