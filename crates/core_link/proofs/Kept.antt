-- One module without imports keeps what its declarations mean.
use Rattle.std.proofs.Common.{◌≡◌, ℕ, zero, suc, false, arith, List, [], ◌∷◌, refl, sym, ap, subst, ◌∙◌, Some, ◌⊎◌, inl, inr}
use Rattle.std.specs.Prelude.{All, codes, slice_get}
use Rattle.std.proofs.lemmas.List.Elements.{All-head, All-tail}
use Rattle.std.proofs.lemmas.Slice.Eq.{bytes_eq-Decides}
use Rattle.seq.proofs.Lists.{none_is_some}
use Rattle.std.specs.List.{AllZip}
use Rattle.std.specs.Str.{bytes_eq}
use Rattle.seq.proofs.Truth.{not_both, two_ways}
use Rattle.core_reader.specs.declared.syntax.Binder.{Binder}
use Rattle.core_reader.specs.Programs.{IsText}
use Rattle.core_reader.specs.Readable.{IsReadable, ReadableFunction}
use Rattle.core_reader.specs.Tree as tree
use Rattle.core_reader.specs.Tree.{Data, Program}
use Rattle.core_print.specs.Renamed.{RenamedData, RenamedFunction}
use Rattle.core_print.specs.Same.{SameProgram}
use Rattle.arity_check.specs.Accepted as accepted
use Rattle.arity_check.specs.Broken as program
use Rattle.arity_check.specs.declared.normal.Con as con
use Rattle.arity_check.specs.Normal.{IsNormalForm, IsFunction, IsConstructor, Pairwise}
use Rattle.arity_check.specs.One.{NormalFormIsUnique, NormalFormExists}
use Rattle.arity_check.specs.Program as normal
use Rattle.arity_check.specs.Scope.{Scope, is_named}
use Rattle.core_meaning.specs.Printing.{printed}
use Rattle.core_meaning.specs.Evaluation.{NoAlternative}
use Rattle.core_link.specs.Laws.{SplitsAtHeader, KeepsMeaning, SingleModuleKeepsMeaning, IsRuleOfNames}
use Rattle.core_link.specs.Module.{Module, IsModuleText, BreaksNoReadingRule, text_in, name_of, body}
use Rattle.core_link.specs.Rules.{LacksMain, DeclaresMain, NoMainModule, UnknownName, ReservedName, AgainConstructor, AgainFunction, Main, Reading, InFile, Unread}
use Rattle.core_link.specs.Union.{IsUnion, enter}
use Rattle.core_link.proofs.Beside.{one_item}
use Rattle.core_link.proofs.Clear.{named_at}
use Rattle.core_link.proofs.InModule.{OfBinder, OfCon, OfUse, OfFunction}
use Rattle.core_link.proofs.Aligned.{zip_map, positions_aligned, same_named}
use Rattle.core_link.proofs.Alone as alone
use Rattle.core_link.proofs.Alone.{only_module, seen_alone}
use Rattle.core_link.proofs.Behind.{same_behind}
use Rattle.core_link.proofs.Headed.{each_has_program, readable_behind}
use Rattle.core_link.proofs.Carried.{MeansTheSame, function_carried}
use Rattle.core_link.proofs.Linked.{IsSound, sound_of, all_at, text_is}
use Rattle.core_link.proofs.Same as same
use Rattle.core_link.proofs.SamePrinted.{SameBody, same_printed}
use Rattle.core_link.proofs.Still.{unbroken}
use Rattle.core_link.proofs.Transfer.{no_other}
use Rattle.core_link.proofs.Turned.{same_turned}

-- the rule of a `main`
lacks_main : (p : Program) (k at : ℕ) → program.Broken p k at → k ≡ 19 → (i : ℕ) (f : tree.Function)
    → slice_get p.functions i ≡ Some f → is_named p (codes "main") f.name ≡ false
lacks_main p k at (program.NoMain e) h = e
lacks_main p k at (program.DuplicateConstructor l e f s) h = absurd (omega (arith, h))
lacks_main p k at (program.DuplicateFunction l e f s) h = absurd (omega (arith, h))
lacks_main p k at (program.DuplicateName list r) h = absurd (omega (arith, h))
lacks_main p k at (program.UnknownName b e) h = absurd (omega (arith, h))
lacks_main p k at (program.UnknownConstructor b e) h = absurd (omega (arith, h))
lacks_main p k at (program.UnknownPattern i b e f) h = absurd (omega (arith, h))
lacks_main p k at (program.ConstructorArity b e f) h = absurd (omega (arith, h))
lacks_main p k at (program.PatternArity i b e f g) h = absurd (omega (arith, h))
lacks_main p k at (program.DefaultNotLast i b e f) h = absurd (omega (arith, h))
lacks_main p k at (program.DuplicateCon i j b l e f g) h = absurd (omega (arith, h))
lacks_main p k at (program.DuplicateInt i j b l e f) h = absurd (omega (arith, h))
lacks_main p k at (program.MixedAlternatives i j b e l f g) h = absurd (omega (arith, h))
lacks_main p k at (program.ReservedBinder i n b e f g) h = absurd (omega (arith, h))
lacks_main p k at (program.ReservedFunction i n b e f) h = absurd (omega (arith, h))
lacks_main p k at (program.ReservedConstructor i e f) h = absurd (omega (arith, h))
lacks_main p k at (program.PrimitiveArity b e f) h = absurd (omega (arith, h))
lacks_main p k at (program.MainHasParameters i e f g) h = absurd (omega (arith, h))
lacks_main p k at (program.NoListConstructors e) h = absurd (omega (arith, h))
lacks_main p k at (program.TooManyFunctions e) h = absurd (omega (arith, h))
lacks_main p k at (program.TooManyConstructors e) h = absurd (omega (arith, h))
lacks_main p k at (program.TooManyParameters i e f) h = absurd (omega (arith, h))
lacks_main p k at (program.TooManyArguments b e f) h = absurd (omega (arith, h))
lacks_main p k at (program.TooManyFields i e f) h = absurd (omega (arith, h))
lacks_main p k at (program.CoreTooLarge e) h = absurd (omega (arith, h))

-- ---- a normal form of a program is one of a program with other names, but for the names of
-- functions

module _ (p q : Program) {S : Type 0} (enter : List Binder → List Binder → S → S)
    (OfBinder OfCon : ℕ → ℕ → Type 0) (OfUse : S → ℕ → ℕ → Type 0) (OfFunction : ℕ → ℕ → Type 0)
    (Fits : S → Scope → Scope → Type 0) (start : S)
    (means : MeansTheSame p q enter OfBinder OfCon OfUse Fits) (fits : Fits start [] [])
    (readable : IsReadable q) where
  record Carries (r : normal.Program) : Type 0 where
    form : normal.Program
    is : IsNormalForm q form
    cons : r.cons ≡ form.cons
    main : r.main ≡ form.main
    funs : AllZip SameBody r.funs form.funs

  functions_carried : (fs gs : List tree.Function) → AllZip
      (RenamedFunction enter OfBinder OfCon OfUse OfFunction start) fs gs
      → All (ReadableFunction q.names) gs → (us : List normal.Function)
      → Pairwise (IsFunction p) fs us
      → (vs : List normal.Function) × Pairwise (IsFunction q) gs vs × AllZip SameBody us vs
  functions_carried [] [] z h [] w = ([], tt, tt)
  functions_carried [] [] z h (u ∷ us) w = absurd w
  functions_carried [] (g ∷ gs) z h us w = absurd z
  functions_carried (f ∷ fs) [] z h us w = absurd z
  functions_carried (f ∷ fs) (g ∷ gs) z h [] w = absurd w
  functions_carried (f ∷ fs) (g ∷ gs) z h (u ∷ us) w =
      let name = (All-head (ReadableFunction q.names) g gs h).0 in
      let first = function_carried p q enter OfBinder OfCon OfUse Fits means OfFunction start f g u
      name.0 fits z.0 name.1 w.0 in
      let rest = functions_carried fs gs z.1 (All-tail (ReadableFunction q.names) g gs h) us w.1 in (
        record { name = name.0; params = u.params; body = u.body } ∷ rest.0,
        (first, rest.1),
        ((refl, refl), rest.2),
      )

  constructors_carried : ((n k : ℕ) → OfCon n k → slice_get p.names n ≡ slice_get q.names k)
      → (ds es : List Data) → AllZip (RenamedData enter OfBinder OfCon OfUse) ds es
      → (cs : List con.Con) → Pairwise (IsConstructor p) ds cs → Pairwise (IsConstructor q) es cs
  constructors_carried text [] [] z [] w = tt
  constructors_carried text [] [] z (c ∷ cs) w = absurd w
  constructors_carried text [] (e ∷ es) z cs w = absurd z
  constructors_carried text (d ∷ ds) [] z cs w = absurd z
  constructors_carried text (d ∷ ds) (e ∷ es) z [] w = absurd w
  constructors_carried text (d ∷ ds) (e ∷ es) z (c ∷ cs) w
      = (
        record { name = sym (text d.name e.name z.0.0) ∙ w.0.name; fields = w.0.fields ∙ z.0.1 },
        constructors_carried text ds es z.1 cs w.1,
      )

  carries : AllZip (RenamedData enter OfBinder OfCon OfUse) p.constructors q.constructors
      → AllZip (RenamedFunction enter OfBinder OfCon OfUse OfFunction start) p.functions q.functions
      → ((n k : ℕ) → OfCon n k → slice_get p.names n ≡ slice_get q.names k)
      → ((n k : ℕ) → OfFunction n k → is_named p (codes "main") n ≡ is_named q (codes "main") k)
      → (r : normal.Program) → IsNormalForm p r → Carries r
  carries ds fs text main r is =
      let w = functions_carried p.functions q.functions fs readable.functions r.funs is.funs in
      let place = positions_aligned (λ (f : tree.Function). is_named p (codes "main") f.name)
      (λ (f : tree.Function). is_named q (codes "main") f.name) p.functions q.functions
      (zip_map (RenamedFunction enter OfBinder OfCon OfUse OfFunction start)
      (λ f g. is_named p (codes "main") f.name ≡ is_named q (codes "main") g.name)
      (λ f g r. main f.name g.name r.0) p.functions q.functions fs) in
      record {
        form = record { cons = r.cons; funs = w.0; main = r.main };
        is = record {
          cons = constructors_carried text p.constructors q.constructors ds r.cons is.cons;
          funs
              = w.1;
          main = sym place ∙ is.main;
        };
        cons = refl;
        main = refl;
        funs = w.2;
      }

  carried_printed : NormalFormIsUnique → (r : normal.Program) → Carries r → (d : normal.Program)
      → IsNormalForm q d → (i : List ℕ) (n : ℕ) → printed r i n ≡ printed d i n
  carried_printed one r w d is i n = same_printed 0 NoAlternative r w.form w.cons w.main w.funs i n
      ∙ ap (λ x. printed x i n) (one q w.form d w.is is)

-- Programs that are the same, the places and the numbers of the names aside, put out the same.
pub same_programs_print_the_same : NormalFormIsUnique → (p q : Program) → SameProgram p q
    → IsReadable p → IsReadable q → (r d : normal.Program) → IsNormalForm p r → IsNormalForm q d
    → (i : List ℕ) (n : ℕ) → printed r i n ≡ printed d i n
same_programs_print_the_same one p q same_program here own r d is_r is_d i n =
    let E = same.NoScope p q same_program here own in
    let B = same.OfBinder p q same_program here own in
    let C = same.OfCon p q same_program here own in
    let U = same.OfUse p q same_program here own in
    let F = same.OfFunction p q same_program here own in
    let Fits = same.Fits p q same_program here own in
    let there = carries p q E B C U F Fits tt (same.means_the_same p q same_program here own) tt own
    (same.constructors p q same_program here own) (same.functions p q same_program here own)
    (λ n k b. b.1) (λ n k b. same_named p q n k (codes "main") b.1) r is_r in
    carried_printed p q E B C U F Fits tt (same.means_the_same p q same_program here own) tt own one
    r there d is_d i n

-- ---- the module, its declarations by themselves, and the program

module _ (one : NormalFormIsUnique) (some : NormalFormExists) (m : Module) (p c : Program)
    (u : IsUnion (m ∷ []) c) (sound : IsSound (m ∷ [])) (main : LacksMain (m ∷ []) → ⊥)
    (named : name_of m ≡ codes "Main") (no_imports : m.imports ≡ [])
    (same_program : SameProgram (body m) p) (own : IsReadable p) (ok : accepted.BreaksNoRule p)
    (readable : IsReadable c) where
  here : IsReadable (body m)
  here = (sound.good 0 m refl).readable

  turned : SameProgram p (body m)
  turned = same_turned (body m) p same_program

  lacks : ((i : ℕ) (f : tree.Function) → slice_get m.functions i ≡ Some f
      → is_named (body m) (codes "main") f.name ≡ false) → LacksMain (m ∷ [])
  lacks none zero x e d = by x (one_item (Some m) m x refl e) d
    where
      by : (x : Module) → m ≡ x → DeclaresMain x → ⊥
      by x same d =
          let f : tree.Function = d.function in
          let is : slice_get m.functions d.number ≡ Some f
          = ap (λ (y : Module). slice_get y.functions d.number) same ∙ d.is in
          let text : text_in m f.name ≡ codes "main" = ap (λ y. text_in y f.name) same ∙ d.main in
          let name = (all_at (ReadableFunction m.names) m.functions here.functions d.number f is).0
          in
          not_both (is_named (body m) (codes "main") f.name)
          (named_at (body m) f.name name.0 (codes "main") name.1 ∙
          (bytes_eq-Decides name.0 (codes "main")).1
          (sym (text_is m f.name name.0 name.1) ∙ text)) (none d.number f is)
  lacks none (suc i) x e d = none_is_some e

  no_name_rule : (k at : ℕ) → IsRuleOfNames k → program.Broken (body m) k at → ⊥
  no_name_rule k at (inl e) b = sound.own 0 m refl 58 at
      (AgainConstructor (subst (λ k. program.Broken (body m) k at) e b))
  no_name_rule k at (inr (inl e)) b = sound.own 0 m refl 58 at
      (AgainFunction (subst (λ k. program.Broken (body m) k at) e b))
  no_name_rule k at (inr (inr (inl e))) b = sound.between 57 0 at
      (UnknownName refl
      (subst (λ p. program.Broken p 14 at) (sym (seen_alone m no_imports))
      (subst (λ k. program.Broken (body m) k at) e b)))
  no_name_rule k at (inr (inr (inr (inl e)))) b = main (lacks (lacks_main (body m) k at b e))
  no_name_rule k at (inr (inr (inr (inr e)))) b = sound.own 0 m refl 22 at
      (ReservedName (subst (λ k. program.Broken (body m) k at) e b))

  body_unbroken : accepted.BreaksNoRule (body m)
  body_unbroken k at b =
      elim (no_other p (body m) (same.NoScope p (body m) turned own here)
      (same.OfBinder p (body m) turned own here) (same.OfCon p (body m) turned own here)
      (same.OfUse p (body m) turned own here) (same.OfFunction p (body m) turned own here) tt
      (same.go_together p (body m) turned own here) ok k at b) [
        | inl h ↦ no_name_rule k at h b
        | inr h ↦ h
      ]

  pub program_unbroken : accepted.BreaksNoRule c
  program_unbroken k at b =
      elim (no_other (body m) c (enter c.names m) (OfBinder c.names m) (OfCon c.names m)
      (OfUse c.names m) (OfFunction c.names m) []
      (alone.go_together m c u sound readable named no_imports) body_unbroken k at b) [
        | inl h ↦ unbroken (m ∷ []) c u sound readable main k at h b
        | inr h ↦ h
      ]

  pub program_printed : (q d : normal.Program) → IsNormalForm p q → IsNormalForm c d
      → (i : List ℕ) (n : ℕ) → printed d i n ≡ printed q i n
  program_printed q d is_q is_d i n =
      let r = some (body m) here body_unbroken in
      let B = OfBinder c.names m in
      let C = OfCon c.names m in
      let U = OfUse c.names m in
      let F = OfFunction c.names m in
      let Fits = alone.FitsSame m c u sound readable named no_imports in
      let there = carries (body m) c (enter c.names m) B C U F Fits []
      (alone.means_the_same m c u sound readable named no_imports) tt readable
      (alone.constructors m c u sound readable named no_imports)
      (alone.functions m c u sound readable named no_imports)
      (alone.con_same m c u sound readable named no_imports)
      (alone.main_same m c u sound readable named no_imports) r.0 r.1 in
      sym (carried_printed (body m) c (enter c.names m) B C U F Fits []
      (alone.means_the_same m c u sound readable named no_imports) tt readable one r.0 there d
      is_d i n)
      ∙ same_programs_print_the_same one (body m) p same_program here own r.0 q r.1 is_q i n

is_main : (w : List ℕ) → (w ≡ codes "Main" → ⊥) ⊎ (w ≡ codes "Main")
is_main w = elim (two_ways (bytes_eq w (codes "Main"))) [
  | inl y ↦ inr ((bytes_eq-Decides w (codes "Main")).0 y)
  | inr n ↦ inl
      (λ e. not_both (bytes_eq w (codes "Main")) ((bytes_eq-Decides w (codes "Main")).1 e) n)
]

-- the only module of texts that break no rule has the name that a program starts from
named_main : (m : Module) → (LacksMain (m ∷ []) → ⊥) → (name_of m ≡ codes "Main" → ⊥)
    ⊎ (name_of m ≡ codes "Main") → name_of m ≡ codes "Main"
named_main m main (inr e) = e
named_main m main (inl n) = absurd (main lacks_it)
  where
    lacks_it : LacksMain (m ∷ [])
    lacks_it zero x e d = n (ap name_of (one_item (Some m) m x refl e) ∙ d.named)
    lacks_it (suc i) x e d = none_is_some e

pub one_module_keeps : NormalFormIsUnique → NormalFormExists → SingleModuleKeepsMeaning
one_module_keeps one some text m c broken is no_imports linked readable
    = (each_has_program text m read is, keeps)
  where
    read : BreaksNoReadingRule text
    read k at b = broken Reading k 0 at (InFile refl (Unread b))

    keeps : (rest : List ℕ) (p : Program) → SplitsAtHeader text rest m → IsText rest p
        → KeepsMeaning p c
    keeps rest p split stands ok =
        let ms : linked.modules ≡ m ∷ [] = only_module text m linked.modules is linked.read in
        let z : AllZip IsModuleText (text ∷ []) (m ∷ []) = (is, tt) in
        let u : IsUnion (m ∷ []) c = subst (λ ms. IsUnion ms c) ms linked.union in
        let sound = sound_of (text ∷ []) (m ∷ []) broken z in
        let main : LacksMain (m ∷ []) → ⊥ = λ l. broken Main 59 0 0 (NoMainModule (m ∷ []) z l) in
        let named = named_main m main (is_main (name_of m)) in
        let same_program = same_behind text rest m p is split stands in
        let own = readable_behind text m read rest p split stands in (
          program_unbroken one some m p c u sound main named no_imports same_program own ok
              readable,
          program_printed one some m p c u sound main named no_imports same_program own ok readable,
        )
