-- A relation that an evaluator answers has one answer, and what it derives is what is printed.
use Rattle.std.proofs.Common.{◌≡◌, ◌≢◌, ℕ, ◌+◌, List, refl, ap, sym, ◌∙◌, subst, arith}
use Rattle.headline.specs.Carries.{IsPrefixOf}
use Rattle.core_meaning.specs.Heap.{ValueOf}
use Rattle.core_meaning.specs.Forcing.{StateOf, AnswerOf, Gives, NoAlternative, OutOfBound, PrintingEnd, Done, Unaccepted, Going, PrintedRun}
use Rattle.natural_semantics.specs.World.{WorldOf}
use Rattle.natural_semantics.specs.any.Moves.{Moves, ProgramOf, printed}
use Rattle.natural_semantics.specs.any.Natural.{Yields}
use Rattle.natural_semantics.specs.any.Stuck.{YieldSticks}
use Rattle.natural_semantics.specs.any.Prints.{Prints, Behind, AtNil, NoList', ListSticks, Puts, NoByte', ByteSticks, ProgramPrints, OfItself, OfInput}
use Rattle.natural_semantics.specs.any.Laws.{SaysWhatRunsDo}
use Rattle.natural_semantics.proofs.any.Sound.{world}
use Rattle.natural_semantics.proofs.any.Complete.{yields_found}
use Rattle.natural_semantics.proofs.any.Sticking.{yield_sticks}
use Rattle.natural_semantics.proofs.any.Printed.{run_is_derived}
use Rattle.natural_semantics.proofs.any.Enough.{Shows, program_shown}
use Rattle.natural_semantics.proofs.any.Parts.{parts_agree}

abbrev value_or : {F : Type 0} → ValueOf F → AnswerOf F → ValueOf F
value_or u (Gives v s) = v
value_or u (NoAlternative s) = u
value_or u (OutOfBound s) = u

abbrev state_of : {F : Type 0} → AnswerOf F → StateOf F
state_of (Gives v s) = s
state_of (NoAlternative s) = s
state_of (OutOfBound s) = s

-- the state of a world with these units
abbrev with_units : {F : Type 0} → WorldOf F → ℕ → StateOf F
with_units w n = record { heap = w.heap; left = n; depth = 0; input = w.input; used = 0 }

pub one_value : {F : Type 0} (p : ProgramOf F) (w w' w'' : WorldOf F) (m : Moves F)
    (u v : ValueOf F)
    → Yields p w m u w' → Yields p w m v w'' → (u ≡ v) × (w' ≡ w'')
one_value {F = F} p w w' w'' moves u v a b =
    let m = yields_found p w w' moves u a in
    let n = yields_found p w w'' moves v b in
    let s : StateOf F = with_units w (m.units + n.units) in
    let f = m.finds (m.units + n.units) 0 s refl (omega arith) (omega arith) in
    let g = n.finds (m.units + n.units) 0 s refl (omega arith) (omega arith) in
    let same = sym f.is ∙ g.is in
    (ap (value_or u) same, sym f.there ∙ ap (λ x. world (state_of x)) same ∙ g.there)

pub never_both : {F : Type 0} (p : ProgramOf F) (w w' : WorldOf F) (m : Moves F) (v : ValueOf F)
    → Yields p w m v w' → YieldSticks p w m → ⊥
never_both {F = F} p w w' moves v a b =
    let m = yields_found p w w' moves v a in
    let n = yield_sticks p w moves b in
    let s : StateOf F = with_units w (m.units + n.units) in
    let f = m.finds (m.units + n.units) 0 s refl (omega arith) (omega arith) in
    let g = n.sticks (m.units + n.units) 0 s refl (omega arith) (omega arith) in
    let same = sym f.is ∙ g.is in
    cc

same_shown : (out out' : List ℕ) (end end' : PrintingEnd) (r : PrintedRun) → end ≢ Going
    → end' ≢ Going
    → Shows end out r → Shows end' out' r → (out ≡ out') × (end ≡ end')
same_shown out out' Done Done r h h' a b = (sym a.0 ∙ b.0, refl)
same_shown out out' Unaccepted Unaccepted r h h' a b = (sym a.0 ∙ b.0, refl)
same_shown out out' Done Unaccepted r h h' a b = (sym a.0 ∙ b.0, sym a.1 ∙ b.1)
same_shown out out' Unaccepted Done r h h' a b = (sym a.0 ∙ b.0, sym a.1 ∙ b.1)
same_shown out out' Going end' r h h' a b = absurd (h refl)
same_shown out out' Done Going r h h' a b = absurd (h' refl)
same_shown out out' Unaccepted Going r h h' a b = absurd (h' refl)

pub one_output : {F : Type 0} (p : ProgramOf F) (i out out' : List ℕ) (end end' : PrintingEnd)
    → end ≢ Going
    → end' ≢ Going
    → ProgramPrints p i out end → ProgramPrints p i out' end' → (out ≡ out') × (end ≡ end')
one_output p i out out' end end' h h' a b =
    let m = program_shown p i out end a in
    let n = program_shown p i out' end' b in
    same_shown out out' end end' (printed p i (m.units + n.units)) h h'
    (m.shown (m.units + n.units) (omega arith))
    (n.shown (m.units + n.units) (omega arith))

pub met : {F : Type 0} (p : ProgramOf F) (i out : List ℕ) (end : PrintingEnd) → end ≢ Going
    → ProgramPrints p i out end
    → (n : ℕ) × ((printed p i n).out ≡ out) × ((printed p i n).end ≡ end)
met p i out Done h d =
    let m = program_shown p i out Done d in
    let s = m.shown m.units (omega arith) in
    (m.units, s.0, s.1)
met p i out Unaccepted h d =
    let m = program_shown p i out Unaccepted d in
    let s = m.shown m.units (omega arith) in
    (m.units, s.0, s.1)
met p i out Going h d = absurd (h refl)

-- what has ended could also go on, as far as is said
list_goes_on : {F : Type 0} (p : ProgramOf F) (w : WorldOf F) (a : ℕ) (out : List ℕ)
    (end : PrintingEnd)
    → Prints p w a out end → Prints p w a out Going
list_goes_on p w a out end Behind = Behind
list_goes_on p w a out end (AtNil f) = Behind
list_goes_on p w a out end (NoList' f x) = Behind
list_goes_on p w a out end (ListSticks x) = Behind
list_goes_on p w a out end (Puts f g rest) = Puts f g (list_goes_on p _ _ _ end rest)
list_goes_on p w a out end (NoByte' f g x) = Behind
list_goes_on p w a out end (ByteSticks f x) = Behind

pub goes_on : {F : Type 0} (p : ProgramOf F) (i out : List ℕ) (end : PrintingEnd)
    → ProgramPrints p i out end
    → ProgramPrints p i out Going
goes_on p i out end (OfItself e d) = OfItself e (list_goes_on p _ _ out end d)
goes_on p i out end (OfInput h d) = OfInput h (list_goes_on p _ _ out end d)

pub begun : {F : Type 0} (p : ProgramOf F) (i out : List ℕ) → ProgramPrints p i out Going → (n : ℕ)
    × IsPrefixOf out (printed p i n).out
begun p i out d = let m = program_shown p i out Going d in (m.units, m.shown m.units (omega arith))

-- an end is one that goes on, or isn't
pub going_unless_derived : {F : Type 0} (p : ProgramOf F) (i : List ℕ) (n : ℕ)
    → ProgramPrints p i (printed p i n).out (printed p i n).end
    → ((out : List ℕ) (end : PrintingEnd) → end ≢ Going → ProgramPrints p i out end → ⊥)
    → (printed p i n).end ≡ Going
going_unless_derived p i n d h = go (printed p i n).end refl
  where
    go : (e : PrintingEnd) → (printed p i n).end ≡ e → e ≡ Going
    go Going q = refl
    go Done q = absurd
        (h (printed p i n).out (printed p i n).end (λ z. let w : Done ≡ Going = sym q ∙ z in cc) d)
    go Unaccepted q = absurd
        (h (printed p i n).out (printed p i n).end
        (λ z. let w : Unaccepted ≡ Going = sym q ∙ z in cc) d)

pub says_what_runs_do : {F : Type 0} (p : ProgramOf F) → SaysWhatRunsDo p (printed p)
says_what_runs_do p = record {
  one_value = one_value p;
  never_both = never_both p;
  one_output = one_output p;
  parts = parts_agree p;
  ends = λ i out end h. (
    λ t. subst (λ o. ProgramPrints p i o end) t.1
        (subst (λ e. ProgramPrints p i (printed p i t.0).out e) t.2 (run_is_derived p i t.0)),
    met p i out end h,
  );
  derived = λ i n. goes_on p i _ _ (run_is_derived p i n);
  met = begun p;
  goes_on = λ i. (
    λ all out end h d. let m = met p i out end h d in h (sym m.2 ∙ all m.0),
    λ none n. going_unless_derived p i n (run_is_derived p i n) none,
  );
}
