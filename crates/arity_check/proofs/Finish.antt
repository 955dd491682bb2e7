-- From the rules to the normal form of a whole program.
use Rattle.std.proofs.Common.{◌≡◌, ℕ, zero, suc, ◌+◌, ◌<◌, Bool, true, false, List, [], ◌∷◌, ◌++◌, map, length, get_or, refl, sym, ap, ◌∙◌, subst, arith, Some, None}
use Rattle.std.specs.Prelude.{slice_get, codes, cond}
use Rattle.std.specs.List.{All, position, position_from}
use Rattle.std.proofs.lemmas.Iterator.Adapters.{position_from-zero}
use Rattle.core_reader.specs.declared.syntax.Function as code-function
use Rattle.core_reader.specs.Tree as tree
use Rattle.core_reader.specs.Tree.{Program, function}
use Rattle.core_reader.specs.Readable.{IsTextAt}
use Rattle.arity_check.specs.declared.refusal.CheckRefusal.{CheckRefusal}
use Rattle.arity_check.specs.declared.refusal.CheckRefusal.TheVariants as refusal
use Rattle.arity_check.specs.Scope.{is_named}
use Rattle.arity_check.specs.Known.{Known}
use Rattle.arity_check.specs.Refusal.{rule, number}
use Rattle.arity_check.specs.Broken as broken
use Rattle.arity_check.specs.Whole.{known_of, main_kind, main_at, cons_faults, header_faults, body_faults, functions_faults, program_faults}
use Rattle.arity_check.specs.Faults.{with_member}
use Rattle.arity_check.specs.Accepted.{BreaksNoRule, IsFirstBroken}
use Rattle.arity_check.specs.First.{IsCause}
use Rattle.arity_check.specs.Normal.{Pairwise}
use Rattle.seq.specs.Lists.{In, here}
use Rattle.seq.proofs.Lists.{get_within}
use Rattle.arity_check.proofs.Names.{main_named}
use Rattle.arity_check.proofs.NoFaults.{no_front, no_back}
use Rattle.arity_check.proofs.Soundness.{sound}

pub pairwise_snoc : {X Y : Type 0} (R : X → Y → Type 0) (xs : List X) (ys : List Y) (x : X) (y : Y)
    → Pairwise R xs ys → R x y → Pairwise R (xs ++ x ∷ []) (ys ++ y ∷ [])
pairwise_snoc R [] [] x y h r = (r, tt)
pairwise_snoc R [] (b ∷ bs) x y h r = elim h [ ]
pairwise_snoc R (a ∷ as') [] x y h r = elim h [ ]
pairwise_snoc R (a ∷ as') (b ∷ bs) x y h r = (h.0, pairwise_snoc R as' bs x y h.1 r)

-- what holds of each image holds of that of an item
pub all_at : {X Y : Type 0} (P : Y → Type 0) (f : X → Y) (items : List X) (i : ℕ) (x : X)
    → All P (map f items) → i < length items → x ≡ get_or items i x → P (f x)
all_at P f [] i x h l is = absurd (omega (arith, l))
all_at P f (y ∷ ys) zero x h l is = subst (λ z. P (f z)) (sym is) (h 0 (f y) (omega arith))
all_at P f (y ∷ ys) (suc i) x h l is = all_at P f ys i x (λ k d m. h (suc k) d (omega (arith, m)))
    (omega (arith, l)) is

-- the number of a name is a place among the names
pub text_within : (names : List (List ℕ)) (Kind : List ℕ → Type 0) (n : ℕ) → IsTextAt names Kind n
    → n < length names
text_within names Kind n w = get_within names n w.0 w.1

-- ---- where no rule is broken

nothing_in : (rs : List CheckRefusal) → ((r : CheckRefusal) → In r rs → ⊥) → rs ≡ []
nothing_in [] h = refl
nothing_in (r ∷ rs) h = absurd (h r here)

pub no_faults : (p : Program) → BreaksNoRule p → program_faults p ≡ []
no_faults p u = nothing_in (program_faults p) (λ r i. u (rule r) (number r) (sound p r i))

pub functions_sound : (p : Program) (k : Known) → k ≡ known_of p → BreaksNoRule p
    → functions_faults k [] 0 (λ x. false) p.functions ≡ []
functions_sound p k e u =
    ap (λ k. functions_faults k [] 0 (λ x. false) p.functions) e
    ∙ no_front (functions_faults (known_of p) [] 0 (λ x. false) p.functions) _
    (no_back (cons_faults (known_of p) 0 (λ x. false) p.constructors) _ (no_faults p u))

pub function_sound : (k : Known) (n : ℕ) (seen : ℕ → Bool) (items : List code-function.Function)
    (i : ℕ) (x : code-function.Function) → i < length items → x ≡ get_or items i x
    → functions_faults k [] n seen (map function items) ≡ [] → body_faults k [] (function x) ≡ []
function_sound k n seen [] i x l is e = absurd (omega (arith, l))
function_sound k n seen (y ∷ ys) zero x l is e =
    ap (λ (f : code-function.Function). body_faults k [] (function f)) is
    ∙ no_back (header_faults k n seen (function y)) (body_faults k [] (function y))
    (no_front (header_faults k n seen (function y) ++ body_faults k [] (function y)) _ e)
function_sound k n seen (y ∷ ys) (suc i) x l is e =
    function_sound k (n + 1) (with_member y.name.0 seen) ys i x (omega (arith, l)) is
    (no_back (header_faults k n seen (function y) ++ body_faults k [] (function y)) _ e)

-- ---- `main`

none_from : {X : Type 0} (test : X → Bool) (n : ℕ) (xs : List X) → position_from test n xs ≡ None
    → (i : ℕ) (x : X) → slice_get xs i ≡ Some x → test x ≡ false
none_from test n [] e i x is = absurd cc
none_from {X} test n (y ∷ ys) e i x is = go (test y) refl e i is (none_from test (n + 1) ys)
  where
    go : (b : Bool) → test y ≡ b → cond b (Some n) (position_from test (n + 1) ys) ≡ None → (i : ℕ)
        → slice_get (y ∷ ys) i ≡ Some x
        → (position_from test (n + 1) ys ≡ None → (i : ℕ) (x : X) → slice_get ys i ≡ Some x
        → test x ≡ false) → test x ≡ false
    go true h e i is rest = absurd cc
    go false h e zero is rest = let s : y ≡ x = cc in ap test (sym s) ∙ h
    go false h e (suc i) is rest = rest e i x is

pub main_there : (p : Program) (k : Known) → k ≡ known_of p → BreaksNoRule p
    → main_at k p.functions ≡ None → ⊥
main_there p k e u none =
    let at : main_at (known_of p) p.functions ≡ None
    = ap (λ k. main_at k p.functions) (sym e) ∙ none in
    u 19 0 (broken.NoMain
    (λ i f is. sym (main_named p f.name) ∙ none_from
    (λ (f : tree.Function). main_kind ((known_of p).kind f.name)) 0 p.functions at i f is))

pub main_is : (p : Program) (k : Known) (n : ℕ) → k ≡ known_of p → main_at k p.functions ≡ Some n
    → position (λ f. is_named p (codes "main") f.name) p.functions ≡ Some n
main_is p k n e at =
    position_from-zero (λ (f : tree.Function). is_named p (codes "main") f.name) p.functions
    ∙ sym (λ i. position_from (λ (f : tree.Function). main_named p f.name i) 0 p.functions) ∙ ap
    (λ k. main_at k p.functions) (sym e) ∙ at

-- a refusal that was met is no want of memory
pub is_cause : (p : Program) (r : CheckRefusal) → IsFirstBroken p (rule r) (number r) → IsCause p r
is_cause p (refusal.Memory e) h = tt
is_cause p (refusal.DuplicateConstructor at) h = h
is_cause p (refusal.DuplicateFunction at) h = h
is_cause p (refusal.DuplicateName at) h = h
is_cause p (refusal.UnknownName at) h = h
is_cause p (refusal.ConstructorArity at) h = h
is_cause p (refusal.DefaultNotLast at) h = h
is_cause p (refusal.DuplicateAlternative at) h = h
is_cause p (refusal.MixedAlternatives at) h = h
is_cause p (refusal.ReservedName at) h = h
is_cause p (refusal.PrimitiveArity at) h = h
is_cause p refusal.NoMain h = h
is_cause p (refusal.MainHasParameters at) h = h
is_cause p refusal.NoListConstructors h = h
is_cause p (refusal.TooManyFunctions at) h = h
is_cause p (refusal.TooManyConstructors at) h = h
is_cause p (refusal.TooManyParameters at) h = h
is_cause p (refusal.TooManyFields at) h = h
is_cause p (refusal.CoreTooLarge size) h = h
