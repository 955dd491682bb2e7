-- Trees become expressions, part by part.
use Rattle.std.proofs.Common.{◌≡◌, ℕ, ◌+◌, ◌-◌, ◌<◌, Bool, List, [], ◌∷◌, ◌++◌, map, length, drop, get_or, refl, sym, ap, ◌∙◌, append_assoc, Option, Some, None}
use Rattle.std.proofs.lemmas.List.{drop_more, map-append}
use Rattle.seq.specs.Lists.{numbers_from}
use Rattle.match_compile.specs.Decisions.{Decision}
use Rattle.core_reader.specs.declared.syntax.Binder.{Binder}
use Rattle.core_reader.specs.declared.syntax.Alt.{Alt}
use Rattle.core_reader.specs.declared.syntax.NameId.{NameId}
use Rattle.core_reader.specs.declared.syntax.Atom.{Atom}
use Rattle.core_reader.specs.declared.syntax.Atom.TheVariants as atom
use Rattle.core_reader.specs.declared.syntax.Expr.TheVariants as code-variant
use Rattle.core_reader.specs.Tree.{Expr, expr, Function, AndTerm, term, terms_of, Alts, alternative, alts_of}
use Rattle.core_reader.specs.Tree as core
use Rattle.core_reader.proofs.TreeOf.{application_of, term_of-Name, alternative_of, expr_of-App, expr_of-Case}
use Rattle.arity_check.specs.Scope.{Scope}
use Rattle.arity_check.proofs.Counts.{left_append}
use Rattle.match_compile.specs.declared.tree.Branch.{Branch}
use Rattle.match_compile.specs.Trees.{Tree, Branches, NoBranch}
use Rattle.match_compile.specs.Translated.{Words, taken, with_fields, name_or, stays, binders, pattern_of, otherwise, arguments, expr_of, call, is_called, param_stays, with_params, function_of}
use Rattle.match_compile.specs.Translated as translated
use Rattle.match_compile.specs.TreeOf.{tree_of, branch_of, branches_of}
use Rattle.match_compile.specs.EmissionOf.{put_before, alternatives, named, taken_one, called_by, places_of}
use Rattle.match_compile.proofs.TreesOf.{tree_of-Body, tree_of-Tests, tree_of-Otherwise, branch_is}

pub arguments_are : (w : Words) (at : ℕ) (bs : List Binder)
    → arguments w at bs ≡ terms_of (map (named at) bs)
arguments_are w at [] = refl
arguments_are w at (b ∷ bs) = ap (λ ts. AndTerm (named at b) ts) (arguments_are w at bs)

-- a name with names as arguments
pub applied : (w : Words) (at : ℕ) (x : NameId) (args : List Atom) (bs : List Binder)
    → map term args ≡ map (named at) bs → expr
    (code-variant.App (record { head = atom.Name x at; args = args })) ≡ core.App
    (record { head = core.Name x.0 at; args = arguments w at bs })
applied w at x args bs h =
    expr_of-App (record { head = atom.Name x at; args = args })
    ∙ ap core.App (application_of (record { head = atom.Name x at; args = args }))
    ∙ (λ i. core.App
    (record {
      head = term_of-Name x at i;
      args = (ap terms_of h ∙ sym (arguments_are w at bs))
          i;
    }))

pub case_is : (e f : Expr) (xs ys : Alts) → e ≡ f → xs ≡ ys → core.Case e xs ≡ core.Case f ys
case_is e f xs ys g h = λ i. core.Case (g i) (h i)

pub ruleset trees = (
  tree_of-Body,
  tree_of-Tests,
  tree_of-Otherwise,
  branch_is,
  application_of,
  term_of-Name,
  alternative_of,
  expr_of-App,
  expr_of-Case,
  arguments_are,
)

-- ---- what an equation has bound

pub takes_one : (w : Words) (places : Scope) (bound : List (Binder × ℕ)) (n : ℕ) (b : Binder × ℕ)
    (s t : Scope) → n < length bound → b ≡ get_or bound n b
    → s ≡ taken w places (drop (n + 1) bound) → t ≡ taken_one w places b.0.name.0 b.1 s
    → t ≡ taken w places (drop n bound)
takes_one w places bound n b s t l is e f =
    f ∙ ap (λ s. taken_one w places b.0.name.0 b.1 s) e ∙ sym
    (ap (taken w places) (drop_more bound n b l ∙ ap (λ b. b ∷ drop (n + 1) bound) (sym is)))

-- ---- alternatives

pub put_more : (alts : List (Alts → Alts)) (a : Alts → Alts) (others : Alts)
    → put_before (alts ++ a ∷ []) others ≡ put_before alts (a others)
put_more [] a others = refl
put_more (b ∷ alts) a others = ap b (put_more alts a others)

put_all : (alts more : List Alt) → alternatives (alts ++ more) ≡ put_before (map alternative alts)
    (alternatives more)
put_all [] more = refl
put_all (a ∷ alts) more = ap (alternative a) (put_all alts more)

module _ (w : Words) (at params : ℕ) (rest : Alts) where
  abbrev pub alts_for : Scope → Branches → Alts → Alts
  alts_for s bs others = translated.alts_of w at params rest s bs others

  alts_more : (s : Scope) (bs : List Branch) (b : Branch) (others : Alts)
      → alts_for s (branches_of (bs ++ b ∷ [])) others ≡ alts_for s (branches_of bs)
      (alts_for s (branch_of b NoBranch) others)
  alts_more s [] b others = refl
  alts_more s (d ∷ bs) b others =
      ap (λ x. alts_for s x others) (branch_is d (branches_of (bs ++ b ∷ [])))
      ∙ ap (λ others. core.AndAlt
      (pattern_of w at params d.head
      (binders w at params (with_fields w at params (tree_of d.tree.value) d.places s)
      d.places))
      (expr_of w at params rest (with_fields w at params (tree_of d.tree.value) d.places s)
      (tree_of d.tree.value)) others) (alts_more s bs b others)
      ∙ sym (ap (λ x. alts_for s x (alts_for s (branch_of b NoBranch) others))
      (branch_is d (branches_of bs)))

  -- one more branch has become an alternative
  pub one_more : (s t : Scope) (bs : List Branch) (b : Branch) (made more : List Alt) (a : Alt)
      → t ≡ s →
      ((others : Alts) → put_before (map alternative made) others ≡ alts_for s (branches_of bs)
      others) → ((others : Alts) → alternative a others ≡ alts_for t (branch_of b NoBranch) others)
      → more ≡ made ++ a ∷ []
      → (others : Alts) → put_before (map alternative more) others ≡ alts_for s
      (branches_of (bs ++ b ∷ [])) others
  one_more s t bs b made more a same h g put others =
      ap (λ alts. put_before (map alternative alts) others) put
      ∙ ap (λ alts. put_before alts others) (map-append alternative made (a ∷ []))
      ∙ put_more (map alternative made) (alternative a) others
      ∙ ap (put_before (map alternative made))
      (g others ∙ ap (λ t. alts_for t (branch_of b NoBranch) others) same)
      ∙ h (alts_for s (branch_of b NoBranch) others)
      ∙ sym (alts_more s bs b others)

  -- the alternatives of branches, and those for other values
  pub then_others : (s : Scope) (bs : List Branch) (made more all : List Alt) (others : Alts)
      → ((others : Alts) → put_before (map alternative made) others ≡ alts_for s (branches_of bs)
      others) → alternatives more ≡ others → all ≡ made ++ more
      → alternatives all ≡ alts_for s (branches_of bs) others
  then_others s bs made more all others h e is = ap alternatives is ∙ put_all made more ∙ ap
      (put_before (map alternative made)) e ∙ h others

  -- ---- the names of fields

  fields_append : (t : Tree) (ps : List ℕ) (s : Scope) → (added : Scope)
      × (with_fields w at params t ps s ≡ added ++ s)
  fields_append t [] s = ([], refl)
  fields_append t (p ∷ ps) s =
      let first : ℕ × ℕ = (p, name_or w at params (stays p t) p) in
      let more = fields_append t ps (first ∷ s) in
      (more.0 ++ (first ∷ []), more.1 ∙ sym (append_assoc more.0 (first ∷ []) s))

  pub leaves : (t : Tree) (ps : List ℕ) (s inner u v : Scope) (n : ℕ) → n ≡ length s
      → inner ≡ with_fields w at params t ps s → u ≡ inner → v ≡ drop (length u - n) u → v ≡ s
  leaves t ps s inner u v n len e f g =
      let added = fields_append t ps s in
      let is : u ≡ added.0 ++ s = f ∙ e ∙ added.1 in
      g ∙ (λ i. drop (length (is i) - len i) (is i)) ∙ left_append added.0 s

-- ---- functions

called_is : (w : Words) (d : Decision) (next : Option ℕ)
    → called_by d.tree next ≡ is_called w d next
called_is w d None = refl
called_is w d (Some f) = refl

places_are : (w : Words) (called : Bool) (d : Decision) (ps : List ℕ) (s : Scope)
    → places_of w d.at d.params called d.tree ps s ≡ with_params w called d ps s
places_are w called d [] s = refl
places_are w called d (p ∷ ps) s = places_are w called d ps
    ((p, name_or w d.at d.params (param_stays w called (stays p d.tree)) p) ∷ s)

pub function_is : (w : Words) (x : ℕ) (d : Decision) (next : Option ℕ) (columns : List ℕ)
    (places : Scope) (params : List Binder) (body : Expr) (called : Bool)
    → columns ≡ numbers_from 0 d.params → called ≡ called_by d.tree next
    → places ≡ places_of w d.at d.params called d.tree columns []
    → params ≡ binders w d.at d.params places columns
    → body ≡ expr_of w d.at d.params (call w d.at next params) places d.tree
    → ◌≡◌ {A = Function} (record { name = x; at = d.at; params = params; body = body })
    (function_of w x d next)
function_is w x d next columns places params body called c b s p e =
    let scope : places ≡ with_params w (is_called w d next) d (numbers_from 0 d.params) [] =
    s ∙ (λ i. places_of w d.at d.params (b i) d.tree (c i) []) ∙ ap
    (λ b. places_of w d.at d.params b d.tree (numbers_from 0 d.params) []) (called_is w d next)
    ∙ places_are w (is_called w d next) d (numbers_from 0 d.params) [] in
    let names : params ≡ binders w d.at d.params
    (with_params w (is_called w d next) d (numbers_from 0 d.params) [])
    (numbers_from 0 d.params) = p ∙ (λ i. binders w d.at d.params (scope i) (c i)) in
    (λ i. record { name = x; at = d.at; params = params; body = e i })
    ∙ (λ i. record {
      name = x;
      at = d.at;
      params = names i;
      body
          = expr_of w d.at d.params (call w d.at next (names i)) (scope i) d.tree;
    })
