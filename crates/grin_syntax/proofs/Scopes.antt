-- What is well formed stays so in a program with other procedures, as many, and where more is in
-- scope.
use Rattle.std.proofs.Common.{◌≡◌, ℕ, zero, suc, ◌+◌, ◌<◌, ◌≤◌, nat_eq, List, [], ◌∷◌, ◌++◌, map, length, Option, Some, None, slice_get, sym, subst, arith}
use Rattle.grin_syntax.specs.declared.program.VarId.{VarId}
use Rattle.grin_syntax.specs.declared.program.ProcId.{ProcId}
use Rattle.grin_syntax.specs.declared.program.Tag.{Tag}
use Rattle.grin_syntax.specs.declared.program.TagKind.{TagKind}
use Rattle.grin_syntax.specs.declared.program.TagKind.TheVariants as kind
use Rattle.grin_syntax.specs.declared.program.Word as W
use Rattle.grin_syntax.specs.declared.program.Word.TheVariants.{Lit, Var, Global, TagWord}
use Rattle.grin_syntax.specs.declared.program.Val as V
use Rattle.grin_syntax.specs.declared.program.Val.TheVariants.{NodeVar, Node, Vector, One}
use Rattle.grin_syntax.specs.declared.program.Target.{Target}
use Rattle.grin_syntax.specs.declared.program.Target.TheVariants as to
use Rattle.grin_syntax.specs.declared.program.Shape.{Shape}
use Rattle.grin_syntax.specs.declared.program.Shape.TheVariants as shape
use Rattle.grin_syntax.specs.declared.program.Cell.{Cell}
use Rattle.grin_syntax.specs.Tree.{Procedure, Program}
use Rattle.grin_syntax.specs.Binders.{numbers_of, procs_vars, procs_sites, program_sites}
use Rattle.grin_syntax.specs.Formed.{AllOf, Scope, InScope, with_word_variables, with_target, ProcKnown, HasProcedure, KnownIfAny, HasNext, KindFormed, TagFormed, WordFormed, ValFormed, CellFormed, ShapeFormed, ProcedureFormed, Formed, argument_words}
use Rattle.seq.specs.Lists.{times}
use Rattle.seq.proofs.Counted.{counts, times_append, one_at}

-- each number stands in the second list at least as often
pub record Fewer (xs ys : List ℕ) : Type 0 where
  pub by : (y : ℕ) → times y xs ≤ times y ys

pub fewer_left : (xs ys : List ℕ) → Fewer xs (xs ++ ys)
fewer_left xs ys = record { by = λ y. go y (times_append y xs ys) }
  where
    go : (y : ℕ) → times y (xs ++ ys) ≡ times y xs + times y ys → times y xs ≤ times y (xs ++ ys)
    go y e = omega arith

fewer_right : (xs ys : List ℕ) → Fewer ys (xs ++ ys)
fewer_right xs ys = record { by = λ y. go y (times_append y xs ys) }
  where
    go : (y : ℕ) → times y (xs ++ ys) ≡ times y xs + times y ys → times y ys ≤ times y (xs ++ ys)
    go y e = omega arith

fewer_self : (xs : List ℕ) → Fewer xs xs
fewer_self xs = record { by = λ y. omega arith }

fewer_chain : {xs ys zs : List ℕ} → Fewer xs ys → Fewer ys zs → Fewer xs zs
fewer_chain {xs = xs} {ys = ys} {zs = zs} u v = record { by = λ y. go y (u.by y) (v.by y) }
  where
    go : (y : ℕ) → times y xs ≤ times y ys → times y ys ≤ times y zs → times y xs ≤ times y zs
    go y h k = omega arith

fewer_both : (xs ys zs : List ℕ) → Fewer ys zs → Fewer (xs ++ ys) (xs ++ zs)
fewer_both xs ys zs w = record
    { by = λ y. go y (w.by y) (times_append y xs ys) (times_append y xs zs) }
  where
    go : (y : ℕ) → times y ys ≤ times y zs → times y (xs ++ ys) ≡ times y xs + times y ys
        → times y (xs ++ zs) ≡ times y xs + times y zs → times y (xs ++ ys) ≤ times y (xs ++ zs)
    go y h e f = omega arith

pub still_in : (xs ys : List ℕ) (x : ℕ) → Fewer xs ys → InScope xs x → InScope ys x
still_in xs ys x w h = let k : times x xs ≤ times x ys = w.by x in omega arith

pub first_in : (x : ℕ) (xs : List ℕ) → InScope (x ∷ xs) x
first_in x xs = let e : counts (nat_eq x x) ≡ 1 = one_at x in omega arith

-- what is in scope in the first is so in the second
pub record Within (scope scope' : Scope) : Type 0 where
  pub nodes : Fewer scope.nodes scope'.nodes
  pub words : Fewer scope.words scope'.words

pub within_self : (scope : Scope) → Within scope scope
within_self scope = record { nodes = fewer_self scope.nodes; words = fewer_self scope.words }

pub within_chain : {s t u : Scope} → Within s t → Within t u → Within s u
within_chain v w = record
    { nodes = fewer_chain v.nodes w.nodes; words = fewer_chain v.words w.words }

pub within_words : (xs : List ℕ) (scope : Scope) → Within scope (with_word_variables xs scope)
within_words xs scope = record
    { nodes = fewer_self scope.nodes; words = fewer_right xs scope.words }

pub within_target : (t : Target) (scope : Scope) → Within scope (with_target t scope)
within_target to.Nothing scope = within_self scope
within_target (to.Node x) scope = record
    { nodes = fewer_right (x.0 ∷ []) scope.nodes; words = fewer_self scope.words }
within_target (to.One x) scope = within_words (x.0 ∷ []) scope
within_target (to.Vector xs) scope = within_words (numbers_of xs) scope

pub words_within : (xs : List ℕ) (scope scope' : Scope) → Within scope scope'
    → Within (with_word_variables xs scope) (with_word_variables xs scope')
words_within xs scope scope' w = record
    { nodes = w.nodes; words = fewer_both xs scope.words scope'.words w.words }

pub target_within : (t : Target) (scope scope' : Scope) → Within scope scope'
    → Within (with_target t scope) (with_target t scope')
target_within to.Nothing scope scope' w = w
target_within (to.Node x) scope scope' w = record
    { nodes = fewer_both (x.0 ∷ []) scope.nodes scope'.nodes w.nodes; words = w.words }
target_within (to.One x) scope scope' w = words_within (x.0 ∷ []) scope scope' w
target_within (to.Vector xs) scope scope' w = words_within (numbers_of xs) scope scope' w

module _ (p : Program) (procs : List Procedure) (same_count : length procs ≡ length p.procs) where
  abbrev pub with_procs : Program
  with_procs = record p { procs = procs }

  pub known_again : (f : ProcId) → ProcKnown p f → ProcKnown with_procs f
  known_again f h = subst (λ n. f.0 < n) (sym same_count) h

  module _ (scope scope' : Scope) (w : Within scope scope') where
    pub word_stays : (a : W.Word) → WordFormed p scope a → WordFormed with_procs scope' a
    word_stays (Lit k) h = tt
    word_stays (Var x) h = still_in scope.words scope'.words x.0 w.words h
    word_stays (Global i) h = h
    word_stays (TagWord t) h = h

    pub words_stay : (ws : List W.Word) → AllOf (WordFormed p scope) ws
        → AllOf (WordFormed with_procs scope') ws
    words_stay [] h = tt
    words_stay (a ∷ ws) h = (word_stays a h.0, words_stay ws h.1)

    pub val_stays : (v : V.Val) → ValFormed p scope v → ValFormed with_procs scope' v
    val_stays (NodeVar x) h = still_in scope.nodes scope'.nodes x.0 w.nodes h
    val_stays (Node t ws) h = (h.0, words_stay ws h.1)
    val_stays (Vector ws) h = words_stay ws h
    val_stays (One a) h = word_stays a h

    pub cells_stay : (cs : List Cell) → AllOf (CellFormed p scope) cs
        → AllOf (CellFormed with_procs scope') cs
    cells_stay [] h = tt
    cells_stay (c ∷ cs) h = (val_stays c.val h.0, cells_stay cs h.1)

  pub shape_stays : (s : Shape) → ShapeFormed p s → ShapeFormed with_procs s
  shape_stays (shape.Node t xs) h = h
  shape_stays (shape.Int k) h = tt
  shape_stays shape.Else h = tt

  -- variables that stand for words in scope
  pub vars_formed : (xs : List VarId) (scope : Scope) → Fewer (numbers_of xs) scope.words
      → AllOf (WordFormed with_procs scope) (map Var xs)
  vars_formed [] scope w = tt
  vars_formed (x ∷ xs) scope w = (
    still_in (numbers_of (x ∷ xs)) scope.words x.0 w (first_in x.0 (numbers_of xs)),
    vars_formed xs scope (record { by = λ y. go y (w.by y) }),
  )
    where
      go : (y : ℕ) → times y (numbers_of (x ∷ xs)) ≤ times y scope.words
          → times y (numbers_of xs) ≤ times y scope.words
      go y h = omega arith

  any_stays : (o : Option ProcId) → KnownIfAny p o → KnownIfAny with_procs o
  any_stays None h = tt
  any_stays (Some f) h = known_again f h

  has_stays : (o : Option ProcId) → HasProcedure p o → HasProcedure with_procs o
  has_stays None h = h
  has_stays (Some f) h = known_again f h

  next_stays : (o : Option ProcId) (r k : ℕ) → HasNext p o r k → HasNext with_procs o r k
  next_stays None r k h = tt
  next_stays (Some f) zero k h = tt
  next_stays (Some f) (suc zero) k h = tt
  next_stays (Some f) (suc (suc r)) k h = h

  kind_stays : (k : TagKind) (t : Tag) → KindFormed p k t → KindFormed with_procs k t
  kind_stays kind.Con t h = any_stays t.proc h
  kind_stays kind.Fun t h = has_stays t.proc h
  kind_stays kind.Part t h = (has_stays t.proc h.0, h.1, next_stays t.proc t.missing t.fields h.2)

  tags_stay : (ts : List Tag) → AllOf (TagFormed p) ts → AllOf (TagFormed with_procs) ts
  tags_stay [] h = tt
  tags_stay (t ∷ ts) h = (kind_stays t.kind t h.0, tags_stay ts h.1)

  -- each site stands at one place where the procedures have the same ones
  pub same_sites : procs_sites procs ≡ procs_sites p.procs
      → ((s : ℕ) → times s (program_sites p) ≤ 1) → (s : ℕ) → times s (program_sites with_procs) ≤ 1
  same_sites e once s = subst (λ ss. times s (map (λ c. c.site.0) p.globals ++ ss) ≤ 1) (sym e)
      (once s)

  -- a program with other procedures is well formed where each variable is bound and each site
  -- stands at one place, and the procedures are well formed themselves
  pub formed_with : Formed p → ((x : ℕ) → times x (procs_vars procs) ≤ 1)
      → ((s : ℕ) → times s (program_sites with_procs) ≤ 1)
      → AllOf (ProcedureFormed with_procs) procs
      → (q : Procedure) ×
      ((slice_get procs p.start.0 ≡ Some q) × (length q.params ≡ argument_words p.argument))
      → Formed with_procs
  formed_with f once sites bodies s = record {
    variables_once = once;
    sites_once = sites;
    procedures = bodies;
    globals = f.globals;
    tags = tags_stay p.tags f.tags;
    number_tag = f.number_tag;
    start = (s.0, s.1.0, s.1.1);
    argument = f.argument;
  }
