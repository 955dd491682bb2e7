-- The places of constraints are those of tokens, in the order of the text.
use Rattle.std.proofs.Common.{◌≡◌, ℕ, zero, suc, ◌+◌, ◌<◌, ◌≤◌, List, [], ◌∷◌, ◌++◌, map, refl, sym, ap, subst, arith, append_assoc, Option, Some, None}
use Rattle.std.proofs.lemmas.List.{map-append}
use Rattle.std.specs.Prelude.{slice_get}
use Rattle.std.specs.List.{flat_map}
use Rattle.seq.proofs.Lists.{some_is, none_is_some}
use Rattle.core_reader.specs.declared.syntax.Pattern.{Pattern}
use Rattle.core_reader.specs.declared.syntax.Pattern.TheVariants as pattern
use Rattle.core_reader.specs.declared.dialect.Dialect.{Dialect}
use Rattle.core_reader.specs.declared.dialect.Dialect.TheVariants as dialect
use Rattle.core_reader.specs.declared.token.Lexeme.{Lexeme}
use Rattle.core_reader.specs.declared.token.Token.{Token}
use Rattle.core_reader.specs.declared.token.Token.TheVariants as word
use Rattle.core_reader.specs.Tree.{Term, Terms, Name, Con, Bracket, NoTerms, AndTerm, Application, Bind, Expr, App, Let, Case, Alts, NoAlts, AndAlt, Function}
use Rattle.core_reader.specs.Tree as tree
use Rattle.core_reader.specs.TokensOf.{Piece, Reads, Stops, Passes, Takes}
use Rattle.core_reader.specs.WordsOf.{said}
use Rattle.core_reader.specs.Grammar.{NestingLimit, lexeme, SpellsTerm, SpellsTerms, SpellsApp, SpellsBinds, SpellsPattern, SpellsExpr, SpellsAlts, unlimited_nesting}
use Rattle.core_reader.specs.Grammar as core
use Rattle.core_reader.proofs.Unique.{longest_some}
use Rattle.core_types.specs.Source.{Constructor, TypeDecl, Signature, Source}
use Rattle.core_types.specs.Grammar.{Decl, Declares, Signs, Defines, SpellsDecls, functions_of}
use Rattle.core_types.specs.Typing.{Typed, Rigid, Constraint, Locals, constraint, constraints, constructor_by_name, signature_of, applied, used_at, signed, own_type, param_type, result_type, head_place, term_type, terms_types, within_term, within_terms, of_terms, of_app, with_group, binder_type_variable, of_group, scrutinee, of_pattern, with_pattern, of_expr, of_alts, of_function, binds_all, arrows}
use Rattle.core_types.specs.Laws.{ConstraintsAscend}

-- ---- numbers that ascend, and those that are left where some are dropped

abbrev AscendFrom : ℕ → List ℕ → Type 0
AscendFrom n [] = Unit {0}
AscendFrom n (x ∷ xs) = (n ≤ x) × AscendFrom (suc x) xs

from_less : (n m : ℕ) (xs : List ℕ) → n ≤ m → AscendFrom m xs → AscendFrom n xs
from_less n m [] l h = tt
from_less n m (x ∷ xs) l h = (omega (arith, l, h.0), h.1)

data IsPart : List ℕ → List ℕ → Type 0 where
  Ends : IsPart [] []
  Drops : {xs ys : List ℕ} (y : ℕ) → IsPart xs ys → IsPart xs (y ∷ ys)
  Keeps : {xs ys : List ℕ} (y : ℕ) → IsPart xs ys → IsPart (y ∷ xs) (y ∷ ys)

none : (ys : List ℕ) → IsPart [] ys
none [] = Ends
none (y ∷ ys) = Drops y (none ys)

both : {xs ys us vs : List ℕ} → IsPart xs ys → IsPart us vs → IsPart (xs ++ us) (ys ++ vs)
both Ends q = q
both (Drops y p) q = Drops y (both p q)
both (Keeps y p) q = Keeps y (both p q)

in_front : {xs ys : List ℕ} (zs : List ℕ) → IsPart xs ys → IsPart xs (ys ++ zs)
in_front zs Ends = none zs
in_front zs (Drops y p) = Drops y (in_front zs p)
in_front zs (Keeps y p) = Keeps y (in_front zs p)

behind : {xs ys : List ℕ} (zs : List ℕ) → IsPart xs ys → IsPart xs (zs ++ ys)
behind [] p = p
behind (z ∷ zs) p = Drops z (behind zs p)

part_ascends : {xs ys : List ℕ} (n : ℕ) → IsPart xs ys → AscendFrom n ys → AscendFrom n xs
part_ascends n Ends h = tt
part_ascends n (Drops y p) h = from_less n (suc y) _ (omega (arith, h.0))
    (part_ascends (suc y) p h.1)
part_ascends n (Keeps y p) h = (h.0, part_ascends (suc y) p h.1)

-- ---- places

abbrev spots : List Constraint → List ℕ
spots cs = map (λ (c : Constraint). c.at) cs

abbrev places : List Lexeme → List ℕ
places ts = map (λ (t : Lexeme). t.at) ts

-- the places of the constraints are among those of the tokens, in their order
record StandsIn (cs : List Constraint) (ts : List Lexeme) : Type 0 where
  part : IsPart (spots cs) (places ts)

nothing : (ts : List Lexeme) → StandsIn [] ts
nothing ts = record { part = none (places ts) }

skip : (x : Lexeme) {cs : List Constraint} {ts : List Lexeme} → StandsIn cs ts
    → StandsIn cs (x ∷ ts)
skip x h = record { part = Drops x.at h.part }

first : (at : ℕ) (w : Token) (l r : Typed) {cs : List Constraint} {ts : List Lexeme}
    → StandsIn cs ts → StandsIn (record { at = at; left = l; right = r } ∷ cs) (lexeme at w ∷ ts)
first at w l r h = record { part = Keeps at h.part }

joined : {as' bs : List Constraint} {us vs : List Lexeme} → StandsIn as' us → StandsIn bs vs
    → StandsIn (as' ++ bs) (us ++ vs)
joined {as' = as'} {bs = bs} {us = us} {vs = vs} g h = record {
  part =
      subst (λ xs. IsPart xs (places (us ++ vs)))
      (sym (map-append (λ (c : Constraint). c.at) as' bs))
      (subst (IsPart (spots as' ++ spots bs)) (sym (map-append (λ (t : Lexeme). t.at) us vs))
      (both g.part h.part));
}

before : {cs : List Constraint} {us : List Lexeme} (vs : List Lexeme) → StandsIn cs us
    → StandsIn cs (us ++ vs)
before {cs = cs} {us = us} vs h = record {
  part = subst (IsPart (spots cs)) (sym (map-append (λ (t : Lexeme). t.at) us vs))
      (in_front (places vs) h.part);
}

after : {cs : List Constraint} {vs : List Lexeme} (us : List Lexeme) → StandsIn cs vs
    → StandsIn cs (us ++ vs)
after {cs = cs} {vs = vs} us h = record {
  part = subst (IsPart (spots cs)) (sym (map-append (λ (t : Lexeme). t.at) us vs))
      (behind (places us) h.part);
}

-- ---- pieces of a program

module _ (s : Source) (room : NestingLimit) where
  -- of a term, and of a term with a constraint at the place of its head
  record OfTerm (ls : Locals) (t : Term) (ts : List Lexeme) : Type 0 where
    alone : StandsIn (within_term s ls t) ts
    headed : (l r : Typed) → StandsIn (constraint s (head_place s t) l r ∷ within_term s ls t) ts

  mutual
    in_term : (ls : Locals) (depth : ℕ) (t : Term) (ts : List Lexeme) → SpellsTerm room depth t ts
        → OfTerm ls t ts
    in_term ls depth (Name n at) ts h = record {
      alone = nothing ts;
      headed = λ l r. subst (StandsIn _) (sym h) (first at _ l r (nothing []));
    }
    in_term ls depth (Con n at) ts h = record {
      alone = nothing ts;
      headed = λ l r. subst (StandsIn _) (sym h) (first at _ l r (nothing []));
    }
    in_term ls depth (tree.Int k at) ts h = record {
      alone = nothing ts;
      headed = λ l r. subst (StandsIn _) (sym h.1) (first at _ l r (nothing []));
    }
    in_term ls depth (Bracket head NoTerms at) ts h =
        let inner : OfTerm ls head h.0 = in_term ls (suc depth) head h.0 h.4 in
        record {
          alone = subst (StandsIn _) (sym h.6)
              (skip (lexeme at word.Open) (before (h.1 ++ lexeme h.2 word.Close ∷ []) inner.alone));
          headed = λ l r. subst (StandsIn _) (sym h.6)
              (skip (lexeme at word.Open)
              (before (h.1 ++ lexeme h.2 word.Close ∷ []) (inner.headed l r)));
        }
    in_term ls depth (Bracket head (AndTerm a args) at) ts h =
        let inner : OfTerm ls head h.0 = in_term ls (suc depth) head h.0 h.4 in
        let others : StandsIn (within_terms s ls (AndTerm a args)) h.1
        = in_terms ls (suc depth) (AndTerm a args) h.1 h.5 in
        let all : StandsIn (within_term s ls (Bracket head (AndTerm a args) at))
        (h.0 ++ (h.1 ++ lexeme h.2 word.Close ∷ [])) =
        joined (inner.headed _ _) (before (lexeme h.2 word.Close ∷ []) others) in
        record {
          alone = subst (StandsIn _) (sym h.6) (skip (lexeme at word.Open) all);
          headed = λ l r. subst (StandsIn _) (sym h.6) (first at word.Open l r all);
        }

    in_terms : (ls : Locals) (depth : ℕ) (args : Terms) (ts : List Lexeme)
        → SpellsTerms room depth args ts → StandsIn (within_terms s ls args) ts
    in_terms ls depth NoTerms ts h = nothing ts
    in_terms ls depth (AndTerm a rest) ts h =
        let one : OfTerm ls a h.0 = in_term ls depth a h.0 h.2 in
        subst (StandsIn _) (sym h.4) (joined one.alone (in_terms ls depth rest h.1 h.3))

  plainly : (ls : Locals) (t : Typed) (depth : ℕ) (head : Term) (args : Terms) (us vs : List Lexeme)
      → SpellsTerm room depth head us → SpellsTerms room depth args vs
      → StandsIn
      (constraint s (head_place s head) (term_type s ls head) (arrows (terms_types s ls args) t)
      ∷ (within_term s ls head ++ within_terms s ls args)) (us ++ vs)
  plainly ls t depth head args us vs g h =
      let one : OfTerm ls head us = in_term ls depth head us g in
      joined (one.headed _ _) (in_terms ls depth args vs h)

  applied_terms : (ls : Locals) (t : Typed) (depth : ℕ) (head : Term) (args : Terms)
      (us vs : List Lexeme) → SpellsTerm room depth head us → SpellsTerms room depth args vs
      → StandsIn (of_terms s ls t head args) (us ++ vs)
  applied_terms ls t depth (Name n at) args us vs g h
      = plainly ls t depth (Name n at) args us vs g h
  applied_terms ls t depth (Con n at) args us vs g h = plainly ls t depth (Con n at) args us vs g h
  applied_terms ls t depth (tree.Int k at) args us vs g h
      = plainly ls t depth (tree.Int k at) args us vs g h
  applied_terms ls t depth (Bracket head args at) NoTerms us vs g h =
      let inner : StandsIn (of_terms s ls t head args) (g.0 ++ g.1)
      = applied_terms ls t (suc depth) head args g.0 g.1 g.4 g.5 in
      let closed : StandsIn (of_terms s ls t head args) (g.0 ++ (g.1 ++ lexeme g.2 word.Close ∷ []))
      =
      subst (StandsIn _) (append_assoc g.0 g.1 (lexeme g.2 word.Close ∷ []))
      (before (lexeme g.2 word.Close ∷ []) inner) in
      before vs (subst (StandsIn _) (sym g.6) (skip (lexeme at word.Open) closed))
  applied_terms ls t depth (Bracket head args at) (AndTerm a rest) us vs g h
      = plainly ls t depth (Bracket head args at) (AndTerm a rest) us vs g h

  in_app : (ls : Locals) (t : Typed) (depth : ℕ) (app : Application) (ts : List Lexeme)
      → SpellsApp room depth app ts → StandsIn (of_app s ls t app) ts
  in_app ls t depth app ts h = subst (StandsIn _) (sym h.4)
      (applied_terms ls t depth app.head app.args h.0 h.1 h.2 h.3)

  in_group : (ls : Locals) (depth : ℕ) (group : List Bind) (ts : List Lexeme)
      → SpellsBinds room depth group ts → StandsIn (of_group s ls group) ts
  in_group ls depth [] ts h = nothing ts
  in_group ls depth (b ∷ bs) ts h =
      let member : StandsIn (of_app s ls (binder_type_variable b.binder) b.app) h.0 =
      subst (StandsIn _) (sym h.3.3)
      (skip _ (skip _ (in_app ls (binder_type_variable b.binder) depth b.app h.3.1 h.3.2))) in
      subst (StandsIn _) (sym h.6) (joined member (after h.1 (in_group ls depth bs h.2 h.5)))

  abbrev pattern_by : Typed → ℕ → Option (TypeDecl × Constructor) → List Constraint
  pattern_by u at o =
      elim o [ Some x ↦ constraint s at u (applied s x.0 (used_at s at)) ∷ [] | None ↦ [] ]

  by_constructor : (u : Typed) (at : ℕ) (w : Token) (ts : List Lexeme)
      (o : Option (TypeDecl × Constructor)) → StandsIn (pattern_by u at o) (lexeme at w ∷ ts)
  by_constructor u at w ts (Some x) = first at w _ _ (nothing ts)
  by_constructor u at w ts None = nothing (lexeme at w ∷ ts)

  in_pattern : (u : Typed) (p : Pattern) (ts : List Lexeme) → SpellsPattern p ts
      → StandsIn (of_pattern s u p) ts
  in_pattern u (pattern.Con c xs) ts h = subst (StandsIn _) (sym h)
      (by_constructor u c.at _ _ (constructor_by_name s.types c.name.0))
  in_pattern u (pattern.Int k at) ts h = subst (StandsIn _) (sym h.1) (first at _ _ _ (nothing []))
  in_pattern u (pattern.Default x) ts h = nothing ts

  mutual
    in_expr : (ls : Locals) (t : Typed) (depth : ℕ) (e : Expr) (ts : List Lexeme)
        → SpellsExpr room depth e ts → StandsIn (of_expr s ls t e) ts
    in_expr ls t depth (App app) ts h = in_app ls t depth app ts h
    in_expr ls t depth (Let group body) ts h =
        subst (StandsIn _) (sym h.8)
        (skip _ (joined (in_group (with_group s group ls) (suc depth) group h.2 h.6)
        (skip _ (in_expr (with_group s group ls) t (suc depth) body h.3 h.7))))
    in_expr ls t depth (Case tested alts) ts h =
        subst (StandsIn _) (sym h.10)
        (skip _ (joined (in_expr ls (scrutinee s alts) (suc depth) tested h.4 h.8)
        (skip _ (skip _
        (before (lexeme h.3 word.CloseBrace ∷ [])
        (in_alts ls (scrutinee s alts) t (suc depth) alts h.5 h.9))))))

    in_alts : (ls : Locals) (u t : Typed) (depth : ℕ) (alts : Alts) (ts : List Lexeme)
        → SpellsAlts room depth alts ts → StandsIn (of_alts s ls u t alts) ts
    in_alts ls u t depth NoAlts ts h = nothing ts
    in_alts ls u t depth (AndAlt p body rest) ts h =
        subst (StandsIn _) (sym h.9)
        (joined (in_pattern u p h.0 h.5)
        (skip _ (joined (in_expr (with_pattern s u p ls) t depth body h.1 h.6)
        (after h.2 (in_alts ls u t depth rest h.3 h.8)))))

  abbrev signed_by : Function → Option Signature → List Constraint
  signed_by f o =
      elim o [
        | Some g ↦ constraint s f.at (signed s (λ n. Rigid f.name n) g) (own_type s f) ∷ []
        | None ↦ []
      ]

  by_signature : (f : Function) (w : Token) (o : Option Signature)
      → StandsIn (signed_by f o) (lexeme f.at w ∷ [])
  by_signature f w (Some g) = first f.at w _ _ (nothing [])
  by_signature f w None = nothing (lexeme f.at w ∷ [])

  in_function : (f : Function) (ts : List Lexeme) → core.SpellsDecl room (core.Defines f) ts
      → StandsIn (of_function s f) ts
  in_function f ts h =
      subst (StandsIn _) (sym h.4)
      (joined (by_signature f _ (signature_of s.signatures f.name))
      (after (core.binders f.params)
      (skip _ (before (lexeme h.1 word.Semicolon ∷ [])
      (in_expr (binds_all s f.params (map (param_type s f) f.params) []) (result_type s f) 0
      f.body h.2 h.3)))))

  in_decls : (ds : List Decl) (ts : List Lexeme) → SpellsDecls room ds ts
      → StandsIn (flat_map (of_function s) (functions_of ds)) ts
  in_decls [] ts h = nothing ts
  in_decls (Declares d ∷ ds) ts h = subst (StandsIn _) (sym h.4) (after h.0 (in_decls ds h.1 h.3))
  in_decls (Signs d ∷ ds) ts h = subst (StandsIn _) (sym h.4) (after h.0 (in_decls ds h.1 h.3))
  in_decls (Defines f ∷ ds) ts h = subst (StandsIn _) (sym h.4)
      (joined (in_function f h.0 h.2) (in_decls ds h.1 h.3))

-- ---- the tokens of a text

abbrev piece_places : List Piece → List ℕ
piece_places pieces = map (λ (p : Piece). p.at) pieces

said_places : (d : Dialect) (names : List (List ℕ)) (pieces : List Piece)
    → places (map (said d names) pieces) ≡ piece_places pieces
said_places d names [] = refl
said_places d names (p ∷ pieces) = ap (λ xs. p.at ∷ xs) (said_places d names pieces)

tokens_ascend : {d : Dialect} {at end : ℕ} {bytes rest : List ℕ} {all : List Piece}
    → Reads d at bytes all end rest → AscendFrom at (piece_places all)
tokens_ascend (Stops at rest) = tt
tokens_ascend (Passes at n bytes all end rest h r) = from_less at (at + n) _ (omega arith)
    (tokens_ascend r)
tokens_ascend (Takes at n bytes k all end rest h r) =
    let some = longest_some bytes n k h in
    (omega arith, from_less (suc at) (at + n) _ (omega (arith, some)) (tokens_ascend r))

-- ---- the law

at_least : (n : ℕ) (cs : List Constraint) (i : ℕ) (c : Constraint) → AscendFrom n (spots cs)
    → slice_get cs i ≡ Some c → n ≤ c.at
at_least n [] i c h e = none_is_some e
at_least n (x ∷ cs) zero c h e = subst (λ (c : Constraint). n ≤ c.at) (some_is e) h.0
at_least n (x ∷ cs) (suc i) c h e = let l = at_least (suc x.at) cs i c h.1 e
    in omega (arith, l, h.0)

in_order : (n : ℕ) (cs : List Constraint) (i j : ℕ) (c d : Constraint) → AscendFrom n (spots cs)
    → i < j → slice_get cs i ≡ Some c → slice_get cs j ≡ Some d → c.at < d.at
in_order n [] i j c d h l e f = none_is_some e
in_order n (x ∷ cs) i zero c d h l e f = absurd (omega (arith, l))
in_order n (x ∷ cs) zero (suc j) c d h l e f =
    let m = at_least (suc x.at) cs j d h.1 f in subst (λ (c : Constraint). c.at < d.at) (some_is e)
    (omega (arith, m))
in_order n (x ∷ cs) (suc i) (suc j) c d h l e f = in_order (suc x.at) cs i j c d h.1
    (omega (arith, l)) e f

pub constraints_ascend : ConstraintsAscend
constraints_ascend text s is i j c d l e f =
    let read = is.program in
    let stands : StandsIn (flat_map (of_function s) (functions_of read.decls))
    (map (said dialect.Types s.names) is.pieces) =
    in_decls s unlimited_nesting read.decls _ read.spelled in
    let part : IsPart (spots (constraints s)) (places (map (said dialect.Types s.names) is.pieces))
    =
    subst (λ fs. IsPart (spots (flat_map (of_function s) fs))
    (places (map (said dialect.Types s.names) is.pieces))) read.functions stands.part in
    let tokens : AscendFrom 0 (places (map (said dialect.Types s.names) is.pieces)) =
    subst (AscendFrom 0) (sym (said_places dialect.Types s.names is.pieces))
    (tokens_ascend is.tokens) in
    in_order 0 (constraints s) i j c d (part_ascends 0 part tokens) l e f
