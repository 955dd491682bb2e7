-- What spells a tree spells one that is the same where the tokens are alike: those of names have
-- one
-- text, and those of others are the same.
use Rattle.std.proofs.Common.{◌≡◌, ℕ, suc, false, List, [], ◌∷◌, ◌++◌, refl, ap, subst, ◌∙◌, inl, inr}
use Rattle.std.specs.Prelude.{pos}
use Rattle.std.specs.List.{AllZip}
use Rattle.core_reader.specs.declared.syntax.NameId.{NameId}
use Rattle.core_reader.specs.declared.syntax.Binder.{Binder}
use Rattle.core_reader.specs.declared.syntax.Pattern.{Pattern}
use Rattle.core_reader.specs.declared.syntax.Pattern.TheVariants as pattern
use Rattle.core_reader.specs.declared.token.Token.{Token}
use Rattle.core_reader.specs.declared.token.Token.TheVariants as word
use Rattle.core_reader.specs.declared.token.Lexeme.{Lexeme}
use Rattle.core_reader.specs.Grammar.{NestingLimit, lexeme, name_id, IsSign, SpellsTerm, SpellsTerms, SpellsApp, binders, IsOptional, SpellsBind, AfterBind, SpellsBinds, IsGroup, IsNonemptyAlts, AfterAlt, SpellsPattern, SpellsExpr, SpellsAlts, Decl, Declares, Defines, SpellsDecl, SpellsDecls, constructors_of, functions_of}
use Rattle.core_reader.specs.Tree as tree
use Rattle.core_reader.specs.Tree.{Term, Terms, NoTerms, AndTerm, Application, Bind, Expr, App, Let, Case, Alts, NoAlts, AndAlt, Data, Function}
use Rattle.core_print.specs.Same.{SameName, SameBinder, SameTerm, SameTerms, SameApp, SameBind, SamePattern, SameExpr, SameAlts, SameData, SameFunction}

module _ (names others : List (List ℕ)) where
  -- a further keyword is in no declaration
  abbrev pub Like : Token → Token → Type 0
  Like (word.Name n) t = (k : NameId) × (t ≡ word.Name k) × SameName names others n.0 k.0
  Like (word.Con n) t = (k : NameId) × (t ≡ word.Con k) × SameName names others n.0 k.0
  Like (word.Further f) t = Unit {0}
  Like token t = t ≡ token

  abbrev pub AreLike : List Lexeme → List Lexeme → Type 0
  AreLike = AllZip (λ x y. Like x.token y.token)

  record Cut (us vs ts : List Lexeme) : Type 0 where
    front : List Lexeme
    behind : List Lexeme
    whole : ts ≡ front ++ behind
    first : AreLike us front
    second : AreLike vs behind

  cut : (us vs ts : List Lexeme) → AreLike (us ++ vs) ts → Cut us vs ts
  cut [] vs ts z = record { front = []; behind = ts; whole = refl; first = tt; second = z }
  cut (u ∷ us) vs [] z = absurd z
  cut (u ∷ us) vs (t ∷ ts) z = let w = cut us vs ts z.1
      in record {
        front = t ∷ w.front;
        behind = w.behind;
        whole = ap (λ r. t ∷ r) w.whole;
        first
            = (z.0, w.first);
        second = w.second;
      }

  none : (ts : List Lexeme) → AreLike [] ts → ts ≡ []
  none [] z = refl
  none (t ∷ ts) z = absurd z

  record First (x : Lexeme) (us ts : List Lexeme) : Type 0 where
    item : Lexeme
    rest : List Lexeme
    whole : ts ≡ item ∷ rest
    like : Like x.token item.token
    likes : AreLike us rest

  first : (x : Lexeme) (us ts : List Lexeme) → AreLike (x ∷ us) ts → First x us ts
  first x us [] z = absurd z
  first x us (t ∷ ts) z = record { item = t; rest = ts; whole = refl; like = z.0; likes = z.1 }

  only : (x : Lexeme) (ts : List Lexeme) → AreLike (x ∷ []) ts → (y : Lexeme) × (ts ≡ y ∷ [])
      × Like x.token y.token
  only x ts z = let w = first x [] ts z in
      (w.item, w.whole ∙ ap (λ r. w.item ∷ r) (none w.rest w.likes), w.like)

  token_is : (y : Lexeme) (t : Token) → y.token ≡ t → y ≡ lexeme y.at t
  token_is y t e = ap (lexeme y.at) e

  -- ---- terms

  mutual
    term_again : (room : NestingLimit) (d : ℕ) (a : Term) (us ts : List Lexeme)
        → SpellsTerm room d a us → AreLike us ts → (b : Term) × SpellsTerm room d b ts
        × SameTerm names others a b
    term_again room d (tree.Name n at) us ts h z =
        let w = only (lexeme at (word.Name (name_id n))) ts (subst (λ v. AreLike v ts) h z) in (
          tree.Name w.2.0.0 w.0.at,
          w.1 ∙ ap (λ y. y ∷ []) (token_is w.0 (word.Name w.2.0) w.2.1),
          w.2.2,
        )
    term_again room d (tree.Con n at) us ts h z =
        let w = only (lexeme at (word.Con (name_id n))) ts (subst (λ v. AreLike v ts) h z) in (
          tree.Con w.2.0.0 w.0.at,
          w.1 ∙ ap (λ y. y ∷ []) (token_is w.0 (word.Con w.2.0) w.2.1),
          w.2.2,
        )
    term_again room d (tree.Int k at) us ts h z =
        let w = only (lexeme at (word.Number h.0 k)) ts (subst (λ v. AreLike v ts) h.1 z) in (
          tree.Int k w.0.at,
          (h.0, w.1 ∙ ap (λ y. y ∷ []) (token_is w.0 (word.Number h.0 k) w.2)),
          refl,
        )
    term_again room d (tree.Bracket f xs at) us ts h z =
        let o = first (lexeme at word.Open) (h.0 ++ (h.1 ++ lexeme h.2 word.Close ∷ [])) ts
        (subst (λ v. AreLike v ts) h.6 z) in
        let a = cut h.0 (h.1 ++ lexeme h.2 word.Close ∷ []) o.rest o.likes in
        let b = cut h.1 (lexeme h.2 word.Close ∷ []) a.behind a.second in
        let c = only (lexeme h.2 word.Close) b.behind b.second in
        let g = term_again room (suc d) f h.0 a.front h.4 a.first in
        let ys = terms_again room (suc d) xs h.1 b.front h.5 b.first in
        let whole : ts ≡ lexeme o.item.at word.Open ∷
        (a.front ++ (b.front ++ lexeme c.0.at word.Close ∷ [])) =
        o.whole ∙ (λ i. token_is o.item word.Open o.like i ∷ a.whole i) ∙ ap
        (λ r. lexeme o.item.at word.Open ∷ (a.front ++ r))
        (b.whole ∙ ap (λ r. b.front ++ r)
        (c.1 ∙ ap (λ y. y ∷ []) (token_is c.0 word.Close c.2))) in (
          tree.Bracket g.0 ys.0 o.item.at,
          (a.front, b.front, c.0.at, h.3, g.1, ys.1, whole),
          (g.2, ys.2),
        )

    terms_again : (room : NestingLimit) (d : ℕ) (xs : Terms) (us ts : List Lexeme)
        → SpellsTerms room d xs us → AreLike us ts → (ys : Terms) × SpellsTerms room d ys ts
        × SameTerms names others xs ys
    terms_again room d NoTerms us ts h z = (NoTerms, none ts (subst (λ v. AreLike v ts) h z), tt)
    terms_again room d (AndTerm a xs) us ts h z =
        let c = cut h.0 h.1 ts (subst (λ v. AreLike v ts) h.4 z) in
        let b = term_again room d a h.0 c.front h.2 c.first in
        let ys = terms_again room d xs h.1 c.behind h.3 c.second in
        (AndTerm b.0 ys.0, (c.front, c.behind, b.1, ys.1, c.whole), (b.2, ys.2))

  app_again : (room : NestingLimit) (d : ℕ) (a : Application) (us ts : List Lexeme)
      → SpellsApp room d a us → AreLike us ts → (b : Application) × SpellsApp room d b ts
      × SameApp names others a b
  app_again room d a us ts h z =
      let c = cut h.0 h.1 ts (subst (λ v. AreLike v ts) h.4 z) in
      let b = term_again room d a.head h.0 c.front h.2 c.first in
      let ys = terms_again room d a.args h.1 c.behind h.3 c.second in
      (record { head = b.0; args = ys.0 }, (c.front, c.behind, b.1, ys.1, c.whole), (b.2, ys.2))

  binders_again : (bs : List Binder) (ts : List Lexeme) → AreLike (binders bs) ts
      → (cs : List Binder) × (ts ≡ binders cs) × AllZip (SameBinder names others) bs cs
  binders_again [] ts z = ([], none ts z, tt)
  binders_again (b ∷ bs) ts z =
      let w = first (lexeme b.at (word.Name b.name)) (binders bs) ts z in
      let r = binders_again bs w.rest w.likes in (
        record { name = w.like.0; at = w.item.at } ∷ r.0,
        w.whole ∙ (λ i. token_is w.item (word.Name w.like.0) w.like.1 i ∷ r.1 i),
        (w.like.2, r.2),
      )

  -- ---- let groups

  sign_again : (t : Token) → ((u : Token) → Like t u → u ≡ t) → (us ts : List Lexeme) → IsSign t us
      → AreLike us ts → IsSign t ts
  sign_again t is us ts h z = let w = only (lexeme h.0 t) ts (subst (λ v. AreLike v ts) h.1 z)
      in (w.0.at, w.1 ∙ ap (λ y. y ∷ []) (token_is w.0 t (is w.0.token w.2)))

  optional_again : (us ts : List Lexeme) → IsOptional us → AreLike us ts → IsOptional ts
  optional_again us ts (inl e) z = inl (none ts (subst (λ v. AreLike v ts) e z))
  optional_again us ts (inr h) z = inr (sign_again word.Semicolon (λ u e. e) us ts h z)

  bind_again : (room : NestingLimit) (d : ℕ) (b : Bind) (us ts : List Lexeme)
      → SpellsBind room d b us → AreLike us ts → (c : Bind) × SpellsBind room d c ts
      × SameBind names others b c
  bind_again room d b us ts h z =
      let n = first (lexeme b.binder.at (word.Name b.binder.name)) (lexeme h.0 word.Equals ∷ h.1) ts
      (subst (λ v. AreLike v ts) h.3 z) in
      let e = first (lexeme h.0 word.Equals) h.1 n.rest n.likes in
      let a = app_again room d b.app h.1 e.rest h.2 e.likes in (
        record { binder = record { name = n.like.0; at = n.item.at }; app = a.0 },
        (
          e.item.at,
          e.rest,
          a.1,
          n.whole ∙
              (λ i. token_is n.item (word.Name n.like.0) n.like.1 i ∷ e.whole i) ∙ ap
              (λ y. lexeme n.item.at (word.Name n.like.0) ∷ y ∷ e.rest)
              (token_is e.item word.Equals e.like),
        ),
        (n.like.2, a.2),
      )

  after_bind : (bs cs : List Bind) → AllZip (SameBind names others) bs cs → (us ts : List Lexeme)
      → AfterBind bs us → AreLike us ts → AfterBind cs ts
  after_bind [] [] r us ts h z = optional_again us ts h z
  after_bind [] (c ∷ cs) r us ts h z = absurd r
  after_bind (b ∷ bs) [] r us ts h z = absurd r
  after_bind (b ∷ bs) (c ∷ cs) r us ts h z = sign_again word.Semicolon (λ u e. e) us ts h z

  binds_again : (room : NestingLimit) (d : ℕ) (bs : List Bind) (us ts : List Lexeme)
      → SpellsBinds room d bs us → AreLike us ts → (cs : List Bind) × SpellsBinds room d cs ts
      × AllZip (SameBind names others) bs cs
  binds_again room d [] us ts h z = ([], none ts (subst (λ v. AreLike v ts) h z), tt)
  binds_again room d (b ∷ bs) us ts h z =
      let x = cut h.0 (h.1 ++ h.2) ts (subst (λ v. AreLike v ts) h.6 z) in
      let y = cut h.1 h.2 x.behind x.second in
      let c = bind_again room d b h.0 x.front h.3 x.first in
      let cs = binds_again room d bs h.2 y.behind h.5 y.second in (
        c.0 ∷ cs.0,
        (
          x.front,
          y.front,
          y.behind,
          c.1,
          after_bind bs cs.0 cs.2 h.1 y.front h.4 y.first,
          cs.1,
          x.whole ∙ ap (λ r. x.front ++ r) y.whole,
        ),
        (c.2, cs.2),
      )

  group_again : (bs cs : List Bind) → AllZip (SameBind names others) bs cs → IsGroup bs → IsGroup cs
  group_again [] cs r h = absurd h
  group_again (b ∷ bs) [] r h = absurd r
  group_again (b ∷ bs) (c ∷ cs) r h = tt

  -- ---- expressions

  pattern_again : (p : Pattern) (us ts : List Lexeme) → SpellsPattern p us → AreLike us ts
      → (q : Pattern) × SpellsPattern q ts × SamePattern names others p q
  pattern_again (pattern.Con c fields) us ts h z =
      let w = first (lexeme c.at (word.Con c.name)) (binders fields) ts
      (subst (λ v. AreLike v ts) h z) in
      let r = binders_again fields w.rest w.likes in (
        pattern.Con (record { name = w.like.0; at = w.item.at }) r.0,
        w.whole ∙ (λ i. token_is w.item (word.Con w.like.0) w.like.1 i ∷ r.1 i),
        (w.like.2, r.2),
      )
  pattern_again (pattern.Int k at) us ts h z =
      let w = only (lexeme at (word.Number h.0 k)) ts (subst (λ v. AreLike v ts) h.1 z) in (
        pattern.Int k w.0.at,
        (h.0, w.1 ∙ ap (λ y. y ∷ []) (token_is w.0 (word.Number h.0 k) w.2)),
        refl,
      )
  pattern_again (pattern.Default x) us ts h z =
      let w = only (lexeme x.at (word.Name x.name)) ts (subst (λ v. AreLike v ts) h z) in (
        pattern.Default (record { name = w.2.0; at = w.0.at }),
        w.1 ∙ ap (λ y. y ∷ []) (token_is w.0 (word.Name w.2.0) w.2.1),
        w.2.2,
      )

  after_alt : (xs ys : Alts) → SameAlts names others xs ys → (us ts : List Lexeme) → AfterAlt xs us
      → AreLike us ts → AfterAlt ys ts
  after_alt NoAlts NoAlts r us ts h z = optional_again us ts h z
  after_alt NoAlts ys r us ts h z = absurd r
  after_alt (AndAlt p e xs) (AndAlt q d ys) r us ts h z
      = sign_again word.Semicolon (λ u e. e) us ts h z
  after_alt (AndAlt p e xs) ys r us ts h z = absurd r

  some_again : (xs ys : Alts) → SameAlts names others xs ys → IsNonemptyAlts xs → IsNonemptyAlts ys
  some_again NoAlts ys r h = absurd h
  some_again (AndAlt p e xs) NoAlts r h = absurd r
  some_again (AndAlt p e xs) (AndAlt q d ys) r h = tt

  mutual
    expr_again : (room : NestingLimit) (d : ℕ) (e : Expr) (us ts : List Lexeme)
        → SpellsExpr room d e us → AreLike us ts → (f : Expr) × SpellsExpr room d f ts
        × SameExpr names others e f
    expr_again room d (App a) us ts h z = let w = app_again room d a us ts h z
        in (App w.0, w.1, w.2)
    expr_again room d (Let group e) us ts h z =
        let l = first (lexeme h.0 word.Let) (h.2 ++ (lexeme h.1 word.In ∷ h.3)) ts
        (subst (λ v. AreLike v ts) h.8 z) in
        let c = cut h.2 (lexeme h.1 word.In ∷ h.3) l.rest l.likes in
        let i = first (lexeme h.1 word.In) h.3 c.behind c.second in
        let g = binds_again room (suc d) group h.2 c.front h.6 c.first in
        let f = expr_again room (suc d) e h.3 i.rest h.7 i.likes in
        let whole : ts ≡ lexeme l.item.at word.Let ∷
        (c.front ++ (lexeme i.item.at word.In ∷ i.rest)) =
        l.whole ∙ (λ j. token_is l.item word.Let l.like j ∷ c.whole j) ∙ ap
        (λ r. lexeme l.item.at word.Let ∷ (c.front ++ r))
        (i.whole ∙ ap (λ y. y ∷ i.rest) (token_is i.item word.In i.like)) in (
          Let g.0 f.0,
          (
            l.item.at,
            i.item.at,
            c.front,
            i.rest,
            h.4,
            group_again group g.0 g.2 h.5,
            g.1,
            f.1,
            whole,
          ),
          (g.2, f.2),
        )
    expr_again room d (Case e alts) us ts h z =
        let close = lexeme h.3 word.CloseBrace ∷ [] in
        let rest = lexeme h.1 word.Of ∷ lexeme h.2 word.OpenBrace ∷ (h.5 ++ close) in
        let l = first (lexeme h.0 word.Case) (h.4 ++ rest) ts (subst (λ v. AreLike v ts) h.10 z) in
        let c = cut h.4 rest l.rest l.likes in
        let o = first (lexeme h.1 word.Of) (lexeme h.2 word.OpenBrace ∷ (h.5 ++ close)) c.behind
        c.second in
        let b = first (lexeme h.2 word.OpenBrace) (h.5 ++ close) o.rest o.likes in
        let k = cut h.5 close b.rest b.likes in
        let s = only (lexeme h.3 word.CloseBrace) k.behind k.second in
        let f = expr_again room (suc d) e h.4 c.front h.8 c.first in
        let ys = alts_again room (suc d) alts h.5 k.front h.9 k.first in
        let last : k.behind ≡ lexeme s.0.at word.CloseBrace ∷ []
        = s.1 ∙ ap (λ y. y ∷ []) (token_is s.0 word.CloseBrace s.2) in
        let inner : o.rest ≡ lexeme b.item.at word.OpenBrace ∷
        (k.front ++ lexeme s.0.at word.CloseBrace ∷ []) =
        b.whole ∙ (λ j. token_is b.item word.OpenBrace b.like j ∷ k.whole j) ∙ ap
        (λ r. lexeme b.item.at word.OpenBrace ∷ (k.front ++ r)) last in
        let middle : c.behind ≡ lexeme o.item.at word.Of ∷ lexeme b.item.at word.OpenBrace ∷
        (k.front ++ lexeme s.0.at word.CloseBrace ∷ [])
        = o.whole ∙ (λ j. token_is o.item word.Of o.like j ∷ inner j) in
        let whole : ts ≡ lexeme l.item.at word.Case ∷
        (c.front ++
        (lexeme o.item.at word.Of ∷ lexeme b.item.at word.OpenBrace ∷
        (k.front ++ lexeme s.0.at word.CloseBrace ∷ []))) =
        l.whole ∙ (λ j. token_is l.item word.Case l.like j ∷ c.whole j) ∙ ap
        (λ r. lexeme l.item.at word.Case ∷ (c.front ++ r)) middle in (
          Case f.0 ys.0,
          (
            l.item.at,
            o.item.at,
            b.item.at,
            s.0.at,
            c.front,
            k.front,
            h.6,
            some_again alts ys.0 ys.2 h.7,
            f.1,
            ys.1,
            whole,
          ),
          (f.2, ys.2),
        )

    alts_again : (room : NestingLimit) (d : ℕ) (xs : Alts) (us ts : List Lexeme)
        → SpellsAlts room d xs us → AreLike us ts → (ys : Alts) × SpellsAlts room d ys ts
        × SameAlts names others xs ys
    alts_again room d NoAlts us ts h z = (NoAlts, none ts (subst (λ v. AreLike v ts) h z), tt)
    alts_again room d (AndAlt p e xs) us ts h z =
        let a = cut h.0 (lexeme h.4 word.Arrow ∷ (h.1 ++ (h.2 ++ h.3))) ts
        (subst (λ v. AreLike v ts) h.9 z) in
        let w = first (lexeme h.4 word.Arrow) (h.1 ++ (h.2 ++ h.3)) a.behind a.second in
        let b = cut h.1 (h.2 ++ h.3) w.rest w.likes in
        let c = cut h.2 h.3 b.behind b.second in
        let q = pattern_again p h.0 a.front h.5 a.first in
        let f = expr_again room d e h.1 b.front h.6 b.first in
        let ys = alts_again room d xs h.3 c.behind h.8 c.second in
        let inner : w.rest ≡ b.front ++ (c.front ++ c.behind)
        = b.whole ∙ ap (λ r. b.front ++ r) c.whole in
        let whole : ts ≡ a.front ++
        (lexeme w.item.at word.Arrow ∷ (b.front ++ (c.front ++ c.behind)))
        = a.whole ∙ ap (λ r. a.front ++ r)
        (w.whole ∙ (λ j. token_is w.item word.Arrow w.like j ∷ inner j)) in (
          AndAlt q.0 f.0 ys.0,
          (
            a.front,
            b.front,
            c.front,
            c.behind,
            w.item.at,
            q.1,
            f.1,
            after_alt xs ys.0 ys.2 h.2 c.front h.7 c.first,
            ys.1,
            whole,
          ),
          (q.2, f.2, ys.2),
        )

  -- ---- declarations

  abbrev SameDecl : Decl → Decl → Type 0
  SameDecl (Declares d) (Declares e) = SameData names others d e
  SameDecl (Defines f) (Defines g) = SameFunction names others f g
  SameDecl d e = ⊥

  decl_again : (room : NestingLimit) (d : Decl) (us ts : List Lexeme) → SpellsDecl room d us
      → AreLike us ts → (e : Decl) × SpellsDecl room e ts × SameDecl d e
  decl_again room (Declares d) us ts h z =
      let n = lexeme h.1 (word.Number false (pos d.fields)) in
      let s = lexeme h.2 word.Semicolon in
      let a = first (lexeme h.0 word.Data) (lexeme d.at (word.Con (name_id d.name)) ∷ n ∷ s ∷ []) ts
      (subst (λ v. AreLike v ts) h.3 z) in
      let c = first (lexeme d.at (word.Con (name_id d.name))) (n ∷ s ∷ []) a.rest a.likes in
      let k = first n (s ∷ []) c.rest c.likes in
      let l = only s k.rest k.likes in
      let e : Data = record { name = c.like.0.0; fields = d.fields; at = c.item.at } in
      let last : k.rest ≡ lexeme l.0.at word.Semicolon ∷ []
      = l.1 ∙ ap (λ y. y ∷ []) (token_is l.0 word.Semicolon l.2) in
      let third : c.rest ≡ lexeme k.item.at (word.Number false (pos d.fields)) ∷ lexeme l.0.at
      word.Semicolon ∷ [] = k.whole ∙
      (λ j. token_is k.item (word.Number false (pos d.fields)) k.like j ∷ last j) in
      let second : a.rest ≡ lexeme e.at (word.Con (name_id e.name)) ∷ lexeme k.item.at
      (word.Number false (pos d.fields)) ∷ lexeme l.0.at word.Semicolon ∷ []
      = c.whole ∙ (λ j. token_is c.item (word.Con c.like.0) c.like.1 j ∷ third j) in (
        Declares e,
        (
          a.item.at,
          k.item.at,
          l.0.at,
          a.whole ∙
              (λ j. token_is a.item word.Data a.like j ∷ second j),
        ),
        (c.like.2, refl),
      )
  decl_again room (Defines f) us ts h z =
      let close = lexeme h.1 word.Semicolon ∷ [] in
      let n = first (lexeme f.at (word.Name (name_id f.name)))
      (binders f.params ++ (lexeme h.0 word.Equals ∷ (h.2 ++ close))) ts
      (subst (λ v. AreLike v ts) h.4 z) in
      let b = cut (binders f.params) (lexeme h.0 word.Equals ∷ (h.2 ++ close)) n.rest n.likes in
      let q = first (lexeme h.0 word.Equals) (h.2 ++ close) b.behind b.second in
      let c = cut h.2 close q.rest q.likes in
      let l = only (lexeme h.1 word.Semicolon) c.behind c.second in
      let params = binders_again f.params b.front b.first in
      let e = expr_again room 0 f.body h.2 c.front h.3 c.first in
      let g : Function = record { name = n.like.0.0; at = n.item.at; params = params.0; body = e.0 }
      in
      let last : c.behind ≡ lexeme l.0.at word.Semicolon ∷ []
      = l.1 ∙ ap (λ y. y ∷ []) (token_is l.0 word.Semicolon l.2) in
      let inner : q.rest ≡ c.front ++ lexeme l.0.at word.Semicolon ∷ []
      = c.whole ∙ ap (λ r. c.front ++ r) last in
      let middle : b.behind ≡ lexeme q.item.at word.Equals ∷
      (c.front ++ lexeme l.0.at word.Semicolon ∷ [])
      = q.whole ∙ (λ j. token_is q.item word.Equals q.like j ∷ inner j) in
      let behind : n.rest ≡ binders g.params ++
      (lexeme q.item.at word.Equals ∷ (c.front ++ lexeme l.0.at word.Semicolon ∷ []))
      = b.whole ∙ (λ j. params.1 j ++ middle j) in (
        Defines g,
        (
          q.item.at,
          l.0.at,
          c.front,
          e.1,
          n.whole ∙
              (λ j. token_is n.item (word.Name n.like.0) n.like.1 j ∷ behind j),
        ),
        (n.like.2, params.2, e.2),
      )

  pub record SpellsAgain (room : NestingLimit) (ds : List Decl) (ts : List Lexeme) : Type 0 where
    pub decls : List Decl
    pub spelled : SpellsDecls room decls ts
    pub constructors : AllZip (SameData names others) (constructors_of ds) (constructors_of decls)
    pub functions : AllZip (SameFunction names others) (functions_of ds) (functions_of decls)

  one_more : (room : NestingLimit) (d e : Decl) (ds : List Decl) (us vs ts : List Lexeme)
      → SameDecl d e → SpellsDecl room e us → ts ≡ us ++ vs → SpellsAgain room ds vs
      → SpellsAgain room (d ∷ ds) ts
  one_more room (Declares d) (Declares e) ds us vs ts r h w m
      = record {
        decls = Declares e ∷ m.decls;
        spelled = (us, vs, h, m.spelled, w);
        constructors
            = (r, m.constructors);
        functions = m.functions;
      }
  one_more room (Declares d) (Defines g) ds us vs ts r h w m = absurd r
  one_more room (Defines f) (Declares e) ds us vs ts r h w m = absurd r
  one_more room (Defines f) (Defines g) ds us vs ts r h w m
      = record {
        decls = Defines g ∷ m.decls;
        spelled = (us, vs, h, m.spelled, w);
        constructors
            = m.constructors;
        functions = (r, m.functions);
      }

  pub decls_again : (room : NestingLimit) (ds : List Decl) (us ts : List Lexeme)
      → SpellsDecls room ds us → AreLike us ts → SpellsAgain room ds ts
  decls_again room [] us ts h z = record {
    decls = [];
    spelled = none ts (subst (λ v. AreLike v ts) h z);
    constructors = tt;
    functions
        = tt;
  }
  decls_again room (d ∷ ds) us ts h z =
      let c = cut h.0 h.1 ts (subst (λ v. AreLike v ts) h.4 z) in
      let e = decl_again room d h.0 c.front h.2 c.first in
      one_more room d e.0 ds c.front c.behind ts e.2 e.1 c.whole
      (decls_again room ds h.1 c.behind h.3 c.second)
