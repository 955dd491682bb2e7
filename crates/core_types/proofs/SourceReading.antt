-- The reading of programs with types owes what a reading of a text owes.
use Rattle.std.proofs.Common.{◌≡◌, ℕ, suc, Bool, true, false, cond, List, [], ◌∷◌, ◌++◌, Result, Ok, refl, sym, ap, subst, ◌∙◌, append_assoc, map}
use Rattle.std.specs.Prelude.{codes}
use Rattle.std.proofs.lemmas.List.{append-nil}
use Rattle.core_reader.specs.declared.dialect.Dialect.TheVariants.{Types}
use Rattle.core_reader.specs.declared.syntax.NameId.{NameId}
use Rattle.core_reader.specs.declared.syntax.Binder.{Binder}
use Rattle.core_reader.specs.declared.token.Token.{Token}
use Rattle.core_reader.specs.declared.token.Token.TheVariants as word
use Rattle.core_reader.specs.declared.token.Further.TheVariants as further
use Rattle.core_reader.specs.declared.token.Lexeme.{Lexeme}
use Rattle.core_reader.specs.declared.refusal.ReadRefusal.{ReadRefusal}
use Rattle.core_reader.specs.declared.refusal.ReadRefusal.TheVariants.{BadByte, TooDeep}
use Rattle.core_reader.specs.Tree.{Expr, NoTerms}
use Rattle.core_reader.specs.Grammar.{NestingLimit, lexeme, binders, SpellsExpr}
use Rattle.core_reader.specs.TokensOf.{Piece}
use Rattle.core_reader.specs.WordsOf.{said}
use Rattle.core_reader.specs.NamesOf.{names_of}
use Rattle.core_reader.specs.ReadingOf.{follow, run_of}
use Rattle.core_reader.specs.Machine.{Outermost, InBody, Apply, Ended, starts_atom}
use Rattle.core_reader.specs.AroundOf.{next, refuse, Outside, Within, step_of_move}
use Rattle.core_reader.proofs.NamingOf.{Texts}
use Rattle.core_reader.proofs.ReadingOf.{ended, Laws, ReadsLanguage, takes_names}
use Rattle.core_reader.proofs.AroundOf.{continue, through, GoodMove, AroundLaws, around_laws}
use Rattle.core_reader.proofs.Complete.{reads_body}
use Rattle.core_reader.proofs.Sound.{binders_last}
use Rattle.core_reader.proofs.Ending.{piece, constructor}
use Rattle.core_types.specs.Source.{Written, WrittenTypes, Var, Named, Arrow, NoTypes, AndType, Constructor, TypeDecl, Source}
use Rattle.core_types.specs.Grammar.{name_at, con_at, SpellsType, SpellsInner, SpellsTypes, Variable, Constant, Bracket, Alone, Applied, OneArrow, None, More, bar, SpellsConstructor, SpellsConstructors, IsNonemptyConstructors, SpellsArgumentTypes, Decl, Declares, Signs, Defines, SpellsDecl, SpellsDecls, types_of, signatures_of, functions_of}
use Rattle.core_types.specs.Text.{IsSource}
use Rattle.core_types.specs.Reading.{binder, with_last, empty_type_decl, with_new_constructor, signed, function_declaration, Frame, InFields, InParts, InArguments, InResult, InBrackets, nests, Own, Top, TypeName, TypeParams, ConName, Fields, SigName, SigColon, SigBehind, Params, OneType, Opened, Arguments, Behind, Closing, Hole, InFunction, Transition, given, begin, arrow_behind, move, finish, declarations, types, step}
use Rattle.core_types.proofs.SourceMoves.{judged, finish_plain, move_goes, move_stops, finish_range, finish_stops, move_last, finish_last, move_end, finish_end}

-- ---- the tokens that were read

-- the sign before the next constructor
abbrev pub sign_before : Token → List Constructor → Token
sign_before sign [] = sign
sign_before sign (c ∷ cs) = bar

-- before a type of one piece
abbrev pub Before : NestingLimit → Frame → List Lexeme → Type 0
Before l (InFields ds d c ts) us =
    (ws xs vs : List Lexeme) × (p q : ℕ) × SpellsDecls l ds ws
    × SpellsConstructors l word.Equals d.constructors xs × SpellsTypes l 0 ts vs
    × (us ≡ ws ++
    (lexeme p (word.Further further.TypeDecl) ∷ con_at d.name ∷
    (binders d.params ++
    (xs ++ (lexeme q (sign_before word.Equals d.constructors) ∷ con_at c ∷ vs)))))
Before l (InParts ds f ts) us =
    (ws vs : List Lexeme) × (p q : ℕ) × SpellsDecls l ds ws × SpellsArgumentTypes l ts vs
    × (us ≡ ws ++
    (lexeme p (word.Further further.Signature) ∷ name_at f ∷ lexeme q
    (word.Further further.Colon) ∷ vs))
Before l (InArguments k b ts) us =
    (ws vs : List Lexeme) × (p : ℕ) × Before l k ws × (l (nests k) ≡ true)
    × SpellsTypes l (suc (nests k)) ts vs × (us ≡ ws ++ (lexeme p word.Open ∷ con_at b ∷ vs))
Before l (InResult k t) us =
    (ws vs : List Lexeme) × (p q : ℕ) × Before l k ws × (l (nests k) ≡ true)
    × SpellsType l (suc (nests k)) t vs ×
    (us ≡ ws ++ (lexeme p word.Open ∷ (vs ++ lexeme q word.Arrow ∷ [])))
Before l (InBrackets k) us = (ws : List Lexeme) × (p : ℕ) × Before l k ws × (l (nests k) ≡ true)
    × (us ≡ ws ++ lexeme p word.Open ∷ [])

abbrev pub Known : NestingLimit → Own → List Lexeme → Type 0
Known l (Top ds) us = SpellsDecls l ds us
Known l (TypeName ds) us = (ws : List Lexeme) × (p : ℕ) × SpellsDecls l ds ws
    × (us ≡ ws ++ lexeme p (word.Further further.TypeDecl) ∷ [])
Known l (TypeParams ds b ps) us = (ws : List Lexeme) × (p : ℕ) × SpellsDecls l ds ws
    × (us ≡ ws ++ (lexeme p (word.Further further.TypeDecl) ∷ con_at b ∷ binders ps))
Known l (ConName ds d) us =
    (ws xs : List Lexeme) × (p q : ℕ) × SpellsDecls l ds ws
    × SpellsConstructors l word.Equals d.constructors xs
    × (us ≡ ws ++
    (lexeme p (word.Further further.TypeDecl) ∷ con_at d.name ∷
    (binders d.params ++ (xs ++ lexeme q (sign_before word.Equals d.constructors) ∷ []))))
Known l (Fields ds d c ts) us = Before l (InFields ds d c ts) us
Known l (SigName ds) us = (ws : List Lexeme) × (p : ℕ) × SpellsDecls l ds ws
    × (us ≡ ws ++ lexeme p (word.Further further.Signature) ∷ [])
Known l (SigColon ds f) us = (ws : List Lexeme) × (p : ℕ) × SpellsDecls l ds ws
    × (us ≡ ws ++ (lexeme p (word.Further further.Signature) ∷ name_at f ∷ []))
Known l (SigBehind ds f ts t) us =
    (ws vs xs : List Lexeme) × (p q : ℕ) × SpellsDecls l ds ws × SpellsArgumentTypes l ts vs
    × SpellsType l 0 t xs
    × (us ≡ ws ++
    (lexeme p (word.Further further.Signature) ∷ name_at f ∷ lexeme q
    (word.Further further.Colon) ∷ (vs ++ xs)))
Known l (Params ds f ps) us = (ws : List Lexeme) × SpellsDecls l ds ws
    × (us ≡ ws ++ (name_at f ∷ binders ps))
Known l (OneType k) us = Before l k us
Known l (Opened k) us = Before l (InBrackets k) us
Known l (Arguments k b ts) us = Before l (InArguments k b ts) us
Known l (Behind k t) us = (ws vs : List Lexeme) × (p : ℕ) × Before l k ws × (l (nests k) ≡ true)
    × SpellsType l (suc (nests k)) t vs × (us ≡ ws ++ (lexeme p word.Open ∷ vs))
Known l (Closing k t) us = (ws vs : List Lexeme) × (p : ℕ) × Before l k ws × (l (nests k) ≡ true)
    × SpellsInner l (suc (nests k)) t vs × (us ≡ ws ++ (lexeme p word.Open ∷ vs))

abbrev pub Opens : NestingLimit → Hole → List Lexeme → Type 0
Opens l (InFunction ds f ps) us = (ws : List Lexeme) × (q : ℕ) × SpellsDecls l ds ws
    × (us ≡ ws ++ (name_at f ∷ (binders ps ++ lexeme q word.Equals ∷ [])))

-- ---- one more at the end

more_types : (l : NestingLimit) (depth : ℕ) (ts : WrittenTypes) (t : Written) (us vs : List Lexeme)
    → SpellsTypes l depth ts us → SpellsType l depth t vs
    → SpellsTypes l depth (with_last ts t) (us ++ vs)
more_types l depth NoTypes t us vs (None d) g = More depth t NoTypes vs [] vs g (None depth)
    (sym (append-nil vs))
more_types l depth (AndType u ts) t us vs (More d u1 ts1 xs ys zs h k e) g =
    More depth u (with_last ts t) xs (ys ++ vs) (us ++ vs) h (more_types l depth ts t ys vs k g)
    (ap (λ w. w ++ vs) e ∙ append_assoc xs ys vs)

bar_before : (cs : List Constructor) → sign_before bar cs ≡ bar
bar_before [] = refl
bar_before (c ∷ cs) = refl

sign_last : (sign : Token) (cs : List Constructor) (c : Constructor)
    → sign_before sign (cs ++ c ∷ []) ≡ bar
sign_last sign [] c = refl
sign_last sign (e ∷ cs) c = refl

some_last : (cs : List Constructor) (c : Constructor) → IsNonemptyConstructors (cs ++ c ∷ [])
some_last [] c = tt
some_last (e ∷ cs) c = tt

constructors_last : (l : NestingLimit) (sign : Token) (cs : List Constructor) (c : Constructor)
    (us vs : List Lexeme) (q : ℕ) → SpellsConstructors l sign cs us → SpellsConstructor l c vs
    → SpellsConstructors l sign (cs ++ c ∷ []) (us ++ lexeme q (sign_before sign cs) ∷ vs)
constructors_last l sign [] c us vs q h g = (
  q,
  vs,
  [],
  g,
  refl,
  ap (λ w. w ++ lexeme q sign ∷ vs) h ∙ ap (λ w. lexeme q sign ∷ w)
      (sym (append-nil vs)),
)
constructors_last l sign (e ∷ cs) c us vs q h g =
    let more = lexeme q bar ∷ vs in
    let later : SpellsConstructors l bar (cs ++ c ∷ []) (h.2 ++ more)
    = subst (λ w. SpellsConstructors l bar (cs ++ c ∷ []) (h.2 ++ lexeme q w ∷ vs))
    (bar_before cs) (constructors_last l bar cs c h.2 vs q h.4 g) in (
      h.0,
      h.1,
      h.2 ++ more,
      h.3,
      later,
      ap (λ w. w ++ more) h.5 ∙ ap (λ w. lexeme h.0 sign ∷ w)
          (append_assoc h.1 h.2 more),
    )

parts_last : (l : NestingLimit) (ts : WrittenTypes) (t : Written) (us vs : List Lexeme) (p : ℕ)
    → SpellsArgumentTypes l ts us → SpellsType l 0 t vs
    → SpellsArgumentTypes l (with_last ts t) (us ++ (vs ++ lexeme p word.Arrow ∷ []))
parts_last l NoTypes t us vs p h g =
    (p, vs, [], g, refl, ap (λ w. w ++ (vs ++ lexeme p word.Arrow ∷ [])) h)
parts_last l (AndType u ts) t us vs p h g =
    let more = vs ++ lexeme p word.Arrow ∷ [] in
    let e : us ++ more ≡ h.1 ++ (lexeme h.0 word.Arrow ∷ (h.2 ++ more)) = simp (h.5, append_assoc)
    in
    (h.0, h.1, h.2 ++ more, h.3, parts_last l ts t h.2 vs p h.4 g, e)

decls_last : (l : NestingLimit) (ds : List Decl) (d : Decl) (us vs : List Lexeme)
    → SpellsDecls l ds us → SpellsDecl l d vs → SpellsDecls l (ds ++ d ∷ []) (us ++ vs)
decls_last l [] d us vs h g = (vs, [], g, refl, rw (h, append-nil) refl)
decls_last l (e ∷ es) d us vs h g = (
  h.0,
  h.1 ++ vs,
  h.2,
  decls_last l es d h.1 vs h.3 g,
  ap (λ w. w ++ vs) h.4 ∙ append_assoc h.0 h.1 vs,
)

-- ---- each state knows what was read

given_known : (l : NestingLimit) (k : Frame) (t : Written) (us vs : List Lexeme) → Before l k us
    → SpellsType l (nests k) t vs → Known l (given k t) (us ++ vs)
given_known l (InFields ds d c ts) t us vs h g = (
  h.0,
  h.1,
  h.2 ++ vs,
  h.3,
  h.4,
  h.5,
  h.6,
  more_types l 0 ts t h.2 vs h.7 g,
  simp (h.8, append_assoc),
)
given_known l (InParts ds f ts) t us vs h g =
    (h.0, h.1, vs, h.2, h.3, h.4, h.5, g, simp (h.6, append_assoc))
given_known l (InArguments k b ts) t us vs h g = (
  h.0,
  h.1 ++ vs,
  h.2,
  h.3,
  h.4,
  more_types l (suc (nests k)) ts t h.1 vs h.5 g,
  simp (h.6, append_assoc),
)
given_known l (InResult k u) t us vs h g =
    let more = h.1 ++ (lexeme h.3 word.Arrow ∷ vs) in (
      h.0,
      more,
      h.2,
      h.4,
      h.5,
      OneArrow (suc (nests k)) h.3 u t h.1 vs more h.6 g refl,
      simp (h.7, append_assoc),
    )
given_known l (InBrackets k) t us vs h g = (h.0, vs, h.1, h.2, h.3, g, simp (h.4, append_assoc))

abbrev Good : NestingLimit → Transition → List Lexeme → Type 0
Good l m ts = GoodMove (Known l) (Opens l) (SpellsDecls l) m ts

open_good : (l : NestingLimit) (k : Frame) (us : List Lexeme) (at : ℕ) (b : Bool) → l (nests k) ≡ b
    → Before l k us → Good l (cond b (next (Opened k)) (refuse (TooDeep at)))
    (us ++ lexeme at word.Open ∷ [])
open_good l k us at true e h = (us, at, h, e, refl)
open_good l k us at false e h = tt

begin_good : (l : NestingLimit) (k : Frame) (us : List Lexeme) (at : ℕ) (token : Token)
    → Before l k us → Good l (begin l k at token) (us ++ lexeme at token ∷ [])
begin_good l k us at (word.Name n) h = given_known l k (Var (binder n at)) us
    (name_at (binder n at) ∷ []) h (Variable (nests k) (binder n at))
begin_good l k us at (word.Con n) h = given_known l k (Named (binder n at) NoTypes) us
    (con_at (binder n at) ∷ []) h (Constant (nests k) (binder n at))
begin_good l k us at word.Open h = open_good l k us at (l (nests k)) refl h
begin_good l k us at token h = tt

-- a `)` was read
closed_known : (l : NestingLimit) (k : Frame) (t : Written) (us ws vs : List Lexeme) (p at : ℕ)
    → Before l k ws → l (nests k) ≡ true → SpellsInner l (suc (nests k)) t vs → us ≡ ws
    ++ (lexeme p word.Open ∷ vs) → Known l (given k t) (us ++ lexeme at word.Close ∷ [])
closed_known l k t us ws vs p at h room g e =
    let xs = lexeme p word.Open ∷ (vs ++ lexeme at word.Close ∷ []) in
    let f : us ++ lexeme at word.Close ∷ [] ≡ ws ++ xs = simp (e, append_assoc) in
    subst (Known l (given k t)) (sym f)
    (given_known l k t ws xs h (Bracket (nests k) p at t vs xs room g refl))

applied_inner : (l : NestingLimit) (depth : ℕ) (b : Binder) (ts : WrittenTypes) (vs : List Lexeme)
    → SpellsTypes l depth ts vs → SpellsInner l depth (Named b ts) (con_at b ∷ vs)
applied_inner l depth b NoTypes vs (None d) = Alone depth (Named b NoTypes) (con_at b ∷ [])
    (Constant depth b)
applied_inner l depth b (AndType t ts) vs h = Applied depth b (AndType t ts) vs tt h

arrow_good : (l : NestingLimit) (k : Frame) (b : Binder) (ts : WrittenTypes) (us : List Lexeme)
    (at : ℕ) → Before l (InArguments k b ts) us → Good l (arrow_behind k b ts at)
    (us ++ lexeme at word.Arrow ∷ [])
arrow_good l k b NoTypes us at h =
    let empty = no_types h.1 h.5 in (
      h.0,
      con_at b ∷ [],
      h.2,
      at,
      h.3,
      h.4,
      Constant (suc (nests k)) b,
      simp (h.6, empty, append_assoc),
    )
  where
    no_types : (vs : List Lexeme) → SpellsTypes l (suc (nests k)) NoTypes vs → vs ≡ []
    no_types vs (None d) = refl
arrow_good l k b (AndType t ts) us at h = tt

sound_move : (l : NestingLimit) (o : Own) (ts : List Lexeme) (at : ℕ) (token : Token) → Known l o ts
    → Good l (move l o at token) (ts ++ lexeme at token ∷ [])
sound_move l (Top ds) us at (word.Further further.TypeDecl) h = (us, at, h, refl)
sound_move l (Top ds) us at (word.Further further.Signature) h = (us, at, h, refl)
sound_move l (Top ds) us at (word.Name n) h = (us, h, refl)
sound_move l (Top ds) us at word.End h = (us, at, h, refl)
sound_move l (TypeName ds) us at (word.Con n) h = (h.0, h.1, h.2, simp (h.3, append_assoc))
sound_move l (TypeParams ds b ps) us at (word.Name n) h
    = (h.0, h.1, h.2, simp (h.3, append_assoc, binders_last))
sound_move l (TypeParams ds b ps) us at word.Equals h
    = (h.0, [], h.1, at, h.2, refl, simp (h.3, append_assoc))
sound_move l (ConName ds d) us at (word.Con n) h =
    (h.0, h.1, [], h.2, h.3, h.4, h.5, None 0, simp (h.6, append_assoc))
sound_move l (Fields ds d c ts) us at (word.Further further.Bar) h =
    let con : Constructor = record { name = c; fields = ts } in
    let xs = h.1 ++ lexeme h.4 (sign_before word.Equals d.constructors) ∷ con_at c ∷ h.2 in
    let e : us ++ lexeme at bar ∷ [] ≡ h.0 ++
    (lexeme h.3 (word.Further further.TypeDecl) ∷ con_at d.name ∷
    (binders d.params ++ (xs ++ lexeme at bar ∷ []))) = simp (h.8, append_assoc) in
    let f = ap
    (λ w. h.0 ++
    (lexeme h.3 (word.Further further.TypeDecl) ∷ con_at d.name ∷
    (binders d.params ++ (xs ++ lexeme at w ∷ []))))
    (sym (sign_last word.Equals d.constructors con)) in (
      h.0,
      xs,
      h.3,
      at,
      h.5,
      constructors_last l word.Equals d.constructors con h.1 (con_at c ∷ h.2)
          h.4 h.6 (h.2, h.7, refl),
      e ∙ f,
    )
sound_move l (Fields ds d c ts) us at word.Semicolon h =
    let con : Constructor = record { name = c; fields = ts } in
    let xs = h.1 ++ lexeme h.4 (sign_before word.Equals d.constructors) ∷ con_at c ∷ h.2 in
    let vs = lexeme h.3 (word.Further further.TypeDecl) ∷ con_at d.name ∷
    (binders d.params ++ (xs ++ lexeme at word.Semicolon ∷ [])) in
    let e : us ++ lexeme at word.Semicolon ∷ [] ≡ h.0 ++ vs = simp (h.8, append_assoc) in
    let cons = constructors_last l word.Equals d.constructors con h.1 (con_at c ∷ h.2) h.4 h.6
    (h.2, h.7, refl) in
    subst (SpellsDecls l (ds ++ Declares (with_new_constructor d c ts) ∷ [])) (sym e)
    (decls_last l ds (Declares (with_new_constructor d c ts)) h.0 vs h.5
    (h.3, at, xs, some_last d.constructors con, cons, refl))
sound_move l (Fields ds d c ts) us at token h = begin_good l (InFields ds d c ts) us at token h
sound_move l (SigName ds) us at (word.Name n) h = (h.0, h.1, h.2, simp (h.3, append_assoc))
sound_move l (SigColon ds f) us at (word.Further further.Colon) h
    = (h.0, [], h.1, at, h.2, refl, simp (h.3, append_assoc))
sound_move l (SigBehind ds f ts t) us at word.Arrow h
    = (
      h.0,
      h.1 ++ (h.2 ++ lexeme at word.Arrow ∷ []),
      h.3,
      h.4,
      h.5,
      parts_last l ts t h.1 h.2 at h.6 h.7,
      simp (h.8, append_assoc),
    )
sound_move l (SigBehind ds f ts t) us at word.Semicolon h =
    let vs = lexeme h.3 (word.Further further.Signature) ∷ name_at f ∷ lexeme h.4
    (word.Further further.Colon) ∷ (h.1 ++ (h.2 ++ lexeme at word.Semicolon ∷ [])) in
    let e : us ++ lexeme at word.Semicolon ∷ [] ≡ h.0 ++ vs = simp (h.8, append_assoc) in
    subst (SpellsDecls l (ds ++ signed f ts t ∷ [])) (sym e)
    (decls_last l ds (signed f ts t) h.0 vs h.5 (h.3, h.4, at, h.1, h.2, h.6, h.7, refl))
sound_move l (Params ds f ps) us at (word.Name n) h
    = (h.0, h.1, simp (h.2, append_assoc, binders_last))
sound_move l (Params ds f ps) us at word.Equals h = (h.0, at, h.1, simp (h.2, append_assoc))
sound_move l (OneType k) us at token h = begin_good l k us at token h
sound_move l (Opened k) us at (word.Con n) h =
    (h.0, [], h.1, h.2, h.3, None (suc (nests k)), simp (h.4, append_assoc))
sound_move l (Opened k) us at token h = begin_good l (InBrackets k) us at token h
sound_move l (Arguments k b ts) us at word.Close h = closed_known l k (Named b ts) us h.0
    (con_at b ∷ h.1) h.2 at h.3 h.4 (applied_inner l (suc (nests k)) b ts h.1 h.5) h.6
sound_move l (Arguments k b ts) us at word.Arrow h = arrow_good l k b ts us at h
sound_move l (Arguments k b ts) us at token h = begin_good l (InArguments k b ts) us at token h
sound_move l (Behind k t) us at word.Close h = closed_known l k t us h.0 h.1 h.2 at h.3 h.4
    (Alone (suc (nests k)) t h.1 h.5) h.6
sound_move l (Behind k t) us at word.Arrow h =
    (h.0, h.1, h.2, at, h.3, h.4, h.5, simp (h.6, append_assoc))
sound_move l (Closing k t) us at word.Close h = closed_known l k t us h.0 h.1 h.2 at h.3 h.4 h.5 h.6
sound_move l o us at token h = tt

sound_finish : (l : NestingLimit) (k : Hole) (e : Expr) (us vs : List Lexeme) (at : ℕ)
    (token : Token) → Opens l k us → SpellsExpr l 0 e vs
    → Good l (finish k e at token) ((us ++ vs) ++ lexeme at token ∷ [])
sound_finish l (InFunction ds f ps) e us vs at word.Semicolon h g =
    let ws = name_at f ∷
    (binders ps ++ (lexeme h.1 word.Equals ∷ (vs ++ lexeme at word.Semicolon ∷ []))) in
    let same : (us ++ vs) ++ lexeme at word.Semicolon ∷ [] ≡ h.0 ++ ws = simp (h.3, append_assoc) in
    subst (SpellsDecls l (ds ++ function_declaration f ps e ∷ [])) (sym same)
    (decls_last l ds (function_declaration f ps e) h.0 ws h.2 (h.1, at, vs, g, refl))
sound_finish l k e us vs at token h g = tt

-- ---- the tokens that complete what was read

semicolon : Piece
semicolon = piece (codes ";")

close : Piece
close = piece (codes ")")

closers : Frame → List Piece
closers (InFields ds d c ts) = semicolon ∷ []
closers (InParts ds f ts) = semicolon ∷ []
closers (InArguments k b ts) = close ∷ closers k
closers (InResult k t) = close ∷ closers k
closers (InBrackets k) = close ∷ closers k

closing : Own → List Piece
closing (Top ds) = []
closing (TypeName ds) = constructor ∷ piece (codes "=") ∷ constructor ∷ semicolon ∷ []
closing (TypeParams ds b ps) = piece (codes "=") ∷ constructor ∷ semicolon ∷ []
closing (ConName ds d) = constructor ∷ semicolon ∷ []
closing (Fields ds d c ts) = semicolon ∷ []
closing (SigName ds) = piece (codes "a") ∷ piece (codes ":") ∷ constructor ∷ semicolon ∷ []
closing (SigColon ds f) = piece (codes ":") ∷ constructor ∷ semicolon ∷ []
closing (SigBehind ds f ts t) = semicolon ∷ []
closing (Params ds f ps) = piece (codes "=") ∷ constructor ∷ semicolon ∷ []
closing (OneType k) = constructor ∷ closers k
closing (Opened k) = constructor ∷ close ∷ closers k
closing (Arguments k b ts) = close ∷ closers k
closing (Behind k t) = close ∷ closers k
closing (Closing k t) = close ∷ closers k

abbrev run : NestingLimit → Own → List Lexeme → Result (List Decl) ReadRefusal
run l o ts = run_of step l (Outside o) ts

closes_given : (names : Texts) (l : NestingLimit) (k : Frame) (t : Written) → (ds : List Decl)
    × (run l (given k t) (ended Types names (closers k)) ≡ Ok ds)
unfolding closers run_of close semicolon
closes_given names l (InFields ds d c ts) t = (_, refl)
closes_given names l (InParts ds f ts) t = (_, refl)
closes_given names l (InArguments k b ts) t = closes_given names l k (Named b (with_last ts t))
closes_given names l (InResult k u) t = closes_given names l k (Arrow u t)
closes_given names l (InBrackets k) t = closes_given names l k t

closes : (names : Texts) (l : NestingLimit) (o : Own) → (ds : List Decl)
    × (run l o (ended Types names (closing o)) ≡ Ok ds)
unfolding closing run_of close semicolon closers
closes names l (Top ds) = (ds, refl)
closes names l (TypeName ds) = (_, refl)
closes names l (TypeParams ds b ps) = (_, refl)
closes names l (ConName ds d) = (_, refl)
closes names l (Fields ds d c ts) = (_, refl)
closes names l (SigName ds) = (_, refl)
closes names l (SigColon ds f) = (_, refl)
closes names l (SigBehind ds f ts t) = (_, refl)
closes names l (Params ds f ps) = (_, refl)
closes names l (OneType k) = closes_given names l k (Named _ NoTypes)
closes names l (Opened k) = closes_given names l k (Named _ NoTypes)
closes names l (Arguments k b ts) = closes_given names l k (Named b ts)
closes names l (Behind k t) = closes_given names l k t
closes names l (Closing k t) = closes_given names l k t

gives : (names : Texts) (l : NestingLimit) (k : Hole) (e : Expr) → (ds : List Decl)
    × (run_of step l (Within k (Ended Outermost e))
    (said Types names semicolon ∷ ended Types names []) ≡ Ok ds)
unfolding run_of semicolon
gives names l (InFunction ds f ps) e = (ds ++ function_declaration f ps e ∷ [], refl)

goes_on : (names : Texts) (k : Hole) → starts_atom (said Types names semicolon).token ≡ false
unfolding semicolon
goes_on names k = refl

-- ---- what spells a type is read as that type

-- a state in which a type of this frame begins
abbrev Begins : NestingLimit → Own → Frame → Type 0
Begins l o k =
    ((at : ℕ) (n : NameId) → move l o at (word.Name n) ≡ begin l k at (word.Name n))
    × ((at : ℕ) (n : NameId) → move l o at (word.Con n) ≡ begin l k at (word.Con n))
    × ((at : ℕ) → move l o at word.Open ≡ begin l k at word.Open)

begins_run : (l : NestingLimit) (o : Own) (k : Frame) → Begins l o k
    → (depth : ℕ) (t : Written) (ts rest : List Lexeme) → SpellsType l depth t ts
    → run l o (ts ++ rest) ≡ run l (OneType k) (ts ++ rest)
unfolding run_of
begins_run l o k h depth t ts rest (Variable d b) = ap
    (λ m. follow (step_of_move m) (λ s. run_of step l s rest)) (h.0 b.at b.name)
begins_run l o k h depth t ts rest (Constant d b) = ap
    (λ m. follow (step_of_move m) (λ s. run_of step l s rest)) (h.1 b.at b.name)
begins_run l o k h depth t ts rest (Bracket d p q u us vs room g e) =
    let more = us ++ lexeme q word.Close ∷ [] in
    ap (λ w. run l o (w ++ rest)) e
    ∙ ap (λ m. follow (step_of_move m) (λ s. run_of step l s (more ++ rest))) (h.2 p)
    ∙ ap (λ w. run l (OneType k) (w ++ rest)) (sym e)

joined : WrittenTypes → WrittenTypes → WrittenTypes
joined NoTypes us = us
joined (AndType t ts) us = AndType t (joined ts us)

joined_last : (ts : WrittenTypes) (t : Written) (us : WrittenTypes)
    → joined (with_last ts t) us ≡ joined ts (AndType t us)
unfolding joined
joined_last NoTypes t us = refl
joined_last (AndType u ts) t us = ap (AndType u) (joined_last ts t us)

joined_none : (ts : WrittenTypes) → joined ts NoTypes ≡ ts
unfolding joined
joined_none NoTypes = refl
joined_none (AndType u ts) = ap (AndType u) (joined_none ts)

opening_run : (l : NestingLimit) (k : Frame) (p : ℕ) (rest : List Lexeme) → l (nests k) ≡ true
    → run l (OneType k) (lexeme p word.Open ∷ rest) ≡ run l (Opened k) rest
unfolding run_of
opening_run l k p rest e = ap
    (λ b. follow (step_of_move (cond b (next (Opened k)) (refuse (TooDeep p))))
    (λ s. run_of step l s rest)) e

alone_run : (l : NestingLimit) (k : Frame) (depth q : ℕ) (t : Written) (us rest : List Lexeme)
    → SpellsType l depth t us → run l (OneType (InBrackets k)) (us ++ lexeme q word.Close ∷ rest) ≡
    run l (Behind k t) (lexeme q word.Close ∷ rest)
    → run l (Opened k) (us ++ lexeme q word.Close ∷ rest) ≡ run l (given k t) rest
unfolding run_of
alone_run l k depth q t us rest (Variable d b) h = refl
alone_run l k depth q t us rest (Constant d b) h = refl
alone_run l k depth q t us rest (Bracket d p r u vs ts room g e) h
    = ap (λ w. run l (Opened k) (w ++ lexeme q word.Close ∷ rest)) e ∙ ap
    (λ w. run l (OneType (InBrackets k)) (w ++ lexeme q word.Close ∷ rest)) (sym e) ∙ h

first_run : (l : NestingLimit) (k : Frame) (depth q : ℕ) (t : Written) (us rest : List Lexeme)
    → SpellsType l depth t us → run l (OneType (InBrackets k)) (us ++ lexeme q word.Arrow ∷ rest) ≡
    run l (Behind k t) (lexeme q word.Arrow ∷ rest)
    → run l (Opened k) (us ++ lexeme q word.Arrow ∷ rest) ≡ run l (OneType (InResult k t)) rest
unfolding run_of
first_run l k depth q t us rest (Variable d b) h = refl
first_run l k depth q t us rest (Constant d b) h = refl
first_run l k depth q t us rest (Bracket d p r u vs ts room g e) h
    = ap (λ w. run l (Opened k) (w ++ lexeme q word.Arrow ∷ rest)) e ∙ ap
    (λ w. run l (OneType (InBrackets k)) (w ++ lexeme q word.Arrow ∷ rest)) (sym e) ∙ h

argument_begins : (l : NestingLimit) (k : Frame) (b : Binder) (ts : WrittenTypes)
    → Begins l (Arguments k b ts) (InArguments k b ts)
argument_begins l k b ts = (λ at n. refl, λ at n. refl, λ at. refl)

field_begins : (l : NestingLimit) (ds : List Decl) (d : TypeDecl) (c : Binder) (ts : WrittenTypes)
    → Begins l (Fields ds d c ts) (InFields ds d c ts)
field_begins l ds d c ts = (λ at n. refl, λ at n. refl, λ at. refl)

close_run : (l : NestingLimit) (k : Frame) (b : Binder) (args : WrittenTypes) (q : ℕ)
    (rest : List Lexeme) → run l (Arguments k b args) (lexeme q word.Close ∷ rest) ≡ run l
    (given k (Named b args)) rest
unfolding run_of
close_run l k b args q rest = refl

closing_run : (l : NestingLimit) (k : Frame) (t : Written) (q : ℕ) (rest : List Lexeme)
    → run l (Closing k t) (lexeme q word.Close ∷ rest) ≡ run l (given k t) rest
unfolding run_of
closing_run l k t q rest = refl

named_run : (l : NestingLimit) (k : Frame) (b : Binder) (rest : List Lexeme)
    → run l (Opened k) (con_at b ∷ rest) ≡ run l (Arguments k b NoTypes) rest
unfolding run_of
named_run l k b rest = refl

mutual
  unfolding run_of joined

  reads_type : (l : NestingLimit) (k : Frame) (depth : ℕ) (t : Written) (ts rest : List Lexeme)
      → nests k ≡ depth → SpellsType l depth t ts → run l (OneType k) (ts ++ rest) ≡ run l
      (given k t) rest
  reads_type l k depth t ts rest n (Variable d b) = refl
  reads_type l k depth t ts rest n (Constant d b) = refl
  reads_type l k depth t ts rest n (Bracket d p q u us vs room g e) =
      ap (λ w. run l (OneType k) (w ++ rest)) e
      ∙ opening_run l k p ((us ++ lexeme q word.Close ∷ []) ++ rest) (ap l n ∙ room)
      ∙ ap (run l (Opened k)) (append_assoc us (lexeme q word.Close ∷ []) rest)
      ∙ reads_inner l k (suc depth) q t us rest (ap suc n) g

  reads_inner : (l : NestingLimit) (k : Frame) (depth q : ℕ) (t : Written) (us rest : List Lexeme)
      → suc (nests k) ≡ depth → SpellsInner l depth t us
      → run l (Opened k) (us ++ lexeme q word.Close ∷ rest) ≡ run l (given k t) rest
  reads_inner l k depth q t us rest n (Alone d u vs h)
      = alone_run l k depth q t us rest h
      (reads_type l (InBrackets k) depth t us (lexeme q word.Close ∷ rest) n h)
  reads_inner l k depth q t us rest n (Applied d b args vs some h) =
      named_run l k b (vs ++ lexeme q word.Close ∷ rest) ∙ reads_args l k b NoTypes depth args vs
      (lexeme q word.Close ∷ rest) n h ∙ close_run l k b args q rest
  reads_inner l k depth q t us rest n (OneArrow d p u v xs ys zs h g e) =
      let after = lexeme q word.Close ∷ rest in
      ap (λ w. run l (Opened k) (w ++ after)) e
      ∙ ap (run l (Opened k)) (append_assoc xs (lexeme p word.Arrow ∷ ys) after)
      ∙ first_run l k depth p u xs (ys ++ after) h
      (reads_type l (InBrackets k) depth u xs (lexeme p word.Arrow ∷ (ys ++ after)) n h)
      ∙ reads_type l (InResult k u) depth v ys after n g
      ∙ closing_run l k (Arrow u v) q rest

  reads_args : (l : NestingLimit) (k : Frame) (b : Binder) (before : WrittenTypes) (depth : ℕ)
      (args : WrittenTypes) (us rest : List Lexeme) → suc (nests k) ≡ depth
      → SpellsTypes l depth args us → run l (Arguments k b before) (us ++ rest) ≡ run l
      (Arguments k b (joined before args)) rest
  reads_args l k b before depth args us rest n (None d)
      = ap (λ w. run l (Arguments k b w) rest) (sym (joined_none before))
  reads_args l k b before depth args us rest n (More d t more xs ys zs h g e) =
      ap (λ w. run l (Arguments k b before) (w ++ rest)) e
      ∙ ap (run l (Arguments k b before)) (append_assoc xs ys rest)
      ∙ begins_run l (Arguments k b before) (InArguments k b before) (argument_begins l k b before)
      depth t xs (ys ++ rest) h
      ∙ reads_type l (InArguments k b before) depth t xs (ys ++ rest) n h
      ∙ reads_args l k b (with_last before t) depth more ys rest n g
      ∙ ap (λ w. run l (Arguments k b w) rest) (joined_last before t more)

reads_fields : (l : NestingLimit) (ds : List Decl) (d : TypeDecl) (c : Binder)
    (before ts : WrittenTypes) (us rest : List Lexeme) → SpellsTypes l 0 ts us
    → run l (Fields ds d c before) (us ++ rest) ≡ run l (Fields ds d c (joined before ts)) rest
reads_fields l ds d c before ts us rest (None e) = ap (λ w. run l (Fields ds d c w) rest)
    (sym (joined_none before))
reads_fields l ds d c before ts us rest (More m t more xs ys zs h g e) =
    ap (λ w. run l (Fields ds d c before) (w ++ rest)) e
    ∙ ap (run l (Fields ds d c before)) (append_assoc xs ys rest)
    ∙ begins_run l (Fields ds d c before) (InFields ds d c before) (field_begins l ds d c before) 0
    t xs (ys ++ rest) h
    ∙ reads_type l (InFields ds d c before) 0 t xs (ys ++ rest) refl h
    ∙ reads_fields l ds d c (with_last before t) more ys rest g
    ∙ ap (λ w. run l (Fields ds d c w) rest) (joined_last before t more)

abbrev declared : TypeDecl → List Constructor → Decl
declared d cs = Declares (record { name = d.name; params = d.params; constructors = cs })

one_constructor : (l : NestingLimit) (ds : List Decl) (d : TypeDecl) (e : Constructor)
    (us rest : List Lexeme) → SpellsConstructor l e us
    → run l (ConName ds d) (us ++ rest) ≡ run l (Fields ds d e.name e.fields) rest
unfolding run_of joined
one_constructor l ds d e us rest h = ap (λ w. run l (ConName ds d) (w ++ rest)) h.2 ∙ reads_fields l
    ds d e.name NoTypes e.fields h.0 rest h.1

more_constructors : (l : NestingLimit) (ds : List Decl) (d : TypeDecl) (c : Constructor)
    (cs : List Constructor) (us rest : List Lexeme) (q : ℕ) → SpellsConstructors l bar cs us
    → run l (Fields ds d c.name c.fields) (us ++ lexeme q word.Semicolon ∷ rest) ≡ run l
    (Top (ds ++ declared d (d.constructors ++ c ∷ cs) ∷ [])) rest
unfolding run_of
more_constructors l ds d c [] us rest q h = ap
    (λ w. run l (Fields ds d c.name c.fields) (w ++ lexeme q word.Semicolon ∷ rest)) h
more_constructors l ds d c (e ∷ cs) us rest q h =
    let d2 = with_new_constructor d c.name c.fields in
    let after = lexeme q word.Semicolon ∷ rest in
    ap (λ w. run l (Fields ds d c.name c.fields) (w ++ after)) h.5
    ∙ ap (run l (ConName ds d2)) (append_assoc h.1 h.2 after)
    ∙ one_constructor l ds d2 e h.1 (h.2 ++ after) h.3
    ∙ more_constructors l ds d2 e cs h.2 rest q h.4
    ∙ ap (λ w. run l (Top (ds ++ declared d w ∷ [])) rest)
    (append_assoc d.constructors (c ∷ []) (e ∷ cs))

all_constructors : (l : NestingLimit) (ds : List Decl) (b : Binder) (ps : List Binder)
    (cs : List Constructor) (us rest : List Lexeme) (q : ℕ) → IsNonemptyConstructors cs
    → SpellsConstructors l word.Equals cs us
    → run l (TypeParams ds b ps) (us ++ lexeme q word.Semicolon ∷ rest) ≡ run l
    (Top (ds ++ declared (empty_type_decl b ps) cs ∷ [])) rest
unfolding run_of
all_constructors l ds b ps [] us rest q some h = absurd some
all_constructors l ds b ps (e ∷ cs) us rest q some h =
    let d = empty_type_decl b ps in
    let after = lexeme q word.Semicolon ∷ rest in
    ap (λ w. run l (TypeParams ds b ps) (w ++ after)) h.5
    ∙ ap (run l (ConName ds d)) (append_assoc h.1 h.2 after)
    ∙ one_constructor l ds d e h.1 (h.2 ++ after) h.3
    ∙ more_constructors l ds d e cs h.2 rest q h.4

reads_parts : (l : NestingLimit) (ds : List Decl) (f : Binder) (before ts : WrittenTypes)
    (us rest : List Lexeme) → SpellsArgumentTypes l ts us
    → run l (OneType (InParts ds f before)) (us ++ rest) ≡ run l
    (OneType (InParts ds f (joined before ts))) rest
unfolding run_of
reads_parts l ds f before NoTypes us rest h = ap
    (λ w. run l (OneType (InParts ds f before)) (w ++ rest)) h ∙ ap
    (λ w. run l (OneType (InParts ds f w)) rest) (sym (joined_none before))
reads_parts l ds f before (AndType t ts) us rest h =
    ap (λ w. run l (OneType (InParts ds f before)) (w ++ rest)) h.5
    ∙ ap (run l (OneType (InParts ds f before)))
    (append_assoc h.1 (lexeme h.0 word.Arrow ∷ h.2) rest)
    ∙ reads_type l (InParts ds f before) 0 t h.1 (lexeme h.0 word.Arrow ∷ (h.2 ++ rest)) refl h.3
    ∙ reads_parts l ds f (with_last before t) ts h.2 rest h.4
    ∙ ap (λ w. run l (OneType (InParts ds f w)) rest) (joined_last before t ts)

pub finish_bad : (k : Hole) (e : Expr) (at : ℕ) → finish k e at word.Bad ≡ refuse (BadByte at)
finish_bad (InFunction ds f ps) e at = refl

body : (l : NestingLimit) (k : Hole) (e : Expr) (ts : List Lexeme) (x : Lexeme) (rest : List Lexeme)
    → SpellsExpr l 0 e ts → starts_atom x.token ≡ false
    → run_of step l (Within k (Apply (InBody Outermost) NoTerms)) (ts ++ x ∷ rest) ≡ follow
    (step_of_move (finish k e x.at x.token)) (λ s. run_of step l s rest)
body l k e ts x rest h f = through declarations finish_bad l k (Apply (InBody Outermost) NoTerms)
    (ts ++ x ∷ rest) ∙ ap (continue declarations l k) (reads_body l Outermost e ts x rest h f)

reads_decl : (l : NestingLimit) (ds : List Decl) (d : Decl) (ts rest : List Lexeme)
    → SpellsDecl l d ts → run l (Top ds) (ts ++ rest) ≡ run l (Top (ds ++ d ∷ [])) rest
unfolding run_of joined
reads_decl l ds (Declares d) ts rest h =
    let tail = h.2 ++ lexeme h.1 word.Semicolon ∷ [] in
    ap (λ w. run l (Top ds) (w ++ rest)) h.5
    ∙ ap (run l (TypeParams ds d.name [])) (append_assoc (binders d.params) tail rest)
    ∙ takes_names (run_of step l) (λ ps. Outside (TypeParams ds d.name ps)) (λ ps m at rest. refl)
    [] d.params (tail ++ rest)
    ∙ ap (run l (TypeParams ds d.name d.params))
    (append_assoc h.2 (lexeme h.1 word.Semicolon ∷ []) rest)
    ∙ all_constructors l ds d.name d.params d.constructors h.2 rest h.1 h.3 h.4
reads_decl l ds (Signs s) ts rest h =
    let tail = h.4 ++ lexeme h.2 word.Semicolon ∷ [] in
    ap (λ w. run l (Top ds) (w ++ rest)) h.7
    ∙ ap (run l (OneType (InParts ds s.function NoTypes))) (append_assoc h.3 tail rest)
    ∙ reads_parts l ds s.function NoTypes s.args h.3 (tail ++ rest) h.5
    ∙ ap (run l (OneType (InParts ds s.function s.args)))
    (append_assoc h.4 (lexeme h.2 word.Semicolon ∷ []) rest)
    ∙ reads_type l (InParts ds s.function s.args) 0 s.result h.4 (lexeme h.2 word.Semicolon ∷ rest)
    refl h.6
reads_decl l ds (Defines f) ts rest h =
    let b = binder (record { 0 = f.name }) f.at in
    let inner = h.2 in
    let tail = lexeme h.0 word.Equals ∷ (inner ++ lexeme h.1 word.Semicolon ∷ []) in
    ap (λ w. run l (Top ds) (w ++ rest)) h.4
    ∙ ap (run l (Params ds b [])) (append_assoc (binders f.params) tail rest)
    ∙ takes_names (run_of step l) (λ ps. Outside (Params ds b ps)) (λ ps m at rest. refl) []
    f.params (tail ++ rest)
    ∙ ap (run_of step l (Within (InFunction ds b f.params) (Apply (InBody Outermost) NoTerms)))
    (append_assoc inner (lexeme h.1 word.Semicolon ∷ []) rest)
    ∙ body l (InFunction ds b f.params) f.body inner (lexeme h.1 word.Semicolon) rest h.3 refl

reads_decls : (l : NestingLimit) (ds es : List Decl) (ts rest : List Lexeme) → SpellsDecls l es ts
    → run l (Top ds) (ts ++ rest) ≡ run l (Top (ds ++ es)) rest
reads_decls l ds [] ts rest h = rw (h, append-nil) refl
reads_decls l ds (e ∷ es) ts rest h =
    ap (λ w. run l (Top ds) (w ++ rest)) h.4
    ∙ ap (run l (Top ds)) (append_assoc h.0 h.1 rest)
    ∙ reads_decl l ds e h.0 (h.1 ++ rest) h.2
    ∙ reads_decls l (ds ++ e ∷ []) es h.1 rest h.3
    ∙ ap (λ w. run l (Top w) rest) (append_assoc ds (e ∷ []) es)

whole : (l : NestingLimit) (ds : List Decl) (ts : List Lexeme) (end : ℕ) (rest : List Lexeme)
    → SpellsDecls l ds ts → run l (Top []) (ts ++ lexeme end word.End ∷ rest) ≡ Ok ds
unfolding run_of
whole l ds ts end rest h = reads_decls l [] ds ts (lexeme end word.End ∷ rest) h

declaring : AroundLaws Types declarations
declaring = record {
  Known = Known;
  Opens = Opens;
  begins = λ l. refl;
  sound = sound_move;
  sound_give = sound_finish;
  closing = closing;
  closes = closes;
  first = λ k. semicolon;
  others = λ k. [];
  goes_on = goes_on;
  gives = gives;
  whole = whole;
  judged = judged;
  plain_give = finish_plain;
  give_bad = finish_bad;
  large_goes = move_goes;
  large_stops = move_stops;
  give_range = finish_range;
  give_stops = finish_stops;
  last = move_last;
  last_give = finish_last;
  end = move_end;
  end_give = finish_end;
}

pub type_laws : Laws Types types
type_laws = around_laws declaring

-- ---- the programs

spelled_by : (l : NestingLimit) (s : Source) (ps : List Piece) (h : IsSource l s ps)
    → SpellsDecls l h.decls (map (said Types (names_of Types ps)) ps)
spelled_by l s ps h = subst (λ v. SpellsDecls l h.decls (map (said Types v) ps)) h.names h.spelled

made_of : (l : NestingLimit) (ds : List Decl) (ps : List Piece)
    → SpellsDecls l ds (map (said Types (names_of Types ps)) ps) → (s : Source) × IsSource l s ps
made_of l ds ps h = (
  record {
    names = names_of Types ps;
    types = types_of ds;
    signatures = signatures_of ds;
    functions
        = functions_of ds;
  },
  record {
    names = refl;
    decls = ds;
    types = refl;
    signatures = refl;
    functions = refl;
    spelled
        = h;
  },
)

same_by : (l : NestingLimit) (s q : Source) (ps : List Piece) (h : IsSource l s ps)
    (g : IsSource l q ps) → h.decls ≡ g.decls → s ≡ q
same_by l s q ps h g e =
    let names : s.names ≡ q.names = h.names ∙ sym g.names in
    let types : s.types ≡ q.types = sym h.types ∙ ap types_of e ∙ g.types in
    let signatures : s.signatures ≡ q.signatures = sym h.signatures ∙ ap signatures_of e ∙
    g.signatures in
    let functions : s.functions ≡ q.functions = sym h.functions ∙ ap functions_of e ∙ g.functions in
    λ i. record
    { names = names i; types = types i; signatures = signatures i; functions = functions i }

pub source_reads : ReadsLanguage Types types IsSource
source_reads = record {
  laws = type_laws;
  tree = λ l s ps h. h.decls;
  spelled = spelled_by;
  made = made_of;
  same = same_by;
}
