-- One token of a text with types, as the code takes it.
use Rattle.std.proofs.Common.{◌≡◌, ℕ, ◌<◌, ◌≤◌, true, false, cond, length, List, [], ◌∷◌, ◌++◌, Result, Err, refl, sym, ap, subst, ◌∙◌, arith}
use Rattle.core_reader.specs.declared.syntax.NameId.{NameId}
use Rattle.core_reader.specs.declared.syntax.Binder.{Binder}
use Rattle.core_reader.specs.declared.token.Token.{Token}
use Rattle.core_reader.specs.declared.token.Token.TheVariants as word
use Rattle.core_reader.specs.declared.token.Further.TheVariants as further
use Rattle.core_reader.specs.declared.token.Lexeme.{Lexeme}
use Rattle.core_reader.specs.declared.refusal.ReadRefusal.{ReadRefusal}
use Rattle.core_reader.specs.declared.refusal.ReadRefusal.TheVariants.{BadByte, Syntax, NumberRange, TooDeep, TextTooLong, Memory}
use Rattle.core_reader.specs.Tree.{Expr, NoTerms}
use Rattle.core_reader.specs.Grammar.{at_most_200, binders}
use Rattle.core_reader.specs.ReadingOf.{go, stop, follow, run_of}
use Rattle.core_reader.specs.Machine as expression
use Rattle.core_reader.specs.Machine.{Outermost, InBody, Apply, Ended, front, behind, refused, refusal, is_name, Fails, Goes}
use Rattle.core_reader.specs.AroundOf.{next, refuse, Outside, Within, step_of_move}
use Rattle.core_reader.proofs.ReadingOf.{reads_names}
use Rattle.core_reader.proofs.Turns as any
use Rattle.core_reader.proofs.Turns.{turns, bad_halts}
use Rattle.core_reader.proofs.AroundOf.{through, continue}
use Rattle.core_types.specs.Source.{Written, WrittenTypes, Named, NoTypes, AndType, Constructor, TypeDecl}
use Rattle.core_types.specs.Grammar.{Decl}
use Rattle.core_types.specs.Reading.{binder, empty_type_decl, with_new_constructor, Frame, InFields, InParts, InArguments, InResult, InBrackets, nests, Own, Top, TypeName, TypeParams, ConName, Fields, SigName, SigColon, SigBehind, Params, OneType, Opened, Arguments, Behind, Closing, Hole, InFunction, given, begin, move, finish, declarations, State, step, run, starts_type, CollectsTypes}
use Rattle.core_types.specs.Reading as reading
use Rattle.core_types.proofs.SourceReading.{type_laws, finish_bad}

bad : (s : State) (p : ℕ) → step at_most_200 s p word.Bad ≡ stop (BadByte p)
bad s p = bad_halts type_laws s p

pub takes : (s r : State) (ts : List Lexeme) (x : Lexeme) (token : Token) (after : List Lexeme)
    → x ≡ front ts → x.token ≡ token → after ≡ behind ts
    → step at_most_200 s x.at token ≡ go r → run s ts ≡ run r after
takes s r ts x token after front_is token_is after_is e
    = any.takes step at_most_200 bad s r ts x token after front_is token_is after_is e

pub halts : (s : State) (ts : List Lexeme) (x : Lexeme) (token : Token) (er : ReadRefusal)
    → x ≡ front ts → x.token ≡ token
    → step at_most_200 s x.at token ≡ stop er → run s ts ≡ Err er
halts s ts x token er front_is token_is e = any.halts step at_most_200 bad s ts x token er front_is
    token_is e

pub refuses : (s : State) (ts : List Lexeme) (er : ReadRefusal) → er ≡ refusal (front ts)
    → step at_most_200 s (front ts).at (front ts).token ≡ stop (refusal (front ts))
    → Fails er (run s ts)
refuses s ts er er_is e = any.refuses step at_most_200 bad s ts er er_is e

-- two states that do the same with the next token
pub same_run : (s r : State) (ts : List Lexeme) → step at_most_200 s (front ts).at (front ts).token
    ≡ step at_most_200 r (front ts).at (front ts).token → run s ts ≡ run r ts
same_run s r ts e = turns step at_most_200 bad s ts ∙ ap (λ st. follow st (λ s. run s (behind ts)))
    e ∙ sym (turns step at_most_200 bad r ts)

pub fails_from : (er : ReadRefusal) (r s : Result (List Decl) ReadRefusal) → r ≡ s → Fails er s
    → Fails er r
fails_from er r s e h = subst (Fails er) (sym e) h

pub goes_from : {X : Type 0} (result : Result X ReadRefusal) (r s : Result (List Decl) ReadRefusal)
    (on : X → Result (List Decl) ReadRefusal) → r ≡ s → Goes result s on → Goes result r on
goes_from result r s on e h = subst (λ w. Goes result w on) (sym e) h

-- ---- the tokens that a state refuses

pub no_begin : (k : Frame) (p : ℕ) (token : Token) → starts_type token ≡ false
    → begin at_most_200 k p token ≡ refuse (refused p token)
no_begin k p (word.Name n) e = absurd cc
no_begin k p (word.Con n) e = absurd cc
no_begin k p word.Open e = absurd cc
no_begin k p token e = refl

pub other_begin : (k : Frame) (p : ℕ) (token : Token) → ((n : NameId) → token ≡ word.Name n → ⊥)
    → ((n : NameId) → token ≡ word.Con n → ⊥) → (token ≡ word.Open → ⊥)
    → begin at_most_200 k p token ≡ refuse (refused p token)
other_begin k p (word.Name n) a b c = absurd (a n refl)
other_begin k p (word.Con n) a b c = absurd (b n refl)
other_begin k p word.Open a b c = absurd (c refl)
other_begin k p token a b c = refl

pub too_deep : (k : Frame) (p depth : ℕ) → nests k ≡ depth → 200 ≤ depth
    → step at_most_200 (Outside (OneType k)) p word.Open ≡ stop (TooDeep p)
too_deep k p depth e h =
    let f : at_most_200 (nests k) ≡ false = ap at_most_200 e ∙ grind (arith, h) in
    ap (λ b. step_of_move (cond b (next (Opened k)) (refuse (TooDeep p)))) f

pub opens : (k : Frame) (p depth : ℕ) → nests k ≡ depth → depth < 200
    → step at_most_200 (Outside (OneType k)) p word.Open ≡ go (Outside (Opened k))
opens k p depth e h =
    let f : at_most_200 (nests k) ≡ true = ap at_most_200 e ∙ grind (arith, h) in
    ap (λ b. step_of_move (cond b (next (Opened k)) (refuse (TooDeep p)))) f

-- behind a `(` all but a constructor begin a type of one piece
pub opened_other : (k : Frame) (p : ℕ) (token : Token) → ((n : NameId) → token ≡ word.Con n → ⊥)
    → move at_most_200 (Opened k) p token ≡ begin at_most_200 (InBrackets k) p token
opened_other k p (word.Con n) a = absurd (a n refl)
opened_other k p token a = refl

-- a type without arguments in brackets
pub applied_none : (k : Frame) (b : Binder) (p : ℕ) (token : Token) → starts_type token ≡ false
    → move at_most_200 (Arguments k b NoTypes) p token ≡ move at_most_200
    (Behind k (Named b NoTypes)) p token
applied_none k b p (word.Name n) e = absurd cc
applied_none k b p (word.Con n) e = absurd cc
applied_none k b p word.Open e = absurd cc
applied_none k b p token e = refl

pub no_close_args : (k : Frame) (b : Binder) (t : Written) (ts : WrittenTypes) (p : ℕ)
    (token : Token) → starts_type token ≡ false → (token ≡ word.Close → ⊥)
    → move at_most_200 (Arguments k b (AndType t ts)) p token ≡ refuse (refused p token)
no_close_args k b t ts p (word.Name n) e h = absurd cc
no_close_args k b t ts p (word.Con n) e h = absurd cc
no_close_args k b t ts p word.Open e h = absurd cc
no_close_args k b t ts p word.Close e h = absurd (h refl)
no_close_args k b t ts p token e h = refl

pub no_behind : (k : Frame) (t : Written) (p : ℕ) (token : Token) → (token ≡ word.Close → ⊥)
    → (token ≡ word.Arrow → ⊥) → move at_most_200 (Behind k t) p token ≡ refuse (refused p token)
no_behind k t p word.Close a b = absurd (a refl)
no_behind k t p word.Arrow a b = absurd (b refl)
no_behind k t p token a b = refl

pub no_close : (k : Frame) (t : Written) (p : ℕ) (token : Token) → (token ≡ word.Close → ⊥)
    → move at_most_200 (Closing k t) p token ≡ refuse (refused p token)
no_close k t p word.Close a = absurd (a refl)
no_close k t p token a = refl

pub no_con : (ds : List Decl) (d : TypeDecl) (p : ℕ) (token : Token)
    → ((n : NameId) → token ≡ word.Con n → ⊥) → move at_most_200 (ConName ds d) p token ≡ refuse
    (refused p token)
no_con ds d p (word.Con n) a = absurd (a n refl)
no_con ds d p token a = refl

pub no_type_name : (ds : List Decl) (p : ℕ) (token : Token)
    → ((n : NameId) → token ≡ word.Con n → ⊥) → move at_most_200 (TypeName ds) p token ≡ refuse
    (refused p token)
no_type_name ds p (word.Con n) a = absurd (a n refl)
no_type_name ds p token a = refl

pub no_type_param : (ds : List Decl) (b : Binder) (ps : List Binder) (p : ℕ) (token : Token)
    → is_name token ≡ false → (token ≡ word.Equals → ⊥)
    → move at_most_200 (TypeParams ds b ps) p token ≡ refuse (refused p token)
no_type_param ds b ps p (word.Name n) e a = absurd cc
no_type_param ds b ps p word.Equals e a = absurd (a refl)
no_type_param ds b ps p token e a = refl

pub no_fields_end : (ds : List Decl) (d : TypeDecl) (c : Binder) (ts : WrittenTypes) (p : ℕ)
    (token : Token) → starts_type token ≡ false → (token ≡ word.Further further.Bar → ⊥)
    → (token ≡ word.Semicolon → ⊥) → move at_most_200 (Fields ds d c ts) p token ≡ refuse
    (refused p token)
no_fields_end ds d c ts p (word.Name n) e a b = absurd cc
no_fields_end ds d c ts p (word.Con n) e a b = absurd cc
no_fields_end ds d c ts p word.Open e a b = absurd cc
no_fields_end ds d c ts p (word.Further further.Bar) e a b = absurd (a refl)
no_fields_end ds d c ts p word.Semicolon e a b = absurd (b refl)
no_fields_end ds d c ts p token e a b = refl

pub no_sig_name : (ds : List Decl) (p : ℕ) (token : Token)
    → ((n : NameId) → token ≡ word.Name n → ⊥) → move at_most_200 (SigName ds) p token ≡ refuse
    (refused p token)
no_sig_name ds p (word.Name n) a = absurd (a n refl)
no_sig_name ds p token a = refl

pub no_colon : (ds : List Decl) (f : Binder) (p : ℕ) (token : Token)
    → (token ≡ word.Further further.Colon → ⊥) → move at_most_200 (SigColon ds f) p token ≡ refuse
    (refused p token)
no_colon ds f p (word.Further further.Colon) a = absurd (a refl)
no_colon ds f p token a = refl

pub no_sig_end : (ds : List Decl) (f : Binder) (ts : WrittenTypes) (t : Written) (p : ℕ)
    (token : Token) → (token ≡ word.Arrow → ⊥) → (token ≡ word.Semicolon → ⊥)
    → move at_most_200 (SigBehind ds f ts t) p token ≡ refuse (refused p token)
no_sig_end ds f ts t p word.Arrow a b = absurd (a refl)
no_sig_end ds f ts t p word.Semicolon a b = absurd (b refl)
no_sig_end ds f ts t p token a b = refl

pub no_param : (ds : List Decl) (f : Binder) (ps : List Binder) (p : ℕ) (token : Token)
    → is_name token ≡ false → (token ≡ word.Equals → ⊥)
    → move at_most_200 (Params ds f ps) p token ≡ refuse (refused p token)
no_param ds f ps p (word.Name n) e a = absurd cc
no_param ds f ps p word.Equals e a = absurd (a refl)
no_param ds f ps p token e a = refl

pub no_end : (k : Hole) (e : Expr) (p : ℕ) (token : Token) → (token ≡ word.Semicolon → ⊥)
    → finish k e p token ≡ refuse (refused p token)
no_end (InFunction ds f ps) e p word.Semicolon a = absurd (a refl)
no_end (InFunction ds f ps) e p token a = refl

pub no_decl : (ds : List Decl) (p : ℕ) (token : Token) → (token ≡ word.Further further.TypeDecl → ⊥)
    → (token ≡ word.Further further.Signature → ⊥) → ((n : NameId) → token ≡ word.Name n → ⊥)
    → (token ≡ word.End → ⊥) → move at_most_200 (Top ds) p token ≡ refuse (refused p token)
no_decl ds p (word.Further further.TypeDecl) a b c d = absurd (a refl)
no_decl ds p (word.Further further.Signature) a b c d = absurd (b refl)
no_decl ds p (word.Name n) a b c d = absurd (c n refl)
no_decl ds p word.End a b c d = absurd (d refl)
no_decl ds p token a b c d = refl

-- a token that this state refuses
pub refuses_at : (o : Own) (ts : List Lexeme) (er : ReadRefusal) → er ≡ refusal (front ts)
    → move at_most_200 o (front ts).at (front ts).token ≡ refuse
    (refused (front ts).at (front ts).token) → Fails er (reading.at o ts)
refuses_at o ts er er_is e = refuses (Outside o) ts er er_is (ap step_of_move e)

-- ---- the states that keep types

pub keeps_fields : (ds : List Decl) (d : TypeDecl) (c : Binder)
    → CollectsTypes (Fields ds d c) (InFields ds d c)
keeps_fields ds d c = record { keeps = λ ts t. refl; begins = begins; bad = λ ts p. refl }
  where
    begins : (ts : WrittenTypes) (p : ℕ) (token : Token) → starts_type token ≡ true
        → move at_most_200 (Fields ds d c ts) p token ≡ move at_most_200
        (OneType (InFields ds d c ts)) p token
    begins ts p (word.Name n) e = refl
    begins ts p (word.Con n) e = refl
    begins ts p word.Open e = refl
    begins ts p token e = absurd cc

pub keeps_arguments : (k : Frame) (b : Binder) → CollectsTypes (Arguments k b) (InArguments k b)
keeps_arguments k b = record { keeps = λ ts t. refl; begins = begins; bad = λ ts p. refl }
  where
    begins : (ts : WrittenTypes) (p : ℕ) (token : Token) → starts_type token ≡ true
        → move at_most_200 (Arguments k b ts) p token ≡ move at_most_200
        (OneType (InArguments k b ts)) p token
    begins ts p (word.Name n) e = refl
    begins ts p (word.Con n) e = refl
    begins ts p word.Open e = refl
    begins ts p token e = absurd cc

-- ---- names, and the body of a function

pub type_params : (ds : List Decl) (b : Binder) (names : List Binder) (old new : List Lexeme)
    → old ≡ binders names ++ new → reading.at (TypeParams ds b []) old ≡ reading.at
    (TypeParams ds b names) new
unfolding run_of
type_params ds b names old new e = reads_names run (λ names. Outside (TypeParams ds b names))
    (λ names m at rest. refl) names old new e

pub params : (ds : List Decl) (f : Binder) (names : List Binder) (old new : List Lexeme)
    → old ≡ binders names ++ new → reading.at (Params ds f []) old ≡ reading.at (Params ds f names)
    new
unfolding run_of
params ds f names old new e = reads_names run (λ names. Outside (Params ds f names))
    (λ names m at rest. refl) names old new e

-- a function's body, which stands behind the `=`
pub body_read : (k : Hole) (e : Expr) (old new : List Lexeme)
    → expression.run at_most_200 (Apply (InBody Outermost) NoTerms) old ≡ expression.run at_most_200
    (Ended Outermost e) new
    → run (Within k (Apply (InBody Outermost) NoTerms)) old ≡ run (Within k (Ended Outermost e)) new
body_read k e old new h =
    through declarations finish_bad at_most_200 k (Apply (InBody Outermost) NoTerms) old ∙ ap
    (continue declarations at_most_200 k) h ∙ sym
    (through declarations finish_bad at_most_200 k (Ended Outermost e) new)

fails_by : (k : Hole) (er : ReadRefusal) (read : Result expression.Found ReadRefusal)
    → Fails er read → Fails er (continue declarations at_most_200 k read)
fails_by k (BadByte p) read h = ap (continue declarations at_most_200 k) h
fails_by k (Syntax p) read h = ap (continue declarations at_most_200 k) h
fails_by k (NumberRange p) read h = ap (continue declarations at_most_200 k) h
fails_by k (TooDeep p) read h = ap (continue declarations at_most_200 k) h
fails_by k TextTooLong read h = ap (continue declarations at_most_200 k) h
fails_by k (Memory e) read h = tt

pub body_fails : (k : Hole) (er : ReadRefusal) (s : expression.State) (ts : List Lexeme)
    → Fails er (expression.run at_most_200 s ts) → Fails er (run (Within k s) ts)
body_fails k er s ts h = subst (Fails er) (sym (through declarations finish_bad at_most_200 k s ts))
    (fails_by k er (expression.run at_most_200 s ts) h)

pub one_shorter : (ts : List Lexeme) → ((front ts).token ≡ word.Bad → ⊥)
    → length (behind ts) < length ts
one_shorter [] h = absurd (h refl)
one_shorter (t ∷ ts) h = omega arith

pub behind_shorter : (ts : List Lexeme) → length (behind ts) ≤ length ts
behind_shorter [] = omega arith
behind_shorter (t ∷ ts) = omega arith

abbrev pub type_with : Binder → List Binder → List Constructor → TypeDecl
type_with b ps cs = record { name = b; params = ps; constructors = cs }

pub naming : (ds : List Decl) (n : NameId) (p : ℕ) (ts after : List Lexeme)
    → (front ts).token ≡ word.Name n → (front ts).at ≡ p → after ≡ behind ts
    → reading.at (Top ds) ts ≡ reading.at (Params ds (binder n p) []) after
naming ds n p ts after token_is at_is after_is = takes (Outside (Top ds))
    (Outside (Params ds (binder n p) [])) ts (front ts) (word.Name n) after refl token_is after_is
    (ap (λ w. go (Outside (Params ds (binder n w) []))) at_is)

pub no_end_step : (ds : List Decl) (f : Binder) (ps : List Binder) (e : Expr) (p : ℕ)
    (token : Token) → (token ≡ word.Semicolon → ⊥) → step at_most_200
    (Within (InFunction ds f ps) (Ended Outermost e)) p token ≡ stop (refused p token)
no_end_step ds f ps e p word.Semicolon a = absurd (a refl)
no_end_step ds f ps e p token a = refl
