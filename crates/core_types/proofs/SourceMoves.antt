-- Each move of the reading of programs with types does what a reading's laws ask of a move: it is
-- judged by the nesting, a number stops or goes on as a large one does, and the text's end ends it.
use Rattle.std.proofs.Common.{◌≡◌, ℕ, Bool, true, false, cond, List, refl, ap}
use Rattle.std.specs.Prelude.{ℤ, pos}
use Rattle.core_reader.specs.declared.syntax.Binder.{Binder}
use Rattle.core_reader.specs.declared.token.Token.{Token}
use Rattle.core_reader.specs.declared.token.Token.TheVariants as word
use Rattle.core_reader.specs.declared.token.Further.TheVariants as further
use Rattle.core_reader.specs.declared.refusal.ReadRefusal.TheVariants.{Syntax, NumberRange, TooDeep}
use Rattle.core_reader.specs.Tree.{Expr}
use Rattle.core_reader.specs.Grammar.{unlimited_nesting, at_most_200}
use Rattle.core_reader.specs.ReadingOf.{go}
use Rattle.core_reader.specs.Machine as expression
use Rattle.core_reader.specs.Machine.{refused}
use Rattle.core_reader.specs.AroundOf.{next, refuse, Outside, step_of_move}
use Rattle.core_reader.proofs.ReadingOf.{IsLast, Verdict, refused_plain}
use Rattle.core_reader.proofs.AroundOf.{PlainMove, LastMove, EndMove, by_move}
use Rattle.core_types.specs.Source.{WrittenTypes, Arrow, NoTypes, AndType, TypeDecl}
use Rattle.core_types.specs.Grammar.{Decl}
use Rattle.core_types.specs.Reading.{Frame, InFields, InArguments, InBrackets, nests, Own, Top, TypeName, TypeParams, ConName, Fields, SigName, SigColon, SigBehind, Params, OneType, Opened, Arguments, Behind, Closing, Hole, InFunction, begin, arrow_behind, move, finish, declarations, step}

pub opened_judged : (o o' : Own) (at : ℕ) (b : Bool)
    → step unlimited_nesting (Outside o) at word.Open ≡
    go (Outside o') → Verdict step (Outside o) at word.Open
    (step_of_move (cond b (next o') (refuse (TooDeep at))))
opened_judged o o' at true e = e
opened_judged o o' at false e = (refl, Outside o', e, tt)

pub begin_judged : (o : Own) (k : Frame) (at : ℕ) (token : Token)
    → move unlimited_nesting o at token ≡ begin unlimited_nesting k at token
    → Verdict step (Outside o) at token (step_of_move (begin at_most_200 k at token))
begin_judged o k at (word.Name n) e = ap step_of_move e
begin_judged o k at (word.Con n) e = ap step_of_move e
begin_judged o k at word.Open e = opened_judged o (Opened k) at (at_most_200 (nests k))
    (ap step_of_move e)
begin_judged o k at token e = by_move declarations o at token (refuse (refused at token)) e
    (refused_plain expression.State Expr at token)

pub arrow_judged : (k : Frame) (b : Binder) (ts : WrittenTypes) (at : ℕ)
    → Verdict step (Outside (Arguments k b ts)) at word.Arrow
    (step_of_move (arrow_behind k b ts at))
arrow_judged k b NoTypes at = refl
arrow_judged k b (AndType t ts) at = (refl, refl, λ e. cc)

pub judged : (o : Own) (at : ℕ) (token : Token) → Verdict step (Outside o) at token
    (step_of_move (move at_most_200 o at token))
judged (Top ds) at (word.Further further.TypeDecl) = refl
judged (Top ds) at (word.Further further.Signature) = refl
judged (Top ds) at (word.Name n) = refl
judged (Top ds) at word.End = refl
judged (TypeName ds) at (word.Con n) = refl
judged (TypeParams ds b ps) at (word.Name n) = refl
judged (TypeParams ds b ps) at word.Equals = refl
judged (ConName ds d) at (word.Con n) = refl
judged (Fields ds d c ts) at (word.Further further.Bar) = refl
judged (Fields ds d c ts) at word.Semicolon = refl
judged (Fields ds d c ts) at token = begin_judged (Fields ds d c ts) (InFields ds d c ts) at token
    refl
judged (SigName ds) at (word.Name n) = refl
judged (SigColon ds f) at (word.Further further.Colon) = refl
judged (SigBehind ds f ts t) at word.Arrow = refl
judged (SigBehind ds f ts t) at word.Semicolon = refl
judged (Params ds f ps) at (word.Name n) = refl
judged (Params ds f ps) at word.Equals = refl
judged (OneType k) at token = begin_judged (OneType k) k at token refl
judged (Opened k) at (word.Con n) = refl
judged (Opened k) at token = begin_judged (Opened k) (InBrackets k) at token refl
judged (Arguments k b ts) at word.Close = refl
judged (Arguments k b ts) at word.Arrow = arrow_judged k b ts at
judged (Arguments k b ts) at token = begin_judged (Arguments k b ts) (InArguments k b ts) at token
    refl
judged (Behind k t) at word.Close = refl
judged (Behind k t) at word.Arrow = refl
judged (Closing k t) at word.Close = refl
judged o at token = by_move declarations o at token (refuse (refused at token)) refl
    (refused_plain expression.State Expr at token)

pub finish_plain : (k : Hole) (e : Expr) (at : ℕ) (token : Token)
    → PlainMove at token (finish k e at token)
finish_plain (InFunction ds f ps) e at word.Semicolon = tt
finish_plain k e at token = refused_plain expression.State Expr at token

pub move_goes : (o : Own) (at p : ℕ) (minus : Bool) (v : ℤ)
    → move unlimited_nesting o at (word.Large minus) ≡ refuse (NumberRange p)
    → (minus ≡ false → (n : ℕ) × (v ≡ pos n)) → (o' : Own)
    × (move unlimited_nesting o at (word.Number minus v) ≡ next o')
move_goes (Top ds) at p minus v h f = absurd cc
move_goes (TypeName ds) at p minus v h f = absurd cc
move_goes (TypeParams ds b ps) at p minus v h f = absurd cc
move_goes (ConName ds d) at p minus v h f = absurd cc
move_goes (Fields ds d c ts) at p minus v h f = absurd cc
move_goes (SigName ds) at p minus v h f = absurd cc
move_goes (SigColon ds g) at p minus v h f = absurd cc
move_goes (SigBehind ds g ts t) at p minus v h f = absurd cc
move_goes (Params ds g ps) at p minus v h f = absurd cc
move_goes (OneType k) at p minus v h f = absurd cc
move_goes (Opened k) at p minus v h f = absurd cc
move_goes (Arguments k b ts) at p minus v h f = absurd cc
move_goes (Behind k t) at p minus v h f = absurd cc
move_goes (Closing k t) at p minus v h f = absurd cc

pub move_stops : (o : Own) (at p : ℕ) (minus : Bool) (v : ℤ)
    → move unlimited_nesting o at (word.Large minus) ≡ refuse (Syntax p)
    → move unlimited_nesting o at (word.Number minus v) ≡ refuse (Syntax p)
move_stops (Top ds) at p minus v h = h
move_stops (TypeName ds) at p minus v h = h
move_stops (TypeParams ds b ps) at p minus v h = h
move_stops (ConName ds d) at p minus v h = h
move_stops (Fields ds d c ts) at p minus v h = h
move_stops (SigName ds) at p minus v h = h
move_stops (SigColon ds g) at p minus v h = h
move_stops (SigBehind ds g ts t) at p minus v h = h
move_stops (Params ds g ps) at p minus v h = h
move_stops (OneType k) at p minus v h = h
move_stops (Opened k) at p minus v h = h
move_stops (Arguments k b ts) at p minus v h = h
move_stops (Behind k t) at p minus v h = h
move_stops (Closing k t) at p minus v h = h

pub finish_range : (k : Hole) (e : Expr) (at p : ℕ) (minus : Bool)
    → finish k e at (word.Large minus) ≡ refuse (NumberRange p) → ⊥
finish_range (InFunction ds f ps) e at p minus h = cc

pub finish_stops : (k : Hole) (e : Expr) (at p : ℕ) (minus : Bool) (v : ℤ)
    → finish k e at (word.Large minus) ≡ refuse (Syntax p)
    → finish k e at (word.Number minus v) ≡ refuse (Syntax p)
finish_stops (InFunction ds f ps) e at p minus v h = h

pub move_last : (o : Own) (at : ℕ) (token : Token) → IsLast token
    → LastMove (move at_most_200 o at token)
move_last (Top ds) at word.End l = tt
move_last o at word.Bad l = tt
move_last o at word.End l = tt
move_last o at (word.Large minus) l = tt
move_last o at token l = absurd l

pub finish_last : (k : Hole) (e : Expr) (at : ℕ) (token : Token) → IsLast token
    → LastMove (finish k e at token)
finish_last (InFunction ds f ps) e at word.Bad l = tt
finish_last (InFunction ds f ps) e at word.End l = tt
finish_last (InFunction ds f ps) e at (word.Large minus) l = tt
finish_last k e at token l = absurd l

open_end : (k : Frame) (at : ℕ) (b : Bool) → EndMove {O = Own} {H = Hole} {A = List Decl} word.Open
    (cond b (next (Opened k)) (refuse (TooDeep at)))
open_end k at true = tt
open_end k at false = tt

pub begin_end : (k : Frame) (at : ℕ) (token : Token) → EndMove token (begin at_most_200 k at token)
begin_end k at (word.Name n) = tt
begin_end k at (word.Con n) = tt
begin_end k at word.Open = open_end k at (at_most_200 (nests k))
begin_end k at token = tt

pub arrow_end : (k : Frame) (b : Binder) (ts : WrittenTypes) (at : ℕ)
    → EndMove word.Arrow (arrow_behind k b ts at)
arrow_end k b NoTypes at = tt
arrow_end k b (AndType t ts) at = tt

pub move_end : (o : Own) (at : ℕ) (token : Token) → EndMove token (move at_most_200 o at token)
move_end (Top ds) at (word.Further further.TypeDecl) = tt
move_end (Top ds) at (word.Further further.Signature) = tt
move_end (Top ds) at (word.Name n) = tt
move_end (Top ds) at word.End = refl
move_end (TypeName ds) at (word.Con n) = tt
move_end (TypeParams ds b ps) at (word.Name n) = tt
move_end (TypeParams ds b ps) at word.Equals = tt
move_end (ConName ds d) at (word.Con n) = tt
move_end (Fields ds d c ts) at (word.Further further.Bar) = tt
move_end (Fields ds d c ts) at word.Semicolon = tt
move_end (Fields ds d c ts) at token = begin_end (InFields ds d c ts) at token
move_end (SigName ds) at (word.Name n) = tt
move_end (SigColon ds f) at (word.Further further.Colon) = tt
move_end (SigBehind ds f ts t) at word.Arrow = tt
move_end (SigBehind ds f ts t) at word.Semicolon = tt
move_end (Params ds f ps) at (word.Name n) = tt
move_end (Params ds f ps) at word.Equals = tt
move_end (OneType k) at token = begin_end k at token
move_end (Opened k) at (word.Con n) = tt
move_end (Opened k) at token = begin_end (InBrackets k) at token
move_end (Arguments k b ts) at word.Close = tt
move_end (Arguments k b ts) at word.Arrow = arrow_end k b ts at
move_end (Arguments k b ts) at token = begin_end (InArguments k b ts) at token
move_end (Behind k t) at word.Close = tt
move_end (Behind k t) at word.Arrow = tt
move_end (Closing k t) at word.Close = tt
move_end o at token = tt

pub finish_end : (k : Hole) (e : Expr) (at : ℕ) (token : Token)
    → EndMove token (finish k e at token)
finish_end (InFunction ds f ps) e at word.Semicolon = tt
finish_end k e at token = tt
