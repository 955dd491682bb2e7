-- The parts of a type, as the code takes them.
use Rattle.std.proofs.Common.{◌≡◌, ℕ, ◌<◌, ◌≤◌, Bool, true, false, List, [], ◌∷◌, ◌++◌, refl, sym, ap, ◌∙◌, arith}
use Rattle.std.specs.declared.boxed.Box.{Box}
use Rattle.std.specs.declared.alloc.Global.{Global}
use Rattle.core_reader.specs.declared.syntax.NameId.{NameId}
use Rattle.core_reader.specs.declared.syntax.Binder.{Binder}
use Rattle.core_reader.specs.declared.token.Token.{Token}
use Rattle.core_reader.specs.declared.token.Token.TheVariants as word
use Rattle.core_reader.specs.declared.token.Lexeme.{Lexeme}
use Rattle.core_reader.specs.Grammar.{at_most_200}
use Rattle.core_reader.specs.Machine.{front, refused}
use Rattle.core_reader.specs.AroundOf.{refuse, Outside, step_of_move}
use Rattle.core_types.specs.declared.source.Written.{Written}
use Rattle.core_types.specs.declared.source.Written.TheVariants as variant
use Rattle.core_types.specs.Source.{WrittenTypes, Named, Arrow, NoTypes, AndType}
use Rattle.core_types.specs.SourceOf.{written, types_in}
use Rattle.core_types.specs.Reading.{with_last, Frame, InBrackets, Own, OneType, Opened, Arguments, Behind, given, begin, move, starts_type, CollectsTypes}
use Rattle.core_types.specs.Reading as reading
use Rattle.core_types.proofs.TreeOf.{written-Named, written-Arrow}
use Rattle.core_types.proofs.Taking.{same_run, opened_other, applied_none, no_close_args}

pub types_last : (ts : List Written) (t : Written) → types_in (ts ++ t ∷ []) ≡ with_last
    (types_in ts) (written t)
types_last [] t = refl
types_last (u ∷ ts) t = ap (AndType (written u)) (types_last ts t)

-- a type begins where types are kept
pub begins_as : (state : WrittenTypes → Own) (frame : WrittenTypes → Frame)
    → CollectsTypes state frame → (ts : WrittenTypes) (us : List Lexeme)
    → starts_type (front us).token ≡ true → reading.at (state ts) us ≡ reading.at
    (OneType (frame ts)) us
begins_as state frame keeps ts us h = same_run (Outside (state ts)) (Outside (OneType (frame ts)))
    us (ap step_of_move (keeps.begins ts (front us).at (front us).token h))

-- one more type was read
pub kept : (state : WrittenTypes → Own) (frame : WrittenTypes → Frame) → CollectsTypes state frame
    → (ts more : List Written) (t : Written) (us rest : List Lexeme) → more ≡ ts ++ t ∷ []
    → reading.at (OneType (frame (types_in ts))) us ≡ reading.at
    (given (frame (types_in ts)) (written t)) rest
    → reading.at (OneType (frame (types_in ts))) us ≡ reading.at (state (types_in more)) rest
kept state frame keeps ts more t us rest e h =
    h ∙ ap (λ o. reading.at o rest) (keeps.keeps (types_in ts) (written t)) ∙ ap
    (λ w. reading.at (state w) rest) (sym (types_last ts t) ∙ ap types_in (sym e))

token_of : (x y : Lexeme) (b : Bool) → x ≡ y → starts_type x.token ≡ b → starts_type y.token ≡ b
token_of x y b e h = ap (λ (z : Lexeme). starts_type z.token) (sym e) ∙ h

pub begins_at : (us : List Lexeme) (x : Lexeme) (b : Bool) → x ≡ front us → b ≡ starts_type x.token
    → b ≡ true → starts_type (front us).token ≡ true
begins_at us x b e f h = token_of x (front us) true e (sym f ∙ h)

pub begins_not : (us : List Lexeme) (x : Lexeme) (b : Bool) → x ≡ front us → b ≡ starts_type x.token
    → b ≡ false → starts_type (front us).token ≡ false
begins_not us x b e f h = token_of x (front us) false e (sym f ∙ h)

-- all but a constructor begins a type of one piece in brackets
pub other_in_brackets : (k : Frame) (us : List Lexeme) (x : Lexeme) → x ≡ front us
    → ((n : NameId) → x.token ≡ word.Con n → ⊥) → reading.at (Opened k) us ≡ reading.at
    (OneType (InBrackets k)) us
other_in_brackets k us x e h =
    same_run (Outside (Opened k)) (Outside (OneType (InBrackets k))) us
    (ap step_of_move
    (opened_other k (front us).at (front us).token
    (λ n f. h n (ap (λ (z : Lexeme). z.token) e ∙ f))))

-- no arguments in brackets
pub none_applied : (k : Frame) (b : Binder) (args : List Written) (us : List Lexeme) → args ≡ []
    → starts_type (front us).token ≡ false → reading.at (Arguments k b (types_in args)) us ≡
    reading.at (Behind k (written (variant.Named b args))) us
none_applied k b args us e h =
    ap (λ w. reading.at (Arguments k b (types_in w)) us) e
    ∙ same_run (Outside (Arguments k b NoTypes)) (Outside (Behind k (Named b NoTypes))) us
    (ap step_of_move (applied_none k b (front us).at (front us).token h))
    ∙ ap (λ w. reading.at (Behind k (Named b (types_in w))) us) (sym e)
    ∙ ap (λ w. reading.at (Behind k w) us) (sym (written-Named b args))

pub no_close_some : (k : Frame) (b : Binder) (args : List Written) (p : ℕ) (token : Token)
    → (args ≡ [] → ⊥) → starts_type token ≡ false → (token ≡ word.Close → ⊥)
    → move at_most_200 (Arguments k b (types_in args)) p token ≡ refuse (refused p token)
no_close_some k b [] p token some e h = absurd (some refl)
no_close_some k b (t ∷ ts) p token some e h = no_close_args k b (written t) (types_in ts) p token e
    h

pub named_at : (k : Frame) (b : Binder) (args : List Written) (us : List Lexeme)
    → reading.at (given k (Named b (types_in args))) us ≡ reading.at
    (given k (written (variant.Named b args))) us
named_at k b args us = ap (λ w. reading.at (given k w) us) (sym (written-Named b args))

pub arrow_at : (k : Frame) (from to : Box Written Global) (t u : Written) (us : List Lexeme)
    → from.value ≡ t → to.value ≡ u → reading.at (given k (Arrow (written t) (written u))) us ≡
    reading.at (given k (written (variant.Arrow from to))) us
arrow_at k from to t u us e f = ap (λ w. reading.at (given k w) us)
    ((λ i. Arrow (written (sym e i)) (written (sym f i))) ∙ sym (written-Arrow from to))

pub nearer : (a b c : ℕ) → a < b → b ≤ c → a ≤ c
nearer a b c h g = omega arith

pub before : (a b c : ℕ) → a < b → b < c → a < c
before a b c h g = omega arith

pub nearer_still : (a b c d e : ℕ) → a ≡ b → b ≤ c → c < d → d ≤ e → a ≤ e
nearer_still a b c d e f h g k = omega arith
