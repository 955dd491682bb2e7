-- The fields that a call fetches, and its arguments.
use Rattle.std.proofs.Common.{◌≡◌, ℕ, zero, suc, ◌+◌, ◌<◌, ◌≤◌, cond, nat_eq, Bool, true, false, List, [], ◌∷◌, ◌++◌, map, drop, length, get_or, Option, None, refl, sym, ap, ◌∙◌, append_assoc, arith}
use Rattle.std.proofs.lemmas.List.{drop_more, drop_all, append-nil}
use Rattle.seq.proofs.Lists.{map_push}
use Rattle.grin_syntax.specs.declared.program.VarId.{VarId}
use Rattle.grin_syntax.specs.declared.program.Word as W
use Rattle.grin_syntax.specs.declared.program.Word.TheVariants.{Var}
use Rattle.grin_syntax.specs.declared.program.Target.TheVariants as to
use Rattle.grin_syntax.specs.declared.program.Stmt.{Stmt}
use Rattle.grin_syntax.specs.declared.program.Stmt.TheVariants.{Bind}
use Rattle.grin_syntax.specs.declared.program.Op.TheVariants.{FetchWord}
use Rattle.grin_syntax.specs.Tree.{Code, bind, leaf, fetch_word, before_of, all_before}
use Rattle.grin_syntax.specs.Fresh.{variable, variables}
use Rattle.grin_syntax.proofs.TreeOf.{before_of-Bind, act_of-FetchWord}
use Rattle.grin_syntax.proofs.Pieces.{all_before_push}
use Rattle.grin_syntax.proofs.Past.{variables_push}
use Rattle.raise_theory.specs.declared.raising.Raising.{Raising}
use Rattle.raise_theory.specs.Raising.{Decisions, decided, raised_param, raised_params, field_fetches, fetches_for, argument_for, arguments_for, new_variables_of, new_variables_for}
use Rattle.arity_raise.specs.Decision.{decision_at}

-- ---- one field

pub field_pushed : (ss ss' : List Stmt) (x : VarId) (n : ℕ) (a : W.Word) (i : ℕ) (c : Code)
    → ss' ≡ ss ++ Bind (to.One x) (FetchWord a i) ∷ [] → x ≡ variable n
    → all_before (map before_of ss') c ≡ all_before (map before_of ss)
    (bind (to.One (variable n)) (leaf (fetch_word a i)) c)
field_pushed ss ss' x n a i c e v =
    ap (λ l. all_before (map before_of l) c) e ∙ all_before_push ss
    (Bind (to.One x) (FetchWord a i)) c
    ∙ ap (λ f. all_before (map before_of ss) (f c)) (before_of-Bind (to.One x) (FetchWord a i))
    ∙ (λ j. all_before (map before_of ss) (bind (to.One (v j)) (act_of-FetchWord a i j) c))

-- ---- the fields of a cell

fetches_push : (k n j y i m : ℕ) (a : W.Word) (c : Code) → y ≡ n + k → i ≡ suc (j + k) → m ≡ k + 1
    → field_fetches a n j m c ≡ field_fetches a n j k
    (bind (to.One (variable y)) (leaf (fetch_word a i)) c)
fetches_push zero n j y i m a c e f g =
    let y' : n ≡ y = omega arith in
    let i' : suc j ≡ i = omega arith in
    let m' : m ≡ 1 = omega arith in
    ap (λ m. field_fetches a n j m c) m' ∙
    (λ t. bind (to.One (variable (y' t))) (leaf (fetch_word a (i' t))) c)
fetches_push (suc k) n j y i m a c e f g =
    let y' : y ≡ suc n + k = omega arith in
    let i' : i ≡ suc (suc j + k) = omega arith in
    let m' : m ≡ suc (k + 1) = omega arith in
    ap (λ m. field_fetches a n j m c) m' ∙ ap
    (bind (to.One (variable n)) (leaf (fetch_word a (suc j))))
    (fetches_push k (suc n) (suc j) y i (k + 1) a c y' i' refl)

-- so many fields of a cell, from the variable x on
pub record FieldsSoFar (a : W.Word) (x y k : ℕ) (old new : List Stmt) (given args : List W.Word)
    : Type 0 where
  pub stmts : (c : Code) → all_before (map before_of new) c ≡ all_before (map before_of old)
      (field_fetches a x 0 k c)
  pub words : args ≡ given ++ map Var (variables x k)
  pub next : y ≡ x + k

pub no_fields : (a : W.Word) (x : ℕ) (old : List Stmt) (given : List W.Word)
    → FieldsSoFar a x x 0 old old given given
no_fields a x old given = record
    { stmts = λ c. refl; words = sym (append-nil given); next = omega arith }

pub one_field_more : (a : W.Word) (x y z k i : ℕ) (old new newer : List Stmt)
    (given args more : List W.Word) → FieldsSoFar a x y k old new given args → i ≡ k + 1
    → ((c : Code) → all_before (map before_of newer) c ≡ all_before (map before_of new)
    (bind (to.One (variable y)) (leaf (fetch_word a i)) c)) → more ≡ args
    ++ Var (variable y) ∷ [] → z ≡ suc y
    → FieldsSoFar a x z (k + 1) old newer given more
one_field_more a x y z k i old new newer given args more u i' h e f =
    let n : y ≡ x + k = u.next in
    let s : i ≡ suc (0 + k) = omega arith in
    let word : map Var (variables x k) ++ Var (variable y) ∷ [] ≡ map Var (variables x (k + 1))
    = sym (map_push Var (variables x k) (variable y)) ∙ ap (map Var)
    (variables_push k x y (k + 1) n refl) in
    record {
      stmts = λ c. h c ∙ u.stmts (bind (to.One (variable y)) (leaf (fetch_word a i)) c) ∙ ap
          (all_before (map before_of old)) (sym (fetches_push k x 0 y i (k + 1) a c n s refl));
      words = e ∙ ap (λ l. l ++ Var (variable y) ∷ []) u.words ∙ append_assoc given
          (map Var (variables x k)) (Var (variable y) ∷ []) ∙ ap (λ l. given ++ l) word;
      next = omega arith;
    }

-- ---- the arguments of a call, place by place

fetch_one : (at : ℕ) (ds : Decisions) (n : ℕ) (w : W.Word) (ws : List W.Word) (c : Code)
    → fetches_for n (drop at ds) (w ∷ ws) c ≡ field_fetches w n 0
    (new_variables_of (decision_at ds at))
    (fetches_for (n + new_variables_of (decision_at ds at)) (drop (suc at) ds) ws c)
fetch_one zero [] n w ws c = refl
fetch_one zero (d ∷ ds) n w ws c = refl
fetch_one (suc at) [] n w ws c = refl
fetch_one (suc at) (d ∷ ds) n w ws c = fetch_one at ds n w ws c

argument_one : (at : ℕ) (ds : Decisions) (n : ℕ) (w : W.Word) (ws : List W.Word)
    → arguments_for n (drop at ds) (w ∷ ws) ≡ argument_for n (decision_at ds at) w
    ++ arguments_for (n + new_variables_of (decision_at ds at)) (drop (suc at) ds) ws
argument_one zero [] n w ws = refl
argument_one zero (d ∷ ds) n w ws = refl
argument_one (suc at) [] n w ws = refl
argument_one (suc at) (d ∷ ds) n w ws = argument_one at ds n w ws

new_one : (at : ℕ) (ds : Decisions) (w : W.Word) (ws : List W.Word)
    → new_variables_for (drop at ds) (w ∷ ws) ≡ new_variables_of (decision_at ds at) +
    new_variables_for (drop (suc at) ds) ws
new_one zero [] w ws = refl
new_one zero (d ∷ ds) w ws = refl
new_one (suc at) [] w ws = refl
new_one (suc at) (d ∷ ds) w ws = new_one at ds w ws

fetch_none : (n : ℕ) (ds : Decisions) (c : Code) → fetches_for n ds [] c ≡ c
fetch_none n [] c = refl
fetch_none n (d ∷ ds) c = refl

argument_none : (n : ℕ) (ds : Decisions) → arguments_for n ds [] ≡ []
argument_none n [] = refl
argument_none n (d ∷ ds) = refl

new_none : (ds : Decisions) → new_variables_for ds [] ≡ 0
new_none [] = refl
new_none (d ∷ ds) = refl

-- the arguments at the places before this one
pub record ArgumentsSoFar (ds : Decisions) (ws : List W.Word) (at x y : ℕ) (old new : List Stmt)
    (args : List W.Word) : Type 0 where
  pub stmts : (c : Code) → all_before (map before_of new)
      (fetches_for y (drop at ds) (drop at ws) c) ≡ all_before (map before_of old)
      (fetches_for x ds ws c)
  pub words : args ++ arguments_for y (drop at ds) (drop at ws) ≡ arguments_for x ds ws
  pub next : y + new_variables_for (drop at ds) (drop at ws) ≡ x + new_variables_for ds ws

pub no_arguments : (ds : Decisions) (ws : List W.Word) (x : ℕ) (old : List Stmt)
    → ArgumentsSoFar ds ws 0 x x old old []
no_arguments ds ws x old = record { stmts = λ c. refl; words = refl; next = refl }

pub one_argument_more : (ds : Decisions) (ws : List W.Word) (at x y z : ℕ) (d : Option Raising)
    (u0 : W.Word) (old new newer : List Stmt) (args more : List W.Word) → at < length ws
    → d ≡ decision_at ds at
    → ArgumentsSoFar ds ws at x y old new args →
    ((c : Code) → all_before (map before_of newer) c ≡ all_before (map before_of new)
    (field_fetches (get_or ws at u0) y 0 (new_variables_of d) c)) → more ≡ args
    ++ argument_for y d (get_or ws at u0) → z ≡ y + new_variables_of d
    → ArgumentsSoFar ds ws (at + 1) x z old newer more
one_argument_more ds ws at x y z d u0 old new newer args more lt e u h f g =
    let w : W.Word = get_or ws at u0 in
    let next : suc at ≡ at + 1 = omega arith in
    let rest : drop at ws ≡ w ∷ drop (at + 1) ws = drop_more ws at u0 lt in
    let z' : z ≡ y + new_variables_of (decision_at ds at) = g ∙ ap (λ d. y + new_variables_of d) e
    in
    record {
      stmts = λ c.
          (λ i. all_before (map before_of newer)
          (fetches_for (z' i) (drop (sym next i) ds) (drop (at + 1) ws) c))
          ∙ h (fetches_for (y + new_variables_of (decision_at ds at)) (drop (suc at) ds)
          (drop (at + 1) ws) c)
          ∙ ap (λ d. all_before (map before_of new)
          (field_fetches w y 0 (new_variables_of d)
          (fetches_for (y + new_variables_of (decision_at ds at)) (drop (suc at) ds)
          (drop (at + 1) ws) c))) e
          ∙ ap (all_before (map before_of new)) (sym (fetch_one at ds y w (drop (at + 1) ws) c))
          ∙ ap (λ l. all_before (map before_of new) (fetches_for y (drop at ds) l c)) (sym rest) ∙
          u.stmts c;
      words =
          (λ i. f i ++ arguments_for (z' i) (drop (sym next i) ds) (drop (at + 1) ws))
          ∙ append_assoc args (argument_for y d w)
          (arguments_for (y + new_variables_of (decision_at ds at)) (drop (suc at) ds)
          (drop (at + 1) ws))
          ∙ ap (λ d. args ++
          (argument_for y d w ++ arguments_for (y + new_variables_of (decision_at ds at))
          (drop (suc at) ds) (drop (at + 1) ws))) e
          ∙ ap (λ l. args ++ l)
          (sym (argument_one at ds y w (drop (at + 1) ws)) ∙ ap (arguments_for y (drop at ds))
          (sym rest)) ∙ u.words;
      next =
          let count : new_variables_for (drop at ds) (drop at ws) ≡ new_variables_of
          (decision_at ds at) + new_variables_for (drop (suc at) ds) (drop (at + 1) ws)
          = ap (new_variables_for (drop at ds)) rest ∙ new_one at ds w (drop (at + 1) ws) in
          let same : new_variables_for (drop (at + 1) ds) (drop (at + 1) ws) ≡ new_variables_for
          (drop (suc at) ds) (drop (at + 1) ws)
          = ap (λ k. new_variables_for (drop k ds) (drop (at + 1) ws)) (sym next) in
          let before : y + new_variables_for (drop at ds) (drop at ws) ≡ x + new_variables_for ds ws
          = u.next in
          omega (arith, count, same, before, z');
    }

-- all of them
pub record AllArguments (ds : Decisions) (ws : List W.Word) (x y : ℕ) (old new : List Stmt)
    (args : List W.Word) : Type 0 where
  pub stmts : (c : Code) → all_before (map before_of new) c ≡ all_before (map before_of old)
      (fetches_for x ds ws c)
  pub words : args ≡ arguments_for x ds ws
  pub next : y ≡ x + new_variables_for ds ws

pub arguments_done : (ds : Decisions) (ws : List W.Word) (at x y : ℕ) (old new : List Stmt)
    (args : List W.Word) → length ws ≤ at → ArgumentsSoFar ds ws at x y old new args
    → AllArguments ds ws x y old new args
arguments_done ds ws at x y old new args le u =
    let end' : drop at ws ≡ [] = drop_all at ws le in
    record {
      stmts = λ c. ap (all_before (map before_of new))
          (sym (fetch_none y (drop at ds) c) ∙ ap (λ l. fetches_for y (drop at ds) l c) (sym end'))
          ∙ u.stmts c;
      words = sym (append-nil args) ∙ ap (λ l. args ++ l)
          (sym (argument_none y (drop at ds)) ∙ ap (arguments_for y (drop at ds)) (sym end')) ∙
          u.words;
      next =
          let none : new_variables_for (drop at ds) (drop at ws) ≡ 0
          = ap (new_variables_for (drop at ds)) end' ∙ new_none (drop at ds) in
          let all : y + new_variables_for (drop at ds) (drop at ws) ≡ x + new_variables_for ds ws
          = u.next in
          omega (arith, none, all);
    }

-- ---- parameters, place by place

param_one : (at : ℕ) (ds : Decisions) (x : VarId) (xs : List VarId)
    → raised_params (drop at ds) (x ∷ xs) ≡ raised_param (decision_at ds at) x
    ++ raised_params (drop (suc at) ds) xs
param_one zero [] x xs = refl
param_one zero (d ∷ ds) x xs = refl
param_one (suc at) [] x xs = refl
param_one (suc at) (d ∷ ds) x xs = param_one at ds x xs

param_none : (ds : Decisions) → raised_params ds [] ≡ []
param_none [] = refl
param_none (d ∷ ds) = refl

pub record ParamsSoFar (ds : Decisions) (xs : List VarId) (at : ℕ) (made : List VarId)
    : Type 0 where
  pub by : made ++ raised_params (drop at ds) (drop at xs) ≡ raised_params ds xs

pub one_param_more : (ds : Decisions) (xs : List VarId) (at : ℕ) (d : Option Raising) (x0 : VarId)
    (made more : List VarId) → at < length xs → d ≡ decision_at ds at → more ≡ made
    ++ raised_param d (get_or xs at x0)
    → ParamsSoFar ds xs at made → ParamsSoFar ds xs (at + 1) more
one_param_more ds xs at d x0 made more lt e f u =
    let x : VarId = get_or xs at x0 in
    let next : suc at ≡ at + 1 = omega arith in
    let rest : drop at xs ≡ x ∷ drop (at + 1) xs = drop_more xs at x0 lt in
    record {
      by = (λ i. f i ++ raised_params (drop (sym next i) ds) (drop (at + 1) xs))
          ∙ append_assoc made (raised_param d x)
          (raised_params (drop (suc at) ds) (drop (at + 1) xs))
          ∙ ap (λ d. made ++
          (raised_param d x ++ raised_params (drop (suc at) ds) (drop (at + 1) xs))) e
          ∙ ap (λ l. made ++ l)
          (sym (param_one at ds x (drop (at + 1) xs)) ∙ ap (raised_params (drop at ds))
          (sym rest)) ∙ u.by;
    }

pub params_done : (ds : Decisions) (xs : List VarId) (at : ℕ) (made : List VarId) → length xs ≤ at
    → ParamsSoFar ds xs at made → made ≡ raised_params ds xs
params_done ds xs at made le u = sym (append-nil made) ∙ ap (λ l. made ++ l)
    (sym (param_none (drop at ds)) ∙ ap (raised_params (drop at ds)) (sym (drop_all at xs le))) ∙
    u.by

-- ---- what is decided of a variable

same_both : (d : Option Raising) (b : Bool) → d ≡ cond b d d
same_both d true = refl
same_both d false = refl

decided_one : (at : ℕ) (ds : Decisions) (x : VarId) (xs : List VarId) (y : ℕ)
    → decided (drop at ds) (x ∷ xs) y ≡ cond (nat_eq x.0 y) (decision_at ds at)
    (decided (drop (suc at) ds) xs y)
decided_one zero [] x xs y = same_both None (nat_eq x.0 y)
decided_one zero (d ∷ ds) x xs y = refl
decided_one (suc at) [] x xs y = same_both None (nat_eq x.0 y)
decided_one (suc at) (d ∷ ds) x xs y = decided_one at ds x xs y

decided_none : (ds : Decisions) (y : ℕ) → decided ds [] y ≡ None
decided_none [] y = refl
decided_none (d ∷ ds) y = refl

-- no parameter before this place is the variable
pub record NotBefore (ds : Decisions) (xs : List VarId) (y at : ℕ) : Type 0 where
  pub by : decided (drop at ds) (drop at xs) y ≡ decided ds xs y

here_decided : (ds : Decisions) (xs : List VarId) (y at : ℕ) (x0 : VarId) → at < length xs
    → decided (drop at ds) (drop at xs) y ≡ cond (nat_eq (get_or xs at x0).0 y) (decision_at ds at)
    (decided (drop (at + 1) ds) (drop (at + 1) xs) y)
here_decided ds xs y at x0 lt =
    let next : suc at ≡ at + 1 = omega arith in
    ap (λ l. decided (drop at ds) l y) (drop_more xs at x0 lt) ∙ decided_one at ds (get_or xs at x0)
    (drop (at + 1) xs) y
    ∙ ap (λ k. cond (nat_eq (get_or xs at x0).0 y) (decision_at ds at)
    (decided (drop k ds) (drop (at + 1) xs) y)) next

pub decided_here : (ds : Decisions) (xs : List VarId) (y at : ℕ) (x0 : VarId) (d : Option Raising)
    (b : Bool) → at < length xs → b ≡ nat_eq (get_or xs at x0).0 y → b ≡ true
    → d ≡ decision_at ds at → NotBefore ds xs y at → d ≡ decided ds xs y
decided_here ds xs y at x0 d b lt e t f u =
    f ∙ sym (ap (λ c. cond c (decision_at ds at) (decided (drop (at + 1) ds) (drop (at + 1) xs) y))
    (sym e ∙ t)) ∙ sym (here_decided ds xs y at x0 lt) ∙ u.by

pub decided_later : (ds : Decisions) (xs : List VarId) (y at : ℕ) (x0 : VarId) (b : Bool)
    → at < length xs → b ≡ nat_eq (get_or xs at x0).0 y → b ≡ false → NotBefore ds xs y at
    → NotBefore ds xs y (at + 1)
decided_later ds xs y at x0 b lt e f u = record {
  by = sym (ap (λ c. cond c (decision_at ds at) (decided (drop (at + 1) ds) (drop (at + 1) xs) y))
      (sym e ∙ f)) ∙ sym (here_decided ds xs y at x0 lt) ∙ u.by;
}

pub decided_nowhere : (ds : Decisions) (xs : List VarId) (y at : ℕ) → length xs ≤ at
    → NotBefore ds xs y at → None ≡ decided ds xs y
decided_nowhere ds xs y at le u = sym (decided_none (drop at ds) y) ∙ ap
    (λ l. decided (drop at ds) l y) (sym (drop_all at xs le)) ∙ u.by
