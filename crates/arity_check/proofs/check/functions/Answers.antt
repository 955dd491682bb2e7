use Rattle.std.proofs.Common.{◌≡◌, ℕ, ◌+◌, List, [], ◌∷◌, ◌++◌, map, take, length, sym, ap, ◌∙◌, subst, arith}
use Rattle.std.specs.Prelude.{false}
use Rattle.std.specs.List.{All}
use Rattle.std.proofs.lemmas.List.{take_more, map-append}
use Rattle.core_reader.specs.declared.syntax.Function.{Function}
use Rattle.core_reader.specs.Tree.{Program, function, program}
use Rattle.core_reader.specs.Readable.{ReadableFunction, IsName}
use Rattle.arity_check.specs.Program as normal
use Rattle.arity_check.specs.Tables.{known}
use Rattle.arity_check.specs.Whole.{functions_faults}
use Rattle.arity_check.specs.Normal.{Pairwise, IsFunction}
use Rattle.arity_check.proofs.Finish.{pairwise_snoc, all_at, text_within, function_sound}
use Rattle.arity_check.proofs.check.functions.Goals as goal

pub function-requires-clause-name : goal.function-requires-clause-name
function-requires-clause-name c =
    let names : List (List ℕ) = c.args.core.now.names in
    let items : List Function = c.as_slice-function-items.result.now in
    let x : Function = c.function-item.result in
    let r : ReadableFunction names (function x) =
    all_at (ReadableFunction names) function items c.loop-function.function-index x
    (subst (λ fs. All (ReadableFunction names) (map function fs))
    (sym c.as_slice-function-items.ensures) c.requires.names) (omega arith) c.function-item.is
    in
    let w = text_within names IsName x.name.0 r.0 in
    let s = ap length c.texts-names.ensures in
    omega (arith, w, s)

pub function-requires-clause-body : goal.function-requires-clause-body
function-requires-clause-body c =
    function_sound (known c.args.globals.now) 0 (λ x. false) c.as_slice-function-items.result.now
    c.loop-function.function-index c.function-item.result (omega arith) c.function-item.is
    (ap (λ fs. functions_faults (known c.args.globals.now) [] 0 (λ x. false) (map function fs))
    c.as_slice-function-items.ensures ∙ c.requires.faults)

pub loop-function-preserved : goal.loop-function-preserved
loop-function-preserved c =
    let p : Program = program c.args.core.now in
    let i : ℕ = c.loop-function.function-index in
    let items : List Function = c.as_slice-function-items.result.now in
    let x : Function = c.function-item.result in
    let f = c.in_ok-fun.fun in
    let place : take (i + 1) items ≡ take i items ++ x ∷ []
    = take_more items i x (omega arith) ∙ ap (λ y. take i items ++ y ∷ [])
    (sym c.function-item.is) in
    let all : map function (take (i + 1) items) ≡ map function (take i items) ++ function x ∷ []
    = ap (map function) place ∙ map-append function (take i items) (x ∷ []) in
    let made : map normal.function c.push.new.self ≡ map normal.function c.loop-function.funs
    ++ normal.function f ∷ [] = ap (map normal.function) c.in_ok-push.ensures.ok ∙ map-append
    normal.function c.loop-function.funs (f ∷ []) in
    let is : IsFunction p (function x) (normal.function f)
    = c.in_ok-fun.ensures p c.requires.tables (sym c.texts-names.ensures) in
    let more = pairwise_snoc (IsFunction p) (map function (take i items))
    (map normal.function c.loop-function.funs) (function x) (normal.function f)
    c.loop-function.invariant is in
    subst (λ fs. Pairwise (IsFunction p) fs (map normal.function c.push.new.self)) (sym all)
    (subst (λ gs. Pairwise (IsFunction p) (map function (take i items) ++ function x ∷ []) gs)
    (sym made) more)
