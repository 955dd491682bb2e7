-- In each procedure of a translated program each variable is bound before its uses.
use Rattle.std.proofs.Common.{◌≡◌, ℕ, suc, ◌+◌, ◌<◌, true, List, [], ◌∷◌, map, length, codes, Some, slice_get, sym, subst, arith}
use Rattle.std.proofs.lemmas.List.{length-map}
use Rattle.seq.proofs.Lists.{all_get, all_append}
use Rattle.arity_check.specs.declared.normal.Var.TheVariants.{Local}
use Rattle.arity_check.specs.declared.normal.Flat.TheVariants as flat
use Rattle.arity_check.specs.Program.{Program, Function}
use Rattle.core_meaning.specs.Evaluation.{params, params_of, nil, cons}
use Rattle.grin_syntax.specs.Binders.{numbers_of}
use Rattle.grin_syntax.specs.Tree.{Code}
use Rattle.grin_syntax.specs.Formed.{AllOf, Scope, InScope, ActFormed, CodeFormed, ProcedureFormed}
use Rattle.grin_translate.specs.declared.tags.Delay.{Delay}
use Rattle.grin_translate.specs.declared.tags.Delay.TheVariants.{Calls, Applies, Operates, Reads}
use Rattle.grin_translate.specs.Tags.{delays_in, is_delayed, takes_input, delays, delay_params}
use Rattle.grin_translate.specs.Blocks.{local, temp}
use Rattle.grin_translate.specs.Translation.{procedure, fun_body, delay_body, span, delayed_procs, rest, write_block, print_body, start_body, tr}
use Rattle.grin_translate.specs.WellFormed.{FunOk, VarOk, WellFormed}
use Rattle.grin_translate.proofs.Found.{has_calls, has_reads}
use Rattle.grin_translate.proofs.Expressions.{any_has, Waits}
use Rattle.grin_syntax.proofs.Scopes.{first_in}
use Rattle.translated_form.proofs.Lists.{all_if, all_numbers, all_mapped}
use Rattle.translated_form.proofs.Delays.{IsThere, all_there}
use Rattle.translated_form.proofs.Scopes.{in_later, scoped_params}
use Rattle.translated_form.proofs.Named.{number_known, constructor_known, waits_known, print_known}
use Rattle.translated_form.proofs.Blocks.{on_number_formed, form_formed, block_formed}
use Rattle.grin_translate.proofs.Entered.{has_at}
use Rattle.seq.specs.Lists.{numbers_from}
use Rattle.seq.proofs.Counted.{length_numbers}

module _ (p : Program) where
  waits_all : (f : ℕ) (fun : Function) → slice_get p.funs f ≡ Some fun → Waits p fun.body
  unfolding is_delayed
  waits_all f fun e d h = any_has (λ g. delays_in d g.body) p.funs fun (has_at p.funs f fun e) h

  module _ (ok : WellFormed p) where
    -- in the scope of so many parameters
    abbrev BodyFormed : ℕ → ℕ → Code → Type 0
    BodyFormed base n b = CodeFormed (tr p)
        (record { nodes = []; words = numbers_of (map (local p base) (numbers_from 0 n)) }) b

    fun_formed : (f base : ℕ) (fun : Function) → slice_get p.funs f ≡ Some fun
        → BodyFormed base (params p f) (fun_body p base (slice_get p.funs f))
    fun_formed f base fun e =
        subst (λ o. BodyFormed base (params_of p o) (fun_body p base o)) (sym e)
        (block_formed p base fun.body 0 (λ x. x < fun.params) _ (scoped_params p base fun.params)
        (all_get (FunOk p) p.funs f fun ok.bodies e) (waits_all f fun e))

    apply_formed : (m base : ℕ) → m < 13 → BodyFormed base (suc m) (delay_body p base (Applies m))
    apply_formed m base few =
        let S : ℕ → Type 0 = λ x. x < suc m in
        let many : length (map Local (numbers_from 1 m)) ≡ length (numbers_from 1 m)
        = length-map (numbers_from 1 m) Local in
        let all : AllOf (VarOk p S) (map Local (numbers_from 1 m))
        = all_mapped (VarOk p S) Local (numbers_from 1 m)
        (all_numbers S m 1 (λ x le lt. omega (arith, lt))) in
        form_formed p base (flat.Apply (Local 0) (map Local (numbers_from 1 m))) 0 S _
        (scoped_params p base (suc m))
        (omega (arith, many, length_numbers 1 m, few), omega arith, all)

    operate_formed : (op : _) (base : ℕ) → BodyFormed base 2 (delay_body p base (Operates op))
    operate_formed op base = form_formed p base (flat.Prim op (Local 0) (Local 1)) 0 (λ x. x < 2) _
        (scoped_params p base 2) (omega arith, omega arith)

    input_formed : (base : ℕ) → takes_input p ≡ true → BodyFormed base 0 (delay_body p base Reads)
    unfolding ActFormed
    input_formed base reads =
        let byte : ℕ = (temp p base 0).0 in
        let value : ℕ = (temp p base 1).0 in
        let head : ℕ = (local p base 0).0 in
        let tail : ℕ = (local p base 1).0 in
        let s1 : List ℕ = byte ∷ [] in
        let s2 : List ℕ = tail ∷ s1 in
        let number_cell : InScope (head ∷ s2) byte = in_later byte head s2
        (in_later byte tail s1 (first_in byte [])) in
        let pair : InScope (head ∷ s2) tail = in_later tail head s2 (first_in tail s1) in (
          tt,
          (
            (number_known p, (first_in byte [], tt)),
            (
              first_in value [],
              (
                tt,
                (constructor_known p (nil p) 0 ok.nil_fields, tt),
                (
                  tt,
                  (
                    (
                      (number_known p, (number_cell, tt)),
                      ((waits_known p Reads (has_reads p reads), tt), tt),
                    ),
                    (
                      constructor_known p (cons p) 2 ok.cons_fields,
                      (first_in head s2, (pair, tt)),
                    ),
                  ),
                  tt,
                ),
              ),
            ),
          ),
        )

    delay_formed : (d : Delay) (base : ℕ) → IsThere p d
        → BodyFormed base (delay_params p d) (delay_body p base d)
    delay_formed (Calls f) base there = fun_formed f base there.0 there.1
    delay_formed (Applies m) base there = apply_formed m base there
    delay_formed (Operates op) base there = operate_formed op base
    delay_formed Reads base there = input_formed base there

    print_formed : (base : ℕ) → BodyFormed base 1 (print_body p base)
    unfolding ActFormed
    print_formed base =
        let list : ℕ = (local p base 0).0 in
        let value : ℕ = (temp p base 0).0 in
        let head : ℕ = (temp p base 1).0 in
        let tail : ℕ = (temp p base 2).0 in
        let node : ℕ = (temp p base 3).0 in
        let number : ℕ = (temp p base 4).0 in
        let s0 : List ℕ = list ∷ [] in
        let s1 : List ℕ = tail ∷ s0 in
        let s2 : List ℕ = head ∷ s1 in
        let scope : Scope = record { nodes = node ∷ (value ∷ []); words = s2 } in (
          first_in list [],
          (
            first_in value [],
            (
              constructor_known p (nil p) 0 ok.nil_fields,
              (constructor_known p (nil p) 0 ok.nil_fields, tt),
              (
                constructor_known p (cons p) 2 ok.cons_fields,
                (
                  first_in head s1,
                  on_number_formed p base (temp p base 3) (temp p base 4) (write_block p base) scope
                      (first_in node (value ∷ [])) (
                        first_in number s2,
                        (
                          print_known p,
                          (
                            in_later tail number s2 (in_later tail head s1 (first_in tail s0)),
                            tt,
                          ),
                        ),
                      ),
                ),
                (tt, tt, tt),
              ),
            ),
          ),
        )

    start_formed : (base : ℕ) → takes_input p ≡ true → BodyFormed base 0 (start_body p base)
    unfolding ActFormed
    start_formed base reads =
        let input : ℕ = (local p base 0).0 in
        let main : ℕ = (local p base 1).0 in
        let s1 : List ℕ = main ∷ [] in (
          (
            (waits_known p Reads (has_reads p reads), tt),
            (
              (
                waits_known p (Calls p.main) (has_calls p p.main ok.main.0 ok.main.1),
                (first_in input s1, tt),
              ),
              tt,
            ),
          ),
          (print_known p, (in_later main input s1 (first_in main []), tt)),
        )

    delayed_formed : (ds : List Delay) (base : ℕ) → AllOf (IsThere p) ds
        → AllOf (ProcedureFormed (tr p)) (delayed_procs p base ds)
    delayed_formed [] base a = tt
    delayed_formed (d ∷ ds) base a =
        (delay_formed d base a.0, delayed_formed ds (base + span p d) a.1)

    pub procedures_formed : AllOf (ProcedureFormed (tr p)) (tr p).procs
    procedures_formed =
        all_append (ProcedureFormed (tr p)) (delayed_procs p (length p.funs) (delays p)) _
        (delayed_formed (delays p) (length p.funs) (all_there p)) (
          print_formed (rest p),
          all_if (ProcedureFormed (tr p)) (takes_input p)
              (procedure p (rest p + 10) (codes "@start") 0 (start_body p (rest p + 10)))
              (start_formed (rest p + 10)),
        )
